-- What the functions that pass over kept tokens ask and promise.
use Rattle.std.specs.Prelude.{List, ℕ, ◌+◌, ◌≤◌, length}
use Rattle.spec_grammar.specs.declared.Role.{Role}
use Rattle.spec_grammar.specs.declared.Role.TheVariants.{RuleWord}
use Rattle.spec_grammar.specs.Codes.{role_number}
use Rattle.load_spans.specs.declared.Tokens.{Tokens}
use Rattle.load_spans.specs.Roles.{RoleCode}
use Rattle.load_flags.specs.Tokens.{cut}
use Rattle.load_records.specs.declared.Cursor.{Cursor}
use Rattle.load_records.specs.Work.{Work}
use Rattle.load_records.specs.Cursor.{Bounded, Emitted}
use Rattle.load_passes.specs.Source.{names_of, part_of}
use Rattle.load_passes.specs.Pass.{emits, moves, refer_emits, refer_moves, rule_emits, rule_moves}

-- ---- bounds of the cursor where a pass, the passes of one rule, and those of all rules begin

abbrev pub pass_limit : ℕ
pass_limit = 562949953421312

abbrev pub rule_limit : ℕ
rule_limit = 375299968947541

abbrev pub references_limit : ℕ
references_limit = 281474976710656

-- a pass over as many tokens as there may be moves the cursor by no more than this
abbrev pub pass_reach : ℕ
pass_reach = 1073741824

-- ---- passes

-- what is asked where a pass starts; q: the role; m: that of what belongs to each token; to: where the part ends
pub record Start (t : Tokens) (to : ℕ) (q m : Role) (p : Cursor) : Type 0 where
  pub within : to ≤ length t.list.now
  pub head : RoleCode (role_number q)
  pub part : RoleCode (role_number m)
  pub bounded : Bounded pass_limit p

-- the tokens of a role in a part are written for, and the cursor moves by no more than a pass reaches; names: the tokens by whose texts
-- references are numbered
pub record Passed (w : Work) (q m : Role) (names : List ℕ) (t : Tokens) (from to : ℕ) (b c : List ℕ) (p r : Cursor) : Type 0 where
  pub emitted : Emitted b c p (emits q m (names_of t names) w (part_of t from to) p) (moves q m (names_of t names) w (part_of t from to) p) r
  pub bounded : (k : ℕ) → Bounded k p → Bounded (k + pass_reach) r

-- ---- references

-- those of the rule that the i-th token begins
abbrev pub RulePassed : Work → Tokens → List ℕ → List ℕ → ℕ → List ℕ → List ℕ → Cursor → Cursor → Type 0
RulePassed w t uags hags i b c p r =
    let ys = cut RuleWord (part_of t (i + 1) (length t.list.now)) in
    Emitted b c p (rule_emits w (names_of t uags) (names_of t hags) ys p) (rule_moves w (names_of t uags) (names_of t hags) ys p) r

-- and those of all rules
abbrev pub ReferencesPassed : Work → Tokens → List ℕ → List ℕ → ℕ → List ℕ → List ℕ → Cursor → Cursor → Type 0
ReferencesPassed w t uags hags from b c p r =
    let xs = part_of t from (length t.list.now) in
    Emitted b c p (refer_emits w (names_of t uags) (names_of t hags) xs p) (refer_moves w (names_of t uags) (names_of t hags) xs p) r

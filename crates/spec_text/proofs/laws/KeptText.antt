-- A file without its places has the same text; what a table keeps of a file has the same faults, and its strings can be quoted as well.
use Rattle.std.specs.Prelude.{◌≡◌, refl, Bool, true, false, cond, not, ◌||◌, List, [], ◌∷◌, ◌++◌, map, ℕ, ◌+◌, eqb}
use Rattle.std.proofs.Common.{ap, ◌∙◌, sym, arith, ne_eqb}
use Rattle.spec_lists.specs.Text.{bytes, same, among, capital, lower_byte, lowered}
use Rattle.spec_lists.specs.Select.{any, nonempty, joined}
use Rattle.spec_lists.proofs.laws.Alike.{map_same}
use Rattle.spec_lists.proofs.laws.Any.{any_map, any_same, nonempty_map}
use Rattle.spec_lists.proofs.laws.Every.{every_implies, every_map}
use Rattle.spec_lists.proofs.laws.Joined.{map_map}
use Rattle.spec_lists.proofs.laws.Range.{bounded}
-- passed on to the laws of an export, whose crate names no calculation
pub use Rattle.spec_calc.proofs.laws.Theorem.{no_empty}
use Rattle.spec_token.specs.Token.{BetweenQuotes, nothing, stringchar, escape}
use Rattle.spec_file.specs.Contents.{Group, RuleText, Asg, File}
use Rattle.spec_file.specs.Meaning.{switched_off}
use Rattle.spec_text.specs.Lines.{headed, rule_head, reference_line, calculation_line, unknown_line, rule_lines, asg_lines, called, quoted, link_line}
use Rattle.spec_text.specs.Lines.{group_lines, ended, text_of}
use Rattle.spec_text.specs.Faults.{nowhere_defined, calculation_faulty, rule_faulty, repeated, letters_of, asg_faulty, defines_nothing, faulty}
use Rattle.spec_text.proofs.laws.Keeps.{GroupOf, AsgOf, Quotable}
use Rattle.spec_text.proofs.laws.Unplaced.{unplaced_rule, unplaced_asg, unplaced, lowered_group, kept}

-- ---- the text

-- one place stands for all of them
pub still_off : (r : RuleText) → switched_off (unplaced_rule r) ≡ switched_off r
still_off r = go (switched_off r)
  where
    go : (b : Bool) → nonempty {A = ℕ} (cond b (0 ∷ []) []) ≡ b
    go true = refl
    go false = refl

-- what is read alike of each element and of what it became is read alike of the lists
pub read_alike : {A B C : Type 0} (g : B → C) (h : A → C) (f : A → B) → ((x : A) → g (f x) ≡ h x) → (xs : List A) → map g (map f xs) ≡ map h xs
read_alike g h f e xs = map_map g f xs ∙ map_same e xs

same_rule_lines : (r : RuleText) → rule_lines (unplaced_rule r) ≡ rule_lines r
same_rule_lines r =
    ap
    (λ (b : Bool).
    headed
    (rule_head r)
    (reference_line (bytes "UAG") r.uags ++ (reference_line (bytes "HAG") r.hags ++ (calculation_line r.calculation ++ unknown_line b))))
    (still_off r)

same_asg_lines : (a : Asg) → asg_lines (unplaced_asg a) ≡ asg_lines a
same_asg_lines a =
    ap
    (λ (ls : List (List (List ℕ))). headed (called (bytes "ASG") (quoted a.name)) (map link_line a.inputs ++ joined ls))
    (read_alike rule_lines rule_lines unplaced_rule same_rule_lines a.rules)

pub same_text : (f : File) → text_of (unplaced f) ≡ text_of f
unfolding text_of
same_text f =
    ap
    (λ (ls : List (List (List ℕ))).
    ended (joined (map (group_lines (bytes "UAG")) f.uags) ++ (joined (map (group_lines (bytes "HAG")) f.hags) ++ joined ls)))
    (read_alike asg_lines asg_lines unplaced_asg same_asg_lines f.asgs)

-- ---- the faults

any_alike : {A : Type 0} (p q : A → Bool) (f : A → A) → ((x : A) → p (f x) ≡ q x) → (xs : List A) → any p (map f xs) ≡ any q xs
any_alike p q f e xs = any_map p f xs ∙ any_same (λ x. p (f x)) q e xs

pub same_definitions : (f : File) → defines_nothing (kept f) ≡ defines_nothing f
same_definitions f = rw (nonempty_map lowered_group f.hags, nonempty_map unplaced_asg f.asgs)

module _ (f : File) where
  same_rule_faults : (given : List ℕ) (r : RuleText) → rule_faulty (kept f) given (unplaced_rule r) ≡ rule_faulty f given r
  same_rule_faults given r =
      ap
      (λ (b : Bool). any (nowhere_defined f.uags) r.uags || (b || calculation_faulty given r.calculation))
      (any_same
      (nowhere_defined (map lowered_group f.hags))
      (nowhere_defined f.hags)
      (λ s. ap not (any_map (λ g. same g.name s) lowered_group f.hags))
      r.hags)

  same_asg_faults : (a : Asg) → asg_faulty (kept f) (unplaced_asg a) ≡ asg_faulty f a
  same_asg_faults a =
      ap
      (λ (b : Bool). repeated eqb (letters_of a) || b)
      (any_alike (rule_faulty (kept f) (letters_of a)) (rule_faulty f (letters_of a)) unplaced_rule (same_rule_faults (letters_of a)) a.rules)

  pub same_faults : faulty (kept f) ≡ faulty f
  same_faults =
      rw (
        same_definitions f,
        map_map (λ g. g.name) lowered_group f.hags,
        map_map (λ a. a.name) unplaced_asg f.asgs,
        any_alike (asg_faulty (kept f)) (asg_faulty f) unplaced_asg same_asg_faults f.asgs,
      )

-- ---- a file without its places

pub unplaced_again : (f : File) → kept (unplaced f) ≡ kept f
unplaced_again f =
    ap (λ (l : List Asg). record { uags = f.uags; hags = map lowered_group f.hags; asgs = l }) (read_alike unplaced_asg unplaced_asg unplaced_asg asg_again f.asgs)
  where
    rule_again : (r : RuleText) → unplaced_rule (unplaced_rule r) ≡ unplaced_rule r
    rule_again r = rw (still_off r) refl

    asg_again : (a : Asg) → unplaced_asg (unplaced_asg a) ≡ unplaced_asg a
    asg_again a =
        ap (λ (l : List RuleText). record { name = a.name; inputs = a.inputs; rules = l })
        (read_alike unplaced_rule unplaced_rule unplaced_rule rule_again a.rules)

pub unplaced_faults : (f : File) → faulty (unplaced f) ≡ faulty f
unplaced_faults f = sym (same_faults (unplaced f)) ∙ (ap faulty (unplaced_again f) ∙ same_faults f)

pub unplaced_definitions : (f : File) → defines_nothing (unplaced f) ≡ defines_nothing f
unplaced_definitions f = sym (same_definitions (unplaced f)) ∙ (ap defines_nothing (unplaced_again f) ∙ same_definitions f)

-- ---- the strings

-- no letter ends a quoted text or escapes in it
lowered_char : (b : ℕ) → among "\"\\\n" b ≡ false → among "\"\\\n" (lower_byte b) ≡ false
lowered_char b h = go (capital b) refl
  where
    go : (t : Bool) → capital b ≡ t → among "\"\\\n" (cond t (b + 32) b) ≡ false
    go true e =
        let z = bounded 65 90 b e in
        rw (ne_eqb (b + 32) 34 (λ q. omega arith), ne_eqb (b + 32) 92 (λ q. omega arith), ne_eqb (b + 32) 10 (λ q. omega arith))
    go false e = h

pub lowered_between : {s : List ℕ} → BetweenQuotes s → BetweenQuotes (lowered s)
lowered_between nothing = nothing
lowered_between (stringchar {b = b} h q) = stringchar (lowered_char b h) (lowered_between q)
lowered_between (escape q) = escape (lowered_between q)

pub quotable_kept : (f : File) → Quotable f → Quotable (kept f)
quotable_kept f q =
    record {
      uags = q.uags;
      hags = every_map lowered_group (every_implies lowered_quotable q.hags);
      asgs = every_map unplaced_asg (every_implies unplaced_quotable q.asgs);
    }
  where
    lowered_quotable : (g : Group) → GroupOf BetweenQuotes BetweenQuotes g → GroupOf BetweenQuotes BetweenQuotes (lowered_group g)
    lowered_quotable g w = record { name = w.name; members = every_map lowered (every_implies (λ s. lowered_between {s = s}) w.members) }

    unplaced_quotable : (a : Asg) → AsgOf BetweenQuotes BetweenQuotes a → AsgOf BetweenQuotes BetweenQuotes (unplaced_asg a)
    unplaced_quotable a w =
        record {
          name = w.name;
          inputs = w.inputs;
          rules =
              every_map
              unplaced_rule
              (every_implies (λ r v. record { uags = v.uags; hags = v.hags; calculation = v.calculation }) w.rules);
        }

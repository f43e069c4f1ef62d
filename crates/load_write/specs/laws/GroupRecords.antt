-- The passes of groups, members and access groups write the records of these; the passes of texts, the texts.
use Rattle.std.specs.Prelude.{true, false, ◌≡◌, refl, ℕ, ◌+◌, suc, length}
use mathlib.Core.List.{List, [], ◌∷◌, ◌++◌, map}
use Rattle.std.proofs.Math.Path.{sym}
use Rattle.std.proofs.Common.{ap, ◌∙◌}
use native.Mathlib.Omega.{arith}
use Rattle.std.proofs.Math.ListN.{length-append}
use Rattle.std.proofs.lemmas.List.{length-map}
use Rattle.spec_lists.specs.Runs.{runs}
use Rattle.spec_lists.specs.Select.{joined, beside, beside₃}
use Rattle.spec_lists.specs.Text.{lowered}
use Rattle.spec_lists.specs.Words.{spelled_out}
use Rattle.spec_grammar.specs.declared.Role.{Role}
use Rattle.spec_grammar.specs.declared.Role.TheVariants.{Input, RuleWord, AsgName}
use Rattle.spec_grammar.specs.Sentence.{Tagged}
use Rattle.spec_file.specs.Contents.{has_role, text, texts, groups, until, clauses, links, rule_text, asg}
use Rattle.spec_table.specs.Written.{run_words}
use Rattle.load_flags.specs.Tokens.{size}
use Rattle.load_records.specs.declared.Cursor.{Cursor}
use Rattle.load_records.specs.Work.{Work}
use Rattle.load_records.specs.Work.{Groups, Names, Access, Texts, Lowered}
use Rattle.load_records.specs.Record.{emit, move, named}
use Rattle.load_passes.specs.Pass.{each_emits, each_moves, emits, moves}
use Rattle.load_passes.specs.laws.Each.{by_says}

module _ (q m : Role) (names : List (List ℕ)) (w : Work) where
  -- what begins with nothing and goes on token by token as the pass does is what the pass writes
  pub emits_by :
      (f : List Tagged → Cursor → List ℕ) → ((p : Cursor) → f [] p ≡ [])
      → ((x : Tagged) (xs : List Tagged) (p : Cursor) → has_role q x ≡ true → f (x ∷ xs) p ≡ emit q m names w x xs p ++ f xs (move q m names w x xs p))
      → ((x : Tagged) (xs : List Tagged) (p : Cursor) → has_role q x ≡ false → f (x ∷ xs) p ≡ f xs p)
      → (xs : List Tagged) (p : Cursor) → emits q m names w xs p ≡ f xs p
  unfolding each_emits
  emits_by f none hit miss [] p = sym (none p)
  emits_by f none hit miss (x ∷ xs) p =
      by_says
      q
      x
      (λ h. rw h (ap (λ (l : List ℕ). emit q m names w x xs p ++ l) (emits_by f none hit miss xs (move q m names w x xs p)) ∙ sym (hit x xs p h)))
      (λ h. rw h (emits_by f none hit miss xs p ∙ sym (miss x xs p h)))

  -- where each record names its own text, the offset moves by the texts
  pub moves_string :
      ((x : Tagged) (xs : List Tagged) → named q m names w x xs ≡ length (text x)) → (xs : List Tagged) (p : Cursor)
      → (moves q m names w xs p).string ≡ p.string + length (joined (texts q xs))
  unfolding each_moves
  moves_string e [] p = omega arith
  moves_string e (x ∷ xs) p =
      by_says
      q
      x
      (λ h. rw h (omega (arith, e x xs, moves_string e xs (move q m names w x xs p), length-append (text x) (joined (texts q xs)))))
      (λ h. rw h (moves_string e xs p))

-- ---- the records

pub groups_bytes :
    (q m : Role) (xs : List Tagged) (p : Cursor)
    → emits q m [] Groups xs p
    ≡ spelled_out
    (joined
    (beside (λ name run. run_words name ++ run_words run) (runs p.string (texts q xs)) (runs p.first (map (λ g. g.members) (groups q m xs)))))
groups_bytes q m =
    emits_by
    q
    m
    []
    Groups
    (λ xs p.
    spelled_out
    (joined
    (beside (λ name run. run_words name ++ run_words run) (runs p.string (texts q xs)) (runs p.first (map (λ g. g.members) (groups q m xs))))))
    (λ p. refl)
    (λ x xs p h. rw h)
    (λ x xs p h. rw h)

-- the first runs of groups move on by their members
pub groups_first :
    (q m : Role) (xs : List Tagged) (p : Cursor)
    → (moves q m [] Groups xs p).first ≡ p.first + length (joined (map (λ g. g.members) (groups q m xs)))
unfolding each_moves
groups_first q m [] p = omega arith
groups_first q m (x ∷ xs) p =
    by_says
    q
    x
    (λ h.
    rw h
    (omega (
      arith,
      groups_first q m xs (move q m [] Groups x xs p),
      length-append (texts m (until q xs)) (joined (map (λ g. g.members) (groups q m xs))),
    )))
    (λ h. rw h (groups_first q m xs p))

pub names_bytes : (q : Role) (xs : List Tagged) (p : Cursor) → emits q q [] Names xs p ≡ spelled_out (joined (map run_words (runs p.string (texts q xs))))
names_bytes q =
    emits_by
    q
    q
    []
    Names
    (λ xs p. spelled_out (joined (map run_words (runs p.string (texts q xs)))))
    (λ p. refl)
    (λ x xs p h. rw h)
    (λ x xs p h. rw h)

-- a part for each token of a role
pub clauses_size : (q : Role) (xs : List Tagged) → length (clauses q xs) ≡ size q xs
clauses_size q [] = refl
clauses_size q (x ∷ xs) = by_says q x (λ h. rw h (ap suc (clauses_size q xs))) (λ h. rw h (clauses_size q xs))

links_size : (xs : List Tagged) → length (links xs) ≡ size Input xs
links_size xs = length-map (clauses Input xs) _ ∙ clauses_size Input xs

rules_size : (xs : List Tagged) → length (map (λ r. rule_text r.body) (clauses RuleWord xs)) ≡ size RuleWord xs
rules_size xs = length-map (clauses RuleWord xs) _ ∙ clauses_size RuleWord xs

pub access_bytes :
    (xs : List Tagged) (p : Cursor)
    → emits AsgName AsgName [] Access xs p
    ≡ spelled_out
    (joined
    (beside₃
    (λ name i r. run_words name ++ (run_words i ++ run_words r))
    (runs p.string (texts AsgName xs))
    (runs p.first (map (λ a. a.inputs) (map asg (clauses AsgName xs))))
    (runs p.second (map (λ a. a.rules) (map asg (clauses AsgName xs))))))
access_bytes =
    emits_by
    AsgName
    AsgName
    []
    Access
    (λ xs p.
    spelled_out
    (joined
    (beside₃
    (λ name i r. run_words name ++ (run_words i ++ run_words r))
    (runs p.string (texts AsgName xs))
    (runs p.first (map (λ a. a.inputs) (map asg (clauses AsgName xs))))
    (runs p.second (map (λ a. a.rules) (map asg (clauses AsgName xs)))))))
    (λ p. refl)
    (λ x xs p h. rw (h, links_size (until AsgName xs), rules_size (until AsgName xs)))
    (λ x xs p h. rw h)

-- ---- the strings

pub texts_bytes : (q : Role) (xs : List Tagged) (p : Cursor) → emits q q [] Texts xs p ≡ joined (texts q xs)
texts_bytes q = emits_by q q [] Texts (λ xs p. joined (texts q xs)) (λ p. refl) (λ x xs p h. rw h) (λ x xs p h. rw h)

pub lowered_bytes : (q : Role) (xs : List Tagged) (p : Cursor) → emits q q [] Lowered xs p ≡ joined (map lowered (texts q xs))
lowered_bytes q = emits_by q q [] Lowered (λ xs p. joined (map lowered (texts q xs))) (λ p. refl) (λ x xs p h. rw h) (λ x xs p h. rw h)

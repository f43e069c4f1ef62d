-- The later edition, which knows every predicate. 01, "The later edition". It reads the text of a file; no table stands here.
use Rattle.std.specs.Prelude.{◌≡◌, Bool, true, false, List, ℕ}
use Rattle.std.proofs.Math.Option.{none, some}
use Rattle.spec_lists.specs.Every.{Every}
use Rattle.spec_grammar.specs.declared.Role.TheVariants.{UnknownPredicate}
use Rattle.spec_grammar.specs.Sentence.{Tagged}
use Rattle.spec_rule.specs.declared.Access.{Access}
use Rattle.spec_rule.specs.declared.Access.TheVariants as access
use Rattle.spec_rule.specs.Question.{Question, Valid}
use Rattle.spec_rule.specs.Privilege.{Some, Answers, Asks, Greatest}
use Rattle.spec_file.specs.Contents.{has_role, place, RuleText, Asg, File, file_of}
use Rattle.spec_file.specs.Meaning.{rule_in}

-- "a yes or no for each unknown predicate"; "each place, at each question, has an answer of its own"
abbrev pub Edition : Type 0
Edition = ℕ → Question → Bool

-- "a rule of it passes if each unknown predicate in it gets yes and what is asked there of level, user, host (members lowered too)
-- and calculation holds by the file"
pub record PassesLater (e : Edition) (q : Question) (f : File) (r : RuleText) : Type 0 where
  pub yes : Every (λ p. e p q ≡ true) r.unknown
  pub asked : Asks q (rule_in f r)

-- the access a that the edition e gives the question q by what the tokens xs say
pub data Later (e : Edition) (xs : List Tagged) (q : Question) : Access → Type 0 where
  -- "A question refused for its own parts, as by 21, gets NONE.": by 26 too
  refused : (Valid q → ⊥) → Later e xs q access.None
  -- "Else the ASG is found as under The question"; "The access is the greatest passing permission, else NONE."
  by_group :
      {g : Asg} {a : Access} → Valid q → Answers (λ h. h.name) q.group (file_of xs).asgs (some g)
      → Greatest (λ b. Some (λ r. PassesLater e q (file_of xs) r × (r.permission ≡ b)) g.rules) a → Later e xs q a
  by_no_group : Valid q → Answers (λ h. h.name) q.group (file_of xs).asgs none → Later e xs q access.None

-- the edition says no, at a question, to each unknown predicate of what the tokens xs say
abbrev pub SaysNo : Edition → Question → List Tagged → Type 0
SaysNo e q xs = Every (λ x. has_role UnknownPredicate x ≡ true → e (place x) q ≡ false) xs

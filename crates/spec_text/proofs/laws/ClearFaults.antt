-- What is known of a file in which the machine of Faults.antt finds nothing.
use Rattle.std.specs.Prelude.{◌≡◌, Bool, true, false, List, map, ◌↔◌, ℕ, eqb}
use Rattle.std.proofs.lemmas.Bool.{not-false}
use Rattle.spec_lists.specs.Text.{same}
use Rattle.spec_lists.specs.Select.{any}
use Rattle.spec_lists.specs.Every.{Every}
use Rattle.spec_lists.proofs.laws.Any.{any_none}
use Rattle.spec_lists.proofs.laws.Both.{neither}
use Rattle.spec_lists.proofs.laws.Every.{every_implies}
use Rattle.spec_lists.proofs.laws.Same.{same_true, same_self}
use Rattle.spec_rule.proofs.laws.Such.{any_some, some_any}
use Rattle.spec_file.specs.Defined.{Defined}
use Rattle.spec_file.specs.Contents.{Group, RuleText, Asg, File}
use Rattle.spec_text.specs.Faults.{repeated, nowhere_defined, calculation_faulty, rule_faulty, letters_of, asg_faulty, defines_nothing, faulty}

-- one of the groups has the name s
abbrev defined_in : List Group → List ℕ → Bool
defined_in gs s = any (λ g. same g.name s) gs

pub defined_is : (gs : List Group) (s : List ℕ) → (defined_in gs s ≡ true) ↔ Defined gs s
defined_is gs s = (any_some p d gs, some_any p d)
  where
    p : Group → Bool
    p g = same g.name s

    d : (g : Group) → (p g ≡ true) ↔ (g.name ≡ s)
    d g = (same_true g.name s, λ e. rw e (same_self s))

pub record RuleSound (f : File) (given : List ℕ) (r : RuleText) : Type 0 where
  pub uags : Every (λ s. defined_in f.uags s ≡ true) r.uags
  pub hags : Every (λ s. defined_in f.hags s ≡ true) r.hags
  pub calculation : calculation_faulty given r.calculation ≡ false

pub record AsgSound (f : File) (a : Asg) : Type 0 where
  pub letters : repeated eqb (letters_of a) ≡ false
  pub rules : Every (RuleSound f (letters_of a)) a.rules

pub record Sound (f : File) : Type 0 where
  pub defines : defines_nothing f ≡ false
  pub uags : repeated same (map (λ g. g.name) f.uags) ≡ false
  pub hags : repeated same (map (λ g. g.name) f.hags) ≡ false
  pub asgs : repeated same (map (λ a. a.name) f.asgs) ≡ false
  pub each : Every (AsgSound f) f.asgs

defined : (gs : List Group) (ss : List (List ℕ)) → any (nowhere_defined gs) ss ≡ false → Every (λ s. defined_in gs s ≡ true) ss
defined gs ss e = every_implies (λ s h. not-false (defined_in gs s) h) (any_none (nowhere_defined gs) ss e)

module _ (f : File) where
  rule_sound : (given : List ℕ) (r : RuleText) → rule_faulty f given r ≡ false → RuleSound f given r
  rule_sound given r e =
      let u = neither (any (nowhere_defined f.uags) r.uags) _ e in
      let h = neither (any (nowhere_defined f.hags) r.hags) (calculation_faulty given r.calculation) u.1 in
      record { uags = defined f.uags r.uags u.0; hags = defined f.hags r.hags h.0; calculation = h.1 }

  asg_sound : (a : Asg) → asg_faulty f a ≡ false → AsgSound f a
  asg_sound a e =
      let l = neither (repeated eqb (letters_of a)) (any (rule_faulty f (letters_of a)) a.rules) e in
      record { letters = l.0; rules = every_implies (rule_sound (letters_of a)) (any_none (rule_faulty f (letters_of a)) a.rules l.1) }

  pub sound : faulty f ≡ false → Sound f
  sound e =
      let n = neither (defines_nothing f) _ e in
      let u = neither (repeated same (map (λ g. g.name) f.uags)) _ n.1 in
      let h = neither (repeated same (map (λ g. g.name) f.hags)) _ u.1 in
      let a = neither (repeated same (map (λ a. a.name) f.asgs)) (any (asg_faulty f) f.asgs) h.1 in
      record { defines = n.0; uags = u.0; hags = h.0; asgs = a.0; each = every_implies asg_sound (any_none (asg_faulty f) f.asgs a.1) }

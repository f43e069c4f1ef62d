-- The causes of 5, 8 and 9, which look at one token: no string of the text is too long, its levels are 0 or 1, its words known.
use Rattle.std.specs.Prelude.{◌≡◌, refl, Bool, true, false, List, [], ◌∷◌, ℕ, ◌≤◌, length}
use Rattle.std.proofs.Common.{ap, le-ltb}
use Rattle.std.proofs.Math.Option.{Option, some}
use Rattle.spec_lists.specs.Select.{missing}
use Rattle.spec_lists.specs.Every.{Every, nil, cons}
use Rattle.spec_lists.proofs.laws.Both.{neither}
use Rattle.spec_lists.proofs.laws.Every.{every_append, every_implies, every_both, every_map, every_joined}
use Rattle.spec_rule.specs.Answering.{greatest_level}
use Rattle.spec_grammar.specs.declared.Role.{Role}
use Rattle.spec_grammar.specs.declared.Role.TheVariants.{UagName, User, HagName, Host, AsgName, Pvname, Level, Permission, LogOption, UagNamed}
use Rattle.spec_grammar.specs.declared.Role.TheVariants.{HagNamed}
use Rattle.spec_grammar.specs.Codes.{same_role}
use Rattle.spec_grammar.specs.Sentence.{Tagged}
use Rattle.spec_grammar.proofs.laws.Roles.{one_of}
use Rattle.spec_file.specs.Limit.{longest, longest_name, longest_calculation}
use Rattle.spec_file.specs.Contents.{Group, Link, RuleText, Asg, File}
use Rattle.spec_file.specs.Meaning.{switched_off}
use Rattle.spec_file.specs.Refusal.{Context, too_long, bad_level, unknown_word}
use Rattle.spec_text.specs.Lines.{permission_word}
use Rattle.spec_text.proofs.laws.Keeps.{CalculationOf, without, with, GroupOf, RuleOf, AsgOf, ShortName, ShortCalculation, AsgNamed}
use Rattle.spec_text.proofs.laws.Keeps.{Keeps}
use Rattle.spec_text.proofs.laws.Sayings.{saying, strings, group_sayings, link_sayings, calculation_sayings, unknown_sayings, head_sayings}
use Rattle.spec_text.proofs.laws.Sayings.{rule_sayings, asg_sayings, file_sayings}
use Rattle.spec_text.proofs.laws.Words.{level_back, permission_back, log_back}
use Rattle.spec_text.proofs.laws.ClearContexts.{Respects}

-- a token in no context
abbrev alone : Tagged → Context
alone x = record { backwards = []; here = x; onwards = [] }

-- a token without these causes
pub record Plain (b : List Tagged) (x : Tagged) : Type 0 where
  pub short : too_long (alone x) ≡ false
  pub level : bad_level (alone x) ≡ false
  pub word : unknown_word (alone x) ≡ false

pub plain_respects : Respects Plain
plain_respects =
    record {
      quiet = λ b x e. record { short = rw e; level = rw e; word = rw e };
      heard = λ b d x y s e t q. record { short = rw (e, t) q.short; level = rw (e, t) q.level; word = rw (e, t) q.word };
    }

abbrev PlainAlways : Tagged → Type 0
PlainAlways x = (b : List Tagged) → Plain b x

-- ---- the tokens

-- the roles of names
abbrev Name : Role → Type 0
Name r = (longest r ≡ some longest_name) × (one_of (Level ∷ Permission ∷ LogOption ∷ []) r ≡ false)

module _ (r : Role) (n : Name r) where
  name_plain : (s : List ℕ) → ShortName s → PlainAlways (saying r s)
  name_plain s l b =
      let v = neither (same_role r Level) _ n.1 in
      let w = neither (same_role r Permission) _ v.1 in
      let u = neither (same_role r LogOption) false w.1 in
      record { short = rw n.0 (le-ltb longest_name (length s) l); level = rw v.0; word = rw (w.0, u.0) }

  names_plain : {ss : List (List ℕ)} → Every ShortName ss → Every PlainAlways (strings r ss)
  names_plain c = every_map (saying r) (every_implies name_plain c)

group_plain : (n m : Role) → Name n → Name m → (g : Group) → GroupOf ShortName ShortCalculation g → Every PlainAlways (group_sayings n m g)
group_plain n m v w g k = cons (name_plain n v g.name k.name) (names_plain m w k.members)

link_plain : (i : Link) → ShortName i.name → Every PlainAlways (link_sayings i)
link_plain i l = cons (λ b. record { short = refl; level = refl; word = refl }) (cons (name_plain Pvname (refl, refl) i.name l) nil)

calculation_plain : {o : Option (List ℕ)} → CalculationOf ShortName ShortCalculation o → Every PlainAlways (calculation_sayings o)
calculation_plain without = nil
calculation_plain (with {s = s} k) =
    cons
    (λ b. record { short = refl; level = refl; word = refl })
    (cons (λ b. record { short = le-ltb longest_calculation (length s) k.short; level = refl; word = refl }) nil)

unknown_plain : (b : Bool) → Every PlainAlways (unknown_sayings b)
unknown_plain false = nil
unknown_plain true = cons (λ b. record { short = refl; level = refl; word = refl }) nil

head_plain : (r : RuleText) → r.level ≤ greatest_level → Every PlainAlways (head_sayings r)
head_plain r l =
    cons (λ b. record { short = refl; level = ap missing (level_back r.level l); word = refl })
    (cons
    {x = saying Permission (permission_word r.permission)}
    (λ b. record { short = refl; level = refl; word = rw (permission_back r.permission) })
    (cons (λ b. record { short = refl; level = refl; word = ap missing (log_back r.trap) }) nil))

rule_plain : (r : RuleText) → RuleOf ShortName ShortCalculation r → r.level ≤ greatest_level → Every PlainAlways (rule_sayings r)
rule_plain r k l =
    cons (λ b. record { short = refl; level = refl; word = refl })
    (every_append (head_plain r l)
    (every_append (names_plain UagNamed (refl, refl) k.uags)
    (every_append (names_plain HagNamed (refl, refl) k.hags) (every_append (calculation_plain k.calculation) (unknown_plain (switched_off r))))))

asg_plain : (a : Asg) → AsgOf ShortName ShortCalculation a → AsgNamed a → Every PlainAlways (asg_sayings a)
asg_plain a k n =
    cons (name_plain AsgName (refl, refl) a.name k.name)
    (every_append
    (every_joined (every_map link_sayings (every_implies link_plain k.inputs)))
    (every_joined (every_map rule_sayings (every_both rule_plain k.rules n.levels))))

pub file_plain : (f : File) → Keeps f → Every PlainAlways (file_sayings f)
file_plain f k =
    every_append
    (every_joined (every_map (group_sayings UagName User) (every_implies (group_plain UagName User (refl, refl) (refl, refl)) k.short.uags)))
    (every_append
    (every_joined (every_map (group_sayings HagName Host) (every_implies (group_plain HagName Host (refl, refl) (refl, refl)) k.short.hags)))
    (every_joined (every_map asg_sayings (every_both asg_plain k.short.asgs k.named))))

-- The groups that a file's rules name are defined. 02, ticket 4: "A group named in a rule must be defined somewhere in the file." Refusal.antt says it of
-- tokens (undefined_group); here it is said of what the file says.
use Rattle.std.specs.Prelude.{◌≡◌, List, ℕ}
use Rattle.spec_lists.specs.Every.{Every}
use Rattle.spec_grammar.specs.declared.Role.TheVariants.{UagNamed, HagNamed}
use Rattle.spec_grammar.specs.Sentence.{Tagged}
use Rattle.spec_rule.specs.Privilege.{Some}
use Rattle.spec_file.specs.Contents.{text, Group, RuleText, File}

-- one of the groups has the name s
abbrev pub Defined : List Group → List ℕ → Type 0
Defined gs s = Some (λ g. g.name ≡ s) gs

-- a token names in a rule a UAG or a HAG that the file does not define
pub data NamesUndefined (f : File) (x : Tagged) : Type 0 where
  uag : x.role ≡ UagNamed → (Defined f.uags (text x) → ⊥) → NamesUndefined f x
  hag : x.role ≡ HagNamed → (Defined f.hags (text x) → ⊥) → NamesUndefined f x

-- the UAGs that a rule names are among the UAGs of the file, the HAGs among its HAGs
pub record NamesDefined (f : File) (r : RuleText) : Type 0 where
  pub users : Every (Defined f.uags) r.uags
  pub hosts : Every (Defined f.hags) r.hags

-- this holds of every rule, switched off or not
abbrev pub GroupsDefined : File → Type 0
GroupsDefined f = Every (λ a. Every (NamesDefined f) a.rules) f.asgs

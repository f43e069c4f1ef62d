-- The cause of 12: every group that a rule of the text names is defined in it.
use Rattle.std.specs.Prelude.{◌≡◌, refl, false, ℕ}
use Rattle.std.proofs.Common.{sym, subst}
use Rattle.spec_lists.specs.Every.{Every}
use Rattle.spec_lists.proofs.laws.Every.{every_implies, every_map, every_unmap}
use Rattle.spec_file.specs.Contents.{File, file_of}
use Rattle.spec_file.specs.Refusal.{contexts, undefined_group}
use Rattle.spec_file.specs.Defined.{GroupsDefined}
use Rattle.spec_file.proofs.laws.Defined as tokens
use Rattle.spec_text.proofs.laws.Pieces.{said_at, file_pieces}
use Rattle.spec_text.proofs.laws.Keeps.{AsgNamed}
use Rattle.spec_text.proofs.laws.Unplaced.{unplaced_rule, unplaced_asg, unplaced}
use Rattle.spec_text.proofs.laws.Derived.{derived_at}
use Rattle.spec_text.proofs.laws.Says.{says}
use Rattle.spec_text.proofs.laws.ClearFaults.{defined_is, Sound}

sound_defined : (f : File) → Sound f → GroupsDefined f
sound_defined f k =
    every_implies
    (λ a s.
    every_implies
    (λ r n.
    record {
      users = every_implies (λ s. (defined_is f.uags s).0) n.uags;
      hosts = every_implies (λ s. (defined_is f.hags s).0) n.hags;
    })
    s.rules)
    k.each

-- the places of unknown predicates do not matter
unplaced_defined : (f : File) → GroupsDefined f → GroupsDefined (unplaced f)
unplaced_defined f d =
    every_map unplaced_asg (every_implies (λ a rs. every_map unplaced_rule (every_implies (λ r n. record { users = n.users; hosts = n.hosts }) rs)) d)

placed_defined : (f : File) → GroupsDefined (unplaced f) → GroupsDefined f
placed_defined f d =
    every_implies
    (λ a rs. every_implies (λ r n. record { users = n.users; hosts = n.hosts }) (every_unmap unplaced_rule a.rules rs))
    (every_unmap unplaced_asg f.asgs d)

pub nothing_undefined :
    (f : File) (p : ℕ) → Sound f → Every AsgNamed f.asgs → Every (λ c. undefined_group c ≡ false) (contexts (said_at p (file_pieces f)))
nothing_undefined f p k n =
    tokens.nothing_undefined (said_at p (file_pieces f)) (record { tokens = refl; derived = derived_at f k.defines p })
    (placed_defined (file_of (said_at p (file_pieces f))) (subst GroupsDefined (sym (says f p n)) (unplaced_defined f (sound_defined f k))))

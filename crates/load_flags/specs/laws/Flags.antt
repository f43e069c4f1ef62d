-- The flags of a rule: how great a level and a rank are, and the flag of a rule that is switched off.
use Rattle.std.specs.Prelude.{false, Bool, true, cond, not, ◌&&◌, List, [], ◌∷◌, map, ◌≡◌, refl, ℕ, ◌≤◌, suc, eqb, length}
use Rattle.std.proofs.Math.Option.{get_or, Option, none, some}
use Rattle.std.proofs.Common.{arith, ne_eqb}
use Rattle.spec_lists.specs.Select.{nonempty, select}
use Rattle.spec_lists.specs.Text.{whole, among}
use Rattle.spec_token.specs.Word.{unsigned}
use Rattle.spec_grammar.specs.declared.Role.TheVariants.{UnknownPredicate}
use Rattle.spec_grammar.specs.Sentence.{Tagged}
use Rattle.spec_rule.specs.declared.Access.{Access}
use Rattle.spec_rule.specs.declared.Access.TheVariants as access
use Rattle.spec_rule.specs.Rule.{rank}
use Rattle.spec_file.specs.Contents.{value_of, level_of, has_role, text, place}
use Rattle.spec_table.specs.Written.{flag}
use Rattle.load_flags.specs.Flags.{off_bits}
use Rattle.load_flags.specs.Tokens.{size}

-- a level is 0 or 1, and a rank at most 2
pub level_small : (ts : List (List ℕ)) → value_of 0 level_of ts ≤ 1
level_small [] = omega arith
level_small ([] ∷ ts) = omega arith
level_small ((b ∷ t) ∷ ts) =
    bounded (eqb (whole 0 (unsigned (b ∷ t))) 0) (eqb (whole 0 (unsigned (b ∷ t))) 1 && not (among "-" b)) {o = level_of (b ∷ t)} refl
  where
    bounded : (b c : Bool) {o : Option ℕ} → o ≡ cond b (some 0) (cond c (some 1) none) → get_or o 0 ≤ 1
    bounded true c e = rw e (omega arith)
    bounded false true e = rw e (omega arith)
    bounded false false e = rw e (omega arith)

pub rank_small : (a : Access) → rank a ≤ 2
rank_small access.None = omega arith
rank_small access.Read = omega arith
rank_small access.Write = omega arith

-- the bit of a rule that is switched off, from the number of its unknown predicates
pub off_is : (xs : List Tagged) → off_bits (size UnknownPredicate xs) ≡ flag (nonempty (map place (select (has_role UnknownPredicate) xs))) 16
off_is xs = go (select (has_role UnknownPredicate) xs)
  where
    go : (ys : List Tagged) → off_bits (length (map text ys)) ≡ flag (nonempty (map place ys)) 16
    go [] = refl
    go (y ∷ ys) = rw (ne_eqb (suc (length (map text ys))) 0 (λ h. omega arith))

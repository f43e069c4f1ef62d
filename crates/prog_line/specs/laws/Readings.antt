-- The readings of a line one by one, against their definition.
use Rattle.std.specs.Prelude.{◌≡◌, refl, Bool, true, false, cond, not, ◌&&◌, ◌||◌, List, [], ◌∷◌, ℕ, zero, suc, ◌-◌, ◌≤◌, ◌<◌, eqb, length, take, drop, get_or, set, replicate, map, Option, None, Some}
use Rattle.std.proofs.Common.{sym, ap, ◌∙◌, arith, length-set, get_or-set_same, get_or-set_other, eqb-true}
use Rattle.std.proofs.lemmas.List.{set_comm, map-set}
use Rattle.std.proofs.lemmas.Bool.{eqb-false}
use Rattle.spec_lists.specs.Text.{one_of}
use Rattle.spec_lists.proofs.laws.Both.{neither}
use Rattle.spec_calc.specs.declared.Reading.{Reading}
use Rattle.spec_calc.specs.declared.Reading.TheVariants.{NeverHeard}
use Rattle.prog_reading.specs.declared.Named.{Named}
use Rattle.prog_reading.specs.Reading.{was_heard, named}
use Rattle.prog_reading.specs.laws.Named.{small_letter, heard_reading}
use Rattle.prog_line.specs.Line.{split, and_named, all_named, letters, distinct, readings, without_repeats, readings_named}
use Rattle.prog_line.specs.Parts.{part_length, behind}
use Rattle.prog_line.specs.laws.Parts as Parts
use Rattle.prog_line.specs.laws.Parts.{rest_is}

-- the readings set by their letters, None at a part that is no reading or that names a letter again
unfoldable pub filled : List Bool → List Reading → List (List ℕ) → Option (List Reading)
filled b rs [] = Some rs
filled b rs (p ∷ ps) =
    elim (named p) [
      | None ↦ None
      | Some n ↦ cond (get_or b n.letter false) None (filled (set b n.letter true) (set rs n.letter n.reading) ps)
    ]

abbrev pub none_named : List Bool
none_named = replicate 21 false

abbrev pub never_heard : List Reading
never_heard = replicate 21 NeverHeard

-- ---- letters that were not named before

unnamed : List Bool → List ℕ → Bool
unnamed b [] = true
unnamed b (i ∷ is) = not (get_or b i false) && unnamed b is

unnamed_set : (b : List Bool) (i : ℕ) → i < length b → (is : List ℕ) → unnamed (set b i true) is ≡ not (one_of is i) && unnamed b is
unfolding unnamed
unnamed_set b i h [] = refl
unnamed_set b i h (j ∷ is) = go (eqb i j) refl (unnamed_set b i h is)
  where
    swap : (x o a : Bool) → x && (not o && a) ≡ not o && (x && a)
    swap true o a = refl
    swap false true a = refl
    swap false false a = refl

    go :
        (t : Bool) → eqb i j ≡ t → unnamed (set b i true) is ≡ not (one_of is i) && unnamed b is
        → not (get_or (set b i true) j false) && unnamed (set b i true) is ≡ not (t || one_of is i) && (not (get_or b j false) && unnamed b is)
    go true e w =
        let s : get_or (set b i true) j false ≡ true = ap (λ (k : ℕ). get_or (set b i true) k false) (sym (eqb-true i j e)) ∙ get_or-set_same b i true false h in
        rw s
    go false e w =
        let s = get_or-set_other b i j true false (λ q. eqb-false i j e (sym q)) in
        rw (s, w) (swap (not (get_or b j false)) (one_of is i) (unnamed b is))

unset : (n i : ℕ) → get_or (replicate n false) i false ≡ false
unset zero i = refl
unset (suc n) zero = refl
unset (suc n) (suc i) = unset n i

unnamed_none : (is : List ℕ) → unnamed none_named is ≡ true
unfolding unnamed
unnamed_none [] = refl
unnamed_none (i ∷ is) = rw (unset 21 i) (unnamed_none is)

-- ---- readings set over others

over : List Reading → List Named → List Reading
over rs [] = rs
over rs (n ∷ ns) = set (over rs ns) n.letter n.reading

over_set : (rs : List Reading) (i : ℕ) (r : Reading) (ns : List Named) → one_of (letters ns) i ≡ false → over (set rs i r) ns ≡ set (over rs ns) i r
unfolding over
over_set rs i r [] o = refl
over_set rs i r (n ∷ ns) o =
    let z = neither (eqb i n.letter) (one_of (letters ns) i) o in
    ap (λ (q : List Reading). set q n.letter n.reading) (over_set rs i r ns z.1)
    ∙ set_comm (over rs ns) i n.letter r n.reading (eqb-false i n.letter z.0)

over_none : (ns : List Named) → over never_heard ns ≡ readings ns
unfolding over readings
over_none [] = refl
over_none (n ∷ ns) = ap (λ (q : List Reading). set q n.letter n.reading) (over_none ns)

-- ---- the readings one by one come to the definition's

filled_of : List Bool → List Reading → Option (List Named) → Option (List Reading)
filled_of b rs None = None
filled_of b rs (Some ns) = cond (distinct (letters ns) && unnamed b (letters ns)) (Some (over rs ns)) None

filled_is : (b : List Bool) → length b ≡ 21 → (rs : List Reading) (ps : List (List ℕ)) → filled b rs ps ≡ filled_of b rs (all_named ps)
unfolding filled filled_of all_named distinct unnamed over
filled_is b h rs [] = refl
filled_is b h rs (p ∷ ps) = go (named p) refl (λ i r. filled_is (set b i true) (length-set b i true ∙ h) (set rs i r) ps)
  where
    nothing : (g : Bool) → ◌≡◌ {A = Option (List Reading)} (cond g None None) None
    nothing true = refl
    nothing false = refl

    pick :
        (x y : List Reading) (g d o a : Bool) → (o ≡ false → x ≡ y)
        → cond g None (cond (d && (not o && a)) (Some x) None) ≡ cond ((not o && d) && (not g && a)) (Some y) None
    pick x y true true true a w = refl
    pick x y true true false a w = refl
    pick x y true false true a w = refl
    pick x y true false false a w = refl
    pick x y false true true a w = refl
    pick x y false true false a w = ap (λ (q : List Reading). cond a (Some q) None) (w refl)
    pick x y false false true a w = refl
    pick x y false false false a w = refl

    rest :
        (n : Named) → n.letter < 21 → (o : Option (List Named))
        → cond (get_or b n.letter false) None (filled_of (set b n.letter true) (set rs n.letter n.reading) o)
        ≡ filled_of b rs (and_named (Some n) o)
    rest n s None = nothing (get_or b n.letter false)
    rest n s (Some ns) =
        let i = n.letter in
        let l : n.letter < length b = omega arith in
        rw (unnamed_set b n.letter l (letters ns))
        (pick (over (set rs i n.reading) ns) (set (over rs ns) i n.reading) (get_or b i false) (distinct (letters ns)) (one_of (letters ns) i)
        (unnamed b (letters ns)) (over_set rs i n.reading ns))

    go :
        (a : Option Named) → named p ≡ a
        → ((i : ℕ) (r : Reading) → filled (set b i true) (set rs i r) ps ≡ filled_of (set b i true) (set rs i r) (all_named ps))
        → elim a [ None ↦ None | Some n ↦ cond (get_or b n.letter false) None (filled (set b n.letter true) (set rs n.letter n.reading) ps) ]
        ≡ filled_of b rs (and_named a (all_named ps))
    go None e w = refl
    go (Some n) e w =
        ap (λ (o : Option (List Reading)). cond (get_or b n.letter false) None o) (w n.letter n.reading)
        ∙ rest n (small_letter p e) (all_named ps)

pub filled_all : (ps : List (List ℕ)) → filled none_named never_heard ps ≡ readings_named ps
unfolding filled_of
filled_all ps = filled_is none_named refl never_heard ps ∙ go (all_named ps)
  where
    right : (x : Bool) → x && true ≡ x
    right true = refl
    right false = refl

    go : (o : Option (List Named)) → filled_of none_named never_heard o ≡ without_repeats o
    go None = refl
    go (Some ns) = rw (unnamed_none (letters ns), right (distinct (letters ns)), over_none ns)

-- ---- one step of the code: a letter was named if its reading was heard

-- as the parts behind a text set them
unfoldable pub set_on : List Reading → List ℕ → Option (List Reading)
set_on rs s = filled (map was_heard rs) rs (behind s)

pub at_start : (s : List ℕ) → set_on never_heard s ≡ readings_named (behind s)
unfolding set_on
at_start s = filled_all (behind s)

pub at_end : (rs : List Reading) (s : List ℕ) → length s ≡ 0 → set_on rs s ≡ Some rs
unfolding set_on filled
at_end rs [] h = refl
at_end rs (b ∷ s) h = absurd (omega arith)

was_at : (rs : List Reading) (i : ℕ) → get_or (map was_heard rs) i false ≡ was_heard (get_or rs i NeverHeard)
was_at [] i = refl
was_at (x ∷ rs) zero = refl
was_at (x ∷ rs) (suc i) = was_at rs i

module _ (p : List ℕ) (ps : List (List ℕ)) (b : List Bool) (rs : List Reading) where
  filled_none : named p ≡ None → filled b rs (p ∷ ps) ≡ None
  unfolding filled
  filled_none e = rw (e, filled)

  filled_some :
      {m : Named} → named p ≡ Some m
      → filled b rs (p ∷ ps) ≡ cond (get_or b m.letter false) None (filled (set b m.letter true) (set rs m.letter m.reading) ps)
  unfolding filled
  filled_some e = rw (e, filled)

module _ (s parts : List ℕ) (n : ℕ) (h : 1 ≤ length s) (behind_first : parts ≡ take (length s - 1) (drop 1 s)) (ends : n ≡ part_length parts) (rs : List Reading) where
  one_more : behind s ≡ take n parts ∷ behind (take (length parts - n) (drop n parts))
  one_more = go s h behind_first ∙ Parts.parts parts ∙ rw (sym ends) (ap (λ (r : List ℕ). take n parts ∷ behind r) (sym (rest_is parts n)))
    where
      go : (t : List ℕ) → 1 ≤ length t → parts ≡ take (length t - 1) (drop 1 t) → behind t ≡ split parts
      go [] k e = absurd (omega arith)
      go (b ∷ t) k e = ap split (sym (e ∙ rest_is (b ∷ t) 1))

  pub no_reading : named (take n parts) ≡ None → set_on rs s ≡ None
  unfolding set_on
  no_reading e = ap (filled (map was_heard rs) rs) one_more ∙ filled_none (take n parts) _ _ _ e

  module _ {m : Named} (e : named (take n parts) ≡ Some m) where
    next : set_on rs s ≡ cond (was_heard (get_or rs m.letter NeverHeard)) None (filled (set (map was_heard rs) m.letter true) (set rs m.letter m.reading) (behind (take (length parts - n) (drop n parts))))
    unfolding set_on
    next =
        ap (filled (map was_heard rs) rs) one_more
        ∙ filled_some (take n parts) _ _ _ e
        ∙ ap (λ (t : Bool). cond t None (filled (set (map was_heard rs) m.letter true) (set rs m.letter m.reading) (behind (take (length parts - n) (drop n parts))))) (was_at rs m.letter)

    pub named_again : was_heard (get_or rs m.letter NeverHeard) ≡ true → set_on rs s ≡ None
    named_again w = next ∙ rw w refl

    pub one_set : was_heard (get_or rs m.letter NeverHeard) ≡ false → set_on rs s ≡ set_on (set rs m.letter m.reading) (take (length parts - n) (drop n parts))
    unfolding set_on
    one_set w =
        next
        ∙ rw w (ap (λ (b : List Bool). filled b (set rs m.letter m.reading) (behind (take (length parts - n) (drop n parts))))
        (sym (map-set was_heard rs m.letter m.reading ∙ ap (set (map was_heard rs) m.letter) (heard_reading (take n parts) e))))

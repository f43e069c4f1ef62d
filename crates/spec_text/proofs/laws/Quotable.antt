-- The machine finds exactly the texts that may stand between quotes.
use Rattle.std.specs.Prelude.{◌≡◌, refl, Bool, true, false, cond, not, List, [], ◌∷◌, ℕ, eqb}
use Rattle.std.proofs.Common.{sym, ◌∙◌}
use Rattle.std.proofs.lemmas.Bool.{false≢true, not-true}
use Prim.Native.Char.{code}
use Rattle.spec_lists.specs.Text.{among}
use Rattle.spec_lists.specs.Every.{cons, nil}
use Rattle.spec_lists.proofs.laws.Both.{both, neither, or_false}
use Rattle.spec_token.specs.Token.{BetweenQuotes, nothing, stringchar, escape}
use Rattle.spec_token.proofs.laws.Words.{one_of_each}
use Rattle.spec_text.specs.Faults.{quotable_from, quotable}

-- behind the backslash of an escape, or not
found : (e : Bool) (s : List ℕ) → quotable_from e s ≡ true → BetweenQuotes (cond e (code "\\" ∷ s) s)
found true [] h = absurd (false≢true h)
found false [] h = nothing
found true (b ∷ s) h = escape (found false s h)
found false (b ∷ s) h =
    let k = both (not (among "\"\n" b)) (quotable_from (among "\\" b) s) h in
    let n = not-true (among "\"\n" b) k.0 in
    go (among "\\" b) refl n k.1 (λ e. found e s)
  where
    go :
        (e : Bool) → among "\\" b ≡ e → among "\"\n" b ≡ false → quotable_from e s ≡ true
        → ((e : Bool) → quotable_from e s ≡ true → BetweenQuotes (cond e (code "\\" ∷ s) s)) → BetweenQuotes (b ∷ s)
    go true f n q ih =
        let slash : b ≡ code "\\" = one_of_each {P = λ x. x ≡ code "\\"} b (cons refl nil) f in
        rw slash (ih true q)
    go false f n q ih =
        let k = neither (eqb b (code "\"")) (among "\n" b) n in
        stringchar {b = b} (rw (k.0, sym (or_false (eqb b (code "\\"))) ∙ f, k.1)) (ih false q)

holds : {s : List ℕ} → BetweenQuotes s → quotable_from false s ≡ true
holds nothing = refl
holds (stringchar {b = b} h t) =
    let f = neither (eqb b (code "\"")) (among "\\\n" b) h in
    let g = neither (eqb b (code "\\")) (among "\n" b) f.1 in
    rw (f.0, g.1, g.0) (holds t)
holds (escape t) = holds t

pub quotable_sound : (s : List ℕ) → quotable s ≡ true → BetweenQuotes s
quotable_sound s = found false s

pub quotable_complete : (s : List ℕ) → BetweenQuotes s → quotable s ≡ true
quotable_complete s = holds

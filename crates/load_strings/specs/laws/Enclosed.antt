-- A part in braces that need not come.
use Rattle.std.specs.Prelude.{◌≡◌, refl, Bool, true, false, [], ◌∷◌, ℕ, Result, Ok}
use Rattle.spec_token.specs.declared.Kind.TheVariants.{OpenBrace}
use Rattle.spec_grammar.specs.Reader.{Stack, Expected, perhaps, rules, braced}
use Rattle.load_elements.specs.declared.Parser.{Parser}
use Rattle.load_elements.specs.Reads.{kind_at, is_next, Reads}
use Rattle.load_elements.specs.laws.Tokens.{unread, at, unless}
use Rattle.load_strings.specs.Enclosed.{in_braces}

-- the part x, "{" l "}", may come
module _ (x : Expected) (l : Stack → Stack) (e : rules x ≡ braced l) {p : Parser} {t : Bool} (c : t ≡ is_next OpenBrace (kind_at p)) where
  pub braces_come : {d : ℕ} {p' : Parser} {r : Result Unit ℕ} → t ≡ true → Reads d (in_braces l) p p' r → Reads d (perhaps x ∷ []) p p' r
  braces_come h v = at OpenBrace c h v (λ k. rw e)

  pub no_braces_come : t ≡ false → Reads 0 (perhaps x ∷ []) p p (Ok tt)
  no_braces_come h = unless OpenBrace c h unread (λ k. (rw e, rw e, rw e, rw e, rw e, rw e, rw e, rw e, rw e, rw e, rw e, tt, rw e, rw e, refl))

-- Properties of every token with those before it; what looks at roles and texts alone holds of tokens if it holds of what they say.
use Rattle.std.specs.Prelude.{◌≡◌, false, List, [], ◌∷◌, ◌++◌, map, ℕ}
use Rattle.spec_lists.specs.Select.{joined}
use Rattle.spec_lists.specs.Every.{Every, nil, cons}
use Rattle.spec_lists.proofs.laws.Every.{every_implies}
use Rattle.spec_grammar.specs.declared.Role.{Role}
use Rattle.spec_grammar.specs.declared.Role.TheVariants.{NoRole, UagName, User, HagName, Host}
use Rattle.spec_grammar.specs.Sentence.{Tagged}
use Rattle.spec_file.specs.Contents.{has_role, text, File}
use Rattle.spec_file.specs.Refusal.{contexts_after, contexts}
use Rattle.spec_text.proofs.laws.Pieces.{said_at, file_pieces}
use Rattle.spec_text.proofs.laws.Sayings.{Says, nothing, silent, aloud, asg_sayings, file_sayings, text_says}
use Rattle.spec_text.proofs.laws.Roles.{is, uags_without, hags_without}

-- a property of each of some tokens and of those before it, b being before all of them
pub data Onward (Q : List Tagged → Tagged → Type 0) : List Tagged → List Tagged → Type 0 where
  end : {b : List Tagged} → Onward Q b []
  next : {b : List Tagged} {x : Tagged} {xs : List Tagged} → Q b x → Onward Q (x ∷ b) xs → Onward Q b (x ∷ xs)

-- it looks at roles and texts, and tokens that say nothing have it
pub record Respects (Q : List Tagged → Tagged → Type 0) : Type 0 where
  pub quiet : (b : List Tagged) (x : Tagged) → x.role ≡ NoRole → Q b x
  pub heard : (b d : List Tagged) (x y : Tagged) → Says b d → x.role ≡ y.role → text x ≡ text y → Q d y → Q b x

module _ {Q : List Tagged → Tagged → Type 0} where
  onward_contexts : {b xs : List Tagged} → Onward Q b xs → Every (λ c. Q c.backwards c.here) (contexts_after b xs)
  onward_contexts end = nil
  onward_contexts {b} (next {x = x} {xs = xs} q o) = cons {x = record { backwards = b; here = x; onwards = xs }} q (onward_contexts o)

  -- what holds whatever is before
  pub every_onward : (b : List Tagged) {xs : List Tagged} → Every (λ x. (d : List Tagged) → Q d x) xs → Onward Q b xs
  every_onward b nil = end
  every_onward b (cons {x = x} q c) = next (q b) (every_onward (x ∷ b) c)

  pub onward_append : {b xs ys : List Tagged} → Onward Q b xs → ((d : List Tagged) → Onward Q d ys) → Onward Q b (xs ++ ys)
  onward_append {b} end f = f b
  onward_append (next q o) f = next q (onward_append o f)

  pub onward_joined :
      {A : Type 0} (g : A → List Tagged) {xs : List A} → Every (λ x. (d : List Tagged) → Onward Q d (g x)) xs → (b : List Tagged)
      → Onward Q b (joined (map g xs))
  onward_joined g nil b = end
  onward_joined g (cons o c) b = onward_append (o b) (onward_joined g c)

  onward_says : Respects Q → {b d xs ys : List Tagged} → Says b d → Says xs ys → Onward Q d ys → Onward Q b xs
  onward_says r s nothing o = end
  onward_says r {b} s (silent {x = x} e t) o = next (r.quiet b x e) (onward_says r (silent e s) t o)
  onward_says r {b} {d} s (aloud {x = x} {y = y} e u t) (next q o) = next (r.heard b d x y s e u q) (onward_says r (aloud e u s) t o)

  -- so it is with the text of a file
  pub in_text : Respects Q → (f : File) (p : ℕ) → Onward Q [] (file_sayings f) → Every (λ c. Q c.backwards c.here) (contexts (said_at p (file_pieces f)))
  in_text r f p o = onward_contexts (onward_says r nothing (text_says f p) o)

-- a property of tokens that say q, where q stands in ASGs only
pub file_onward :
    (q : Role) {Q : List Tagged → Tagged → Type 0} → ((x : Tagged) → has_role q x ≡ false → (b : List Tagged) → Q b x)
    → is q UagName ≡ false → is q User ≡ false → is q HagName ≡ false → is q Host ≡ false → (f : File)
    → Every (λ a. (b : List Tagged) → Onward Q b (asg_sayings a)) f.asgs
    → Onward Q [] (file_sayings f)
file_onward q v u m h n f c =
    onward_append (every_onward [] (every_implies v (uags_without (is q) u m f)))
    (λ b. onward_append (every_onward b (every_implies v (hags_without (is q) h n f))) (onward_joined asg_sayings c))

-- The words of the header.
use Rattle.std.specs.Prelude.{List, [], ◌∷◌, ◌≡◌, ℕ, ◌-◌, ◌+◌, length}
use Rattle.std.proofs.Common.{sym, ◌∙◌, ap}
use Rattle.spec_grammar.specs.Sentence.{Tagged}
use Rattle.spec_grammar.specs.declared.Role.{Role}
use Rattle.spec_grammar.specs.Codes.{role_number}
use Rattle.load_tokens.specs.laws.Arrays.{role_back}
use Rattle.load_tokens.specs.Views.{starts, ends, roles}
use Rattle.load_spans.specs.declared.Tokens.{Tokens}
use Rattle.load_spans.specs.Roles.{RoleCode, arrays, tally, gap}
use Rattle.load_spans.specs.laws.Roles.{tally_is}
use Rattle.load_flags.specs.Tokens.{size}
use Rattle.load_passes.specs.Source.{all_of}
use Rattle.load_sections.specs.Sections.{from}
use Rattle.load_sections.specs.laws.Sections.{from_role}

-- one by one
pub same_words :
    {v w l n₁ n₂ n₃ n₄ n₅ n₆ n₇ n₈ o₂ o₃ o₄ o₅ o₆ o₇ o₈ l' n₁' n₂' n₃' n₄' n₅' n₆' n₇' n₈' o₂' o₃' o₄' o₅' o₆' o₇' o₈' : ℕ}
    → l ≡ l' → n₁ ≡ n₁' → n₂ ≡ n₂' → o₂ ≡ o₂' → n₃ ≡ n₃' → o₃ ≡ o₃' → n₄ ≡ n₄' → o₄ ≡ o₄'
    → n₅ ≡ n₅' → o₅ ≡ o₅' → n₆ ≡ n₆' → o₆ ≡ o₆' → n₇ ≡ n₇' → o₇ ≡ o₇' → n₈ ≡ n₈' → o₈ ≡ o₈'
    → ◌≡◌ {A = List ℕ}
    (v ∷ l ∷ n₁ ∷ w ∷ n₂ ∷ o₂ ∷ n₃ ∷ o₃ ∷ n₄ ∷ o₄ ∷ n₅ ∷ o₅ ∷ n₆ ∷ o₆ ∷ n₇ ∷ o₇ ∷ n₈ ∷ o₈ ∷ [])
    (v ∷ l' ∷ n₁' ∷ w ∷ n₂' ∷ o₂' ∷ n₃' ∷ o₃' ∷ n₄' ∷ o₄' ∷ n₅' ∷ o₅' ∷ n₆' ∷ o₆' ∷ n₇' ∷ o₇' ∷ n₈' ∷ o₈' ∷ [])
same_words a b c d e f g h i j k l m n o p = cc

-- how many tokens have a role, among all and among those from the first of another role on
pub counted_all : (t : Tokens) (m : Role) (k : ℕ) → RoleCode (role_number m) → k ≡ tally (role_number m) (roles t.list.now) 0 (length t.list.now - 0) → k ≡ size m (all_of t)
counted_all t m k c e =
    let ts = t.list.now in
    rw (role_back m) at (e ∙ sym (tally_is t.text.now (arrays (starts ts) (ends ts)) (roles ts) (role_number m) 0 (length ts - 0) c))

pub counted_from :
    (t : Tokens) (q m : Role) (j k : ℕ) → RoleCode (role_number q) → RoleCode (role_number m)
    → j ≡ 0 + gap (role_number q) (role_number q) (roles t.list.now) 0 (length t.list.now - 0)
    → k ≡ tally (role_number m) (roles t.list.now) j (length t.list.now - j) → k ≡ size m (from q (all_of t))
counted_from t q m j k c d e h =
    let ts = t.list.now in
    (rw (role_back m) at (h ∙ sym (tally_is t.text.now (arrays (starts ts) (ends ts)) (roles ts) (role_number m) j (length ts - j) d)))
    ∙ ap (λ (xs : List Tagged). size m xs) (from_role t q j c e)

-- Laws of kept tokens.
use Rattle.std.specs.Prelude.{◌≡◌, refl, List, [], ◌∷◌, ◌++◌, map, ℕ, zero, suc, ◌+◌, ◌-◌, ◌≤◌, ◌<◌, length, drop}
use Rattle.std.proofs.Common.{ap, ◌∙◌, arith, length-take, length-drop}
use Rattle.spec_token.specs.declared.Kind.{Kind}
use Rattle.spec_token.specs.declared.Kind.TheVariants as kind
use Rattle.spec_token.specs.Token.{Token}
use Rattle.spec_grammar.specs.declared.Role.{Role}
use Rattle.spec_grammar.specs.declared.Role.TheVariants as role
use Rattle.spec_grammar.specs.Codes.{role_number, kind_number}
use Rattle.load_tokens.specs.Arrays.{kind_of_number, role_of_number, Arrays, between, token_at, tokens_from, tagged_from}

pub kind_back : (k : Kind) → kind_of_number (kind_number k) ≡ k
kind_back kind.Uag = refl
kind_back kind.Hag = refl
kind_back kind.Asg = refl
kind_back kind.Rule = refl
kind_back kind.Calc = refl
kind_back kind.Inp = refl
kind_back kind.Int = refl
kind_back kind.Float = refl
kind_back kind.String = refl
kind_back kind.OpenParen = refl
kind_back kind.CloseParen = refl
kind_back kind.OpenBrace = refl
kind_back kind.CloseBrace = refl
kind_back kind.Comma = refl

pub role_back : (r : Role) → role_of_number (role_number r) ≡ r
role_back role.NoRole = refl
role_back role.UagName = refl
role_back role.User = refl
role_back role.HagName = refl
role_back role.Host = refl
role_back role.AsgName = refl
role_back role.Input = refl
role_back role.Pvname = refl
role_back role.RuleWord = refl
role_back role.Level = refl
role_back role.Permission = refl
role_back role.LogOption = refl
role_back role.UagNamed = refl
role_back role.HagNamed = refl
role_back role.CalcWord = refl
role_back role.Calculation = refl
role_back role.UnknownItem = refl
role_back role.UnknownPredicate = refl

-- a part of a text is no longer than it
pub between_within : (s : List ℕ) (a e : ℕ) → length (between s a e) ≤ length s
between_within s a e = omega (arith, length-take (e - a) (drop a s), length-drop a s)

-- one token more behind
pub tokens_more : (s : List ℕ) (a : Arrays) (i n : ℕ) → tokens_from s a i (n + 1) ≡ tokens_from s a i n ++ (token_at s a (i + n) ∷ [])
unfolding tokens_from
tokens_more s a i zero = let e : i ≡ i + 0 = omega arith in ap (λ (k : ℕ). token_at s a k ∷ []) e
tokens_more s a i (suc n) =
    let e : suc n + 1 ≡ suc (n + 1) = omega arith in
    let g : suc i + n ≡ i + suc n = omega arith in
    ap (tokens_from s a i) e
    ∙ ap (λ (l : List Token). token_at s a i ∷ l) (tokens_more s a (suc i) n ∙ ap (λ (k : ℕ). tokens_from s a (suc i) n ++ (token_at s a k ∷ [])) g)

-- the tokens with their roles are, without them, the tokens
pub tagged_tokens : (s : List ℕ) (a : Arrays) (roles : List ℕ) (i n : ℕ) → map (λ x. x.token) (tagged_from s a roles i n) ≡ tokens_from s a i n
unfolding tokens_from tagged_from
tagged_tokens s a roles i zero = refl
tagged_tokens s a roles i (suc n) = ap (λ (l : List Token). token_at s a i ∷ l) (tagged_tokens s a roles (suc i) n)

-- the first of the tokens that are left
pub tokens_step : (s : List ℕ) (a : Arrays) (i n : ℕ) → i < n → tokens_from s a i (n - i) ≡ token_at s a i ∷ tokens_from s a (i + 1) (n - (i + 1))
unfolding tokens_from
tokens_step s a i n h =
    let e : n - i ≡ suc (n - (i + 1)) = omega arith in
    let f : suc i ≡ i + 1 = omega arith in
    ap (tokens_from s a i) e ∙ ap (λ (k : ℕ). token_at s a i ∷ tokens_from s a k (n - (i + 1))) f

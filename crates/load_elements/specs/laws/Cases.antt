-- A fact about every kind that passes a test, and about the end, shown one by one.
use Rattle.std.specs.Prelude.{◌≡◌, refl, Bool, true, false, cond, List, [], ◌∷◌}
use Rattle.std.specs.Prelude.{Option, Some, None}
use Rattle.std.proofs.Common.{subst, ne_eqb}
use Rattle.spec_token.specs.declared.Kind.{Kind}
use Rattle.spec_token.specs.declared.Kind.TheVariants as kind
use Rattle.spec_grammar.specs.Codes.{kind_number}
use Rattle.load_tokens.specs.laws.Views.{kind_same}
use Rattle.load_elements.specs.Reads.{is_next}

abbrev IfSo : Bool → Type 0 → Type 0
IfSo true P = P
IfSo false P = Unit

-- P of each kind that passes f, and of none, the others left out
abbrev pub Each : (Option Kind → Bool) → (Option Kind → Type 0) → Type 0
Each f P =
    IfSo (f (Some kind.Uag)) (P (Some kind.Uag)) × IfSo (f (Some kind.Hag)) (P (Some kind.Hag)) × IfSo (f (Some kind.Asg)) (P (Some kind.Asg))
    × IfSo (f (Some kind.Rule)) (P (Some kind.Rule)) × IfSo (f (Some kind.Calc)) (P (Some kind.Calc)) × IfSo (f (Some kind.Inp)) (P (Some kind.Inp))
    × IfSo (f (Some kind.Int)) (P (Some kind.Int)) × IfSo (f (Some kind.Float)) (P (Some kind.Float)) × IfSo (f (Some kind.String)) (P (Some kind.String))
    × IfSo (f (Some kind.OpenParen)) (P (Some kind.OpenParen)) × IfSo (f (Some kind.CloseParen)) (P (Some kind.CloseParen))
    × IfSo (f (Some kind.OpenBrace)) (P (Some kind.OpenBrace)) × IfSo (f (Some kind.CloseBrace)) (P (Some kind.CloseBrace))
    × IfSo (f (Some kind.Comma)) (P (Some kind.Comma)) × IfSo (f None) (P None)

pub chosen : (f : Option Kind → Bool) (P : Option Kind → Type 0) → Each f P → (x : Option Kind) → f x ≡ true → P x
chosen f P h x t = subst (λ (b : Bool). IfSo b (P x)) t (go x)
  where
    go : (x : Option Kind) → IfSo (f x) (P x)
    go (Some kind.Uag) = h.0
    go (Some kind.Hag) = h.1
    go (Some kind.Asg) = h.2
    go (Some kind.Rule) = h.3
    go (Some kind.Calc) = h.4
    go (Some kind.Inp) = h.5
    go (Some kind.Int) = h.6
    go (Some kind.Float) = h.7
    go (Some kind.String) = h.8
    go (Some kind.OpenParen) = h.9
    go (Some kind.CloseParen) = h.10
    go (Some kind.OpenBrace) = h.11
    go (Some kind.CloseBrace) = h.12
    go (Some kind.Comma) = h.13
    go None = h.14

-- any kind but these, and the end
abbrev pub none_of : List Kind → Option Kind → Bool
none_of [] x = true
none_of (y ∷ ys) x = cond (is_next y x) false (none_of ys x)

abbrev pub NotAny : List Kind → Kind → Type 0
NotAny [] x = Unit
NotAny (y ∷ ys) x = (x ≡ y → ⊥) × NotAny ys x

pub none_of_true : (ys : List Kind) (x : Kind) → NotAny ys x → none_of ys (Some x) ≡ true
none_of_true [] x h = refl
none_of_true (y ∷ ys) x h =
    rw (ne_eqb (kind_number x) (kind_number y) (λ e. h.0 (kind_same x y e))) (none_of_true ys x h.1)

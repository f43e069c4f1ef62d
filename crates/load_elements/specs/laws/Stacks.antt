-- Two stacks that take the same step at the kind that stands next lead to the same.
use Rattle.std.specs.Prelude.{◌≡◌, refl, Bool, true, false, cond, is_some, List, [], ◌∷◌, ℕ, zero, suc, take, drop, eqb}
use Rattle.std.specs.Prelude.{Option, Some, None}
use Rattle.std.specs.Prelude.{Ok}
use Rattle.std.proofs.Common.{sym, ap, subst, ◌∙◌, eqb-true, eq-eqb, ne_eqb}
use Rattle.std.proofs.lemmas.Bool.{false≢true}
use Rattle.spec_token.specs.declared.Kind.{Kind}
use Rattle.spec_grammar.specs.Codes.{kind_number}
use Rattle.spec_grammar.specs.Reader.{Stack, step, may_end}
use Rattle.load_tokens.specs.declared.Token.{Token}
use Rattle.load_tokens.specs.Names.{is_name}
use Rattle.load_elements.specs.declared.Parser.{Parser}
use Rattle.load_tokens.specs.Arrays.{kind_of_number}
use Rattle.load_tokens.specs.laws.Arrays.{kind_back}
use Rattle.load_elements.specs.Parse.{Parsed, parse_from}
use Rattle.load_elements.specs.Reads.{kinds_of, roles_of, kind_of, kind_at, is_next, name_of, parse_on, parse_at, Leads}
use Rattle.load_elements.specs.laws.Cases.{Each, chosen}

-- two stacks do the same at a kind, and at the end
abbrev pub SameStep : Stack → Stack → Option Kind → Type 0
SameStep a b None = may_end a ≡ may_end b
SameStep a b (Some x) = step a x ≡ step b x

-- the kinds from a token on
pub here : (ts : List Token) (i : ℕ) {x : Kind} → kind_of ts i ≡ Some x → kinds_of (drop i ts) ≡ x ∷ kinds_of (drop (suc i) ts)
here [] i e = absurd (cc e)
here (t ∷ ts) zero {x} e = let g : t.kind ≡ x = cc e in ap (λ (y : Kind). y ∷ kinds_of ts) g
here (t ∷ ts) (suc i) e = here ts i e

pub at_end : (ts : List Token) (i : ℕ) → kind_of ts i ≡ None → kinds_of (drop i ts) ≡ []
at_end [] zero e = refl
at_end [] (suc i) e = refl
at_end (t ∷ ts) zero e = absurd (cc e)
at_end (t ∷ ts) (suc i) e = at_end ts i e

pub next_some : (y : Kind) (n : Option Kind) → is_next y n ≡ true → n ≡ Some y
next_some y None e = absurd (cc e)
next_some y (Some x) e =
    ap (λ (k : Kind). Some k) (sym (kind_back x) ∙ ap kind_of_number (eqb-true (kind_number x) (kind_number y) e) ∙ kind_back y)

same_parse : (ts : List Token) (i : ℕ) (a b : Stack) → SameStep a b (kind_of ts i) → parse_on ts i a ≡ parse_on ts i b
unfolding parse_on parse_from
same_parse ts i a b h = go (kind_of ts i) refl h
  where
    go : (n : Option Kind) → kind_of ts i ≡ n → SameStep a b n
        → parse_from a i (roles_of (take i ts)) (kinds_of (drop i ts)) ≡ parse_from b i (roles_of (take i ts)) (kinds_of (drop i ts))
    go None e g = rw (at_end ts i e, g)
    go (Some x) e g = rw (here ts i e, g)

pub next_is : (y : Kind) (n : Option Kind) {t : Bool} → t ≡ is_next y n → t ≡ true → Some y ≡ n
next_is y n e h = sym (next_some y n (sym e ∙ h))

-- a name stands next
pub next_name : (y : Kind) (n : Option Kind) → Some y ≡ name_of n → Some y ≡ n
next_name y None e = absurd (cc e)
next_name y (Some x) e = go (is_name (kind_number x)) e
  where
    go : (b : Bool) → Some y ≡ cond b (Some x) None → Some y ≡ Some x
    go true g = g
    go false g = absurd (cc g)

pub named : (y : Kind) (n : Option Kind) → Some y ≡ name_of n → is_some (name_of (Some y)) ≡ true
named y n e = ap is_some (ap name_of (next_name y n e) ∙ sym e)

-- the same kind, as the step tests it
pub not_next : (y : Kind) (x : Kind) → is_next y (Some x) ≡ false → eqb (kind_number y) (kind_number x) ≡ false
not_next y x e =
    ne_eqb (kind_number y) (kind_number x) (λ q. let g : eqb (kind_number x) (kind_number y) ≡ true = eq-eqb _ _ (sym q) in absurd (false≢true (sym e ∙ g)))

module _ {p : Parser} {a : Stack} where
  -- one part and then another
  pub leads_on : {p' : Parser} {b : Stack} {x : Parsed} → Leads p a (parse_at p' (Ok tt) b) → Leads p' b x → Leads p a x
  unfolding parse_at
  leads_on v w = record { same = v.same ∙ w.same }

  -- the kind that stands next is known, or passes a test
  pub leads_next : {z : Parsed} {x : Option Kind} {b : Stack} → x ≡ kind_at p → Leads p b z → SameStep a b x → Leads p a z
  leads_next {b = b} e v w = record { same = same_parse p.tokens.now p.at a b (subst (SameStep a b) e w) ∙ v.same }

  pub leads_when :
      {z : Parsed} (f : Option Kind → Bool) {x : Option Kind} {b : Stack} → x ≡ kind_at p → f x ≡ true
      → Leads p b z → Each f (λ n. SameStep a b n) → Leads p a z
  leads_when f {x} {b} e h v w = leads_next e v (chosen f (λ n. SameStep a b n) w x h)

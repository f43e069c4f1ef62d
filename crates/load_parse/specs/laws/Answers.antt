-- From all items read to the answer about the tokens.
use Rattle.std.specs.Prelude.{◌≡◌, refl, true, false, is_some, List, [], ◌∷◌, ℕ, zero, suc, ◌≤◌, length, Option, Some, None, Result, Ok, Err, IsErrAnd}
use Rattle.std.proofs.Common.{sym, ap, ◌∙◌, arith, take_all}
use Rattle.spec_token.specs.declared.Kind.{Kind}
use Rattle.spec_grammar.specs.Reader.{once, often, item}
use Rattle.load_tokens.specs.declared.Token.{Token}
use Rattle.load_elements.specs.declared.Parser.{Parser}
use Rattle.load_elements.specs.Parse.{parsed, stopped_at, parse_from, parse}
use Rattle.load_elements.specs.Reads.{roles_of, kind_of, kind_at, parse_on, parse_at, Leads, Reads}
use Rattle.load_elements.specs.laws.Stacks.{at_end, leads_when}
use Rattle.load_parse.specs.Reads.{Items, Ends, Answers}

-- no token stands there any more
no_more : (ts : List Token) (i : ℕ) → kind_of ts i ≡ None → length ts ≤ i
no_more [] i e = omega arith
no_more (t ∷ ts) zero e = absurd (cc e)
no_more (t ∷ ts) (suc i) e = let h = no_more ts i e in omega arith

pub finished : (ts : List Token) (i : ℕ) → kind_of ts i ≡ None → parse_on ts i (often item ∷ []) ≡ parsed (roles_of ts)
unfolding parse_on parse_from
finished ts i e = rw (at_end ts i e, take_all i ts (no_more ts i e))

none_of_some : (x : Option Kind) → is_some x ≡ false → x ≡ None
none_of_some None e = refl
none_of_some (Some k) e = absurd (cc e)

pub items_begin : (p : Parser) → Items p p
items_begin p = record { same = refl; others = refl; lent = refl }

another : {p p' : Parser} {d : ℕ} → is_some (kind_at p) ≡ true → Reads d (once item ∷ []) p p' (Ok tt) → Leads p (often item ∷ []) (parse_at p' (Ok tt) (often item ∷ []))
another h w =
    leads_when is_some refl h (w.leads (often item ∷ [])) (refl, refl, refl, refl, refl, refl, refl, refl, refl, refl, refl, refl, refl, refl, tt)

pub items_more : {p₀ p p' : Parser} {d : ℕ} → Items p₀ p → is_some (kind_at p) ≡ true → Reads d (once item ∷ []) p p' (Ok tt) → Items p₀ p'
unfolding parse_at
items_more v h w = record { same = v.same ∙ (another h w).same; others = w.others ∙ v.others; lent = w.lent ∙ v.lent }

-- the first item stops
pub first_stops :
    {d i : ℕ} {p p' : Parser} {r : Result Unit ℕ} → Reads d (once item ∷ []) p p' (Err i) → IsErrAnd r (λ y. y ≡ i) → Ends p p' r
unfolding parse_at
first_stops {r = Ok u} v e = absurd e
first_stops {r = Err y} v e =
    record { answer = (v.leads (often item ∷ [])).same ∙ ap stopped_at (sym e); others = v.others; lent = v.lent }

-- an item was read, and others behind it
module _ {d : ℕ} {p q p' : Parser} (v : Reads d (once item ∷ []) p q (Ok tt)) (w : Items q p') where
  pub all_end : is_some (kind_at p') ≡ false → Ends p p' (Ok tt)
  unfolding parse_at
  all_end h =
      record {
        answer = (v.leads (often item ∷ [])).same ∙ w.same ∙ finished p'.tokens.now p'.at (none_of_some (kind_at p') h);
        others = w.others ∙ v.others;
        lent = w.lent ∙ v.lent;
      }

  pub later_stops :
      {e i : ℕ} {p'' : Parser} {r : Result Unit ℕ} → is_some (kind_at p') ≡ true → Reads e (once item ∷ []) p' p'' (Err i)
      → IsErrAnd r (λ y. y ≡ i) → Ends p p'' r
  unfolding parse_at
  later_stops {r = Ok u} h x f = absurd f
  later_stops {r = Err y} h x f =
      let l = leads_when is_some refl h (x.leads (often item ∷ [])) (refl, refl, refl, refl, refl, refl, refl, refl, refl, refl, refl, refl, refl, refl, tt) in
      record {
        answer = (v.leads (often item ∷ [])).same ∙ w.same ∙ l.same ∙ ap stopped_at (sym f);
        others = x.others ∙ (w.others ∙ v.others);
        lent = x.lent ∙ (w.lent ∙ v.lent);
      }

-- the parser stood before the first token, and its tokens are those that were lent
pub answers : {p p' : Parser} {ts' : List Token} {r : Result Unit ℕ} → Ends p p' r → p.at ≡ 0 → ts' ≡ p'.tokens.now → Answers p.tokens.now ts' r
unfolding parse parse_on
answers v e f = record { answer = rw f (rw e at v.answer); others = rw f v.others }

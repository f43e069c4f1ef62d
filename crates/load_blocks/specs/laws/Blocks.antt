-- Blocks opened, part by part.
use Rattle.std.specs.Prelude.{◌≡◌, Bool, true, ◌++◌, ℕ, Option, Result, Ok, Err, IsErrAnd}
use Rattle.std.proofs.Common.{arith, ◌∙◌}
use Rattle.std.proofs.lemmas.List.{append_assoc}
use Rattle.spec_token.specs.declared.Kind.{Kind}
use Rattle.spec_grammar.specs.Reader.{Stack, Depth}
use Rattle.load_elements.specs.declared.Parser.{Parser}
use Rattle.load_elements.specs.Reads.{kind_at, Reads, Begun}
use Rattle.load_elements.specs.laws.Cases.{Each, chosen}
use Rattle.load_elements.specs.laws.Stacks.{SameStep, leads_next, leads_on}
use Rattle.load_elements.specs.laws.Tokens.{then, when_next, no_promise}
use Rattle.load_blocks.specs.declared.Opened.{Opened}
use Rattle.load_blocks.specs.Blocks.{to_come, Opens}

-- what the exit of a `?` returns
pub opens_stops :
    {n i : ℕ} {l : Depth → Stack} {p p' : Parser} {r : Result Opened ℕ}
    → ((d : Depth) → Reads n (l d) p p' (Err i)) → IsErrAnd r (λ y. y ≡ i) → Opens n l p p' r
opens_stops {r = Ok o} v e = absurd e
opens_stops {r = Err y} v e = record { at_depth = λ d. rw e (v d) }

module _ {n : ℕ} {l m : Depth → Stack} {p p' : Parser} where
  -- the kind that stands next is known, or passes a test
  pub opens_next :
      {r : Result Opened ℕ} (x : Option Kind) → x ≡ kind_at p → Opens n m p p' r
      → ((d : Depth) (k : Stack) → SameStep (l d ++ k) (m d ++ k) x) → Opens n l p p' r
  opens_next {r = Ok o} x e v w =
      record {
        at_depth =
            λ d. let b = v.at_depth d in record { leads = λ k. leads_next e (b.leads k) (w d k); others = b.others; fewer = b.fewer; lent = b.lent };
      }
  opens_next {r = Err i} x e v w = record { at_depth = λ d. when_next x e (v.at_depth d) (w d) }

  pub opens_when :
      {r : Result Opened ℕ} (f : Option Kind → Bool) {x : Option Kind} → x ≡ kind_at p → f x ≡ true → Opens n m p p' r
      → ((d : Depth) (k : Stack) → Each f (λ y. SameStep (l d ++ k) (m d ++ k) y)) → Opens n l p p' r
  opens_when f {x} e h v w = opens_next x e v (λ d k. chosen f (λ y. SameStep (l d ++ k) (m d ++ k) y) (w d k) x h)

-- a part, and then the opening of a block
pub opens_behind :
    {n e : ℕ} {a : Stack} {m : Depth → Stack} {p q p' : Parser} {r : Result Opened ℕ}
    → Reads n a p q (Ok tt) → Opens e m q p' r → Opens n (λ d. a ++ m d) p p' r
opens_behind {n} {e} {a} {m} {p} {q} {p'} {r = Ok o} v w = record { at_depth = go }
  where
    go : (d : Depth) → Begun n (a ++ m d) (to_come d o) p p'
    go d =
        let b : Begun e (m d) (to_come d o) q p' = w.at_depth d in
        record {
          leads = λ k. rw (append_assoc a (m d) k) (leads_on (v.leads (m d ++ k)) (b.leads k));
          others = b.others ∙ v.others;
          fewer = let f = b.fewer in let g = v.fewer in omega arith;
          lent = b.lent ∙ v.lent;
        }
opens_behind {r = Err i} v w = record { at_depth = λ d. then v (w.at_depth d) }

pub opens_no_promise : {n : ℕ} {l : Depth → Stack} {p p' : Parser} {r : Result Opened ℕ} → Opens n l p p' r → Opens 0 l p p' r
opens_no_promise {r = Ok o} v =
    record {
      at_depth =
          λ d. let b = v.at_depth d in
          record { leads = b.leads; others = b.others; fewer = let f = b.fewer in omega arith; lent = b.lent };
    }
opens_no_promise {r = Err i} v = record { at_depth = λ d. no_promise (v.at_depth d) }

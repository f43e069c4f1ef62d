-- A token that may not come: reading stops at it. It stands here, and not in specs/, since an edit of a definition is refused by it.
use Rattle.std.specs.Prelude.{◌≡◌, refl, Bool, true, false, List, [], ◌∷◌, ◌++◌, ℕ, take, drop}
use Rattle.std.specs.Prelude.{Option, Some, None, Err}
use Rattle.std.proofs.Common.{sym, subst, ◌∙◌}
use Rattle.spec_token.specs.declared.Kind.{Kind}
use Rattle.spec_grammar.specs.declared.Role.{Role}
use Rattle.spec_grammar.specs.Reader.{Stack, halt, step, may_end}
use Rattle.load_tokens.specs.declared.Token.{Token}
use Rattle.load_elements.specs.declared.Parser.{Parser}
use Rattle.load_elements.specs.Parse.{stopped_at, parse_from}
use Rattle.load_elements.specs.Reads.{kinds_of, roles_of, kind_of, kind_at, is_next, expected, parse_on, parse_at, Reads}
use Rattle.load_elements.specs.laws.Cases.{Each, chosen}
use Rattle.load_elements.specs.laws.Stacks.{here, at_end, not_next}

-- nothing may come there
abbrev pub Halts : Stack → Option Kind → Type 0
Halts a None = may_end a ≡ false
Halts a (Some x) = step a x ≡ halt

halted : (ts : List Token) (i : ℕ) (a : Stack) → Halts a (kind_of ts i) → parse_on ts i a ≡ stopped_at i
unfolding parse_on parse_from
halted ts i a h = go (kind_of ts i) refl h
  where
    go : (n : Option Kind) → kind_of ts i ≡ n → Halts a n → parse_from a i (roles_of (take i ts)) (kinds_of (drop i ts)) ≡ stopped_at i
    go None e g = rw (at_end ts i e, g)
    go (Some x) e g = rw (here ts i e, g)

module _ {d : ℕ} {l : Stack} {p : Parser} where
  refused : ((k : Stack) → Halts (l ++ k) (kind_at p)) → Reads d l p p (Err p.at)
  unfolding parse_at
  refused h = record { leads = λ k. record { same = halted p.tokens.now p.at (l ++ k) (h k) }; others = refl; fewer = tt; lent = refl }

  -- the kind that stands next passes a test
  pub refused_when :
      (f : Option Kind → Bool) {x : Option Kind} → x ≡ kind_at p → f x ≡ true → ((k : Stack) → Each f (λ n. Halts (l ++ k) n)) → Reads d l p p (Err p.at)
  refused_when f {x} e h w = refused (λ k. subst (Halts (l ++ k)) e (chosen f (λ n. Halts (l ++ k) n) (w k) x h))

module _ {d : ℕ} {p : Parser} where
  pub expect_refused : {x : Kind} (r : Role) {t : Bool} → t ≡ is_next x (kind_at p) → t ≡ false → Reads d (expected x r ∷ []) p p (Err p.at)
  expect_refused {x} r e h = refused (λ k. go k (kind_at p) (sym e ∙ h))
    where
      go : (k : Stack) (n : Option Kind) → is_next x n ≡ false → Halts (expected x r ∷ k) n
      go k None g = refl
      go k (Some y) g = rw (not_next x y g)

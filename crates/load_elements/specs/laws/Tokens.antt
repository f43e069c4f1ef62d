-- One token read, parts read one after another, and loops that read the same again.
use Rattle.std.specs.Prelude.{◌≡◌, refl, Bool, true, false, not, List, [], ◌∷◌, ◌++◌, ℕ, zero, suc, ◌+◌, ◌-◌, ◌≤◌, ◌<◌, length, get_or, take, set, eqb, IfOk, IsErrAnd}
use Rattle.std.specs.Prelude.{Option, Some, None, Result, Ok, Err}
use Rattle.std.proofs.Common.{sym, ap, ◌∙◌, arith, add-one, eq-eqb, take-suc-set, length-set}
use Rattle.std.proofs.lemmas.List.{map-append, drop-set-lt, append_assoc}
use Rattle.spec_token.specs.declared.Kind.{Kind}
use Rattle.spec_grammar.specs.declared.Role.{Role}
use Rattle.spec_grammar.specs.Codes.{kind_number}
use Rattle.spec_grammar.specs.Reader.{Stack}
use Rattle.load_tokens.specs.declared.Token.{Token}
use Rattle.load_tokens.specs.Arrays.{kind_of_number}
use Rattle.load_tokens.specs.Views.{kept, blank}
use Rattle.load_tokens.specs.laws.Views.{said, kept_said}
use Rattle.load_elements.specs.declared.Parser.{Parser}
use Rattle.load_elements.specs.Parse.{parse_from}
use Rattle.load_elements.specs.Reads.{roles_of, kind_of, kind_at, is_next, expected, parse_on, parse_at, Leads, left, Reads, Begun}
use Rattle.load_elements.specs.laws.Cases.{Each, chosen}
use Rattle.load_elements.specs.laws.Stacks.{SameStep, here, next_is, leads_on, leads_next}

-- a number below 14, as a kind and back
number_kind : (x : ℕ) → x < 14 → kind_number (kind_of_number x) ≡ x
number_kind zero h = refl
number_kind (suc zero) h = refl
number_kind (suc (suc zero)) h = refl
number_kind (suc (suc (suc zero))) h = refl
number_kind (suc (suc (suc (suc zero)))) h = refl
number_kind (suc (suc (suc (suc (suc zero))))) h = refl
number_kind (suc (suc (suc (suc (suc (suc zero)))))) h = refl
number_kind (suc (suc (suc (suc (suc (suc (suc zero))))))) h = refl
number_kind (suc (suc (suc (suc (suc (suc (suc (suc zero)))))))) h = refl
number_kind (suc (suc (suc (suc (suc (suc (suc (suc (suc zero))))))))) h = refl
number_kind (suc (suc (suc (suc (suc (suc (suc (suc (suc (suc zero)))))))))) h = refl
number_kind (suc (suc (suc (suc (suc (suc (suc (suc (suc (suc (suc zero))))))))))) h = refl
number_kind (suc (suc (suc (suc (suc (suc (suc (suc (suc (suc (suc (suc zero)))))))))))) h = refl
number_kind (suc (suc (suc (suc (suc (suc (suc (suc (suc (suc (suc (suc (suc zero))))))))))))) h = refl
number_kind (suc (suc (suc (suc (suc (suc (suc (suc (suc (suc (suc (suc (suc (suc x)))))))))))))) h = absurd (omega arith)

-- a token stands there
pub there : (ts : List Token) (i : ℕ) {x : Kind} → Some x ≡ kind_of ts i → i < length ts
there [] i e = absurd (cc e)
there (t ∷ ts) zero e = omega arith
there (t ∷ ts) (suc i) e = omega (arith, there ts i e)

-- the token of kind x, whose role r is written
token_read :
    (ts : List Token) (i : ℕ) {x : Kind} (r : Role) (k : Stack) → Some x ≡ kind_of ts i
    → parse_on ts i (expected x r ∷ k) ≡ parse_on (set ts i (said (get_or ts i blank) r)) (i + 1) k
unfolding parse_on parse_from
token_read ts i {x} r k e =
    let t : Token = said (get_or ts i blank) r in
    let h = there ts i e in
    let lt : i < suc i = omega arith in
    let g : eqb (kind_number x) (kind_number x) ≡ true = eq-eqb (kind_number x) (kind_number x) refl in
    let w : roles_of (take (suc i) (set ts i t)) ≡ roles_of (take i ts) ++ (r ∷ []) =
    ap roles_of (take-suc-set ts i t h) ∙ map-append (λ (u : Token). u.role) (take i ts) (t ∷ []) in
    rw (here ts i (sym e), g, add-one i, w, drop-set-lt (suc i) ts i t lt)

module _ {p p' : Parser} {x : Kind} {r : Role} where
  pub expect_read :
      {t : Bool} → t ≡ is_next x (kind_at p) → t ≡ true
      → p'.tokens.now ≡ set p.tokens.now p.at (said (get_or p.tokens.now p.at blank) r) → p'.at ≡ p.at + 1
      → p'.tokens.ghost_name ≡ p.tokens.ghost_name → Reads 1 (expected x r ∷ []) p p' (Ok tt)
  unfolding parse_at left
  expect_read e h s a n =
      let y = next_is x (kind_at p) e h in
      record {
        leads = λ k. record { same = token_read p.tokens.now p.at r k y ∙ rw (s, a) };
        others = ap kept s ∙ kept_said p.tokens.now p.at r;
        fewer = rw (s, a, length-set) (omega (arith, there p.tokens.now p.at y));
        lent = n;
      }

-- nothing read
pub unread : {p : Parser} → Reads 0 [] p p (Ok tt)
unfolding parse_at
unread = record { leads = λ k. record { same = refl }; others = refl; fewer = omega arith; lent = refl }

-- a part, and then another
pub then : {d e : ℕ} {l m : Stack} {p q p' : Parser} {r : Result Unit ℕ} → Reads d l p q (Ok tt) → Reads e m q p' r → Reads d (l ++ m) p p' r
then {d} {e} {l} {m} {p} {q} {p'} {r} v w =
    record {
      leads = λ k. rw append_assoc (leads_on (v.leads (m ++ k)) (w.leads k));
      others = w.others ∙ v.others;
      fewer = go r w.fewer;
      lent = w.lent ∙ v.lent;
    }
  where
    go : (r : Result Unit ℕ) → IfOk r (λ u. left p' + e ≤ left q) → IfOk r (λ u. left p' + d ≤ left p)
    go (Ok u) h = let g : left q + d ≤ left p = v.fewer in omega arith
    go (Err i) h = tt

-- a part that stops, and then another: what the exit of a `?` returns
pub stops :
    {d i : ℕ} {l : Stack} (m : Stack) {p p' : Parser} {r : Result Unit ℕ}
    → Reads d l p p' (Err i) → IsErrAnd r (λ y. y ≡ i) → Reads d (l ++ m) p p' r
unfolding parse_at
stops m {r = Ok u} v e = absurd e
stops {l = l} m {r = Err y} v e =
    record { leads = λ k. rw (append_assoc, e) (record { same = (v.leads (m ++ k)).same }); others = v.others; fewer = tt; lent = v.lent }

-- no token is promised
pub no_promise : {d : ℕ} {l : Stack} {p p' : Parser} {r : Result Unit ℕ} → Reads d l p p' r → Reads 0 l p p' r
no_promise {d} {p = p} {p' = p'} {r = r} v = record { leads = v.leads; others = v.others; fewer = go r v.fewer; lent = v.lent }
  where
    go : (r : Result Unit ℕ) → IfOk r (λ u. left p' + d ≤ left p) → IfOk r (λ u. left p' + 0 ≤ left p)
    go (Ok u) h = omega arith
    go (Err i) h = tt

-- the kind y stands next, and a stack takes the step there that another takes which depends on y
abbrev pub SameStepAs : Stack → (Kind → Stack) → Option Kind → Type 0
SameStepAs a b None = Unit
SameStepAs a b (Some y) = SameStep a (b y) (Some y)

module _ {d : ℕ} {l : Stack} {p p' : Parser} {r : Result Unit ℕ} where
  -- the kind that stands next is known, or passes a test
  pub when_next :
      {m : Stack} (x : Option Kind) → x ≡ kind_at p → Reads d m p p' r → ((k : Stack) → SameStep (l ++ k) (m ++ k) x) → Reads d l p p' r
  when_next x e v w = record { leads = λ k. leads_next e (v.leads k) (w k); others = v.others; fewer = v.fewer; lent = v.lent }

  pub when :
      {m : Stack} (f : Option Kind → Bool) {x : Option Kind} → x ≡ kind_at p → f x ≡ true → Reads d m p p' r
      → ((k : Stack) → Each f (λ n. SameStep (l ++ k) (m ++ k) n)) → Reads d l p p' r
  when {m} f {x} e h v w = when_next x e v (λ k. chosen f (λ n. SameStep (l ++ k) (m ++ k) n) (w k) x h)

  pub when_as :
      (f : Option Kind → Bool) (b : Kind → Stack) {y : Kind} → Some y ≡ kind_at p → f (Some y) ≡ true → Reads d (b y) p p' r
      → ((k : Stack) → Each f (SameStepAs (l ++ k) (λ x. b x ++ k))) → Reads d l p p' r
  when_as f b {y} e h v w = when_next (Some y) e v (λ k. chosen f (SameStepAs (l ++ k) (λ x. b x ++ k)) (w k) (Some y) h)

  -- it is y, or not y
  pub at :
      {m : Stack} (y : Kind) {t : Bool} → t ≡ is_next y (kind_at p) → t ≡ true → Reads d m p p' r
      → ((k : Stack) → SameStep (l ++ k) (m ++ k) (Some y)) → Reads d l p p' r
  at y e h v w = when_next (Some y) (next_is y (kind_at p) e h) v w

  pub unless :
      {m : Stack} (y : Kind) {t : Bool} → t ≡ is_next y (kind_at p) → t ≡ false → Reads d m p p' r
      → ((k : Stack) → Each (λ n. not (is_next y n)) (λ n. SameStep (l ++ k) (m ++ k) n)) → Reads d l p p' r
  unless y e h v w = when (λ n. not (is_next y n)) refl (ap not (sym e ∙ h)) v w

-- ---- parts that are begun, and loops that have the same to read again

pub not_begun : (l : Stack) (p : Parser) → Begun 0 l l p p
unfolding parse_at
not_begun l p = record { leads = λ k. record { same = refl }; others = refl; fewer = omega arith; lent = refl }

-- all of it was read
pub all_read : {d : ℕ} {l : Stack} {p p' : Parser} → Reads d l p p' (Ok tt) → Begun d l [] p p'
all_read v = record { leads = v.leads; others = v.others; fewer = v.fewer; lent = v.lent }

-- the beginning m of a stack was read
pub begins :
    {d : ℕ} {l m c : Stack} {p p' : Parser} (x : Option Kind) → x ≡ kind_at p → Reads d m p p' (Ok tt)
    → ((k : Stack) → SameStep (l ++ k) (m ++ (c ++ k)) x) → Begun d l c p p'
begins {c = c} x e w g =
    record { leads = λ k. leads_next e (w.leads (c ++ k)) (g k); others = w.others; fewer = w.fewer; lent = w.lent }

module _ {d : ℕ} {l b : Stack} {p q p' : Parser} (v : Begun d l b p q) where
  -- another beginning was read
  pub goes_on :
      {e : ℕ} {m c : Stack} (x : Option Kind) → x ≡ kind_at q → Reads e m q p' (Ok tt)
      → ((k : Stack) → SameStep (b ++ k) (m ++ (c ++ k)) x) → Begun d l c p p'
  goes_on {c = c} x y w g =
      record {
        leads = λ k. leads_on (v.leads k) (leads_next y (w.leads (c ++ k)) (g k));
        others = w.others ∙ v.others;
        fewer = let o = w.fewer in omega (arith, v.fewer);
        lent = w.lent ∙ v.lent;
      }

  pub goes_on_unless :
      {e : ℕ} {m c : Stack} (y : Kind) {t : Bool} → t ≡ is_next y (kind_at q) → t ≡ false → Reads e m q p' (Ok tt)
      → ((k : Stack) → Each (λ n. not (is_next y n)) (λ n. SameStep (b ++ k) (m ++ (c ++ k)) n)) → Begun d l c p p'
  goes_on_unless {m = m} {c = c} y f h w g =
      goes_on (kind_at q) refl w
      (λ k. chosen (λ n. not (is_next y n)) (λ n. SameStep (b ++ k) (m ++ (c ++ k)) n) (g k) (kind_at q) (ap not (sym f ∙ h)))

  -- the rest was read
  pub ends : {e : ℕ} {r : Result Unit ℕ} → Reads e b q p' r → Reads e l p p' r
  ends {e} {r} w =
      record {
        leads = λ k. leads_on (v.leads k) (w.leads k);
        others = w.others ∙ v.others;
        fewer = go r w.fewer;
        lent = w.lent ∙ v.lent;
      }
    where
      go : (r : Result Unit ℕ) → IfOk r (λ u. left p' + e ≤ left q) → IfOk r (λ u. left p' + e ≤ left p)
      go (Ok u) h = omega (arith, v.fewer)
      go (Err i) h = tt

-- the first part of what is still to come was read
pub then_begun :
    {d e : ℕ} {l a b : Stack} {p q p' : Parser} → Begun d l (a ++ b) p q → Reads e a q p' (Ok tt) → Begun d l b p p'
then_begun {a = a} {b = b} v w =
    record {
      leads = λ k. leads_on (rw (append_assoc a b k) at (v.leads k)) (w.leads (b ++ k));
      others = w.others ∙ v.others;
      fewer = let o = w.fewer in omega (arith, v.fewer);
      lent = w.lent ∙ v.lent;
    }

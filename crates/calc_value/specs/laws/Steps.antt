-- What the reader comes to, step by step. Assumes nothing.
use Rattle.std.specs.Prelude.{◌≡◌, List, [], ◌∷◌, map, ℕ, zero, suc, ◌+◌, ◌-◌, ◌*◌, ◌≤◌, ◌<◌, length, get_or, Float, Option as Maybe, Some, None}
use Rattle.std.proofs.Math.Path.{refl}
use Rattle.std.proofs.Common.{sym, ◌∙◌, arith, le-leb}
use Rattle.std.proofs.Math.Option.{Option, none, some}
use Rattle.std.proofs.lemmas.Bool.{lt-leb}
use Rattle.std.specs.Float.{nan}
use Rattle.std.specs.Float.Ieee.{neg}
use Rattle.spec_calc.specs.declared.Operator.{Operator}
use Rattle.spec_calc.specs.declared.Operator.TheVariants as op
use Rattle.spec_calc.specs.declared.Reading.TheVariants as readings
use Rattle.spec_calc.specs.Symbol.{Symbol, number, letter, operator, not_sign, question, colon, open_paren, close_paren}
use Rattle.spec_calc.specs.Expression.{Tree, number_tree, letter_tree, binary, choice, level}
use Rattle.spec_calc.specs.Value.{heard, reading}
use Rattle.spec_calc.specs.Reader.{Begun, minus_of, not_of, left_of, else_of, ended, tightness, begun, paren, if_of, Stack, State, wanted, have, ends, reduce}
use Rattle.spec_calc.specs.Reader.{first_of, run, top}
use Rattle.spec_calc.proofs.laws.Levels.{level_bound, ends_bound}
use Rattle.calc_symbol.specs.Scan.{syms, SymbolAt}
use Rattle.calc_symbol.specs.Lookahead.{from, ends_of, MarkAt}
use Rattle.calc_arith.specs.Strict.{strict_not, strict_apply, strict_choice}
use Rattle.calc_value.specs.Strict.{strict_value}
use Rattle.calc_value.specs.Parse.{value_with, Parses, ParsesAs, ContinuesAs, in_if, in_else}
use Rattle.calc_symbol.specs.laws.Lookaheads.{one_step}

-- how deep the calls can still go: three for each byte that is left
abbrev pub cost : List ℕ → ℕ → ℕ → ℕ
cost s at r = 3 * (length s - at) + r

-- tightness has a bound
pub top_bound : (k : Stack) → top k ≤ 6
top_bound [] = omega arith
top_bound (begun minus_of ∷ k) = omega arith
top_bound (begun not_of ∷ k) = omega arith
top_bound (begun (left_of o u) ∷ k) = omega (arith, level_bound o)
top_bound (begun (else_of c x) ∷ k) = omega arith
top_bound (paren ∷ k) = omega arith
top_bound (if_of c ∷ k) = omega arith

pub ends_of_bound : (o : Option (List Symbol)) → ends_of o ≤ 5
ends_of_bound none = omega arith
ends_of_bound (some []) = omega arith
ends_of_bound (some (x ∷ ss)) = ends_bound x

-- what is looser stays
not_reduced : (l : ℕ) (t : Tree) (k : Stack) → top k ≤ l → reduce (suc l) t k ≡ (t, k)
unfolding reduce
not_reduced l t [] h = refl
not_reduced l t (begun b ∷ k) h = rw (lt-leb (suc l) (tightness b) (omega arith), reduce)
not_reduced l t (paren ∷ k) h = refl
not_reduced l t (if_of c ∷ k) h = refl

-- what is as tight takes the tree at once
reduced : (b : Begun) (t : Tree) (k : Stack) (o : Option (List Symbol)) → ends_of o ≤ tightness b → from (have t (begun b ∷ k)) o ≡ from (have (ended b t) k) o
unfolding reduce run
reduced b t k none h = refl
reduced b t k (some []) h = rw (le-leb 0 (tightness b) h, reduce)
reduced b t k (some (x ∷ r)) h = rw (le-leb (ends x) (tightness b) h, reduce)

letter_value : (vs : List Float) (i : ℕ) → i < length vs → get_or vs i nan ≡ heard (reading (map readings.Value vs) i)
letter_value [] i h = absurd (omega arith)
letter_value (v ∷ vs) zero h = refl
letter_value (v ∷ vs) (suc i) h = letter_value vs i (omega arith)

-- ---- the cycle: what each function returns, from what its calls return

module _ (vs : List Float) (s : List ℕ) where
  number_value : (v : Float) → value_with vs (number_tree v) ≡ v
  unfolding strict_value
  number_value v = refl

  -- what is read from a later offset on, when the reader is known to come there
  pub parses_later :
      (st st' : Stack → State) (l at p low low' : ℕ) (r : Maybe (Float × ℕ)) → ((k : Stack) → top k ≤ l → from (st k) (syms s at) ≡ from (st' k) (syms s p)) → low ≤ low'
      → ParsesAs vs s st' l p low' r → ParsesAs vs s st l at low r
  parses_later st st' l at p low low' (Some r) e h f =
      record { tree = f.tree; valued = f.valued; later = omega (arith, f.later); within = f.within; loose = f.loose; reads = λ k g. e k g ∙ f.reads k g }
  parses_later st st' l at p low low' None e h f = λ k g. e k g ∙ f k g

  module _ (at : ℕ) where
    -- expression
    pub expression_bad : (l : ℕ) → ParsesAs vs s wanted 6 at (at + 1) None → ParsesAs vs s wanted l at (at + 1) None
    expression_bad l f k h = f k (top_bound k)

    pub expression_is :
        (l : ℕ) {v : Float} {n : ℕ} (q : Maybe (Float × ℕ)) → Parses vs s wanted 6 at (at + 1) v n → ContinuesAs vs s have l n v q
        → ParsesAs vs s wanted l at (at + 1) q
    expression_is l {n = n} q z g =
        parses_later wanted (have z.tree) l at n (at + 1) n q (λ k h. z.reads k (top_bound k)) z.later (g z.tree z.valued)

    -- rest
    module _ (l : ℕ) (t : Tree) {v : Float} (ev : value_with vs t ≡ v) where
      pub rest_end : at ≤ length s → ends_of (syms s at) ≤ l → ParsesAs vs s (have t) l at at (Some (v, at))
      rest_end h e = record { tree = t; valued = ev; later = omega arith; within = h; loose = e; reads = λ k g. refl }

      pub rest_choice : {p : ℕ} (q : Maybe (Float × ℕ)) → SymbolAt s at question p → l ≡ 0 → ContinuesAs vs s in_if 0 p v q → ParsesAs vs s (have t) l at at q
      unfolding run
      rest_choice {p} q y e g =
          rw e
          (parses_later (have t) (in_if t) 0 at p at p q (λ k h. one_step s at (have t k) y ∙ rw (not_reduced 0 t k h) refl) (omega (arith, y.later)) (g t ev))

      module _
          {o : Operator} {p : ℕ} (y : SymbolAt s at (operator o) p) (lo : l ≤ level o) (m : ℕ) (em : m ≡ level o) where
        join_step : (k : Stack) → top k ≤ l → from (have t k) (syms s at) ≡ from (wanted (begun (left_of o t) ∷ k)) (syms s p)
        join_step k h = one_step s at (have t k) y ∙ rw (not_reduced (level o) t k (omega arith)) refl

        pub rest_bad : ParsesAs vs s wanted (m + 1) p (p + 1) None → ParsesAs vs s (have t) l at at None
        rest_bad f k h = join_step k h ∙ f (begun (left_of o t) ∷ k) (omega arith)

        pub rest_by :
            {u w : Float} {n : ℕ} (q : Maybe (Float × ℕ)) → Parses vs s wanted (m + 1) p (p + 1) u n → w ≡ strict_apply o v u
            → ContinuesAs vs s have l n w q → ParsesAs vs s (have t) l at at q
        unfolding strict_value
        rest_by {u} {w} {n} q z ew g =
            parses_later (have t) (have (binary o t z.tree)) l at n at n q
            (λ k h. join_step k h ∙ (z.reads (begun (left_of o t) ∷ k) (omega arith) ∙ reduced (left_of o t) z.tree k (syms s n) (omega (arith, z.loose))))
            (omega (arith, z.later, y.later))
            (g (binary o t z.tree) (rw (ev, z.valued) (sym ew)))

    -- branches
    module _ (c : Tree) {v : Float} (ec : value_with vs c ≡ v) where
      pub branches_bad : ParsesAs vs s wanted 0 at (at + 1) None → ParsesAs vs s (in_if c) 0 at at None
      branches_bad f k h = f (if_of c ∷ k) (omega arith)

      module _ {x : Float} {n : ℕ} (z : Parses vs s wanted 0 at (at + 1) x n) where
        pub branches_missing : MarkAt s n 58 None → ParsesAs vs s (in_if c) 0 at at None
        branches_missing m k h = z.reads (if_of c ∷ k) (omega arith) ∙ m (if_of c ∷ k) refl z.tree z.loose

        pub branches_is :
            {p : ℕ} (q : Maybe (Float × ℕ)) → SymbolAt s n colon p → ((d : Tree) → value_with vs d ≡ v → ContinuesAs vs s (in_else d) 0 p x q)
            → ParsesAs vs s (in_if c) 0 at at q
        unfolding reduce
        branches_is {p} q y g =
            parses_later (in_if c) (in_else c z.tree) 0 at p at p q
            (λ k h. z.reads (if_of c ∷ k) (omega arith) ∙ one_step s n (have z.tree (if_of c ∷ k)) y)
            (omega (arith, z.later, y.later))
            (g c ec z.tree z.valued)

    -- other
    module _ (c d : Tree) {v x : Float} (ec : value_with vs c ≡ v) (ed : value_with vs d ≡ x) where
      pub other_bad : ParsesAs vs s wanted 0 at (at + 1) None → ParsesAs vs s (in_else c d) 0 at at None
      other_bad f k h = f (begun (else_of c d) ∷ k) (omega arith)

      pub other_is : {y w : Float} {n : ℕ} → Parses vs s wanted 0 at (at + 1) y n → w ≡ strict_choice v x y → Parses vs s (in_else c d) 0 at at w n
      unfolding strict_value
      other_is {n = n} z ew =
          record {
            tree = choice c d z.tree;
            valued = rw (ec, ed, z.valued) (sym ew);
            later = omega (arith, z.later);
            within = z.within;
            loose = z.loose;
            reads = λ k h. z.reads (begun (else_of c d) ∷ k) (omega arith) ∙ reduced (else_of c d) z.tree k (syms s n) z.loose;
          }

    -- operand
    tree_at :
        (t : Tree) {x : Symbol} {v : Float} {n : ℕ} → SymbolAt s at x n → ((k : Stack) → first_of x k ≡ have t k) → value_with vs t ≡ v
        → Parses vs s wanted 6 at (at + 1) v n
    tree_at t {n = n} y e ev =
        record {
          tree = t;
          valued = ev;
          later = omega (arith, y.later);
          within = y.within;
          loose = omega (arith, ends_of_bound (syms s n));
          reads = λ k h. one_step s at (wanted k) y ∙ rw (e k) refl;
        }

    pub operand_number : {v : Float} {n : ℕ} → SymbolAt s at (number v) n → Parses vs s wanted 6 at (at + 1) v n
    operand_number {v} y = tree_at (number_tree v) y (λ k. refl) (number_value v)

    pub operand_letter :
        {i n : ℕ} {v : Float} → SymbolAt s at (letter i) n → i < length vs → v ≡ get_or vs i nan
        → Parses vs s wanted 6 at (at + 1) v n
    unfolding strict_value
    operand_letter {i} y h e = tree_at (letter_tree i) y (λ k. refl) (sym (e ∙ letter_value vs i h))

    -- a prefix b, or a parenthesis, before an operand
    module _ (b : Begun) (tb : tightness b ≡ 6) {x : Symbol} {p : ℕ} (y : SymbolAt s at x p) (xb : (k : Stack) → first_of x k ≡ wanted (begun b ∷ k)) where
      pub prefix_bad : ParsesAs vs s wanted 6 p (p + 1) None → ParsesAs vs s wanted 6 at (at + 1) None
      prefix_bad f k h = one_step s at (wanted k) y ∙ rw (xb k) (f (begun b ∷ k) (top_bound (begun b ∷ k)))

      pub prefix_is :
          {v w : Float} {n : ℕ} → Parses vs s wanted 6 p (p + 1) v n → ((t : Tree) → value_with vs t ≡ v → value_with vs (ended b t) ≡ w)
          → Parses vs s wanted 6 at (at + 1) w n
      prefix_is {n = n} z g =
          record {
            tree = ended b z.tree;
            valued = g z.tree z.valued;
            later = omega (arith, z.later, y.later);
            within = z.within;
            loose = z.loose;
            reads = λ k h. one_step s at (wanted k) y
                ∙ rw (xb k) (z.reads (begun b ∷ k) (top_bound (begun b ∷ k)) ∙ reduced b z.tree k (syms s n) (omega (arith, ends_of_bound (syms s n), tb)));
          }

    pub minus_is :
        {p : ℕ} (y : SymbolAt s at (operator op.Minus) p) {v : Float} {n : ℕ} → Parses vs s wanted 6 p (p + 1) v n
        → Parses vs s wanted 6 at (at + 1) (neg v) n
    unfolding strict_value
    minus_is y z = prefix_is minus_of refl y (λ k. refl) z (λ t et. rw et)

    pub not_is :
        {p : ℕ} (y : SymbolAt s at not_sign p) {v w : Float} {n : ℕ} → Parses vs s wanted 6 p (p + 1) v n → w ≡ strict_not v
        → Parses vs s wanted 6 at (at + 1) w n
    unfolding strict_value
    not_is y z ew = prefix_is not_of refl y (λ k. refl) z (λ t et. rw et (sym ew))

    module _ {p : ℕ} (y : SymbolAt s at open_paren p) where
      pub open_bad : ParsesAs vs s wanted 0 p (p + 1) None → ParsesAs vs s wanted 6 at (at + 1) None
      open_bad f k h = one_step s at (wanted k) y ∙ f (paren ∷ k) (omega arith)

      module _ {v : Float} {n : ℕ} (z : Parses vs s wanted 0 p (p + 1) v n) where
        pub open_missing : MarkAt s n 41 None → ParsesAs vs s wanted 6 at (at + 1) None
        open_missing m k h = one_step s at (wanted k) y ∙ (z.reads (paren ∷ k) (omega arith) ∙ m (paren ∷ k) refl z.tree z.loose)

        pub open_is : {q : ℕ} → SymbolAt s n close_paren q → Parses vs s wanted 6 at (at + 1) v q
        unfolding reduce
        open_is {q} u =
            record {
              tree = z.tree;
              valued = z.valued;
              later = omega (arith, z.later, y.later, u.later);
              within = u.within;
              loose = omega (arith, ends_of_bound (syms s q));
              reads = λ k h. one_step s at (wanted k) y ∙ (z.reads (paren ∷ k) (omega arith) ∙ one_step s n (have z.tree (paren ∷ k)) u);
            }

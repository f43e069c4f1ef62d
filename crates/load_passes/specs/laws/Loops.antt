-- The two loops over kept tokens: what holds at a loop's head holds again behind a token of the role, and behind another.
use Rattle.std.specs.Prelude.{List, ◌≡◌, refl, ℕ, ◌+◌, ◌*◌, ◌≤◌, ◌<◌, length, get_or}
use Rattle.std.proofs.Common.{sym, subst, ◌∙◌, arith, length-append, eq-eqb, ne_eqb}
use Rattle.spec_grammar.specs.declared.Role.{Role}
use Rattle.spec_grammar.specs.declared.Role.TheVariants.{RuleWord, UagNamed, HagNamed}
use Rattle.spec_grammar.specs.Sentence.{Tagged}
use Rattle.load_tokens.specs.Arrays.{role_of_number, tagged_at}
use Rattle.load_spans.specs.Roles.{RoleCode, SpansFit, arrays}
use Rattle.load_spans.specs.laws.Roles.{tokens_step, tokens_none, same_number}
use Rattle.byte_write.specs.Put.{Put}
use Rattle.byte_write.specs.laws.Puts.{put_put}
use Rattle.load_flags.specs.Tokens.{cut, texts_at, tokens_in}
use Rattle.load_records.specs.declared.Cursor.{Cursor}
use Rattle.load_records.specs.Work.{Work}
use Rattle.load_records.specs.Cursor.{Bounded, Emitted}
use Rattle.load_records.specs.Record.{emit, move}
use Rattle.load_records.specs.laws.Bounds.{bounded_more, bounded_move}
use Rattle.load_records.specs.laws.Steps.{StepAt}
use Rattle.load_records.specs.laws.Tokens.{between_limit}
use Rattle.load_passes.specs.Pass.{each_emits, each_moves, emits, moves, refer_emits, refer_moves, rule_emits, rule_moves}
use Rattle.load_passes.specs.Passed.{pass_limit, references_limit}
use Rattle.load_passes.specs.laws.Bounds.{bounded_on, bounded_rule, tokens_all_short, tokens_few}
use Rattle.load_passes.specs.laws.Each.{Head, each_moves_at, each_put, head_end, head_hit, head_miss, head_start}

-- ---- what a pass leaves, where roles stand as numbers

abbrev pub PassedAt : Work → ℕ → ℕ → List ℕ → List ℕ → List ℕ → List ℕ → List ℕ → ℕ → ℕ → List ℕ → List ℕ → Cursor → Cursor → Type 0
PassedAt w q m names s starts ends roles from to b c p r =
    let xs = tokens_in s starts ends roles from to in
    let ns = texts_at s starts ends names in
    Emitted b c p (emits (role_of_number q) (role_of_number m) ns w xs p) (moves (role_of_number q) (role_of_number m) ns w xs p) r

abbrev pub RulePassedAt : Work → List ℕ → List ℕ → List ℕ → List ℕ → List ℕ → List ℕ → ℕ → ℕ → List ℕ → List ℕ → Cursor → Cursor → Type 0
RulePassedAt w s starts ends roles uags hags i n b c p r =
    let ys = cut RuleWord (tokens_in s starts ends roles (i + 1) n) in
    let us = texts_at s starts ends uags in
    let hs = texts_at s starts ends hags in
    Emitted b c p (rule_emits w us hs ys p) (rule_moves w us hs ys p) r

abbrev pub ReferencesPassedAt : Work → List ℕ → List ℕ → List ℕ → List ℕ → List ℕ → List ℕ → ℕ → ℕ → List ℕ → List ℕ → Cursor → Cursor → Type 0
ReferencesPassedAt w s starts ends roles uags hags from n b c p r =
    let xs = tokens_in s starts ends roles from n in
    let us = texts_at s starts ends uags in
    let hs = texts_at s starts ends hags in
    Emitted b c p (refer_emits w us hs xs p) (refer_moves w us hs xs p) r

-- ---- a pass, the references of one rule, and those of all rules: where the cursor stands behind them

module _ (q m : Role) (names : List (List ℕ)) (w : Work) where
  pub moves_at : (xs : List Tagged) (p : Cursor) → (moves q m names w xs p).at ≡ p.at + length (emits q m names w xs p)
  moves_at = each_moves_at q (emit q m names w) (move q m names w) (λ x xs p. refl)

  pub pass_put :
      {b c : List ℕ} (xs : List Tagged) {p t r : Cursor} → p ≡ t → Emitted b c p (emits q m names w xs p) (moves q m names w xs p) r
      → Put b c t.at (emits q m names w xs t) (moves q m names w xs t).at × (r ≡ moves q m names w xs t)
  pass_put = each_put q (emit q m names w) (move q m names w) (λ x xs p. refl)

module _ (w : Work) (us hs : List (List ℕ)) where
  rule_moves_at : (ys : List Tagged) (p : Cursor) → (rule_moves w us hs ys p).at ≡ p.at + length (rule_emits w us hs ys p)
  rule_moves_at ys p =
      let t = moves UagNamed UagNamed us w ys p in
      omega (
        arith,
        moves_at UagNamed UagNamed us w ys p,
        moves_at HagNamed HagNamed hs w ys t,
        length-append (emits UagNamed UagNamed us w ys p) (emits HagNamed HagNamed hs w ys t),
      )

  abbrev rule_e : Tagged → List Tagged → Cursor → List ℕ
  rule_e x xs p = rule_emits w us hs (cut RuleWord xs) p

  abbrev rule_m : Tagged → List Tagged → Cursor → Cursor
  rule_m x xs p = rule_moves w us hs (cut RuleWord xs) p

  pub refer_moves_at : (xs : List Tagged) (p : Cursor) → (refer_moves w us hs xs p).at ≡ p.at + length (refer_emits w us hs xs p)
  refer_moves_at = each_moves_at RuleWord rule_e rule_m (λ x xs p. rule_moves_at (cut RuleWord xs) p)

  pub references_put :
      {b c : List ℕ} (xs : List Tagged) {p t r : Cursor} → p ≡ t → Emitted b c p (refer_emits w us hs xs p) (refer_moves w us hs xs p) r
      → Put b c t.at (refer_emits w us hs xs t) (refer_moves w us hs xs t).at × (r ≡ refer_moves w us hs xs t)
  references_put = each_put RuleWord rule_e rule_m (λ x xs p. rule_moves_at (cut RuleWord xs) p)

  -- user groups, then host groups
  pub rule_done :
      {b c d : List ℕ} {p u r : Cursor} (xs ys : List Tagged) → cut RuleWord xs ≡ ys
      → Emitted b c p (emits UagNamed UagNamed us w ys p) (moves UagNamed UagNamed us w ys p) u
      → Emitted c d u (emits HagNamed HagNamed hs w ys u) (moves HagNamed HagNamed hs w ys u) r
      → Emitted b d p (rule_emits w us hs (cut RuleWord xs) p) (rule_moves w us hs (cut RuleWord xs) p) r
  rule_done {b} {d = d} {p} {r = r} xs ys e l m =
      let a = pass_put UagNamed UagNamed us w ys refl l in
      let z = pass_put HagNamed HagNamed hs w ys a.1 m in
      subst
      (λ (ys : List Tagged). Emitted b d p (rule_emits w us hs ys p) (rule_moves w us hs ys p) r)
      (sym e)
      (record { bytes = (put_put a.0 z.0).bytes; moved = z.1 })

-- ---- a turn of a loop over kept tokens

module _
    (q : ℕ) (e : Tagged → List Tagged → Cursor → List ℕ) (m : Tagged → List Tagged → Cursor → Cursor) (s starts ends roles : List ℕ) (tq : RoleCode q)
    {i to : ℕ} {b₀ : List ℕ} {p₀ : Cursor} {xs₀ : List Tagged} where
  turn_hit :
      ((x : Tagged) (xs : List Tagged) (p : Cursor) → (m x xs p).at ≡ p.at + length (e x xs p))
      → {b c : List ℕ} {p r : Cursor} → i < to → get_or roles i 0 ≡ q
      → Emitted b c p
      (e (tagged_at s (arrays starts ends) roles i) (tokens_in s starts ends roles (i + 1) to) p)
      (m (tagged_at s (arrays starts ends) roles i) (tokens_in s starts ends roles (i + 1) to) p)
      r
      → Head (role_of_number q) e m b₀ p₀ xs₀ b p (tokens_in s starts ends roles i to)
      → Head (role_of_number q) e m b₀ p₀ xs₀ c r (tokens_in s starts ends roles (i + 1) to)
  turn_hit by h g d l =
      head_hit
      (role_of_number q)
      e
      m
      by
      (same_number (get_or roles i 0) q tq ∙ eq-eqb (get_or roles i 0) q g)
      d
      (rw (tokens_step s (arrays starts ends) roles i to h) at l)

  turn_miss :
      {b : List ℕ} {p : Cursor} → i < to → (get_or roles i 0 ≡ q → ⊥)
      → Head (role_of_number q) e m b₀ p₀ xs₀ b p (tokens_in s starts ends roles i to)
      → Head (role_of_number q) e m b₀ p₀ xs₀ b p (tokens_in s starts ends roles (i + 1) to)
  turn_miss h g l =
      head_miss
      (role_of_number q)
      e
      m
      (same_number (get_or roles i 0) q tq ∙ ne_eqb (get_or roles i 0) q g)
      (rw (tokens_step s (arrays starts ends) roles i to h) at l)

  turn_end :
      {b : List ℕ} {p : Cursor} → to ≤ i → Head (role_of_number q) e m b₀ p₀ xs₀ b p (tokens_in s starts ends roles i to)
      → Emitted b₀ b p₀ (each_emits (role_of_number q) e m xs₀ p₀) (each_moves (role_of_number q) m xs₀ p₀) p
  turn_end h l = head_end (role_of_number q) e m (rw (tokens_none s (arrays starts ends) roles i to h) at l)

-- ---- the loop of a pass

module _ (w : Work) (q m : ℕ) (names s starts ends roles : List ℕ) (from to : ℕ) (b₀ : List ℕ) (p₀ : Cursor) where
  abbrev pass_e : Tagged → List Tagged → Cursor → List ℕ
  pass_e = emit (role_of_number q) (role_of_number m) (texts_at s starts ends names) w

  abbrev pass_m : Tagged → List Tagged → Cursor → Cursor
  pass_m = move (role_of_number q) (role_of_number m) (texts_at s starts ends names) w

  -- at the i-th token
  pub record PassHead (b : List ℕ) (p : Cursor) (i : ℕ) : Type 0 where
    pub bounded : Bounded (pass_limit + 65536 * i) p
    pub head : Head (role_of_number q) pass_e pass_m b₀ p₀ (tokens_in s starts ends roles from to) b p (tokens_in s starts ends roles i to)

  pub pass_start : Bounded pass_limit p₀ → PassHead b₀ p₀ from
  pass_start n =
      record { bounded = bounded_more (omega arith) n; head = head_start (role_of_number q) pass_e pass_m b₀ p₀ (tokens_in s starts ends roles from to) }

  pub pass_hit :
      {b c : List ℕ} {p r : Cursor} {i : ℕ} → RoleCode q → SpansFit s starts ends roles to → i < to → get_or roles i 0 ≡ q → PassHead b p i
      → StepAt w q m names s starts ends roles i to b c p r → PassHead c r (i + 1)
  pass_hit {p = p} {i = i} tq spans h g l d =
      let short = between_limit s (get_or starts i 0) (get_or ends i 0) spans.short in
      let one = bounded_move (role_of_number q) (role_of_number m) (texts_at s starts ends names) w {p = p} (tagged_at s (arrays starts ends) roles i) short in
      record {
        bounded = bounded_on d (bounded_more (omega arith) (one (tokens_all_short spans (i + 1)) (tokens_few spans (i + 1)) l.bounded));
        head = turn_hit q pass_e pass_m s starts ends roles tq (λ x xs p. refl) h g d l.head;
      }

  pub pass_miss : {b : List ℕ} {p : Cursor} {i : ℕ} → RoleCode q → i < to → (get_or roles i 0 ≡ q → ⊥) → PassHead b p i → PassHead b p (i + 1)
  pass_miss tq h g l =
      record { bounded = bounded_more (omega arith) l.bounded; head = turn_miss q pass_e pass_m s starts ends roles tq h g l.head }

  pub pass_end : {b : List ℕ} {p : Cursor} {i : ℕ} → RoleCode q → to ≤ i → PassHead b p i → PassedAt w q m names s starts ends roles from to b₀ b p₀ p
  pass_end tq h l = turn_end q pass_e pass_m s starts ends roles tq h l.head

-- ---- the loop over rules

pub rule_word_known : RoleCode 8
rule_word_known = record { some = omega arith; known = omega arith }

module _ (w : Work) (s starts ends roles uags hags : List ℕ) (from to : ℕ) (b₀ : List ℕ) (p₀ : Cursor) where
  abbrev us : List (List ℕ)
  us = texts_at s starts ends uags

  abbrev hs : List (List ℕ)
  hs = texts_at s starts ends hags

  pub record RulesHead (b : List ℕ) (p : Cursor) (i : ℕ) : Type 0 where
    pub bounded : Bounded (references_limit + 2147483648 * i) p
    pub head : Head RuleWord (rule_e w us hs) (rule_m w us hs) b₀ p₀ (tokens_in s starts ends roles from to) b p (tokens_in s starts ends roles i to)

  pub rules_start : Bounded references_limit p₀ → RulesHead b₀ p₀ from
  rules_start n =
      record {
        bounded = bounded_more (omega arith) n;
        head = head_start RuleWord (rule_e w us hs) (rule_m w us hs) b₀ p₀ (tokens_in s starts ends roles from to);
      }

  pub rules_hit :
      {b c : List ℕ} {p r : Cursor} {i : ℕ} → SpansFit s starts ends roles to → i < to → get_or roles i 0 ≡ 8 → RulesHead b p i
      → RulePassedAt w s starts ends roles uags hags i to b c p r → RulesHead c r (i + 1)
  rules_hit {i = i} spans h g l d =
      record {
        bounded = bounded_on d (bounded_more (omega arith) (bounded_rule w us hs (tokens_all_short spans (i + 1)) (tokens_few spans (i + 1)) l.bounded));
        head =
            turn_hit 8 (rule_e w us hs) (rule_m w us hs) s starts ends roles rule_word_known (λ x xs p. rule_moves_at w us hs (cut RuleWord xs) p) h g
            d l.head;
      }

  pub rules_miss : {b : List ℕ} {p : Cursor} {i : ℕ} → i < to → (get_or roles i 0 ≡ 8 → ⊥) → RulesHead b p i → RulesHead b p (i + 1)
  rules_miss h g l =
      record {
        bounded = bounded_more (omega arith) l.bounded;
        head = turn_miss 8 (rule_e w us hs) (rule_m w us hs) s starts ends roles rule_word_known h g l.head;
      }

  pub rules_end : {b : List ℕ} {p : Cursor} {i : ℕ} → to ≤ i → RulesHead b p i → ReferencesPassedAt w s starts ends roles uags hags from to b₀ b p₀ p
  rules_end h l = turn_end 8 (rule_e w us hs) (rule_m w us hs) s starts ends roles rule_word_known h l.head

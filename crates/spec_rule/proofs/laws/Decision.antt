-- Verdicts are a monoid, what two lists of rules give is joined out of what each gives, and the decision is the verdict settled.
use Rattle.std.specs.Prelude.{◌≡◌, refl, Bool, true, false, cond, ◌&&◌, List, [], ◌∷◌, ◌++◌, map, ℕ, leb}
use Rattle.std.proofs.Common.{sym, ap, ap₂, ◌∙◌, append-nil}
use Rattle.std.proofs.lemmas.Bool.{false≢true}
use Rattle.std.proofs.Math.Option.{Option, none, some}
use Rattle.spec_lists.specs.Select.{select, prepend_if, first, first_if}
use Rattle.spec_calc.specs.declared.Reading.{Reading}
use Rattle.spec_calc.specs.declared.Worth.{Worth}
use Rattle.spec_calc.specs.declared.Worth.TheVariants.{NoCalculation, BadBy, BadByArithmetic, Is}
use Rattle.spec_calc.specs.Value.{worth, near_one, true_worth}
use Rattle.spec_calc.specs.Reader.{tree_of}
use Rattle.spec_rule.specs.declared.Access.{Access}
use Rattle.spec_rule.specs.declared.Access.TheVariants as access
use Rattle.spec_rule.specs.declared.Stop.{Stop}
use Rattle.spec_rule.specs.declared.Stop.TheVariants.{Nothing, Letter}
use Rattle.spec_rule.specs.declared.Outcome.{Outcome}
use Rattle.spec_rule.specs.declared.Outcome.TheVariants as outcomes
use Rattle.spec_rule.specs.declared.Decision.{Decision}
use Rattle.spec_rule.specs.declared.Verdict.{Verdict}
use Rattle.spec_rule.specs.Question.{Question}
use Rattle.spec_rule.specs.Rule.{Rule, rank, stands, passes, calculation_holds, greater, greatest, gives_write, trap_of, access_by}
use Rattle.spec_rule.specs.Rule.{judged, outcome, stop_above, stop_by, or_else, letter_by}
use Rattle.spec_rule.specs.Decision.{with_letter, granted, decision_by}
use Rattle.spec_rule.specs.Verdict.{verdict, nothing_given, by_outcome, by_rule, then, verdict_by, normal, normal_by, stop_at, settled}
use Rattle.spec_rule.proofs.laws.Passing.{passes_stands}

-- a law of every access, by its three cases
three : (P : Access → Type 0) → P access.None → P access.Read → P access.Write → (a : Access) → P a
three P n r w access.None = n
three P n r w access.Read = r
three P n r w access.Write = w

-- ---- stops

or_else_associative : (x y z : Stop) → or_else (or_else x y) z ≡ or_else x (or_else y z)
or_else_associative Nothing y z = refl
or_else_associative (Letter i) y z = refl

or_else_nothing : (x : Stop) → or_else x Nothing ≡ x
or_else_nothing Nothing = refl
or_else_nothing (Letter i) = refl

-- ---- the monoid

-- stops beside, verdicts are joined as their access and trap are
module _ {l h l' h' : Stop} (x : l ≡ l') (y : h ≡ h') where
  with_stops : (a : Access) (t : Bool) → verdict a t l h ≡ verdict a t l' h'
  with_stops a t = ap₂ (verdict a t) x y

pub then_associative : (u v w : Verdict) → then (then u v) w ≡ then u (then v w)
then_associative u v w = go u.access v.access w.access
  where
    one : Access → Verdict
    one a = verdict a u.trap u.low u.high

    two : Access → Verdict
    two a = verdict a v.trap v.low v.high

    last : Access → Verdict
    last a = verdict a w.trap w.low w.high

    Regroups : Access → Access → Access → Type 0
    Regroups a b c = then (then (one a) (two b)) (last c) ≡ then (one a) (then (two b) (last c))

    stops : (a : Access) (t : Bool) → verdict a t (or_else (or_else u.low v.low) w.low) (or_else (or_else u.high v.high) w.high)
        ≡ verdict a t (or_else u.low (or_else v.low w.low)) (or_else u.high (or_else v.high w.high))
    stops = with_stops (or_else_associative u.low v.low w.low) (or_else_associative u.high v.high w.high)

    go : (a b c : Access) → Regroups a b c
    go =
        three
        (λ a. (b c : Access) → Regroups a b c)
        (three
        (λ b. (c : Access) → Regroups access.None b c)
        (three (Regroups access.None access.None) (stops access.None w.trap) (stops access.Read w.trap) (stops access.Write w.trap))
        (three (Regroups access.None access.Read) (stops access.Read w.trap) (stops access.Read w.trap) (stops access.Write w.trap))
        (three (Regroups access.None access.Write) (stops access.Write v.trap) (stops access.Write v.trap) (stops access.Write v.trap)))
        (three
        (λ b. (c : Access) → Regroups access.Read b c)
        (three (Regroups access.Read access.None) (stops access.Read w.trap) (stops access.Read w.trap) (stops access.Write w.trap))
        (three (Regroups access.Read access.Read) (stops access.Read w.trap) (stops access.Read w.trap) (stops access.Write w.trap))
        (three (Regroups access.Read access.Write) (stops access.Write v.trap) (stops access.Write v.trap) (stops access.Write v.trap)))
        (three
        (λ b. (c : Access) → Regroups access.Write b c)
        (three (Regroups access.Write access.None) (stops access.Write u.trap) (stops access.Write u.trap) (stops access.Write u.trap))
        (three (Regroups access.Write access.Read) (stops access.Write u.trap) (stops access.Write u.trap) (stops access.Write u.trap))
        (three (Regroups access.Write access.Write) (stops access.Write u.trap) (stops access.Write u.trap) (stops access.Write u.trap)))

-- behind stops alone
stops_then : (l h : Stop) (v : Verdict) → then (verdict access.None false l h) v ≡ verdict v.access v.trap (or_else l v.low) (or_else h v.high)
stops_then l h v =
    three
    (λ a.
    then (verdict access.None false l h) (verdict a v.trap v.low v.high)
    ≡ verdict a v.trap (or_else l v.low) (or_else h v.high))
    refl
    refl
    refl
    v.access

pub nothing_then : (v : Verdict) → then nothing_given v ≡ v
nothing_then v = stops_then Nothing Nothing v

-- ---- what lists of rules give

-- a calculation is true exactly if that is what it comes to
abbrev comes_true : Outcome → Bool
comes_true outcomes.True = true
comes_true outcomes.False = false
comes_true (outcomes.Stopped i) = false

pub holds_outcome : (rs : List Reading) (o : Option (List ℕ)) → calculation_holds rs o ≡ comes_true (outcome rs o)
holds_outcome rs none = refl
holds_outcome rs (some s) = go (worth rs (tree_of s))
  where
    near : (b : Bool) → b ≡ comes_true (cond b outcomes.True outcomes.False)
    near true = refl
    near false = refl

    go : (w : Worth) → true_worth w ≡ comes_true (judged w)
    go NoCalculation = refl
    go (BadBy i) = refl
    go BadByArithmetic = refl
    go (Is x) = near (near_one x)

module _ (q : Question) where
  pub verdict_first : (r : Rule) (rs : List Rule) → verdict_by q (r ∷ rs) ≡ then (by_rule q r) (verdict_by q rs)
  verdict_first r rs = ap counted by_parts ∙ go (stands q r) (outcome q.readings r.calculation)
    where
      by_parts : passes q r ≡ stands q r && comes_true (outcome q.readings r.calculation)
      by_parts = passes_stands q r ∙ ap (λ (b : Bool). stands q r && b) (holds_outcome q.readings r.calculation)

      passing : Bool → List Rule
      passing b = prepend_if b r (select (passes q) rs)

      given : Bool → Stop → Stop → Verdict
      given b l h = verdict (greatest (map (λ x. x.permission) (passing b))) (trap_of (first gives_write (passing b))) l h

      counted : Bool → Verdict
      counted b = given b (letter_by q access.None (r ∷ rs)) (letter_by q access.Read (r ∷ rs))

      trap : (w : Bool) (o : Option Rule) → trap_of (first_if w r o) ≡ cond w (cond w r.trap false) (trap_of o)
      trap true o = refl
      trap false o = refl

      stop : Bool → Access → Outcome → Stop
      stop s a o = or_else (cond s (stop_above a r.permission o) Nothing) (letter_by q a rs)

      go :
          (s : Bool) (o : Outcome)
          → given (s && comes_true o) (stop s access.None o) (stop s access.Read o) ≡ then (cond s (by_outcome o (granted r)) nothing_given) (verdict_by q rs)
      go true outcomes.True =
          ap
          (λ (t : Bool). verdict (greater r.permission (access_by q rs)) t (letter_by q access.None rs) (letter_by q access.Read rs))
          (trap (gives_write r) (first gives_write (select (passes q) rs)))
      go true outcomes.False = sym (nothing_then (verdict_by q rs))
      go true (outcomes.Stopped i) =
          sym (
          stops_then
          (stop_above access.None r.permission (outcomes.Stopped i))
          (stop_above access.Read r.permission (outcomes.Stopped i))
          (verdict_by q rs)
          )
      go false o = sym (nothing_then (verdict_by q rs))

  pub verdict_joined : (xs ys : List Rule) → verdict_by q (xs ++ ys) ≡ then (verdict_by q xs) (verdict_by q ys)
  verdict_joined [] ys = sym (nothing_then (verdict_by q ys))
  verdict_joined (x ∷ xs) ys =
      verdict_first x (xs ++ ys)
      ∙ ap (then (by_rule q x)) (verdict_joined xs ys)
      ∙ sym (then_associative (by_rule q x) (verdict_by q xs) (verdict_by q ys))
      ∙ ap (λ (v : Verdict). then v (verdict_by q ys)) (sym (verdict_first x xs))

  -- right of what rules give, nothing is neutral too: they set a trap only with WRITE
  then_nothing : (xs : List Rule) → then (verdict_by q xs) nothing_given ≡ verdict_by q xs
  then_nothing xs = sym (verdict_joined xs []) ∙ ap (verdict_by q) (append-nil xs)

  -- ---- the decision

  none_above_write : (r : Rule) → stop_by q access.Write r ≡ Nothing
  none_above_write r = go (stands q r) (outcome q.readings r.calculation) r.permission
    where
      go : (s : Bool) (o : Outcome) (p : Access) → cond s (stop_above access.Write p o) Nothing ≡ Nothing
      go true outcomes.True p = refl
      go true outcomes.False p = refl
      go true (outcomes.Stopped i) access.None = refl
      go true (outcomes.Stopped i) access.Read = refl
      go true (outcomes.Stopped i) access.Write = refl
      go false o p = refl

  nothing_above_write : (rs : List Rule) → letter_by q access.Write rs ≡ Nothing
  nothing_above_write [] = refl
  nothing_above_write (r ∷ rs) = rw (none_above_write r, nothing_above_write rs)

  pub decision_settled : (rs : List Rule) → decision_by q rs ≡ settled (verdict_by q rs)
  decision_settled rs = ap₂ (with_letter (access_by q rs)) (ap (λ (v : Verdict). v.trap) (sym (then_nothing rs))) (go (access_by q rs))
    where
      go : (a : Access) → letter_by q a rs ≡ stop_at a (letter_by q access.None rs) (letter_by q access.Read rs)
      go access.None = refl
      go access.Read = refl
      go access.Write = nothing_above_write rs

-- ---- rule by rule: what the access has passed may be forgotten at once

pub normal_then : (v w : Verdict) → normal (then v w) ≡ normal (then (normal v) w)
normal_then v w = go v.access w.access
  where
    one : Access → Verdict
    one a = verdict a v.trap v.low v.high

    two : Access → Verdict
    two a = verdict a w.trap w.low w.high

    Forgets : Access → Access → Type 0
    Forgets a b = normal (then (one a) (two b)) ≡ normal (then (normal (one a)) (two b))

    go : (a b : Access) → Forgets a b
    go =
        three
        (λ a. (b : Access) → Forgets a b)
        (three (Forgets access.None) refl refl refl)
        (three (Forgets access.Read) refl refl refl)
        (three (Forgets access.Write) refl refl refl)

-- a rule that stands and offers d, behind rules that give v, by what its calculation comes to
module _ (v : Verdict) (d : Decision) where
  abbrev turn : Access → Access → Outcome → Verdict
  turn a p o = normal (then (verdict a v.trap v.low v.high) (by_outcome o (with_letter p d.trap d.letter)))

  abbrev stays : Access → Verdict
  stays a = normal_by a v.trap v.low v.high

  same_stops : (a : Access) → normal_by a v.trap (or_else v.low Nothing) (or_else v.high Nothing) ≡ stays a
  same_stops a = ap₂ (normal_by a v.trap) (or_else_nothing v.low) (or_else_nothing v.high)

  -- it can give no more
  pub idle : (o : Outcome) → normal v ≡ v → leb (rank d.access) (rank v.access) ≡ true → normal (then v (by_outcome o d)) ≡ v
  idle o e h = go v.access d.access o h ∙ e
    where
      go : (a p : Access) (x : Outcome) → leb (rank p) (rank a) ≡ true → turn a p x ≡ stays a
      go access.None access.None outcomes.True l = same_stops access.None
      go access.None access.None outcomes.False l = same_stops access.None
      go access.None access.None (outcomes.Stopped i) l = same_stops access.None
      go access.None access.Read x l = absurd (false≢true l)
      go access.None access.Write x l = absurd (false≢true l)
      go access.Read access.None outcomes.True l = same_stops access.Read
      go access.Read access.None outcomes.False l = same_stops access.Read
      go access.Read access.None (outcomes.Stopped i) l = same_stops access.Read
      go access.Read access.Read outcomes.True l = same_stops access.Read
      go access.Read access.Read outcomes.False l = same_stops access.Read
      go access.Read access.Read (outcomes.Stopped i) l = same_stops access.Read
      go access.Read access.Write x l = absurd (false≢true l)
      go access.Write p outcomes.True l = three (λ x. turn access.Write x outcomes.True ≡ stays access.Write) refl refl refl p
      go access.Write p outcomes.False l = refl
      go access.Write p (outcomes.Stopped i) l = refl

  -- it does not pass, and no letter stops it
  pub failed : normal v ≡ v → normal (then v (by_outcome outcomes.False d)) ≡ v
  failed e = three (λ a. turn a d.access outcomes.False ≡ stays a) (same_stops access.None) (same_stops access.Read) refl v.access ∙ e

  module _ (h : leb (rank d.access) (rank v.access) ≡ false) where
    -- it passes, and gives more
    pub taken : normal (then v (by_outcome outcomes.True d)) ≡ normal_by d.access d.trap v.low v.high
    taken = go v.access d.access h
      where
        go : (a p : Access) → leb (rank p) (rank a) ≡ false → turn a p outcomes.True ≡ normal_by p d.trap v.low v.high
        go access.None access.None l = absurd (false≢true (sym l))
        go access.None access.Read l = ap (verdict access.Read false Nothing) (or_else_nothing v.high)
        go access.None access.Write l = refl
        go access.Read access.None l = absurd (false≢true (sym l))
        go access.Read access.Read l = absurd (false≢true (sym l))
        go access.Read access.Write l = refl
        go access.Write access.None l = absurd (false≢true (sym l))
        go access.Write access.Read l = absurd (false≢true (sym l))
        go access.Write access.Write l = absurd (false≢true (sym l))

    -- a letter stops it, and it would give more
    pub halted :
        (i : ℕ)
        → normal (then v (by_outcome (outcomes.Stopped i) d))
        ≡ normal_by v.access v.trap (or_else v.low (Letter i)) (or_else v.high (stop_above access.Read d.access (outcomes.Stopped i)))
    halted i = go v.access d.access h
      where
        go :
            (a p : Access) → leb (rank p) (rank a) ≡ false
            → turn a p (outcomes.Stopped i)
            ≡ normal_by a v.trap (or_else v.low (Letter i)) (or_else v.high (stop_above access.Read p (outcomes.Stopped i)))
        go access.None access.None l = absurd (false≢true (sym l))
        go access.None access.Read l = refl
        go access.None access.Write l = refl
        go access.Read access.None l = absurd (false≢true (sym l))
        go access.Read access.Read l = absurd (false≢true (sym l))
        go access.Read access.Write l = refl
        go access.Write access.None l = absurd (false≢true (sym l))
        go access.Write access.Read l = absurd (false≢true (sym l))
        go access.Write access.Write l = absurd (false≢true (sym l))

-- a rule, behind rules that give v
module _ (q : Question) (r : Rule) (v : Verdict) (e : normal v ≡ v) where
  pub rule_fails : stands q r ≡ false → v ≡ normal (then v (by_rule q r))
  rule_fails h = rw h (sym (failed v (granted r) e))

  pub rule_idle : leb (rank r.permission) (rank v.access) ≡ true → v ≡ normal (then v (by_rule q r))
  rule_idle l = go (stands q r) refl
    where
      o : Outcome
      o = outcome q.readings r.calculation

      go : (s : Bool) → stands q r ≡ s → v ≡ normal (then v (by_rule q r))
      go true h = rw h (sym (idle v (granted r) o e l))
      go false h = rule_fails h

  pub rule_tried :
      {w : Verdict} {o : Outcome} → stands q r ≡ true → o ≡ outcome q.readings r.calculation → w ≡ normal (then v (by_outcome o (granted r)))
      → w ≡ normal (then v (by_rule q r))
  rule_tried h k f = f ∙ rw (h, k) refl

-- ---- what is to do behind rules that give v: the rest gives the whole, and what is forgotten does not count

pub settled_normal : (v : Verdict) → settled (normal v) ≡ settled v
settled_normal v =
    three
    (λ a. settled (normal_by a v.trap v.low v.high) ≡ settled (verdict a v.trap v.low v.high))
    refl
    refl
    refl
    v.access

-- one rule less to do
pub turned : (v : Verdict) {w : Verdict} (one rest : Verdict) → w ≡ normal (then v one) → settled (then v (then one rest)) ≡ settled (then w rest)
turned v one rest e =
    ap settled (sym (then_associative v one rest))
    ∙ sym (settled_normal (then (then v one) rest))
    ∙ ap settled (normal_then (then v one) rest)
    ∙ settled_normal (then (normal (then v one)) rest)
    ∙ ap (λ (x : Verdict). settled (then x rest)) (sym e)

-- a verdict that has forgotten has nothing more to forget
pub normal_normal : (v : Verdict) → normal (normal v) ≡ normal v
normal_normal v =
    three
    (λ a. normal (normal_by a v.trap v.low v.high) ≡ normal_by a v.trap v.low v.high)
    refl
    refl
    refl
    v.access

-- nothing to do
pub settled_end : (v : Verdict) → settled (then v nothing_given) ≡ settled v
settled_end v =
    three
    (λ a. settled (then (verdict a v.trap v.low v.high) nothing_given) ≡ settled (verdict a v.trap v.low v.high))
    (ap (with_letter access.None false) (or_else_nothing v.low))
    (ap (with_letter access.Read false) (or_else_nothing v.high))
    refl
    v.access

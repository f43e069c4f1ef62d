-- Roles that fit, valid questions, and roles as they are lent.
use Rattle.std.specs.Prelude.{◌≡◌, refl, true, List, [], ◌∷◌, ◌++◌, map, ◌↔◌, ℕ, ◌≤◌, ◌<◌, leb, length, take, drop}
use Rattle.std.proofs.Common.{ap, ap₂, ◌∙◌, append_assoc, arith, length-append, leb-true, le-leb}
use Rattle.std.proofs.Math.Seq.{take-append_seam, drop-append_seam}
use Rattle.std.proofs.lemmas.Bool.{lt-leb}
use Rattle.spec_lists.specs.Select.{all, joined, total}
use Rattle.spec_lists.specs.Every.{Every, nil, cons}
use Rattle.spec_lists.proofs.laws.Both.{both}
use Rattle.spec_lists.proofs.laws.Every.{every_implies, every_all, all_every}
use Rattle.spec_lists.proofs.laws.Sums.{sum_total, length_joined}
use Rattle.spec_rule.specs.Answering.{greatest_level, a_level}
use Rattle.spec_rule.specs.Roles.{most_roles, longest_role, RolesFit, roles_fit, cut_roles, lent_roles}
use Rattle.spec_rule.specs.Question.{Question, with_roles, Valid, valid}

pub roles_fit_is : (roles : List (List ℕ)) → (roles_fit roles ≡ true) ↔ RolesFit roles
roles_fit_is roles = (sound, complete)
  where
    sound : roles_fit roles ≡ true → RolesFit roles
    sound e =
        let h = both (leb (length roles) most_roles) (all (λ r. leb (length r) longest_role) roles) e in
        record {
          count = leb-true (length roles) most_roles h.0;
          each = every_implies (λ r. leb-true (length r) longest_role) (all_every (λ r. leb (length r) longest_role) roles h.1);
        }

    complete : RolesFit roles → roles_fit roles ≡ true
    complete f =
        rw (le-leb (length roles) most_roles f.count)
        (every_all (λ r. leb (length r) longest_role) (every_implies (λ r. le-leb (length r) longest_role) f.each))

pub no_roles_fit : RolesFit []
no_roles_fit = record { count = omega arith; each = nil }

fewer_fit : (before : List (List ℕ)) (role : List ℕ) (behind : List (List ℕ)) → RolesFit (before ++ (role ∷ behind)) → RolesFit (before ++ behind)
fewer_fit before role behind f =
    let n = length-append before (role ∷ behind) in
    let m = length-append before behind in
    record { count = let c = f.count in omega arith; each = short before f.each }
  where
    short :
        (xs : List (List ℕ)) → Every (λ r. length r ≤ longest_role) (xs ++ (role ∷ behind)) → Every (λ r. length r ≤ longest_role) (xs ++ behind)
    short [] (cons h e) = e
    short (x ∷ xs) (cons h e) = cons h (short xs e)

-- a valid question with a role less is valid
pub fewer_valid :
    (q : Question) → Valid q → (before : List (List ℕ)) (role : List ℕ) (behind : List (List ℕ)) → q.roles ≡ before ++ (role ∷ behind)
    → Valid (with_roles q (before ++ behind))
fewer_valid q v before role behind e = record { level = v.level; roles = fewer_fit before role behind (rw e at v.roles) }

pub valid_is : (q : Question) → (valid q ≡ true) ↔ Valid q
valid_is q = (
  λ e.
      let h = both (a_level q.level) (roles_fit q.roles) e in
      record { level = leb-true q.level greatest_level h.0; roles = (roles_fit_is q.roles).0 h.1 },
  λ v. rw (le-leb q.level greatest_level v.level) ((roles_fit_is q.roles).1 v.roles),
)

-- ---- as they are lent

cut_all : (roles : List (List ℕ)) (rest : List ℕ) → cut_roles (joined roles ++ rest) (map length roles) ≡ roles
cut_all [] rest = refl
cut_all (r ∷ roles) rest =
    let e = append_assoc r (joined roles) rest in
    let first = ap (take (length r)) e ∙ take-append_seam r (joined roles ++ rest) in
    let others = ap (drop (length r)) e ∙ drop-append_seam r (joined roles ++ rest) in
    ap₂
    (λ (x : List ℕ) (xs : List (List ℕ)). x ∷ xs)
    first
    (ap (λ (p : List ℕ). cut_roles p (map length roles)) others ∙ cut_all roles rest)

-- roles put one behind the other, whatever stands behind them, and their lengths are those roles
pub lent_are : (roles : List (List ℕ)) (rest : List ℕ) → lent_roles (joined roles ++ rest) (map length roles) ≡ roles
lent_are roles rest =
    let n = length-append (joined roles) rest in
    let m = length_joined roles in
    let k = sum_total length roles in
    rw (le-leb (total (map length roles)) (length (joined roles ++ rest)) (omega arith)) (cut_all roles rest)

-- lengths that pass the pool are refused
pub lent_past : (pool ns : List ℕ) → length pool < total ns → RolesFit (lent_roles pool ns) → ⊥
lent_past pool ns l f = let c = (rw (lt-leb (total ns) (length pool) l) at f).count in omega arith

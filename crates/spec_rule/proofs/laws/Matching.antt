-- Which members match: a text that begins with given bytes, and 02's roles.
use Rattle.std.specs.Prelude.{◌≡◌, refl, Bool, true, false, cond, List, ◌++◌, ◌↔◌, ℕ, length, take, drop}
use Rattle.std.proofs.Common.{sym, ap, ◌∙◌, take-append-drop}
use Rattle.std.proofs.lemmas.Bool.{false≢true}
use Rattle.std.proofs.Math.Seq.{take-append_seam, drop-append_seam}
use Rattle.spec_lists.specs.Text.{same}
use Rattle.spec_lists.specs.Select.{any}
use Rattle.spec_lists.proofs.laws.Same.{same_true, same_self}
use Rattle.spec_rule.specs.Roles.{role_prefix}
use Rattle.spec_rule.specs.Rule.{begins, matches_client}
use Rattle.spec_rule.specs.Privilege.{Some, here, further, MatchesClient, by_user, by_role}
use Rattle.spec_rule.proofs.laws.Such.{any_some, some_any}

pub begins_with : (p s : List ℕ) → begins p s ≡ true → s ≡ p ++ drop (length p) s
begins_with p s e =
    sym (take-append-drop (length p) s) ∙ ap (λ (l : List ℕ). l ++ drop (length p) s) (sym (same_true p (take (length p) s) e))

begins_so : (p s rest : List ℕ) → s ≡ p ++ rest → begins p s ≡ true
begins_so p s rest e = rw (e, take-append_seam p rest) (same_self p)

module _ (user : List ℕ) (roles : List (List ℕ)) (member : List ℕ) where
  abbrev rest : List ℕ
  rest = drop (length role_prefix) member

  a_role : begins role_prefix member ≡ true → (role : List ℕ) → (same rest role ≡ true) ↔ (member ≡ role_prefix ++ role)
  a_role b role = (
    λ h. begins_with role_prefix member b ∙ ap (λ (l : List ℕ). role_prefix ++ l) (same_true rest role h),
    λ e. rw (e, drop-append_seam role_prefix role) (same_self role),
  )

  begun : {xs : List (List ℕ)} → Some (λ role. member ≡ role_prefix ++ role) xs → begins role_prefix member ≡ true
  begun (here {x = role} e) = begins_so role_prefix member role e
  begun (further s) = begun s

  matches_sound : matches_client user roles member ≡ true → MatchesClient user roles member
  matches_sound = go (begins role_prefix member) refl
    where
      go : (b : Bool) → begins role_prefix member ≡ b → cond b (any (same rest) roles) (same user member) ≡ true → MatchesClient user roles member
      go true b h = by_role (any_some (same rest) (a_role b) roles h)
      go false b h = by_user (λ r e. absurd (false≢true (sym b ∙ begins_so role_prefix member r e))) (sym (same_true user member h))

  matches_complete : MatchesClient user roles member → matches_client user roles member ≡ true
  matches_complete (by_user n e) = go (begins role_prefix member) refl
    where
      go : (b : Bool) → begins role_prefix member ≡ b → cond b (any (same rest) roles) (same user member) ≡ true
      go true b = absurd (n rest (begins_with role_prefix member b))
      go false b = rw e (same_self user)
  matches_complete (by_role s) = rw (begun s) (some_any (same rest) (a_role (begun s)) s)

  pub matches_client_is : (matches_client user roles member ≡ true) ↔ MatchesClient user roles member
  matches_client_is = (matches_sound, matches_complete)

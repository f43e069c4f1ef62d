-- The tokens of a list, and what writing one changes.
use Rattle.std.specs.Prelude.{◌≡◌, refl, List, ℕ, ◌≤◌, length, get_or, set}
use Rattle.std.proofs.Common.{sym, ap, ◌∙◌, arith}
use Rattle.std.proofs.Math.ListN.{get_or-map}
use Rattle.std.proofs.Math.Seq.{map-set_same}
use Rattle.std.proofs.lemmas.List.{map-set, length-map}
use Rattle.spec_token.specs.declared.Kind.{Kind}
use Rattle.spec_grammar.specs.declared.Role.{Role}
use Rattle.spec_grammar.specs.Codes.{kind_number, role_number}
use Rattle.load_tokens.specs.declared.Token.{Token}
use Rattle.load_tokens.specs.Arrays.{kind_of_number}
use Rattle.load_tokens.specs.Stores.{Numbers, stored, Room}
use Rattle.load_tokens.specs.Views.{kinds, places, starts, ends, roles, kept, blank}
use Rattle.load_tokens.specs.laws.Arrays.{kind_back}

-- what the i-th token has
pub kind_at : (ts : List Token) (i : ℕ) → get_or (kinds ts) i 0 ≡ kind_number (get_or ts i blank).kind
kind_at ts i = get_or-map (λ (t : Token). kind_number t.kind) ts i blank

pub place_at : (ts : List Token) (i : ℕ) → get_or (places ts) i 0 ≡ (get_or ts i blank).place
place_at ts i = get_or-map (λ (t : Token). t.place) ts i blank

pub start_at : (ts : List Token) (i : ℕ) → get_or (starts ts) i 0 ≡ (get_or ts i blank).start
start_at ts i = get_or-map (λ (t : Token). t.start) ts i blank

pub end_at : (ts : List Token) (i : ℕ) → get_or (ends ts) i 0 ≡ (get_or ts i blank).end
end_at ts i = get_or-map (λ (t : Token). t.end) ts i blank

pub role_at : (ts : List Token) (i : ℕ) → get_or (roles ts) i 0 ≡ role_number (get_or ts i blank).role
role_at ts i = get_or-map (λ (t : Token). role_number t.role) ts i blank

-- as many of each as there are tokens
pub many_kinds : (ts : List Token) → length (kinds ts) ≡ length ts
many_kinds ts = length-map ts (λ (t : Token). kind_number t.kind)

pub many_places : (ts : List Token) → length (places ts) ≡ length ts
many_places ts = length-map ts (λ (t : Token). t.place)

pub many_starts : (ts : List Token) → length (starts ts) ≡ length ts
many_starts ts = length-map ts (λ (t : Token). t.start)

pub many_ends : (ts : List Token) → length (ends ts) ≡ length ts
many_ends ts = length-map ts (λ (t : Token). t.end)

pub many_roles : (ts : List Token) → length (roles ts) ≡ length ts
many_roles ts = length-map ts (λ (t : Token). role_number t.role)

-- two kinds, or two roles, with one number
pub kind_same : (a b : Kind) → kind_number a ≡ kind_number b → a ≡ b
kind_same a b e = sym (kind_back a) ∙ ap kind_of_number e ∙ kind_back b

-- a token with another role
abbrev pub said : Token → Role → Token
said t r = record { kind = t.kind; role = r; place = t.place; start = t.start; end = t.end }

module _ (ts : List Token) (i : ℕ) (r : Role) where
  pub kinds_said : kinds (set ts i (said (get_or ts i blank) r)) ≡ kinds ts
  kinds_said = map-set_same (λ (t : Token). kind_number t.kind) ts i (said (get_or ts i blank) r) blank refl

  pub places_said : places (set ts i (said (get_or ts i blank) r)) ≡ places ts
  places_said = map-set_same (λ (t : Token). t.place) ts i (said (get_or ts i blank) r) blank refl

  pub starts_said : starts (set ts i (said (get_or ts i blank) r)) ≡ starts ts
  starts_said = map-set_same (λ (t : Token). t.start) ts i (said (get_or ts i blank) r) blank refl

  pub ends_said : ends (set ts i (said (get_or ts i blank) r)) ≡ ends ts
  ends_said = map-set_same (λ (t : Token). t.end) ts i (said (get_or ts i blank) r) blank refl

  pub kept_said : kept (set ts i (said (get_or ts i blank) r)) ≡ kept ts
  kept_said = rw (kinds_said, places_said, starts_said, ends_said)

-- a token stored in place of another
abbrev pub numbers : Token → Numbers
numbers t = record { kind = kind_number t.kind; place = t.place; start = t.start; end = t.end }

pub kept_stored : (ts : List Token) (i : ℕ) (t : Token) → kept (set ts i t) ≡ stored (kept ts) i (numbers t)
kept_stored ts i t =
    rw (
      map-set (λ (u : Token). kind_number u.kind) ts i t,
      map-set (λ (u : Token). u.place) ts i t,
      map-set (λ (u : Token). u.start) ts i t,
      map-set (λ (u : Token). u.end) ts i t,
    )

-- room for n tokens
pub kept_room : {n : ℕ} (ts : List Token) → n ≤ length ts → Room n (kept ts)
kept_room ts h =
    record {
      kinds = omega (arith, many_kinds ts);
      places = omega (arith, many_places ts);
      starts = omega (arith, many_starts ts);
      ends = omega (arith, many_ends ts);
    }

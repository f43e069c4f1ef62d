-- The warnings of a file's tokens, written from one of them on.
use Rattle.std.specs.Prelude.{◌≡◌, cond, List, [], map, ℕ, ◌-◌, leb, length, set, drop}
use Rattle.std.proofs.lemmas.List.Edits.{sets}
use Rattle.load_tokens.specs.Arrays.{Arrays, tagged_from}
use Rattle.load_tokens.specs.Stores.{arrays_of}
use Rattle.spec_file.specs.Warning.{number, Warned, warnings}

-- tokens with places and nothing else but their roles
abbrev pub plain : List ℕ → Arrays
plain places = arrays_of [] places [] []

-- the warnings of the first n tokens; they look at no text (laws/Plain.antt)
abbrev pub warnings_of : List ℕ → List ℕ → ℕ → List Warned
warnings_of places roles n = warnings (tagged_from [] (plain places) roles 0 n)

abbrev pub numbers_of : List Warned → List ℕ
numbers_of ws = map (λ w. number w.warning) ws

abbrev pub places_of : List Warned → List ℕ
places_of ws = map (λ w. w.place) ws

-- a value is the k-th: it is written if skip stand before it, and if there is room
abbrev pub wrote : {A : Type 0} → ℕ → ℕ → List A → A → List A
wrote skip k b v = cond (leb skip k) (set b (k - skip) v) b

-- r warnings, of which b became c by writing the numbers and a became d by writing the places, from the skip-th warning
-- on and as many as there is room for
pub record Filled (ws : List Warned) (skip : ℕ) (b c a d : List ℕ) (r : ℕ) : Type 0 where
  pub count : r ≡ length ws
  pub numbers : c ≡ sets b 0 (drop skip (numbers_of ws))
  pub places : d ≡ sets a 0 (drop skip (places_of ws))

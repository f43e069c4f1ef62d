-- Which texts are accepted and for what they say, and for what the others are refused. 01, "Load refusals, in their order"; 02, ticket 4. No reader stands here.
use Rattle.std.specs.Prelude.{◌≡◌, List, ◌∷◌, ◌++◌, ℕ, ◌≤◌, ◌<◌, length}
use Rattle.std.proofs.Math.Option.{none, some}
use Rattle.spec_lists.specs.Every.{Every}
use Rattle.spec_token.specs.Token.{Token, Spelled, BadAt}
use Rattle.spec_grammar.specs.Sentence.{Tagged, Reads, Stops}
use Rattle.spec_file.specs.Limit.{most_bytes}
use Rattle.spec_file.specs.declared.Refusal.{Refusal}
use Rattle.spec_file.specs.declared.Refusal.TheVariants.{FileTooLong, BadByte, TooDeep, Ungrammatical}
use Rattle.spec_file.specs.Contents.{place}
use Rattle.spec_file.specs.Refusal.{turn, Context, contexts, Applies}
use Rattle.spec_file.specs.Depth.{too_deep}

-- the text s is a file of the grammar, and its tokens say xs
pub record TextReads (s : List ℕ) (xs : List Tagged) : Type 0 where
  pub spelled : List Token
  pub spelling : Spelled s spelled
  pub reading : Reads spelled xs

-- the refusal r has no cause at any of these tokens
abbrev pub Nowhere : Refusal → List Context → Type 0
Nowhere r cs = Every (λ c. Applies c r → ⊥) cs

-- the text s gives no cause for a refusal 1 to 10 or 12, and says xs
pub record Acceptable (s : List ℕ) (xs : List Tagged) : Type 0 where
  pub short : length s ≤ most_bytes
  pub as_read : TextReads s xs
  pub shallow : too_deep 0 as_read.spelled ≡ none
  pub uncaused : (r : Refusal) → Nowhere r (contexts xs)

-- 01: "The lowest number that applies is answered. Within it, the earliest place"; 02: 12 "after 7 and before 8". So r has a cause, first at the token of c,
-- and none whose turn is before has one.
pub data Caused (xs : List Tagged) (r : Refusal) : ℕ → Type 0 where
  caused :
      {c : Context} (earlier later : List Context) → contexts xs ≡ earlier ++ (c ∷ later) → Applies c r → Nowhere r earlier
      → ((sooner : Refusal) → turn sooner < turn r → Nowhere sooner (contexts xs))
      → Caused xs r (place c.here)

-- the same of all the text's refusals but 1, the text being taken without the limit of 16,384 bytes: r is the first that has a cause, and p its place
pub data HasCause (s : List ℕ) : Refusal → ℕ → Type 0 where
  bad_byte : {p : ℕ} → BadAt s p → HasCause s BadByte p
  deep_brace : {p : ℕ} {ts : List Token} → Spelled s ts → too_deep 0 ts ≡ some p → HasCause s TooDeep p
  no_file : {p : ℕ} {ts : List Token} → Spelled s ts → too_deep 0 ts ≡ none → Stops ts (length s) p → HasCause s Ungrammatical p
  for_cause :
      {r : Refusal} {p : ℕ} {xs : List Tagged} → (t : TextReads s xs) → too_deep 0 t.spelled ≡ none → Caused xs r p → HasCause s r p

-- and of all of them, 1 to 10 and 12: r is the refusal of the text s, and p its place
pub data Refusable (s : List ℕ) : Refusal → ℕ → Type 0 where
  long_file : most_bytes < length s → Refusable s FileTooLong 0
  in_limit : {r : Refusal} {p : ℕ} → length s ≤ most_bytes → HasCause s r p → Refusable s r p

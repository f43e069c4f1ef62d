-- A machine that decides what Acceptance.antt says of a text. That it agrees is proved in proofs/laws/Theorem.antt, so nobody has to believe it.
use Rattle.std.specs.Prelude.{Bool, cond, not, ◌&&◌, List, [], ◌∷◌, ℕ, leb, length}
use Rattle.std.proofs.Math.Option.{Option, none, some}
use Rattle.spec_lists.specs.Select.{holds_of, first}
use Rattle.spec_calc.specs.Reader.{tree_of}
use Rattle.spec_token.specs.Token.{Tokens, tokens, bad}
use Rattle.spec_token.specs.Scanner.{scanned}
use Rattle.spec_grammar.specs.declared.Role.TheVariants.{Calculation}
use Rattle.spec_grammar.specs.Sentence.{Tagged}
use Rattle.spec_grammar.specs.Reader.{Parse, parsed, stopped, read}
use Rattle.spec_file.specs.declared.Refusal.{Refusal}
use Rattle.spec_file.specs.declared.Refusal.TheVariants.{FileTooLong, BadByte, TooDeep, Ungrammatical, StringTooLong, TooMany, GivenAgain, BadLevel}
use Rattle.spec_file.specs.declared.Refusal.TheVariants.{UndefinedGroup, UnknownWord, BadCalculation}
use Rattle.spec_file.specs.Limit.{most_bytes}
use Rattle.spec_file.specs.Contents.{has_role, text, place}
use Rattle.spec_file.specs.Depth.{too_deep}
use Rattle.spec_file.specs.Refusal.{Context, contexts, too_long, too_many, given_again, undefined_group, bad_level, unknown_word, letters_given}
use Rattle.spec_file.specs.Refusal.{letters_among}

-- ---- 5 to 7, 12, 8 to 10

abbrev pub bad_calculation : Context → Bool
bad_calculation c = has_role Calculation c.here && not (holds_of (tree_of (text c.here)) (letters_among (letters_given c)))

pub record Cause : Type 0 where
  pub refusal : Refusal
  pub applies : Context → Bool

-- the causes in their order
abbrev pub causes : List Cause
causes =
    record { refusal = StringTooLong; applies = too_long }
    ∷ record { refusal = TooMany; applies = too_many }
    ∷ record { refusal = GivenAgain; applies = given_again }
    ∷ record { refusal = UndefinedGroup; applies = undefined_group }
    ∷ record { refusal = BadLevel; applies = bad_level }
    ∷ record { refusal = UnknownWord; applies = unknown_word }
    ∷ record { refusal = BadCalculation; applies = bad_calculation }
    ∷ []

-- a refusal and its place
pub record RefusalAt : Type 0 where
  pub refusal : Refusal
  pub place : ℕ

abbrev pub or_else : Refusal → Option Context → Option RefusalAt → Option RefusalAt
or_else n none o = o
or_else n (some c) o = some (record { refusal = n; place = place c.here })

-- the first cause that applies, at the first token to which it does
abbrev pub refused_by : List Cause → List Context → Option RefusalAt
refused_by [] cs = none
refused_by (k ∷ ks) cs = or_else k.refusal (first k.applies cs) (refused_by ks cs)

-- ---- all of them

-- what a load does with a text: refuse it at a place, or accept it for what its tokens say
pub data Verdict : Type 0 where
  refuse : Refusal → ℕ → Verdict
  accept : List Tagged → Verdict

abbrev pub by_causes : List Tagged → Option RefusalAt → Verdict
by_causes xs none = accept xs
by_causes xs (some r) = refuse r.refusal r.place

-- 4, then the causes
abbrev pub by_grammar : Parse → Verdict
by_grammar (stopped p) = refuse Ungrammatical p
by_grammar (parsed xs) = by_causes xs (refused_by causes (contexts xs))

-- 3, then the rest
abbrev pub by_depth : Option ℕ → Parse → Verdict
by_depth (some p) o = refuse TooDeep p
by_depth none o = by_grammar o

-- 2, then the rest; n is the length of the text
abbrev pub by_tokens : ℕ → Tokens → Verdict
by_tokens n (bad p) = refuse BadByte p
by_tokens n (tokens ts) = by_depth (too_deep 0 ts) (read ts n)

-- 1, then the rest
unfoldable pub verdict : List ℕ → Verdict
verdict s = cond (leb (length s) most_bytes) (by_tokens (length s) (scanned s)) (refuse FileTooLong 0)

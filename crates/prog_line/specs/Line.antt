-- A line of the asker's input. 01, "Two programs".
use Rattle.std.specs.Prelude.{Bool, true, cond, not, ◌&&◌, List, [], ◌∷◌, ℕ, ◌-◌, leb, length, set, replicate, Option, None, Some}
use Prim.Native.Char.{code}
use Rattle.spec_lists.specs.Text.{bytes, same, one_of, among, digit}
use Rattle.spec_lists.specs.Select.{nonempty}
use Rattle.spec_calc.specs.declared.Reading.{Reading}
use Rattle.spec_calc.specs.declared.Reading.TheVariants.{NeverHeard}
use Rattle.spec_rule.specs.Question.{question_of, Question}
use Rattle.prog_reading.specs.declared.Named.{Named}
use Rattle.prog_reading.specs.Reading.{named}

-- 01: "lines of standard input up to 255 bytes, newline aside"
abbrev pub longest_line : ℕ
longest_line = 255

abbrev pub with_first : ℕ → List (List ℕ) → List (List ℕ)
with_first b [] = (b ∷ []) ∷ []
with_first b (p ∷ ps) = (b ∷ p) ∷ ps

-- 01: "all parted by single spaces". What stands between the spaces, before the first and behind the last.
unfoldable pub split : List ℕ → List (List ℕ)
split [] = [] ∷ []
split (b ∷ s) = cond (among " " b) ([] ∷ split s) (with_first b (split s))

-- 01: "group (`-` for empty)"
abbrev pub group_of : List ℕ → List ℕ
group_of s = cond (same s (bytes "-")) [] s

-- 01: "one-digit level"
abbrev pub level_of : List ℕ → Option ℕ
level_of [] = None
level_of (d ∷ []) = cond (digit d) (Some (d - code "0")) None
level_of (d ∷ e ∷ s) = None

abbrev pub and_named : Option Named → Option (List Named) → Option (List Named)
and_named None ns = None
and_named (Some n) None = None
and_named (Some n) (Some ns) = Some (n ∷ ns)

-- the readings of some parts, if each is one
unfoldable pub all_named : List (List ℕ) → Option (List Named)
all_named [] = Some []
all_named (p ∷ ps) = and_named (named p) (all_named ps)

abbrev pub letters : List Named → List ℕ
letters [] = []
letters (n ∷ ns) = n.letter ∷ letters ns

-- not 01: "a letter twice"
unfoldable pub distinct : List ℕ → Bool
distinct [] = true
distinct (i ∷ is) = not (one_of is i) && distinct is

-- 01: "A letter not named is never heard". The readings of the letters A to U.
unfoldable pub readings : List Named → List Reading
readings [] = replicate 21 NeverHeard
readings (n ∷ ns) = set (readings ns) n.letter n.reading

-- the readings of the letters A to U, if no letter is named twice
abbrev pub without_repeats : Option (List Named) → Option (List Reading)
without_repeats None = None
without_repeats (Some ns) = cond (distinct (letters ns)) (Some (readings ns)) None

-- the readings that some parts name
abbrev pub readings_named : List (List ℕ) → Option (List Reading)
readings_named ps = without_repeats (all_named ps)

-- 01: "a letter twice, another form or a longer line prints `refused line`"
pub data Line : Type 0 where
  refused : Line
  question : Question → Line

abbrev pub of_readings : List ℕ → List ℕ → List ℕ → ℕ → Option (List Reading) → Line
of_readings g u h l None = refused
of_readings g u h l (Some rs) = question (question_of (group_of g) u h l rs)

abbrev pub of_level : List ℕ → List ℕ → List ℕ → Option ℕ → List (List ℕ) → Line
of_level g u h None ps = refused
of_level g u h (Some l) ps = of_readings g u h l (readings_named ps)

-- 01: "group (`-` for empty), user, host, one-digit level, then readings", "none empty"
unfoldable pub of_parts : List (List ℕ) → Line
of_parts [] = refused
of_parts (g ∷ []) = refused
of_parts (g ∷ u ∷ []) = refused
of_parts (g ∷ u ∷ h ∷ []) = refused
of_parts (g ∷ u ∷ h ∷ d ∷ rs) = cond (nonempty g && (nonempty u && nonempty h)) (of_level g u h (level_of d) rs) refused

-- what a line asks
unfoldable pub asks : List ℕ → Line
asks s = cond (leb (length s) longest_line) (of_parts (split s)) refused

-- The text of a file reads as what its pieces say, and no brace of it is too deep. Of a file that defines nothing, the text is empty and no acf_file.
use Rattle.std.specs.Prelude.{◌≡◌, refl, true, false, not, ◌||◌, List, [], ◌∷◌, ◌++◌, map}
use Rattle.std.proofs.lemmas.Bool.{false≢true}
use Rattle.spec_lists.specs.Text.{bytes}
use Rattle.spec_lists.specs.Select.{nonempty, joined}
use Rattle.spec_lists.specs.Every.{Every}
use Rattle.spec_token.specs.Token.{end}
use Rattle.spec_grammar.proofs.laws.Theorem.{read_stops}
use Rattle.spec_file.specs.declared.Refusal.TheVariants.{Ungrammatical}
use Rattle.spec_file.specs.Contents.{Group, Asg, File}
use Rattle.spec_file.specs.Acceptance.{TextReads, HasCause, no_file}
use Rattle.spec_text.specs.Lines.{group_lines, asg_lines, ended, text_of}
use Rattle.spec_text.specs.Faults.{defines_nothing}
use Rattle.spec_text.proofs.laws.Pieces.{said_at, file_pieces}
use Rattle.spec_text.proofs.laws.Keeps.{Quotable, AsgNamed}
use Rattle.spec_text.proofs.laws.Spelled.{tokens_at, spelled}
use Rattle.spec_text.proofs.laws.Derived.{derived}
pub use Rattle.spec_text.proofs.laws.Braces.{shallow}

-- the text of a file that defines something reads as what its pieces say
abbrev pub text_reads :
    (f : File) → Quotable f → Every AsgNamed f.asgs → defines_nothing f ≡ false → TextReads (text_of f) (said_at 0 (file_pieces f))
text_reads f q n h =
    record {
      spelled = tokens_at 0 (file_pieces f);
      spelling = spelled f q n;
      reading = record { tokens = refl; derived = derived f h };
    }

-- ---- nothing defined

-- a file that defines nothing has the empty text
pub empty : (f : File) → defines_nothing f ≡ true → text_of f ≡ []
unfolding text_of
empty f = go f.uags f.hags f.asgs
  where
    go :
        (us hs : List Group) (gs : List Asg) → not (nonempty us || (nonempty hs || nonempty gs)) ≡ true
        → ended (joined (map (group_lines (bytes "UAG")) us) ++ (joined (map (group_lines (bytes "HAG")) hs) ++ joined (map asg_lines gs))) ≡ []
    go [] [] [] h = refl
    go [] [] (a ∷ gs) h = absurd (false≢true h)
    go [] (g ∷ hs) gs h = absurd (false≢true h)
    go (g ∷ us) hs gs h = absurd (false≢true h)

-- the empty text is no acf_file
pub empty_cause : HasCause [] Ungrammatical 0
empty_cause = no_file {ts = []} end refl (read_stops [] 0 0 refl)

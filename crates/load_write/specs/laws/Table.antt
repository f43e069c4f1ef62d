-- The whole table from its parts, and what a write answers and leaves.
use Rattle.std.specs.Prelude.{List, ◌++◌, [], ◌≡◌, refl, ℕ, ◌-◌, ◌<◌, length, Ok, Err}
use Rattle.std.proofs.Common.{ap, subst, arith, le-leb}
use Rattle.std.proofs.lemmas.Bool.{lt-leb}
use Rattle.spec_lists.specs.Words.{spelled_out}
use Rattle.spec_grammar.specs.Sentence.{Tagged}
use Rattle.byte_write.specs.Put.{Put}
use Rattle.byte_write.specs.laws.Puts.{put_as, put_before, put_put}
use Rattle.byte_write.specs.laws.Room.{measured, too_long, HasRoom, room_written}
use Rattle.load_records.specs.declared.Cursor.{Cursor}
use Rattle.load_records.specs.Cursor.{cursor}
use Rattle.load_sections.specs.declared.AccessSections.{AccessSections}
use Rattle.load_sections.specs.declared.GroupSections.{GroupSections}
use Rattle.load_sections.specs.declared.RuleSections.{RuleSections}
use Rattle.load_sections.specs.Sections.{AccessWritten, GroupsWritten, RulesWritten}
use Rattle.load_sections.specs.Strings.{NamesWritten, access_strings}
use Rattle.load_write.specs.declared.Counts.{Counts}
use Rattle.load_write.specs.Header.{CountsRight, header_of}
use Rattle.load_write.specs.Passes.{body, cursor_3, cursor_5, cursor_7, header_words, strings, whole_table}
use Rattle.load_write.specs.Table.{Wrote}
use Rattle.load_write.specs.laws.Header.{same_words}

-- the parts, one behind the other, and the header before them
pub table_put :
    (us hs : List (List ℕ)) (xs : List Tagged)
    {b₀ b₁ b₂ b₃ b₄ b₅ b₆ : List ℕ} {f : GroupSections} {m : AccessSections} {k : RuleSections} {g : Cursor} {c : Counts} {end e : ℕ}
    → GroupsWritten xs b₀ b₁ (cursor 36 0 0 0) f → AccessWritten xs b₁ b₂ f.cursor m → RulesWritten us hs xs b₂ b₃ m.cursor k
    → NamesWritten xs b₃ b₄ k.cursor g → Put b₄ b₅ g.at (access_strings xs) end → CountsRight xs c
    → Put b₅ b₆ 0 (spelled_out (header_of c f m k end)) e → Put b₀ b₆ 0 (whole_table us hs xs) end
table_put us hs xs {b₀} {b₁} {b₂} {b₃} {b₄} {b₅} {b₆} {f} {m} {k} {g} {c} {end} groups access₀ rules₀ named₀ last counts header =
    let access : AccessWritten xs b₁ b₂ (cursor_3 us hs xs) m = subst (λ (t : Cursor). AccessWritten xs b₁ b₂ t m) groups.last access₀ in
    let rules : RulesWritten us hs xs b₂ b₃ (cursor_5 us hs xs) k = subst (λ (t : Cursor). RulesWritten us hs xs b₂ b₃ t k) access.last rules₀ in
    let named : NamesWritten xs b₃ b₄ (cursor_7 us hs xs) g = subst (λ (t : Cursor). NamesWritten xs b₃ b₄ t g) rules.last named₀ in
    let strung : Put b₃ b₅ (cursor_7 us hs xs).at (strings us hs xs) end = put_put named.bytes last in
    let laid : Put b₀ b₅ 36 (body us hs xs) end = put_put groups.bytes (put_put access.bytes (put_put rules.bytes strung)) in
    let at_end = ap (λ (t : Cursor). t.at) rules.last in
    let size_is : end - k.cursor.at ≡ length (strings us hs xs) = omega (arith, strung.end, at_end) in
    let words_are : header_of c f m k end ≡ header_words us hs xs = same_words
    laid.end
    counts.uags
    counts.hags
    groups.two
    counts.members
    groups.three
    counts.asgs
    (ap (λ (t : Cursor). t.at) groups.last)
    counts.inputs
    access.five
    counts.rules
    (ap (λ (t : Cursor). t.at) access.last)
    rules.references
    rules.seven
    size_is
    at_end in
    let first : Put b₅ b₆ 0 (spelled_out (header_words us hs xs)) 36 = record { bytes = (put_as header (ap spelled_out words_are) refl).bytes; end = refl } in
    put_before {ws = spelled_out (header_words us hs xs)} laid first

pub no_room : {t b x : List ℕ} {k : ℕ} → Put [] x 0 t k → length (x ++ b) < k → Wrote t b (x ++ b) (Err k)
no_room {t} {b} {x} {k} p h =
    let m = measured b p in
    let no = lt-leb (length t) (length b) (too_long b p h) in
    record { answered = rw no (ap Err m.1); leaves = rw no m.0 }

pub room : {t b c l : List ℕ} {r : ℕ} → HasRoom t b l → Put l c 0 t r → Wrote t b c (Ok r)
room {t} {b} w p =
    let yes = le-leb (length t) (length b) w.fits in
    let k = room_written w p in
    record { answered = rw yes (ap Ok k.1); leaves = rw yes k.0 }

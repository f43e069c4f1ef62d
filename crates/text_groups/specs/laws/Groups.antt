-- A group, part by part.
use Rattle.std.specs.Prelude.{◌≡◌, refl, true, List, [], ◌∷◌, ◌++◌, ℕ, ◌+◌, ◌≤◌, ◌<◌, length}
use Rattle.std.proofs.Common.{sym, ap, ◌∙◌, append_assoc, arith}
use Rattle.std.specs.declared.ops.Range.{Range}
use Rattle.spec_lists.specs.Text.{bytes}
use Rattle.spec_lists.specs.Runs.{Run}
use Rattle.spec_lists.proofs.laws.Runs.{Within}
use Rattle.spec_file.specs.Limit.{Section, members}
use Rattle.spec_table.specs.Layout.{Content}
use Rattle.spec_table.specs.View.{view}
use Rattle.spec_table.specs.Check.{well_formed, members_run}
use Rattle.spec_table.specs.Policy.{name, members_of, row}
use Rattle.spec_table.proofs.laws.Standing.{stands, users_members, hosts_members}
use Rattle.spec_text.specs.Lines.{quoted, called, headed, member_line, ended}
use Rattle.table_read.specs.Stored.{Stored}
use Rattle.text_marks.specs.Names.{run, RunStored, names, listed}
use Rattle.text_marks.specs.laws.Ended.{ended_one, ended_body}
use Rattle.text_marks.specs.laws.Names.{run_is, names_none, names_some}
use Rattle.text_groups.specs.Groups.{HasMembers, users, hosts, group_text}

members_within :
    {s : Section} → HasMembers s → (c : Content) → well_formed c ≡ true → (i : ℕ) → i < length (c.records s)
    → Within (length (c.records members)) (members_run (row c s i))
members_within users c w = users_members c w
members_within hosts c w = hosts_members c w

-- a body of one line
one_line :
    (head : List ℕ) (ms : List (List ℕ)) → (ms ≡ [] → ⊥)
    → ended (headed head (member_line ms)) ≡ head ++ (bytes "{\n" ++ (listed ms ++ bytes "\n}\n"))
one_line head [] some = absurd (some refl)
one_line head (m ∷ ms) some =
    ended_body head (listed (m ∷ ms) ∷ []) refl
    ∙ ap (λ (t : List ℕ). head ++ (bytes "{\n" ++ (t ++ bytes "}\n"))) (ended_one (listed (m ∷ ms)))
    ∙ ap (λ (t : List ℕ). head ++ (bytes "{\n" ++ t)) (append_assoc (listed (m ∷ ms)) (bytes "\n") (bytes "}\n"))

module _ (b : List ℕ) (s : Section) (word : List ℕ) (i : ℕ) where
  abbrev here : List ℕ
  here = row (view b) s i

  abbrev head : List ℕ
  head = called word (quoted (name (view b) s here))

  -- as the code finds its members
  module _ {r : Range ℕ} (e : r.start ≡ (members_run here).first) (f : r.end ≡ (members_run here).first + (members_run here).count) where
    pub group_empty : r.end ≤ r.start → group_text (view b) s word here ≡ head ++ bytes "\n"
    group_empty z =
        ap
        (λ (ms : List (List ℕ)). ended (headed head (member_line ms)))
        (names_none (view b) members (members_run here) (omega (arith, e, f, z)))
        ∙ ended_one head

    module _ (h : Stored b s i) (k : HasMembers s) where
      pub group_members : RunStored b members r
      group_members =
          record { table = h.table; inside = omega (arith, members_within k (view b) (stands b h.table).1 i h.inside, e, f) }

      pub group_full :
          r.start < r.end
          → group_text (view b) s word here ≡ head ++ (bytes "{\n" ++ (listed (names (view b) members (run r)) ++ bytes "\n}\n"))
      group_full some =
          let inside = members_within k (view b) (stands b h.table).1 i h.inside in
          one_line
          head
          (members_of (view b) here)
          (names_some (view b) members (members_run here) inside (λ z. absurd (omega (arith, e, f, z, some))))
          ∙ ap
          (λ (v : Run). head ++ (bytes "{\n" ++ (listed (names (view b) members v) ++ bytes "\n}\n")))
          (sym (run_is e f))

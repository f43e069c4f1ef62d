-- From what the writer and the warnings answer to what a load answers and leaves.
use Rattle.std.specs.Prelude.{◌≡◌, refl, Bool, true, false, List, ◌++◌, ℕ, ◌≤◌, ◌<◌, leb, length, take, drop, Result, Ok, Err}
use Rattle.std.proofs.Common.{◌∙◌, arith, subst, sym, le-leb, leb-true, leb-false}
use Rattle.std.proofs.lemmas.Bool.{false≢true, lt-leb}
use Rattle.load_tokens.specs.Arrays.{Arrays, tagged_from}
use Rattle.spec_file.specs.Contents.{file_of}
use Rattle.spec_file.specs.declared.Refusal.TheVariants.{NoRoom}
use Rattle.spec_table.specs.Written.{table_of}
use Rattle.spec_load.specs.declared.Loaded.{Loaded}
use Rattle.spec_load.specs.declared.Loaded.TheVariants as loaded
use Rattle.spec_load.specs.Load.{by_verdict}
use Rattle.spec_file.specs.Load.{accept}
use Rattle.load_spans.specs.Listed.{Listed, indices}
use Rattle.load_spans.specs.Roles.{tally}
use Rattle.load_spans.specs.Spans.{AmongTokens}
use Rattle.load_spans.specs.laws.Listed.{indices_length, listed_among, listed_length, listed_names}
use Rattle.load_write.specs.Table.{stored_table, Wrote}
use Rattle.load_write.specs.laws.Whole.{table_is}
use Rattle.load_warnings.specs.Filled.{warnings_of}
use Rattle.load_warnings.specs.laws.Plain.{warnings_plain}

-- the tokens that define groups, as they were collected
pub is_table_of :
    (s : List ℕ) (a : Arrays) (roles : List ℕ) (n : ℕ) {uags hags : List ℕ} → uags ≡ indices 1 roles 0 n → hags ≡ indices 3 roles 0 n
    → stored_table s a.starts a.ends roles n uags hags ≡ table_of (file_of (tagged_from s a roles 0 n))
unfolding stored_table
is_table_of s a roles n u h = rw (u, h) (table_is s a roles n)

-- tokens of a role that are collected, of which there are few enough for the room
module _ {names list : List ℕ} {q : ℕ} {rs : List ℕ} {n r : ℕ} (l : Listed names list q rs n r) (few : tally q rs 0 n ≤ length names) where
  collected_few : r ≤ length names
  collected_few = omega (arith, l.count, indices_length q rs 0 n)

  pub collected_room : r ≤ length list
  collected_room = omega (arith, collected_few, listed_length l)

  pub collected : take r list ≡ indices q rs 0 n
  collected = listed_names l collected_few

  pub collected_among : AmongTokens (take r list) n
  collected_among = subst (λ (is : List ℕ). AmongTokens is n) (sym collected) (listed_among q rs n)

-- what a load of n kept tokens answers, and what it makes of the lent bytes
abbrev pub StoredAt : List ℕ → Arrays → List ℕ → ℕ → List ℕ → List ℕ → Loaded → Type 0
StoredAt s a roles n lent after r = record { answer = r; bytes = after } ≡ by_verdict lent (accept (tagged_from s a roles 0 n))

-- what is stored of n tokens: t, if there is room for it
module _ (s : List ℕ) (a : Arrays) (roles : List ℕ) (n : ℕ) (lent : List ℕ) {t : List ℕ} (e : t ≡ table_of (file_of (tagged_from s a roles 0 n))) where
  stored_all :
      {c : List ℕ} {size count : ℕ} → length t ≤ length lent → c ≡ t ++ drop (length t) lent → size ≡ length t
      → count ≡ length (warnings_of a.places roles n)
      → StoredAt s a roles n lent c (loaded.Accepted size count)
  stored_all h g k w =
      rw (g, k, w, warnings_plain s a roles n, ← e, le-leb (length t) (length lent) h)

  stored_none :
      {c : List ℕ} {size : ℕ} → length lent < length t → c ≡ lent → size ≡ length t
      → StoredAt s a roles n lent c (loaded.Refused NoRoom size)
  stored_none h g k = rw (g, k, ← e, lt-leb (length t) (length lent) h)

-- what the writer answers
module _ {t lent c : List ℕ} {r : Result ℕ ℕ} (w : Wrote t lent c r) where
  done : {size : ℕ} → r ≡ Ok size → (length t ≤ length lent) × (c ≡ t ++ drop (length t) lent) × (size ≡ length t)
  done {size} e = go (leb (length t) (length lent)) refl
    where
      go : (b : Bool) → leb (length t) (length lent) ≡ b → (length t ≤ length lent) × (c ≡ t ++ drop (length t) lent) × (size ≡ length t)
      go true h =
          let a : r ≡ Ok (length t) = w.answered ∙ rw h in
          let l : c ≡ t ++ drop (length t) lent = w.leaves ∙ rw h in
          (leb-true (length t) (length lent) h, l, cc)
      go false h =
          let a : r ≡ Err (length t) = w.answered ∙ rw h in
          let z : false ≡ true = cc in
          absurd (false≢true z)

  undone : {size : ℕ} → r ≡ Err size → (length lent < length t) × (c ≡ lent) × (size ≡ length t)
  undone {size} e = go (leb (length t) (length lent)) refl
    where
      go : (b : Bool) → leb (length t) (length lent) ≡ b → (length lent < length t) × (c ≡ lent) × (size ≡ length t)
      go true h =
          let a : r ≡ Ok (length t) = w.answered ∙ rw h in
          let z : false ≡ true = cc in
          absurd (false≢true z)
      go false h =
          let a : r ≡ Err (length t) = w.answered ∙ rw h in
          let l : c ≡ lent = w.leaves ∙ rw h in
          (leb-false (length t) (length lent) h, l, cc)

module _
    (s : List ℕ) (a : Arrays) (roles : List ℕ) (n : ℕ) (lent : List ℕ) {uags hags : List ℕ} (u : uags ≡ indices 1 roles 0 n) (h : hags ≡ indices 3 roles 0 n)
    {c : List ℕ} {r : Result ℕ ℕ} (w : Wrote (stored_table s a.starts a.ends roles n uags hags) lent c r)
  where
    pub stored_done :
        {size count : ℕ} → r ≡ Ok size → count ≡ length (warnings_of a.places roles n)
        → StoredAt s a roles n lent c (loaded.Accepted size count)
    stored_done e t = let d = done w e in stored_all s a roles n lent (is_table_of s a roles n u h) d.0 d.1 d.2 t

    pub stored_undone : {size : ℕ} → r ≡ Err size → StoredAt s a roles n lent c (loaded.Refused NoRoom size)
    stored_undone e = let d = undone w e in stored_none s a roles n lent (is_table_of s a roles n u h) d.0 d.1 d.2

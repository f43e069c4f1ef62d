-- The passes write the table of the file: section by section, each where the header says.
use Rattle.std.specs.Prelude.{List, [], ◌++◌, map, ◌≡◌, refl, ℕ, ◌+◌, ◌*◌, ◌-◌, length}
use Rattle.std.proofs.Common.{append_assoc, append-nil, ap₂, ap, ◌∙◌, sym, arith, length-append}
use Rattle.std.proofs.lemmas.List.{length-map}
use Rattle.spec_lists.proofs.laws.Joined.{joined_append}
use Rattle.spec_lists.specs.Select.{joined}
use Rattle.spec_lists.specs.Text.{lowered}
use Rattle.spec_lists.specs.Words.{spelled_out}
use Rattle.spec_grammar.specs.declared.Role.TheVariants.{RuleWord, UagName, HagName, AsgName, User, Host, Input, Pvname, Calculation}
use Rattle.spec_grammar.specs.Sentence.{Tagged}
use Rattle.spec_file.specs.Contents.{texts, groups, file_of, rule_text, RuleText}
use Rattle.spec_file.specs.Limit.{Section, user_groups, host_groups, members, access_groups, inputs, rules, references}
use Rattle.spec_table.specs.Layout.{blocks, header_bytes, header, layout}
use Rattle.spec_table.specs.Written.{records, content, table_of}
use Rattle.load_tokens.specs.Arrays.{Arrays, tagged_from}
use Rattle.load_spans.specs.laws.Bare.{bare_from, texts_bare}
use Rattle.load_spans.specs.Spans.{text_at}
use Rattle.load_spans.specs.Listed.{indices}
use Rattle.load_spans.specs.laws.Listed.{indices_texts}
use Rattle.load_spans.specs.Roles.{arrays, tokens}
use Rattle.load_flags.specs.Tokens.{size}
use Rattle.load_records.specs.declared.Cursor.{Cursor}
use Rattle.load_records.specs.Work.{Groups, Names, Access, References, Inputs, Rules}
use Rattle.load_passes.specs.Pass.{emits, refer_moves}
use Rattle.load_passes.specs.laws.Loops.{moves_at, refer_moves_at}
use Rattle.load_sections.specs.Sections.{at_references, at_rules, behind_1, behind_2, behind_4, behind_6, behind_users, bytes_6, bytes_7, from, new_runs}
use Rattle.load_write.specs.Passes.{body, cursor_0, cursor_3, cursor_5, cursor_7, header_words, strings, whole_table}
use Rattle.load_write.specs.laws.Bare.{whole_bare}
use Rattle.load_write.specs.laws.Counts.{count_access, count_hosts, count_inputs, count_members, count_references, count_rules, count_users}
use Rattle.load_write.specs.laws.Flat.{cuts, flat_rules, length_cuts}
use Rattle.load_write.specs.laws.GroupRecords.{groups_first, moves_string}
use Rattle.load_write.specs.laws.Header.{same_words}
use Rattle.load_write.specs.laws.RuleRecords.{inputs_move, references_move, rule_cursor, rule_refs, rules_move}
use Rattle.load_write.specs.laws.Sections.{access_section, file_strings, group_texts, host_section, input_section, links_of, lowered_length}
use Rattle.load_write.specs.laws.Sections.{member_section, offset_1, offset_2, offset_3, offset_4, offset_5, offset_6, reference_section, refs_of}
use Rattle.load_write.specs.laws.Sections.{rule_section, rules_of, user_section}

-- sections one behind the other; two passes write the members, u and h
regroup :
    (u h : List ℕ) {a b d e r f s a' b' m' d' e' r' f' s' : List ℕ}
    → a ≡ a' → b ≡ b' → u ++ h ≡ m' → d ≡ d' → e ≡ e' → r ≡ r' → f ≡ f' → s ≡ s'
    → (a ++ (b ++ (u ++ h))) ++ ((d ++ e) ++ ((r ++ f) ++ s)) ≡ a' ++ (b' ++ (m' ++ (d' ++ (e' ++ (r' ++ (f' ++ (s' ++ [])))))))
regroup u h i j k l m n o p = rw (← i, ← j, ← k, ← l, ← m, ← n, ← o, ← p) (simp (append_assoc, append-nil))

-- one section on
on : {n m : ℕ} {l r : List ℕ} → n ≡ m → l ≡ r → n + length l ≡ m + length r
on e f = ap₂ (λ (k : ℕ) (a : List ℕ). k + length a) e f

module _ (xs : List Tagged) where
  abbrev us : List (List ℕ)
  us = texts UagName xs

  abbrev hs : List (List ℕ)
  hs = texts HagName xs

  -- the tokens from the first access group on
  abbrev ys : List Tagged
  ys = from AsgName xs

  -- ---- where the passes begin

  abbrev cursor_1 : Cursor
  cursor_1 = behind_1 xs (cursor_0 us hs xs)

  abbrev cursor_2 : Cursor
  cursor_2 = behind_2 xs (cursor_0 us hs xs)

  abbrev cursor_users : Cursor
  cursor_users = behind_users xs (cursor_0 us hs xs)

  abbrev cursor_4 : Cursor
  cursor_4 = behind_4 xs (cursor_3 us hs xs)

  abbrev cursor_rules : Cursor
  cursor_rules = at_rules us hs xs (cursor_5 us hs xs)

  abbrev cursor_6 : Cursor
  cursor_6 = behind_6 us hs xs (cursor_5 us hs xs)

  abbrev cursor_references : Cursor
  cursor_references = at_references us hs xs (cursor_5 us hs xs)

  -- ---- the offsets of strings

  at_host_names : cursor_1.string ≡ offset_1 xs
  at_host_names = moves_string UagName User [] Groups (λ x l. refl) xs (cursor_0 us hs xs)

  at_members : cursor_2.string ≡ offset_2 xs
  at_members = moves_string HagName Host [] Groups (λ x l. refl) xs cursor_1 ∙ ap (λ (n : ℕ). n + length (joined hs)) at_host_names

  at_hosts : cursor_users.string ≡ cursor_2.string + length (joined (texts User (from UagName xs)))
  at_hosts = moves_string User User [] Names (λ x l. refl) (from UagName xs) cursor_2

  at_access_names : (cursor_3 us hs xs).string ≡ offset_3 xs
  at_access_names =
      let u = texts User (from UagName xs) in
      let h = texts Host (from HagName xs) in
      omega (
        arith,
        moves_string Host Host [] Names (λ x l. refl) (from HagName xs) cursor_users,
        at_hosts,
        at_members,
        ap length (joined_append u (map lowered h)),
        length-append (joined u) (joined (map lowered h)),
        lowered_length h,
      )

  at_input_names : cursor_4.string ≡ offset_4 xs
  at_input_names =
      moves_string AsgName AsgName [] Access (λ x l. refl) xs (new_runs (cursor_3 us hs xs))
      ∙ ap (λ (n : ℕ). n + length (joined (texts AsgName xs))) at_access_names

  at_reference_names : (cursor_5 us hs xs).string ≡ offset_5 xs
  at_reference_names =
      ap (λ (p : Cursor). p.string) (inputs_move ys cursor_4) ∙ ap (λ (n : ℕ). n + length (joined (map (λ i. i.name) (links_of xs)))) at_input_names

  references_string : (p : Cursor) → (refer_moves References us hs ys p).string ≡ p.string + length (joined (map (λ r. r.name) (refs_of xs)))
  references_string p =
      ap₂ (λ (a b : List (List ℕ)). (refer_moves References a b ys p).string) (sym (group_texts UagName User xs)) (sym (group_texts HagName Host xs))
      ∙ ap (λ (t : Cursor). t.string) (references_move (groups UagName User xs) (groups HagName Host xs) ys p)

  at_calculations : (cursor_7 us hs xs).string ≡ offset_6 xs
  at_calculations = references_string cursor_references ∙ ap (λ (n : ℕ). n + length (joined (map (λ r. r.name) (refs_of xs)))) at_reference_names

  -- ---- the sections

  abbrev block : Section → List ℕ
  block s = spelled_out (joined (records (file_of xs) s))

  in_users : emits UagName User [] Groups xs (cursor_0 us hs xs) ≡ block user_groups
  in_users = user_section xs (cursor_0 us hs xs) refl refl

  in_hosts : emits HagName Host [] Groups xs cursor_1 ≡ block host_groups
  in_hosts = host_section xs cursor_1 at_host_names (omega (arith, groups_first UagName User xs (cursor_0 us hs xs)))

  in_members : emits User User [] Names (from UagName xs) cursor_2 ++ emits Host Host [] Names (from HagName xs) cursor_users ≡ block members
  in_members = member_section xs cursor_2 cursor_users at_members at_hosts

  in_access : emits AsgName AsgName [] Access xs (new_runs (cursor_3 us hs xs)) ≡ block access_groups
  in_access = access_section xs (new_runs (cursor_3 us hs xs)) at_access_names refl refl

  in_inputs : emits Input Pvname [] Inputs ys cursor_4 ≡ block inputs
  in_inputs = input_section xs cursor_4 at_input_names

  in_rules : bytes_6 us hs xs (cursor_5 us hs xs) ≡ block rules
  in_rules = rule_section xs cursor_rules at_calculations refl

  in_references : bytes_7 us hs xs (cursor_5 us hs xs) ≡ block references
  in_references = reference_section xs cursor_references at_reference_names

  in_strings : strings us hs xs ≡ (content (file_of xs)).strings
  in_strings = file_strings us hs xs

  body_is : body us hs xs ≡ joined (blocks (content (file_of xs)))
  body_is =
      regroup
      (emits User User [] Names (from UagName xs) cursor_2)
      (emits Host Host [] Names (from HagName xs) cursor_users)
      in_users
      in_hosts
      in_members
      in_access
      in_inputs
      in_rules
      in_references
      in_strings

  -- ---- where the sections begin

  abbrev start_2 : ℕ
  start_2 = header_bytes + length (block user_groups)

  abbrev start_3 : ℕ
  start_3 = start_2 + length (block host_groups)

  abbrev start_4 : ℕ
  start_4 = start_3 + length (block members)

  abbrev start_5 : ℕ
  start_5 = start_4 + length (block access_groups)

  abbrev start_6 : ℕ
  start_6 = start_5 + length (block inputs)

  abbrev start_7 : ℕ
  start_7 = start_6 + length (block rules)

  abbrev start_8 : ℕ
  start_8 = start_7 + length (block references)

  from_2 : cursor_1.at ≡ start_2
  from_2 = moves_at UagName User [] Groups xs (cursor_0 us hs xs) ∙ on refl in_users

  from_3 : cursor_2.at ≡ start_3
  from_3 = moves_at HagName Host [] Groups xs cursor_1 ∙ on from_2 in_hosts

  from_4 : (cursor_3 us hs xs).at ≡ start_4
  from_4 =
      let u = emits User User [] Names (from UagName xs) cursor_2 in
      let h = emits Host Host [] Names (from HagName xs) cursor_users in
      let e : (cursor_3 us hs xs).at ≡ cursor_2.at + length (u ++ h) = omega (
        arith,
        moves_at User User [] Names (from UagName xs) cursor_2,
        moves_at Host Host [] Names (from HagName xs) cursor_users,
        length-append u h,
      ) in
      e ∙ on from_3 in_members

  from_5 : cursor_4.at ≡ start_5
  from_5 = moves_at AsgName AsgName [] Access xs (new_runs (cursor_3 us hs xs)) ∙ on from_4 in_access

  from_6 : (cursor_5 us hs xs).at ≡ start_6
  from_6 = moves_at Input Pvname [] Inputs ys cursor_4 ∙ on from_5 in_inputs

  rules_end : cursor_6 ≡ rule_cursor (groups UagName User xs) (groups HagName Host xs) (rules_of xs) cursor_rules
  rules_end = rules_move (groups UagName User xs) (groups HagName Host xs) ys cursor_rules

  from_7 : cursor_references.at ≡ start_7
  from_7 =
      let e : 14 * size RuleWord ys ≡ length (bytes_6 us hs xs (cursor_5 us hs xs)) = omega (
        arith,
        moves_at RuleWord Calculation [] Rules ys cursor_rules,
        ap (λ (p : Cursor). p.at) rules_end,
        length-map (cuts RuleWord ys) (λ p. rule_text p.body),
        length_cuts RuleWord ys,
      ) in
      ap (λ (n : ℕ). (cursor_5 us hs xs).at + n) e ∙ on from_6 in_rules

  from_8 : (cursor_7 us hs xs).at ≡ start_8
  from_8 = refer_moves_at References us hs ys cursor_references ∙ on from_7 in_references

  -- ---- the header

  references_counted : cursor_6.first ≡ length (records (file_of xs) references)
  references_counted =
      omega (
        arith,
        ap (λ (p : Cursor). p.first) rules_end,
        ap (λ (l : List RuleText). length (joined (rule_refs (groups UagName User xs) (groups HagName Host xs) l))) (flat_rules xs),
        count_references (file_of xs),
      )

  header_is : header_words us hs xs ≡ header (content (file_of xs))
  header_is =
      same_words
      (ap (λ (l : List ℕ). header_bytes + length l) body_is)
      (sym (count_users xs))
      (sym (count_hosts xs))
      from_2
      (sym (count_members xs))
      from_3
      (sym (count_access xs))
      from_4
      (sym (count_inputs xs))
      from_5
      (sym (count_rules xs))
      from_6
      references_counted
      from_7
      (ap length in_strings)
      from_8

pub whole_is : (xs : List Tagged) → whole_table (texts UagName xs) (texts HagName xs) xs ≡ table_of (file_of xs)
unfolding table_of layout
whole_is xs = ap₂ (λ (h b : List ℕ). spelled_out h ++ b) (header_is xs) (body_is xs)

-- THE CLAIM: what the passes write for kept tokens, references being numbered by the groups' names among them, is the table of what they say.
pub table_is :
    (s : List ℕ) (a : Arrays) (roles : List ℕ) (n : ℕ)
    → whole_table
    (map (text_at s a.starts a.ends) (indices 1 roles 0 n))
    (map (text_at s a.starts a.ends) (indices 3 roles 0 n))
    (tokens s (arrays a.starts a.ends) roles 0 n)
    ≡ table_of (file_of (tagged_from s a roles 0 n))
table_is s a roles n =
    let xs = tagged_from s a roles 0 n in
    let z : n - 0 ≡ n = omega arith in
    let b = ap (tagged_from s (arrays a.starts a.ends) roles 0) z ∙ bare_from s a roles 0 n in
    let u = indices_texts s a.starts a.ends roles 1 0 n (record { some = omega arith; known = omega arith })
    ∙ ap (texts UagName) (bare_from s a roles 0 n)
    ∙ texts_bare UagName xs in
    let h = indices_texts s a.starts a.ends roles 3 0 n (record { some = omega arith; known = omega arith })
    ∙ ap (texts HagName) (bare_from s a roles 0 n)
    ∙ texts_bare HagName xs in
    rw (u, h, b) (whole_bare (texts UagName xs) (texts HagName xs) xs ∙ whole_is xs)

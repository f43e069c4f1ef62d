-- The table does not depend on the kinds and places of tokens.
use Rattle.std.specs.Prelude.{not, ◌≡◌, ℕ, ◌+◌, ◌*◌, length}
use mathlib.Core.List.{List, map, [], ◌∷◌, ◌++◌}
use Rattle.std.proofs.Common.{ap, ◌∙◌, ap₂}
use Rattle.std.proofs.Math.Path.{refl}
use Rattle.spec_lists.specs.Select.{nonempty, select}
use Rattle.spec_lists.specs.Words.{spelled_out}
use Rattle.spec_grammar.specs.declared.Role.{Role}
use Rattle.spec_grammar.specs.declared.Role.TheVariants.{AsgName, UnknownPredicate, Level, Permission, LogOption, Input, RuleWord, UagNamed, HagNamed}
use Rattle.spec_grammar.specs.declared.Role.TheVariants.{UagName, User, HagName, Host, Pvname, Calculation}
use Rattle.spec_grammar.specs.Sentence.{Tagged}
use Rattle.spec_file.specs.Contents.{until, has_role, texts, place, rule_text}
use Rattle.spec_table.specs.Layout.{header_bytes}
use Rattle.spec_table.specs.Written.{flags}
use Rattle.load_spans.specs.laws.Bare.{bare, until_bare, after_bare, texts_bare, select_bare}
use Rattle.load_flags.specs.Tokens.{cut, size}
use Rattle.load_records.specs.declared.Cursor.{Cursor}
use Rattle.load_records.specs.Work.{Work}
use Rattle.load_records.specs.Work.{Groups, Names, Access, Inputs, Rules, References, Texts, Lowered, Firsts}
use Rattle.load_records.specs.Cursor.{cursor}
use Rattle.load_records.specs.Record.{emit, firsts, move, named, seconds}
use Rattle.load_passes.specs.Pass.{each_emits, each_moves, emits, moves, refer_emits, refer_moves, rule_emits, rule_moves}
use Rattle.load_sections.specs.Sections.{at_references, at_rules, behind_1, behind_2, behind_4, behind_6, behind_users, bytes_1_3, bytes_4_5, bytes_6}
use Rattle.load_sections.specs.Sections.{bytes_7, from, new_runs}
use Rattle.load_sections.specs.Strings.{zero_cursor}
use Rattle.load_write.specs.Passes.{body, cursor_0, cursor_3, cursor_5, cursor_7, header_words, strings, whole_table}
use Rattle.load_write.specs.laws.Header.{same_words}

-- ---- each token of a role

module _ (q : Role) (e : Tagged → List Tagged → Cursor → List ℕ) (m : Tagged → List Tagged → Cursor → Cursor) where
  each_moves_bare :
      ((x : Tagged) (xs : List Tagged) (p : Cursor) → m (bare x) (map bare xs) p ≡ m x xs p) → (xs : List Tagged) (p : Cursor)
      → each_moves q m (map bare xs) p ≡ each_moves q m xs p
  unfolding each_moves
  each_moves_bare one [] p = refl
  each_moves_bare one (x ∷ xs) p = rw (one x xs p, each_moves_bare one xs (m x xs p), each_moves_bare one xs p)

  each_emits_bare :
      ((x : Tagged) (xs : List Tagged) (p : Cursor) → e (bare x) (map bare xs) p ≡ e x xs p)
      → ((x : Tagged) (xs : List Tagged) (p : Cursor) → m (bare x) (map bare xs) p ≡ m x xs p) → (xs : List Tagged) (p : Cursor)
      → each_emits q e m (map bare xs) p ≡ each_emits q e m xs p
  unfolding each_emits
  each_emits_bare one on [] p = refl
  each_emits_bare one on (x ∷ xs) p = rw (on x xs p, one x xs p, each_emits_bare one on xs (m x xs p), each_emits_bare one on xs p)

-- ---- one token

cut_bare : (q : Role) (xs : List Tagged) → cut q (map bare xs) ≡ map bare (cut q xs)
cut_bare q xs = ap (until q) (until_bare AsgName xs) ∙ until_bare q (until AsgName xs)

from_bare : (q : Role) (xs : List Tagged) → from q (map bare xs) ≡ map bare (from q xs)
from_bare q = after_bare (λ x. not (has_role q x)) (λ x. refl)

until_texts : (q m : Role) (xs : List Tagged) → texts m (until q (map bare xs)) ≡ texts m (until q xs)
until_texts q m xs = ap (texts m) (until_bare q xs) ∙ texts_bare m (until q xs)

cut_texts : (q m : Role) (xs : List Tagged) → texts m (cut q (map bare xs)) ≡ texts m (cut q xs)
cut_texts q m xs = ap (texts m) (cut_bare q xs) ∙ texts_bare m (cut q xs)

-- whether there are unknown predicates does not depend on where
some_bare : (xs : List Tagged) → nonempty (map place (map bare xs)) ≡ nonempty (map place xs)
some_bare [] = refl
some_bare (x ∷ xs) = refl

unknown_bare :
    (ys : List Tagged)
    → nonempty (map place (select (has_role UnknownPredicate) (map bare ys))) ≡ nonempty (map place (select (has_role UnknownPredicate) ys))
unknown_bare ys =
    ap (λ (l : List Tagged). nonempty (map place l)) (select_bare (has_role UnknownPredicate) (λ x. refl) ys)
    ∙ some_bare (select (has_role UnknownPredicate) ys)

flags_bare : (ys : List Tagged) → flags (rule_text (map bare ys)) ≡ flags (rule_text ys)
flags_bare ys = rw (texts_bare Level ys, texts_bare Permission ys, texts_bare LogOption ys, unknown_bare ys)

flags_cut : (q : Role) (xs : List Tagged) → flags (rule_text (cut q (map bare xs))) ≡ flags (rule_text (cut q xs))
flags_cut q xs = ap (λ (l : List Tagged). flags (rule_text l)) (cut_bare q xs) ∙ flags_bare (cut q xs)

module _ (q m : Role) (names : List (List ℕ)) where
  emit_bare : (w : Work) (x : Tagged) (xs : List Tagged) (p : Cursor) → emit q m names w (bare x) (map bare xs) p ≡ emit q m names w x xs p
  emit_bare Groups x xs p = rw (until_texts q m xs)
  emit_bare Names x xs p = refl
  emit_bare Access x xs p = rw (until_texts q Input xs, until_texts q RuleWord xs)
  emit_bare Inputs x xs p = rw (cut_texts q m xs)
  emit_bare Rules x xs p = rw (flags_cut q xs, cut_texts q UagNamed xs, cut_texts q HagNamed xs, cut_texts q m xs)
  emit_bare References x xs p = refl
  emit_bare Texts x xs p = refl
  emit_bare Lowered x xs p = refl
  emit_bare Firsts x xs p = rw (cut_texts q m xs)

  named_bare : (w : Work) (x : Tagged) (xs : List Tagged) → named q m names w (bare x) (map bare xs) ≡ named q m names w x xs
  named_bare Groups x xs = refl
  named_bare Names x xs = refl
  named_bare Access x xs = refl
  named_bare Inputs x xs = rw (cut_texts q m xs)
  named_bare Rules x xs = rw (cut_texts q m xs)
  named_bare References x xs = refl
  named_bare Texts x xs = refl
  named_bare Lowered x xs = refl
  named_bare Firsts x xs = refl

  firsts_bare : (w : Work) (x : Tagged) (xs : List Tagged) → firsts q m names w (bare x) (map bare xs) ≡ firsts q m names w x xs
  firsts_bare Groups x xs = rw (until_texts q m xs)
  firsts_bare Names x xs = refl
  firsts_bare Access x xs = rw (until_texts q Input xs)
  firsts_bare Inputs x xs = refl
  firsts_bare Rules x xs = rw (cut_texts q UagNamed xs, cut_texts q HagNamed xs)
  firsts_bare References x xs = refl
  firsts_bare Texts x xs = refl
  firsts_bare Lowered x xs = refl
  firsts_bare Firsts x xs = refl

  seconds_bare : (w : Work) (x : Tagged) (xs : List Tagged) → seconds q m names w (bare x) (map bare xs) ≡ seconds q m names w x xs
  seconds_bare Groups x xs = refl
  seconds_bare Names x xs = refl
  seconds_bare Access x xs = rw (until_texts q RuleWord xs)
  seconds_bare Inputs x xs = refl
  seconds_bare Rules x xs = refl
  seconds_bare References x xs = refl
  seconds_bare Texts x xs = refl
  seconds_bare Lowered x xs = refl
  seconds_bare Firsts x xs = refl

  move_bare : (w : Work) (x : Tagged) (xs : List Tagged) (p : Cursor) → move q m names w (bare x) (map bare xs) p ≡ move q m names w x xs p
  move_bare w x xs p = rw (emit_bare w x xs p, named_bare w x xs, firsts_bare w x xs, seconds_bare w x xs)

  emits_bare : (w : Work) (xs : List Tagged) (p : Cursor) → emits q m names w (map bare xs) p ≡ emits q m names w xs p
  emits_bare w = each_emits_bare q (emit q m names w) (move q m names w) (emit_bare w) (move_bare w)

  moves_bare : (w : Work) (xs : List Tagged) (p : Cursor) → moves q m names w (map bare xs) p ≡ moves q m names w xs p
  moves_bare w = each_moves_bare q (emit q m names w) (move q m names w) (move_bare w)

module _ (w : Work) (us hs : List (List ℕ)) where
  abbrev rule_e : Tagged → List Tagged → Cursor → List ℕ
  rule_e x xs p = rule_emits w us hs (cut RuleWord xs) p

  abbrev rule_m : Tagged → List Tagged → Cursor → Cursor
  rule_m x xs p = rule_moves w us hs (cut RuleWord xs) p

  rule_moves_bare : (x : Tagged) (xs : List Tagged) (p : Cursor) → rule_m (bare x) (map bare xs) p ≡ rule_m x xs p
  rule_moves_bare x xs p =
      let ys = cut RuleWord xs in
      rw (cut_bare RuleWord xs, moves_bare UagNamed UagNamed us w ys p, moves_bare HagNamed HagNamed hs w ys (moves UagNamed UagNamed us w ys p))

  rule_emits_bare : (x : Tagged) (xs : List Tagged) (p : Cursor) → rule_e (bare x) (map bare xs) p ≡ rule_e x xs p
  rule_emits_bare x xs p =
      let ys = cut RuleWord xs in
      rw (
        cut_bare RuleWord xs,
        emits_bare UagNamed UagNamed us w ys p,
        moves_bare UagNamed UagNamed us w ys p,
        emits_bare HagNamed HagNamed hs w ys (moves UagNamed UagNamed us w ys p),
      )

  refer_emits_bare : (xs : List Tagged) (p : Cursor) → refer_emits w us hs (map bare xs) p ≡ refer_emits w us hs xs p
  refer_emits_bare = each_emits_bare RuleWord rule_e rule_m rule_emits_bare rule_moves_bare

  refer_moves_bare : (xs : List Tagged) (p : Cursor) → refer_moves w us hs (map bare xs) p ≡ refer_moves w us hs xs p
  refer_moves_bare = each_moves_bare RuleWord rule_e rule_m rule_moves_bare

-- a pass over tokens from the first of a role on
module _ (r q m : Role) (w : Work) (xs : List Tagged) {p : Cursor} (p' : Cursor) where
  from_moves : p ≡ p' → moves q m [] w (from r (map bare xs)) p ≡ moves q m [] w (from r xs) p'
  from_moves e = ap₂ (λ (l : List Tagged) (o : Cursor). moves q m [] w l o) (from_bare r xs) e ∙ moves_bare q m [] w (from r xs) p'

  from_emits : p ≡ p' → emits q m [] w (from r (map bare xs)) p ≡ emits q m [] w (from r xs) p'
  from_emits e = ap₂ (λ (l : List Tagged) (o : Cursor). emits q m [] w l o) (from_bare r xs) e ∙ emits_bare q m [] w (from r xs) p'

module _ (q m : Role) (w : Work) (xs : List Tagged) {p : Cursor} (p' : Cursor) where
  all_moves : p ≡ p' → moves q m [] w (map bare xs) p ≡ moves q m [] w xs p'
  all_moves e = ap (moves q m [] w (map bare xs)) e ∙ moves_bare q m [] w xs p'

  all_emits : p ≡ p' → emits q m [] w (map bare xs) p ≡ emits q m [] w xs p'
  all_emits e = ap (emits q m [] w (map bare xs)) e ∙ emits_bare q m [] w xs p'

from_size : (r q : Role) (xs : List Tagged) → size q (from r (map bare xs)) ≡ size q (from r xs)
from_size r q xs = ap length (ap (texts q) (from_bare r xs) ∙ texts_bare q (from r xs))

all_size : (q : Role) (xs : List Tagged) → size q (map bare xs) ≡ size q xs
all_size q xs = ap length (texts_bare q xs)

-- ---- the parts of a table

four : {a b c d a' b' c' d' : List ℕ} → a ≡ a' → b ≡ b' → c ≡ c' → d ≡ d' → a ++ (b ++ (c ++ d)) ≡ a' ++ (b' ++ (c' ++ d'))
four g h i j = cc

module _ (us hs : List (List ℕ)) (xs : List Tagged) where
  abbrev zs : List Tagged
  zs = map bare xs

  abbrev cursor_1 : Cursor
  cursor_1 = behind_1 xs (cursor_0 us hs xs)

  abbrev cursor_2 : Cursor
  cursor_2 = behind_2 xs (cursor_0 us hs xs)

  abbrev cursor_users : Cursor
  cursor_users = behind_users xs (cursor_0 us hs xs)

  abbrev cursor_4 : Cursor
  cursor_4 = behind_4 xs (cursor_3 us hs xs)

  cursor_1_bare : behind_1 zs (cursor_0 us hs zs) ≡ cursor_1
  cursor_1_bare = all_moves UagName User Groups xs (cursor_0 us hs xs) refl

  cursor_2_bare : behind_2 zs (cursor_0 us hs zs) ≡ cursor_2
  cursor_2_bare = all_moves HagName Host Groups xs cursor_1 cursor_1_bare

  cursor_users_bare : behind_users zs (cursor_0 us hs zs) ≡ cursor_users
  cursor_users_bare = from_moves UagName User User Names xs cursor_2 cursor_2_bare

  cursor_3_bare : cursor_3 us hs zs ≡ cursor_3 us hs xs
  cursor_3_bare = from_moves HagName Host Host Names xs cursor_users cursor_users_bare

  cursor_4_bare : behind_4 zs (cursor_3 us hs zs) ≡ cursor_4
  cursor_4_bare = all_moves AsgName AsgName Access xs (new_runs (cursor_3 us hs xs)) (ap new_runs cursor_3_bare)

  cursor_5_bare : cursor_5 us hs zs ≡ cursor_5 us hs xs
  cursor_5_bare = from_moves AsgName Input Pvname Inputs xs cursor_4 cursor_4_bare

  references_at_bare : at_references us hs zs (cursor_5 us hs zs) ≡ at_references us hs xs (cursor_5 us hs xs)
  references_at_bare = ap₂ (λ (p : Cursor) (k : ℕ). cursor (p.at + 14 * k) p.string 0 0) cursor_5_bare (from_size AsgName RuleWord xs)

  cursor_7_bare : cursor_7 us hs zs ≡ cursor_7 us hs xs
  cursor_7_bare =
      ap₂ (λ (l : List Tagged) (p : Cursor). refer_moves References us hs l p) (from_bare AsgName xs) references_at_bare
      ∙ refer_moves_bare References us hs (from AsgName xs) (at_references us hs xs (cursor_5 us hs xs))

  rules_at_bare : at_rules us hs zs (cursor_5 us hs zs) ≡ at_rules us hs xs (cursor_5 us hs xs)
  rules_at_bare = ap₂ (λ (p r : Cursor). cursor p.at r.string 0 0) cursor_5_bare cursor_7_bare

  cursor_6_bare : behind_6 us hs zs (cursor_5 us hs zs) ≡ behind_6 us hs xs (cursor_5 us hs xs)
  cursor_6_bare = from_moves AsgName RuleWord Calculation Rules xs (at_rules us hs xs (cursor_5 us hs xs)) rules_at_bare

  groups_bare : bytes_1_3 zs (cursor_0 us hs zs) ≡ bytes_1_3 xs (cursor_0 us hs xs)
  groups_bare =
      four
      (all_emits UagName User Groups xs (cursor_0 us hs xs) refl)
      (all_emits HagName Host Groups xs cursor_1 cursor_1_bare)
      (from_emits UagName User User Names xs cursor_2 cursor_2_bare)
      (from_emits HagName Host Host Names xs cursor_users cursor_users_bare)

  access_bare : bytes_4_5 zs (cursor_3 us hs zs) ≡ bytes_4_5 xs (cursor_3 us hs xs)
  access_bare =
      ap₂
      (λ (a b : List ℕ). a ++ b)
      (all_emits AsgName AsgName Access xs (new_runs (cursor_3 us hs xs)) (ap new_runs cursor_3_bare))
      (from_emits AsgName Input Pvname Inputs xs cursor_4 cursor_4_bare)

  rules_bare : bytes_6 us hs zs (cursor_5 us hs zs) ≡ bytes_6 us hs xs (cursor_5 us hs xs)
  rules_bare = from_emits AsgName RuleWord Calculation Rules xs (at_rules us hs xs (cursor_5 us hs xs)) rules_at_bare

  references_bare : bytes_7 us hs zs (cursor_5 us hs zs) ≡ bytes_7 us hs xs (cursor_5 us hs xs)
  references_bare =
      ap₂ (λ (l : List Tagged) (p : Cursor). refer_emits References us hs l p) (from_bare AsgName xs) references_at_bare
      ∙ refer_emits_bare References us hs (from AsgName xs) (at_references us hs xs (cursor_5 us hs xs))

  strings_bare : strings us hs zs ≡ strings us hs xs
  strings_bare =
      ap₂
      (λ (a b : List ℕ). a ++ b)
      (four
      (all_emits UagName UagName Texts xs zero_cursor refl)
      (all_emits HagName HagName Texts xs zero_cursor refl)
      (from_emits UagName User User Texts xs zero_cursor refl)
      (from_emits HagName Host Host Lowered xs zero_cursor refl))
      (four
      (all_emits AsgName AsgName Texts xs zero_cursor refl)
      (from_emits AsgName Input Pvname Firsts xs zero_cursor refl)
      (ap (λ (l : List Tagged). refer_emits Texts [] [] l zero_cursor) (from_bare AsgName xs) ∙ refer_emits_bare Texts [] [] (from AsgName xs) zero_cursor)
      (from_emits AsgName RuleWord Calculation Firsts xs zero_cursor refl))

  body_bare : body us hs zs ≡ body us hs xs
  body_bare = four groups_bare access_bare (ap₂ (λ (a b : List ℕ). a ++ b) rules_bare references_bare) strings_bare

  header_bare : header_words us hs zs ≡ header_words us hs xs
  header_bare =
      same_words
      (ap (λ (l : List ℕ). header_bytes + length l) body_bare)
      (all_size UagName xs)
      (all_size HagName xs)
      (ap at cursor_1_bare)
      (ap₂ (λ (k l : ℕ). k + l) (from_size UagName User xs) (from_size HagName Host xs))
      (ap at cursor_2_bare)
      (all_size AsgName xs)
      (ap at cursor_3_bare)
      (from_size AsgName Input xs)
      (ap at cursor_4_bare)
      (from_size AsgName RuleWord xs)
      (ap at cursor_5_bare)
      (ap (λ (p : Cursor). p.first) cursor_6_bare)
      (ap at references_at_bare)
      (ap length strings_bare)
      (ap at cursor_7_bare)
    where
      at : Cursor → ℕ
      at p = p.at

  pub whole_bare : whole_table us hs zs ≡ whole_table us hs xs
  whole_bare = ap₂ (λ (ws bs : List ℕ). spelled_out ws ++ bs) header_bare body_bare

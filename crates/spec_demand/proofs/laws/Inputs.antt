-- The look-up in the table of a file answers with the file's own inputs.
use Rattle.std.specs.Prelude.{◌≡◌, refl, Bool, true, false, List, [], ◌∷◌, ◌++◌, map, ℕ, ◌+◌, ◌≤◌, ◌<◌, eqb, length, drop, get_or}
use Rattle.std.proofs.Common.{sym, ap, ◌∙◌, arith, length-take, length-drop, length-append}
use Rattle.std.proofs.Math.Option
use Rattle.std.proofs.Math.Option.{Option, none, some}
use Rattle.std.proofs.Math.Seq.{get_or-append_seam}
use Rattle.spec_lists.specs.Select.{first, first_if}
use Rattle.spec_lists.specs.Runs.{Run, part}
use Rattle.spec_lists.proofs.laws.Every.{first_is}
use Rattle.spec_rule.specs.Answering.{answering}
use Rattle.spec_rule.proofs.laws.Walk.{part_at}
use Rattle.spec_file.specs.Contents.{Link, Asg, File}
use Rattle.spec_file.specs.Limit.{access_groups, inputs}
use Rattle.spec_table.specs.Layout.{Content}
use Rattle.spec_table.specs.View.{view}
use Rattle.spec_table.specs.Check.{is_table, name_run, inputs_run, letter_field}
use Rattle.spec_table.specs.Policy.{name}
use Rattle.spec_table.specs.Written.{content, records, table_of}
use Rattle.spec_table.proofs.laws.Fits.{Fits}
use Rattle.spec_table.proofs.laws.Fields.{strings_count, string_at}
use Rattle.spec_table.proofs.laws.Standing.{stands, name_within}
use Rattle.spec_table.proofs.laws.Preserved.{link_of, links_of, answering_links}
use Rattle.spec_table.proofs.laws.Theorem.{viewed, is_a_table}
use Rattle.spec_decision.specs.LookUp.{input_of, named_part, look_up}
use Rattle.spec_demand.specs.ByFile.{inputs_in, input_by_file, name_found}

-- an element, by its place
record At {A : Type 0} (xs : List A) (d x : A) : Type 0 where
  pub place : ℕ
  pub inside : place < length xs
  pub is : get_or xs place d ≡ x

first_at : {A : Type 0} (p : A → Bool) (xs : List A) (d x : A) → first p xs ≡ some x → At xs d x
first_at {A} p xs d x e =
    let f = first_is p xs x e in
    let n = ap length f.among ∙ length-append f.earlier (x ∷ f.later) in
    record {
      place = length f.earlier;
      inside = omega arith;
      is = ap (λ (l : List A). get_or l (length f.earlier) d) f.among ∙ get_or-append_seam f.earlier x f.later d;
    }

part_of : {A : Type 0} (r : Run) (xs : List A) (d x : A) → At (part r xs) d x → At xs d x
part_of r xs d x a =
    let k = a.place in
    let l = a.inside in
    let t = length-take r.count (drop r.first xs) in
    let n = length-drop r.first xs in
    record { place = r.first + k; inside = omega arith; is = sym (part_at r xs d k (omega arith)) ∙ a.is }

-- the part that is found is the input's name
module _ (b : List ℕ) (h : is_table b ≡ true) where
  found_is :
      (letter : ℕ) (g : Option (List ℕ))
      → name_found (named_part inputs b (input_of (view b) letter g)) b ≡ Option.map (name (view b) inputs) (input_of (view b) letter g)
  found_is letter none = refl
  found_is letter (some group) = go (input_of (view b) letter (some group)) refl
    where
      go : (o : Option (List ℕ)) → input_of (view b) letter (some group) ≡ o → name_found (named_part inputs b o) b ≡ Option.map (name (view b) inputs) o
      go none e = refl
      go (some x) e =
          let s = stands b h in
          let a =
          part_of
          (inputs_run group)
          ((view b).records inputs) [] x
          (first_at (λ i. eqb (letter_field i) letter) (part (inputs_run group) ((view b).records inputs)) [] x e) in
          let w = name_within (view b) s.1 inputs a.place a.inside in
          let u : (name_run inputs x).first + (name_run inputs x).count ≤ length (view b).strings = rw (sym a.is) w in
          ap some (sym (string_at b s.0 (name_run inputs x) (rw (strings_count b s.0) at u)))

-- the first row of a letter is the first link of it
module _ (c : Content) (letter : ℕ) where
  first_link :
      (rows : List (List ℕ))
      → Option.map (name c inputs) (first (λ i. eqb (letter_field i) letter) rows)
      ≡ Option.map (λ l. l.name) (first (λ l. eqb l.letter letter) (map (link_of c) rows))
  first_link [] = refl
  first_link (x ∷ rows) = go (eqb (letter_field x) letter) (first_link rows)
    where
      go :
          (t : Bool)
          → Option.map (name c inputs) (first (λ i. eqb (letter_field i) letter) rows)
          ≡ Option.map (λ l. l.name) (first (λ l. eqb l.letter letter) (map (link_of c) rows))
          → Option.map (name c inputs) (first_if t x (first (λ i. eqb (letter_field i) letter) rows))
          ≡ Option.map (λ l. l.name) (first_if t (link_of c x) (first (λ l. eqb l.letter letter) (map (link_of c) rows)))
      go true i = refl
      go false i = i

  in_group :
      (o : Option (List ℕ))
      → Option.map (name c inputs) (input_of c letter o)
      ≡ Option.map (λ l. l.name) (first (λ l. eqb l.letter letter) (Option.get_or (Option.map (links_of c) o) []))
  in_group none = refl
  in_group (some group) = first_link (part (inputs_run group) (c.records inputs))

inputs_in_is : (o : Option Asg) → Option.get_or (Option.map (λ a. a.inputs) o) [] ≡ inputs_in o
inputs_in_is none = refl
inputs_in_is (some a) = refl

pub looked_up :
    (f : File) → Fits f → (rest : List ℕ) (g : List ℕ) (letter : ℕ)
    → name_found (look_up (table_of f ++ rest) g letter) (table_of f ++ rest) ≡ input_by_file f g letter
unfolding look_up
looked_up f fits rest g letter =
    let b = table_of f ++ rest in
    let h = is_a_table f fits rest in
    let by : List Link → Option (List ℕ) = λ ls. Option.map (λ l. l.name) (first (λ l. eqb l.letter letter) ls) in
    rw h
    (found_is b h letter (answering (name (view b) access_groups) g ((view b).records access_groups))
    ∙ ap (λ (c : Content). Option.map (name c inputs) (input_of c letter (answering (name c access_groups) g (c.records access_groups)))) (viewed f fits rest)
    ∙ in_group (content f) letter (answering (name (content f) access_groups) g (records f access_groups))
    ∙ ap (λ (o : Option (List Link)). by (Option.get_or o [])) (answering_links f g)
    ∙ ap by (inputs_in_is (answering (λ a. a.name) g f.asgs)))

-- The text of a table, section by section.
use Rattle.std.specs.Prelude.{◌≡◌, List, ◌++◌, map, ℕ, ◌<◌, length}
use Rattle.std.proofs.Common.{ap, ap₂, ◌∙◌, arith}
use Rattle.spec_lists.specs.Text.{bytes}
use Rattle.spec_lists.specs.Select.{joined}
use Rattle.spec_lists.proofs.laws.Joined.{map_map}
use Rattle.spec_file.specs.Limit.{user_groups, host_groups, access_groups}
use Rattle.spec_table.specs.Layout.{Content}
use Rattle.spec_text.specs.Lines.{group_lines, asg_lines, ended, text_of}
use Rattle.spec_export.specs.Says.{group_in, asg_in, file_in}
use Rattle.spec_export.specs.Unwritable.{text_in}
use Rattle.byte_write.specs.Put.{usize_limit}
use Rattle.text_marks.specs.Room.{Room}
use Rattle.text_marks.specs.laws.Ended.{ended_append, ended_joined}
use Rattle.text_groups.specs.Groups.{groups_text}
use Rattle.text_write.specs.Access.{accesses_text}

-- what some records say, each in its lines
said : {A B : Type 0} (f : B → List (List ℕ)) (g : A → B) (xs : List A) → ended (joined (map f (map g xs))) ≡ joined (map (λ x. ended (f (g x))) xs)
said f g xs = ended_joined f (map g xs) ∙ ap joined (map_map (λ y. ended (f y)) g xs)

pub text_parts :
    (c : Content) → text_in c ≡ groups_text c user_groups (bytes "UAG") ++ (groups_text c host_groups (bytes "HAG") ++ accesses_text c)
unfolding text_of
text_parts c =
    let us = joined (map (group_lines (bytes "UAG")) (file_in c).uags) in
    let hs = joined (map (group_lines (bytes "HAG")) (file_in c).hags) in
    let gs = joined (map asg_lines (file_in c).asgs) in
    ended_append us (hs ++ gs)
    ∙ ap₂
    (λ (x y : List ℕ). x ++ y)
    (said (group_lines (bytes "UAG")) (group_in c user_groups) (c.records user_groups))
    (ended_append hs gs
    ∙ ap₂
    (λ (x y : List ℕ). x ++ y)
    (said (group_lines (bytes "HAG")) (group_in c host_groups) (c.records host_groups))
    (said asg_lines (asg_in c) (c.records access_groups)))

pub room_from_start : (c : Content) → length (text_in c) < usize_limit → Room 0 (text_in c)
room_from_start c h = record { fits = omega arith }

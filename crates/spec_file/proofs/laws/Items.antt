-- THE THEOREM of Contents: a file says what its items say, item by item.
--
-- Contents takes the members of a group, and the inputs and rules of an ASG, from all tokens up to the next name of the same kind. These tokens
-- may run past the closing brace, over later definitions and unknown items. In a file of 001's grammar nothing is taken from there: each item of
-- the file, read by itself, says one UAG, one HAG, one ASG or nothing, and the file says these in the order of its items. Between the braces of
-- an ASG it is the same: each INP says one input and each RULE one rule, by its own tokens.
use Rattle.std.specs.Prelude.{◌≡◌, refl, true, List, [], ◌∷◌, map}
use Rattle.std.proofs.Common.{sym, ap, ◌∙◌}
use Rattle.std.proofs.Math.Option.{get_or}
use Rattle.spec_lists.specs.Select.{joined}
use Rattle.spec_lists.specs.Every.{Every}
use Rattle.spec_lists.proofs.laws.Every.{every_implies}
use Rattle.spec_lists.proofs.laws.Joined.{map_map}
use Rattle.spec_token.specs.Token.{Token}
use Rattle.spec_token.specs.Word.{link_letter}
use Rattle.spec_grammar.specs.declared.Role.{Role}
use Rattle.spec_grammar.specs.declared.Role.TheVariants.{UagName, User, HagName, Host, AsgName, Input, Pvname, RuleWord}
use Rattle.spec_grammar.specs.Codes.{same_role}
use Rattle.spec_grammar.specs.Production.{uag_def, hag_def, asg_def, inp_config, rule_config, generic_top_level_item}
use Rattle.spec_grammar.specs.Sentence.{Tagged, Reads}
use Rattle.spec_grammar.proofs.laws.Roles.{rule_roles, asg_roles}
use Rattle.spec_grammar.proofs.laws.Items as grammar
use Rattle.spec_grammar.proofs.laws.Items.{Is, roles, Headed, FileItems, file_items, AsgItems, asg_items}
use Rattle.spec_file.specs.Contents.{text, texts, clauses, Group, Asg, File, head_of, groups, links, rule_text, asg, file_of}
use Rattle.spec_file.proofs.laws.Clauses.{apart, Named, own_clause, other_clauses}
use Rattle.spec_file.proofs.laws.ItemClauses.{group, link, rule_of, rule_texts, group_looks, link_looks, rule_looks, asg_looks, links_by_items}
use Rattle.spec_file.proofs.laws.ItemClauses.{rules_by_items, uags_by_items, hags_by_items, asgs_by_items}

-- ---- what the theorem says

-- An item between the braces of an ASG says one input or one rule.
pub data AsgItemSays (i : List Tagged) : Type 0 where
  input :
      Is inp_config i → (word : Tagged) → Named Input word i
      → links i ≡ record { letter = link_letter (text word); name = get_or (head_of (texts Pvname i)) [] } ∷ [] → rule_texts i ≡ [] → AsgItemSays i
  rule : Is rule_config i → links i ≡ [] → rule_texts i ≡ rule_text i ∷ [] → AsgItemSays i

-- The inputs and rules of an ASG are those of the items between its braces, in their order.
pub record AsgByItems (xs : List Tagged) : Type 0 where
  pub division : AsgItems xs
  pub each : Every AsgItemSays division.items
  pub inputs : links xs ≡ joined (map links division.items)
  pub rules : rule_texts xs ≡ joined (map rule_texts division.items)

-- An item of a file says one UAG, one HAG, one ASG or nothing.
pub data ItemSays (i : List Tagged) : Type 0 where
  user_group :
      Is uag_def i → (name : Tagged) → Named UagName name i
      → file_of i ≡ record { uags = record { name = text name; members = texts User i } ∷ []; hags = []; asgs = [] } → ItemSays i
  host_group :
      Is hag_def i → (name : Tagged) → Named HagName name i
      → file_of i ≡ record { uags = []; hags = record { name = text name; members = texts Host i } ∷ []; asgs = [] } → ItemSays i
  access_group :
      Is asg_def i → (name : Tagged) → Named AsgName name i → AsgByItems i
      → file_of i ≡ record { uags = []; hags = []; asgs = record { name = text name; inputs = links i; rules = rule_texts i } ∷ [] } → ItemSays i
  unknown : Is generic_top_level_item i → file_of i ≡ record { uags = []; hags = []; asgs = [] } → ItemSays i

-- what files say, one behind the other
abbrev pub together : List File → File
together fs =
    record { uags = joined (map (λ f. f.uags) fs); hags = joined (map (λ f. f.hags) fs); asgs = joined (map (λ f. f.asgs) fs) }

-- A file says what its items say, in their order.
pub record FileByItems (xs : List Tagged) : Type 0 where
  pub division : FileItems xs
  pub each : Every ItemSays division.items
  pub says : file_of xs ≡ together (map file_of division.items)

-- ---- an ASG

asg_item_says : (i : List Tagged) → grammar.AsgItem i → AsgItemSays i
asg_item_says i (grammar.input d h) =
    let o = own_clause Input (Pvname ∷ []) link link_looks i refl refl h in
    input d o.name o.named o.clauses (ap (map rule_of) (other_clauses RuleWord i refl h))
asg_item_says i (grammar.rule d h) =
    rule d (ap (map link) (other_clauses Input i refl h)) (own_clause RuleWord rule_roles rule_of rule_looks i refl refl h).clauses

pub asg_by_items : (xs : List Tagged) → Is asg_def xs → AsgByItems xs
asg_by_items xs d =
    let o = asg_items xs d in
    record {
      division = o;
      each = every_implies (λ i e. asg_item_says i (grammar.asg_item i e)) o.each;
      inputs = links_by_items xs o;
      rules = rules_by_items xs o;
    }

-- ---- a file

same_file :
    {a b c d : List Group} {e f : List Asg} → a ≡ b → c ≡ d → e ≡ f
    → ◌≡◌ {A = File} (record { uags = a; hags = c; asgs = e }) (record { uags = b; hags = d; asgs = f })
same_file x y z = rw (x, y, z) refl

-- what is headed by h says no group and no ASG, if none of it may say their names
no_groups :
    (r m : Role) {h : Role} {rs : List Role} (i : List Tagged) → apart (λ z. same_role z r) h rs ≡ true → Headed h rs (roles i) → groups r m i ≡ []
no_groups r m i w h = ap (map (group m)) (other_clauses r i w h)

no_asgs :
    {h : Role} {rs : List Role} (i : List Tagged) → apart (λ z. same_role z AsgName) h rs ≡ true → Headed h rs (roles i)
    → map asg (clauses AsgName i) ≡ []
no_asgs i w h = ap (map asg) (other_clauses AsgName i w h)

item_says : (i : List Tagged) → grammar.Item i → ItemSays i
item_says i (grammar.user_group d h) =
    let o = own_clause UagName (User ∷ []) (group User) (group_looks User refl) i refl refl h in
    user_group d o.name o.named (same_file o.clauses (no_groups HagName Host i refl h) (no_asgs i refl h))
item_says i (grammar.host_group d h) =
    let o = own_clause HagName (Host ∷ []) (group Host) (group_looks Host refl) i refl refl h in
    host_group d o.name o.named (same_file (no_groups UagName User i refl h) o.clauses (no_asgs i refl h))
item_says i (grammar.access_group d h) =
    let o = own_clause AsgName asg_roles asg asg_looks i refl refl h in
    access_group d o.name o.named (asg_by_items i d) (same_file (no_groups UagName User i refl h) (no_groups HagName Host i refl h) o.clauses)
item_says i (grammar.unknown d h) =
    unknown d (same_file (no_groups UagName User i refl h) (no_groups HagName Host i refl h) (no_asgs i refl h))

pub file_by_items : (ts : List Token) (xs : List Tagged) → Reads ts xs → FileByItems xs
file_by_items ts xs r =
    let o = file_items xs r.derived in
    record {
      division = o;
      each = every_implies (λ i d. item_says i (grammar.item i d)) o.each;
      says =
          same_file
          (uags_by_items xs o ∙ ap joined (sym (map_map (λ f. f.uags) file_of o.items)))
          (hags_by_items xs o ∙ ap joined (sym (map_map (λ f. f.hags) file_of o.items)))
          (asgs_by_items xs o ∙ ap joined (sym (map_map (λ f. f.asgs) file_of o.items)));
    }

-- What is written for the tokens of a role, one after the other, and how the cursor moves on.
use Rattle.std.specs.Prelude.{cond, List, [], ◌∷◌, ◌++◌, ℕ}
use Rattle.spec_grammar.specs.declared.Role.{Role}
use Rattle.spec_grammar.specs.declared.Role.TheVariants.{UagNamed, HagNamed, RuleWord}
use Rattle.spec_grammar.specs.Sentence.{Tagged}
use Rattle.spec_file.specs.Contents.{has_role}
use Rattle.load_flags.specs.Tokens.{cut}
use Rattle.load_records.specs.declared.Cursor.{Cursor}
use Rattle.load_records.specs.Work.{Work}
use Rattle.load_records.specs.Record.{emit, move}

-- ---- each token that says q

-- m: the cursor behind what is written for a token, behind which others stand
unfoldable pub each_moves : Role → (Tagged → List Tagged → Cursor → Cursor) → List Tagged → Cursor → Cursor
each_moves q m [] p = p
each_moves q m (x ∷ xs) p = cond (has_role q x) (each_moves q m xs (m x xs p)) (each_moves q m xs p)

-- e: what is written for it
unfoldable pub each_emits : Role → (Tagged → List Tagged → Cursor → List ℕ) → (Tagged → List Tagged → Cursor → Cursor) → List Tagged → Cursor → List ℕ
each_emits q e m [] p = []
each_emits q e m (x ∷ xs) p = cond (has_role q x) (e x xs p ++ each_emits q e m xs (m x xs p)) (each_emits q e m xs p)

-- ---- a pass: a record or a string for each token

abbrev pub emits : Role → Role → List (List ℕ) → Work → List Tagged → Cursor → List ℕ
emits q m names w xs p = each_emits q (emit q m names w) (move q m names w) xs p

abbrev pub moves : Role → Role → List (List ℕ) → Work → List Tagged → Cursor → Cursor
moves q m names w xs p = each_moves q (move q m names w) xs p

-- ---- the references of one rule, whose body is ys: those to user groups, then those to host groups

abbrev pub rule_emits : Work → List (List ℕ) → List (List ℕ) → List Tagged → Cursor → List ℕ
rule_emits w us hs ys p = emits UagNamed UagNamed us w ys p ++ emits HagNamed HagNamed hs w ys (moves UagNamed UagNamed us w ys p)

abbrev pub rule_moves : Work → List (List ℕ) → List (List ℕ) → List Tagged → Cursor → Cursor
rule_moves w us hs ys p = moves HagNamed HagNamed hs w ys (moves UagNamed UagNamed us w ys p)

-- ---- and those of all rules

abbrev pub refer_emits : Work → List (List ℕ) → List (List ℕ) → List Tagged → Cursor → List ℕ
refer_emits w us hs xs p =
    each_emits RuleWord (λ x ys c. rule_emits w us hs (cut RuleWord ys) c) (λ x ys c. rule_moves w us hs (cut RuleWord ys) c) xs p

abbrev pub refer_moves : Work → List (List ℕ) → List (List ℕ) → List Tagged → Cursor → Cursor
refer_moves w us hs xs p = each_moves RuleWord (λ x ys c. rule_moves w us hs (cut RuleWord ys) c) xs p

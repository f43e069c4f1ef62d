-- The first text of a role in a part, from where the code finds it.
use Rattle.std.specs.Prelude.{List, [], ◌≡◌, ℕ, ◌+◌, ◌-◌, ◌<◌, ◌≤◌}
use Rattle.std.proofs.Math.Option.{Option, some, get_or}
use Rattle.std.proofs.Common.{sym, ap, ◌∙◌, arith}
use Rattle.spec_grammar.specs.declared.Role.{Role}
use Rattle.spec_grammar.specs.Codes.{role_number}
use Rattle.spec_file.specs.Contents.{text}
use Rattle.load_tokens.specs.Arrays.{Arrays, role_of_number, tagged_at}
use Rattle.load_tokens.specs.laws.Arrays.{role_back}
use Rattle.load_spans.specs.Roles.{RoleCode, tokens, gap}
use Rattle.load_spans.specs.laws.Roles.{first_some, first_none}
use Rattle.load_flags.specs.Tokens.{first_text}

-- ---- the first text of a role in a part
module _ (s : List ℕ) (ar : Arrays) (roles : List ℕ) (r : Role) (i to j : ℕ) (tm : RoleCode (role_number r)) (g : j ≡ i + gap (role_number r) (role_number r) roles i (to - i)) where
  told : {t : List ℕ} → first_text (role_of_number (role_number r)) (tokens s ar roles i to) ≡ t → first_text r (tokens s ar roles i to) ≡ t
  told e = ap (λ (q : Role). first_text q (tokens s ar roles i to)) (sym (role_back r)) ∙ e

  pub first_here : j < to → first_text r (tokens s ar roles i to) ≡ text (tagged_at s ar roles j)
  first_here l =
      told
      (ap (λ (o : Option (List ℕ)). get_or o [])
      (first_some s ar roles (role_number r) i (to - i) tm (omega arith) ∙ ap (λ (n : ℕ). some (text (tagged_at s ar roles n))) (sym g)))

  pub first_nowhere : to ≤ j → first_text r (tokens s ar roles i to) ≡ []
  first_nowhere l = told (ap (λ (o : Option (List ℕ)). get_or o []) (first_none s ar roles (role_number r) i (to - i) tm (omega arith)))

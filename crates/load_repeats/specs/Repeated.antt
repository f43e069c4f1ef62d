-- A name, a letter or a CALC given again, role by role.
use Rattle.std.specs.Prelude.{Bool, not, ◌&&◌, ◌||◌, List}
use Rattle.spec_lists.specs.Text.{same}
use Rattle.spec_lists.specs.Select.{any, run}
use Rattle.spec_grammar.specs.declared.Role.{Role}
use Rattle.spec_grammar.specs.declared.Role.TheVariants.{UagName, HagName, AsgName}
use Rattle.spec_grammar.specs.Sentence.{Tagged}
use Rattle.spec_file.specs.Contents.{has_role, text}
use Rattle.spec_file.specs.Refusal.{Context}

-- A token of the role stop ends the scope of the tokens of the role q before it; none does if q and stop are one role.
abbrev pub ends_scope : Role → Role → Tagged → Bool
ends_scope q stop x = not (has_role q x) && has_role stop x

abbrev pub since : Role → Role → List Tagged → List Tagged
since q stop xs = run (λ x. not (ends_scope q stop x)) xs

-- a token has the role and the text of another
abbrev pub alike : Tagged → Tagged → Bool
alike x y = has_role y.role x && same (text y) (text x)

-- a token of the role q is given again
abbrev pub repeated : Role → Role → Context → Bool
repeated q stop c = has_role q c.here && any (alike c.here) (since q stop c.backwards)

-- the name of a group is given again
abbrev pub name_repeated : Context → Bool
name_repeated c = repeated UagName UagName c || (repeated HagName HagName c || repeated AsgName AsgName c)

-- The later edition as functions. Nobody has to believe them: proofs/laws/Agreement.antt proves that they give what Edition.antt says.
use Rattle.std.specs.Prelude.{Bool, cond, ◌&&◌, List, [], map}
use Rattle.std.proofs.Math.Option.{Option, none, some}
use Rattle.spec_lists.specs.Select.{all, select}
use Rattle.spec_grammar.specs.Sentence.{Tagged}
use Rattle.spec_rule.specs.declared.Access.{Access}
use Rattle.spec_rule.specs.declared.Access.TheVariants as access
use Rattle.spec_rule.specs.Question.{Question, valid}
use Rattle.spec_rule.specs.Rule.{asks, greatest}
use Rattle.spec_rule.specs.Answering.{answering}
use Rattle.spec_file.specs.Contents.{RuleText, Asg, File, file_of}
use Rattle.spec_file.specs.Meaning.{rule_in}
use Rattle.spec_edition.specs.Edition.{Edition}

abbrev pub passes_later : Edition → File → Question → RuleText → Bool
passes_later e f q r = all (λ p. e p q) r.unknown && asks (rule_in f r) q

abbrev pub rules_later : Option Asg → List RuleText
rules_later none = []
rules_later (some a) = a.rules

abbrev pub access_by_rules : Edition → File → Question → List RuleText → Access
access_by_rules e f q rs = greatest (map (λ r. r.permission) (select (passes_later e f q) rs))

abbrev pub access_later : Edition → List Tagged → Question → Access
access_later e xs q =
    cond (valid q)
    (access_by_rules e (file_of xs) q (rules_later (answering (λ a. a.name) q.group (file_of xs).asgs)))
    access.None

use Rattle.std.proofs.Common.{rules, tests}
use Rattle.std.proofs.lemmas.Iterator.{YieldsList-from_slice}
use Rattle.std.proofs.lemmas.Iterator.Search.{all_from_yields_List}
use Rattle.spec_table.specs.View.{view}
use Rattle.table_fields.specs.declared.TheConstants.{SECTIONS}
use Rattle.table_fields.specs.Field.{section}
use Rattle.table_records.specs.Records.{section_stands}
use Rattle.table.proofs.records_stand.Goals as goal

pub returns : goal.returns
returns c = all_from_yields_List (λ s. section_stands (view c.args.b.now) (section s)) _ _ c.all.result c.all.ensures.ran (YieldsList-from_slice SECTIONS (cc)) (λ x b q k. search (rules, tests))

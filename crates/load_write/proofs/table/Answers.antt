use Rattle.load_passes.specs.Source.{all_of, host_names, user_names}
use Rattle.load_write.specs.Table.{stored_table}
use Rattle.load_write.specs.laws.Table.{table_put}
use Rattle.load_write.proofs.table.Goals as goal

pub returns : goal.returns
unfolding stored_table
returns c =
    let s = c.args.source.now in
    table_put (user_names s) (host_names s) (all_of s.tokens)
    c.group_sections-groups.ensures
    c.access_sections-access.ensures
    c.rule_sections-rules.ensures
    c.group_strings-named.ensures
    c.access_strings-end.ensures
    c.count_all.ensures
    c.put_header.ensures

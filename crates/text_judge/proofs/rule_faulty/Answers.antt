use Rattle.text_judge.specs.laws.Judged.{users_inside, hosts_inside}
use Rattle.text_judge.proofs.rule_faulty.Goals as goal

pub some_undefined-requires : goal.some_undefined-requires
some_undefined-requires c = (c.requires.table, users_inside c.args.table.now c.args.rule c.requires c.run-users.ensures.end)

pub some_undefined-requires-else-some_undefined : goal.some_undefined-requires-else-some_undefined
some_undefined-requires-else-some_undefined c = (c.requires.table, hosts_inside c.args.table.now c.args.rule c.requires c.run-hosts.ensures.end)

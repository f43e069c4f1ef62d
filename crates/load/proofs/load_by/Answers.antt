use Rattle.std.proofs.Common.{refl}
use Rattle.load_judge.specs.laws.Bounded.{few_host_groups, few_user_groups}
use Rattle.load.specs.laws.Outcome.{load_refused, load_stored, table_fits}
use Rattle.load.proofs.load_by.Goals as goal

pub store-requires-clause-few_users : goal.store-requires-clause-few_users
store-requires-clause-few_users g c = few_user_groups c.in-Ok.ensures.judged refl

pub store-requires-clause-few_hosts : goal.store-requires-clause-few_hosts
store-requires-clause-few_hosts g c = few_host_groups c.in-Ok.ensures.judged refl

pub store-requires-clause-fits : goal.store-requires-clause-fits
store-requires-clause-fits g c = table_fits c.in-Ok.ensures.judged

pub returns-in-Err : goal.returns-in-Err
returns-in-Err g c = load_refused c.args.lent.now c.in-Err.ensures.judged

pub returns-in-Ok : goal.returns-in-Ok
returns-in-Ok g c = load_stored c.in-Ok.ensures.judged c.args.lent.now c.store.ensures

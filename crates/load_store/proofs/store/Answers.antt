use Rattle.std.proofs.Common.{length, sym}
use Rattle.std.proofs.Math.Seq.{length-take-le}
use Rattle.load_tokens.specs.Views.{kept, roles}
use Rattle.load_store.specs.laws.Stored.{collected, collected_among, collected_room, stored_done, stored_undone}
use Rattle.load_store.proofs.store.Goals as goal

pub slice_bounds-uags-end : goal.slice_bounds-uags-end
slice_bounds-uags-end c = collected_room c.collect-u.ensures c.requires.few_users

pub slice_bounds-source-end : goal.slice_bounds-source-end
slice_bounds-source-end c = sym (length-take-le _ _ (collected_room c.collect-u.ensures c.requires.few_users))

pub slice_bounds-hags-end : goal.slice_bounds-hags-end
slice_bounds-hags-end c = collected_room c.collect-h.ensures c.requires.few_hosts

pub slice_bounds-source-end-2 : goal.slice_bounds-source-end-2
slice_bounds-source-end-2 c = sym (length-take-le _ _ (collected_room c.collect-h.ensures c.requires.few_hosts))

pub invariant_of-source : goal.invariant_of-source
invariant_of-source c =
    record {
      users = collected_among c.collect-u.ensures c.requires.few_users;
      hosts = collected_among c.collect-h.ensures c.requires.few_hosts;
    }

pub write-requires : goal.write-requires
write-requires c = rw (collected c.collect-u.ensures c.requires.few_users, collected c.collect-h.ensures c.requires.few_hosts) c.requires.fits

pub returns-in-Err : goal.returns-in-Err
returns-in-Err c =
    let t = c.args.tokens.now in
    let ts = t.list.now in
    stored_undone t.text.now (kept ts) (roles ts) (length ts) c.args.lent.now
    (collected c.collect-u.ensures c.requires.few_users)
    (collected c.collect-h.ensures c.requires.few_hosts)
    c.write.ensures
    c.in-Err.is

pub returns-in-Ok : goal.returns-in-Ok
returns-in-Ok c =
    let t = c.args.tokens.now in
    let ts = t.list.now in
    stored_done t.text.now (kept ts) (roles ts) (length ts) c.args.lent.now
    (collected c.collect-u.ensures c.requires.few_users)
    (collected c.collect-h.ensures c.requires.few_hosts)
    c.write.ensures
    c.in-Ok.is
    c.count.ensures

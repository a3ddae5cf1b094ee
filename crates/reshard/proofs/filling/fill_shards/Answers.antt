use Rattle.std.proofs.Common.{◌+◌, ◌<◌, get_or, length, refl, ap, arith, subst}
use Rattle.journal.specs.Beginnings.{BegunView}
use Rattle.journal.specs.Records.{HasRecords}
use Rattle.records.specs.Identity.{Identity}
use Rattle.reshard.specs.Merging.{merged}
use Rattle.reshard.specs.Made.{shard_first}
use Rattle.reshard.proofs.Filled.{honest_kept, one_so_far}
use Rattle.reshard.proofs.Written.{keeps_first_set}
use Rattle.reshard.proofs.filling.fill_shards.Goals as goal

pub returns-in_err-fill_shard-clause-honest : goal.returns-in_err-fill_shard-clause-honest
returns-in_err-fill_shard-clause-honest g c = λ all.
    let before = c.loop-shard.invariant in
    let was = get_or c.loop-shard.begun (c.loop-shard.shard + 1) c.index-begun-shard.result in
    let within : c.loop-shard.shard + 1 < length c.loop-shard.begun = omega (arith, before.count_is, c.requires.count, c.loop-shard-test.true, c.count-shard-end.ensures.value) in
    honest_kept g.D.Device.state g.D.Device.honest c.loop-shard.begun (c.loop-shard.shard + 1) was c.fill_shard.new.begun within (ap (λ (d : BegunView _). get_or c.loop-shard.begun (c.loop-shard.shard + 1) d) c.index-begun-shard.is) c.fill_shard.ensures.honest (before.still_honest all)

pub loop-shard-preserved : goal.loop-shard-preserved
loop-shard-preserved g c =
    let before = c.loop-shard.invariant in
    let was = get_or c.loop-shard.begun (c.loop-shard.shard + 1) c.index-begun-shard.result in
    let state = g.D.Device.state in
    let new = c.fill_shard.new.begun in
    let within : c.loop-shard.shard + 1 < length c.loop-shard.begun = omega (arith, before.count_is, c.requires.count, c.loop-shard-test.true, c.count-shard-end.ensures.value) in
    one_so_far state g.D.Device.honest c.args.store c.args.shards c.args.reach (merged c.args.rows.now) c.args.begun.now c.loop-shard.shard (c.loop-shard.shard + 1) c.loop-shard.begun was new
    before refl within (ap (λ (d : BegunView _). get_or c.loop-shard.begun (c.loop-shard.shard + 1) d) c.index-begun-shard.is) c.fill_shard.ensures.honest
    (λ hon_a hon_b. subst (λ (me : Identity). HasRecords (state new.a) (state new.b) (shard_first me c.args.reach (merged c.args.rows.now))) c.shard-me.ensures (c.in_ok-fill_shard.ensures.ok hon_a hon_b))

pub returns-in_err-fill_shard-clause-head : goal.returns-in_err-fill_shard-clause-head
returns-in_err-fill_shard-clause-head g c = keeps_first_set c.args.begun.now c.loop-shard.begun (c.loop-shard.shard + 1) c.loop-shard.shard c.fill_shard.new.begun refl c.loop-shard.invariant.head

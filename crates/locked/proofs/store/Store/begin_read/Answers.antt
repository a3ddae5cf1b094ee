use Rattle.std.proofs.Common.{length}
use Rattle.names.specs.declared.call_name.CallName.TheVariants as names
use Rattle.locked.proofs.Words.{prefix_length}
use Rattle.locked.proofs.ReadTurns.{read_at, read_beyond}
use Rattle.locked.proofs.store.Store.begin_read.Goals as goal

pub returns-in-Some-clause-runs : goal.returns-in-Some-clause-runs
returns-in-Some-clause-runs g c =
    read_at g.B.Room.rests g.B.Room.shards c.shards-count.result c.known_place.new.caller.pass.seen c.args.freshness (length c.args.caller.now.pass.seen) c.known_place.new.caller.pass.horizon c.in-Some.place c.args.sets.items c.at.result
    c.shards-count.ensures c.at.ensures.asked c.in-Some.ensures.there c.in-Some.ensures.fresh c.at.ensures.begins

pub returns-in-None-clause-runs : goal.returns-in-None-clause-runs
returns-in-None-clause-runs g c =
    read_beyond g.B.Room.rests g.B.Room.shards c.shards-count.result c.known_place.new.caller.pass.seen c.args.freshness (length c.args.caller.now.pass.seen) c.known_place.new.caller.pass.horizon c.args.sets.items names.Heads c.new.result
    c.shards-count.ensures c.new.ensures (prefix_length c.args.caller.now.pass.seen c.known_place.new.caller.pass.seen c.known_place.ensures.caller.seen) c.in-None.ensures.beyond

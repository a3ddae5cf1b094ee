use Rattle.std.proofs.Common.{◌∙◌, length, sym, ap, subst, arith}
use Rattle.calls.specs.declared.progress.Progress.TheVariants.{Ended, Next}
use Rattle.locked.proofs.Words.{IsReadOf, prefix_length, ReadFlowValue, ReadHasReason}
use Rattle.answer_flow.specs.ReadViews.{ended, ending_of, seen_of}
use Rattle.locked.proofs.ReadTurns.{read_ends, read_refuses}
use Rattle.locked.proofs.store.Store.try_read.Goals as goal

pub run_read-requires-clause-of : goal.run_read-requires-clause-of
run_read-requires-clause-of g c = ap (λ (f : ReadFlowValue). f.shards) c.in-Next.ensures.runs.of

pub run_read-requires-clause-held : goal.run_read-requires-clause-held
run_read-requires-clause-held g c rests =
    let runs = c.in-Next.ensures.runs in
    subst (λ (f : ReadFlowValue). IsReadOf g.B.Room.shards c.begin_read.new.caller.pass.seen f.fresh f.sets (seen_of c.in-Next.flow)) (sym runs.of) (runs.held rests)

pub returns-in-Next-clause-answer : goal.returns-in-Next-clause-answer
returns-in-Next-clause-answer g c rests =
    let runs = c.in-Next.ensures.runs in
    let end = ending_of c.run_read.result.end in
    let held = subst (λ (f : ReadFlowValue). IsReadOf g.B.Room.shards c.run_read.new.caller.pass.seen f.fresh f.sets (ended end)) runs.of (c.run_read.ensures.held rests) in
    read_ends g.B.Room.rests g.B.Room.shards c.begin_read.new.caller.pass.seen c.run_read.new.caller.pass.seen c.args.freshness (length c.args.caller.now.pass.seen) c.begin_read.new.caller.pass.horizon c.args.sets.items (Next c.in-Next.flow) end runs held

pub returns-in-Next-clause-refused : goal.returns-in-Next-clause-refused
returns-in-Next-clause-refused g c rests =
    let runs = c.in-Next.ensures.runs in
    let run = c.run_read.ensures in
    let end = ending_of c.run_read.result.end in
    let reason = subst (λ (f : ReadFlowValue). ReadHasReason c.run_read.new.told f.fresh c.run_read.new.caller.pass.seen c.run_read.new.caller.pass.horizon (ended end)) runs.of (run.reason rests) in
    read_refuses g.B.Room.rests g.B.Room.shards c.begin_read.new.caller.pass.seen c.run_read.new.caller.pass.seen c.args.freshness (length c.args.caller.now.pass.seen) c.begin_read.new.caller.pass.horizon c.run_read.new.caller.pass.horizon c.run_read.new.told
    c.args.sets.items (Next c.in-Next.flow) end runs (prefix_length c.begin_read.new.caller.pass.seen c.run_read.new.caller.pass.seen run.caller.seen) reason

pub returns-in-Next-clause-sets : goal.returns-in-Next-clause-sets
returns-in-Next-clause-sets g c = c.run_read.ensures.sets ∙ ap (λ (f : ReadFlowValue). f.sets) c.in-Next.ensures.runs.of

pub returns-in-Ended-clause-answer : goal.returns-in-Ended-clause-answer
returns-in-Ended-clause-answer g c rests =
    let runs = c.in-Ended.ensures.runs in
    read_ends g.B.Room.rests g.B.Room.shards c.begin_read.new.caller.pass.seen c.begin_read.new.caller.pass.seen c.args.freshness (length c.args.caller.now.pass.seen) c.begin_read.new.caller.pass.horizon c.args.sets.items (Ended c.in-Ended.done) (ending_of c.in-Ended.done.end) runs (runs.held rests)

pub returns-in-Ended-clause-refused : goal.returns-in-Ended-clause-refused
returns-in-Ended-clause-refused g c rests =
    let runs = c.in-Ended.ensures.runs in
    read_refuses g.B.Room.rests g.B.Room.shards c.begin_read.new.caller.pass.seen c.begin_read.new.caller.pass.seen c.args.freshness (length c.args.caller.now.pass.seen) c.begin_read.new.caller.pass.horizon c.begin_read.new.caller.pass.horizon c.args.told.now
    c.args.sets.items (Ended c.in-Ended.done) (ending_of c.in-Ended.done.end) runs (omega arith) (runs.reason c.args.told.now)

pub returns-in-Ended-clause-sets : goal.returns-in-Ended-clause-sets
returns-in-Ended-clause-sets g c = c.in-Ended.ensures.runs.of

use Rattle.std.proofs.Common.{Err, ◌≡◌, false, List, sym, ◌∙◌, ap, subst}
use Rattle.std.proofs.lemmas.Result.{err_from_is_err_and}
use Rattle.refusal.specs.declared.refusal.Refusal.{Refusal}
use Rattle.refusal.specs.declared.refusal.Refusal.TheVariants.{Full, NoMemory, Precondition}
use Rattle.tuples.specs.declared.entry.Entry.{Entry}
use Rattle.tuples.specs.Parts.{part}
use Rattle.records.specs.Replays.{Identity, MayPrepare, ShardState}
use Rattle.records.specs.declared.record.Record.TheVariants.{Prepare as prepare_record}
use Rattle.replay.specs.Alike.{IsAlike}
use Rattle.replay.proofs.Alike.{alike_sym, may_come_alike}
use Rattle.records.specs.declared.record.Record.{Record}
use Rattle.journal.specs.Records.{HasNoRoom, View}
use Rattle.decisions.specs.Values.{IsIntent, TicketValue}
use Rattle.shard.specs.Shards.{HoldHere, IsBroken, IsPreparable, ShardView, Stages, memory, own_part}
use Rattle.shard.proofs.Kept.{memory_is, prepare_same_epoch, stages, still_up, view_of}
use Rattle.shard.proofs.Prepared.{epoch_after, held_after, kept_after}
use Rattle.shard.proofs.Tested.{part_may_come}
use Rattle.shard.proofs.Told.{broken_alike, hold_alike, preparable_alike}
use Rattle.shard.proofs.shard.Shard.stage_prepare.Goals as goal

pub new-requires-clause-held : goal.new-requires-clause-held
new-requires-clause-held g c = λ ha hb.
    let s = c.self.inside in
    let me : Identity = s.me in
    let w = c.entry-write.result.now in
    let whole : IsIntent w = subst IsIntent (sym c.entry-write.ensures.value) c.entry-write.ensures.whole in
    let e = c.in_ok-prepare.ensures in
    let up : c.prepare.new.journal.is_down ≡ false = ap (λ (j : View g.row.D.Denot). j.is_down) e.staged ∙ e.up in
    held_after g.D.Device.state g.D.Device.honest s.journal c.prepare.new.journal me s.memory c.prepare.new.memory s.unflushed c.prepare.new.unflushed s.settled w
    c.self.invariant whole e.ok e.staged e.held e.waits up ha hb

pub new-requires-clause-epoch : goal.new-requires-clause-epoch
new-requires-clause-epoch g c = λ ha hb.
    let s = c.self.inside in
    let me : Identity = s.me in
    let w = c.entry-write.result.now in
    let whole : IsIntent w = subst IsIntent (sym c.entry-write.ensures.value) c.entry-write.ensures.whole in
    let e = c.in_ok-prepare.ensures in
    let up : c.prepare.new.journal.is_down ≡ false = ap (λ (j : View g.row.D.Denot). j.is_down) e.staged ∙ e.up in
    c.epoch.ensures ∙ epoch_after g.D.Device.state g.D.Device.honest s.journal c.prepare.new.journal me s.memory c.prepare.new.memory s.unflushed c.prepare.new.unflushed s.settled w
    c.self.invariant whole e.ok e.staged e.held e.waits up ha hb

pub invariant_of-self-2 : goal.invariant_of-self-2
invariant_of-self-2 g c =
    let s = c.self.inside in
    let me : Identity = s.me in
    let w = c.entry-write.result.now in
    let whole : IsIntent w = subst IsIntent (sym c.entry-write.ensures.value) c.entry-write.ensures.whole in
    let e = c.in_ok-prepare.ensures in
    kept_after g.D.Device.state g.D.Device.honest s.journal c.prepare.new.journal me s.memory c.prepare.new.memory s.unflushed c.prepare.new.unflushed s.settled w
    c.self.invariant whole e.ok e.staged e.held e.waits

pub returns-clause-ok : goal.returns-clause-ok
returns-clause-ok g c = λ up.
    let s = c.self.inside in
    let me : Identity = s.me in
    let w = c.entry-write.result.now in
    let whole : IsIntent w = subst IsIntent (sym c.entry-write.ensures.value) c.entry-write.ensures.whole in
    let e = c.in_ok-prepare.ensures in
    let v = c.args.self.now in
    let kept = c.self.invariant in
    let now : IsAlike s.memory (memory v) = memory_is g.D.Device.state g.D.Device.honest s.journal me s.memory s.unflushed s.settled kept v c.self.view_is up in
    let own : part s.me.shards s.me.node w ≡ own_part v c.args.intent.now.write = ap (part s.me.shards s.me.node) c.entry-write.ensures.value ∙ ap (λ (x : ShardView g.row.D.Denot). part x.me.shards x.me.node c.args.intent.now.write) c.self.view_is in
    let may : MayPrepare me s.memory (part s.me.shards s.me.node w) = part_may_come me s.memory w kept.opened whole e.ok.free in
    let may_now : MayPrepare v.me (memory v) (own_part v c.args.intent.now.write) =
    subst (λ (x : ShardView g.row.D.Denot). MayPrepare x.me (memory v) (own_part v c.args.intent.now.write)) c.self.view_is (subst (λ (p : Entry). MayPrepare me (memory v) p) own (may_come_alike now me (prepare_record (part s.me.shards s.me.node w)) may)) in
    let staged : Stages v (prepare_record (own_part v c.args.intent.now.write)) (view_of c.prepare.new.journal me) =
    subst (λ (p : Entry). Stages v (prepare_record p) (view_of c.prepare.new.journal me)) own (stages s.journal c.prepare.new.journal me (prepare_record (part s.me.shards s.me.node w)) e.staged v c.self.view_is) in (
      staged,
      still_up g.D.Device.state g.D.Device.honest v (view_of c.prepare.new.journal me) (prepare_record (own_part v c.args.intent.now.write)) up may_now staged,
      ap (λ (t : TicketValue). t.epoch) c.new.ensures ∙ c.epoch.ensures ∙ ap (λ (m : ShardState). m.epoch) e.held ∙ prepare_same_epoch s.memory (part s.me.shards s.me.node w) ∙ now.epoch,
    )

pub returns-clause-conditions : goal.returns-clause-conditions
returns-clause-conditions g c = λ up.
    let s = c.self.inside in
    let v = c.args.self.now in
    let w = c.entry-write.result.now in
    let me : Identity = s.me in
    let now : IsAlike s.memory (memory v) = memory_is g.D.Device.state g.D.Device.honest s.journal me s.memory s.unflushed s.settled c.self.invariant v c.self.view_is up in
    let own : part s.me.shards s.me.node w ≡ own_part v c.args.intent.now.write = ap (part s.me.shards s.me.node) c.entry-write.ensures.value ∙ ap (λ (x : ShardView g.row.D.Denot). part x.me.shards x.me.node c.args.intent.now.write) c.self.view_is in
    subst (λ (p : Entry). HoldHere (memory v) p.conditions) own (hold_alike now (part s.me.shards s.me.node w).conditions c.in_ok-prepare.ensures.ok.hold)

pub returns-clause-broken : goal.returns-clause-broken
returns-clause-broken g c = λ up. (
  λ is. absurd cc,
  λ broken.
      let s = c.self.inside in
      let v = c.args.self.now in
      let w = c.entry-write.result.now in
      let me : Identity = s.me in
      let now : IsAlike s.memory (memory v) = memory_is g.D.Device.state g.D.Device.honest s.journal me s.memory s.unflushed s.settled c.self.invariant v c.self.view_is up in
      let own : part s.me.shards s.me.node w ≡ own_part v c.args.intent.now.write = ap (part s.me.shards s.me.node) c.entry-write.ensures.value ∙ ap (λ (x : ShardView g.row.D.Denot). part x.me.shards x.me.node c.args.intent.now.write) c.self.view_is in
      absurd (broken.broken (subst (λ (p : Entry). HoldHere (memory v) p.conditions) own (hold_alike now (part s.me.shards s.me.node w).conditions c.in_ok-prepare.ensures.ok.hold))),
)

pub returns-in_err-prepare-clause-broken : goal.returns-in_err-prepare-clause-broken
returns-in_err-prepare-clause-broken g c = λ up.
    let s = c.self.inside in
    let v = c.args.self.now in
    let w = c.entry-write.result.now in
    let me : Identity = s.me in
    let now : IsAlike s.memory (memory v) = memory_is g.D.Device.state g.D.Device.honest s.journal me s.memory s.unflushed s.settled c.self.invariant v c.self.view_is up in
    let own : part s.me.shards s.me.node w ≡ own_part v c.args.intent.now.write = ap (part s.me.shards s.me.node) c.entry-write.ensures.value ∙ ap (λ (x : ShardView g.row.D.Denot). part x.me.shards x.me.node c.args.intent.now.write) c.self.view_is in
    let is_up : s.journal.is_down ≡ false = ap (λ (x : ShardView g.row.D.Denot). x.is_down) c.self.view_is ∙ up.up in
    let p = err_from_is_err_and c.from_residual.result c.from_residual.ensures.1 in
    let result = p.1 in
    let refusal = p.2 in (
      λ is.
          let same : c.in_err-prepare.field-0.0 ≡ Precondition = (let e = rw (p.1, p.2) at is in cc) in
          subst (IsBroken (memory v)) own (broken_alike now (part s.me.shards s.me.node w) ((c.in_err-prepare.ensures.broken is_up).0 (ap (λ (e : Refusal). Err e) same))),
      λ broken.
          let was = (c.in_err-prepare.ensures.broken is_up).1 (broken_alike (alike_sym now) (part s.me.shards s.me.node w) (subst (IsBroken (memory v)) (sym own) broken)) in
          cc,
    )

pub returns-in_err-prepare-clause-full : goal.returns-in_err-prepare-clause-full
returns-in_err-prepare-clause-full g c = λ up.
    let s = c.self.inside in
    let v = c.args.self.now in
    let w = c.entry-write.result.now in
    let me : Identity = s.me in
    let now : IsAlike s.memory (memory v) = memory_is g.D.Device.state g.D.Device.honest s.journal me s.memory s.unflushed s.settled c.self.invariant v c.self.view_is up in
    let own : part s.me.shards s.me.node w ≡ own_part v c.args.intent.now.write = ap (part s.me.shards s.me.node) c.entry-write.ensures.value ∙ ap (λ (x : ShardView g.row.D.Denot). part x.me.shards x.me.node c.args.intent.now.write) c.self.view_is in
    let staged : s.journal.staged ≡ v.staged = ap (λ (x : ShardView g.row.D.Denot). x.staged) c.self.view_is in
    let is_up : s.journal.is_down ≡ false = ap (λ (x : ShardView g.row.D.Denot). x.is_down) c.self.view_is ∙ up.up in
    let p = err_from_is_err_and c.from_residual.result c.from_residual.ensures.1 in
    let result = p.1 in
    let refusal = p.2 in (
      λ is.
          let same : c.in_err-prepare.field-0.0 ≡ Full = (let e = rw (p.1, p.2) at is in cc) in
          let both = (c.in_err-prepare.ensures.full is_up).0 (ap (λ (e : Refusal). Err e) same) in (
            subst (IsPreparable (memory v)) own (preparable_alike now (part s.me.shards s.me.node w) both.0),
            subst (λ (l : List Record). HasNoRoom l (prepare_record (own_part v c.args.intent.now.write))) staged (subst (λ (q : Entry). HasNoRoom s.journal.staged (prepare_record q)) own both.1),
          ),
      λ both.
          let was = (c.in_err-prepare.ensures.full is_up).1 (
            preparable_alike (alike_sym now) (part s.me.shards s.me.node w) (subst (IsPreparable (memory v)) (sym own) both.0),
            subst (λ (l : List Record). HasNoRoom l (prepare_record (part s.me.shards s.me.node w))) (sym staged) (subst (λ (q : Entry). HasNoRoom v.staged (prepare_record q)) (sym own) both.1),
          ) in
          cc,
    )

pub returns-in_err-prepare-clause-memory : goal.returns-in_err-prepare-clause-memory
returns-in_err-prepare-clause-memory g c = λ up is.
    let s = c.self.inside in
    let v = c.args.self.now in
    let w = c.entry-write.result.now in
    let me : Identity = s.me in
    let now : IsAlike s.memory (memory v) = memory_is g.D.Device.state g.D.Device.honest s.journal me s.memory s.unflushed s.settled c.self.invariant v c.self.view_is up in
    let own : part s.me.shards s.me.node w ≡ own_part v c.args.intent.now.write = ap (part s.me.shards s.me.node) c.entry-write.ensures.value ∙ ap (λ (x : ShardView g.row.D.Denot). part x.me.shards x.me.node c.args.intent.now.write) c.self.view_is in
    let staged : s.journal.staged ≡ v.staged = ap (λ (x : ShardView g.row.D.Denot). x.staged) c.self.view_is in
    let p = err_from_is_err_and c.from_residual.result c.from_residual.ensures.1 in
    let same : c.in_err-prepare.field-0.0 ≡ NoMemory = (let e = rw (p.1, p.2) at is in cc) in
    let both = c.in_err-prepare.ensures.memory (ap (λ (e : Refusal). Err e) same) in (
      subst (IsPreparable (memory v)) own (preparable_alike now (part s.me.shards s.me.node w) both.0),
      λ full. both.1 (subst (λ (l : List Record). HasNoRoom l (prepare_record (part s.me.shards s.me.node w))) (sym staged) (subst (λ (q : Entry). HasNoRoom v.staged (prepare_record q)) (sym own) full)),
    )

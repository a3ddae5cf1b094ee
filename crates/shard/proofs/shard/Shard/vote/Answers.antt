use Rattle.std.proofs.Common.{ℕ, ◌≡◌, List, false, true, Some, Contains, sym, ◌∙◌, ap, subst}
use Rattle.std.specs.Option.{is_some}
use Rattle.tuples.specs.declared.entry.Entry.{Entry}
use Rattle.tuples.specs.declared.entry.WriteId.{WriteId}
use Rattle.records.specs.declared.record.Record.{Record}
use Rattle.records.specs.declared.record.Record.TheVariants.{Prepare}
use Rattle.records.specs.Replays.{find_in_doubt, shard_state}
use Rattle.decisions.specs.Values.{NamesNode}
use Rattle.shard.specs.Shards.{IsDurable, ShardView, memory}
use Rattle.shard.specs.Keeping.{prepared_ids}
use Rattle.shard.proofs.Kept.{memory_is}
use Rattle.shard.proofs.Waiting.{durable_found, durable_prepare, found_one, has_id, is_durable, waiting}
use Rattle.shard.proofs.shard.Shard.vote.Goals as goal

pub new-requires : goal.new-requires
new-requires g c = record {
  durable = λ ha hb rs finds.
      let s = c.self.inside in
      let up : s.journal.is_down ≡ false = cc in
      let kept = c.self.invariant in
      let backed = kept.backed up ha hb in
      let one = found_one c.id-id.result s.memory.in_doubt c.find.result c.find.ensures c.is_none.ensures c.if-is_none.false in
      let none : has_id c.id-id.result (prepared_ids s.journal.staged) ≡ false =
      sym (ap (has_id c.id-id.result) (kept.unflushed_are up)) ∙ sym c.has.ensures ∙ c.if-has.false in
      let there = sym (ap (find_in_doubt c.id-id.result) kept.replayed.in_doubt ∙ ap (λ (rs : List Record). find_in_doubt c.id-id.result (shard_state rs).in_doubt) backed.whole) ∙ one.1 in
      ap (λ o. is_some o) (durable_prepare g.D.Device.state s.journal.a s.journal.b s.journal.durable c.id-id.result one.0 backed.rest (durable_found s.journal.durable s.journal.staged c.id-id.result one.0 none there) rs finds);
  shard = λ ha hb.
      let up : c.self.inside.journal.is_down ≡ false = cc in
      subst (λ (n : ℕ). NamesNode c.self.inside.journal.durable n) (sym c.node.ensures) (c.self.invariant.named up ha hb);
}

pub returns-clause-yes : goal.returns-clause-yes
returns-clause-yes g c = λ v up is.
    let s = c.self.inside in
    let kept = c.self.invariant in
    let now = memory_is g.D.Device.state g.D.Device.honest s.journal _ s.memory s.unflushed s.settled kept c.args.self.now c.self.view_is up in
    let one = found_one c.id-id.result s.memory.in_doubt c.find.result c.find.ensures c.is_none.ensures c.if-is_none.false in
    let there : find_in_doubt c.id-id.result (memory c.args.self.now).in_doubt ≡ Some one.0 = ap (find_in_doubt c.id-id.result) (sym now.in_doubt) ∙ one.1 in
    let is_up : s.journal.is_down ≡ false = cc in
    let none : has_id c.id-id.result (prepared_ids c.args.self.now.staged) ≡ false =
    ap (λ (w : ShardView g.row.D.Denot). has_id c.id-id.result (prepared_ids w.staged)) (sym c.self.view_is)
    ∙ sym (ap (has_id c.id-id.result) (kept.unflushed_are is_up)) ∙ sym c.has.ensures ∙ c.if-has.false in
    let IsVoted : WriteId → Type 0 = λ i. ((p : Entry) → find_in_doubt i (memory c.args.self.now).in_doubt ≡ Some p → IsDurable g.D.Device.state c.args.self.now i p) × (is_some (find_in_doubt i (memory c.args.self.now).in_doubt) ≡ true) in
    let voted : IsVoted c.id-id.result = (λ p found. is_durable g.D.Device.state g.D.Device.honest c.args.self.now c.id-id.result p up none found, ap (λ o. is_some o) there) in
    subst IsVoted c.id-id.ensures voted

pub returns-clause-own : goal.returns-clause-own
returns-clause-own g c = λ v is.
    let here : c.new.result ≡ v = cc in (
      ap (λ w. w.id) (sym here) ∙ c.new.ensures.id ∙ c.id-id.ensures,
      ap (λ w. w.shard) (sym here) ∙ c.new.ensures.shard ∙ c.node.ensures ∙ ap (λ (w : ShardView g.row.D.Denot). w.me.node) c.self.view_is,
    )

pub returns-then-has-clause-later : goal.returns-then-has-clause-later
returns-then-has-clause-later g c = λ t up is.
    let s = c.self.inside in
    let kept = c.self.invariant in
    let now = memory_is g.D.Device.state g.D.Device.honest s.journal _ s.memory s.unflushed s.settled kept c.args.self.now c.self.view_is up in
    let one = found_one c.id-id.result s.memory.in_doubt c.find.result c.find.ensures c.is_none.ensures c.if-is_none.false in
    let there : find_in_doubt c.id-id.result (memory c.args.self.now).in_doubt ≡ Some one.0 = ap (find_in_doubt c.id-id.result) (sym now.in_doubt) ∙ one.1 in
    let is_up : s.journal.is_down ≡ false = cc in
    let has : has_id c.id-id.result (prepared_ids c.args.self.now.staged) ≡ true =
    ap (λ (w : ShardView g.row.D.Denot). has_id c.id-id.result (prepared_ids w.staged)) (sym c.self.view_is)
    ∙ sym (ap (has_id c.id-id.result) (kept.unflushed_are is_up)) ∙ sym c.has.ensures ∙ c.if-has.true in
    let IsStaged : WriteId → Type 0 = λ i. (is_some (find_in_doubt i (memory c.args.self.now).in_doubt) ≡ true) × ((w : Entry) × (w.id ≡ i) × Contains c.args.self.now.staged (Prepare w)) in
    let waits : IsStaged c.id-id.result = (ap (λ o. is_some o) there, waiting c.args.self.now.staged c.id-id.result has) in
    subst IsStaged c.id-id.ensures waits

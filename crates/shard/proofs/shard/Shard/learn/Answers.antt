use Rattle.std.proofs.Common.{◌≡◌, ◌≤◌, ◌<◌, ◌+◌, ◌-◌, ℕ, List, length, drop, refl, sym, ◌∙◌, ap, subst, arith}
use Rattle.std.proofs.lemmas.Bool.{both_ways}
use Rattle.tuples.specs.declared.entry.Entry.{Entry}
use Rattle.records.specs.Format.{IsLearned}
use Rattle.records.specs.Replays.{ArePrepared, Identity, MayLearn, ShardState, find_in_doubt}
use Rattle.records.specs.declared.record.PlacedId.{PlacedId}
use Rattle.records.specs.declared.record.Record.{Record}
use Rattle.records.specs.declared.record.Record.TheVariants.{Learned as learned_record}
use Rattle.replay.specs.Alike.{IsAlike}
use Rattle.replay.proofs.Alike.{may_come_alike, same_but_rows}
use Rattle.shard.specs.Shards.{AreLearnable, ShardView, Stages, learning, memory, placed_ids_from, unlearned}
use Rattle.shard.proofs.Given.{AllGiven, given_image}
use Rattle.shard.proofs.Kept.{kept_push, no_more, learned_epoch, memory_is, stages, still_up, view_of}
use Rattle.shard.proofs.Parts.{all_prepared, learned_spelled, may_learn}
use Rattle.shard.proofs.shard.Shard.learn.Goals as goal

placed_ids_are : (shards s n : ℕ) (m : ShardState) (from : ℕ) (writes l : List Entry) (placed_ids : List PlacedId) → placed_ids ≡ placed_ids_from shards s (n + 1) l → n ≡ m.learned → l ≡ drop (n - from) writes → placed_ids ≡ placed_ids_from shards s (m.learned + 1) (unlearned m from writes)
placed_ids_are shards s n m from writes l placed_ids is learned rest =
    is ∙ ap (placed_ids_from shards s (n + 1)) rest ∙ ap (λ (k : ℕ). placed_ids_from shards s (k + 1) (drop (k - from) writes)) learned

learnable_alike : (me : Identity) (m n : ShardState) (l : List Entry) → m.in_doubt ≡ n.in_doubt → AreLearnable me m l → AreLearnable me n l
learnable_alike me m n l same are = record { new = are.new; prepared = λ j w is takes. ap (find_in_doubt w.id) (sym same) ∙ are.prepared j w is takes }

-- what can be learned by the memory can be by what the records stand for
module _ {D : Type 0} (v : ShardView D) (me : Identity) (m : ShardState) (n from : ℕ) (writes l : List Entry) (same : me ≡ v.me) (now : IsAlike m (memory v)) (learned : n ≡ m.learned) (rest : l ≡ drop (n - from) writes) where
  rest_now : l ≡ unlearned (memory v) from writes
  rest_now = rest ∙ ap (λ (k : ℕ). drop (k - from) writes) (learned ∙ now.learned)

  learnable_now : AreLearnable me m l → AreLearnable v.me (memory v) (unlearned (memory v) from writes)
  learnable_now are = subst (λ (i : Identity). AreLearnable i (memory v) (unlearned (memory v) from writes)) same (subst (AreLearnable me (memory v)) rest_now (learnable_alike me m (memory v) l now.in_doubt are))

  learnable_was : AreLearnable v.me (memory v) (unlearned (memory v) from writes) → AreLearnable me m l
  learnable_was are = learnable_alike me (memory v) m l (sym now.in_doubt) (subst (AreLearnable me (memory v)) (sym rest_now) (subst (λ (i : Identity). AreLearnable i (memory v) (unlearned (memory v) from writes)) (sym same) are))

pub returns-then-not-are_learnable-clause-damaged : goal.returns-then-not-are_learnable-clause-damaged
returns-then-not-are_learnable-clause-damaged g c = λ up from_le learned_lt.
    let s = c.self.inside in
    let v = c.args.self.now in
    let b = c.args.batch.now in
    let now : IsAlike s.memory (memory v) = memory_is g.D.Device.state g.D.Device.honest s.journal _ s.memory s.unflushed s.settled c.self.invariant v c.self.view_is up in (
      λ is are. both_ways c.are_learnable.result c.if-not-are_learnable.true
          (c.are_learnable.ensures.1 (learnable_was v s.me s.memory c.learned-learned.result b.from b.writes c.behind-writes.result.now (ap (λ (x : ShardView g.row.D.Denot). x.me) c.self.view_is) now c.learned-learned.ensures c.behind-writes.ensures.writes are)),
      λ none. refl,
    )

pub apply-requires-clause-spelled : goal.apply-requires-clause-spelled
apply-requires-clause-spelled g c =
    let s = c.self.inside in
    let b = c.args.batch.now in
    let kept = c.self.invariant in
    let le : b.from ≤ s.memory.learned = omega (arith, c.if-learned-from.false, c.learned-learned.ensures, c.from.ensures) in
    let lt : s.memory.learned < b.from + length b.writes = omega (arith, c.if-to-learned.false, c.learned-learned.ensures, c.to.ensures.value) in
    let placed_ids : c.in_ok-placed_ids.placed_ids.items ≡ placed_ids_from s.me.shards s.me.node (s.memory.learned + 1) (unlearned s.memory b.from b.writes) =
    placed_ids_are s.me.shards s.me.node c.learned-learned.result s.memory b.from b.writes c.behind-writes.result.now c.in_ok-placed_ids.placed_ids.items c.in_ok-placed_ids.ensures c.learned-learned.ensures c.behind-writes.ensures.writes in
    let given : AllGiven s.memory.in_doubt = subst AllGiven (sym kept.replayed.in_doubt) (given_image _ kept.rs kept.image) in
    subst (λ (n : ℕ). IsLearned n c.in_ok-placed_ids.placed_ids.items) (sym c.to-2.ensures.value)
    (learned_spelled s.me.shards s.me.node s.memory b.from b.writes le lt (omega (arith, c.to.ensures.greatest, c.to.ensures.value)) c.in_ok-placed_ids.placed_ids.items placed_ids (subst (λ (l : List PlacedId). ArePrepared l s.memory.in_doubt) (sym c.in_ok-placed_ids.ensures) (all_prepared s.me s.memory (c.learned-learned.result + 1) c.behind-writes.result.now (c.are_learnable.ensures.0 c.if-not-are_learnable.false))) c.behind-writes.ensures.few given)

pub apply-requires-clause-may : goal.apply-requires-clause-may
apply-requires-clause-may g c =
    let s = c.self.inside in
    let b = c.args.batch.now in
    let le : b.from ≤ s.memory.learned = omega (arith, c.if-learned-from.false, c.learned-learned.ensures, c.from.ensures) in
    let lt : s.memory.learned < b.from + length b.writes = omega (arith, c.if-to-learned.false, c.learned-learned.ensures, c.to.ensures.value) in
    let placed_ids : c.in_ok-placed_ids.placed_ids.items ≡ placed_ids_from s.me.shards s.me.node (s.memory.learned + 1) (unlearned s.memory b.from b.writes) =
    placed_ids_are s.me.shards s.me.node c.learned-learned.result s.memory b.from b.writes c.behind-writes.result.now c.in_ok-placed_ids.placed_ids.items c.in_ok-placed_ids.ensures c.learned-learned.ensures c.behind-writes.ensures.writes in
    subst (λ (n : ℕ). MayLearn s.memory n c.in_ok-placed_ids.placed_ids.items) (sym c.to-2.ensures.value)
    (may_learn s.me.shards s.me.node s.memory b.from b.writes le lt (omega (arith, c.to.ensures.greatest, c.to.ensures.value)) c.in_ok-placed_ids.placed_ids.items placed_ids (subst (λ (l : List PlacedId). ArePrepared l s.memory.in_doubt) (sym c.in_ok-placed_ids.ensures) (all_prepared s.me s.memory (c.learned-learned.result + 1) c.behind-writes.result.now (c.are_learnable.ensures.0 c.if-not-are_learnable.false))) c.self.invariant.opened)

pub invariant_of-self-2 : goal.invariant_of-self-2
invariant_of-self-2 g c =
    let s = c.self.inside in
    let me : Identity = s.me in
    let b = c.args.batch.now in
    let r = learned_record c.to-2.result c.in_ok-placed_ids.placed_ids.items in
    let placed_ids : c.in_ok-placed_ids.placed_ids.items ≡ placed_ids_from s.me.shards s.me.node (s.memory.learned + 1) (unlearned s.memory b.from b.writes) =
    placed_ids_are s.me.shards s.me.node c.learned-learned.result s.memory b.from b.writes c.behind-writes.result.now c.in_ok-placed_ids.placed_ids.items c.in_ok-placed_ids.ensures c.learned-learned.ensures c.behind-writes.ensures.writes in
    let may : MayLearn s.memory c.to-2.result c.in_ok-placed_ids.placed_ids.items = (
    let le : b.from ≤ s.memory.learned = omega (arith, c.if-learned-from.false, c.learned-learned.ensures, c.from.ensures) in
    let lt : s.memory.learned < b.from + length b.writes = omega (arith, c.if-to-learned.false, c.learned-learned.ensures, c.to.ensures.value) in
    subst (λ (n : ℕ). MayLearn s.memory n c.in_ok-placed_ids.placed_ids.items) (sym c.to-2.ensures.value)
    (may_learn s.me.shards s.me.node s.memory b.from b.writes le lt (omega (arith, c.to.ensures.greatest, c.to.ensures.value)) c.in_ok-placed_ids.placed_ids.items placed_ids (subst (λ (l : List PlacedId). ArePrepared l s.memory.in_doubt) (sym c.in_ok-placed_ids.ensures) (all_prepared s.me s.memory (c.learned-learned.result + 1) c.behind-writes.result.now (c.are_learnable.ensures.0 c.if-not-are_learnable.false))) c.self.invariant.opened)) in
    let opened : 1 ≤ c.apply.new.memory.epoch = subst (λ (n : ℕ). 1 ≤ n) (sym c.in_ok-apply.ensures.applied.epoch) (learned_epoch s.memory c.to-2.result c.in_ok-placed_ids.placed_ids.items c.self.invariant.opened) in
    kept_push g.D.Device.state g.D.Device.honest s.journal c.apply.new.journal me s.memory c.apply.new.memory s.unflushed s.unflushed s.settled r c.self.invariant may
    c.in_ok-apply.ensures.staged c.in_ok-apply.ensures.applied opened (no_more s.unflushed)

pub returns-clause-learnable : goal.returns-clause-learnable
returns-clause-learnable g c = λ up from_le learned_lt.
    let s = c.self.inside in
    let v = c.args.self.now in
    let b = c.args.batch.now in
    let now : IsAlike s.memory (memory v) = memory_is g.D.Device.state g.D.Device.honest s.journal _ s.memory s.unflushed s.settled c.self.invariant v c.self.view_is up in
    learnable_now v s.me s.memory c.learned-learned.result b.from b.writes c.behind-writes.result.now (ap (λ (x : ShardView g.row.D.Denot). x.me) c.self.view_is) now c.learned-learned.ensures c.behind-writes.ensures.writes
    (c.are_learnable.ensures.0 c.if-not-are_learnable.false)

pub returns-clause-ok : goal.returns-clause-ok
returns-clause-ok g c = λ up from_le learned_lt.
    let s = c.self.inside in
    let v = c.args.self.now in
    let b = c.args.batch.now in
    let me : Identity = s.me in
    let now : IsAlike s.memory (memory v) = memory_is g.D.Device.state g.D.Device.honest s.journal me s.memory s.unflushed s.settled c.self.invariant v c.self.view_is up in
    let placed_ids : c.in_ok-placed_ids.placed_ids.items ≡ placed_ids_from s.me.shards s.me.node (s.memory.learned + 1) (unlearned s.memory b.from b.writes) =
    placed_ids_are s.me.shards s.me.node c.learned-learned.result s.memory b.from b.writes c.behind-writes.result.now c.in_ok-placed_ids.placed_ids.items c.in_ok-placed_ids.ensures c.learned-learned.ensures c.behind-writes.ensures.writes in
    let same : learned_record c.to-2.result c.in_ok-placed_ids.placed_ids.items ≡ learning v.me (memory v) b.from b.writes =
    ap (λ (n : ℕ). learned_record n c.in_ok-placed_ids.placed_ids.items) c.to-2.ensures.value ∙ ap (λ (l : List PlacedId). learned_record (b.from + length b.writes) l) placed_ids
    ∙ ap (λ (m : ShardState). learning me m b.from b.writes) (same_but_rows now) ∙ ap (λ (x : ShardView g.row.D.Denot). learning x.me (memory v) b.from b.writes) c.self.view_is in
    let may : MayLearn s.memory c.to-2.result c.in_ok-placed_ids.placed_ids.items = (
    let le : b.from ≤ s.memory.learned = omega (arith, c.if-learned-from.false, c.learned-learned.ensures, c.from.ensures) in
    let lt : s.memory.learned < b.from + length b.writes = omega (arith, c.if-to-learned.false, c.learned-learned.ensures, c.to.ensures.value) in
    subst (λ (n : ℕ). MayLearn s.memory n c.in_ok-placed_ids.placed_ids.items) (sym c.to-2.ensures.value)
    (may_learn s.me.shards s.me.node s.memory b.from b.writes le lt (omega (arith, c.to.ensures.greatest, c.to.ensures.value)) c.in_ok-placed_ids.placed_ids.items placed_ids (subst (λ (l : List PlacedId). ArePrepared l s.memory.in_doubt) (sym c.in_ok-placed_ids.ensures) (all_prepared s.me s.memory (c.learned-learned.result + 1) c.behind-writes.result.now (c.are_learnable.ensures.0 c.if-not-are_learnable.false))) c.self.invariant.opened)) in
    let may_now : MayLearn (memory v) c.to-2.result c.in_ok-placed_ids.placed_ids.items = may_come_alike now me (learned_record c.to-2.result c.in_ok-placed_ids.placed_ids.items) may in
    let staged = stages s.journal c.apply.new.journal me (learned_record c.to-2.result c.in_ok-placed_ids.placed_ids.items) c.in_ok-apply.ensures.staged v c.self.view_is in (
      refl,
      subst (λ (r : Record). Stages v r (view_of c.apply.new.journal me)) same staged,
      still_up g.D.Device.state g.D.Device.honest v (view_of c.apply.new.journal me) (learned_record c.to-2.result c.in_ok-placed_ids.placed_ids.items) up may_now staged,
    )

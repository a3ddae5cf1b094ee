use Rattle.std.proofs.Common.{◌≡◌, ◌<◌, ◌+◌, length, sym, ap, ◌∙◌, arith, List, ◌++◌, ◌∷◌, []}
use Rattle.records.specs.declared.record.PlacedId.{PlacedId}
use Rattle.shard.proofs.Parts.{placed_id_pushed, placed_id_skipped}
use Rattle.shard.proofs.learning.placed_ids_of.Goals.{then-takes_part+in_ok-push, else-takes_part}
use Rattle.shard.proofs.learning.placed_ids_of.Goals as goal

pub loop-i-preserved : goal.loop-i-preserved
loop-i-preserved c =
    let w = c.index-writes-i.result in
    let i = c.loop-i.i in
    let me = c.args.me in
    let before = c.loop-i.placed_ids.items in
    let lt : i < length c.args.writes.now = omega (arith, c.loop-i-test.true) in
    let next : PlacedId = record { id = w.id; place = c.args.learned + 1 + i } in
    elim c.if-takes_part.branch [
      | then-takes_part+in_ok-push u ↦
          let takes = sym c.takes_part.ensures ∙ u.if-takes_part.true in
          let items : c.if-takes_part.placed_ids.items ≡ before ++ next ∷ [] = ap (λ p. p.items) u.placed_ids-is ∙ u.in_ok-push.ensures.items in
          record { placed_ids = items ∙ ap (λ (l : List PlacedId). l ++ next ∷ []) c.loop-i.invariant.placed_ids ∙ sym (placed_id_pushed me.shards me.node (c.args.learned + 1) c.args.writes.now i w lt c.index-writes-i.is takes) }
      | else-takes_part u ↦
          let out = sym c.takes_part.ensures ∙ u.if-takes_part.false in
          record { placed_ids = ap (λ p. p.items) u.placed_ids-is ∙ c.loop-i.invariant.placed_ids ∙ sym (placed_id_skipped me.shards me.node (c.args.learned + 1) c.args.writes.now i w lt c.index-writes-i.is out) }
    ]

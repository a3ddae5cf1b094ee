use Rattle.std.proofs.Common.{◌≡◌, not, None, sym, ap, ◌∙◌}
use Rattle.std.proofs.lemmas.Bool.{both_ways, not-true}
use Rattle.tuples.specs.declared.entry.WriteId.{WriteId}
use Rattle.records.specs.Replays.{find_in_doubt}
use Rattle.shard.proofs.Tested.{free_changes_of, free_conditions_of, is_free_part, none_looked_up}
use Rattle.shard.proofs.own.is_free.Goals as goal

pub returns-then-not-changes_held_tuple : goal.returns-then-not-changes_held_tuple
returns-then-not-changes_held_tuple c =
    let m = c.args.memory.now in
    let part = c.args.part.now in
    let changes = sym c.changes_held_tuple.ensures ∙ c.if-not-changes_held_tuple.true in
    let none = none_looked_up c.id.result m.in_doubt c.find.result c.find.ensures (sym c.is_some.ensures ∙ c.if-is_some.false) in
    let new : find_in_doubt part.id m.in_doubt ≡ None = ap (λ (id : WriteId). find_in_doubt id m.in_doubt) (sym c.id.ensures) ∙ none in (
      λ is. is_free_part m part new changes (sym c.asks_of_held_tuple.ensures ∙ not-true c.asks_of_held_tuple.result is),
      λ free. ap not (c.asks_of_held_tuple.ensures ∙ free_conditions_of m part free),
    )

pub returns-else-not-changes_held_tuple : goal.returns-else-not-changes_held_tuple
returns-else-not-changes_held_tuple c =
    let m = c.args.memory.now in
    let part = c.args.part.now in (
      λ is. absurd (both_ways c.changes_held_tuple.result (not-true c.changes_held_tuple.result is) c.if-not-changes_held_tuple.false),
      λ free. ap not (c.changes_held_tuple.ensures ∙ free_changes_of m part free),
    )

use Rattle.std.proofs.Common.{◌≡◌, ◌∙◌, ℕ, ◌<◌, List, All, sym, ap, subst, arith}
use Rattle.tuples.specs.declared.entry.Entry.{Entry}
use Rattle.records.specs.declared.record.PlacedId.{PlacedId}
use Rattle.replay.specs.Rules.{are_prepared}
use Rattle.replay.proofs.Deciding.{prepared_decides}
use Rattle.replay.proofs.rules.may_learn.Goals as goal

pub returns : goal.returns
returns c =
    let tests = prepared_decides c.args.placed_ids.now c.args.memory.now.in_doubt in
    let same : c.are_prepared.result ≡ are_prepared c.args.placed_ids.now c.args.memory.now.in_doubt =
    c.are_prepared.ensures ∙ ap (λ (ws : List Entry). are_prepared c.args.placed_ids.now ws) c.held.ensures
    in (
      λ is. record {
        opened = omega arith;
        on = omega arith;
        place = omega arith;
        above = subst (λ (n : ℕ). All (λ (p : PlacedId). n < p.place) c.args.placed_ids.now) c.learned-2.ensures (c.are_above.ensures.0 c.if-not-are_above.false);
        places = c.places_rise.ensures.0 c.if-not-places_rise.false;
        prepared = tests.0 (sym same ∙ is);
      },
      λ may. same ∙ tests.1 may.prepared,
    )

use Rattle.std.proofs.Common.{◌≡◌, ◌<◌, length, refl, sym, ◌∙◌, arith}
use Rattle.shard.proofs.Parts.{all_new, get_at, named_before, new_more, seen_more}
use Rattle.shard.proofs.learning.are_new_by_set.Goals as goal

pub returns-then-has : goal.returns-then-has
returns-then-has c =
    let w = c.index-writes-i.result in
    let i = c.loop-i.i in
    let writes = c.args.writes.now in
    let lt : i < length writes = omega (arith, c.loop-i-test.true) in (
      λ is. absurd cc,
      λ new.
          let one = named_before writes i w.id (sym (c.loop-i.invariant.seen w.id) ∙ sym c.has.ensures ∙ c.if-has.true) in
          let same : one.0 ≡ i = new one.0 i one.1 w one.3 (get_at writes i w lt c.index-writes-i.is) one.4 in
          absurd (omega (arith, one.2, same)),
    )

pub loop-i-preserved : goal.loop-i-preserved
loop-i-preserved c =
    let w = c.index-writes-i.result in
    let i = c.loop-i.i in
    let writes = c.args.writes.now in
    let lt : i < length writes = omega (arith, c.loop-i-test.true) in
    record {
      new = new_more writes i w c.loop-i.invariant.new (get_at writes i w lt c.index-writes-i.is) (sym (c.loop-i.invariant.seen w.id) ∙ sym c.has.ensures ∙ c.if-has.false);
      seen = seen_more writes i w lt c.index-writes-i.is c.loop-i.seen c.put.new.self c.loop-i.invariant.seen c.in_ok-put.ensures.ok;
    }

pub returns : goal.returns
returns c = (
  λ is. all_new c.args.writes.now c.loop-i.i c.loop-i.invariant.new (omega (arith, c.loop-i-test.false)),
  λ new. refl,
)

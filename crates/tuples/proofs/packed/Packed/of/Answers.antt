use Rattle.std.proofs.Common.{◌≡◌, rules}
use Rattle.tuples.specs.Packing.{packing}
use Rattle.tuples.proofs.Unpacked.{is_packing, unpacked_is}
use Rattle.tuples.proofs.packed.Packed.of.Goals as goal

pub invariant_of-result : goal.invariant_of-result
invariant_of-result c =
    let text : c.in_ok-text.text ≡ packing c.args.tuple.now = search rules in
    is_packing c.in_ok-text.text c.args.tuple.now c.parts.ensures.grammar text

pub returns-clause-value : goal.returns-clause-value
returns-clause-value c =
    let text : c.in_ok-text.text ≡ packing c.args.tuple.now = search rules in
    unpacked_is c.in_ok-text.text c.args.tuple.now c.parts.ensures.grammar text

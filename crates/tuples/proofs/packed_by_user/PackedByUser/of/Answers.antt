use Rattle.std.proofs.Common.{◌≡◌, rules}
use Rattle.tuples.specs.Packing.{packing_by_user}
use Rattle.tuples.proofs.Unpacked.{by_user_unpacked_is, is_packing_by_user}
use Rattle.tuples.proofs.packed_by_user.PackedByUser.of.Goals as goal

pub invariant_of-result : goal.invariant_of-result
invariant_of-result c =
    let text : c.in_ok-text.text ≡ packing_by_user c.args.tuple.now = search rules in
    is_packing_by_user c.in_ok-text.text c.args.tuple.now c.parts.ensures.grammar text

pub returns-clause-value : goal.returns-clause-value
returns-clause-value c =
    let text : c.in_ok-text.text ≡ packing_by_user c.args.tuple.now = search rules in
    by_user_unpacked_is c.in_ok-text.text c.args.tuple.now c.parts.ensures.grammar text

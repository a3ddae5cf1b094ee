use Rattle.std.proofs.Common.{◌∙◌}
use Rattle.std.specs.Cmp.Lexicographic.{texts_ties}
use Rattle.tuples.proofs.tuple_ref.are_same.Goals as goal

pub returns : goal.returns
returns c = c.eq.ensures ∙ texts_ties c.args.a.now c.args.b.now

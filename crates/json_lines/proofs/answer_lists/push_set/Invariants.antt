use Rattle.json_lines.specs.Listing.{Listing}
use Rattle.json_lines.specs.Texts.{tuple_json}
use Rattle.json_lines.proofs.answer_lists.push_set.Given as goal

abbrev pub invariant-loop-tuple : goal.invariant-loop-tuple
invariant-loop-tuple l = Listing tuple_json l.fn.tuples l.tuple-index l.is_later l.fn.out l.out

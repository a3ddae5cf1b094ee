use Rattle.json_lines.specs.Listing.{Listing}
use Rattle.json_lines.specs.Texts.{set_json}
use Rattle.json_lines.proofs.answer_lists.push_sets.Given as goal

abbrev pub invariant-loop-tuples : goal.invariant-loop-tuples
invariant-loop-tuples l = Listing set_json l.fn.sets l.tuples-index l.is_later l.fn.out l.out

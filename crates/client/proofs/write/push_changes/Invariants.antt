use Rattle.std.proofs.Common.{◌≡◌, ◌++◌, List, map, take}
use Rattle.serde_json.specs.View.{view}
use Rattle.client.specs.Forms.{Changed, changed_json, changed_word}
use Rattle.client.specs.Reading.{texts}
use Rattle.client.proofs.write.push_changes.Given as goal

abbrev pub invariant-loop-index : goal.invariant-loop-index
invariant-loop-index l = (cs : List Changed) × (texts (take l.index l.words) ≡ map changed_word cs) × (map view l.list.items ≡ map view l.initial.list.items ++ map changed_json cs)

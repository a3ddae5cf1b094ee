use Rattle.std.proofs.Common.{◌≡◌, ◌++◌, map, take}
use Rattle.serde_json.specs.Data.{string}
use Rattle.serde_json.specs.View.{view}
use Rattle.client.specs.Reading.{texts}
use Rattle.client.proofs.members.push_texts.Given as goal

abbrev pub invariant-loop-word : goal.invariant-loop-word
invariant-loop-word l = map view l.list.items ≡ map view l.initial.list.items ++ map string (texts (take l.word-index l.words))

use Rattle.std.proofs.Common.{◌≡◌, ◌++◌, List, map, take}
use Rattle.serde_json.specs.View.{view}
use Rattle.client.specs.Forms.{Asked, asked_json}
use Rattle.client.specs.Reading.{AreAsked, texts}
use Rattle.client.proofs.write.push_conditions.Given as goal

abbrev pub invariant-loop-word : goal.invariant-loop-word
invariant-loop-word l = (cs : List Asked) × AreAsked (texts (take l.word-index l.words)) cs × (map view l.list.items ≡ map view l.initial.list.items ++ map asked_json cs)

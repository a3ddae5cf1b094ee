use Rattle.std.proofs.Common.{◌≡◌, ◌≤◌, take, length, vec_len, vec_capacity}
use Rattle.json_lines.specs.Causes.{AreSets}
use Rattle.script_text.specs.Words.{texts}
use Rattle.script_text.proofs.texts.parse_sets.Given as goal

abbrev pub invariant-loop-word : goal.invariant-loop-word
invariant-loop-word l = AreSets (texts (take l.word-index l.words)) l.sets.items × (vec_len l.sets ≡ l.word-index) × (length l.words ≤ vec_capacity l.sets)

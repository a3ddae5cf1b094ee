use Rattle.std.proofs.Common.{◌≡◌, ◌≤◌, take, length, vec_len, vec_capacity}
use Rattle.std.specs.List.{All}
use Rattle.tuples.specs.Names.{IsName}
use Rattle.script_text.specs.Words.{texts}
use Rattle.script_text.proofs.texts.parse_namespaces.Given as goal

abbrev pub invariant-loop-word : goal.invariant-loop-word
invariant-loop-word l = (texts (take l.word-index l.words) ≡ l.names.items) × All IsName l.names.items × (vec_len l.names ≡ l.word-index) × (length l.words ≤ vec_capacity l.names)

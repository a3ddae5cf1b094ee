use Rattle.std.proofs.Common.{◌≡◌, ◌≤◌, map, take, length, vec_len, vec_capacity}
use Rattle.std.specs.List.{All}
use Rattle.tuples.specs.Changes.{changed}
use Rattle.tuples.specs.Texts.{IsTuple}
use Rattle.script_text.specs.Texts.{change_text}
use Rattle.script_text.proofs.texts.parse_changes.Given as goal

abbrev pub invariant-loop-word : goal.invariant-loop-word
invariant-loop-word l = (map (λ w. w.now) (take l.word-index l.words) ≡ map change_text l.changes.items) × All IsTuple (changed l.changes.items) × (vec_len l.changes ≡ l.word-index) × (length l.words ≤ vec_capacity l.changes)

use Rattle.std.proofs.Common.{◌≡◌, ◌≤◌, map, take, length, vec_len, vec_capacity}
use Rattle.std.specs.List.{All}
use Rattle.tuples.specs.Changes.{conditioned}
use Rattle.tuples.specs.Texts.{IsTuple}
use Rattle.script_text.specs.Texts.{condition_text}
use Rattle.script_text.specs.Words.{AreWanted}
use Rattle.script_text.proofs.conditions.parse_conditions.Given as goal

abbrev pub invariant-loop-word : goal.invariant-loop-word
invariant-loop-word l = (map (λ w. w.now) (take l.word-index l.words) ≡ map condition_text l.conditions.items) × All IsTuple (conditioned l.conditions.items) × AreWanted l.conditions.items × (vec_len l.conditions ≡ l.word-index) × (length l.words ≤ vec_capacity l.conditions)

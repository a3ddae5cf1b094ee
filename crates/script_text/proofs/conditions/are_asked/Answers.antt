use Rattle.std.proofs.Common.{All, Bor, List, arith, map, refl, subst, ℕ}
use Rattle.std.proofs.lemmas.Bool.{false≢true}
use Rattle.std.proofs.lemmas.List.{take_all}
use Rattle.script_text.specs.Words.{HasConditionShape}
use Rattle.script_text.proofs.Parts.{all_at, all_more, asked_none, asked_some}
use Rattle.script_text.proofs.conditions.are_asked.Goals as goal

pub returns-then-is_none : goal.returns-then-is_none
returns-then-is_none c = (
  λ yes. absurd (false≢true yes),
  λ all. absurd (asked_none _ c.split_condition.result c.split_condition.ensures c.if-is_none.ensures (all_at (λ (w : Bor (List ℕ)). w.now) HasConditionShape c.args.words.now c.loop-word.word-index _ (omega arith) all)),
)

pub loop-word-preserved : goal.loop-word-preserved
loop-word-preserved c = all_more (λ (w : Bor (List ℕ)). w.now) HasConditionShape c.args.words.now c.loop-word.word-index _ (omega arith) c.loop-word.invariant (asked_some _ c.split_condition.result c.split_condition.ensures c.if-is_none.ensures)

pub returns : goal.returns
returns c = (λ yes. subst (λ (ws : List (Bor (List ℕ))). All HasConditionShape (map (λ w. w.now) ws)) (take_all c.loop-word.word-index c.args.words.now (omega arith)) c.loop-word.invariant, λ all. refl)

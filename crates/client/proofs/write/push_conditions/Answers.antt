use Rattle.std.proofs.Common.{inr, ◌++◌, ◌∷◌, []}
use Rattle.std.proofs.lemmas.List.Elements.{All-push}
use Rattle.json_lines.proofs.Values.{map_more}
use Rattle.client.specs.Forms.{IsAsked, asked_json, asked_word}
use Rattle.client.specs.Reading.{condition_view}
use Rattle.client.proofs.Cuts.{no_condition_at, pushed}
use Rattle.client.proofs.write.push_conditions.Goals as goal

pub returns-in_default : goal.returns-in_default
returns-in_default c = inr (no_condition_at c.args.words.now c.loop-word.word-index _ c.loop-word-test.true c.in_default.ensures)

pub loop-word-preserved : goal.loop-word-preserved
loop-word-preserved c =
    let kept = c.loop-word.invariant in
    let condition = condition_view c.in-Some.condition in (
      kept.0 ++ condition ∷ [],
      (map_more (λ w. w.now) asked_word c.args.words.now kept.0 c.loop-word.word-index _ condition c.loop-word-test.true kept.1.0 c.in-Some.ensures.1, All-push IsAsked kept.0 condition kept.1.1 c.in-Some.ensures.0),
      pushed asked_json _ _ _ kept.0 condition kept.2 c.in_ok-push_condition.ensures,
    )

use Rattle.std.proofs.Common.{◌++◌, ◌∷◌, []}
use Rattle.std.proofs.lemmas.List.{take_rest}
use Rattle.json_lines.proofs.Values.{map_more}
use Rattle.client.specs.Forms.{changed_json, changed_word}
use Rattle.client.specs.Reading.{change_view}
use Rattle.client.proofs.Cuts.{behind_changes, begins_no_change, pushed}
use Rattle.client.proofs.write.push_changes.Goals as goal

pub returns-in_default : goal.returns-in_default
returns-in_default c =
    let kept = c.loop-index.invariant in
    let words = c.args.words.now in
    let i = c.loop-index.index in
    rw take_rest (kept.0, behind_changes words i kept.0 kept.1, begins_no_change words i _ c.loop-index-test.true c.in_default.ensures, kept.2)

pub loop-index-preserved : goal.loop-index-preserved
loop-index-preserved c =
    let kept = c.loop-index.invariant in
    let change = change_view c.in-Some.change in (
      kept.0 ++ change ∷ [],
      map_more (λ w. w.now) changed_word c.args.words.now kept.0 c.loop-index.index _ change c.loop-index-test.true kept.1 c.in-Some.ensures,
      pushed changed_json _ _ _ kept.0 change kept.2 c.in_ok-push_change.ensures,
    )

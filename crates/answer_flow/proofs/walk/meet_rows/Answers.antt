-- One row more.
use Rattle.std.proofs.Common.{◌≡◌, ◌∷◌, ◌++◌, [], ◌∙◌, ◌+◌, true≢false, List, take, sym, ap, subst, arith}
use Rattle.std.proofs.lemmas.List.{take_all, take_more}
use Rattle.tuples.specs.declared.tuple.Tuple.{Tuple}
use Rattle.tuples.specs.Checking.{holding}
use Rattle.answer_flow.specs.Walking.{LetsWait}
use Rattle.answer_flow.proofs.MetLists.{meets, passes}
use Rattle.answer_flow.proofs.walk.meet_rows.Goals as goal
use Rattle.answer_flow.proofs.walk.meet_rows.Goals.{in-Set+then-is_of+in_ok-meet, in-Set+else-is_of, in_default}

pub loop-row-preserved : goal.loop-row-preserved
loop-row-preserved c = λ known walk.
    let rows = take c.loop-row.row-index c.args.rows.now in
    let old = c.loop-row.invariant known walk in
    let more : take (c.loop-row.row-index + 1) c.args.rows.now ≡ rows ++ c.row-item.result ∷ [] =
    take_more c.args.rows.now c.loop-row.row-index c.row-item.result c.loop-row-test.true ∙ ap (λ (t : Tuple). rows ++ t ∷ []) (sym c.row-item.is) in
    elim c.match-row.branch [
      | in-Set+then-is_of+in_ok-meet w ↦ rw (w.met-is, w.waiting-is, more) (meets c.args.userset.now rows c.row-item.result w.in-Set.held known c.loop-row.met.keys c.loop-row.waiting.items c.args.waiting.now.items w.meet.new.met.keys w.meet.new.waiting.items old
          (w.is_of.ensures.0 w.if-is_of.true ∙ ap (holding c.args.userset.now) w.in-Set.is) w.in_ok-meet.ensures)
      | in-Set+else-is_of w ↦ rw (w.met-is, w.waiting-is, more) (passes c.args.userset.now rows c.row-item.result known c.loop-row.met.keys c.loop-row.waiting.items c.args.waiting.now.items old
          (λ z is. true≢false (sym (w.is_of.ensures.1 (is ∙ ap (holding c.args.userset.now) (sym (ap (λ (t : Tuple). t.user) is)))) ∙ w.if-is_of.false)))
      | in_default w ↦ rw (w.met-is, w.waiting-is, more) (passes c.args.userset.now rows c.row-item.result known c.loop-row.met.keys c.loop-row.waiting.items c.args.waiting.now.items old (λ z is. w.in_default.not-Set z (ap (λ (t : Tuple). t.user) is)))
    ]

pub returns : goal.returns
returns c = λ known walk. subst (λ (rows : List Tuple). LetsWait c.args.userset.now rows known c.loop-row.met.keys c.loop-row.waiting.items c.args.waiting.now.items)
    (take_all c.loop-row.row-index c.args.rows.now (omega arith)) (c.loop-row.invariant known walk)

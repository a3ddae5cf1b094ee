-- The first that waits was walked.
use Rattle.std.proofs.Common.{◌≡◌, ◌∷◌, ◌++◌, ◌∙◌, List, ap, sym, subst}
use Rattle.tuples.specs.declared.object.Userset.{Userset}
use Rattle.answer_flow.specs.declared.walk.Usersets.{Usersets}
use Rattle.answer_flow.specs.Walking.{IsWalk, WalkValue}
use Rattle.answer_flow.proofs.Walked.{no_first, still_walk, walked_first}
use Rattle.answer_flow.proofs.walk.Walk.walk_first.Goals as goal
use Rattle.answer_flow.proofs.walk.Walk.walk_first.Goals.{in-Some+in_ok-meet_rows+in_ok-push, in_default}

pub invariant_of-result : goal.invariant_of-result
invariant_of-result c =
    let met = c.deref_mut.result.now in
    let inv : IsWalk met.met.keys (met.walked.items ++ met.waiting.items) = subst (λ (u : Usersets). IsWalk u.met.keys (u.walked.items ++ u.waiting.items)) (sym c.deref_mut.ensures.value) c.self.invariant in
    elim c.match-pop_front.branch [
      | in-Some+in_ok-meet_rows+in_ok-push w ↦
          let walk = subst (λ (ws : List Userset). IsWalk met.met.keys (met.walked.items ++ ws)) w.in-Some.ensures.items inv in
          let lets = w.in_ok-meet_rows.ensures (met.walked.items ++ w.in-Some.first ∷ c.pop_front.new.self.items) walk in
          rw (w.usersets-is, w.in_ok-push.ensures.items)
          (still_walk w.in-Some.first c.pop_front.new.self.items c.args.rows.now met.walked.items w.meet_rows.new.met.keys w.meet_rows.new.waiting.items lets)
      | in_default w ↦ rw (w.usersets-is)
          (subst (λ (ws : List Userset). IsWalk met.met.keys (met.walked.items ++ ws)) w.in_default.ensures.items inv)
    ]

pub returns : goal.returns
returns c = λ y rest is.
    let met = c.deref_mut.result.now in
    let inv : IsWalk met.met.keys (met.walked.items ++ met.waiting.items) = subst (λ (u : Usersets). IsWalk u.met.keys (u.walked.items ++ u.waiting.items)) (sym c.deref_mut.ensures.value) c.self.invariant in
    let view : record { walked = met.walked.items; waiting = met.waiting.items } ≡ c.args.self = ap (λ (u : Usersets). record { walked = u.walked.items; waiting = u.waiting.items }) c.deref_mut.ensures.value ∙ c.self.view_is in
    elim c.match-pop_front.branch [
      | in-Some+in_ok-meet_rows+in_ok-push w ↦
          let walk = subst (λ (ws : List Userset). IsWalk met.met.keys (met.walked.items ++ ws)) w.in-Some.ensures.items inv in
          let lets = w.in_ok-meet_rows.ensures (met.walked.items ++ w.in-Some.first ∷ c.pop_front.new.self.items) walk in
          rw (w.usersets-is)
          (walked_first y rest c.args.rows.now c.args.self met.walked.items met.waiting.items w.in-Some.first c.pop_front.new.self.items
          w.meet_rows.new.met.keys w.meet_rows.new.waiting.items w.push.new.self.items is view w.in-Some.ensures.items lets
          w.in_ok-push.ensures.items)
      | in_default w ↦ absurd (no_first y rest met.waiting.items (ap (λ (v : WalkValue). v.waiting) view ∙ is) (w.in_default.ensures.items ∙ w.in_default.ensures.rest))
    ]

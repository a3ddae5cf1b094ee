use Rattle.std.proofs.Common.{◌≡◌, Bool, ◌++◌, true, false, ap, ◌∙◌, refl, sym, subst, rules, Option}
use Rattle.line_io.specs.Blocks.{TakesPart}
use Rattle.line_io.specs.declared.held.Block.{Block}
use Rattle.sessions.specs.Bounds.{IsBounded}
use Rattle.sessions.specs.Machines.{left_of}
use Rattle.sessions.specs.Unsent.{unsent}
use Rattle.sessions.specs.declared.machine.Phase.TheVariants.{Open}
use Rattle.sessions.specs.declared.waiting.Waiting.{Waiting}
use Rattle.sessions.proofs.Going.{held_by, line_lost, line_more, part_more}
use Rattle.sessions.proofs.machine.Machine.answer.Goals as goal

pub returns-then-is_full-clause-stands : goal.returns-then-is_full-clause-stands
returns-then-is_full-clause-stands g c = λ first got written s. (c.loop.invariant.1 first got written s, λ no. absurd (cc no))

pub returns-clause-stands : goal.returns-clause-stands
returns-clause-stands g c = λ first got written s. (c.loop.invariant.1 first got written s, λ no. absurd (cc no))

pub returns-then-not-take_part-clause-stands : goal.returns-then-not-take_part-clause-stands
returns-then-not-take_part-clause-stands g c = λ first got written s.
    let m = c.loop.self in
    let n = c.take_part.new.self in
    let stood = c.loop.invariant.1 first got written s in
    let rest = c.take_part.ensures.rest in
    let going = held_by c.args.store g.A.Answers.gives first got written m.line (left_of m.block) (unsent m.waiting) c.loop.answers m.phase m.line (unsent n.waiting) Open stood.0 refl (ap unsent rest.0) (sym c.loop.invariant.0) in
    let none : c.take_part.result ≡ false = first_of (cc, search rules) in
    let taken = subst (λ (is : Bool). TakesPart is (left_of m.block) (left_of n.block) going.front n.line) none (c.take_part.ensures.part going.front going.held) in
    let more = part_more c.args.store g.A.Answers.gives first got written m.line (left_of m.block) (unsent n.waiting) c.loop.answers (left_of n.block) n.line going taken in (
      (
        held_by c.args.store g.A.Answers.gives first got written n.line (left_of n.block) (unsent n.waiting) c.loop.answers Open n.line (unsent n.waiting) n.phase more refl refl (rest.1 ∙ c.loop.invariant.0),
        subst (λ (w : Waiting). IsBounded c.args.store w.bytes.items) (sym rest.0) stood.1,
      ),
      λ _. (taken.all refl).1,
    )

pub returns-in-Err-clause-stands : goal.returns-in-Err-clause-stands
returns-in-Err-clause-stands g c = λ first got written s.
    let m = c.loop.self in
    let n = c.take_part.new.self in
    let k = c.answer_line.new.self in
    let stood = c.loop.invariant.1 first got written s in
    let rest = c.take_part.ensures.rest in
    let kept = c.answer_line.ensures.rest in
    let going = held_by c.args.store g.A.Answers.gives first got written m.line (left_of m.block) (unsent m.waiting) c.loop.answers m.phase m.line (unsent n.waiting) Open stood.0 refl (ap unsent rest.0) (sym c.loop.invariant.0) in
    let some : c.take_part.result ≡ true = first_of (cc, search rules) in
    let at_feed = subst (λ (is : Bool). TakesPart is (left_of m.block) (left_of n.block) going.front n.line) some (c.take_part.ensures.part going.front going.held) in
    let taken = subst (λ (b : Option Block). TakesPart true (left_of m.block) (left_of b) going.front n.line) (sym kept.0) at_feed in (
      (
        line_lost c.args.store g.A.Answers.gives first got written m.line (left_of m.block) (unsent n.waiting) c.loop.answers (left_of k.block) (unsent k.waiting) n.line k.line c.answer_line.new.answers
            going taken (c.in-Err.ensures.err (going.front ++ taken.part) taken.held) c.answer_line.ensures.line,
        c.answer_line.ensures.bounded,
      ),
      λ no. absurd (cc no),
    )

pub loop-preserved : goal.loop-preserved
loop-preserved g c = (
  c.answer_line.ensures.rest.1 ∙ c.take_part.ensures.rest.1 ∙ c.loop.invariant.0,
  λ first got written s.
      let m = c.loop.self in
      let n = c.take_part.new.self in
      let k = c.answer_line.new.self in
      let stood = c.loop.invariant.1 first got written s in
      let rest = c.take_part.ensures.rest in
      let kept = c.answer_line.ensures.rest in
      let going = held_by c.args.store g.A.Answers.gives first got written m.line (left_of m.block) (unsent m.waiting) c.loop.answers m.phase m.line (unsent n.waiting) Open stood.0 refl (ap unsent rest.0) (sym c.loop.invariant.0) in
      let some : c.take_part.result ≡ true = first_of (cc, search rules) in
      let at_feed = subst (λ (is : Bool). TakesPart is (left_of m.block) (left_of n.block) going.front n.line) some (c.take_part.ensures.part going.front going.held) in
      let taken = subst (λ (b : Option Block). TakesPart true (left_of m.block) (left_of b) going.front n.line) (sym kept.0) at_feed in
      let more = line_more c.args.store g.A.Answers.gives first got written m.line (left_of m.block) (unsent n.waiting) c.loop.answers (left_of k.block) (unsent k.waiting) n.line k.line c.answer_line.new.answers
      going taken (c.in-Ok.ensures.ok (going.front ++ taken.part) taken.held) c.answer_line.ensures.line in (
        held_by c.args.store g.A.Answers.gives first got written k.line (left_of k.block) (unsent k.waiting) c.answer_line.new.answers Open k.line (unsent k.waiting) k.phase more refl refl
            (kept.1 ∙ rest.1 ∙ c.loop.invariant.0),
        c.answer_line.ensures.bounded,
      ),
)

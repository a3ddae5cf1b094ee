use Rattle.std.proofs.Common.{◌≡◌, ℕ, [], ◌++◌, false, ap, ◌∙◌, refl, sym, subst, drop, rules}
use Rattle.std.proofs.KnownBytes.{Appends-nil, Appends-trans, Consumes-kept, Consumes-nil, Consumes-trans}
use Rattle.std.specs.Global.{Vec}
use Rattle.line_io.proofs.Writing.{begun_none}
use Rattle.sessions.specs.Bounds.{IsBounded}
use Rattle.sessions.specs.Machines.{Standing, left_of}
use Rattle.sessions.specs.Unsent.{unsent}
use Rattle.sessions.specs.declared.machine.Phase.{Phase}
use Rattle.sessions.specs.declared.machine.Phase.TheVariants.{Open}
use Rattle.sessions.specs.declared.machine.Turn.TheVariants as turn
use Rattle.sessions.specs.declared.waiting.Waiting.{Waiting}
use Rattle.sessions.proofs.Bounded.{bounded_none, on_ok_by, on_err_by}
use Rattle.sessions.proofs.Going.{all_sent, at_first, broke_ended, broke_off, ended_with, held_by, more_came, served}
use Rattle.sessions.proofs.serve.serve_lines.Goals as goal
use Rattle.tuples.proofs.Options.{on_err}

pub returns-in_err-make_room-clause-err : goal.returns-in_err-make_room-clause-err
returns-in_err-make_room-clause-err g c =
    let a0 = c.args.answers.now in
    let m = c.new-machine.result in
    let is_new = c.new-machine.ensures in
    let in0 = g.R.Read.remaining c.args.input.now in
    let out0 = g.W.Write.contents c.args.output.now in
    let empty : unsent m.waiting ≡ [] = ap (λ (n : ℕ). drop n m.waiting.bytes.items) is_new.3 ∙ is_new.2 in
    let stood = at_first c.args.store g.A.Answers.gives a0 m.line (left_of m.block) (unsent m.waiting) m.phase is_new.0 (ap left_of is_new.1) empty is_new.4 in
    on_err c.from_residual.result
    (broke_off c.args.store g.A.Answers.gives a0 [] [] m.line (left_of m.block) (unsent m.waiting) a0 in0 in0 out0 out0 out0 turn.More m.phase is_new.4 stood
    (Consumes-nil in0) (Appends-nil out0) (begun_none out0 (unsent m.waiting)))

pub loop-init : goal.loop-init
loop-init g c =
    let m = c.new-machine.result in
    let w = c.make_room.new.self in
    let is_new = c.new-machine.ensures in
    let items : w.bytes.items ≡ [] = c.make_room.ensures.items ∙ is_new.2 in
    let empty : unsent w ≡ [] = ap (λ (n : ℕ). drop n w.bytes.items) (c.make_room.ensures.sent ∙ is_new.3) ∙ items in (
      [],
      [],
      Consumes-nil (g.R.Read.remaining c.args.input.now),
      Appends-nil (g.W.Write.contents c.args.output.now),
      (
        at_first c.args.store g.A.Answers.gives c.args.answers.now m.line (left_of m.block) (unsent w) m.phase is_new.0 (ap left_of is_new.1) empty is_new.4,
        bounded_none c.args.store w.bytes.items items,
      ),
      is_new.4,
    )

pub returns-in_err-write_waiting-clause-err : goal.returns-in_err-write_waiting-clause-err
returns-in_err-write_waiting-clause-err g c =
    let a0 = c.args.answers.now in
    let now = c.answer-turn.new.answers in
    let in0 = g.R.Read.remaining c.args.input.now in
    let in1 = g.R.Read.remaining c.loop.input in
    let out0 = g.W.Write.contents c.args.output.now in
    let out1 = g.W.Write.contents c.loop.output in
    let out2 = g.W.Write.contents c.write_waiting.new.output in
    let got = c.loop.invariant.0 in
    let written = c.loop.invariant.1 in
    let m1 = c.answer-turn.new.self in
    let answered = c.answer-turn.ensures.stands a0 got written c.loop.invariant.4 in
    on_err c.from_residual-in_err-write_waiting.result
    (broke_off c.args.store g.A.Answers.gives a0 got written m1.line (left_of m1.block) (unsent m1.waiting) now in0 in1 out0 out1 out2 c.answer-turn.result m1.phase c.answer-turn.ensures.phase
    answered.0.0 c.loop.invariant.2 c.loop.invariant.3 c.in_err-write_waiting.ensures.err)

pub read_on-requires-clause-looked : goal.read_on-requires-clause-looked
read_on-requires-clause-looked g c = (c.answer-turn.ensures.stands c.args.answers.now c.loop.invariant.0 c.loop.invariant.1 c.loop.invariant.4).1

pub returns-in_err-read_on-clause-err : goal.returns-in_err-read_on-clause-err
returns-in_err-read_on-clause-err g c =
    let a0 = c.args.answers.now in
    let now = c.answer-turn.new.answers in
    let in0 = g.R.Read.remaining c.args.input.now in
    let in1 = g.R.Read.remaining c.loop.input in
    let out0 = g.W.Write.contents c.args.output.now in
    let out1 = g.W.Write.contents c.loop.output in
    let out2 = g.W.Write.contents c.write_waiting.new.output in
    let got = c.loop.invariant.0 in
    let written = c.loop.invariant.1 in
    let m1 = c.answer-turn.new.self in
    let answered = c.answer-turn.ensures.stands a0 got written c.loop.invariant.4 in
    let waited = unsent m1.waiting in
    let w2 = c.write_waiting.new.waiting in
    let sent = all_sent c.args.store g.A.Answers.gives a0 got written m1.line (left_of m1.block) waited now m1.phase (unsent w2) answered.0.0 c.in_ok-write_waiting.ensures.empty in
    let went = Appends-trans out0 out1 out2 written waited c.loop.invariant.3 c.in_ok-write_waiting.ensures.ok in
    let in2 = g.R.Read.remaining c.read_on.new.input in
    on_err c.from_residual-in_err-read_on.result
    (broke_off c.args.store g.A.Answers.gives a0 got (written ++ waited) m1.line (left_of m1.block) (unsent w2) now in0 in2 out0 out2 out2 c.answer-turn.result m1.phase c.answer-turn.ensures.phase
    sent (Consumes-kept in0 in1 in2 got c.loop.invariant.2 c.in_err-read_on.ensures.err) went (begun_none out2 (unsent w2)))

pub returns-in_err-end-clause-err : goal.returns-in_err-end-clause-err
returns-in_err-end-clause-err g c =
    let a0 = c.args.answers.now in
    let now = c.answer-turn.new.answers in
    let in0 = g.R.Read.remaining c.args.input.now in
    let in1 = g.R.Read.remaining c.loop.input in
    let out0 = g.W.Write.contents c.args.output.now in
    let out1 = g.W.Write.contents c.loop.output in
    let out2 = g.W.Write.contents c.write_waiting.new.output in
    let got = c.loop.invariant.0 in
    let written = c.loop.invariant.1 in
    let m1 = c.answer-turn.new.self in
    let answered = c.answer-turn.ensures.stands a0 got written c.loop.invariant.4 in
    let waited = unsent m1.waiting in
    let w2 = c.write_waiting.new.waiting in
    let sent = all_sent c.args.store g.A.Answers.gives a0 got written m1.line (left_of m1.block) waited now m1.phase (unsent w2) answered.0.0 c.in_ok-write_waiting.ensures.empty in
    let went = Appends-trans out0 out1 out2 written waited c.loop.invariant.3 c.in_ok-write_waiting.ensures.ok in
    let in2 = g.R.Read.remaining c.read_on.new.input in
    let m3 = c.read_on.new.machine in
    let refilled = c.in_ok-read_on.ensures.ok in
    let came = Consumes-trans in0 in1 in2 got refilled.read c.loop.invariant.2 refilled.consumed in
    let is_open : m1.phase ≡ Open = c.answer-turn.ensures.phase ∙ c.in_ok-read_on.ensures.going in
    let going = subst (λ (p : Phase). Standing c.args.store g.A.Answers.gives a0 got (written ++ waited) m1.line (left_of m1.block) (unsent w2) p now) is_open sent in
    let more = more_came c.args.store g.A.Answers.gives a0 got (written ++ waited) m1.line (left_of m1.block) (unsent w2) now refilled.read (left_of m3.block) going refilled.bytes in
    let rest = c.in_ok-read_on.ensures.rest in
    let stood =
    held_by c.args.store g.A.Answers.gives a0 (got ++ refilled.read) (written ++ waited) m1.line (left_of m3.block) (unsent w2) now Open m3.line (unsent m3.waiting) Open more rest.0 (ap unsent rest.1) refl in
    on_err c.from_residual-in_err-end.result
    (broke_off c.args.store g.A.Answers.gives a0 (got ++ refilled.read) (written ++ waited) m3.line (left_of m3.block) (unsent m3.waiting) now in0 in2 out0 out2 out2 turn.More Open refl
    stood came went (begun_none out2 (unsent m3.waiting)))

pub returns-then-not-branch-clause-ok : goal.returns-then-not-branch-clause-ok
returns-then-not-branch-clause-ok g c =
    let a0 = c.args.answers.now in
    let now = c.answer-turn.new.answers in
    let in0 = g.R.Read.remaining c.args.input.now in
    let in1 = g.R.Read.remaining c.loop.input in
    let out0 = g.W.Write.contents c.args.output.now in
    let out1 = g.W.Write.contents c.loop.output in
    let out2 = g.W.Write.contents c.write_waiting.new.output in
    let got = c.loop.invariant.0 in
    let written = c.loop.invariant.1 in
    let m1 = c.answer-turn.new.self in
    let answered = c.answer-turn.ensures.stands a0 got written c.loop.invariant.4 in
    let waited = unsent m1.waiting in
    let w2 = c.write_waiting.new.waiting in
    let sent = all_sent c.args.store g.A.Answers.gives a0 got written m1.line (left_of m1.block) waited now m1.phase (unsent w2) answered.0.0 c.in_ok-write_waiting.ensures.empty in
    let went = Appends-trans out0 out1 out2 written waited c.loop.invariant.3 c.in_ok-write_waiting.ensures.ok in
    let in2 = g.R.Read.remaining c.read_on.new.input in
    let m3 = c.read_on.new.machine in
    let refilled = c.in_ok-read_on.ensures.ok in
    let came = Consumes-trans in0 in1 in2 got refilled.read c.loop.invariant.2 refilled.consumed in
    let is_open : m1.phase ≡ Open = c.answer-turn.ensures.phase ∙ c.in_ok-read_on.ensures.going in
    let going = subst (λ (p : Phase). Standing c.args.store g.A.Answers.gives a0 got (written ++ waited) m1.line (left_of m1.block) (unsent w2) p now) is_open sent in
    let more = more_came c.args.store g.A.Answers.gives a0 got (written ++ waited) m1.line (left_of m1.block) (unsent w2) now refilled.read (left_of m3.block) going refilled.bytes in
    let rest = c.in_ok-read_on.ensures.rest in
    let stood =
    held_by c.args.store g.A.Answers.gives a0 (got ++ refilled.read) (written ++ waited) m1.line (left_of m3.block) (unsent w2) now Open m3.line (unsent m3.waiting) Open more rest.0 (ap unsent rest.1) refl in
    let none : c.in_ok-read_on.field-0 ≡ false = first_of (cc, search rules) in
    let m4 = c.end.new.self in
    let out3 = g.W.Write.contents c.write_waiting-then-not-branch.new.output in
    let ended = ended_with c.args.store g.A.Answers.gives a0 (got ++ refilled.read) (written ++ waited) m3.line (left_of m3.block) (unsent m3.waiting) now (unsent m4.waiting)
    stood (refilled.at_end none).0 (c.in_ok-end.ensures.ok stood.front stood.held) in
    on_ok_by c.write_waiting-then-not-branch.result
    (served c.args.store g.A.Answers.gives a0 (got ++ refilled.read) (written ++ waited) m3.line (left_of m3.block) (unsent m4.waiting) now in0 in2 out0 out2 out3 ended came (refilled.at_end none).1 went)
    c.write_waiting-then-not-branch.ensures.ok

pub returns-then-not-branch-clause-err : goal.returns-then-not-branch-clause-err
returns-then-not-branch-clause-err g c =
    let a0 = c.args.answers.now in
    let now = c.answer-turn.new.answers in
    let in0 = g.R.Read.remaining c.args.input.now in
    let in1 = g.R.Read.remaining c.loop.input in
    let out0 = g.W.Write.contents c.args.output.now in
    let out1 = g.W.Write.contents c.loop.output in
    let out2 = g.W.Write.contents c.write_waiting.new.output in
    let got = c.loop.invariant.0 in
    let written = c.loop.invariant.1 in
    let m1 = c.answer-turn.new.self in
    let answered = c.answer-turn.ensures.stands a0 got written c.loop.invariant.4 in
    let waited = unsent m1.waiting in
    let w2 = c.write_waiting.new.waiting in
    let sent = all_sent c.args.store g.A.Answers.gives a0 got written m1.line (left_of m1.block) waited now m1.phase (unsent w2) answered.0.0 c.in_ok-write_waiting.ensures.empty in
    let went = Appends-trans out0 out1 out2 written waited c.loop.invariant.3 c.in_ok-write_waiting.ensures.ok in
    let in2 = g.R.Read.remaining c.read_on.new.input in
    let m3 = c.read_on.new.machine in
    let refilled = c.in_ok-read_on.ensures.ok in
    let came = Consumes-trans in0 in1 in2 got refilled.read c.loop.invariant.2 refilled.consumed in
    let is_open : m1.phase ≡ Open = c.answer-turn.ensures.phase ∙ c.in_ok-read_on.ensures.going in
    let going = subst (λ (p : Phase). Standing c.args.store g.A.Answers.gives a0 got (written ++ waited) m1.line (left_of m1.block) (unsent w2) p now) is_open sent in
    let more = more_came c.args.store g.A.Answers.gives a0 got (written ++ waited) m1.line (left_of m1.block) (unsent w2) now refilled.read (left_of m3.block) going refilled.bytes in
    let rest = c.in_ok-read_on.ensures.rest in
    let stood =
    held_by c.args.store g.A.Answers.gives a0 (got ++ refilled.read) (written ++ waited) m1.line (left_of m3.block) (unsent w2) now Open m3.line (unsent m3.waiting) Open more rest.0 (ap unsent rest.1) refl in
    let none : c.in_ok-read_on.field-0 ≡ false = first_of (cc, search rules) in
    let m4 = c.end.new.self in
    let out3 = g.W.Write.contents c.write_waiting-then-not-branch.new.output in
    let ended = ended_with c.args.store g.A.Answers.gives a0 (got ++ refilled.read) (written ++ waited) m3.line (left_of m3.block) (unsent m3.waiting) now (unsent m4.waiting)
    stood (refilled.at_end none).0 (c.in_ok-end.ensures.ok stood.front stood.held) in
    on_err_by c.write_waiting-then-not-branch.result
    (broke_ended c.args.store g.A.Answers.gives a0 (got ++ refilled.read) (written ++ waited) m3.line (left_of m3.block) (unsent m4.waiting) now in0 in2 out0 out2 out3 ended came (refilled.at_end none).1 went)
    c.write_waiting-then-not-branch.ensures.err

pub loop-preserved : goal.loop-preserved
loop-preserved g c =
    let a0 = c.args.answers.now in
    let now = c.answer-turn.new.answers in
    let in0 = g.R.Read.remaining c.args.input.now in
    let in1 = g.R.Read.remaining c.loop.input in
    let out0 = g.W.Write.contents c.args.output.now in
    let out1 = g.W.Write.contents c.loop.output in
    let out2 = g.W.Write.contents c.write_waiting.new.output in
    let got = c.loop.invariant.0 in
    let written = c.loop.invariant.1 in
    let m1 = c.answer-turn.new.self in
    let answered = c.answer-turn.ensures.stands a0 got written c.loop.invariant.4 in
    let waited = unsent m1.waiting in
    let w2 = c.write_waiting.new.waiting in
    let sent = all_sent c.args.store g.A.Answers.gives a0 got written m1.line (left_of m1.block) waited now m1.phase (unsent w2) answered.0.0 c.in_ok-write_waiting.ensures.empty in
    let went = Appends-trans out0 out1 out2 written waited c.loop.invariant.3 c.in_ok-write_waiting.ensures.ok in
    let in2 = g.R.Read.remaining c.read_on.new.input in
    let m3 = c.read_on.new.machine in
    let refilled = c.in_ok-read_on.ensures.ok in
    let came = Consumes-trans in0 in1 in2 got refilled.read c.loop.invariant.2 refilled.consumed in
    let is_open : m1.phase ≡ Open = c.answer-turn.ensures.phase ∙ c.in_ok-read_on.ensures.going in
    let going = subst (λ (p : Phase). Standing c.args.store g.A.Answers.gives a0 got (written ++ waited) m1.line (left_of m1.block) (unsent w2) p now) is_open sent in
    let more = more_came c.args.store g.A.Answers.gives a0 got (written ++ waited) m1.line (left_of m1.block) (unsent w2) now refilled.read (left_of m3.block) going refilled.bytes in
    let rest = c.in_ok-read_on.ensures.rest in
    let stood =
    held_by c.args.store g.A.Answers.gives a0 (got ++ refilled.read) (written ++ waited) m1.line (left_of m3.block) (unsent w2) now Open m3.line (unsent m3.waiting) Open more rest.0 (ap unsent rest.1) refl in
    let is_open_now : m3.phase ≡ Open = rest.2 ∙ is_open in
    let kept : m1.waiting.bytes.items ≡ m3.waiting.bytes.items = ap (λ (v : Vec ℕ). v.items) (sym c.in_ok-write_waiting.ensures.bytes) ∙ ap (λ (w : Waiting). w.bytes.items) (sym rest.1) in (
      got ++ refilled.read,
      written ++ waited,
      came,
      went,
      (
        held_by c.args.store g.A.Answers.gives a0 (got ++ refilled.read) (written ++ waited) m1.line (left_of m3.block) (unsent w2) now Open m3.line (unsent m3.waiting) m3.phase more rest.0 (ap unsent rest.1) is_open_now,
        subst (IsBounded c.args.store) kept answered.0.1,
      ),
      is_open_now,
    )

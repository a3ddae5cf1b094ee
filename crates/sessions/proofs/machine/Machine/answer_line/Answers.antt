use Rattle.sessions.specs.Unsent.{unsent}
use Rattle.sessions.proofs.Bounded.{answered, not_told, on_err_by, on_ok_by}
use Rattle.sessions.proofs.machine.Machine.answer_line.Goals as goal

pub returns-clause-ok : goal.returns-clause-ok
returns-clause-ok g c =
    on_ok_by c.push.result
    (λ e bytes held. answered c.args.store g.A.Answers.gives c.args.answers.now bytes (unsent c.args.self.now.waiting) (unsent c.push.new.self) c.reply_to-reply.new.answers c.reply_to-reply.result
    (c.reply_to-reply.ensures bytes held) e)
    c.push.ensures.ok

pub returns-clause-err : goal.returns-clause-err
returns-clause-err g c =
    on_err_by c.push.result
    (λ e bytes held. not_told c.args.store g.A.Answers.gives c.args.answers.now bytes (unsent c.args.self.now.waiting) (unsent c.push.new.self) c.reply_to-reply.new.answers c.reply_to-reply.result
    (c.reply_to-reply.ensures bytes held) e)
    c.push.ensures.err

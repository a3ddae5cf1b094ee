use Rattle.serving.specs.Protocols.{left}
use Rattle.serving.proofs.Looked.{broke_before, fails_before}
use Rattle.serving.proofs.session.serve_one.Goals as goal

pub returns-in_err-begins_other-clause-err : goal.returns-in_err-begins_other-clause-err
returns-in_err-begins_other-clause-err g c =
    fails_before g.A.Answers.store g.A.Answers.gives (left (λ p. g.R.Read.remaining p.input) c.args.input.now) (left (λ p. g.R.Read.remaining p.input) c.begins_other.new.self)
    (g.W.Write.contents c.args.output.now.output) c.args.answers.now c.from_residual.result c.begins_other.ensures.bytes

pub returns-then-branch-clause-err : goal.returns-then-branch-clause-err
returns-then-branch-clause-err g c =
    broke_before g.A.Answers.store g.A.Answers.gives (left (λ p. g.R.Read.remaining p.input) c.args.input.now) (left (λ p. g.R.Read.remaining p.input) c.begins_other.new.self)
    (g.W.Write.contents c.args.output.now.output) c.args.answers.now c.begins_other.ensures.bytes

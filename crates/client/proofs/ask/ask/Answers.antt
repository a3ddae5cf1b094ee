use Rattle.std.proofs.Common.{◌≡◌, ◌++◌, ◌∷◌, [], ℕ, List, rules, string_bytes, subst}
use Rattle.client.proofs.ask.ask.Goals as goal
use Rattle.line_io.specs.Outputs.{HasBegun}
use Rattle.tuples.proofs.Options.{on_err}
use Rattle.line_io.proofs.Writing.{begun_all}

pub returns-in_err-answered-clause-err : goal.returns-in_err-answered-clause-err
returns-in_err-answered-clause-err g c =
    let same : c.as_str.result.now ≡ string_bytes c.args.request.now.line = search rules in
    let begun = begun_all _ _ _ c.in_ok-send.ensures.ok in
    on_err c.from_residual-in_err-answered.result (subst (λ (line : List ℕ). HasBegun (g.O.Write.contents c.args.output.now) (g.O.Write.contents c.send.new.output) (line ++ 10 ∷ [])) same begun)

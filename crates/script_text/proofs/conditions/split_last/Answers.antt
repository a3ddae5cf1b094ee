use Rattle.std.proofs.Common.{rules}
use Rattle.std.proofs.lemmas.List.{take_rest}
use Rattle.script_text.proofs.Asking.{cut_at_last}
use Rattle.script_text.proofs.conditions.split_last.Goals as goal
use Rattle.tuples.proofs.Cuts.{lacks_everywhere}

pub returns-in-None : goal.returns-in-None
returns-in-None c = lacks_everywhere c.args.mark c.args.text.now (search rules)

pub returns-in-Some : goal.returns-in-Some
returns-in-Some c =
    let cut = cut_at_last c.args.mark c.args.text.now c.in-Some.at (search rules) (search rules) (search rules) in
    rw take_rest cut

use Rattle.std.proofs.Common.{◌≡◌, suc, ◌+◌, ◌-◌, length, take, drop, arith, sym}
use Rattle.std.proofs.lemmas.Grind.{common_steps}
use Rattle.tuples.proofs.Cuts.{cut_at_place, lacks_without_place}
use Rattle.tuples.proofs.split.split_first.Goals as goal

pub returns-in-None : goal.returns-in-None
returns-in-None c = lacks_without_place c.args.mark c.args.text.now (sym c.in-None.ensures)

pub returns-in-Some : goal.returns-in-Some
returns-in-Some c =
    let cut = cut_at_place c.args.mark c.args.text.now c.in-Some.at (sym c.in-Some.ensures) in
    let same : take (length c.args.text.now - (c.in-Some.at + 1)) (drop (c.in-Some.at + 1) c.args.text.now) ≡ drop (suc c.in-Some.at) c.args.text.now = grind (arith, common_steps) in
    rw same cut

use Rattle.std.proofs.Common.{◌≡◌, ◌≤◌, length, drop, sym, ap, ◌∙◌, arith}
use Rattle.std.proofs.lemmas.List.{drop_all}
use Rattle.versions.proofs.Histories.{greatest, last_is_greatest}
use Rattle.versions.proofs.history.last_place.Goals as goal

pub returns : goal.returns
returns c t =
    let all : length c.args.rows.now ≤ c.loop-row.row-index = omega arith in
    let none : greatest (drop c.loop-row.row-index c.args.rows.now) ≡ 0 = ap greatest (drop_all _ _ all) in
    let is : c.loop-row.last ≡ greatest c.args.rows.now = omega (arith, none, c.loop-row.invariant) in
    is ∙ sym (last_is_greatest t c.args.rows.now)

use Rattle.std.proofs.Common.{◌≡◌, ◌+◌, ◌-◌, ◌==◌, length, take, drop, sym, ap, ◌∙◌, take_all, arith}
use Rattle.std.proofs.lemmas.Grind.{common_steps}
use Rattle.tuples.proofs.Unpacked.{drop_past, get_past, place_found, place_past}
use Rattle.tuples.proofs.packing.cut_first.Goals as goal

pub returns-in-Some-clause-front : goal.returns-in-Some-clause-front
returns-in-Some-clause-front c = ap (λ n. take n c.args.text.now) (sym (place_found c.args.text.now c.in-Some.at (sym c.in-Some.ensures)).0)

pub returns-in-Some-clause-behind : goal.returns-in-Some-clause-behind
returns-in-Some-clause-behind c =
    let text = c.args.text.now in
    let at = c.in-Some.at in
    let same : take (length text - (at + 1)) (drop (at + 1) text) ≡ drop (at + 1) text = grind (arith, common_steps) in
    same ∙ ap (λ n. drop (n + 1) text) (sym (place_found text at (sym c.in-Some.ensures)).0)

pub returns-in-None-clause-front : goal.returns-in-None-clause-front
returns-in-None-clause-front c = let text = c.args.text.now in sym (take_all _ text (place_past text (sym c.in-None.ensures)))

pub returns-in-None-clause-is_set : goal.returns-in-None-clause-is_set
returns-in-None-clause-is_set c = let text = c.args.text.now in sym (ap (λ n. n == 2) (get_past text _ (place_past text (sym c.in-None.ensures))))

pub returns-in-None-clause-behind : goal.returns-in-None-clause-behind
returns-in-None-clause-behind c = let text = c.args.text.now in let past = place_past text (sym c.in-None.ensures) in sym (drop_past text _ (omega (arith, past)))

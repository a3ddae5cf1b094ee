use Rattle.std.proofs.Common.{◌≡◌, List, ℕ, ap, arith, get_or}
use Rattle.std.proofs.lemmas.Bool.{both_ways}
use Rattle.std.specs.Fmt.{decimal}
use Rattle.script_text.proofs.Counts.{first_of_count, count_text, count_some, count_same}
use Rattle.script_text.proofs.numbers.parse_count.Goals as goal

pub returns-then-not-begins_a_count : goal.returns-then-not-begins_a_count
returns-then-not-begins_a_count c n h e =
    let first = first_of_count n h in
    let same : get_or c.args.text.now 0 0 ≡ get_or (decimal n) 0 0 = ap (λ (x : List ℕ). get_or x 0 0) e in
    both_ways c.begins_a_count.result c.if-not-begins_a_count.true (c.begins_a_count.ensures.1 (omega arith, omega arith))

pub returns-then-number-gt-MAX_NUMBER : goal.returns-then-number-gt-MAX_NUMBER
returns-then-number-gt-MAX_NUMBER c n h e =
    let first = c.begins_a_count.ensures.0 c.if-not-begins_a_count.false in
    let d = c.in_ok-number.ensures in
    let same = count_same c.args.text.now c.in_ok-number.number n first.0 d.0 d.1 d.2 e h in
    absurd (omega arith)

pub returns : goal.returns
returns c =
    let first = c.begins_a_count.ensures.0 c.if-not-begins_a_count.false in
    let d = c.in_ok-number.ensures in
    let text = count_text c.args.text.now c.in_ok-number.number first.0 d.0 d.1 d.2 in
    let some = count_some c.args.text.now c.in_ok-number.number first.0 text in
    ((omega arith, omega arith), text)

use Rattle.std.proofs.Common.{◌≡◌, drop}
use Rattle.records.specs.Reading.{are_rising_to}
use Rattle.records.proofs.distinct.are_rising_to.Given as goal

-- all rise if those from here on do
abbrev pub invariant-loop-i : goal.invariant-loop-i
invariant-loop-i l = are_rising_to l.to l.placed_ids ≡ are_rising_to l.to (drop l.i l.placed_ids)

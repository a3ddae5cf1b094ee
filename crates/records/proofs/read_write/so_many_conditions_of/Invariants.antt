use Rattle.std.proofs.Common.{◌≡◌, ◌-◌}
use Rattle.records.specs.Reading.{list_at, condition_at}
use Rattle.records.proofs.Loop.{with_front}
use Rattle.records.proofs.read_write.so_many_conditions_of.Given as goal

-- what was read before and what is still read are all
abbrev pub invariant-loop : goal.invariant-loop
invariant-loop l = with_front l.conditions.items (list_at (condition_at l.first) (l.count - l.counter) l.rest) ≡ list_at (condition_at l.first) l.count l.bytes

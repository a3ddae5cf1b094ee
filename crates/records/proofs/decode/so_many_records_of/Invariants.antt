use Rattle.std.proofs.Common.{◌≡◌, ◌-◌}
use Rattle.records.specs.Reading.{list_at, record_at}
use Rattle.records.proofs.Loop.{with_front}
use Rattle.records.proofs.decode.so_many_records_of.Given as goal

-- what was read before and what is still read are all
abbrev pub invariant-loop : goal.invariant-loop
invariant-loop l = with_front l.records.items (list_at (record_at l.first) (l.count - l.counter) l.rest) ≡ list_at (record_at l.first) l.count l.bytes

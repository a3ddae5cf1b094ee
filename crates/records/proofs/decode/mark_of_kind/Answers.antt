use Rattle.std.proofs.Common.{rules}
use Rattle.records.specs.Reading.{mark_of_kind_at}
use Rattle.records.proofs.decode.mark_of_kind.Goals as goal

pub returns-in_ok-generation-in-2 : goal.returns-in_ok-generation-in-2
unfolding mark_of_kind_at
returns-in_ok-generation-in-2 c = search rules

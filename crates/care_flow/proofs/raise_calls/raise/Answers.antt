-- What all have settled is handed in.
use Rattle.std.proofs.Common.{refl}
use Rattle.care_flow.proofs.raise_calls.raise.Goals as goal

pub returns-clause-asks : goal.returns-clause-asks
returns-clause-asks c = let parts = c.into_parts-place in let values = parts.ensures.values in
    (parts.ensures.all, (parts.result.1, values.1, rw values.0 refl, rw values.2 refl))

pub returns-clause-owed : goal.returns-clause-owed
returns-clause-owed c = let parts = c.into_parts-place in let values = parts.ensures.values in rw (values.0, values.1) parts.ensures.all

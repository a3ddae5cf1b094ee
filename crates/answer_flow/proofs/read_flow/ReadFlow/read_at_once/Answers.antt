-- What it keeps is kept if the shard reads at once.
use Rattle.answer_flow.proofs.read_flow.ReadFlow.read_at_once.Goals as goal

pub invariant_of-result-2 : goal.invariant_of-result-2
invariant_of-result-2 c = c.read-ready.ensures.kept _ _ c.self.invariant

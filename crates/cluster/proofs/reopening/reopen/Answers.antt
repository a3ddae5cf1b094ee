-- Each node was opened, and no flow runs.
use Rattle.cluster.proofs.Slots.{no_flows}
use Rattle.cluster.proofs.reopening.reopen.Goals as goal

pub invariant_of-result : goal.invariant_of-result
invariant_of-result g c = record { count = c.in-Ok.ensures.count; flows = no_flows c.args.shards c.new.result.slots c.new.ensures.empty }

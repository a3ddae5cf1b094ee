-- A write is cancelled by its flow.
use Rattle.cluster.proofs.flow.Flow.cancel.Goals as goal

pub returns-in-Write : goal.returns-in-Write
returns-in-Write c = rw c.in-Write.is c.cancel.ensures

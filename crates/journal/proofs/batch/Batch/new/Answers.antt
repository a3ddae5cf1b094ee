use Rattle.journal.proofs.Staged.{none_staged}
use Rattle.journal.proofs.batch.Batch.new.Goals as goal

pub returns : goal.returns
returns c = none_staged c.extend_from_slice.new.self.items

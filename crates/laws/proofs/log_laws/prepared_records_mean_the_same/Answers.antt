use Rattle.std.proofs.Common.{refl}
use Rattle.laws.proofs.PrepareStep.{prepared_means}
use Rattle.laws.proofs.log_laws.prepared_records_mean_the_same.Goals as goal

pub returns : goal.returns
returns c = λ shards s log hc h state p unlisted means. prepared_means shards s log hc h state p.id unlisted means p refl

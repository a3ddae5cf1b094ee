use Rattle.refusal.proofs.Once.{name_once}
use Rattle.refusal.proofs.laws.a_name_is_of_one_refusal.Goals as goal

pub returns : goal.returns
returns c = name_once

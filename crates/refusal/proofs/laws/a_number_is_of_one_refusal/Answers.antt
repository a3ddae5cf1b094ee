use Rattle.refusal.proofs.Once.{number_once}
use Rattle.refusal.proofs.laws.a_number_is_of_one_refusal.Goals as goal

pub returns : goal.returns
returns c = number_once

use Rattle.std.proofs.Common.{ℕ, ◌==◌, rules, not}
use Rattle.std.proofs.lemmas.Fn.{filter_same}
use Rattle.coordinator.proofs.open_writes.take_out.Goals as goal

pub returns : goal.returns
returns c = filter_same _ (λ (n : ℕ). not (n == c.args.number)) _ (λ x b f' k. search rules) _ _ c.retain.ensures.filtered

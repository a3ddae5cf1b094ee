use Rattle.std.proofs.Common.{not, rules}
use Rattle.std.proofs.lemmas.Fn.{filter_same}
use Rattle.std.specs.Ordering.{eq_by_cmp}
use Rattle.tuples.specs.ByUser.{by_user_cmp}
use Rattle.tuples.specs.declared.tuple.Tuple.{Tuple}
use Rattle.versions.proofs.table.leave_out.Goals as goal

pub returns : goal.returns
returns c = filter_same _ (λ (t : Tuple). not (eq_by_cmp by_user_cmp t c.args.tuple.now)) _ (λ t b q called. (search rules, search rules)) c.args.users.now.keys c.retain.new.self.keys c.retain.ensures.filtered

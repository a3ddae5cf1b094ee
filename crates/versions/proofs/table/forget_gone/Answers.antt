use Rattle.std.proofs.Common.{rules}
use Rattle.std.specs.Prelude.{is_some}
use Rattle.std.proofs.lemmas.Fn.{filter_same}
use Rattle.tuples.specs.declared.tuple.Tuple.{Tuple}
use Rattle.versions.specs.Rows.{found}
use Rattle.versions.proofs.table.forget_gone.Goals as goal

pub returns : goal.returns
returns c = filter_same _ (λ (t : Tuple). is_some (found t c.args.table.now.entries)) _ (λ t b q called. (search rules, search rules)) c.args.users.now.keys c.retain.new.self.keys c.retain.ensures.filtered

use Rattle.std.proofs.Common.{◌≡◌, ◌||◌, ap, ◌∙◌, rules}
use Rattle.holds.specs.Holds.{is_in}
use Rattle.holds.proofs.Named.{put_in}
use Rattle.tuples.specs.declared.tuple.Tuple.{Tuple}
use Rattle.tuples.specs.Order.{tuple_eq}
use Rattle.dumping.proofs.found.put.Goals as goal

pub returns : goal.returns
returns c t =
    let key : c.in_ok-copy.field-0 ≡ c.args.tuple.now = search rules in
    put_in c.args.found.now.keys c.insert.new.self.keys c.in_ok-copy.field-0 t (c.in_ok-insert.ensures.updates.0 t)
    ∙ ap (λ (u : Tuple). tuple_eq t u || is_in c.args.found.now.keys t) key

use Rattle.std.proofs.Common.{◌≡◌, ◌++◌, ◌∷◌, [], sym, ◌∙◌, ap, subst}
use Rattle.tuples.specs.declared.entry.Entry.{Entry}
use Rattle.tuples.specs.declared.entry.WriteId.{WriteId}
use Rattle.records.specs.Format.{IsPrepared}
use Rattle.shard.proofs.Tested.{part_prepared, same_part_id}
use Rattle.shard.proofs.preparing.prepare.Goals as goal

pub hold-requires-clause-spelled : goal.hold-requires-clause-spelled
hold-requires-clause-spelled g c =
    let is = c.in_ok-kept.ensures ∙ c.own_part-part.ensures in
    subst IsPrepared (sym is) (part_prepared c.args.me.shards c.args.me.node c.args.write.now c.requires.whole c.requires.part)

pub returns-clause-waits : goal.returns-clause-waits
returns-clause-waits g c =
    let id : c.in_ok-kept.kept.id ≡ c.args.write.now.id = ap (λ (p : Entry). p.id) (c.in_ok-kept.ensures ∙ c.own_part-part.ensures) ∙ same_part_id c.args.me.shards c.args.me.node c.args.write.now in
    c.in_ok-hold.ensures.waits ∙ ap (λ (i : WriteId). c.args.unflushed.now ++ i ∷ []) id

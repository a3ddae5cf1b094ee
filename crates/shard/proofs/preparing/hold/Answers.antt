use Rattle.std.proofs.Common.{◌≡◌, ◌++◌, ◌∷◌, [], Some, None, refl, sym, ◌∙◌, ap, subst, rules}
use Rattle.tuples.specs.declared.entry.Entry.{Entry}
use Rattle.journal.specs.Records.{HasNoRoom}
use Rattle.records.specs.Format.{IsPrepared}
use Rattle.records.specs.declared.record.Record.TheVariants.{Prepare}
use Rattle.shard.proofs.Undone.{prepare_undone, prepared_found}
use Rattle.shard.proofs.preparing.hold.Goals as goal

pub returns-then-is_err-clause-err : goal.returns-then-is_err-clause-err
returns-then-is_err-clause-err g c =
    let m = c.args.memory.now in (
      refl,
      refl,
      prepare_undone m c.prepare.new.self c.drop_write.new.self c.args.part c.requires.free.new c.in_ok-prepare.ensures.ok c.drop_write.ensures,
      search rules,
    )

pub unreachable-requires : goal.unreachable-requires
unreachable-requires g c =
    let found = prepared_found c.args.memory.now c.prepare.new.self c.args.part c.requires.free.new c.in_ok-prepare.ensures.ok in
    let never : None ≡ Some c.args.part = sym (c.in_default.ensures) ∙ found in
    absurd cc

-- the entry that is held is the part
one_entry : (v w : Entry) → Some v ≡ Some w → v ≡ w
one_entry v w same = cc

pub stage_fitting_prepare-requires-clause-spelled : goal.stage_fitting_prepare-requires-clause-spelled
stage_fitting_prepare-requires-clause-spelled g c =
    let found = prepared_found c.args.memory.now c.prepare.new.self c.args.part c.requires.free.new c.in_ok-prepare.ensures.ok in
    subst IsPrepared (one_entry c.args.part c.in-Some.kept.now (sym found ∙ c.in-Some.ensures)) c.requires.spelled

pub stage_fitting_prepare-requires-clause-room : goal.stage_fitting_prepare-requires-clause-room
stage_fitting_prepare-requires-clause-room g c =
    let found = prepared_found c.args.memory.now c.prepare.new.self c.args.part c.requires.free.new c.in_ok-prepare.ensures.ok in
    subst (λ (w : Entry). HasNoRoom c.args.journal.now.staged (Prepare w) → ⊥) (one_entry c.args.part c.in-Some.kept.now (sym found ∙ c.in-Some.ensures)) c.requires.room

pub returns-clause-staged : goal.returns-clause-staged
returns-clause-staged g c =
    let found = prepared_found c.args.memory.now c.prepare.new.self c.args.part c.requires.free.new c.in_ok-prepare.ensures.ok in
    c.stage_fitting_prepare.ensures ∙ ap (λ (w : Entry). record c.args.journal.now { staged = c.args.journal.now.staged ++ Prepare w ∷ [] }) (sym (one_entry c.args.part c.in-Some.kept.now (sym found ∙ c.in-Some.ensures)))

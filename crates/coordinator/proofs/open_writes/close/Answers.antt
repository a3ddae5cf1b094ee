use Rattle.std.proofs.Common.{◌∙◌, ap, sym, List, ℕ, [], All, subst}
use Rattle.coordinator.specs.Keeping.{IsGivenNumber, newest_first}
use Rattle.coordinator.proofs.Kept.{given_others}
use Rattle.coordinator.proofs.OpenIds.{without_number, without_other}
use Rattle.coordinator.proofs.open_writes.close.Goals as goal

pub returns-then-id-epoch-clause-ids : goal.returns-then-id-epoch-clause-ids
returns-then-id-epoch-clause-ids c =
    ap (λ (l : List ℕ). newest_first c.args.epoch l []) c.take_out.ensures ∙ sym (without_number c.args.epoch c.args.id c.args.numbers.now.items [] c.if-id-epoch.true)

pub returns-then-id-epoch-clause-given : goal.returns-then-id-epoch-clause-given
returns-then-id-epoch-clause-given c = λ given all.
    subst (All (IsGivenNumber given)) (sym c.take_out.ensures) (given_others given c.args.id.number c.args.numbers.now.items all)

pub returns-else-id-epoch-clause-ids : goal.returns-else-id-epoch-clause-ids
returns-else-id-epoch-clause-ids c = sym (without_other c.args.epoch c.args.id c.args.numbers.now.items [] c.if-id-epoch.false)

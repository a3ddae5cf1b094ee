use Rattle.std.proofs.Common.{◌==◌, ℕ, []}
use Rattle.std.proofs.lemmas.Bool.Decides.{Decides-eqb}
use Rattle.std.proofs.lemmas.List.Elements.{Decides-contains, contains_decides}
use Rattle.coordinator.proofs.OpenIds.{numbers_open, open_numbers}
use Rattle.coordinator.proofs.open_writes.is_open.Goals as goal

pub returns-then-id-epoch : goal.returns-then-id-epoch
returns-then-id-epoch c = (λ is. absurd cc, λ there. absurd (c.if-id-epoch.true (open_numbers c.args.epoch c.args.id c.args.numbers.now there).0))

pub returns : goal.returns
returns c =
    let d = Decides-contains c.args.numbers.now c.args.id.number c.contains.result (contains_decides (λ (a b : ℕ). a == b) Decides-eqb c.args.numbers.now c.args.id.number c.contains.result c.contains.ensures.cases) in (
      λ is. numbers_open c.args.epoch c.args.id c.args.numbers.now [] c.if-id-epoch.false (d.0 is),
      λ there. d.1 (open_numbers c.args.epoch c.args.id c.args.numbers.now there).1,
    )

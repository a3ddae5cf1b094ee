use Rattle.std.proofs.Common.{ap, sym, ◌∙◌, arith}
use Rattle.published.specs.Known.{Known}
use Rattle.published.proofs.Keeping.{joins, loads_place}
use Rattle.published.proofs.words.Published.meet.Goals as goal

pub join_seat-requires : goal.join_seat-requires
join_seat-requires g c =
    let T = λ (k : Known g.row.W.Denot). k.table in
    let note = c.copy-note.ensures.copy in (
      ap T c.log.view_is ∙ c.requires.0 ∙ sym c.self.view_is,
      note.0 ∙ ap T c.pass.view_is ∙ c.requires.1 ∙ sym c.self.view_is,
      ap (λ m. m.1) note.1,
      omega (arith, c.self.invariant),
      joins _ _ _ _ (ap (λ m. m.0.leads) note.1),
    )

pub load-requires : goal.load-requires
load-requires g c =
    let T = λ (k : Known g.row.W.Denot). k.table in
    (c.join_seat.ensures.0 ∙ ap T c.log.view_is ∙ c.requires.0 ∙ sym c.self.view_is, omega (arith, c.self.invariant), loads_place _ _ _)

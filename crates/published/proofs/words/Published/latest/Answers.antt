use Rattle.std.proofs.Common.{ap, sym, ◌∙◌, arith}
use Rattle.published.specs.Known.{Known}
use Rattle.published.proofs.Keeping.{loads_place}
use Rattle.published.proofs.words.Published.latest.Goals as goal

pub load-requires : goal.load-requires
load-requires g c = (ap (λ (k : Known g.row.W.Denot). k.table) c.pass.view_is ∙ c.requires ∙ sym c.self.view_is, omega (arith, c.self.invariant), loads_place _ _ _)

use Rattle.std.proofs.Common.{◌≤◌, length, arith, sym, subst}
use Rattle.published.specs.Known.{Known}
use Rattle.published.proofs.Keeping.{raises}
use Rattle.published.proofs.words.Published.raise.Goals as goal

pub fetch_max-requires : goal.fetch_max-requires
fetch_max-requires g c =
    let place : c.args.place ≤ length c.log.inside.seat.me.0.seen = subst (λ (p : Known g.row.W.Denot). c.args.place ≤ length p.seen) (sym c.log.view_is) c.requires.place in
    (cc (c.requires.own, c.log.view_is, c.self.view_is), omega (arith, c.self.invariant), raises _ _ _ _ c.log.invariant.0 place)

use Rattle.std.proofs.Common.{◌≡◌, ◌+◌, length, sym, arith, subst}
use Rattle.published.specs.Known.{Known}
use Rattle.published.proofs.Keeping.{advances}
use Rattle.published.proofs.words.Published.advance.Goals as goal

pub fetch_max-requires : goal.fetch_max-requires
fetch_max-requires g c =
    let place : c.args.place ≡ length c.log.inside.seat.me.0.seen + length g.A.Adds.added = subst (λ (p : Known g.row.W.Denot). c.args.place ≡ length p.seen + length g.A.Adds.added) (sym c.log.view_is) c.requires.place in
    (cc (c.requires.own, c.log.view_is, c.self.view_is), omega (arith, c.self.invariant), advances _ _ _ _ g.A.Adds.added c.log.invariant.0 place)

use Rattle.std.proofs.Common.{List, slice_get, ap, ◌∙◌}
use Rattle.flights.proofs.Words.{Known, Launch, launch_of}
use Rattle.flights.proofs.Launched.{at_the_end}
use Rattle.flights.proofs.taking_off.take_off.Goals as goal

pub invariant_of-result : goal.invariant_of-result
invariant_of-result g c = (
  c.session.ensures.own,
  c.requires.ready,
  ap (λ (l : List Launch). slice_get l c.args.number) (ap (λ (k : Known Launch). k.seen) c.session.ensures.pass ∙ c.tell_of.ensures.added)
      ∙ at_the_end c.args.log.now.seen (launch_of c.args.journal c.args.flying) c.args.number c.requires.number.0,
)

pub returns-clause-known : goal.returns-clause-known
returns-clause-known g c =
    ap (λ (l : List Launch). slice_get l c.args.number) (ap (λ (k : Known Launch). k.seen) c.session.ensures.same ∙ c.tell_of.ensures.added)
    ∙ at_the_end c.args.log.now.seen (launch_of c.args.journal c.args.flying) c.args.number c.requires.number.0

use Rattle.std.proofs.Common.{sym, subst}
use Rattle.flights.proofs.Words.{Reply}
use Rattle.sides.specs.CoordinatorSides.{TellsOf}
use Rattle.flights.proofs.coordinator_place.CoordinatorPlace.ask.Goals as goal
use Rattle.flights.proofs.coordinator_place.CoordinatorPlace.ask.Goals.{in-Some-Here, in-Some-Out}

pub returns-clause-tells : goal.returns-clause-tells
returns-clause-tells g c rests =
    let now = c.match-self-2.caller in
    elim c.match-self-2.branch [
      | in-Some-Here w ↦
          subst (λ (r : Reply). TellsOf now.pass.seen now.pass.horizon now.tried.seen c.args.call r) (sym w.result-is)
          (subst (λ k. TellsOf k.pass.seen k.pass.horizon k.tried.seen c.args.call w.ask.result) (sym w.caller-is) (w.ask.ensures.tells rests))
      | in-Some-Out w ↦
          subst (λ (r : Reply). TellsOf now.pass.seen now.pass.horizon now.tried.seen c.args.call r) (sym w.result-is)
          (subst (λ k. TellsOf k.pass.seen k.pass.horizon k.tried.seen c.args.call w.ask-in-Some-Out.result) (sym w.caller-is) (w.ask-in-Some-Out.ensures.tells rests))
    ]

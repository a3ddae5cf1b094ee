-- What the step told is appended under its number.
use Rattle.std.proofs.Common.{◌∙◌, ◌++◌, List, ap, refl}
use Rattle.cluster.specs.declared.event.Event.{Event}
use Rattle.cluster.specs.Steps.{events_of}
use Rattle.cluster.proofs.running.run_one.Goals as goal

pub returns-clause-ok : goal.returns-clause-ok
returns-clause-ok g c = (events_of c.args.number c.in_ok-told.told, (c.in_ok-told.told, c.in_ok-told.ensures.ok, refl), c.append.ensures ∙ ap (λ (es : List Event). es ++ events_of c.args.number c.in_ok-told.told) c.reserve.ensures.items)

use Rattle.cluster.specs.Steps.{Takes}
use Rattle.scripts.specs.Resharding.{Reshards}
use Rattle.scripts.specs.Stepping.{IsNext, SetsScript, ShowsRows, shards_in}
use Rattle.scripts.proofs.Staying.{lines_one}
use Rattle.scripts.proofs.line_laws.staying_is_one_life.Goals as goal

pub returns : goal.returns
returns g c before after lines text prints stay =
    let state = g.D.Device.state in
    let honest = g.D.Device.honest in
    let moment = g.D.Device.moment in
    let left_since = g.D.Device.left_since in
    lines_one (Takes state honest moment left_since) IsNext (ShowsRows state honest) (SetsScript g.D.Device.set_to_fail state honest moment left_since) (Reshards g.P.Supply.gives state honest moment left_since) shards_in
    before lines text after prints stay

use Rattle.headline.proofs.HandsBack.{hands_back}
use Rattle.headline.proofs.opening_laws.refused_openings_hand_back.Goals as goal

pub returns : goal.returns
returns g c = λ store shards devices. hands_back g.D.Device.state g.D.Device.honest g.D.Device.moment g.D.Device.left_since g.met.D.Device.only_now store shards devices

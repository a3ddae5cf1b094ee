use denote.Param.Send.{sendable}
use Rattle.std.proofs.Crossing.{crosses}
use Rattle.std.proofs.MapsCrossing.{crosses as maps_cross}
use Rattle.std.proofs.MapsCrossingOver.{crosses as sets_cross}
use Rattle.locked.proofs.Crosses.{cell_send}
use Rattle.locked.proofs.opening.open_shards.Goals as goal

pub map_vec-requires-send-X : goal.map_vec-requires-send-X
map_vec-requires-send-X g c = search (cell_send, sendable, crosses, maps_cross, sets_cross) depth 400 fits 50000

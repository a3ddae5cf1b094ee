-- A pass may go to another thread, and one that rests may be shared by several: shown part by part, since a search from above runs out of steps.
use denote.RattleType.{RattleType}
use denote.Param.Send.{IsSend, IsSync, sendable}
use Rattle.std.proofs.Crossing.{crosses}
use Rattle.atomic_table.proofs.perch.Perch.TheSendSync as perch
use Rattle.published.specs.contracts.resting.RestingPass as RestingPass
use Rattle.published.specs.contracts.shared.SharedPass as SharedPass

resting_send : (W : RattleType) → IsSend W → IsSend (RestingPass.the_row W)
resting_send W w = search (sendable, crosses, perch.the_send) depth 400 fits 50000

resting_sync : (W : RattleType) → IsSync W → IsSync (RestingPass.the_row W)
resting_sync W w = search (sendable, crosses, perch.the_sync) depth 400 fits 50000

pub shared_send : (W : RattleType) → IsSend W → IsSend (SharedPass.the_row W)
shared_send W w = let a = resting_send W w in search (sendable, crosses) depth 400 fits 50000

pub shared_sync : (W : RattleType) → IsSync W → IsSync (SharedPass.the_row W)
shared_sync W w = let a = resting_sync W w in search (sendable, crosses) depth 400 fits 50000

-- That a session, and what gives sessions, may go to another thread: shown part by part, since a search from above runs out of steps.
use denote.RattleType.{RattleType}
use denote.Struct.Declared as declared
use denote.Param.Send.{AllSend, IsSend, IsSync, recorded_send, sendable, struct_send, view_send}
use denote.Ref.{NamedLft}
use Rattle.device.specs.declared.device.Device as Device
use Rattle.std.proofs.Crossing.{crosses}
use Rattle.atomic_table.proofs.shared.Seat.TheSendSync as seat
use Rattle.locked.proofs.Shared.{store_sync}
use Rattle.sides.specs.declared.room.Room as Room
use Rattle.server.specs.contracts.fork.StoreFork as StoreFork
use Rattle.server.specs.contracts.session.StoreSession as StoreSession
use Rattle.server.specs.contracts.session.StoreSession.TheInside as Inside
use Rattle.server.specs.contracts.share.Share as Share

share_sync : IsSync Share.the_row
share_sync = search (sendable, crosses) depth 400 fits 50000

pub session_send : (a : NamedLft) (D B G R : RattleType) (g : Device.Ghosts D.Denot) (h : Room.Ghosts B.Denot) → IsSend D → IsSync D → IsSend B → IsSync B → IsSync G → IsSync R → IsSend (StoreSession.the_row a D B G R g h)
session_send a D B G R g h d e b c y r =
    let store = store_sync D B G g h d e b c y in
    let all : AllSend (declared.fields (Inside.the_type a D B G R g h)) = (
      search sendable,
      (
        search (sendable, crosses),
        (
          search sendable,
          (
            search sendable,
            (
              search (sendable, crosses, seat.the_send) depth 400 fits 50000,
              (search (sendable, crosses) depth 400 fits 50000, (search (share_sync, sendable), tt)),
            ),
          ),
        ),
      ),
    ) in
    view_send _ _ _ _ _ (recorded_send _ _ _ (Inside.the_type a D B G R g h).to_one (struct_send (declared.shape (Inside.the_type a D B G R g h)) all))

pub fork_send : (a : NamedLft) (D B G R : RattleType) (g : Device.Ghosts D.Denot) (h : Room.Ghosts B.Denot) → IsSend D → IsSync D → IsSend B → IsSync B → IsSync G → IsSync R → IsSend (StoreFork.the_row a D B G R g h)
fork_send a D B G R g h d e b c y r =
    let store = store_sync D B G g h d e b c y in
    let all : AllSend (declared.fields (StoreFork.the_type a D B G R g h)) = (
      search sendable,
      (
        search (sendable, crosses),
        (
          search sendable,
          (
            search sendable,
            (search (sendable, crosses, seat.the_send) depth 400 fits 50000, (search (share_sync, sendable), tt)),
          ),
        ),
      ),
    ) in
    recorded_send _ _ _ (StoreFork.the_type a D B G R g h).to_one (struct_send (declared.shape (StoreFork.the_type a D B G R g h)) all)

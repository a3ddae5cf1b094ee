-- What may join the list: the durable records of a coordinator that was flushed or opened.
use Rattle.std.specs.Prelude.{◌≡◌, ◌≤◌, ◌++◌, ℕ, false, true, List, [], length, take, replicate, Option, Some, None, Ok}
use Rattle.tuples.specs.declared.entry.Entry.{Entry}
use Rattle.device.specs.Device.{State}
use Rattle.decisions.specs.Coordinators.{CoordinatorView, IsRunning, heads_of, kept_of}
use Rattle.decisions.specs.Values.{HeadsValue}
use Rattle.calls.specs.declared.reply.Reply.{Reply}
use Rattle.calls.specs.declared.reply.Reply.TheVariants.{Coordinator as from_coordinator}
use Rattle.calls.specs.declared.reply.CoordinatorReply.TheVariants as told
use Rattle.calls.specs.Views.{NodeView, coordinator, shard, refused}
use Rattle.laws.specs.Worlds.{coordinator_node}
use Rattle.ties.specs.JoiningLaws.{Joins}
use Rattle.ties.specs.Ties.{Anywhere, Attempt, behind}

-- a write that was never made
abbrev pub nothing : Entry
nothing = record { id = record { epoch = 0; number = 0 }; changes = []; conditions = [] }

-- just so many writes: the first of these, and after the last of them writes that were never made
abbrev pub exactly : ℕ → List Entry → List Entry
exactly n writes = take n (writes ++ replicate n nothing)

-- If the heads count these writes, and tell a horizon among them that is no lower than this one, the list is then these, and their horizon.
abbrev pub FollowsHeads : List Entry → ℕ → HeadsValue → List Entry → ℕ → Type 0
FollowsHeads writes low heads seen horizon = heads.kept ≡ length writes → heads.horizon ≤ heads.kept → low ≤ heads.horizon → (seen ≡ writes) × (horizon ≡ heads.horizon)

-- what is kept after the list
abbrev pub behind_in : {D : Type 0} → List Entry → Option (NodeView D) → List Entry
behind_in seen (Some (coordinator v)) = behind seen (kept_of v)
behind_in seen _ = []

-- the heads that a reply tells
abbrev pub heads_in : Reply → Option HeadsValue
heads_in (from_coordinator (told.Heads (Ok heads))) = Some heads
heads_in reply = None

module _ {D : Type 0} (state : D → State) (honest : D → Type 0) where
  -- the node is a coordinator that is up
  abbrev pub RunsThere : Option (NodeView D) → Type 0
  RunsThere (Some (coordinator v)) = IsRunning state honest v
  RunsThere (Some (shard v)) = ⊥
  RunsThere (Some (refused e a b)) = ⊥
  RunsThere None = ⊥

  -- the heads of a coordinator that is up, and none of one that is not
  abbrev pub AreHeadsOf : Option (NodeView D) → Option HeadsValue → Type 0
  AreHeadsOf (Some (coordinator v)) heads = (IsRunning state honest v → heads ≡ Some (heads_of v)) × (v.is_down ≡ true → heads ≡ None)
  AreHeadsOf (Some (refused e a b)) heads = heads ≡ None
  AreHeadsOf (Some (shard v)) heads = Unit {0}
  AreHeadsOf None heads = Unit {0}

  module _ (store shards : ℕ) where
    -- A coordinator that is up is tied to the list with what is kept after it. If it is down, a stop leaves the list of its devices.
    pub record CoordinatorMayJoin (v : CoordinatorView D) (seen : List Entry) (low : ℕ) (tried : List Attempt) : Type 0 where
      pub up : v.is_down ≡ false → Joins state honest v seen low tried
      pub down : v.is_down ≡ true → Anywhere state honest v.a v.b seen low tried
      pub me : v.me ≡ coordinator_node store shards

    -- the node, opened or not
    abbrev pub MayJoin : Option (NodeView D) → List Entry → ℕ → List Attempt → Type 0
    MayJoin (Some (coordinator v)) seen low tried = CoordinatorMayJoin v seen low tried
    MayJoin (Some (refused e a b)) seen low tried = Anywhere state honest a b seen low tried
    MayJoin (Some (shard v)) seen low tried = ⊥
    MayJoin None seen low tried = ⊥

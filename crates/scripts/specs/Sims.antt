-- A script over a store that is opened for it.
use Rattle.std.specs.Prelude.{◌≡◌, ◌+◌, ◌*◌, ℕ, List, [], length, Option, None}
use Rattle.cluster.specs.Openings.{IsOpenedOver}
use Rattle.cluster.specs.Steps.{Takes}
use Rattle.cluster.specs.Worlds.{WorldView}
use Rattle.device.specs.Device.{State, left}
use Rattle.device.specs.Disk.{IsFresh, calls_of, script_of, state_of, tear_of}
use Rattle.device.specs.declared.sim_disk.SimDisk.{SimDisk}
use Rattle.device.specs.declared.tear.Tear.{Tear}
use Rattle.scripts.specs.Resharding.{Reshards}
use Rattle.scripts.specs.Runs.{Broke, Ran}
use Rattle.scripts.specs.Scripts.{ScriptView}
use Rattle.scripts.specs.Stepping.{IsNext, SetsScript, ShowsRows, shards_in}

-- a script over a store in which no flow runs
abbrev pub begun : {S : Type 0} → ℕ → S → ScriptView S
begun id store = record { id = id; running = record { store = store; names = []; slots = [] } }

-- a disk on which no call was made, and which is not set to fail
pub record IsEmptyDisk (d : SimDisk) : Type 0 where
  pub fresh : IsFresh [] (state_of d)
  pub only : (c : List ℕ) → left (state_of d) c → c ≡ []
  pub calls : calls_of d ≡ 0
  pub script : (script_of d ≡ None) × (tear_of d ≡ None)

-- Given which devices there are for the nodes of a store that is carried over
module _ {D : Type 0} (gives : D → Type 0) (set : D → ℕ → Tear → Type 0) (state : D → State) (honest : D → Type 0) (moment : D → ℕ) (left_since : D → ℕ → List ℕ → Type 0) where
  -- the store with this id and this many shards was opened over these devices, and a script ran over it to its end
  pub record RanOver (store shards : ℕ) (devices : List D) (in_before in_after out_before out_after : Option (List ℕ)) : Type 0 where
    pub world : WorldView D
    pub count : length devices ≡ 2 * (shards + 1)
    pub opened : IsOpenedOver state honest moment left_since store shards devices world
    pub after : ScriptView (WorldView D)
    pub ran : Ran (Takes state honest moment left_since) IsNext (ShowsRows state honest) (SetsScript set state honest moment left_since) (Reshards gives state honest moment left_since) shards_in
        in_before in_after out_before out_after (begun store world) after

  -- or the script broke off
  pub record BrokeOver (store shards : ℕ) (devices : List D) (in_before in_after out_before out_after : Option (List ℕ)) : Type 0 where
    pub world : WorldView D
    pub count : length devices ≡ 2 * (shards + 1)
    pub opened : IsOpenedOver state honest moment left_since store shards devices world
    pub after : ScriptView (WorldView D)
    pub broke : Broke (Takes state honest moment left_since) IsNext (ShowsRows state honest) (SetsScript set state honest moment left_since) (Reshards gives state honest moment left_since) shards_in
        in_before in_after out_before out_after (begun store world) after

-- nothing was read, and nothing written
abbrev pub IsUntouched : Option (List ℕ) → Option (List ℕ) → Option (List ℕ) → Option (List ℕ) → Type 0
IsUntouched in_before in_after out_before out_after = (in_after ≡ in_before) × (out_after ≡ out_before)

-- What was done if a store that nobody has open is carried over.
use Rattle.std.specs.Prelude.{◌≡◌, ◌⊎◌, ℕ, List}
use Rattle.cluster.specs.Openings.{IsOpenedOver}
use Rattle.cluster.specs.Worlds.{WorldView}
use Rattle.device.specs.Device.{State}
use Rattle.node_files.specs.Devices.{AreOpened, HostDevice, is_honest, left_since_of, moment_of, state_of}
use Rattle.refusal.specs.declared.refusal.Refusal.{Refusal}
use Rattle.refusal.specs.declared.refusal.Refusal.TheVariants.{NoMemory}
use Rattle.reshard.specs.Caring.{IsCaredFor}
use Rattle.reshard.specs.Made.{IsCarriedOver}
use Rattle.reshard.specs.Refusing.{CarriesNot}

module _ {D : Type 0} (state : D → State) (honest : D → Type 0) (moment : D → ℕ) (left_since : D → ℕ → List ℕ → Type 0) where
  -- The nodes of a store were cared for, and what they know then is what the new devices have.
  pub record CarriesWorld (opened : WorldView D) (new_shards : ℕ) (given made : List D) : Type 0 where
    pub closed : WorldView D
    pub is_cared_for : IsCaredFor state honest moment left_since opened closed
    pub is_carried_over : IsCarriedOver state honest closed new_shards given made

  -- It was opened over its devices before.
  pub record CarriesDevices (store shards : ℕ) (devices : List D) (new_shards : ℕ) (given made : List D) : Type 0 where
    pub opened : WorldView D
    pub is_opened : IsOpenedOver state honest moment left_since store shards devices opened
    pub carries : CarriesWorld opened new_shards given made

  -- it was not carried over, for this cause
  abbrev pub CarriesWorldNot : List D → WorldView D → Refusal → Type 0
  CarriesWorldNot given opened e = (left : WorldView D) × CarriesNot state honest moment left_since given opened e left

  -- there was no memory to open it, or it was not carried over
  abbrev pub CarriesDevicesNot : ℕ → ℕ → List D → List D → Refusal → Type 0
  CarriesDevicesNot store shards devices given e = (e ≡ NoMemory) ⊎ ((opened : WorldView D) × IsOpenedOver state honest moment left_since store shards devices opened × CarriesWorldNot given opened e)

-- Two files for each node were opened, and two for each new one; and these are the new devices, to which the store was carried over.
pub record CarriesFiles (store shards new_shards : ℕ) (made : List HostDevice) : Type 0 where
  pub devices : List HostDevice
  pub are_opened : AreOpened shards devices
  pub given : List HostDevice
  pub are_new : AreOpened new_shards given
  pub carries : CarriesDevices state_of is_honest moment_of left_since_of store shards devices new_shards given made

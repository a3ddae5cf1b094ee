-- What a device over a file is when it was just opened, and what such a device keeps of what every device has to.
use Rattle.std.specs.Prelude.{◌≡◌, ◌+◌, ◌*◌, ℕ, Bool, List, length, All}
use Rattle.device.specs.Device.{State}
use Rattle.device.specs.Disk.{IsFresh}
use Rattle.files.specs.Life.{Event, LeftSince, image, life_state}
use Rattle.files.specs.contracts.host_file.HostFileRawFile.TheImpl.{ghosts}
use Rattle.files.specs.declared.file_device.FileDevice.{FileDevice}
use Rattle.files.specs.declared.host_file.HostFile.{HostFile}

-- it reads what it found in its file, all of it durable; it has written nothing, and no call of it has failed
abbrev pub IsFound : List Event → Bool → ℕ → Type 0
IsFound events stopped failures = IsFresh (image events).seen (life_state events stopped failures)

abbrev pub HostDevice : Type 0
HostDevice = FileDevice HostFile ghosts

-- what `Device` asks of every device, for one over a file
abbrev pub state_of : HostDevice → State
state_of d = life_state d.history.events d.is_stopped d.failures

abbrev pub is_honest : HostDevice → Type 0
is_honest d = Unit {0}

abbrev pub moment_of : HostDevice → ℕ
moment_of d = length d.history.events

abbrev pub left_since_of : HostDevice → ℕ → List ℕ → Type 0
left_since_of d t c = LeftSince d.history.events t c

-- two for each node, each of which was just opened
pub record AreOpened (shards : ℕ) (devices : List HostDevice) : Type 0 where
  pub count : length devices ≡ 2 * (shards + 1)
  pub found : All (λ d. IsFound d.history.events d.is_stopped d.failures) devices

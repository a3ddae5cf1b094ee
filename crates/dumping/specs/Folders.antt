-- What was done when the store of a folder was dumped.
use Rattle.std.specs.Prelude.{ℕ, List, Option}
use Rattle.node_files.specs.Devices.{AreOpened, HostDevice, is_honest, left_since_of, moment_of, state_of}
use Rattle.dumping.specs.Dumped.{IsTextOver}

-- Two files for each node were opened, and this is the text of the store over them. Nothing is known of what standard output has, so this does not say that
-- the text was written there.
pub record DumpsFiles (store shards : ℕ) (asked : Option ℕ) : Type 0 where
  pub devices : List HostDevice
  pub are_opened : AreOpened shards devices
  pub text : List ℕ
  pub is_text : IsTextOver state_of is_honest moment_of left_since_of store shards devices asked text

-- Which bytes are names and ids.
use Rattle.std.specs.Prelude.{◌≡◌, ◌≤◌, ℕ, Bool, true, not, ◌||◌, ◌&&◌, ◌==◌, nat_le, List, length}
use Rattle.std.specs.List.{list_all}
use Rattle.tuples.specs.Limits.{max_id, max_name}

-- a lower-case letter, a digit or an underscore
abbrev pub is_name_byte : ℕ → Bool
is_name_byte b = (nat_le 97 b && nat_le b 122) || ((nat_le 48 b && nat_le b 57) || (b == 95))

-- a namespace or a relation: 1 to 64 such bytes
pub record IsName (bytes : List ℕ) : Type 0 where
  pub some : 1 ≤ length bytes
  pub few : length bytes ≤ max_name
  pub each : list_all is_name_byte bytes ≡ true

-- printable, and none of the four marks # + : @
abbrev pub is_id_byte : ℕ → Bool
is_id_byte b = nat_le 33 b && (nat_le b 126 && not ((b == 35) || ((b == 43) || ((b == 58) || (b == 64)))))

-- the id of an object or of a user: 1 to 128 such bytes
pub record IsId (bytes : List ℕ) : Type 0 where
  pub some : 1 ≤ length bytes
  pub few : length bytes ≤ max_id
  pub each : list_all is_id_byte bytes ≡ true

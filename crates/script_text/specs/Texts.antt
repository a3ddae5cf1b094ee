-- The texts of the parts of a line.
use Rattle.std.specs.Prelude.{◌≡◌, ◌≤◌, ◌<◌, ◌+◌, ◌/◌, ◌%◌, ◌^◌, ◌||◌, ◌&&◌, ℕ, nat_lt, if◌then◌else◌, Bool, true, List, [], ◌∷◌, ◌++◌, length, codes, Option, Some, None}
use Rattle.std.specs.List.{list_all}
use Rattle.std.specs.Fmt.{decimal}
use Rattle.tuples.specs.declared.change.Change.{Change}
use Rattle.tuples.specs.declared.change.Change.TheVariants.{Touch, Delete}
use Rattle.tuples.specs.declared.change.Condition.{Condition}
use Rattle.tuples.specs.declared.change.Want.{Want}
use Rattle.tuples.specs.declared.change.Want.TheVariants.{NotAfter, Exists, Absent}
use Rattle.tuples.specs.Parsing.{SpellsNone}
use Rattle.tuples.specs.Texts.{tuple_text}
use Rattle.zookie.specs.Zookies.{zookie_text}
use Rattle.device.specs.declared.tear.Tear.{Tear}
use Rattle.device.specs.declared.tear.Tear.TheVariants as tear
use Rattle.journal.specs.declared.refused.Bank.{Bank}
use Rattle.journal.specs.declared.refused.Bank.TheVariants.{A, B}
use Rattle.tuples.specs.declared.freshness.Freshness.{Freshness}
use Rattle.tuples.specs.declared.freshness.Freshness.TheVariants.{Latest, AtLeast, Exact}
use Rattle.tuples.specs.Limits.{max_shards, max_watched}
use Rattle.names.specs.declared.node_name.NodeName.{NodeName}
use Rattle.names.specs.declared.node_name.NodeName.TheVariants as node

-- +tuple or -tuple
abbrev pub change_text : Change → List ℕ
change_text (Touch t) = 43 ∷ tuple_text t
change_text (Delete t) = 45 ∷ tuple_text t

-- what is wanted of the tuple with this text: tuple=place, ?tuple or !tuple
abbrev pub wanted_text : List ℕ → Want → List ℕ
wanted_text tuple (NotAfter place) = tuple ++ 61 ∷ decimal place
wanted_text tuple Exists = 63 ∷ tuple
wanted_text tuple Absent = 33 ∷ tuple

abbrev pub condition_text : Condition → List ℕ
condition_text c = wanted_text (tuple_text c.tuple) c.want

-- a place has its limit
abbrev pub IsWanted : Want → Type 0
IsWanted (NotAfter place) = place < 2 ^ 63
IsWanted Exists = Unit {0}
IsWanted Absent = Unit {0}

-- latest, >=Z or =Z; a place is written as the token of this store
abbrev pub fresh_text : ℕ → Freshness → List ℕ
fresh_text store Latest = codes "latest"
fresh_text store (AtLeast place) = codes ">=" ++ zookie_text store place
fresh_text store (Exact place) = codes "=" ++ zookie_text store place

-- a place is a number of 64 bits
abbrev pub IsFreshness : Freshness → Type 0
IsFreshness Latest = Unit {0}
IsFreshness (AtLeast place) = place < 2 ^ 64
IsFreshness (Exact place) = place < 2 ^ 64

-- c, or the shard's number
abbrev pub node_text : NodeName → List ℕ
node_text node.Coordinator = codes "c"
node_text (node.Shard shard) = decimal shard

-- a store of this many shards has the node
abbrev pub IsNode : ℕ → NodeName → Type 0
IsNode shards node.Coordinator = Unit {0}
IsNode shards (node.Shard shard) = shard < shards

abbrev pub bank_letter : Bank → ℕ
bank_letter A = 97
bank_letter B = 98

-- the node, and then the letter of one of its two devices
abbrev pub bank_text : NodeName → Bank → List ℕ
bank_text node bank = node_text node ++ bank_letter bank ∷ []

-- the two lower-case hexadecimal digits of a byte
abbrev pub hex_digit : ℕ → ℕ
hex_digit n = if nat_lt n 10 then 48 + n else 87 + n

abbrev pub tear_text : Tear → List ℕ
tear_text tear.Old = codes "old"
tear_text tear.New = codes "new"
tear_text (tear.Fill b) = hex_digit (b / 16) ∷ hex_digit (b % 16) ∷ []

-- a filling is one byte
abbrev pub IsTear : Tear → Type 0
IsTear tear.Old = Unit {0}
IsTear tear.New = Unit {0}
IsTear (tear.Fill b) = b < 2 ^ 8

-- a to z, 0 to 9
abbrev pub is_flow_byte : ℕ → Bool
is_flow_byte b = (nat_lt 96 b && nat_lt b 123) || (nat_lt 47 b && nat_lt b 58)

-- the name of a flow
pub record IsFlowName (name : List ℕ) : Type 0 where
  pub some : 1 ≤ length name
  pub few : length name ≤ 16
  pub each : list_all is_flow_byte name ≡ true

-- a place, a count of calls, and a value of a hexadecimal digit
abbrev pub IsPlace : ℕ → Type 0
IsPlace n = n < 2 ^ 63

abbrev pub IsCount : ℕ → Type 0
IsCount n = (1 ≤ n) × (n < 2 ^ 63)

abbrev pub IsHex : ℕ → Type 0
IsHex d = d < 16

-- how many places a watch may tell of
abbrev pub IsLimit : ℕ → Type 0
IsLimit n = (1 ≤ n) × (n ≤ max_watched)

-- how many shards a store may have
abbrev pub IsShardCount : ℕ → Type 0
IsShardCount n = (1 ≤ n) × (n ≤ max_shards)

-- the value of the grammar that has this text, or that there is none
abbrev pub ReadsText : {A : Type 0} → (A → Type 0) → (A → List ℕ) → List ℕ → Option A → Type 0
ReadsText IsValid text_of text None = SpellsNone IsValid text_of text
ReadsText IsValid text_of text (Some a) = IsValid a × (text ≡ text_of a)

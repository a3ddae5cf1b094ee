-- What a dump tells: all tuples of one place, of the one list that the store stands for.
use Rattle.std.specs.Prelude.{◌≡◌, ◌≤◌, ◌↔◌, ◌++◌, ℕ, List, ◌∷◌, [], codes, true, Option, MatchOption, Contains, All}
use Rattle.std.specs.List.{flat_map}
use Rattle.std.specs.Io.KnownBytes.{Appends}
use Rattle.cluster.specs.Openings.{IsOpenedOver}
use Rattle.cluster.specs.Steps.{Takes}
use Rattle.cluster.specs.Worlds.{WorldView}
use Rattle.device.specs.Device.{State}
use Rattle.headline.specs.Promised.{devices_at}
use Rattle.headline.specs.Shown.{Shows}
use Rattle.laws.specs.Machines.{Machine}
use Rattle.laws.specs.Nodes.{NodeName}
use Rattle.scripts.specs.Stepping.{IsNext, ShowsRows}
use Rattle.tuples.specs.declared.entry.Entry.{Entry}
use Rattle.tuples.specs.declared.entry.WriteId.{WriteId}
use Rattle.tuples.specs.declared.tuple.Tuple.{Tuple}
use Rattle.tuples.specs.Log.{is_at}
use Rattle.tuples.specs.Reads.{AreAscending}
use Rattle.tuples.specs.Texts.{tuple_text}
use Rattle.stores.specs.Stores.{IsToldOver, RestsOver, Store}
use Rattle.turns.specs.Reopens.{IsOpenedFrom}
use Rattle.zookie.specs.Zookies.{zookie_text}
use Rattle.dumping.specs.Dumps.{Dumps}
use Rattle.dumping.specs.Looking.{AreOfOneMoment}
use Rattle.dumping.specs.declared.over_devices.Fault.{Fault}
use Rattle.dumping.specs.declared.over_devices.Fault.TheVariants.{Refused, Unwritten}
use Rattle.line_io.specs.Outputs.{HasBegun}

-- the tuples that are there at a place of a list of writes, all of them, each before the next
pub record IsSnapshot (log : List Entry) (place : ℕ) (rows : List Tuple) : Type 0 where
  pub ascending : AreAscending rows
  pub exact : (t : Tuple) → Contains rows t ↔ (is_at log place t ≡ true)

-- the first line: the token of the place
abbrev pub head_line : ℕ → ℕ → List ℕ
head_line store place = codes "at " ++ zookie_text store place ++ 10 ∷ []

abbrev pub tuple_line : Tuple → List ℕ
tuple_line t = tuple_text t ++ 10 ∷ []

-- and a line for each tuple
abbrev pub dump_text : ℕ → ℕ → List Tuple → List ℕ
dump_text store place rows = head_line store place ++ flat_map tuple_line rows

-- the second machine has the same list, and keeps no less of it; its horizon is no lower
pub record GoesOn (a b : Machine) : Type 0 where
  pub log : b.log ≡ a.log
  pub kept : a.kept ≤ b.kept
  pub horizon : a.horizon ≤ b.horizon

module _ {D : Type 0} (state : D → State) (honest : D → Type 0) (moment : D → ℕ) (left_since : D → ℕ → List ℕ → Type 0) (store shards : ℕ) where
  -- Devices that rested at a machine were opened, which led to another machine by moves of an opening. The rows are the snapshot of its list: at the place
  -- that was asked for, or else at one that is no lower than all that was kept when it was opened. The place is kept, and not below the horizon from before.
  -- No write was listed meanwhile, and closed after the dump the devices rest again.
  pub record IsSnapshotOver (old : NodeName → D × D) (m : Machine) (ids : List WriteId) (asked : Option ℕ) (place : ℕ) (rows : List Tuple) (new : WorldView D) : Type 0 where
    pub opened : Machine
    pub from : IsOpenedFrom state honest moment left_since store shards old m opened
    pub snapshot : IsSnapshot opened.log place rows
    pub place_is : MatchOption asked (opened.kept ≤ place) (λ p. place ≡ p)
    pub last : Machine
    pub goes_on : GoesOn opened last
    pub kept : place ≤ last.kept
    pub above : opened.horizon ≤ place
    pub later : Store D
    pub shows : Shows new later
    pub rests : RestsOver state honest store shards later.devices last
    pub told_stays : All (IsToldOver state honest store shards later.devices last) ids

  -- A store was opened over these devices, whose nodes are of one moment, its tuples at a place were gathered, and this is their text: that of a snapshot,
  -- whatever machine the devices rested at.
  pub record IsTextOver (devices : List D) (asked : Option ℕ) (text : List ℕ) : Type 0 where
    pub opened : WorldView D
    pub is_opened : IsOpenedOver state honest moment left_since store shards devices opened
    pub of_one_moment : AreOfOneMoment state honest opened.nodes opened.shards
    pub place : ℕ
    pub rows : List Tuple
    pub new : WorldView D
    pub dumps : Dumps (Takes state honest moment left_since) IsNext (ShowsRows state honest) shards asked opened place rows new
    pub text_is : text ≡ dump_text store place rows
    pub snapshot : (any : D) (m : Machine) (ids : List WriteId) → RestsOver state honest store shards (devices_at any devices) m
        → All (IsToldOver state honest store shards (devices_at any devices) m) ids → IsSnapshotOver (devices_at any devices) m ids asked place rows new

  -- The text was written.
  abbrev pub IsDumped : List D → Option ℕ → Option (List ℕ) → Option (List ℕ) → Type 0
  IsDumped devices asked before after = (text : List ℕ) × IsTextOver devices asked text × Appends before after text

  -- What is written if it was not: nothing, or a beginning of the text if the writer failed.
  abbrev pub Leaves : List D → Option ℕ → Option (List ℕ) → Option (List ℕ) → Fault → Type 0
  Leaves devices asked before after (Refused e) = after ≡ before
  Leaves devices asked before after Unwritten = (text : List ℕ) × IsTextOver devices asked text × HasBegun before after text

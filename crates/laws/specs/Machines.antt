-- The machine that a store stands for: one list of whole writes and two numbers.
use Rattle.std.specs.Prelude.{◌≡◌, ◌≤◌, ℕ, max, List, [], ◌∷◌, ◌++◌, length, take}
use Rattle.tuples.specs.declared.entry.Entry.{Entry}
use Rattle.tuples.specs.declared.tuple.Tuple.{Tuple}
use Rattle.tuples.specs.Log.{is_at}
use Rattle.tuples.specs.Watching.{events}
use Rattle.laws.specs.Worlds.{IsLog}

-- the log, the place up to which every stop leaves it, and the place below which nothing is read
pub record Machine : Type 0 where
  pub log : List Entry
  pub kept : ℕ
  pub horizon : ℕ

-- what the machine may do: list a write, keep the log up to a place, cut it to its first writes, raise the horizon to a place
pub data Move : Type 0 where
  append : Entry → Move
  keep : ℕ → Move
  cut : ℕ → Move
  raise : ℕ → Move

-- What one move makes of the machine. A write is listed after the others, under a new id and if its conditions hold. No move cuts what is
-- kept, or lowers the kept place or the horizon.
abbrev pub Makes : Machine → Move → Machine → Type 0
Makes m (append w) n = IsLog (m.log ++ w ∷ []) × (n ≡ record m { log = m.log ++ w ∷ [] })
Makes m (keep i) n = (i ≤ length m.log) × (n ≡ record m { kept = max m.kept i })
Makes m (cut i) n = (m.kept ≤ i) × (n ≡ record m { log = take i m.log })
Makes m (raise x) n = (m.horizon ≤ x) × (x ≤ m.kept) × (n ≡ record m { horizon = x })

-- what moves make of it, one after another
abbrev pub Moves : Machine → List Move → Machine → Type 0
Moves m [] n = n ≡ m
Moves m (move ∷ moves) n = (mid : Machine) × Makes m move mid × Moves mid moves n

-- whatever moves the machine makes, what was kept stays kept, write by write
abbrev pub KeptWritesStay : Type 0
KeptWritesStay = (m n : Machine) (moves : List Move) → m.kept ≤ length m.log → Moves m moves n
    → (m.kept ≤ n.kept) × (n.kept ≤ length n.log) × (m.horizon ≤ n.horizon) × (take m.kept n.log ≡ take m.kept m.log)

-- a place that was kept shows the same tuples for good
abbrev pub SnapshotsStay : Type 0
SnapshotsStay = (m n : Machine) (moves : List Move) (s : ℕ) (t : Tuple) → m.kept ≤ length m.log → s ≤ m.kept → Moves m moves n → is_at n.log s t ≡ is_at m.log s t

-- and a watch up to it lists the same changes for good
abbrev pub EventsStay : Type 0
EventsStay = (m n : Machine) (moves : List Move) (c e : ℕ) (names : List (List ℕ)) → m.kept ≤ length m.log → c ≤ e → e ≤ m.kept → Moves m moves n
    → events n.log c e names ≡ events m.log c e names

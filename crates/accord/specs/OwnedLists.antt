-- The list of writes as its coordinator has it, beside what each caller began: what is so of both at every moment, and the steps.
use Rattle.std.specs.Prelude.{◌≡◌, ◌⊎◌, ◌≤◌, ◌<◌, ◌+◌, ℕ, false, List, [], ◌∷◌, ◌++◌, length, take, Option, Some, None, Contains, slice_get}
use Rattle.tuples.specs.declared.entry.Entry.{Entry}
use Rattle.tuples.specs.declared.entry.WriteId.{WriteId}
use Rattle.tuples.specs.Log.{AreNew}
use Rattle.records.specs.Replays.{without}
use Rattle.accord.specs.declared.fact.DecidedWrite.{DecidedWrite}
use Rattle.accord.specs.declared.goods.Begun.{Begun}
use Rattle.accord.specs.declared.parts.ListPart.{ListPart}
use Rattle.accord.specs.Owning.{Owned, OwnersAgree, decided_of}

abbrev pub Goods : Type 0
Goods = ℕ → Option (List Begun)

-- one caller has begun these, and all others what they had
pub record IsPut (old new : Goods) (k : ℕ) (begun : List Begun) : Type 0 where
  pub here : new k ≡ Some begun
  pub others : (l : ℕ) → (l ≡ k → ⊥) → new l ≡ old l

-- the id was given: in an earlier epoch, or in this one as the last or before
abbrev pub WasGiven : ListPart → WriteId → Type 0
WasGiven p id = (id.epoch < p.epoch) ⊎ ((id.epoch ≡ p.epoch) × (1 ≤ id.number) × (id.number ≤ p.given))

-- Each write that was not found was begun by one caller, and decided if it is listed. None is listed twice, and no id is given twice.
pub record IsOwned (p : ListPart) (goods : Goods) : Type 0 where
  pub owners : OwnersAgree p.found p.log p.open_writes goods
  pub distinct : AreNew p.log
  pub listed : (j : ℕ) (w : Entry) → slice_get p.log j ≡ Some w → WasGiven p w.id
  pub begun : (k i : ℕ) (b : Begun) → Owned goods k i b → WasGiven p b.write.id

-- before the store is opened
abbrev pub no_list : ListPart
no_list = record { found = 0; log = []; open_writes = []; epoch = 0; given = 0 }

abbrev pub NoListIsOwned : Type 0
NoListIsOwned = IsOwned no_list (λ k. None)

-- as the store is opened, in this epoch
abbrev pub found_list : List Entry → ℕ → ListPart
found_list log epoch = record { found = length log; log = log; open_writes = []; epoch = epoch; given = 0 }

-- writes with ids of their own, each of an earlier epoch
pub record AreFound (log : List Entry) (epoch : ℕ) : Type 0 where
  pub distinct : AreNew log
  pub earlier : (j : ℕ) (w : Entry) → slice_get log j ≡ Some w → w.id.epoch < epoch

abbrev pub FoundListsAreOwned : Type 0
FoundListsAreOwned = (log : List Entry) (epoch : ℕ) (goods : Goods) → IsOwned no_list goods → AreFound log epoch → IsOwned (found_list log epoch) goods

abbrev pub CallersBeginWithNothing : Type 0
CallersBeginWithNothing = (p : ListPart) (old new : Goods) (k : ℕ) → IsOwned p old → old k ≡ None → IsPut old new k [] → IsOwned p new

-- a write is begun
abbrev pub next_of : ListPart → WriteId
next_of p = record { epoch = p.epoch; number = p.given + 1 }

abbrev pub with_open : ListPart → Entry → ListPart
with_open p w = record p { open_writes = w ∷ p.open_writes; given = p.given + 1 }

abbrev pub undecided : Entry → Begun
undecided w = record { write = w; is_decided = false }

abbrev pub BeginningsKeepOwners : Type 0
BeginningsKeepOwners = (p : ListPart) (old new : Goods) (k : ℕ) (begun : List Begun) (w : Entry) → IsOwned p old → old k ≡ Some begun → w.id ≡ next_of p
    → IsPut old new k (begun ++ undecided w ∷ []) → IsOwned (with_open p w) new

-- an open write is decided, at the end of the list
abbrev pub with_listed : ListPart → Entry → ListPart
with_listed p w = record p { log = p.log ++ w ∷ []; open_writes = without w.id p.open_writes }

-- some open write has this id
abbrev pub IsOpen : ListPart → WriteId → Type 0
IsOpen p id = (w : Entry) × Contains p.open_writes w × (w.id ≡ id)

abbrev pub DecisionsKeepOwners : Type 0
DecisionsKeepOwners = (p : ListPart) (old new : Goods) (k : ℕ) (before : List Begun) (w : Entry) (after : List Begun) → IsOwned p old → old k ≡ Some (before ++ undecided w ∷ after)
    → IsOpen p w.id → IsPut old new k (before ++ decided_of (undecided w) ∷ after) → IsOwned (with_listed p w) new

-- an open write is aborted, if it is open
abbrev pub with_aborted : ListPart → WriteId → ListPart
with_aborted p id = record p { open_writes = without id p.open_writes }

abbrev pub AbortsKeepOwners : Type 0
AbortsKeepOwners = (p : ListPart) (goods : Goods) (id : WriteId) → IsOwned p goods → IsOwned (with_aborted p id) goods

-- the coordinator is opened again, in a later epoch, and has found so many writes of the list
abbrev pub restarted : ListPart → ℕ → ℕ → ListPart
restarted p count epoch = record p { log = take count p.log; open_writes = []; epoch = epoch; given = 0 }

abbrev pub RestartsKeepOwners : Type 0
RestartsKeepOwners = (p : ListPart) (goods : Goods) (count epoch : ℕ) → IsOwned p goods → p.epoch < epoch → IsOwned (restarted p count epoch) goods

-- A fact that stays right: the write stands at its place, or a later epoch has begun.
abbrev pub IsPlaced : ListPart → DecidedWrite → Type 0
IsPlaced p d = (d.epoch < p.epoch) ⊎ ((d.epoch ≡ p.epoch) × ((j : ℕ) × (d.place ≡ j + 1) × (slice_get p.log j ≡ Some d.write)))

-- the fact that a decision makes right
abbrev pub decided_write : ListPart → Entry → DecidedWrite
decided_write p w = record { epoch = p.epoch; place = length p.log + 1; write = w }

pub record DecidedWritesStay : Type 0 where
  pub new : (p : ListPart) (w : Entry) → IsPlaced (with_listed p w) (decided_write p w)
  pub at_decisions : (p : ListPart) (w : Entry) (d : DecidedWrite) → IsPlaced p d → IsPlaced (with_listed p w) d
  pub at_restarts : (p : ListPart) (count epoch : ℕ) (d : DecidedWrite) → p.epoch < epoch → IsPlaced p d → IsPlaced (restarted p count epoch) d
  pub at_openings : (log : List Entry) (epoch : ℕ) (d : DecidedWrite) → 0 < epoch → IsPlaced no_list d → IsPlaced (found_list log epoch) d

-- Which caller began which write, and whether it gave its intent up for a decision: so the list has asked writes alone, and none that was refused.
use Rattle.std.specs.Prelude.{◌≡◌, ◌⊎◌, ◌≤◌, ℕ, true, false, List, [], ◌∷◌, ◌++◌, Option, Some, Contains, slice_get}
use Rattle.tuples.specs.declared.entry.Entry.{Entry}
use Rattle.records.specs.Replays.{without}
use Rattle.laws.specs.LogLaws.{IsUnlisted}
use Rattle.accord.specs.declared.goods.Begun.{Begun}

-- caller k has it as number i of all that it began
pub record Owned (goods : ℕ → Option (List Begun)) (k i : ℕ) (b : Begun) : Type 0 where
  pub begun : List Begun
  pub has : goods k ≡ Some begun
  pub there : slice_get begun i ≡ Some b

-- no id was begun twice; an open write is one that was begun, and not decided; a listed one was begun, after the first ones, and decided
pub record OwnersAgree (first : ℕ) (log open_writes : List Entry) (goods : ℕ → Option (List Begun)) : Type 0 where
  pub once : (k l i j : ℕ) (b d : Begun) → Owned goods k i b → Owned goods l j d → b.write.id ≡ d.write.id → (k ≡ l) × (i ≡ j)
  pub opened : (k i : ℕ) (b : Begun) (w : Entry) → Owned goods k i b → Contains open_writes w → w.id ≡ b.write.id → (w ≡ b.write) × (b.is_decided ≡ false)
  pub listed : (k i : ℕ) (b : Begun) (j : ℕ) (w : Entry) → Owned goods k i b → slice_get log j ≡ Some w → w.id ≡ b.write.id → (w ≡ b.write) × (b.is_decided ≡ true)
  pub all_listed : (j : ℕ) (w : Entry) → slice_get log j ≡ Some w → first ≤ j → (k : ℕ) × (i : ℕ) × (b : Begun) × Owned goods k i b × (b.write ≡ w)
  pub all_open : (w : Entry) → Contains open_writes w → (k : ℕ) × (i : ℕ) × (b : Begun) × Owned goods k i b × (b.write ≡ w)

-- a write that its caller did not decide is not listed
abbrev pub UndecidedIsUnlisted : Type 0
UndecidedIsUnlisted = (first : ℕ) (log open_writes : List Entry) (goods : ℕ → Option (List Begun)) (k i : ℕ) (b : Begun) → OwnersAgree first log open_writes goods → Owned goods k i b
    → b.is_decided ≡ false → IsUnlisted b.write.id log

abbrev pub decided_of : Begun → Begun
decided_of b = record b { is_decided = true }

-- caller k gave up the intent of what it began as number i, and nothing else
pub record GivesUp (old new : ℕ → Option (List Begun)) (k i : ℕ) (b : Begun) : Type 0 where
  pub was : Owned old k i b
  pub here : Owned new k i (decided_of b)
  pub back : (l j : ℕ) (d : Begun) → Owned new l j d → ((l ≡ k) × (j ≡ i) × (d ≡ decided_of b)) ⊎ (((l ≡ k) → (j ≡ i) → ⊥) × Owned old l j d)
  pub stays : (l j : ℕ) (d : Begun) → ((l ≡ k) → (j ≡ i) → ⊥) → Owned old l j d → Owned new l j d

-- in the step in which the coordinator decides an open write its caller gives up the intent
abbrev pub OwnersDecide : Type 0
OwnersDecide = (first : ℕ) (log open_writes : List Entry) (old new : ℕ → Option (List Begun)) (k i : ℕ) (b : Begun) → OwnersAgree first log open_writes old → GivesUp old new k i b
    → OwnersAgree first (log ++ b.write ∷ []) (without b.write.id open_writes) new

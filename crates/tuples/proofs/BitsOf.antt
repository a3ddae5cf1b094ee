-- Sets of numbers as bits, and which shards take part.
use Rattle.std.proofs.Common.{◌≡◌, ℕ, suc, ◌*◌, ◌^◌, ◌%◌, ◌<◌, ◌≤◌, Bool, true, false, not, ◌||◌, eqb, cond, max, bit_and, bit_or, List, [], ◌∷◌, ◌++◌, length, map, filter, refl, sym, ap, ◌∙◌, arith, inl, inr, w64, ◌↔◌}
use Rattle.std.specs.Int.{bit_at, IsBitSet}
use Rattle.std.specs.List.{list_any}
use Rattle.std.proofs.Math.Nat.{one-le-pow}
use Rattle.std.proofs.Math.Bool.{or-true, or-false}
use Rattle.std.proofs.lemmas.List.Folds.{list_any-append}
use Rattle.std.proofs.lemmas.Nat.Bits.{bit_at_set_same, bit_at_set_other, bit_at_or, and_pow}
use Rattle.std.proofs.lemmas.Bool.{cases_eq, ne_eqb, eq-eqb}
use Rattle.tuples.specs.declared.change.Change.{Change}
use Rattle.tuples.specs.declared.change.Condition.{Condition}
use Rattle.tuples.specs.declared.entry.Entry.{Entry}
use Rattle.tuples.specs.Bits.{AreBitsOf}
use Rattle.tuples.specs.Changes.{tuple_of}
use Rattle.tuples.specs.Parts.{part, shard_of, takes_part}

-- one number more, one bit more
pub bits_of_more : (numbers : List ℕ) (bits n : ℕ) → n < 64 → AreBitsOf numbers bits → AreBitsOf (numbers ++ n ∷ []) (bit_or bits (1 * 2 ^ n % 2 ^ 64))
bits_of_more numbers bits n few h k = elim (cases_eq n k) [
  | inl same ↦
      let here : list_any (λ m. eqb m k) (n ∷ []) ≡ true = let e = eq-eqb n k same in rw e refl in
      let any : list_any (λ m. eqb m k) (numbers ++ n ∷ []) ≡ true = list_any-append (λ m. eqb m k) numbers (n ∷ []) ∙ rw here (or-true (list_any (λ m. eqb m k) numbers)) in
      let set : bit_at (bit_or bits (1 * 2 ^ n % 2 ^ 64)) n ≡ 1 = bit_at_set_same w64 bits n few in
      rw any (ap (λ (j : ℕ). bit_at (bit_or bits (1 * 2 ^ n % 2 ^ 64)) j) (sym same) ∙ set)
  | inr other ↦
      let here : list_any (λ m. eqb m k) (n ∷ []) ≡ false = let e = ne_eqb n k other in rw e refl in
      let any : list_any (λ m. eqb m k) (numbers ++ n ∷ []) ≡ list_any (λ m. eqb m k) numbers = list_any-append (λ m. eqb m k) numbers (n ∷ []) ∙ rw here (or-false (list_any (λ m. eqb m k) numbers)) in
      let kept : bit_at (bit_or bits (1 * 2 ^ n % 2 ^ 64)) k ≡ bit_at bits k = bit_at_set_other w64 bits n few k (λ e. other (sym e)) in
      rw any (kept ∙ h k)
]

-- the greater of two flags
max_flags : (a b : Bool) → max (cond a 1 0) (cond b 1 0) ≡ cond (a || b) 1 0
max_flags true true = refl
max_flags true false = refl
max_flags false true = refl
max_flags false false = refl

-- the bits of two lists
pub bits_of_both : (xs ys : List ℕ) (a b : ℕ) → AreBitsOf xs a → AreBitsOf ys b → AreBitsOf (xs ++ ys) (bit_or a b)
bits_of_both xs ys a b ha hb k =
    let p : ℕ → Bool = λ m. eqb m k in
    bit_at_or a b k ∙ ap (λ (m : ℕ). max m (bit_at b k)) (ha k) ∙ ap (max (cond (list_any p xs) 1 0)) (hb k)
    ∙ max_flags (list_any p xs) (list_any p ys) ∙ ap (λ (f : Bool). cond f 1 0) (sym (list_any-append p xs ys))

-- the next item counts if it passes
more : {X : Type 0} (f : X → ℕ) (k : ℕ) (x : X) (xs : List X) → list_any (λ n. eqb n k) (map f xs) ≡ not (eqb (length (filter (λ x. eqb (f x) k) xs)) 0)
    → (b : Bool) → eqb (f x) k ≡ b → list_any (λ n. eqb n k) (map f (x ∷ xs)) ≡ not (eqb (length (filter (λ x. eqb (f x) k) (x ∷ xs))) 0)
more f k x xs rest true e = rw e (sym (ap not (ne_eqb (suc (length (filter (λ x. eqb (f x) k) xs))) 0 (λ none. omega (arith, none)))))
more f k x xs rest false e = rw e rest

-- some number of the list is this one if a filter by it leaves an item
some_left : {X : Type 0} (f : X → ℕ) (k : ℕ) (xs : List X) → list_any (λ n. eqb n k) (map f xs) ≡ not (eqb (length (filter (λ x. eqb (f x) k) xs)) 0)
some_left f k [] = refl
some_left f k (x ∷ xs) = more f k x xs (some_left f k xs) (eqb (f x) k) refl

-- a shard takes part if its bit is set
pub takes_part_by_bit : (shards s : ℕ) (w : Entry) (bits : ℕ)
    → AreBitsOf (map (λ (c : Change). shard_of shards (tuple_of c).object) w.changes ++ map (λ (c : Condition). shard_of shards c.tuple.object) w.conditions) bits
    → bit_at bits s ≡ cond (takes_part shards s w) 1 0
unfolding takes_part part
takes_part_by_bit shards s w bits h =
    let p : ℕ → Bool = λ n. eqb n s in
    let change : Change → ℕ = λ c. shard_of shards (tuple_of c).object in
    let condition : Condition → ℕ = λ c. shard_of shards c.tuple.object in
    h s ∙ ap (λ (f : Bool). cond f 1 0) (list_any-append p (map change w.changes) (map condition w.conditions)
    ∙ ap (λ (f : Bool). f || list_any p (map condition w.conditions)) (some_left change s w.changes)
    ∙ ap (λ (f : Bool). not (eqb (length (filter (λ (c : Change). eqb (change c) s) w.changes)) 0) || f) (some_left condition s w.conditions))

-- a flag is set if the bit is
pub set_by_bit : (bits k : ℕ) (flag : Bool) → bit_at bits k ≡ cond flag 1 0 → IsBitSet bits k ↔ (flag ≡ true)
set_by_bit bits k true h = (λ set. refl, λ yes. by_one)
  where
    worth : bit_and bits (2 ^ k) ≡ 2 ^ k
    worth = and_pow bits k ∙ rw h (omega arith)

    by_one : IsBitSet bits k
    by_one none = let some : 1 ≤ 2 ^ k = one-le-pow k 2 (omega arith) in omega (arith, some, worth, none)
set_by_bit bits k false h = (λ set. absurd (set nothing), λ yes. absurd cc)
  where
    nothing : bit_and bits (2 ^ k) ≡ 0
    nothing = and_pow bits k ∙ rw h (omega arith)

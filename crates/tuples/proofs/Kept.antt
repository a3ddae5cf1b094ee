-- What a write has, each part of it has.
use Rattle.std.proofs.Common.{◌≡◌, ◌≤◌, ℕ, Bool, true, false, cond, List, [], ◌∷◌, ◌++◌, length, map, arith, All, filter, ◌==◌}
use Rattle.std.proofs.lemmas.List.Elements.{All-cons, All-head, All-tail, All-push}
use Rattle.std.proofs.lemmas.List.{map-append}
use Rattle.std.proofs.lemmas.List.Sums.{length-filter, count_by-le-length}
use Rattle.std.proofs.lemmas.Bool.Decides.{nat_tests}
use Rattle.tuples.specs.declared.tuple.Tuple.{Tuple}
use Rattle.tuples.specs.declared.change.Change.{Change}
use Rattle.tuples.specs.declared.change.Condition.{Condition}
use Rattle.tuples.specs.declared.entry.Entry.{Entry}
use Rattle.tuples.specs.Order.{tuple_eq}
use Rattle.tuples.specs.Texts.{IsTuple}
use Rattle.tuples.specs.Changes.{AreDistinct, IsPart, has_tuple, tuple_of}
use Rattle.tuples.specs.Parts.{shard_of, part}

-- of values that name tuples, those that are kept name tuples of the grammar
pub valid_filtered : {X : Type 0} (named : X → Tuple) (p : X → Bool) (xs : List X) → All IsTuple (map named xs) → All IsTuple (map named (filter p xs))
valid_filtered named p [] h = h
valid_filtered named p (x ∷ xs) h =
    let head = All-head IsTuple (named x) (map named xs) h in
    let tail = valid_filtered named p xs (All-tail IsTuple (named x) (map named xs) h) in
    elim (p x) as (λ b. All IsTuple (map named (cond b (x ∷ filter p xs) (filter p xs)))) [ true ↦ All-cons IsTuple (named x) (map named (filter p xs)) head tail | false ↦ tail ]

pub valid_pushed : {X : Type 0} (named : X → Tuple) (xs : List X) (x : X) → All IsTuple (map named xs) → IsTuple (named x) → All IsTuple (map named (xs ++ x ∷ []))
valid_pushed named xs x h v = rw (map-append named xs (x ∷ [])) (All-push IsTuple (map named xs) (named x) h v)

-- what is not there is not kept
pub absent_filtered : {X : Type 0} (named : X → Tuple) (p : X → Bool) (t : Tuple) (xs : List X) → has_tuple t (map named xs) ≡ false → has_tuple t (map named (filter p xs)) ≡ false
absent_filtered named p t [] h = h
absent_filtered named p t (x ∷ xs) h =
    let here : tuple_eq t (named x) ≡ false = grind (arith, nat_tests) in
    let more : has_tuple t (map named xs) ≡ false = grind (arith, nat_tests) in
    let tail = absent_filtered named p t xs more in
    elim (p x) as (λ b. has_tuple t (map named (cond b (x ∷ filter p xs) (filter p xs))) ≡ false) [ true ↦ grind (arith, nat_tests) | false ↦ tail ]

-- of values that name each tuple once, those that are kept do too
pub distinct_filtered : {X : Type 0} (named : X → Tuple) (p : X → Bool) (xs : List X) → AreDistinct (map named xs) → AreDistinct (map named (filter p xs))
distinct_filtered named p [] h = h
distinct_filtered named p (x ∷ xs) h =
    let tail = distinct_filtered named p xs h.1 in
    let apart = absent_filtered named p (named x) xs h.0 in
    elim (p x) as (λ b. AreDistinct (map named (cond b (x ∷ filter p xs) (filter p xs)))) [ true ↦ (apart, tail) | false ↦ tail ]

pub fewer_filtered : {X : Type 0} (p : X → Bool) (xs : List X) (most : ℕ) → length xs ≤ most → length (filter p xs) ≤ most
fewer_filtered p xs most h = omega (arith, length-filter p xs, count_by-le-length p xs)

abbrev pub of_condition : Condition → Tuple
of_condition c = c.tuple

pub part_filtered : (p : Change → Bool) (q : Condition → Bool) (changes : List Change) (conditions : List Condition) → IsPart changes conditions → IsPart (filter p changes) (filter q conditions)
part_filtered p q changes conditions h = record {
  few_changes = fewer_filtered p changes 64 h.few_changes;
  few_conditions = fewer_filtered q conditions 16 h.few_conditions;
  distinct_changes = distinct_filtered tuple_of p changes h.distinct_changes;
  distinct_conditions = distinct_filtered of_condition q conditions h.distinct_conditions;
  changes_spelled = valid_filtered tuple_of p changes h.changes_spelled;
  conditions_spelled = valid_filtered of_condition q conditions h.conditions_spelled;
}

-- a shard's part of a write is a part
pub part_is_part : (shards s : ℕ) (w : Entry) → IsPart w.changes w.conditions → IsPart (part shards s w).changes (part shards s w).conditions
unfolding part
part_is_part shards s w h = part_filtered (λ (c : Change). shard_of shards (tuple_of c).object == s) (λ (c : Condition). shard_of shards c.tuple.object == s) w.changes w.conditions h

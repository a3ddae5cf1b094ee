-- A log of three writes, computed: what is there at each place, its versions, what a watch lists, the parts, and which logs are legal.
use Rattle.std.proofs.Common.{◌≡◌, ℕ, zero, suc, true, false, true≢false, List, [], ◌∷◌, ◌++◌, None, refl, sym, subst, All}
use Rattle.std.proofs.lemmas.List.Elements.{All-nil, All-cons, All-head}
use Rattle.std.proofs.lemmas.Option.{same_Some}
use Rattle.tuples.specs.declared.change.Change.{Change}
use Rattle.tuples.specs.declared.change.Change.TheVariants.{Touch, Delete}
use Rattle.tuples.specs.declared.change.Condition.{Condition}
use Rattle.tuples.specs.declared.change.Want.{Want}
use Rattle.tuples.specs.declared.change.Want.TheVariants.{NotAfter, Exists, Absent}
use Rattle.tuples.specs.declared.entry.Entry.{Entry}
use Rattle.tuples.specs.declared.object.Object.{Object}
use Rattle.tuples.specs.declared.tuple.Tuple.{Tuple}
use Rattle.tuples.specs.declared.user.User.TheVariants.{Id}
use Rattle.tuples.specs.Log.{Holds, HoldAfter, IsLegal, is_at, last_place}
use Rattle.tuples.specs.Order.{tuple_eq}
use Rattle.tuples.specs.Parts.{expected, part, shard_of, takes_part}
use Rattle.tuples.specs.Versions.{collected, placed, versions}
use Rattle.tuples.specs.Watching.{events}

-- doc:a#viewer@u and doc:b#viewer@u, where 65 stands for a and 66 for b
abbrev pub doc : List ℕ
doc = 100 ∷ 111 ∷ 99 ∷ []

abbrev pub object : ℕ → Object
object id = record { namespace = doc; id = id ∷ [] }

abbrev pub viewed : ℕ → Tuple
viewed id = record { object = object id; relation = 118 ∷ []; user = Id (117 ∷ []) }

abbrev pub numbered : ℕ → List Change → List Condition → Entry
numbered n changes conditions = record { id = record { epoch = 1; number = n }; changes = changes; conditions = conditions }

-- it comes, it goes, it comes again with another
abbrev pub three : List Entry
three = numbered 1 (Touch (viewed 97) ∷ []) [] ∷ numbered 2 (Delete (viewed 97) ∷ []) [] ∷ numbered 3 (Touch (viewed 97) ∷ Touch (viewed 98) ∷ []) [] ∷ []

nothing_at_the_start : is_at three 0 (viewed 97) ≡ false
unfolding is_at tuple_eq
nothing_at_the_start = refl

there_after_the_first : is_at three 1 (viewed 97) ≡ true
unfolding is_at tuple_eq
there_after_the_first = refl

gone_after_the_second : is_at three 2 (viewed 97) ≡ false
unfolding is_at tuple_eq
gone_after_the_second = refl

there_again_after_the_third : is_at three 3 (viewed 97) ≡ true
unfolding is_at tuple_eq
there_again_after_the_third = refl

another_only_after_the_third : is_at three 2 (viewed 98) ≡ false
unfolding is_at tuple_eq
another_only_after_the_third = refl

last_changed_by_the_third : last_place three (viewed 97) ≡ 3
unfolding last_place tuple_eq
last_changed_by_the_third = refl

never_changed : last_place three (viewed 99) ≡ 0
unfolding last_place tuple_eq
never_changed = refl

-- under horizon 2 the delete is collected with what it deleted
only_the_third_is_kept : versions three 3 2 ≡ placed 3 (Touch (viewed 97) ∷ Touch (viewed 98) ∷ [])
unfolding versions collected tuple_eq
only_the_third_is_kept = refl

-- under horizon 1 the first is kept: it is the newest at or below it, and a touch
nothing_is_collected : versions three 3 1 ≡ placed 1 (Touch (viewed 97) ∷ []) ++ placed 2 (Delete (viewed 97) ∷ []) ++ placed 3 (Touch (viewed 97) ∷ Touch (viewed 98) ∷ [])
unfolding versions collected tuple_eq
nothing_is_collected = refl

two_places_are_listed : events three 0 2 (doc ∷ []) ≡ placed 1 (Touch (viewed 97) ∷ []) ++ placed 2 (Delete (viewed 97) ∷ [])
unfolding events
two_places_are_listed = refl

the_rest_is_listed : events three 2 3 (doc ∷ []) ≡ placed 3 (Touch (viewed 97) ∷ Touch (viewed 98) ∷ [])
unfolding events
the_rest_is_listed = refl

listed_at_once : events three 0 3 (doc ∷ []) ≡ events three 0 2 (doc ∷ []) ++ events three 2 3 (doc ∷ [])
unfolding events
listed_at_once = refl

none_of_another_namespace : events three 0 3 ((103 ∷ []) ∷ []) ≡ []
unfolding events
none_of_another_namespace = refl

-- the bytes of doc:a sum to 465, those of doc:b to 466
shards_of_two : shard_of 2 (object 97) ≡ 1
unfolding shard_of
shards_of_two = refl

shards_of_three : shard_of 3 (object 97) ≡ 0
unfolding shard_of
shards_of_three = refl

one_part_at_each_shard : (part 2 1 (numbered 3 (Touch (viewed 97) ∷ Touch (viewed 98) ∷ []) []) ≡ numbered 3 (Touch (viewed 97) ∷ []) [])
    × (part 2 0 (numbered 3 (Touch (viewed 97) ∷ Touch (viewed 98) ∷ []) []) ≡ numbered 3 (Touch (viewed 98) ∷ []) [])
unfolding part shard_of
one_part_at_each_shard = (refl, refl)

no_part_at_the_other_shard : expected 2 0 (numbered 1 (Touch (viewed 97) ∷ []) []) ≡ None
unfolding expected takes_part part shard_of
no_part_at_the_other_shard = refl

a_condition_takes_part_too : takes_part 2 1 (numbered 1 (Touch (viewed 98) ∷ []) (record { tuple = viewed 97; want = Absent } ∷ [])) ≡ true
unfolding takes_part part shard_of
a_condition_takes_part_too = refl

-- a write with one condition on doc:a
abbrev pub asks : Want → Entry
asks want = numbered 2 (Touch (viewed 98) ∷ []) (record { tuple = viewed 97; want = want } ∷ [])

abbrev pub first_then : Entry → List Entry
first_then w = numbered 1 (Touch (viewed 97) ∷ []) [] ∷ w ∷ []

-- what a log with one condition after its first write would have to hold
at_the_second : (want : Want) → IsLegal (first_then (asks want)) → Holds (numbered 1 (Touch (viewed 97) ∷ []) [] ∷ []) (record { tuple = viewed 97; want = want })
unfolding IsLegal HoldAfter
at_the_second want legal = All-head (Holds (numbered 1 (Touch (viewed 97) ∷ []) [] ∷ [])) (record { tuple = viewed 97; want = want }) [] (legal 1 (asks want) refl)

changed_since_the_start : IsLegal (first_then (asks (NotAfter 0))) → ⊥
unfolding is_at last_place tuple_eq
changed_since_the_start legal = true≢false (sym (at_the_second (NotAfter 0) legal))

not_absent : IsLegal (first_then (asks Absent)) → ⊥
unfolding is_at last_place tuple_eq
not_absent legal = true≢false (sym (at_the_second Absent legal))

not_there : IsLegal (asks Exists ∷ []) → ⊥
unfolding IsLegal HoldAfter is_at last_place tuple_eq
not_there legal = true≢false (sym (All-head (Holds []) (record { tuple = viewed 97; want = Exists }) [] (legal 0 (asks Exists) refl)))

-- not changed after its own place, so the log is legal
unchanged_since : IsLegal (first_then (asks (NotAfter 1)))
unfolding IsLegal HoldAfter is_at last_place tuple_eq
unchanged_since zero w is = subst (λ (v : Entry). All (Holds []) v.conditions) (same_Some _ _ is) (All-nil (Holds []))
unchanged_since (suc zero) w is = subst (λ (v : Entry). All (Holds (numbered 1 (Touch (viewed 97) ∷ []) [] ∷ [])) v.conditions) (same_Some _ _ is)
    (All-cons (Holds (numbered 1 (Touch (viewed 97) ∷ []) [] ∷ [])) (record { tuple = viewed 97; want = NotAfter 1 }) [] refl (All-nil _))
unchanged_since (suc (suc zero)) w is = absurd (cc)
unchanged_since (suc (suc (suc i))) w is = absurd (cc)

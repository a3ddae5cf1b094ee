-- What no run of the store is: mistakes that the definitions refuse, one by one.
use Rattle.std.proofs.Common.{◌≡◌, ⊎_elim, zero, suc, true, false, true≢false, List, [], ◌∷◌, ◌++◌, Some, None, All, Contains, refl, sym, ◌∙◌, ap, arith, subst}
use Rattle.std.proofs.lemmas.Option.{none-some}
use Rattle.std.proofs.lemmas.List.Elements.{All-head}
use Rattle.turns.proofs.Words.{DecidedValue, Decides, Down, HasItsCause, IsAsWanted, IsBusy, IsDown, IsQuiet, IsReadAnswer, IsWriteAnswer, Key, Machine, MayRise, Moment, Move, NodeName, NodeState, Nodes, Record, Running, ShardState, Touch, Tupleset, Unsure, begun, cut, down, exact, latest, raise, refused, to_read, to_write, up, viewed}
use Rattle.refusal.specs.declared.refusal.Refusal.TheVariants.{Busy}
use Rattle.tuples.specs.Log.{is_at}
use Rattle.tuples.specs.Order.{tuple_eq}
use Rattle.records.specs.Replays.{shard_state}
use Rattle.turns.specs.Runs.{IsRefused}
use Rattle.turns.proofs.SmallRuns.{after_one_turn, moment_of, two_kept}

not_true : false ≡ true → ⊥
not_true is = true≢false (sym is)

-- a turn cuts nothing
cut_by_a_turn : All (IsQuiet (MayRise 2 (λ x. ⊥) (moment_of two_kept []))) (cut 2 ∷ []) → ⊥
cut_by_a_turn quiet = All-head (IsQuiet (MayRise 2 (λ x. ⊥) (moment_of two_kept []))) (cut 2) [] quiet

-- the horizon rises to no place that nobody named
raised_unasked : All (IsQuiet (MayRise 2 (λ x. ⊥) (moment_of two_kept []))) (raise 2 ∷ []) → ⊥
raised_unasked quiet = ⊎_elim (λ named. let has = named in omega (arith, has.1)) (λ never. never)
    (All-head (IsQuiet (MayRise 2 (λ x. ⊥) (moment_of two_kept []))) (raise 2) [] quiet)

-- a read is never busy
busy_read : (n : NodeName) (sets : List Tupleset) (after : Moment) → HasItsCause 2 n (moment_of two_kept []) after (begun 0 (to_read latest sets)) Busy → ⊥
busy_read n sets after cause = ⊎_elim (λ never. never) (λ opening. down_is_not opening.1) cause
  where
    down_is_not : down ≡ refused Busy → ⊥
    down_is_not is = cc

-- all shards are up, and have nothing in doubt
abbrev all_up : Nodes
all_up = record { at = λ n. up [] []; open_writes = []; given = 0 }

abbrev free_moment : Moment
free_moment = record { machine = two_kept; nodes = all_up; running = []; told = []; named = [] }

staged_part : NodeState → List Record
staged_part (up durable staged) = durable ++ staged
staged_part down = []
staged_part (refused e) = []

-- nor is a write if nothing is in doubt
busy_for_nothing : (n : NodeName) → IsBusy 2 n free_moment None (to_write (Touch (viewed 97) ∷ []) []) → ⊥
unfolding shard_state staged_part
busy_for_nothing n (t, has, called, held) =
    let nothing : held.memory ≡ shard_state [] = held.knows.replayed ∙ ap shard_state (sym (ap staged_part held.knows.is_up)) in
    let none = subst (λ (m : ShardState). Contains m.in_doubt held.other) nothing held.in_doubt in
    omega (arith, none.1)

-- if all nodes are up none is refused as down
down_while_up : (n : NodeName) → IsDown all_up n → ⊥
down_while_up n state = ⊎_elim (λ is. up_is_not_down is) (λ is. up_is_not_refused is) state
  where
    up_is_not_down : up [] [] ≡ down → ⊥
    up_is_not_down is = cc

    up_is_not_refused : up [] [] ≡ refused Down → ⊥
    up_is_not_refused is = cc

-- a place that is not kept is not answered
told_too_early : (r : Running) → IsWriteAnswer r two_kept (Touch (viewed 97) ∷ []) [] 3 → ⊥
told_too_early r answer = omega (arith, answer.kept)

-- the latest place is not one from before the flow's turns
from_a_copy : IsAsWanted latest (after_one_turn (to_read latest [])) 1 → ⊥
from_a_copy (m, (zero, lt, is), kept) = let two : 2 ≡ 1 = ap (λ (x : Machine). x.kept) is ∙ kept in omega (arith, two)
from_a_copy (m, (suc k, lt, is), kept) = omega (arith, lt)

-- a read at place 1 does not miss what is there, though place 2 deletes it
read_from_the_newest_row : (r : Running) → IsReadAnswer (exact 1) (Key (viewed 97) ∷ []) r two_kept 1 ([] ∷ []) → ⊥
unfolding is_at tuple_eq
read_from_the_newest_row r answer = let has = ((answer.each 0 (Key (viewed 97)) [] refl refl).exact (viewed 97)).1 (refl, refl) in omega (arith, has.1)

-- a write that was decided is not refused but as unsure, and one that was not is not unsure
refused_and_decided : (r : Running) (d : DecidedValue) → r.decided ≡ Some d → IsRefused 2 (λ x. ⊥) r Busy → ⊥
refused_and_decided r d decided answer = none-some _ (sym (answer.undecided_write busy_is_not) ∙ decided)
  where
    busy_is_not : Busy ≡ Unsure → ⊥
    busy_is_not is = cc

unsure_and_undecided : (r : Running) → r.decided ≡ None → IsRefused 2 (λ x. ⊥) r Unsure → ⊥
unsure_and_undecided r none answer = answer.decided none refl

-- a write is decided once, and not after someone was told that it is aborted
decided_twice : (before after : Moment) (r later : Running) (moves : List Move) (d : DecidedValue) → r.decided ≡ Some d → Decides 2 (λ x. ⊥) before r moves after later → ⊥
decided_twice before after r later moves d decided again = none-some _ (sym again.first ∙ decided)

decided_after_the_abort : (before after : Moment) (r later : Running) (moves : List Move) → (listing : Decides 2 (λ x. ⊥) before r moves after later) → Contains before.told listing.write.id → ⊥
decided_after_the_abort before after r later moves listing told = listing.not_told told

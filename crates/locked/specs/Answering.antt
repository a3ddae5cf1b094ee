-- How an answer ends over a shared store, and at which place.
use Rattle.std.specs.Prelude.{◌≡◌, ◌⊎◌, ◌≤◌, ◌<◌, ℕ, Bool, List, length}
use Rattle.refusal.specs.declared.refusal.Refusal.{Refusal}
use Rattle.refusal.specs.declared.refusal.Refusal.TheVariants.{Collected, Full, Future, NoMemory}
use Rattle.tuples.specs.declared.entry.Entry.{Entry}
use Rattle.tuples.specs.declared.object.Userset.{Userset}
use Rattle.tuples.specs.declared.tuple.Tuple.{Tuple}
use Rattle.tuples.specs.declared.tupleset.Tupleset.{Tupleset}
use Rattle.tuples.specs.declared.user.User.{User}
use Rattle.tuples.specs.Watching.{Placed}
use Rattle.decisions.specs.Flows.{Freshness, at_least, exact, latest}
use Rattle.answer_flow.specs.CheckViews.{CheckEnding, CheckFlowValue, checked, refused as check_refused, seen_of}
use Rattle.answer_flow.specs.ReadViews.{IsAsked, ReadEnding, ReadFlowValue, refused as read_refused, seen_after, selected}
use Rattle.answer_flow.specs.declared.read_phase.ReadDone.{ReadDone}
use Rattle.answer_flow.specs.WatchViews.{WatchEnding, listed, refused as watch_refused}
use Rattle.calls.specs.Refusing.{HasTold}
use Rattle.calls.specs.declared.progress.Progress.{Progress}
use Rattle.flow_ties.specs.Checks.{IsCheckOf, IsMembershipAt, IsTooFar}
use Rattle.flow_ties.specs.Reads.{AreRowsAt, IsReadOf, ReadHasReason}
use Rattle.flow_ties.specs.Refusing.{HasReason}
use Rattle.flow_ties.specs.Telling.{IsAsAsked}
use Rattle.flow_ties.specs.Watches.{AreEventsTo}

-- The place is one that was asked for. If any later one would do too, it is no less than what had been seen.
abbrev pub IsFresh : Freshness → ℕ → ℕ → Type 0
IsFresh latest before place = before ≤ place
IsFresh (at_least z) before place = (z ≤ place) × (before ≤ place)
IsFresh (exact z) before place = place ≡ z

-- what is asked for lies above a place
abbrev pub IsBeyond : Freshness → ℕ → Type 0
IsBeyond latest place = ⊥
IsBeyond (at_least z) place = place < z
IsBeyond (exact z) place = place < z

-- a place that is as the one was asked for is as fresh as the other
abbrev pub Narrows : Freshness → Freshness → ℕ → Type 0
Narrows narrow asked before = (place : ℕ) → IsAsAsked narrow place → IsFresh asked before place

-- one that lies beyond so much of the list, and what is longer, is asked for by the other too
abbrev pub LiesBeyond : Freshness → Freshness → ℕ → Type 0
LiesBeyond narrow asked so_far = (n : ℕ) → so_far ≤ n → IsBeyond narrow n → IsBeyond asked n

-- why the place that was asked for is not there: it lies above all that there is, or one that would have been as fresh as asked lies below the horizon
abbrev pub IsNotThere : Freshness → ℕ → List Entry → ℕ → Refusal → Type 0
IsNotThere asked before seen low e = ((e ≡ Future) × IsBeyond asked (length seen)) ⊎ ((e ≡ Collected) × ((place : ℕ) × IsFresh asked before place × (place < low)))

-- just one place will do
abbrev pub IsJustOne : Freshness → Type 0
IsJustOne latest = ⊥
IsJustOne (at_least z) = ⊥
IsJustOne (exact z) = Unit {0}

-- if just one place will do, it does not lie below a horizon
abbrev pub IsAhead : Freshness → ℕ → Type 0
IsAhead latest low = Unit {0}
IsAhead (at_least z) low = Unit {0}
IsAhead (exact z) low = low ≤ z

-- just one place will do, and it lies below a horizon
abbrev pub IsPassed : Freshness → ℕ → Type 0
IsPassed latest low = ⊥
IsPassed (at_least z) low = ⊥
IsPassed (exact z) low = z < low

-- so much of the list had been seen before it, and what it holds is so if the store rested when it was opened
module _ (rests : Type 0) (shards : ℕ) (seen : List Entry) (asked : Freshness) (before : ℕ) where
  -- A read of these tuplesets that begins, of the list, at a place as fresh as asked. If it ends at once it has a reason.
  pub record ReadRuns (low : ℕ) (sets : List Tupleset) (begun : Progress ReadFlowValue ReadDone) : Type 0 where
    pub fresh : Freshness
    pub of : IsAsked shards fresh sets begun
    pub narrows : Narrows fresh asked before
    pub beyond : LiesBeyond fresh asked (length seen)
    pub held : rests → IsReadOf shards seen fresh sets (seen_after begun)
    pub reason : (marks : List Bool) → ReadHasReason marks fresh seen low (seen_after begun)

  -- a check of this userset that begins, about this user
  pub record CheckRuns (x : Userset) (u : User) (flow : CheckFlowValue) : Type 0 where
    pub of : flow.shards ≡ shards
    pub user : flow.user ≡ u
    pub narrows : Narrows flow.fresh asked before
    pub beyond : LiesBeyond flow.fresh asked (length seen)
    pub held : rests → IsCheckOf seen flow.fresh x u (seen_of flow)

-- Rows of each tupleset, if it ends with any, are those that it selects of the list at the place that is told, which is as fresh as asked.
abbrev pub ReadEnds : List Entry → Freshness → ℕ → List Tupleset → ReadEnding → Type 0
ReadEnds seen asked before sets end = (place : ℕ) (done : List (List Tuple)) → end ≡ selected place done → IsFresh asked before place × AreRowsAt seen asked sets place done

-- whether the user is a member, if it ends with that, is so over the tuples of the list at the place that is told, which is as fresh as asked
abbrev pub CheckEnds : List Entry → Freshness → ℕ → Userset → User → CheckEnding → Type 0
CheckEnds seen asked before x u end = (place : ℕ) (answer : Bool) → end ≡ checked place answer → IsFresh asked before place × IsMembershipAt seen asked x u place answer

-- the changes, if it lists any, are all that there are after its cursor up to the place that is told
abbrev pub WatchEnds : ℕ → ℕ → List (List ℕ) → ℕ → List Entry → WatchEnding → Type 0
WatchEnds cursor limit names before seen end = (place : ℕ) (changes : List Placed) → end ≡ listed place changes → AreEventsTo cursor limit names before seen place changes

-- The place that is told, if there is one, does not lie below a horizon.
module _ (low : ℕ) where
  abbrev pub ReadIsKept : ReadEnding → Type 0
  ReadIsKept end = (place : ℕ) (done : List (List Tuple)) → end ≡ selected place done → low ≤ place

  abbrev pub CheckIsKept : CheckEnding → Type 0
  CheckIsKept end = (place : ℕ) (answer : Bool) → end ≡ checked place answer → low ≤ place

  abbrev pub WatchIsKept : WatchEnding → Type 0
  WatchIsKept end = (place : ℕ) (changes : List Placed) → end ≡ listed place changes → low ≤ place

-- Given which refusals were told, and the list and the horizon that its caller has then seen
module _ (marks : List Bool) (seen : List Entry) (low : ℕ) where
  -- the refusal, if it ends with one, was told by a node; or memory was refused, or the place is not there
  abbrev pub ReadRefuses : Freshness → ℕ → ReadEnding → Type 0
  ReadRefuses asked before end = (e : Refusal) → end ≡ read_refused e → HasTold marks e ⊎ ((e ≡ NoMemory) ⊎ IsNotThere asked before seen low e)

  -- or more usersets can be reached, at a place of the list that is as fresh as asked, than a check may walk
  abbrev pub CheckRefuses : Freshness → ℕ → Userset → CheckEnding → Type 0
  CheckRefuses asked before x end = (e : Refusal) → end ≡ check_refused e → (HasTold marks e ⊎ ((e ≡ NoMemory) ⊎ IsNotThere asked before seen low e)) ⊎ ((e ≡ Full) × IsTooFar seen (IsFresh asked before) x)

  -- a watch's cursor is a place that is asked for
  abbrev pub WatchRefuses : ℕ → WatchEnding → Type 0
  WatchRefuses cursor end = (e : Refusal) → end ≡ watch_refused e → HasReason marks (exact cursor) seen low e

-- What no store stands for and no promise allows: mistakes that the definitions refuse, one by one.
use Rattle.std.proofs.Common.{◌≡◌, ◌⊎◌, ◌^◌, ◌-◌, ◌+◌, inr, ⊎_elim, ℕ, zero, suc, ◌<◌, true, false, true≢false, List, [], ◌∷◌, ◌++◌, length, Some, None, Contains, refl, sym, ◌∙◌, ap, subst, arith}
use Rattle.std.proofs.lemmas.Option.{none-some}
use Rattle.turns.proofs.Words.{ComesUp, Entry, Epoch, HasSeenBelow, IsBusy, IsQuietFlow, IsWriteAnswer, Machine, Moment, NodeName, NodeState, NodeTurns, Prepare, Record, Refusal, Running, ShardMeans, ShardState, Stands, State, StopsBetween, Store, Touch, Tuple, WriteId, begun, coordinator, down, found, numbered, refused, shard, stops, to_flush, to_watch, to_write, up, viewed, writing}
use Rattle.tuples.specs.Parts.{expected, part, shard_of, takes_part}
use Rattle.records.specs.Coordinators.{coordinator_state}
use Rattle.records.specs.Replays.{shard_state, shard_step}
use Rattle.stores.specs.Flows.{nothing_begun}
use Rattle.stores.specs.Stores.{ShowsFlow}
use Rattle.turns.specs.Promises.{HasDeviceCause}
use Rattle.turns.specs.Reopens.{IsOpened}
use Rattle.std.proofs.lemmas.List.{length_push}
use Rattle.turns.proofs.SmallRuns.{two_kept}

-- a flow that the store shows as running on is not read as cancelled, and one other than a write is never cancelled while it runs
abbrev silent : Running
silent = record (begun 0 (to_flush coordinator)) { is_cancelled = true }

cancelled_in_the_reading : ShowsFlow silent (record { asked = Some (to_flush coordinator); holds = silent.holds; is_cancelled = false }) → ⊥
cancelled_in_the_reading shows = true≢false (sym shows.cancelled)

cancelled_flush_runs_on : IsQuietFlow silent → ⊥
cancelled_flush_runs_on quiet = true≢false (quiet refl).1

-- no watch has seen a horizon that was never there
abbrev seer : Running
seer = record (begun 0 (to_watch 0 1 [])) { seen = record { log = []; kept = 0; horizon = 9 } ∷ [] }

horizon_never_there : HasSeenBelow two_kept seer → ⊥
horizon_never_there sees = let is = sees (record { log = []; kept = 0; horizon = 9 }) (zero, omega arith, refl) in omega (arith, is.1)

-- the log ends in no write that its shard has not prepared
abbrev phantom : Entry
phantom = numbered 7 (Touch (viewed 97) ∷ []) []

not_prepared : ShardMeans 1 0 (phantom ∷ []) 0 0 (shard_state []) → ⊥
unfolding shard_state expected takes_part part shard_of
not_prepared means = none-some _ (means.in_doubt.above 0 phantom refl (omega arith))

-- a node goes down for no reason
abbrev untouched : State
untouched = record { seen = []; durable = []; written = []; stopped = false; failures = 0 }

down_for_nothing : HasDeviceCause (λ (s : State). s) (λ s. Unit {0}) (λ s. 0) (λ s t x. x ≡ []) 1 1 (λ n. (untouched, untouched)) (λ n. (untouched, untouched)) coordinator → ⊥
down_for_nothing cause = ⊎_elim not_failed (λ rest. ⊎_elim not_failed (λ full. ⊎_elim (λ is. omega (arith, is)) (λ more. ⊎_elim (λ is. omega (arith, is)) (λ behind. ⊎_elim (λ is. omega (arith, is)) (λ is. omega (arith, is)) behind) more) full) rest) cause
  where
    not_failed : (untouched.failures < untouched.failures) ⊎ (untouched.failures ≡ 2 ^ 64 - 1) → ⊥
    not_failed failed = ⊎_elim (λ is. omega (arith, is)) (λ is. omega (arith, is)) failed

-- an opening opens nothing
opens_nothing : {D : Type 0} (state : D → State) (honest : D → Type 0) (moment : D → ℕ) (left_since : D → ℕ → List ℕ → Type 0) (old : NodeName → D × D) (new : Store D)
    → new.at coordinator ≡ down → IsOpened state honest moment left_since 1 1 old new coordinator → ⊥
opens_nothing state honest moment left_since old new is_down opened = ⊎_elim
    (λ came. not_up (sym is_down ∙ came.is_up))
    (λ no. not_refused (sym is_down ∙ no.1))
    opened
  where
    not_up : {a b : List Record} → down ≡ up a b → ⊥
    not_up is = cc

    not_refused : {e : Refusal} → down ≡ refused e → ⊥
    not_refused is = cc

-- a turn opens the node that it calls again
abbrev once : List Record
once = Epoch 1 1 1 0 ∷ []

abbrev twice : List Record
twice = Epoch 1 1 1 0 ∷ Epoch 2 1 1 0 ∷ []

durable_part : NodeState → List Record
durable_part (up durable staged) = durable
durable_part down = []
durable_part (refused e) = []

staged_part : NodeState → List Record
staged_part (up durable staged) = staged
staged_part down = []
staged_part (refused e) = []

two_is_one : length twice ≡ length once → ⊥
two_is_one is = omega (arith, is)

no_longer : {X : Type 0} (xs : List X) (x : X) → [] ≡ xs ++ x ∷ [] → ⊥
no_longer [] x is = cc
no_longer (y ∷ xs) x is = cc

up_is_not_down : {a b : List Record} → up a b ≡ down → ⊥
up_is_not_down is = cc

opened_by_a_turn : NodeTurns (shard 0) (up once []) (up twice []) → ⊥
unfolding durable_part staged_part shard_state shard_step
opened_by_a_turn turns = ⊎_elim
    (λ same. two_is_one (ap (λ n. length (durable_part n)) same))
    (λ rest. ⊎_elim
    (λ more. no_longer more.staged more.next (ap staged_part more.now))
    (λ others. ⊎_elim
    (λ flushed.
    let was : once ≡ flushed.durable ++ flushed.staged = ap (λ n. durable_part n ++ staged_part n) flushed.was in
    let now : twice ≡ flushed.records = ap durable_part flushed.now in
    let e : 1 ≡ 2 = ap (λ (l : List Record). (shard_state l).epoch) was ∙ flushed.stand_for.0.epoch ∙ ap (λ (l : List Record). (shard_state l).epoch) (sym now) in
    omega (arith, e))
    (λ falls. up_is_not_down falls.now)
    others)
    rest)
    turns

-- a turn takes back what the node had staged
abbrev doubtful : NodeState
doubtful = up [] (Prepare phantom ∷ [])

prepare_taken_back : NodeTurns (shard 0) doubtful (up [] []) → ⊥
unfolding durable_part staged_part shard_state shard_step
prepare_taken_back turns = ⊎_elim
    (λ same. none_is_one (length (staged_part (up [] []))) refl (ap (λ n. length (staged_part n)) same))
    (λ rest. ⊎_elim
    (λ more. no_longer more.staged more.next (ap staged_part more.now))
    (λ others. ⊎_elim
    (λ flushed.
    let was : Prepare phantom ∷ [] ≡ flushed.durable ++ flushed.staged = ap (λ n. durable_part n ++ staged_part n) flushed.was in
    let now : [] ≡ flushed.records = ap durable_part flushed.now in
    let e : 1 ≡ 0 = ap (λ (l : List Record). length (shard_state l).in_doubt) was ∙ ap (λ (l : List Entry). length l) flushed.stand_for.0.in_doubt ∙ ap (λ (l : List Record). length (shard_state l).in_doubt) (sym now) in
    omega (arith, e))
    (λ falls. up_is_not_down falls.now)
    others)
    rest)
    turns
  where
    none_is_one : (n : ℕ) → n ≡ 0 → n ≡ 1 → ⊥
    none_is_one n is_none is_one = omega (arith, is_none, is_one)

-- between two turns a shard has a prepare in doubt that nobody made: its id was never given out
abbrev one_doubtful : NodeName → NodeState
one_doubtful coordinator = up [] []
one_doubtful (shard zero) = doubtful
one_doubtful (shard (suc s)) = up [] []

abbrev between_turns : Moment
between_turns = record { machine = two_kept; nodes = record { at = one_doubtful; open_writes = []; given = 0 }; running = []; told = []; named = [] }

invented_prepare : Stands 1 1 (λ n rs. rs ≡ []) between_turns → ⊥
unfolding shard_state shard_step coordinator_state
invented_prepare stands =
    let given = stands.ids.prepares_given 0 (Prepare phantom ∷ []) phantom (omega arith) ([], refl, inr refl) (zero, omega arith, refl) in
    let low = given.epoch [] refl in
    omega (arith, low)

at_owner : one_doubtful (shard (shard_of 1 (viewed 97).object)) ≡ doubtful
unfolding shard_of
at_owner = refl

in_doubt_of : NodeState → List Entry
in_doubt_of (up durable staged) = (shard_state (durable ++ staged)).in_doubt
in_doubt_of down = []
in_doubt_of (refused e) = []

one_in_doubt : in_doubt_of doubtful ≡ phantom ∷ []
unfolding shard_state shard_step in_doubt_of
one_in_doubt = refl

only_phantom : (w : Entry) → Contains (phantom ∷ []) w → phantom ≡ w
only_phantom w (zero, lt, same) = same
only_phantom w (suc k, lt, same) = absurd (omega (arith, lt))

-- Busy for the flow's own prepare
busy_by_itself : (n : NodeName) → IsBusy 1 n between_turns (Some phantom.id) (to_write (Touch (viewed 97) ∷ []) []) → ⊥
unfolding in_doubt_of
busy_by_itself n (t, (zero, lt, is), called, held) =
    let owner : one_doubtful (shard (shard_of 1 t.object)) ≡ doubtful = ap (λ (u : Tuple). one_doubtful (shard (shard_of 1 u.object))) (sym is) ∙ at_owner in
    let known : (held.memory).in_doubt ≡ phantom ∷ [] = ap (λ (m : ShardState). m.in_doubt) held.knows.replayed ∙ ap in_doubt_of (sym held.knows.is_up ∙ owner) ∙ one_in_doubt in
    held.not_own (ap (λ (w : Entry). Some w.id) (only_phantom held.other (subst (λ (ws : List Entry). Contains ws held.other) known held.in_doubt)))
busy_by_itself n (t, (suc k, lt, is), called, held) = omega (arith, lt)

-- a stop inside a step leaves a content that holds no records, as a gate that was opened with its body
unreadable_inside : {D : Type 0} (state : D → State) (honest : D → Type 0) (moment : D → ℕ) (left_since : D → ℕ → List ℕ → Type 0) (old new : NodeName → D × D) (before after : Machine) (a b : List ℕ)
    → left_since (new coordinator).0 (moment (old coordinator).0) a → left_since (new coordinator).1 (moment (old coordinator).1) b → found a b ≡ None
    → StopsBetween state honest moment left_since 1 1 old new before after → ⊥
unreadable_inside state honest moment left_since old new before after a b in_a in_b none between = let rs = between.readable coordinator a b tt in_a in_b in none-some _ (sym none ∙ rs.1)

-- a flow acknowledges a place if the log has another's write, though the changes are the same
abbrev second : Running
second = record (begun 0 (to_write (Touch (viewed 97) ∷ []) [])) { holds = writing (record nothing_begun { id = Some (record { epoch = 1; number = 2 }) }) }

acknowledged_twice : IsWriteAnswer second two_kept (Touch (viewed 97) ∷ []) [] 1 → ⊥
acknowledged_twice answer =
    let own : record { epoch = 1; number = 2 } ≡ answer.id = cc in
    let there : record { epoch = 1; number = 1 } ≡ answer.id = cc in
    let both : 2 ≡ 1 = ap (λ (i : WriteId). i.number) (own ∙ sym there) in
    omega (arith, both)

-- the coordinator comes up in an epoch that a stop could leave, and gives its ids again
abbrev opened_once : List Record
opened_once = Epoch 1 1 1 255 ∷ []

opened_in_the_same_epoch : {D : Type 0} (state : D → State) (honest : D → Type 0) (moment : D → ℕ) (left_since : D → ℕ → List ℕ → Type 0) (old : NodeName → D × D)
    → ((rs : List Record) → stops state honest 1 1 old coordinator rs → rs ≡ opened_once) → ComesUp state honest moment left_since 1 1 old coordinator (up opened_once []) → ⊥
unfolding durable_part
opened_in_the_same_epoch state honest moment left_since old only comes =
    let was = ap length (only comes.was comes.was_left) in
    let now = ap (λ n. length (durable_part n)) comes.is_up in
    let more = length_push comes.was (Epoch ((coordinator_state comes.was).epoch + 1) 1 1 255) in
    omega (arith, was, now, more)

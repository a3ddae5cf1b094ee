-- A step that may raise the horizon to some places is one that may raise it to more: so steps fit into a longer run.
use Rattle.std.proofs.Common.{inl, inr, ⊎_elim, ℕ, List, slice_index_or}
use Rattle.turns.proofs.Words.{Decides, DecidesNothing, EndsAs, IsOfOpening, IsQuiet, IsTurned, MayRise, Moment, Move, NodeName, Restarts, Running, Told, Turns, answered, append, began, came_up, coordinator, cut, goes_on, keep, raise, refuses, shard}
use Rattle.turns.specs.Runs.{OpeningMoves, OpensAs}

pub of_opening : (a b : ℕ → Type 0) → ((x : ℕ) → a x → b x) → (move : Move) → IsOfOpening a move → IsOfOpening b move
of_opening a b more (append w) is = absurd is
of_opening a b more (keep i) is = is
of_opening a b more (cut i) is = is
of_opening a b more (raise x) is = more x is

quiet : (a b : ℕ → Type 0) → ((x : ℕ) → a x → b x) → (move : Move) → IsQuiet a move → IsQuiet b move
quiet a b more (append w) is = absurd is
quiet a b more (keep i) is = is
quiet a b more (cut i) is = absurd is
quiet a b more (raise x) is = more x is

-- before one run a record named these places, and before the other those, which are more
module _ (shards : ℕ) (these those : ℕ → Type 0) (before : Moment) (more : (x : ℕ) → MayRise shards these before x → MayRise shards those before x) where
  moves_more : (k : NodeName) (moves : List Move) (running : List Running) → OpeningMoves shards these k before moves running → OpeningMoves shards those k before moves running
  moves_more coordinator moves running is = (λ j d lt. of_opening (MayRise shards these before) (MayRise shards those before) more (slice_index_or moves j d) (is.0 j d lt), is.1)
  moves_more (shard s) moves running is = is

  opens_more : (k : NodeName) (after : Moment) (t : Told) → OpensAs shards these k after t → OpensAs shards those k after t
  opens_more k after came_up is = is
  opens_more k after (refuses e) is = is
  opens_more k after (began slot) is = is
  opens_more k after goes_on is = is
  opens_more k after (answered answer) is = is

  pub restarts_more : (k : NodeName) (told : List Told) (after : Moment) → Restarts shards these before k told after → Restarts shards those before k told after
  restarts_more k told after is = record {
    moves = is.moves;
    machine = is.machine;
    allowed = moves_more k is.moves after.running is.allowed;
    others = is.others;
    told_before = is.told_before;
    named = is.named;
    tells = (is.tells.0, is.tells.1, opens_more k after is.tells.0 is.tells.2);
  }

  decides_more : (r : Running) (moves : List Move) (after : Moment) (later : Running) → Decides shards these before r moves after later → Decides shards those before r moves after later
  decides_more r moves after later is = record { write = is.write; own = is.own; held = is.held; first = is.first; not_cancelled = is.not_cancelled; not_told = is.not_told; moves_are = is.moves_are; decided = is.decided }

  turned_more : (n : NodeName) (r : Running) (moves : List Move) (after : Moment) (later : Running) → IsTurned shards these n before r moves after later → IsTurned shards those n before r moves after later
  turned_more n r moves after later is = record {
    slot = is.slot;
    asked = is.asked;
    same_id = is.same_id;
    seen = is.seen;
    decides = ⊎_elim
        (λ once. inl (decides_more r moves after later once))
        (λ (nothing : DecidesNothing shards these before r moves later).
        inr (record { moves_are = λ j d lt. quiet (MayRise shards these before) (MayRise shards those before) more (slice_index_or moves j d) (nothing.moves_are j d lt); decided = nothing.decided }))
        is.decides;
    met = is.met;
    cancelled = is.cancelled;
    reopened_is = is.reopened_is;
  }

  ends_more : (later : Running) (after : Moment) (t : Told) → EndsAs shards these before later after t → EndsAs shards those before later after t
  ends_more later after goes_on is = is
  ends_more later after (answered answer) is = is
  ends_more later after (refuses e) is = (record { met = is.0.met; decided = is.0.decided; undecided_write = is.0.undecided_write }, is.1, is.2)
  ends_more later after (began slot) is = is
  ends_more later after came_up is = is

  pub turns_more : (r : Running) (told : List Told) (after : Moment) → Turns shards these before r told after → Turns shards those before r told after
  turns_more r told after is = record {
    moves = is.moves;
    machine = is.machine;
    node = is.node;
    others = is.others;
    called = is.called;
    later = is.later;
    open_writes = is.open_writes;
    turned = turned_more is.node r is.moves after is.later is.turned;
    named = is.named;
    tells = ⊎_elim
        (λ loud. inl (loud.0, (loud.1.0, loud.1.1, ends_more is.later after loud.1.0 loud.1.2)))
        (λ silent. inr silent)
        is.tells;
  }

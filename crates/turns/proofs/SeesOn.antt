-- A flow that has seen one more machine, and holds what it held except for the decisions on their way: all of it stays right.
use Rattle.std.proofs.Common.{◌≡◌, ℕ, List, [], ◌∷◌, ◌++◌, Option, Some, Contains, slice_get, refl, arith}
use Rattle.std.proofs.lemmas.List.Elements.{Contains-append_left}
use Rattle.stores.specs.Moments.{SawFirst}
use Rattle.turns.proofs.Words.{AreHeldHeads, AreRightHeads, Asked, BatchValue, Change, Condition, Freshness, HeadsHeld, HeadsValue, Holds, IfHeld, IsAsWanted, IsPlaceOf, IsRight, IsRightBatch, IsRightWrite, Machine, Moment, NodeName, Record, Running, WasKept, WriteHolds, at_least, checking, collecting, exact, flushing, id_of, latest, learning, raising, reading, resolving, to_check, to_collect, to_flush, to_learn, to_raise, to_read, to_resolve, to_watch, to_write, watching, with_batch, with_call, writing}

-- what the flow holds is of the write that it was of
pub same_write : (b : Option BatchValue) (h : Holds) → id_of (with_batch b h) ≡ id_of h
same_write b (writing h) = refl
same_write b (reading h) = refl
same_write b (checking h) = refl
same_write b (watching h) = refl
same_write b flushing = refl
same_write b (learning h) = refl
same_write b (resolving h) = refl
same_write b (raising h) = refl
same_write b (collecting h) = refl

-- a list that is not empty still begins so
first_of : (ms : List Machine) (x m first : Machine) → Contains ms x → slice_get (ms ++ m ∷ []) 0 ≡ Some first → slice_get ms 0 ≡ Some first
first_of [] x m first has is = absurd (omega (arith, has.1))
first_of (y ∷ ms) x m first has is = is

module _ (r : Running) (holds : Holds) (m : Machine) where
  abbrev later : Running
  later = with_call r holds r.met m

  pub kept_on : (s : ℕ) → WasKept r s → WasKept later s
  kept_on s was = (was.0, Contains-append_left r.seen (m ∷ []) was.0 was.1, was.2)

  first_on : (s : ℕ) (first : Machine) → WasKept r s → SawFirst later first → SawFirst r first
  first_on s first was is = first_of r.seen was.0 m first was.1 is

  pub heads_on : (machine : Machine) (heads : HeadsValue) → AreRightHeads r machine heads → AreRightHeads later machine heads
  heads_on machine heads k = record {
    was = kept_on heads.kept k.was;
    kept = k.kept;
    horizon = k.horizon;
    ordered = k.ordered;
    above = λ first is. k.above first (first_on heads.kept first k.was is);
  }

  wanted_on : (fresh : Freshness) (s : ℕ) → IsAsWanted fresh r s → IsAsWanted fresh later s
  wanted_on latest s is = kept_on s is
  wanted_on (at_least z) s is = (kept_on s is.0, is.1)
  wanted_on (exact z) s is = (is.0, (is.1.0, kept_on is.1.0 is.1.1, is.1.2))

  -- some place was kept after one of its turns
  some_kept : (fresh : Freshness) (s : ℕ) → IsAsWanted fresh r s → (k : ℕ) × WasKept r k
  some_kept latest s is = (s, is)
  some_kept (at_least z) s is = (s, is.0)
  some_kept (exact z) s is = (is.1.0, is.1.1)

  pub place_on : (fresh : Freshness) (machine : Machine) (s : ℕ) → IsPlaceOf fresh r machine s → IsPlaceOf fresh later machine s
  place_on fresh machine s k = record {
    wanted = wanted_on fresh s k.wanted;
    kept = k.kept;
    above = λ first is. let some = some_kept fresh s k.wanted in k.above first (first_on some.0 first some.1 is);
  }

  module _ (shards : ℕ) (left : NodeName → List Record → Type 0) (now : Moment) (b : Option BatchValue) (right : IfHeld b (IsRightBatch now.machine)) where
    held_on : (h : HeadsHeld) → AreHeldHeads shards left now r h → AreHeldHeads shards left now later (record h { batch = b })
    held_on h k = record { heads = λ heads is. heads_on now.machine heads (k.heads heads is); batch = right }

    write_on : (changes : List Change) (conditions : List Condition) (h : WriteHolds) → IsRightWrite shards left now r changes conditions h → IsRightWrite shards left now later changes conditions (record h { batch = b })
    write_on changes conditions h k = record {
      nothing = λ none. let old = k.nothing none in record { intent = old.intent; tickets = old.tickets; votes = old.votes; decided = old.decided; verdict = old.verdict };
      own = λ id is. let old = k.own id is in record {
        undecided = old.undecided;
        intent = old.intent;
        tickets = old.tickets;
        votes = old.votes;
        decision = old.decision;
        verdict = old.verdict;
        not_reopened = old.not_reopened;
        gave = old.gave;
      };
      same_decision = k.same_decision;
      batch = right;
      out = k.out;
      cancelled = k.cancelled;
      refused_or_cancelled = k.refused_or_cancelled;
    }

    right_on : (asked : Asked) (h : Holds) → IsRight shards left now r asked h → IsRight shards left now later asked (with_batch b h)
    right_on (to_write changes conditions) (writing h) k = write_on changes conditions h k
    right_on (to_read fresh sets) (reading h) k = record {
      heads = λ heads is. heads_on now.machine heads (k.heads heads is);
      place = λ s is. place_on fresh now.machine s (k.place s is);
      done = k.done;
      few = k.few;
      rows = k.rows;
      nothing = k.nothing;
      batch = right;
    }
    right_on (to_check fresh x u) (checking h) k = record {
      heads = λ heads is. heads_on now.machine heads (k.heads heads is);
      place = λ s is. place_on fresh now.machine s (k.place s is);
      nothing = k.nothing;
      walk = k.walk;
      batch = right;
    }
    right_on (to_watch c limit names) (watching h) k = held_on h k
    right_on (to_flush n) flushing k = tt
    right_on (to_learn s) (learning h) k = held_on h k
    right_on (to_resolve s) (resolving h) k = record { found = k.found; verdict = k.verdict; batch = right }
    right_on (to_raise x) (raising h) k = record { named = k.named; heads = λ heads is. heads_on now.machine heads (k.heads heads is); settled = k.settled; batch = right; raised = k.raised }
    right_on (to_collect s) (collecting h) k = held_on h k
    right_on asked h k = absurd k

pub sees_on : (shards : ℕ) (left : NodeName → List Record → Type 0) (now : Moment) (r : Running) (holds : Holds) (m : Machine) (b : Option BatchValue) → IfHeld b (IsRightBatch now.machine)
    → (asked : Asked) (h : Holds) → IsRight shards left now r asked h → IsRight shards left now (with_call r holds r.met m) asked (with_batch b h)
sees_on shards left now r holds m b right asked h k = right_on r holds m shards left now b right asked h k

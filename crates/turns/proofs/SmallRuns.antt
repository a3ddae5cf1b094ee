-- Small runs of the machine, computed: moves and answers that are allowed, and some that are not.
use Rattle.std.proofs.Common.{◌≡◌, inl, inr, ◌≤◌, zero, suc, List, [], ◌∷◌, Option, Some, Contains, min, refl, ◌∙◌, subst, ap, arith, ◌+◌}
use Rattle.std.proofs.lemmas.Option.{none-some}
use Rattle.std.proofs.lemmas.List.Elements.{All-nil, All-cons}
use Rattle.turns.proofs.Words.{Agrees, Asked, IsQuiet, IsRun, Machine, Makes, MayRise, Moment, Move, Nodes, Running, Touch, Turns, answered, append, began, begun, coordinator, cut, done, down, keep, numbered, raise, start, three, to_flush, to_raise, to_watch, to_write, turn, viewed, wrote}
use Rattle.tuples.specs.declared.change.Change.TheVariants.{Delete}
use Rattle.tuples.specs.Watching.{events}
use Rattle.tuples.proofs.Examples.{doc}
use Rattle.stores.specs.Replies.{listed}

-- three writes, of which two are kept
abbrev pub two_kept : Machine
two_kept = record { log = three; kept = 2; horizon = 1 }

raised_to_the_kept_place : Makes two_kept (raise 2) (record { log = three; kept = 2; horizon = 2 })
raised_to_the_kept_place = (omega arith, omega arith, refl)

not_raised_above_it : (n : Machine) → Makes two_kept (raise 3) n → ⊥
not_raised_above_it n makes = omega (arith, makes.1)

not_lowered : (n : Machine) → Makes two_kept (raise 0) n → ⊥
not_lowered n makes = omega (arith, makes.0)

cut_to_what_is_kept : Makes two_kept (cut 2) (record { log = numbered 1 (Touch (viewed 97) ∷ []) [] ∷ numbered 2 (Delete (viewed 97) ∷ []) [] ∷ []; kept = 2; horizon = 1 })
cut_to_what_is_kept = (omega arith, refl)

not_cut_below_it : (n : Machine) → Makes two_kept (cut 1) n → ⊥
not_cut_below_it n makes = omega (arith, makes.0)

all_is_kept : Makes two_kept (keep 3) (record { log = three; kept = 3; horizon = 1 })
all_is_kept = (omega arith, refl)

never_less_is_kept : Makes two_kept (keep 1) two_kept
never_less_is_kept = (omega arith, refl)

no_id_twice : (n : Machine) → Makes two_kept (append (numbered 1 (Touch (viewed 99) ∷ []) [])) n → ⊥
no_id_twice n makes = (let e = makes.0.new 0 3 _ _ refl refl refl in omega (arith, e))

-- a flow that has made one turn, after which two writes were kept
abbrev pub after_one_turn : Asked → Running
after_one_turn asked = record (begun 0 asked) { seen = two_kept ∷ [] }

abbrev pub all_down : Nodes
all_down = record { at = λ n. down; open_writes = []; given = 0 }

abbrev pub moment_of : Machine → List Running → Moment
moment_of m running = record { machine = m; nodes = all_down; running = running; told = []; named = [] }

-- a watch from place 1 on answers what lies between it and the kept place
watched_to_the_kept_place : Agrees (after_one_turn (to_watch 1 5 (doc ∷ []))) (moment_of two_kept []) (to_watch 1 5 (doc ∷ [])) (listed 2 (events three 1 2 (doc ∷ [])))
watched_to_the_kept_place = record {
  kept = 2;
  was = (two_kept, (0, omega arith, refl), refl);
  cursor = omega arith;
  heartbeat = refl;
  still_kept = omega arith;
  all = refl;
  above = λ first is. subst (λ (o : Option Machine). o ≡ Some first → first.horizon ≤ 1) refl (λ e. subst (λ (m : Machine). m.horizon ≤ 1) (some_is two_kept first e) (omega arith)) is;
}
  where
    some_is : (x y : Machine) → Some x ≡ Some y → x ≡ y
    some_is x y e = cc

-- it does not answer the third place, which is not kept
not_watched_beyond_it : Agrees (after_one_turn (to_watch 1 5 (doc ∷ []))) (moment_of two_kept []) (to_watch 1 5 (doc ∷ [])) (listed 3 (events three 1 3 (doc ∷ []))) → ⊥
not_watched_beyond_it a = only a.was (a.heartbeat)
  where
    only : (w : (m : Machine) × Contains (two_kept ∷ []) m × (m.kept ≡ a.kept)) → 3 ≡ min (1 + 5) a.kept → ⊥
    only (m, (zero, lt, is), same) e = let k : 2 ≡ a.kept = ap (λ (x : Machine). x.kept) is ∙ same in omega (arith, k, e)
    only (m, (suc k, lt, is), same) e = omega (arith, lt)

-- a write that was not decided has no place to answer
no_place_undecided : Agrees (begun 0 (to_write (Touch (viewed 97) ∷ []) [])) (moment_of two_kept []) (to_write (Touch (viewed 97) ∷ []) []) (wrote 1) → ⊥
no_place_undecided a = none-some _ a.decided

-- an answer to something else agrees with nothing
no_other_answer : Agrees (begun 0 (to_raise 1)) (moment_of two_kept []) (to_raise 1) (wrote 1) → ⊥
no_other_answer a = a

-- a raise that ends says that the horizon is there
raised_and_done : Agrees (after_one_turn (to_raise 1)) (moment_of two_kept []) (to_raise 1) done
raised_and_done = λ same. omega arith

not_raised_and_not_done : Agrees (after_one_turn (to_raise 2)) (moment_of two_kept []) (to_raise 2) done → ⊥
not_raised_and_not_done a = let e = a refl in omega (arith, e)

-- a flush of the coordinator begins, and its turn keeps the third write: two events
abbrev flushed : Machine
flushed = record { log = three; kept = 3; horizon = 1 }

two_events : IsRun 2 (λ x. ⊥) 0 (moment_of two_kept []) (start (to_flush coordinator) ∷ turn 0 ∷ [])
    (record { step = 0; told = began 0 } ∷ record { step = 1; told = answered done } ∷ []) (moment_of flushed [])
two_events = (
  moment_of two_kept (begun 0 (to_flush coordinator) ∷ []),
  began 0 ∷ [],
  record { step = 1; told = answered done } ∷ [],
  inl (tt, inl (0, refl, omega arith, refl, refl)),
  (moment_of flushed [], answered done ∷ [], [], turned, (refl, refl), refl),
  refl,
)
  where
    quiet : Move → Type 0
    quiet = IsQuiet (MayRise 2 (λ x. ⊥) (moment_of two_kept (begun 0 (to_flush coordinator) ∷ [])))

    turned : Turns 2 (λ x. ⊥) (moment_of two_kept (begun 0 (to_flush coordinator) ∷ [])) (begun 0 (to_flush coordinator)) (answered done ∷ []) (moment_of flushed [])
    turned = record {
      moves = keep 3 ∷ [];
      machine = (flushed, (omega arith, refl), refl);
      node = coordinator;
      others = record { others = λ m other. refl; open_writes = λ other. refl; given = λ other. refl };
      called = inl refl;
      open_writes = inl (record { open_writes = refl; given = refl }, refl);
      later = record (begun 0 (to_flush coordinator)) { seen = flushed ∷ [] };
      turned = record {
        slot = refl;
        asked = refl;
        same_id = λ id is. is;
        seen = refl;
        decides = inr (record { moves_are = All-cons quiet (keep 3) [] tt (All-nil quiet); decided = refl });
        met = inl refl;
        cancelled = refl;
        reopened_is = refl;
      };
      named = refl;
      tells = inl (refl, (answered done, refl, (refl, refl, refl)));
    }

-- A write whose flow ends refused, or cancelled, without a decision, came to nothing.
use Rattle.std.proofs.Common.{◌≡◌, ◌≢◌, ⊎_elim, ◌==◌, ℕ, true, true≢false, List, [], ◌∷◌, Option, Some, None, Contains, slice_get, sym, ◌∙◌, ap, subst, arith, if◌then◌else◌}
use Rattle.std.proofs.lemmas.Bool.{cases_Bool, eq-eqb}
use Rattle.std.proofs.lemmas.Option.{same_Some}
use Rattle.headline.proofs.Words.{Asked, DecidesNothing, EndsAs, Holds, IfRunning, IsPast, IsUnlisted, MayRise, Moment, NamesHorizon, NodeName, Ran, Record, Refusal, Running, StandsOver, State, Store, Turns, WasGiven, WriteId, checking, contained_at, ended, found_at, id_of, ran_before, reading, refuses, replaced, stops, to_check, to_collect, to_flush, to_learn, to_raise, to_read, to_resolve, to_watch, to_write, turn, watching}
use Rattle.refusal.specs.declared.refusal.Refusal.TheVariants.{Unsure}
use Rattle.stores.specs.Flows.{collecting, flushing, learning, raising, resolving, writing}
use Rattle.stores.specs.Held.{IsRight}
use Rattle.stores.specs.Moments.{flow_at}
use Rattle.turns.specs.Runs.{Event}
use Rattle.flow_turns.proofs.Slots.{at_ended, at_replaced}
use Rattle.headline.specs.PastWrites.{CancelledWritesArePast, RefusedWritesArePast}
use Rattle.headline.proofs.PastWrites.{coordinator_stays, given_by_it, more_given, no_value, quiet_on}
use Rattle.tuples.proofs.Lists.{first_or_later}

-- a flow that runs in a slot is found there
found_some : (slot : ℕ) (rs : List Running) (q : Running) → Contains rs q → q.slot ≡ slot → flow_at slot rs ≢ None
found_some slot [] q has is none = omega (arith, has.1)
found_some slot (x ∷ rs) q has is none = ⊎_elim
    (λ here. let bad : Some x ≡ None = sym (ap (λ b. if b then Some x else flow_at slot rs) here) ∙ none in cc)
    (λ other. ⊎_elim
    (λ same. true≢false (sym (eq-eqb x.slot slot (ap (λ (y : Running). y.slot) same ∙ is)) ∙ other))
    (λ further. found_some slot rs q further is (sym (ap (λ b. if b then Some x else flow_at slot rs) other) ∙ none))
    (first_or_later x q rs has))
    (cases_Bool (x.slot == slot))

module _ {D : Type 0} (state : D → State) (honest : D → Type 0) (moment : D → ℕ) (left_since : D → ℕ → List ℕ → Type 0) (store shards : ℕ) (old new : Store D) (now : Moment) (number slot : ℕ) (events : List Event)
    (standing : StandsOver state honest store shards old now) (ran : Ran state honest moment left_since store shards old now number (turn slot) events new) (r : Running) (id : WriteId)
    (at : flow_at slot now.running ≡ Some r) (has : id_of r.holds ≡ Some id) where
  abbrev before : NodeName → List Record → Type 0
  before = stops state honest store shards old.devices

  abbrev names : ℕ → Type 0
  names = NamesHorizon state honest store shards old now

  running : Contains now.running r
  running = (found_at slot now.running r at).0

  taken : Turns shards names now r ran.told ran.after
  taken = subst (λ (o : Option Running). IfRunning shards names (Turns shards names) o now ran.told ran.after) at ran.takes

  -- a write that has not decided is at no place, and its id was given out
  undecided : (asked : Asked) (holds : Holds) → IsRight shards before now r asked holds → id_of holds ≡ Some id → r.decided ≡ None → WasGiven shards before now.nodes id × IsUnlisted id now.machine.log
  undecided (to_write changes conditions) (writing h) right own none = let u = (right.own id own).undecided none in (u.given, u.unlisted)
  undecided (to_read fresh sets) (reading h) right own none = absurd (no_value own)
  undecided (to_check fresh x u) (checking h) right own none = absurd (no_value own)
  undecided (to_watch c limit names) (watching h) right own none = absurd (no_value own)
  undecided (to_flush n) flushing right own none = absurd (no_value own)
  undecided (to_learn s) (learning h) right own none = absurd (no_value own)
  undecided (to_resolve s) (resolving h) right own none = absurd (no_value own)
  undecided (to_raise x) (raising h) right own none = absurd (no_value own)
  undecided (to_collect s) (collecting h) right own none = absurd (no_value own)
  undecided asked holds right own none = absurd right

  -- no other flow has its id
  alone_with_it : (q : Running) → Contains (ended r.slot now.running) q → id_of q.holds ≢ Some id
  alone_with_it q there holds =
      let of_q = contained_at now.running q (ran_before r.slot now.running q there) in
      let of_r = contained_at now.running r running in
      let place = standing.stands.flows.ids of_q.0 of_r.0 q r id of_q.1 of_r.1 holds has in
      let same : q ≡ r = same_Some q r (sym of_q.1 ∙ ap (slice_get now.running) place ∙ of_r.1) in
      found_some r.slot (ended r.slot now.running) q there (ap (λ (x : Running). x.slot) same) (at_ended r.slot now.running standing.stands.flows.slots)

  -- it ends without a decision
  ends_past : r.decided ≡ None → DecidesNothing shards names now r taken.moves taken.later → ran.after.running ≡ ended (taken.later).slot now.running → IsPast state honest moment left_since store shards new ran.after id
  ends_past none nothing gone =
      let was = undecided r.asked r.holds (standing.stands.flows.held r running) has none in
      let gone_here : ran.after.running ≡ ended r.slot now.running = gone ∙ ap (λ (s : ℕ). ended s now.running) taken.turned.slot in
      record {
        given = record {
          epoch = ran.given id was.0.epoch;
          now = given_by_it state honest moment left_since store shards now.nodes ran.after.nodes id (coordinator_stays taken.node now.nodes ran.after.nodes taken.others taken.called)
              (more_given state honest moment left_since store shards now.nodes ran.after.nodes r taken.later taken.open_writes) was.0.now;
        };
        unlisted = quiet_on (MayRise shards names now) now.machine ran.after.machine taken.moves id nothing.moves_are taken.machine was.1;
        unheld = λ q there. alone_with_it q (subst (λ (l : List Running). Contains l q) gone_here there);
      }

  refused_past : (e : Refusal) → ran.told ≡ refuses e ∷ [] → e ≢ Unsure → IsPast state honest moment left_since store shards new ran.after id
  refused_past e told sure = ⊎_elim
      (λ loud.
      let both : loud.1.0 ∷ [] ≡ refuses e ∷ [] = sym loud.1.1 ∙ told in
      let same : loud.1.0 ≡ refuses e = cc in
      let ends : EndsAs shards names now taken.later ran.after (refuses e) = subst (EndsAs shards names now taken.later ran.after) same loud.1.2 in
      let none = ends.0.undecided_write sure in
      ⊎_elim
      (λ decides. absurd (no_value (sym none ∙ decides.decided)))
      (λ (nothing : DecidesNothing shards names now r taken.moves taken.later). ends_past (sym nothing.decided ∙ none) nothing ends.1)
      taken.turned.decides)
      (λ silent. let bad : [] ≡ refuses e ∷ [] = sym silent.1 ∙ told in absurd cc)
      taken.tells

  cancelled_past : r.is_cancelled ≡ true → r.decided ≡ None → flow_at slot ran.after.running ≡ None → IsPast state honest moment left_since store shards new ran.after id
  cancelled_past gone none left = ⊎_elim
      (λ loud. absurd (true≢false (sym gone ∙ loud.0)))
      (λ silent. ⊎_elim
      (λ decides. absurd (true≢false (sym gone ∙ decides.not_cancelled)))
      (λ (nothing : DecidesNothing shards names now r taken.moves taken.later). ⊎_elim
      (λ goes. absurd (no_value (sym left ∙ ap (flow_at slot) goes ∙ still_there)))
      (λ ends. ends_past none nothing ends)
      silent.2.1)
      taken.turned.decides)
      taken.tells
    where
      here : (taken.later).slot ≡ slot
      here = taken.turned.slot ∙ (found_at slot now.running r at).1

      still_there : flow_at slot (replaced taken.later now.running) ≡ Some taken.later
      still_there = subst (λ (s : ℕ). flow_at s (replaced taken.later now.running) ≡ Some taken.later) here
          (at_replaced taken.later r now.running (subst (λ (s : ℕ). flow_at s now.running ≡ Some r) (sym here) at))

module _ {D : Type 0} (state : D → State) (honest : D → Type 0) (moment : D → ℕ) (left_since : D → ℕ → List ℕ → Type 0) (store shards : ℕ) where
  pub refused_writes_are_past : RefusedWritesArePast state honest moment left_since store shards
  refused_writes_are_past old new now number slot events r id e standing ran at has told sure =
      refused_past state honest moment left_since store shards old new now number slot events standing ran r id at has e told sure

  pub cancelled_writes_are_past : CancelledWritesArePast state honest moment left_since store shards
  cancelled_writes_are_past old new now number slot events r id standing ran at has gone none left =
      cancelled_past state honest moment left_since store shards old new now number slot events standing ran r id at has gone none left

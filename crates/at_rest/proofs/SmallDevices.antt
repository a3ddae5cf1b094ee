-- Small stores of one shard, at rest and not.
use Rattle.std.proofs.Common.{◌≡◌, ◌<◌, ◌+◌, ◌*◌, ℕ, false, List, [], ◌∷◌, length, take, drop, Some, slice_index_or, refl, sym, ◌∙◌, ap, subst, arith}
use Rattle.std.proofs.lemmas.List.Elements.{All-cons, All-nil}
use Rattle.device.specs.Device.{State}
use Rattle.device.specs.Disk.{IsFresh}
use Rattle.device.proofs.Moments.{leaves_itself}
use Rattle.gated.specs.Gated.{gated}
use Rattle.journal.specs.Records.{current_bank, found, or_none}
use Rattle.laws.specs.Worlds.{coordinator_node}
use Rattle.records.specs.Checkpoints.{coordinator_checkpoint, is_complete}
use Rattle.locked.specs.Opening.{IsNew}
use Rattle.locked.proofs.NewDevices.{new_devices_rest}
use Rattle.records.specs.declared.record.Record.{Record}
use Rattle.records.specs.Coordinators.{CoordinatorState, coordinator_state, coordinator_step}
use Rattle.records.specs.Replays.{shard_state}
use Rattle.ties.specs.ShardTies.{AreRowsOf, RowsAnywhere}
use Rattle.ties.specs.Ties.{IsLonger}
use Rattle.ties.proofs.SmallTies.{learned, three_listed, two_are_learned}
use Rattle.tuples.specs.declared.entry.Entry.{Entry}
use Rattle.tuples.proofs.Examples.{three}
use Rattle.locked.specs.AtRest.{IsAtRest, RestsWith, found_coordinator}
use Rattle.at_rest.proofs.Found.{at_rest_with, found_again}

-- a device that was just opened over this content
abbrev holding : List ℕ → State
holding content = record { seen = content; durable = content; written = []; stopped = false; failures = 0 }

abbrev just_holds : (content : List ℕ) → IsFresh content (holding content)
just_holds content = record { durable = refl; written = refl; seen = refl; stopped = refl; failures = refl }

abbrev AreAt : List Entry → List State → Type 0
AreAt first devices = IsAtRest (λ (s : State). s) (λ (s : State). Unit {0}) 1 first devices

abbrev blank : State
blank = holding []

abbrev blanks : List State
blanks = blank ∷ blank ∷ blank ∷ blank ∷ []

abbrev IsBlank : State → Type 0
IsBlank s = IsNew (λ (s : State). s) (λ (s : State). Unit {0}) s

is_new : IsNew (λ (s : State). s) (λ (s : State). Unit {0}) blank
is_new = record { is_honest = tt; unmade = record { durable = refl; written = refl } }

-- Four devices that nobody has written to are at rest, at the empty list.
blanks_are_at_rest : AreAt [] blanks
unfolding found gated current_bank is_complete coordinator_state
blanks_are_at_rest = record {
  decisions = refl;
  rests = new_devices_rest (λ (s : State). s) (λ (s : State). Unit {0}) 1 blanks refl (All-cons IsBlank blank (blank ∷ blank ∷ blank ∷ []) is_new
      (All-cons IsBlank blank (blank ∷ blank ∷ []) is_new (All-cons IsBlank blank (blank ∷ []) is_new (All-cons IsBlank blank [] is_new (All-nil IsBlank)))));
}

-- The coordinator's files are gone, and the shard's tell that it has learned a write: they are of no one store, whatever its list was.
lost_coordinator : (content : List ℕ) (rs : List Record) → found content [] ≡ Some rs → 0 < (shard_state rs).learned → (first : List Entry) → AreAt first (blank ∷ blank ∷ holding content ∷ blank ∷ []) → ⊥
unfolding found gated current_bank is_complete coordinator_state
lost_coordinator content rs is more first at =
    let rows = (at.rests.each_shard 0 blank (omega arith)).each rs (content, [], leaves_itself content, leaves_itself [], is) in
    let none : [] ≡ first = at.decisions in
    let learned = rows.learned in
    absurd (omega (arith, learned, more, ap length none))

-- The coordinator had three decisions, and forgot the first of them in a checkpoint, at its horizon.
abbrev knew : CoordinatorState
knew = record { base = 0; log = three; horizon = 1; epoch = 1 }

abbrev knows : CoordinatorState
knows = record { base = 1; log = drop 1 three; horizon = 1; epoch = 1 }

abbrev point : List Record
point = coordinator_checkpoint (coordinator_node 7 1) 1 knew

point_is : coordinator_state point ≡ knows
unfolding coordinator_checkpoint coordinator_state coordinator_step
point_is = refl

-- Given its two contents, which have that checkpoint, and those of a shard that has learned two writes
module _ (a b c d : List ℕ) (rs : List Record) (has_point : found a b ≡ Some point) (has_rows : found c d ≡ Some rs) (learned_two : shard_state rs ≡ learned 2 0) where
  abbrev devices : List State
  devices = holding a ∷ holding b ∷ holding c ∷ holding d ∷ []

  longer : IsLonger three 1 [] knows
  longer = record {
    more = [];
    are = record { decisions = refl; base = omega arith; within = omega arith };
    listed = three_listed;
    raised = omega arith;
    within = omega arith;
    past = λ j x none. absurd cc;
  }

  rows_of : AreRowsOf 1 0 three 1 (learned 2 0)
  rows_of = record {
    learned = two_are_learned.learned;
    horizon = omega arith;
    within = two_are_learned.within;
    whole = two_are_learned.whole;
    rows = two_are_learned.rows;
  }

  rows : RowsAnywhere (λ (s : State). s) (λ (s : State). Unit {0}) 1 0 (holding c) (holding d) three 1
  rows = record {
    honest_a = tt;
    honest_b = tt;
    each = λ other finds.
        subst (λ (l : List Record). AreRowsOf 1 0 three 1 (shard_state l)) (found_again (λ (s : State). s) (holding c) (holding d) rs (just_holds c) (just_holds d) has_rows other finds)
        (subst (AreRowsOf 1 0 three 1) (sym learned_two) rows_of);
  }

  -- All four are at rest, at the three writes, of which the coordinator has the last two.
  checkpointed : AreAt three devices
  checkpointed = at_rest_with (λ (s : State). s) (λ (s : State). Unit {0}) 1 devices blank refl point three (just_holds a) (just_holds b) has_point tt tt
      (ap (λ (k : CoordinatorState). k.log) point_is ∙ ap (λ (k : CoordinatorState). drop k.base three) (sym point_is))
      (subst (λ (k : CoordinatorState). IsLonger three k.horizon [] k) (sym point_is) longer)
      (λ k lt. subst (λ (k : ℕ). RowsAnywhere (λ (s : State). s) (λ (s : State). Unit {0}) 1 k (slice_index_or devices (2 * k + 2) blank) (slice_index_or devices (2 * k + 3) blank) three (coordinator_state point).horizon)
      (let zero : 0 ≡ k = omega (arith, lt) in zero)
      (subst (λ (h : ℕ). RowsAnywhere (λ (s : State). s) (λ (s : State). Unit {0}) 1 0 (holding c) (holding d) three h) (ap (λ (k : CoordinatorState). k.horizon) (sym point_is)) rows))

  -- and not at a list that lacks the last of them
  lacks_the_last : AreAt (take 2 three) devices → ⊥
  lacks_the_last at =
      let read : found_coordinator (λ (s : State). s) devices ≡ knows = ap (λ o. coordinator_state (or_none o)) has_point ∙ point_is in
      let so : RestsWith (λ (s : State). s) (λ (s : State). Unit {0}) 1 (take 2 three) devices knows = subst (λ (k : CoordinatorState). RestsWith (λ (s : State). s) (λ (s : State). Unit {0}) 1 (take 2 three) devices k) read at in
      let same : drop 1 three ≡ drop 1 (take 2 three) = so.decisions in
      absurd cc

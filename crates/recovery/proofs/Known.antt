-- What is so of each decision that a coordinator's records have.
use Rattle.std.proofs.Common.{◌≡◌, ◌≢◌, ◌≤◌, ◌+◌, ⊎_elim, ℕ, All, List, [], ◌∷◌, ◌++◌, Option, Some, None, length, slice_get, refl, sym, ◌∙◌, ap, subst, arith, append_assoc}
use Rattle.std.proofs.lemmas.List.{append-nil}
use Rattle.tuples.specs.declared.change.Condition.{Condition}
use Rattle.tuples.specs.declared.entry.Entry.{Entry}
use Rattle.tuples.proofs.Lists.{cut_last, no_element}
use Rattle.tuples.proofs.Options.{never_none}
use Rattle.records.specs.declared.mark.Inside.{Inside}
use Rattle.records.specs.declared.mark.Mark.TheVariants.{Begins, Row, Ends}
use Rattle.records.specs.declared.mark.Stage.{Stage}
use Rattle.records.specs.declared.mark.Stage.TheVariants.{Begun, Opened, Bounded, Listed, Doubted}
use Rattle.records.specs.declared.record.Record.{Record}
use Rattle.records.specs.declared.record.Record.TheVariants.{Prepare, Learned, Dropped, Epoch, Decision, Horizon, Checkpoint}
use Rattle.records.specs.Coordinators.{BeginsCoordinatorImage, CoordinatorState, HoldsKnown, IsCoordinatorImage, MayComeNext, MayComeNextInside, MayDecide, MayFollowNext, coordinator_state, coordinator_step, end_of}
use Rattle.records.specs.Identity.{Identity, coordinator_number}
use Rattle.records.specs.Inside.{MayBegin, inside_of, inside_step}
use Rattle.records.specs.Replays.{AskOfLog, greatest_number}
use Rattle.records.proofs.CoordinatorStates.{coordinator_push}
use Rattle.records.proofs.Insides.{inside_push}

-- decisions after a base, and nothing else
abbrev pub knowing : ℕ → List Entry → CoordinatorState
knowing base log = record { base = base; log = log; horizon = 0; epoch = 0 }

-- a write was decided after these decisions, which stand after a base
pub record IsDecided (base : ℕ) (before : List Entry) (w : Entry) : Type 0 where
  pub place : base + length before + 1 ≤ greatest_number
  pub new : (j : ℕ) (v : Entry) → slice_get before j ≡ Some v → v.id ≢ w.id
  pub conditions : All (λ (c : Condition). HoldsKnown (knowing base before) c) w.conditions
  pub some_epoch : 1 ≤ w.id.epoch
  pub epoch : w.id.epoch ≤ greatest_number
  pub some_number : 1 ≤ w.id.number
  pub number : w.id.number ≤ greatest_number
  pub places : AskOfLog w.conditions

abbrev pub AreDecided : ℕ → List Entry → Type 0
AreDecided base log = (before after : List Entry) (w : Entry) → log ≡ before ++ w ∷ after → IsDecided base before w

-- the place after which the decisions stand that were read so far
abbrev pub base_of : Option Inside → CoordinatorState → ℕ
base_of None s = s.base
base_of (Some i) s = s.horizon

-- how far a checkpoint has come
abbrev pub IsAt : Stage → CoordinatorState → Type 0
IsAt Begun s = (s.log ≡ []) × (s.horizon ≡ 0)
IsAt Opened s = (s.log ≡ []) × ((s.horizon ≡ 0) × (1 ≤ s.epoch))
IsAt Bounded s = 1 ≤ s.epoch
IsAt Listed s = ⊥
IsAt Doubted s = ⊥

abbrev pub HasCome : Option Inside → CoordinatorState → Type 0
HasCome None s = s.epoch ≡ 0 → (s.log ≡ []) × (s.horizon ≡ 0)
HasCome (Some i) s = IsAt i.stage s

pub record IsKnown (me : Identity) (i : Option Inside) (s : CoordinatorState) : Type 0 where
  pub each : AreDecided (base_of i s) s.log
  pub epoch : s.epoch ≤ greatest_number
  pub horizon : s.horizon ≤ greatest_number
  pub low : base_of i s ≤ s.horizon
  pub fits : base_of i s + length s.log ≤ greatest_number
  pub within : i ≡ None → s.horizon ≤ end_of s
  pub node : 1 ≤ s.epoch → me.node ≡ coordinator_number
  pub come : HasCome i s

-- ---- one more decision

none_decided : (base : ℕ) (log : List Entry) → log ≡ [] → AreDecided base log
none_decided base log empty before after w is = absurd (no_element before after w (sym empty ∙ is))

may_decided : (s : CoordinatorState) (place : ℕ) (w : Entry) → MayDecide s place w → IsDecided s.base s.log w
may_decided s place w may = record {
  place = (let a = may.next in let b = may.place_fits in omega (arith, a, b));
  new = may.new;
  conditions = may.conditions;
  some_epoch = may.some_epoch;
  epoch = may.epoch;
  some_number = may.some_number;
  number = may.number;
  places = may.places;
}

one_more : (base : ℕ) (log : List Entry) (w : Entry) → AreDecided base log → IsDecided base log w → AreDecided base (log ++ w ∷ [])
one_more base log w each decided before after v is = ⊎_elim
    (λ new. subst (λ (u : Entry). IsDecided base before u) new.1 (subst (λ (l : List Entry). IsDecided base l w) new.0 decided))
    (λ old. each before old.0 v old.1)
    (cut_last log before after w v is)

longer : (log : List Entry) (w : Entry) → length (log ++ w ∷ []) ≡ length log + 1
longer [] w = refl
longer (v ∷ log) w = let e = longer log w in omega (arith, e)

-- ---- one more record

known_outside : (me : Identity) (s : CoordinatorState) (r : Record) → IsKnown me None s → MayComeNext me s r → IsKnown me (inside_step None r) (coordinator_step s r)
unfolding coordinator_step
known_outside me s (Prepare w) known may = absurd may
known_outside me s (Learned to placed_ids) known may = absurd may
known_outside me s (Dropped id) known may = absurd may
known_outside me s (Epoch epoch store shards node) known may = record {
  each = known.each;
  epoch = may.greatest;
  horizon = known.horizon;
  low = known.low;
  fits = known.fits;
  within = λ none. known.within refl;
  node = λ opened. may.coordinator;
  come = λ unopened. (let a = may.next in absurd (omega (arith, unopened, a)));
}
known_outside me s (Decision place w) known may = record {
  each = one_more s.base s.log w known.each (may_decided s place w may);
  epoch = known.epoch;
  horizon = known.horizon;
  low = known.low;
  fits = (let a = may.next in let b = may.place_fits in let c = longer s.log w in omega (arith, a, b, c));
  within = λ none. (let a = known.within refl in let b = longer s.log w in omega (arith, a, b));
  node = known.node;
  come = λ unopened. (let a = may.opened in absurd (omega (arith, unopened, a)));
}
known_outside me s (Horizon place) known may = record {
  each = known.each;
  epoch = known.epoch;
  horizon = (let a = may.within in let b = known.fits in omega (arith, a, b));
  low = (let a = known.low in let b = may.on in omega (arith, a, b));
  fits = known.fits;
  within = λ none. may.within;
  node = known.node;
  come = λ unopened. (let a = may.opened in absurd (omega (arith, unopened, a)));
}
known_outside me s (Checkpoint mark) known may = absurd may

known_begun : (me : Identity) (s : CoordinatorState) (r : Record) → IsKnown me None s → MayBegin s.epoch r → IsKnown me (inside_step None r) (coordinator_step s r)
unfolding coordinator_step
known_begun me s (Prepare w) known may = absurd may
known_begun me s (Learned to placed_ids) known may = absurd may
known_begun me s (Dropped id) known may = absurd may
known_begun me s (Epoch epoch store shards node) known may = absurd may
known_begun me s (Decision place w) known may = absurd may
known_begun me s (Horizon place) known may = absurd may
known_begun me s (Checkpoint (Begins generation)) known may = record {
  each = none_decided s.horizon s.log (known.come may.unopened).0;
  epoch = known.epoch;
  horizon = known.horizon;
  low = omega arith;
  fits = (let a = known.come may.unopened in let none = ap length a.0 in let low = a.1 in omega (arith, none, low));
  within = never_none;
  node = known.node;
  come = known.come may.unopened;
}
known_begun me s (Checkpoint (Row place change)) known may = absurd may
known_begun me s (Checkpoint (Ends generation)) known may = absurd may

-- what is so at a stage is so at that of which the checkpoint is
at_stage : (i : Inside) (s : CoordinatorState) (stage : Stage) → i.stage ≡ stage → IsAt i.stage s → IsAt stage s
at_stage i s stage is come = subst (λ (t : Stage). IsAt t s) is come

known_inside : (me : Identity) (i : Inside) (s : CoordinatorState) (r : Record) → IsKnown me (Some i) s → MayComeNextInside me i s r → IsKnown me (inside_step (Some i) r) (coordinator_step s r)
unfolding coordinator_step
known_inside me i s (Prepare w) known may = absurd may
known_inside me i s (Learned to placed_ids) known may = absurd may
known_inside me i s (Dropped id) known may = absurd may
known_inside me i s (Epoch epoch store shards node) known may =
    let at = at_stage i s Begun may.may.after known.come in
    record { each = known.each; epoch = may.may.greatest; horizon = known.horizon; low = omega arith; fits = known.fits; within = never_none; node = λ opened. may.coordinator; come = (at.0, (at.1, may.may.some)) }
known_inside me i s (Decision place w) known may =
    record {
      each = one_more s.horizon s.log w known.each (may_decided (record s { base = s.horizon }) place w may.may);
      epoch = known.epoch;
      horizon = known.horizon;
      low = omega arith;
      fits = (let a = may.may.next in let b = may.may.place_fits in let c = longer s.log w in omega (arith, a, b, c));
      within = never_none;
      node = known.node;
      come = subst (λ (t : Stage). IsAt t (record s { log = s.log ++ w ∷ [] })) (sym may.after) (at_stage i s Bounded may.after known.come);
    }
known_inside me i s (Horizon place) known may =
    let at = at_stage i s Opened may.after known.come in
    record { each = none_decided place s.log at.0; epoch = known.epoch; horizon = may.fits; low = omega arith; fits = (let none = ap length at.0 in let b = may.fits in omega (arith, none, b)); within = never_none; node = known.node; come = at.1.1 }
known_inside me i s (Checkpoint (Begins generation)) known may = absurd may
known_inside me i s (Checkpoint (Row place change)) known may = absurd may
known_inside me i s (Checkpoint (Ends generation)) known may =
    let at = at_stage i s Bounded may.after known.come in
    record {
      each = known.each;
      epoch = known.epoch;
      horizon = known.horizon;
      low = omega arith;
      fits = known.fits;
      within = λ none. omega arith;
      node = known.node;
      come = λ unopened. absurd (omega (arith, unopened, at));
    }

known_step : (me : Identity) (i : Option Inside) (s : CoordinatorState) (r : Record) → IsKnown me i s → MayFollowNext me i s r → IsKnown me (inside_step i r) (coordinator_step s r)
known_step me None s r known may = ⊎_elim (known_outside me s r known) (known_begun me s r known) may
known_step me (Some i) s r known may = known_inside me i s r known may

known_from : (me : Identity) (before rs : List Record) → BeginsCoordinatorImage me (before ++ rs) → IsKnown me (inside_of before) (coordinator_state before) → IsKnown me (inside_of (before ++ rs)) (coordinator_state (before ++ rs))
known_from me before [] image known = subst (λ (l : List Record). IsKnown me (inside_of l) (coordinator_state l)) (sym (append-nil before)) known
known_from me before (r ∷ rs) image known =
    let whole : (before ++ r ∷ []) ++ rs ≡ before ++ r ∷ rs = append_assoc before (r ∷ []) rs in
    let next : IsKnown me (inside_of (before ++ r ∷ [])) (coordinator_state (before ++ r ∷ [])) =
    subst (λ (i : Option Inside). IsKnown me i (coordinator_state (before ++ r ∷ []))) (sym (inside_push before r))
    (subst (IsKnown me (inside_step (inside_of before) r)) (sym (coordinator_push before r)) (known_step me (inside_of before) (coordinator_state before) r known (image before rs r refl))) in
    subst (λ (l : List Record). IsKnown me (inside_of l) (coordinator_state l)) whole (known_from me (before ++ r ∷ []) rs (subst (BeginsCoordinatorImage me) (sym whole) image) next)

known_empty : (me : Identity) → IsKnown me (inside_of []) (coordinator_state [])
unfolding inside_of coordinator_state
known_empty me = record { each = none_decided 0 [] refl; epoch = omega arith; horizon = omega arith; low = omega arith; fits = omega arith; within = λ none. omega arith; node = λ opened. absurd (omega (arith, opened)); come = λ unopened. (refl, refl) }

pub image_known : (me : Identity) (rs : List Record) → IsCoordinatorImage me rs → IsKnown me None (coordinator_state rs)
image_known me rs image = subst (λ (i : Option Inside). IsKnown me i (coordinator_state rs)) image.whole (known_from me [] rs image.each (known_empty me))

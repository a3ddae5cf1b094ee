-- A checkpoint of a coordinator is the coordinator's, and stands for what its records stand for above the horizon.
use Rattle.std.proofs.Common.{◌≡◌, ◌≤◌, ◌+◌, ◌-◌, inl, inr, ⊎_elim, ℕ, suc, Bool, true, List, [], ◌∷◌, ◌++◌, Option, Some, None, length, take, drop, slice_get, refl, sym, ◌∙◌, ap, subst, arith, append_assoc}
use Rattle.std.specs.List.{list_any}
use Rattle.std.proofs.lemmas.List.{append-nil, length-take-le, take-append-drop}
use Rattle.std.proofs.lemmas.List.Elements.{All-weaker}
use Rattle.std.proofs.lemmas.List.Folds.{list_any-append}
use Rattle.std.proofs.lemmas.Bool.{or_right}
use Rattle.tuples.specs.declared.change.Condition.{Condition}
use Rattle.tuples.specs.declared.entry.Entry.{Entry}
use Rattle.tuples.specs.Changes.{changed, has_tuple}
use Rattle.tuples.specs.Log.{is_at, last_from, meets_want}
use Rattle.records.specs.declared.mark.Inside.{Inside}
use Rattle.records.specs.declared.mark.Mark.TheVariants.{Ends}
use Rattle.records.specs.declared.mark.Stage.TheVariants.{Bounded}
use Rattle.records.specs.declared.record.Record.{Record}
use Rattle.records.specs.declared.record.Record.TheVariants.{Checkpoint}
use Rattle.records.specs.Checkpoints.{coordinator_checkpoint, decisions_from}
use Rattle.records.specs.Coordinators.{BeginsCoordinatorImage, CoordinatorState, HoldsKnown, MayFollowNext, coordinator_from, coordinator_state, coordinator_step, empty_coordinator, end_of}
use Rattle.records.specs.Identity.{Identity}
use Rattle.records.specs.Inside.{inside_from, inside_of, inside_step}
use Rattle.records.specs.Replays.{greatest_number}
use Rattle.records.proofs.CoordinatorStates.{coordinator_empty, coordinator_more, coordinator_push}
use Rattle.records.proofs.Insides.{inside_push}
use Rattle.records.proofs.LastWrites.{last_behind, there_behind}
use Rattle.recovery.specs.Checkpoints.{CoordinatorCheckpointsStand, above_horizon}
use Rattle.recovery.proofs.Known.{AreDecided, IsDecided, IsKnown, image_known, knowing}

-- ---- records that may follow one another

abbrev pub FollowAll : Identity → Option Inside → CoordinatorState → List Record → Type 0
FollowAll me i s [] = Unit {0}
FollowAll me i s (r ∷ rs) = MayFollowNext me i s r × FollowAll me (inside_step i r) (coordinator_step s r) rs

pub begins_from : (me : Identity) (before rs : List Record) → BeginsCoordinatorImage me before → FollowAll me (inside_of before) (coordinator_state before) rs → BeginsCoordinatorImage me (before ++ rs)
begins_from me before [] begins follow = subst (BeginsCoordinatorImage me) (sym (append-nil before)) begins
begins_from me before (r ∷ rs) begins follow =
    let next : FollowAll me (inside_of (before ++ r ∷ [])) (coordinator_state (before ++ r ∷ [])) rs =
    subst (λ (i : Option Inside). FollowAll me i (coordinator_state (before ++ r ∷ [])) rs) (sym (inside_push before r))
    (subst (λ (s : CoordinatorState). FollowAll me (inside_step (inside_of before) r) s rs) (sym (coordinator_push before r)) follow.1) in
    subst (BeginsCoordinatorImage me) (append_assoc before (r ∷ []) rs) (begins_from me (before ++ r ∷ []) rs (coordinator_more me before r begins follow.0) next)

-- ---- decisions without the first of them

get_behind : (xs ys : List Entry) (j : ℕ) (v : Entry) → slice_get ys j ≡ Some v → slice_get (xs ++ ys) (length xs + j) ≡ Some v
get_behind [] ys j v at = subst (λ (n : ℕ). slice_get ys n ≡ Some v) (let e : j ≡ 0 + j = omega arith in e) at
get_behind (x ∷ xs) ys j v at = subst (λ (n : ℕ). slice_get (x ∷ xs ++ ys) n ≡ Some v) (let e : suc (length xs + j) ≡ length (x ∷ xs) + j = omega arith in e) (get_behind xs ys j v at)

changed_behind : (c : Condition) (xs ys : List Entry) → list_any (λ (w : Entry). has_tuple c.tuple (changed w.changes)) ys ≡ true → list_any (λ (w : Entry). has_tuple c.tuple (changed w.changes)) (xs ++ ys) ≡ true
changed_behind c xs ys has =
    list_any-append (λ (w : Entry). has_tuple c.tuple (changed w.changes)) xs ys
    ∙ or_right (list_any (λ (w : Entry). has_tuple c.tuple (changed w.changes)) xs) (list_any (λ (w : Entry). has_tuple c.tuple (changed w.changes)) ys) has

-- a condition that is known to hold by longer decisions is known to by the last of them
holds_behind : (base : ℕ) (xs ys : List Entry) (c : Condition) → HoldsKnown (knowing base (xs ++ ys)) c → HoldsKnown (knowing (base + length xs) ys) c
holds_behind base xs ys c holds enough =
    ap (λ (n : ℕ). meets_want c.want n (is_at ys (length ys) c.tuple)) (sym (last_behind base c.tuple ys xs enough))
    ∙ ap (λ (b : Bool). meets_want c.want (last_from 0 (base + 1) c.tuple (xs ++ ys)) b) (sym (there_behind base c.tuple ys xs enough))
    ∙ holds (⊎_elim (λ none. inl (omega (arith, none))) (λ has. inr (changed_behind c xs ys has)) enough)

decided_behind : (base : ℕ) (xs ys : List Entry) (w : Entry) → IsDecided base (xs ++ ys) w → IsDecided (base + length xs) ys w
decided_behind base xs ys w decided = record {
  place = (let a = decided.place in let b = length_both xs ys in omega (arith, a, b));
  new = λ j v at. decided.new (length xs + j) v (get_behind xs ys j v at);
  conditions = All-weaker (λ (c : Condition). HoldsKnown (knowing base (xs ++ ys)) c) (λ (c : Condition). HoldsKnown (knowing (base + length xs) ys) c) (λ c holds. holds_behind base xs ys c holds) w.conditions decided.conditions;
  some_epoch = decided.some_epoch;
  epoch = decided.epoch;
  some_number = decided.some_number;
  number = decided.number;
  places = decided.places;
}
  where
    length_both : (xs ys : List Entry) → length (xs ++ ys) ≡ length xs + length ys
    length_both [] ys = omega arith
    length_both (x ∷ xs) ys = let e = length_both xs ys in omega (arith, e)

all_behind : (base : ℕ) (xs ys : List Entry) → AreDecided base (xs ++ ys) → AreDecided (base + length xs) ys
all_behind base xs ys each before after w is =
    decided_behind base xs before w (each (xs ++ before) after w (ap (λ (l : List Entry). xs ++ l) is ∙ sym (append_assoc xs before (w ∷ after))))

above : (s : CoordinatorState) → s.base ≤ s.horizon → s.horizon ≤ end_of s → AreDecided s.base s.log → AreDecided s.horizon (drop (s.horizon - s.base) s.log)
above s low within each =
    let n = s.horizon - s.base in
    let long : n ≤ length s.log = omega (arith, low, within) in
    let size : length (take n s.log) ≡ n = length-take-le n s.log long in
    let at : s.base + length (take n s.log) ≡ s.horizon = omega (arith, size, low) in
    subst (λ (b : ℕ). AreDecided b (drop n s.log)) at (all_behind s.base (take n s.log) (drop n s.log) (subst (AreDecided s.base) (sym (take-append-drop n s.log)) each))

module _ (me : Identity) (generation : ℕ) where
  abbrev listing : Option Inside
  listing = Some (record { generation = generation; stage = Bounded })

  -- ---- what it stands for

  decisions_behind : (s : CoordinatorState) (place : ℕ) (ws : List Entry) (rs : List Record) → coordinator_from s (decisions_from place ws ++ rs) ≡ coordinator_from (record s { log = s.log ++ ws }) rs
  unfolding coordinator_step
  decisions_behind s place [] rs = ap (λ (l : List Entry). coordinator_from (record s { log = l }) rs) (sym (append-nil s.log))
  decisions_behind s place (w ∷ ws) rs = decisions_behind (record s { log = s.log ++ w ∷ [] }) (place + 1) ws rs ∙ ap (λ (l : List Entry). coordinator_from (record s { log = l }) rs) (append_assoc s.log (w ∷ []) ws)

  abbrev head_of : CoordinatorState → CoordinatorState
  head_of s = record { base = 0; log = []; horizon = s.horizon; epoch = s.epoch }

  pub checkpoint_state : (s : CoordinatorState) → coordinator_state (coordinator_checkpoint me generation s) ≡ above_horizon s
  unfolding coordinator_state coordinator_step coordinator_checkpoint
  checkpoint_state s = decisions_behind (head_of s) (s.horizon + 1) (drop (s.horizon - s.base) s.log) (Checkpoint (Ends generation) ∷ [])

  -- ---- that its records may follow one another

  follow_decisions : (s : CoordinatorState) (done ws : List Entry) (place : ℕ) → place ≡ s.horizon + length done + 1 → 1 ≤ s.epoch → AreDecided s.horizon (done ++ ws)
      → FollowAll me listing (record s { log = done }) (decisions_from place ws ++ Checkpoint (Ends generation) ∷ [])
  unfolding coordinator_step
  follow_decisions s done [] place at opened each = (record { after = refl; same = refl }, tt)
  follow_decisions s done (w ∷ ws) place at opened each =
      let here = each done ws w refl in (
        record {
          after = refl;
          may = record {
            opened = opened;
            next = at;
            place_fits = (let a = here.place in omega (arith, at, a));
            new = here.new;
            conditions = here.conditions;
            some_epoch = here.some_epoch;
            epoch = here.epoch;
            some_number = here.some_number;
            number = here.number;
            places = here.places;
          };
        },
        follow_decisions s (done ++ w ∷ []) ws (place + 1) (let b = longer done w in omega (arith, at, b)) opened (subst (AreDecided s.horizon) (sym (append_assoc done (w ∷ []) ws)) each),
      )
    where
      longer : (log : List Entry) (w : Entry) → length (log ++ w ∷ []) ≡ length log + 1
      longer [] w = refl
      longer (v ∷ log) w = let e = longer log w in omega (arith, e)

  follow_checkpoint : (s : CoordinatorState) → 1 ≤ generation → generation ≤ greatest_number → 1 ≤ s.epoch → IsKnown me None s → FollowAll me None empty_coordinator (coordinator_checkpoint me generation s)
  unfolding coordinator_step coordinator_checkpoint
  follow_checkpoint s some greatest opened known = (
    inr (record { unopened = refl; some = some; greatest = greatest }),
    (
      record { may = record { after = refl; some = opened; greatest = known.epoch; same_store = refl; same_shards = refl; same_node = refl }; coordinator = known.node opened },
      (
        record { after = refl; on = omega arith; fits = known.horizon },
        follow_decisions (head_of s) [] (drop (s.horizon - s.base) s.log) (s.horizon + 1) (omega arith) opened (above s known.low (known.within refl) known.each),
      ),
    ),
  )

  -- ---- that it ends

  inside_decisions : (place : ℕ) (ws : List Entry) → inside_from listing (decisions_from place ws ++ Checkpoint (Ends generation) ∷ []) ≡ None
  inside_decisions place [] = refl
  inside_decisions place (w ∷ ws) = inside_decisions (place + 1) ws

  checkpoint_ends : (s : CoordinatorState) → inside_of (coordinator_checkpoint me generation s) ≡ None
  unfolding inside_of coordinator_checkpoint
  checkpoint_ends s = inside_decisions (s.horizon + 1) (drop (s.horizon - s.base) s.log)

pub follows_nothing : (me : Identity) (rs : List Record) → FollowAll me None empty_coordinator rs → FollowAll me (inside_of []) (coordinator_state []) rs
unfolding inside_of coordinator_state
follows_nothing me rs follow = follow

pub checkpoints_stand : CoordinatorCheckpointsStand
checkpoints_stand me rs generation image opened some greatest =
    let s = coordinator_state rs in
    let known = image_known me rs image in
    let cs = coordinator_checkpoint me generation s in
    record {
      image = record { each = begins_from me [] cs (coordinator_empty me).each (follows_nothing me cs (follow_checkpoint me generation s some greatest opened known)); whole = checkpoint_ends me generation s };
      state = checkpoint_state me generation s;
      above = known.low;
      within = known.within refl;
    }

-- One more record at the coordinator: what the records stand for then, and that they are still a coordinator's.
use Rattle.std.proofs.Common.{◌≡◌, ◌⊎◌, inl, inr, ⊎_elim, List, [], ◌∷◌, ◌++◌, Option, Some, None, refl, sym, ap, ◌∙◌, subst, append_assoc}
use Rattle.std.proofs.lemmas.List.{append-nil}
use Rattle.records.specs.declared.mark.Inside.{Inside}
use Rattle.records.specs.declared.mark.Mark.{Mark}
use Rattle.records.specs.declared.record.Record.{Record}
use Rattle.records.specs.declared.record.Record.TheVariants.{Prepare, Learned, Dropped, Epoch, Decision, Horizon, Checkpoint}
use Rattle.records.specs.Coordinators.{BeginsCoordinatorImage, CoordinatorState, IsCoordinatorImage, MayComeNext, MayComeNextInside, MayFollowNext, coordinator_from, coordinator_state, coordinator_step, empty_coordinator}
use Rattle.records.specs.Inside.{MayBegin, begun_by, inside_of, inside_step}
use Rattle.records.specs.Replays.{Identity}
use Rattle.records.proofs.Insides.{UnlessMark, begin_is_mark, end_is_mark, inside_push, unless_mark}
use Rattle.tuples.proofs.Lists.{cut_last, no_element}

pub coordinator_from-append : (s : CoordinatorState) (rs more : List Record) → coordinator_from s (rs ++ more) ≡ coordinator_from (coordinator_from s rs) more
coordinator_from-append s [] more = refl
coordinator_from-append s (r ∷ rs) more = coordinator_from-append (coordinator_step s r) rs more

pub coordinator_push : (rs : List Record) (r : Record) → coordinator_state (rs ++ r ∷ []) ≡ coordinator_step (coordinator_state rs) r
unfolding coordinator_state
coordinator_push rs r = coordinator_from-append empty_coordinator rs (r ∷ [])

pub coordinator_empty : (me : Identity) → IsCoordinatorImage me []
unfolding inside_of
coordinator_empty me = record { each = λ before after r is. absurd (no_element before after r is); whole = refl }

-- one more record of those that are read
pub coordinator_more : (me : Identity) (rs : List Record) (r : Record) → BeginsCoordinatorImage me rs → MayFollowNext me (inside_of rs) (coordinator_state rs) r → BeginsCoordinatorImage me (rs ++ r ∷ [])
coordinator_more me rs r begins may before after x is = ⊎_elim
    (λ new. subst (λ (y : Record). MayFollowNext me (inside_of before) (coordinator_state before) y) new.1 (subst (λ (ys : List Record). MayFollowNext me (inside_of ys) (coordinator_state ys) r) new.0 may))
    (λ old. begins before old.0 x old.1)
    (cut_last rs before after r x is)

-- what may come next begins no checkpoint
next_outside : (me : Identity) (s : CoordinatorState) (r : Record) → MayComeNext me s r → begun_by r ≡ None
next_outside me s (Prepare w) may = absurd may
next_outside me s (Learned to placed_ids) may = absurd may
next_outside me s (Dropped id) may = absurd may
next_outside me s (Epoch epoch store shards node) may = refl
next_outside me s (Decision place w) may = refl
next_outside me s (Horizon place) may = refl
next_outside me s (Checkpoint mark) may = absurd may

pub coordinator_image_push : (me : Identity) (rs : List Record) (r : Record) → IsCoordinatorImage me rs → MayComeNext me (coordinator_state rs) r → IsCoordinatorImage me (rs ++ r ∷ [])
coordinator_image_push me rs r image may = record {
  each = coordinator_more me rs r image.each (subst (λ (i : Option Inside). MayFollowNext me i (coordinator_state rs) r) (sym image.whole) (inl may));
  whole = inside_push rs r ∙ ap (λ (i : Option Inside). inside_step i r) image.whole ∙ next_outside me (coordinator_state rs) r may;
}

last_of : (me : Identity) (i : Option Inside) (s : CoordinatorState) (r : Record) → MayFollowNext me i s r → inside_step i r ≡ None → UnlessMark r (MayComeNext me s r)
last_of me None s r (inl may) whole = unless_mark r (MayComeNext me s r) may
last_of me None s r (inr begins) whole = begin_is_mark s.epoch r (MayComeNext me s r) begins
last_of me (Some i) s r may whole = end_is_mark i r (MayComeNext me s r) whole

-- the last record of a coordinator's records might come next, if it is not the end of a checkpoint
pub coordinator_last : (me : Identity) (rs : List Record) (r : Record) → IsCoordinatorImage me (rs ++ r ∷ []) → UnlessMark r (MayComeNext me (coordinator_state rs) r)
coordinator_last me rs r image = last_of me (inside_of rs) (coordinator_state rs) r (image.each rs [] r refl) (sym (inside_push rs r) ∙ image.whole)

-- what each record keeps is true of all of them
module _ (me : Identity) (P : CoordinatorState → Type 0)
    (next : (s : CoordinatorState) (r : Record) → P s → MayComeNext me s r → P (coordinator_step s r))
    (inside : (i : Inside) (s : CoordinatorState) (r : Record) → P s → MayComeNextInside me i s r → P (coordinator_step s r))
    (begins : (s : CoordinatorState) (mark : Mark) → P s → MayBegin s.epoch (Checkpoint mark) → P (coordinator_step s (Checkpoint mark))) where
  begun : (s : CoordinatorState) (r : Record) → P s → MayBegin s.epoch r → P (coordinator_step s r)
  begun s (Prepare w) p may = absurd may
  begun s (Learned to placed_ids) p may = absurd may
  begun s (Dropped id) p may = absurd may
  begun s (Epoch epoch store shards node) p may = absurd may
  begun s (Decision place w) p may = absurd may
  begun s (Horizon place) p may = absurd may
  begun s (Checkpoint mark) p may = begins s mark p may

  kept_by : (i : Option Inside) (s : CoordinatorState) (r : Record) → P s → MayFollowNext me i s r → P (coordinator_step s r)
  kept_by None s r p (inl may) = next s r p may
  kept_by None s r p (inr may) = begun s r p may
  kept_by (Some i) s r p may = inside i s r p may

  pub coordinator_keeps : (before rs : List Record) → BeginsCoordinatorImage me (before ++ rs) → P (coordinator_state before) → P (coordinator_state (before ++ rs))
  coordinator_keeps before [] image p = subst (λ (l : List Record). P (coordinator_state l)) (sym (append-nil before)) p
  coordinator_keeps before (r ∷ rs) image p =
      let whole : (before ++ r ∷ []) ++ rs ≡ before ++ r ∷ rs = append_assoc before (r ∷ []) rs in
      let one : P (coordinator_state (before ++ r ∷ [])) = subst P (sym (coordinator_push before r)) (kept_by (inside_of before) (coordinator_state before) r p (image before rs r refl)) in
      subst (λ (l : List Record). P (coordinator_state l)) whole (coordinator_keeps (before ++ r ∷ []) rs (subst (BeginsCoordinatorImage me) (sym whole) image) one)

pub state_of_more : (rs more : List Record) → coordinator_state (rs ++ more) ≡ coordinator_from (coordinator_state rs) more
unfolding coordinator_state
state_of_more rs more = coordinator_from-append empty_coordinator rs more

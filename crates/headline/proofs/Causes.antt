-- A node that was opened again is up, or its opening was refused with its cause.
use Rattle.std.proofs.Common.{◌≡◌, ◌⊎◌, inl, inr, ⊎_elim, ◌+◌, ◌++◌, ℕ, Bool, false, List, [], ◌∷◌, Some, sym, ◌∙◌, ap, subst, if◌then◌else◌}
use Rattle.headline.proofs.Words.{ComesUp, Down, Full, HasFailed, IsFound, IsRevived, NodeName, NodeState, NodeView, Opens, OpensWithCause, Record, Refusal, Reopened, State, coordinator, devices_of, down, found, named, refused, shard, shown, stops, up}
use Rattle.records.specs.Replays.{greatest_number}
use Rattle.journal.specs.Records.{BankLacksRoom, IsOpened, View}
use Rattle.journal.proofs.Failures.{failed_since}
use Rattle.calls.specs.Views as views
use Rattle.laws.specs.Nodes.{epoch_of, opening_record}
use Rattle.turns.specs.Promises.{HasDeviceCause}
use Rattle.turns.specs.ShardOpeningLaws.{AreRevived}
use Rattle.turns.proofs.Rooms.{openings_without_room_have_cause}

pub not_up : (e : Refusal) (durable staged : List Record) → refused e ≡ up durable staged → ⊥
not_up e durable staged is = cc

same_refusal : (e f : Refusal) → refused e ≡ refused f → e ≡ f
same_refusal e f is = cc

down_not_full : Down ≡ Full → ⊥
down_not_full is = cc

-- it shows its records if it is not down
pub shown_up : (is_down : Bool) (durable staged : List Record) → is_down ≡ false → (if is_down then down else up durable staged) ≡ up durable staged
shown_up is_down durable staged is = ap (λ (b : Bool). if b then down else up durable staged) is

module _ {D : Type 0} (state : D → State) (honest : D → Type 0) (moment : D → ℕ) (left_since : D → ℕ → List ℕ → Type 0) (store shards : ℕ) (old new : NodeName → D × D) (n : NodeName) where
  abbrev IsUpWith : NodeState → Type 0
  IsUpWith now = ComesUp state honest moment left_since store shards old n now

  abbrev HasCause : Type 0
  HasCause = HasDeviceCause state honest moment left_since store shards old new n

  -- a node that came up
  came_up : (now : NodeState) (durable staged : List Record) → now ≡ up durable staged → IsUpWith now → OpensWithCause state honest moment left_since store shards old new n now
  came_up now durable staged is comes = record {
    came_up = λ d g same. comes;
    down = λ same. absurd (not_up Down durable staged (sym same ∙ is));
    full = λ same. absurd (not_up Full durable staged (sym same ∙ is));
  }

  -- one whose opening was refused
  stays_out : (e : Refusal) → (e ≡ Down → HasCause) → (e ≡ Full → (was : List Record) × stops state honest store shards old n was × (epoch_of n was ≡ greatest_number))
      → OpensWithCause state honest moment left_since store shards old new n (refused e)
  stays_out e of_down of_full = record {
    came_up = λ d g same. absurd (not_up e d g same);
    down = λ same. of_down (same_refusal e Down same);
    full = λ same. of_full (same_refusal e Full same);
  }

  module _ (a b : D) (hon_a : honest (old n).0) (hon_b : honest (old n).1) (revived_a : IsRevived state honest moment left_since (old n).0 a) (revived_b : IsRevived state honest moment left_since (old n).1 b)
      (fa : IsFound state honest moment left_since (old n).0 a) (fb : IsFound state honest moment left_since (old n).1 b) where
    first : honest a
    first = revived_a.still_honest.0 hon_a

    second : honest b
    second = revived_b.still_honest.0 hon_b

    pub are_revived : AreRevived state honest moment left_since store shards old n a b
    are_revived = record { first = fa.0 hon_a; second = fb.0 hon_b; counts_a = revived_a.counts; counts_b = revived_b.counts }

    -- what reads then a stop could leave before
    was_left : (rs : List Record) → found (state a).seen (state b).seen ≡ Some rs → stops state honest store shards old n rs
    was_left rs is = ((state a).seen, (state b).seen, (fa.0 hon_a).found, (fb.0 hon_b).found, is)

    comes_up : (now : NodeState) (rs durable staged : List Record) → found (state a).seen (state b).seen ≡ Some rs → now ≡ up durable staged
        → durable ≡ rs ++ opening_record store shards n (epoch_of n rs + 1) ∷ [] → staged ≡ [] → OpensWithCause state honest moment left_since store shards old new n now
    comes_up now rs durable staged was is longer none = came_up now durable staged is (record {
      was = rs;
      was_left = was_left rs was;
      is_up = is ∙ ap (λ (l : List Record). up l staged) longer ∙ ap (up (rs ++ opening_record store shards n (epoch_of n rs + 1) ∷ [])) none;
    })

    -- the opening has no room on the current bank
    lacks_room : (rs staged : List Record) (journal : View D) → honest journal.a → honest journal.b → IsOpened state a b rs journal → BankLacksRoom state honest journal.a journal.b journal.end staged → HasCause
    lacks_room rs staged journal hon other opened lacks =
        openings_without_room_have_cause state honest moment left_since store shards old new n a b rs staged journal are_revived hon other opened lacks

    -- a device failed in it
    fails_a : (x y : D) → new n ≡ (x, y) → HasFailed (state a) (state x) → HasCause
    fails_a x y is has = inl (subst (λ (p : D × D). HasFailed (state (old n).0) (state p.0)) (sym is) (failed_since (state (old n).0) (state a) (state x) revived_a.counts has))

    fails_b : (x y : D) → new n ≡ (x, y) → HasFailed (state b) (state y) → HasCause
    fails_b x y is has = inr (inl (subst (λ (p : D × D). HasFailed (state (old n).1) (state p.1)) (sym is) (failed_since (state (old n).1) (state b) (state y) revived_b.counts has)))

module _ {D : Type 0} (state : D → State) (honest : D → Type 0) (moment : D → ℕ) (left_since : D → ℕ → List ℕ → Type 0) (store shards : ℕ) (old new : NodeName → D × D) where
  by_view : (n : NodeName) (a b : D) (hon_a : honest (old n).0) (hon_b : honest (old n).1) (revived_a : IsRevived state honest moment left_since (old n).0 a) (revived_b : IsRevived state honest moment left_since (old n).1 b)
      → IsFound state honest moment left_since (old n).0 a → IsFound state honest moment left_since (old n).1 b → (is : NodeView D) → Opens state honest moment left_since store shards (named n) a b is
      → new n ≡ devices_of is → OpensWithCause state honest moment left_since store shards old new n (shown is)
  by_view coordinator a b hon_a hon_b ra rb fa fb (views.coordinator v) o is =
      let opened = o.ok (ra.still_honest.0 hon_a) (rb.still_honest.0 hon_b) in
      comes_up state honest moment left_since store shards old new coordinator a b hon_a hon_b ra rb fa fb (shown (views.coordinator v)) opened.rs v.durable v.staged opened.was
      (shown_up v.is_down v.durable v.staged o.fresh.1) opened.durable o.fresh.0
  by_view coordinator a b hon_a hon_b ra rb fa fb (views.shard v) o is = absurd o
  by_view coordinator a b hon_a hon_b ra rb fa fb (views.refused e x y) o is = stays_out state honest moment left_since store shards old new coordinator e
      (λ same. ⊎_elim
      (λ of_a. fails_a state honest moment left_since store shards old new coordinator a b hon_a hon_b ra rb fa fb x y is of_a)
      (λ rest. ⊎_elim
      (λ of_b. fails_b state honest moment left_since store shards old new coordinator a b hon_a hon_b ra rb fa fb x y is of_b)
      (λ none. lacks_room state honest moment left_since store shards old new coordinator a b hon_a hon_b ra rb fa fb none.rs _ none.journal (none.same (ra.still_honest.0 hon_a)) (none.same_b (rb.still_honest.0 hon_b))
      (none.found (ra.still_honest.0 hon_a) (rb.still_honest.0 hon_b)) none.lacks)
      rest)
      (o.down same))
      (λ same.
      let full = o.full (ra.still_honest.0 hon_a) (rb.still_honest.0 hon_b) same in
      (full.0, was_left state honest moment left_since store shards old new coordinator a b hon_a hon_b ra rb fa fb full.0 full.1, full.3))
  by_view (shard s) a b hon_a hon_b ra rb fa fb (views.coordinator v) o is = absurd o
  by_view (shard s) a b hon_a hon_b ra rb fa fb (views.shard v) o is =
      let opened = o.ok (ra.still_honest.0 hon_a) (rb.still_honest.0 hon_b) in
      comes_up state honest moment left_since store shards old new (shard s) a b hon_a hon_b ra rb fa fb (shown (views.shard v)) opened.rs v.durable v.staged opened.was
      (shown_up v.is_down v.durable v.staged o.fresh.1) opened.durable o.fresh.0
  by_view (shard s) a b hon_a hon_b ra rb fa fb (views.refused e x y) o is = stays_out state honest moment left_since store shards old new (shard s) e
      (λ same. ⊎_elim
      (λ of_a. fails_a state honest moment left_since store shards old new (shard s) a b hon_a hon_b ra rb fa fb x y is of_a)
      (λ rest. ⊎_elim
      (λ of_b. fails_b state honest moment left_since store shards old new (shard s) a b hon_a hon_b ra rb fa fb x y is of_b)
      (λ none. lacks_room state honest moment left_since store shards old new (shard s) a b hon_a hon_b ra rb fa fb none.rs _ none.journal (none.same (ra.still_honest.0 hon_a)) (none.same_b (rb.still_honest.0 hon_b))
      (none.found (ra.still_honest.0 hon_a) (rb.still_honest.0 hon_b)) none.lacks)
      rest)
      (o.down same))
      (λ same.
      let full = o.full (ra.still_honest.0 hon_a) (rb.still_honest.0 hon_b) same in
      (full.0, was_left state honest moment left_since store shards old new (shard s) a b hon_a hon_b ra rb fa fb full.0 full.1, full.3))

  by_failure : (n : NodeName) (a b : D) (is : NodeView D) → is ≡ views.refused Down a b → new n ≡ devices_of is → HasFailed (state (old n).0) (state a) ⊎ HasFailed (state (old n).1) (state b)
      → OpensWithCause state honest moment left_since store shards old new n (shown is)
  by_failure n a b is same over failed =
      let now : new n ≡ (a, b) = over ∙ ap devices_of same in
      subst (λ (v : NodeView D). OpensWithCause state honest moment left_since store shards old new n (shown v)) (sym same)
      (stays_out state honest moment left_since store shards old new n Down
      (λ of. ⊎_elim
      (λ of_a. inl (subst (λ (p : D × D). HasFailed (state (old n).0) (state p.0)) (sym now) of_a))
      (λ of_b. inr (inl (subst (λ (p : D × D). HasFailed (state (old n).1) (state p.1)) (sym now) of_b)))
      failed)
      (λ full. absurd (down_not_full full)))

  pub opens_with_cause : (n : NodeName) (is : NodeView D) → honest (old n).0 → honest (old n).1 → Reopened state honest moment left_since store shards (named n) (old n).0 (old n).1 is
      → new n ≡ devices_of is → OpensWithCause state honest moment left_since store shards old new n (shown is)
  opens_with_cause n is hon_a hon_b r over = ⊎_elim
      (λ found. by_view n r.a r.b hon_a hon_b r.revived_a r.revived_b found.0 found.1 is found.2 over)
      (λ failed. by_failure n r.a r.b is failed.0 over (⊎_elim (λ of_a. inl of_a.cause) (λ of_b. inr of_b.cause) failed.1))
      r.opens

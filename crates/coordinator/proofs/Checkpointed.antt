-- A checkpoint of what the memory has: it is that of what the coordinator knows, and the memory is what it stands for.
use Rattle.std.proofs.Common.{◌≡◌, ◌≤◌, ◌+◌, ◌-◌, ◌^◌, ◌++◌, ◌∷◌, [], ℕ, List, Option, None, drop, length, length-drop, min, false, refl, sym, ◌∙◌, ap, subst, arith}
use Rattle.std.proofs.lemmas.List.{append-nil, drop-drop}
use Rattle.tuples.specs.declared.entry.Entry.{Entry}
use Rattle.tuples.specs.declared.entry.WriteId.{WriteId}
use Rattle.records.specs.declared.mark.Mark.TheVariants.{Begins, Ends}
use Rattle.records.specs.declared.record.Record.{Record}
use Rattle.records.specs.declared.record.Record.TheVariants.{Checkpoint, Epoch, Horizon}
use Rattle.records.specs.Checkpoints.{coordinator_checkpoint, decisions_from, generation_of}
use Rattle.records.specs.Coordinators.{CoordinatorState, coordinator_state, end_of}
use Rattle.records.specs.Identity.{Identity}
use Rattle.records.specs.Replays.{greatest_number}
use Rattle.recovery.specs.Checkpoints.{above_horizon}
use Rattle.recovery.proofs.Checkpoints.{checkpoint_state}
use Rattle.device.specs.Device.{State}
use Rattle.journal.specs.Ahead.{HasOldOrNewOr, checkpoint_of}
use Rattle.journal.specs.Measures.{bytes_of}
use Rattle.journal.specs.Records.{HasRecords, LeavesEach, View}
use Rattle.ledger.specs.Ledgers.{LedgerValue}
use Rattle.decisions.specs.Checkpoints.{HasOldNewOrPoint, carried_checkpoint, coordinator_of, next_checkpoint}
use Rattle.decisions.specs.Coordinators.{CoordinatorView, IsRunning, memory_of}
use Rattle.coordinator.specs.Checkpoints.{HasLen, told_by}
use Rattle.coordinator.specs.Keeping.{IsKept, Remembers, risen}
use Rattle.coordinator.proofs.Kept.{remembers_flushed}

-- ---- what is told is the checkpoint

told_decisions : (w : CoordinatorState) (l : LedgerValue) (h : ℕ) → w.horizon ≡ h → w.base ≤ l.base → l.base ≤ h → l.log ≡ drop (l.base - w.base) w.log
    → drop (h + 1 - l.base - 1) l.log ≡ drop (w.horizon - w.base) w.log
told_decisions w l h is first behind log =
    ap (drop (h + 1 - l.base - 1)) log ∙ drop-drop (h + 1 - l.base - 1) (l.base - w.base) w.log ∙ ap (λ (n : ℕ). drop n w.log) (omega (arith, is, first, behind))

told_shape : (me : Identity) (g epoch h : ℕ) (log : List Entry) → List Record
told_shape me g epoch h log = Checkpoint (Begins g) ∷ Epoch epoch me.store me.shards me.node ∷ Horizon h ∷ decisions_from (h + 1) log ++ Checkpoint (Ends g) ∷ []

told_is : (me : Identity) (g epoch h : ℕ) (w : CoordinatorState) (l : LedgerValue) → w.epoch ≡ epoch → w.horizon ≡ h → w.base ≤ l.base → l.base ≤ h → l.log ≡ drop (l.base - w.base) w.log
    → checkpoint_of g (told_by me epoch h l) ≡ coordinator_checkpoint me g w
unfolding coordinator_checkpoint told_shape
told_is me g epoch h w l same is first behind log =
    ap (told_shape me g epoch h) (told_decisions w l h is first behind log)
    ∙ ap (λ (n : ℕ). told_shape me g n h (drop (w.horizon - w.base) w.log)) (sym same)
    ∙ ap (λ (n : ℕ). told_shape me g w.epoch n (drop (w.horizon - w.base) w.log)) (sym is)

-- ---- the memory is what it stands for

remembers_above : (w : CoordinatorState) (m : LedgerValue) (epoch end r : ℕ) → Remembers w w m epoch end r None → Remembers (above_horizon w) (above_horizon w) m epoch end r None
remembers_above w m epoch end r was = record {
  opened = was.opened;
  epoch_fits = was.epoch_fits;
  kept_epoch = was.kept_epoch;
  epoch_is = was.epoch_is;
  settled = was.settled;
  first = omega (arith, was.base, was.horizon_is);
  same_base = refl;
  base = was.base;
  horizon_is = was.horizon_is;
  kept_is = omega (arith, same_end, was.kept_is);
  kept_fits = was.kept_fits;
  within = was.within;
  end_is = omega (arith, same_end, was.end_is);
  log =
      was.log ∙ ap (λ (n : ℕ). drop n w.log) (omega (arith, was.first, was.base, was.horizon_is))
      ∙ sym (drop-drop (m.base - w.horizon) (w.horizon - w.base) w.log);
  more = [];
  longer = sym (append-nil (drop (w.horizon - w.base) w.log));
  risen_is = was.risen_is;
  rises = was.rises;
  risen_within = omega (arith, same_end, was.risen_within);
}
  where
    same_end : end_of (above_horizon w) ≡ end_of w
    same_end = omega (arith, length-drop (w.horizon - w.base) w.log, was.first, was.base, was.horizon_is, was.risen_within)

-- ---- the coordinator after it

module _ {D : Type 0} (state : D → State) (honest : D → Type 0) (j k : View D) (me : Identity) (l m : LedgerValue) (epoch kept horizon end : ℕ) (rising : Option ℕ) (numbers : List ℕ) (given : ℕ)
    (was : IsKept state honest j l epoch kept horizon rising numbers given) (h : ℕ) (h_is : h ≡ risen horizon rising) where
  abbrev whole : CoordinatorState
  whole = coordinator_state (was.durable ++ was.staged)

  cs_is : (g : ℕ) → checkpoint_of g (told_by me epoch h l) ≡ coordinator_checkpoint me g whole
  cs_is g =
      let r = was.remembers in
      told_is me g epoch h whole l r.epoch_is (r.risen_is ∙ sym h_is) r.first (omega (arith, r.base, r.rises, r.risen_is, h_is)) r.log

  pub kept_checkpointed : m ≡ record l { base = risen horizon rising; log = drop (risen horizon rising - horizon) l.log } → end ≡ l.base + length l.log → end ≤ greatest_number → j.is_down ≡ false → k.staged ≡ []
      → (honest k.a → honest j.a) → (honest k.b → honest j.b)
      → (honest j.a → honest j.b → (k.durable ≡ checkpoint_of (generation_of j.durable + 1) (told_by me epoch h l)) × HasRecords (state k.a) (state k.b) k.durable)
      → IsKept state honest k m epoch end (risen horizon rising) None numbers given
  kept_checkpointed is end_is fits up fresh back_a back_b written =
      let cs = coordinator_checkpoint me (generation_of j.durable + 1) whole in
      let remembered = remembers_above whole m epoch end (risen horizon rising) (remembers_flushed _ _ l m epoch kept horizon end rising was.remembers is end_is fits) in
      let stands : Remembers (coordinator_state cs) (coordinator_state cs) m epoch end (risen horizon rising) None =
      subst (λ (s : CoordinatorState). Remembers s s m epoch end (risen horizon rising) None) (sym (checkpoint_state me (generation_of j.durable + 1) whole)) remembered in
      record {
        durable = cs;
        staged = [];
        remembers = subst (λ (rs : List Record). Remembers (coordinator_state cs) (coordinator_state rs) m epoch end (risen horizon rising) None) (sym (append-nil cs)) stands;
        in_order = tt;
        last = refl;
        numbers_given = was.numbers_given;
        given_fits = was.given_fits;
        staged_is = λ now. sym fresh;
        backed = λ now ha hb.
            let both = written (back_a ha) (back_b hb) in
            record { rest = both.1; same = sym (both.0 ∙ cs_is (generation_of j.durable + 1)) };
      }

  -- what it is to a coordinator of the same memory, whichever node that is
  pub carried_is : (v : CoordinatorView D) (g : ℕ) → v.durable ≡ j.durable → v.staged ≡ j.staged → v.is_down ≡ j.is_down → v.a ≡ j.a → v.b ≡ j.b → IsRunning state honest v
      → checkpoint_of g (told_by me epoch h l) ≡ coordinator_checkpoint me g (memory_of v)
  carried_is v g durable_is staged_is down_is a_is b_is run =
      let durable = (was.backed (sym down_is ∙ run.up) (subst honest a_is run.honest_a) (subst honest b_is run.honest_b)).same in
      let staged = was.staged_is (sym down_is ∙ run.up) in
      cs_is g
      ∙ ap (λ (rs : List Record). coordinator_checkpoint me g (coordinator_state rs)) (ap (λ (rs : List Record). rs ++ was.staged) (durable ∙ sym durable_is) ∙ ap (λ (rs : List Record). v.durable ++ rs) (staged ∙ sym staged_is))

  -- what is told of the coordinator
  module _ (open_ids : List WriteId) where
    abbrev seen : View D → CoordinatorView D
    seen i = record { a = i.a; b = i.b; end = i.end; durable = i.durable; staged = i.staged; is_down = i.is_down; me = me; open_ids = open_ids; given = given }

    point_here : IsRunning state honest (seen j) → checkpoint_of (generation_of j.durable + 1) (told_by me epoch h l) ≡ next_checkpoint (seen j)
    point_here run =
        let durable = (was.backed run.up run.honest_a run.honest_b).same in
        let staged = was.staged_is run.up in
        cs_is (generation_of j.durable + 1)
        ∙ ap (λ (rs : List Record). coordinator_checkpoint me (generation_of j.durable + 1) (coordinator_state rs)) (ap (λ (rs : List Record). rs ++ was.staged) durable ∙ ap (λ (rs : List Record). j.durable ++ rs) staged)

    -- at every moment
    pub point_moments : (moment : D → ℕ) (left_since : D → ℕ → List ℕ → Type 0) (v : CoordinatorView D) → seen j ≡ v
        → (honest j.a → honest j.b → j.is_down ≡ false → LeavesEach moment left_since j.a j.b k.a k.b (HasOldOrNewOr j.durable j.staged (checkpoint_of (generation_of j.durable + 1) (told_by me epoch h l))))
        → IsRunning state honest v → LeavesEach moment left_since v.a v.b k.a k.b (HasOldNewOrPoint v)
    point_moments moment left_since v is leaves =
        subst (λ (w : CoordinatorView D). IsRunning state honest w → LeavesEach moment left_since w.a w.b k.a k.b (HasOldNewOrPoint w)) is
        (λ run.
        let each = leaves run.honest_a run.honest_b run.up in
        subst (λ (cs : List Record). LeavesEach moment left_since j.a j.b k.a k.b (HasOldOrNewOr j.durable j.staged cs)) (point_here run) each)

    -- and after it
    pub point_checked : (v : CoordinatorView D) → seen j ≡ v → (honest j.a → honest k.a) → (honest j.b → honest k.b) → k.is_down ≡ false
        → (honest j.a → honest j.b → (k.durable ≡ checkpoint_of (generation_of j.durable + 1) (told_by me epoch h l)) × HasRecords (state k.a) (state k.b) k.durable)
        → IsRunning state honest v → IsRunning state honest (seen k) × (k.durable ≡ next_checkpoint v)
    point_checked v is on_a on_b now_up written =
        subst (λ (w : CoordinatorView D). IsRunning state honest w → IsRunning state honest (seen k) × (k.durable ≡ next_checkpoint w)) is
        (λ run.
        let new = written run.honest_a run.honest_b in
        (record { honest_a = on_a run.honest_a; honest_b = on_b run.honest_b; up = now_up; rest = new.1 }, new.0 ∙ point_here run))

    -- how long it is
    pub point_len : (v : CoordinatorView D) → seen j ≡ v → IsRunning state honest v → (n : ℕ) → n ≡ min (2 ^ 64 - 1) (bytes_of (told_by me epoch h l)) → HasLen (next_checkpoint v) n
    point_len v is run n len =
        let here = subst (λ (w : CoordinatorView D). IsRunning state honest w → checkpoint_of (generation_of j.durable + 1) (told_by me epoch h l) ≡ next_checkpoint w) is point_here run in
        record { generation = generation_of j.durable + 1; told = told_by me epoch h l; is = sym here; len = len }

-- What it tells to the coordinator of another number of shards
abbrev pub as_seen : {D : Type 0} → View D → Identity → List WriteId → ℕ → CoordinatorView D
as_seen j me open_ids given = record { a = j.a; b = j.b; end = j.end; durable = j.durable; staged = j.staged; is_down = j.is_down; me = me; open_ids = open_ids; given = given }

pub carried_told : {D : Type 0} (state : D → State) (honest : D → Type 0) (j : View D) (me new : Identity) (l : LedgerValue) (epoch kept horizon : ℕ) (rising : Option ℕ) (numbers : List ℕ) (given : ℕ)
    → IsKept state honest j l epoch kept horizon rising numbers given → (h : ℕ) → h ≡ risen horizon rising → (open_ids : List WriteId) (shards : ℕ) → new ≡ coordinator_of me.store shards
    → (v : CoordinatorView D) → as_seen j me open_ids given ≡ v → IsRunning state honest v
    → checkpoint_of 1 (told_by new epoch h l) ≡ carried_checkpoint shards v
carried_told {D = D} state honest j me new l epoch kept horizon rising numbers given was h h_is open_ids shards new_is v is =
    subst (λ (w : CoordinatorView D). IsRunning state honest w → checkpoint_of 1 (told_by new epoch h l) ≡ carried_checkpoint shards w) is
    (λ run.
    let w = as_seen j me open_ids given in
    carried_is state honest j j new l l epoch kept horizon kept rising numbers given was h h_is w 1 refl refl refl refl refl run
    ∙ ap (λ (i : Identity). coordinator_checkpoint i 1 (memory_of w)) new_is)

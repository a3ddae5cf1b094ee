-- What the memory tells of the records.
use Rattle.std.proofs.Common.{◌≡◌, ◌≢◌, ◌⊎◌, inl, inr, ⊎_elim, ◌≤◌, ◌<◌, ◌+◌, ◌-◌, ◌++◌, ℕ, zero, suc, List, [], ◌∷◌, Option, None, Some, Contains, drop, take, length, length-drop, refl, sym, ap, ◌∙◌, subst, arith, false, slice_get}
use Rattle.std.proofs.lemmas.Option.{slice_get_within}
use Rattle.std.proofs.lemmas.List.{drop-append-le, drop-drop, take-append-drop, take-append-le}
use Rattle.tuples.specs.declared.entry.Entry.{Entry}
use Rattle.tuples.specs.declared.entry.WriteId.{WriteId}
use Rattle.tuples.proofs.Lists.{slice_get_drop}
use Rattle.records.specs.declared.record.Record.{Record}
use Rattle.records.specs.Coordinators.{CoordinatorState, IsNotAbove, coordinator_state}
use Rattle.records.specs.Replays.{Identity}
use Rattle.device.specs.Device.{State}
use Rattle.journal.specs.Records.{View}
use Rattle.ledger.specs.Ledgers.{IsOther, IsPlaceOf, LedgerValue}
use Rattle.decisions.specs.Coordinators.{CoordinatorView, FindsAt, FindsNone, FindsNothingYet, IsDecidedAbove, IsGivenAt, IsRunning, kept_of, memory_of}
use Rattle.decisions.specs.Values.{IsAborted, IsStretch}
use Rattle.coordinator.specs.Keeping.{IsKept, Remembers, newest_first}
use Rattle.coordinator.specs.Staged.{AreInOrder, last_horizon}
use Rattle.coordinator.proofs.OpenIds.{numbers_open}

-- the coordinator as its callers see it
abbrev pub view_of : {D : Type 0} → View D → Identity → ℕ → List ℕ → ℕ → CoordinatorView D
view_of j me epoch numbers given = record { a = j.a; b = j.b; end = j.end; durable = j.durable; staged = j.staged; is_down = j.is_down; me = me; open_ids = newest_first epoch numbers []; given = given }

slice_get_front : {X : Type 0} (xs ys : List X) (j : ℕ) → j < length xs → slice_get (xs ++ ys) j ≡ slice_get xs j
slice_get_front [] ys j lt = absurd (let e : j < 0 = lt in omega (arith, e))
slice_get_front (x ∷ xs) ys zero lt = refl
slice_get_front (x ∷ xs) ys (suc j) lt = slice_get_front xs ys j (let e : suc j < suc (length xs) = lt in omega (arith, e))

module _ {D : Type 0} (state : D → State) (honest : D → Type 0) (j : View D) (me : Identity) (l : LedgerValue) (epoch kept horizon : ℕ) (rising : Option ℕ) (numbers : List ℕ) (given : ℕ)
    (k : IsKept state honest j l epoch kept horizon rising numbers given) (v : CoordinatorView D) (is : view_of j me epoch numbers given ≡ v) (running : IsRunning state honest v) where
  here : IsRunning state honest (view_of j me epoch numbers given)
  here = subst (IsRunning state honest) (sym is) running

  durable_is : k.durable ≡ j.durable
  durable_is = (k.backed here.up here.honest_a here.honest_b).same

  staged_is : k.staged ≡ j.staged
  staged_is = k.staged_is here.up

  -- what it remembers is what the records of the journal stand for
  pub remembers_journal : Remembers (coordinator_state j.durable) (coordinator_state (j.durable ++ j.staged)) l epoch kept horizon rising
  remembers_journal = subst (λ (ds : List Record). Remembers (coordinator_state ds) (coordinator_state (ds ++ j.staged)) l epoch kept horizon rising) durable_is
      (subst (λ (ss : List Record). Remembers (coordinator_state k.durable) (coordinator_state (k.durable ++ ss)) l epoch kept horizon rising) staged_is k.remembers)

  pub remembers_now : Remembers (kept_of v) (memory_of v) l epoch kept horizon rising
  remembers_now = subst (λ (x : CoordinatorView D). Remembers (kept_of x) (memory_of x) l epoch kept horizon rising) is remembers_journal

  pub order_now : AreInOrder horizon kept v.staged × (rising ≡ last_horizon None v.staged)
  order_now = subst (λ (x : CoordinatorView D). AreInOrder horizon kept x.staged × (rising ≡ last_horizon None x.staged)) is
      (subst (λ (ss : List Record). AreInOrder horizon kept ss × (rising ≡ last_horizon None ss)) staged_is (k.in_order, k.last))

-- decisions above the horizon are those of the ledger
module _ (d w : CoordinatorState) (l : LedgerValue) (epoch kept horizon : ℕ) (rising : Option ℕ) (r : Remembers d w l epoch kept horizon rising) where
  at_log : (i : ℕ) → slice_get l.log i ≡ slice_get w.log (l.base - w.base + i)
  at_log i = ap (λ (x : List Entry). slice_get x i) r.log ∙ slice_get_drop (l.base - w.base) w.log i

  -- the index in the ledger of one that stands above the horizon
  above_index : (j : ℕ) → horizon < w.base + j + 1 → l.base - w.base + (j - (l.base - w.base)) ≡ j
  above_index j above = let f = r.first in let b = r.base in omega (arith, above, f, b)

  pub other_above : (id : WriteId) → IsOther id l.log → (j : ℕ) (x : Entry) → slice_get w.log j ≡ Some x → horizon < w.base + j + 1 → x.id ≢ id
  other_above id other j x there above = other (j - (l.base - w.base)) x (at_log (j - (l.base - w.base)) ∙ ap (slice_get w.log) (above_index j above) ∙ there)

  -- no decision above the horizon has the id, by what is durable, and by what is staged with it
  pub not_above : (id : WriteId) → IsOther id l.log → IsNotAbove id w
  not_above id other j x there above = other_above id other j x there (let h = r.rises in omega (arith, above, h))

  in_whole : (j : ℕ) (x : Entry) → slice_get d.log j ≡ Some x → slice_get w.log j ≡ Some x
  in_whole j x there = ap (λ (y : List Entry). slice_get y j) r.longer ∙ slice_get_front d.log r.more j (slice_get_within d.log j x there) ∙ there

  pub kept_not_above : (id : WriteId) → IsOther id l.log → IsNotAbove id d
  kept_not_above id other j x there above = other_above id other j x (in_whole j x there) (let h = r.horizon_is in let b = r.same_base in omega (arith, above, h, b))

  -- if it is found
  module _ (id : WriteId) (place : ℕ) (p : IsPlaceOf id l.base l.log place) where
    abbrev pub found_index : ℕ
    found_index = l.base - w.base + p.index

    pub found_there : slice_get w.log found_index ≡ Some p.write
    found_there = sym (at_log p.index) ∙ p.there

    pub found_above : horizon < w.base + found_index + 1
    found_above = let f = r.first in let b = r.base in omega (arith, f, b)

    pub found_at : place ≡ w.base + found_index + 1
    found_at = let f = r.first in let b = r.base in let i = p.is in omega (arith, f, b, i)

    pub kept_index : place ≤ kept → found_index < length d.log
    kept_index le = let e = r.kept_is in let b = r.same_base in let at = found_at in omega (arith, le, e, b, at)

    pub found_kept : place ≤ kept → slice_get d.log found_index ≡ Some p.write
    found_kept le = sym (slice_get_front d.log r.more found_index (kept_index le)) ∙ sym (ap (λ (y : List Entry). slice_get y found_index) r.longer) ∙ found_there

    -- no durable decision above the horizon has its id, if it is staged
    pub staged_alone : kept < place → (i : ℕ) (x : Entry) → slice_get d.log i ≡ Some x → x.id ≡ id → horizon < d.base + i + 1 → ⊥
    staged_alone lt i x there same above =
        let b = r.same_base in
        let up : horizon < w.base + i + 1 = omega (arith, above, b) in
        let in_ledger : slice_get l.log (i - (l.base - w.base)) ≡ Some x = at_log (i - (l.base - w.base)) ∙ ap (slice_get w.log) (above_index i up) ∙ in_whole i x there in
        let same_index : i - (l.base - w.base) ≡ p.index = p.only (i - (l.base - w.base)) x in_ledger same in
        let within : i < length d.log = slice_get_within d.log i x there in
        let e = r.kept_is in
        let at = found_at in
        let back = above_index i up in
        omega (arith, lt, e, b, at, same_index, within, back)

-- what is told of an id
module _ {D : Type 0} (v : CoordinatorView D) (l : LedgerValue) (epoch kept horizon : ℕ) (rising : Option ℕ) (r : Remembers (kept_of v) (memory_of v) l epoch kept horizon rising) (id : WriteId) where
  pub decided_above : (place : ℕ) → IsPlaceOf id l.base l.log place → IsDecidedAbove v id
  decided_above place p =
      let above = found_above (kept_of v) (memory_of v) l epoch kept horizon rising r id place p in
      let h = r.horizon_is in
      (found_index (kept_of v) (memory_of v) l epoch kept horizon rising r id place p, p.write, found_there (kept_of v) (memory_of v) l epoch kept horizon rising r id place p, p.same, omega (arith, above, h))

  pub none_above : IsOther id l.log → IsDecidedAbove v id → ⊥
  none_above other above = let h = r.horizon_is in let a = above.4 in other_above (kept_of v) (memory_of v) l epoch kept horizon rising r id other above.0 above.1 above.2 (omega (arith, a, h)) above.3

  pub finds_at : v.is_down ≡ false → (place : ℕ) → IsPlaceOf id l.base l.log place → place ≤ kept → FindsAt v id place
  finds_at up place p le = record {
    is_up = up;
    index = found_index (kept_of v) (memory_of v) l epoch kept horizon rising r id place p;
    write = p.write;
    there = found_kept (kept_of v) (memory_of v) l epoch kept horizon rising r id place p le;
    own = p.same;
    place_is = let at = found_at (kept_of v) (memory_of v) l epoch kept horizon rising r id place p in let b = r.same_base in omega (arith, at, b);
    above =
        let at = found_at (kept_of v) (memory_of v) l epoch kept horizon rising r id place p in
        let up = found_above (kept_of v) (memory_of v) l epoch kept horizon rising r id place p in
        let h = r.horizon_is in
        omega (arith, at, up, h);
  }

  pub finds_staged : v.is_down ≡ false → (place : ℕ) → IsPlaceOf id l.base l.log place → kept < place → FindsNothingYet v id
  finds_staged up place p lt = record {
    is_up = up;
    not_kept = λ q f. staged_alone (kept_of v) (memory_of v) l epoch kept horizon rising r id place p lt f.index f.write f.there f.own (let h = r.horizon_is in let i = f.place_is in let a = f.above in omega (arith, a, h, i));
    not_aborted = λ none. none.none (decided_above place p);
  }

  pub finds_waiting : v.is_down ≡ false → IsOther id l.log → (Contains v.open_ids id ⊎ (IsGivenAt v id → ⊥)) → FindsNothingYet v id
  finds_waiting up other waits = record {
    is_up = up;
    not_kept = λ q f. kept_not_above (kept_of v) (memory_of v) l epoch kept horizon rising r id other f.index f.write f.there (let i = f.place_is in let a = f.above in omega (arith, a, i)) f.own;
    not_aborted = λ none. ⊎_elim (λ there. none.closed there) (λ never. never none.given) waits;
  }

  pub finds_none : v.is_down ≡ false → IsOther id l.log → (Contains v.open_ids id → ⊥) → IsGivenAt v id → FindsNone v id
  finds_none up other closed given = record { is_up = up; given = given; closed = closed; none = none_above other }

-- up, over honest devices, it runs
module _ {D : Type 0} (state : D → State) (honest : D → Type 0) (j : View D) (me : Identity) (l : LedgerValue) (epoch kept horizon : ℕ) (rising : Option ℕ) (numbers : List ℕ) (given : ℕ)
    (k : IsKept state honest j l epoch kept horizon rising numbers given) (v : CoordinatorView D) (is : view_of j me epoch numbers given ≡ v) (up : j.is_down ≡ false) (ha : honest j.a) (hb : honest j.b) where
  inner : IsRunning state honest (view_of j me epoch numbers given)
  inner = record { honest_a = ha; honest_b = hb; up = up; rest = (k.backed up ha hb).rest }

  pub running_now : IsRunning state honest v
  running_now = subst (IsRunning state honest) is inner

  -- a write that was given, is not open and has no decision above the horizon is aborted
  pub aborted_now : (id : WriteId) (more : List ℕ) → IsOther id l.log → (IsRunning state honest v → IsGivenAt v id) → (Contains (newest_first epoch more []) id → ⊥) → IsAborted state j given more id
  aborted_now id more other was_given closed =
      let r = remembers_journal state honest j me l epoch kept horizon rising numbers given k v is running_now in
      let ke = r.kept_epoch in
      let we = r.epoch_is in
      let was : IsGivenAt (view_of j me epoch numbers given) id = subst (λ (x : CoordinatorView D). IsGivenAt x id) (sym is) (was_given running_now) in
      record {
        rest = inner.rest;
        given_out = ⊎_elim
            (λ before. inl (omega (arith, before, ke, we)))
            (λ now. let e = now.0 in inr (omega (arith, e, ke, we), now.1))
            was;
        closed = λ same there. closed (numbers_open epoch id more [] (same ∙ ke) there);
        durable = kept_not_above (coordinator_state j.durable) (coordinator_state (j.durable ++ j.staged)) l epoch kept horizon rising r id other;
        staged = not_above (coordinator_state j.durable) (coordinator_state (j.durable ++ j.staged)) l epoch kept horizon rising r id other;
      }

-- the durable decisions after a place, as a copy of a part of the ledger
module _ (d w : CoordinatorState) (l : LedgerValue) (epoch kept horizon : ℕ) (rising : Option ℕ) (r : Remembers d w l epoch kept horizon rising) (from count : ℕ) (above : horizon ≤ from) (within : from + count ≤ kept) where
  fits : from - d.base + count ≤ length d.log
  fits = let e = r.kept_is in let b = r.same_base in let f = r.first in let h = r.base in omega (arith, e, b, f, h, above, within)

  pub copied_part : take count (drop (from - l.base) l.log) ≡ take count (drop (from - d.base) d.log)
  copied_part =
      let b = r.same_base in
      let f = r.first in
      let h = r.base in
      let at : l.base - w.base + (from - l.base) ≡ from - d.base = omega (arith, b, f, h, above) in
      let len : length (drop (from - d.base) d.log) ≡ length d.log - (from - d.base) = length-drop (from - d.base) d.log in
      let enough = fits in
      ap (λ (x : List Entry). take count (drop (from - l.base) x)) r.log
      ∙ ap (take count) (drop-drop (from - l.base) (l.base - w.base) w.log ∙ ap (λ (n : ℕ). drop n w.log) at ∙ ap (drop (from - d.base)) r.longer
      ∙ drop-append-le (from - d.base) d.log r.more (omega (arith, enough)))
      ∙ take-append-le count (drop (from - d.base) d.log) r.more (omega (arith, len, enough))

  pub is_stretch : (writes : List Entry) → writes ≡ take count (drop (from - l.base) l.log) → IsStretch d from writes
  is_stretch writes same = record {
    base = let b = r.same_base in let f = r.first in let h = r.base in omega (arith, b, f, h, above);
    rest = drop count (drop (from - d.base) d.log);
    log = sym (take-append-drop count (drop (from - d.base) d.log)) ∙ ap (λ (x : List Entry). x ++ drop count (drop (from - d.base) d.log)) (sym (same ∙ copied_part));
  }

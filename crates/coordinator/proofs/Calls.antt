-- What the calls do, seen from outside.
use Rattle.std.proofs.Common.{◌≡◌, ◌⊎◌, inl, inr, ⊎_elim, ◌≤◌, ◌<◌, ◌+◌, ◌++◌, ℕ, List, [], ◌∷◌, Option, All, length, length-append, refl, sym, ap, ◌∙◌, subst, arith, false}
use Rattle.tuples.specs.Limits.{max_open}
use Rattle.tuples.specs.declared.change.Condition.{Condition}
use Rattle.tuples.specs.declared.change.Want.{Want}
use Rattle.tuples.specs.declared.change.Want.TheVariants.{NotAfter, Exists, Absent}
use Rattle.tuples.specs.declared.entry.Entry.{Entry}
use Rattle.tuples.specs.declared.entry.WriteId.{WriteId}
use Rattle.records.specs.declared.record.Record.{Record}
use Rattle.records.specs.declared.record.Record.TheVariants.{Decision, Horizon}
use Rattle.records.specs.Coordinators.{end_of}
use Rattle.records.specs.Replays.{Identity, greatest_number}
use Rattle.device.specs.Device.{State}
use Rattle.journal.specs.Records.{View}
use Rattle.ledger.specs.Ledgers.{LedgerValue}
use Rattle.decisions.specs.Coordinators.{CoordinatorView, FirstIs, HasNoId, IsInRange, IsRising, IsRunning, NamesCollected, NamesFuture, RaisesAt, kept_of, memory_of, next_id, without_id}
use Rattle.coordinator.specs.Keeping.{Remembers, newest_first}
use Rattle.coordinator.specs.Ranges.{FirstOut, IsAbove, IsBelow, IsBetween}
use Rattle.coordinator.proofs.Facts.{view_of}
use Rattle.coordinator.proofs.OpenIds.{newest_length, newest_push}

module _ {D : Type 0} (state : D → State) (honest : D → Type 0) (j k : View D) (me : Identity) (epoch : ℕ) (numbers more : List ℕ) (given later : ℕ) (v : CoordinatorView D) (is : view_of j me epoch numbers given ≡ v) where
  -- the devices and what is durable stay, so it runs on
  pub runs_on : (staged : List Record) → k ≡ record j { staged = staged } → IsRunning state honest v → IsRunning state honest (view_of k me epoch more later)
  runs_on staged same running =
      let here : IsRunning state honest (view_of j me epoch numbers given) = subst (IsRunning state honest) (sym is) running in
      subst (λ (i : View D). IsRunning state honest (view_of i me epoch more later)) (sym same) (record { honest_a = here.honest_a; honest_b = here.honest_b; up = here.up; rest = here.rest })

  pub still_running : IsRunning state honest v → IsRunning state honest (view_of j me epoch more later)
  still_running running =
      let here : IsRunning state honest (view_of j me epoch numbers given) = subst (IsRunning state honest) (sym is) running in
      record { honest_a = here.honest_a; honest_b = here.honest_b; up = here.up; rest = here.rest }

  pub decided_view : (place : ℕ) (x : Entry) → k ≡ record j { staged = j.staged ++ Decision place x ∷ [] } → newest_first epoch more [] ≡ without_id x.id (newest_first epoch numbers [])
      → view_of k me epoch more given ≡ record v { staged = v.staged ++ Decision place x ∷ []; open_ids = without_id x.id v.open_ids }
  decided_view place x same ids = subst (λ (w : CoordinatorView D). view_of k me epoch more given ≡ record w { staged = w.staged ++ Decision place x ∷ []; open_ids = without_id x.id w.open_ids }) is
      (ap (λ (i : View D). view_of i me epoch more given) same ∙ ap (λ (l : List WriteId). record (view_of j me epoch numbers given) { staged = j.staged ++ Decision place x ∷ []; open_ids = l }) ids)

  pub open_length : length v.open_ids ≡ length numbers
  open_length = let n = newest_length epoch numbers [] in let w : length v.open_ids ≡ length (newest_first epoch numbers []) = ap (λ (x : CoordinatorView D). length x.open_ids) (sym is) in omega (arith, n, w)

  pub given_is : v.given ≡ given
  given_is = ap (λ (x : CoordinatorView D). x.given) (sym is)

  pub has_no_id : (begun : ℕ) → begun ≡ length numbers → (max_open ≤ begun) ⊎ (greatest_number ≤ given) → HasNoId v
  has_no_id begun same none = ⊎_elim
      (λ many. inl (let l = open_length in omega (arith, many, same, l)))
      (λ last. inr (let n = given_is in omega (arith, last, n)))
      none

  pub has_an_id : (begun : ℕ) → begun ≡ length numbers → begun < max_open → given < greatest_number → HasNoId v → ⊥
  has_an_id begun same few less none = ⊎_elim
      (λ many. let l = open_length in omega (arith, many, same, l, few))
      (λ last. let n = given_is in omega (arith, last, n, less))
      none

  pub begun_view : later ≡ given + 1 → epoch ≡ (memory_of v).epoch → view_of j me epoch (numbers ++ later ∷ []) later ≡ record v { open_ids = next_id v ∷ v.open_ids; given = v.given + 1 }
  begun_view next own =
      let e : (memory_of (view_of j me epoch numbers given)).epoch ≡ epoch = ap (λ (w : CoordinatorView D). (memory_of w).epoch) is ∙ sym own in
      subst (λ (w : CoordinatorView D). view_of j me epoch (numbers ++ later ∷ []) later ≡ record w { open_ids = next_id w ∷ w.open_ids; given = w.given + 1 }) is
      (ap (λ (n : ℕ). view_of j me epoch (numbers ++ n ∷ []) n) next
      ∙ ap (λ (ids : List WriteId). record (view_of j me epoch numbers given) { open_ids = ids; given = given + 1 })
      (newest_push epoch (given + 1) numbers [] ∙ ap (λ (n : ℕ). record { epoch = n; number = given + 1 } ∷ newest_first epoch numbers []) (sym e)))

  pub raised_view : (place : ℕ) → k ≡ record j { staged = j.staged ++ Horizon place ∷ [] } → view_of k me epoch numbers given ≡ record v { staged = v.staged ++ Horizon place ∷ [] }
  raised_view place same = subst (λ (w : CoordinatorView D). view_of k me epoch numbers given ≡ record w { staged = w.staged ++ Horizon place ∷ [] }) is (ap (λ (i : View D). view_of i me epoch numbers given) same)

-- places that conditions name, told of the want alone and of the condition
above_named : (end : ℕ) (want : Want) → IsAbove end want → (place : ℕ) × (want ≡ NotAfter place) × (end < place)
above_named end (NotAfter place) lt = (place, refl, lt)
above_named end Exists lt = absurd lt
above_named end Absent lt = absurd lt

named_above : (end : ℕ) (want : Want) (place : ℕ) → want ≡ NotAfter place → end < place → IsAbove end want
named_above end want place is lt = subst (IsAbove end) (sym is) lt

below_named : (horizon : ℕ) (want : Want) → IsBelow horizon want → (place : ℕ) × (want ≡ NotAfter place) × (place < horizon)
below_named horizon (NotAfter place) lt = (place, refl, lt)
below_named horizon Exists lt = absurd lt
below_named horizon Absent lt = absurd lt

named_below : (horizon : ℕ) (want : Want) (place : ℕ) → want ≡ NotAfter place → place < horizon → IsBelow horizon want
named_below horizon want place is lt = subst (IsBelow horizon) (sym is) lt

module _ {D : Type 0} (v : CoordinatorView D) (end horizon : ℕ) (end_is : end ≡ end_of (memory_of v)) (horizon_is : horizon ≡ (kept_of v).horizon) where
  future : (c : Condition) → IsAbove end c.want → NamesFuture v c
  future c is = let n = above_named end c.want is in (n.0, n.1, subst (λ (e : ℕ). e < n.0) end_is n.2)

  collected : (c : Condition) → IsBelow horizon c.want → NamesCollected v c
  collected c is = let n = below_named horizon c.want is in (n.0, n.1, subst (λ (h : ℕ). n.0 < h) horizon_is n.2)

  pub in_range : (c : Condition) → IsBetween horizon end c.want → IsInRange v c
  in_range c is = record {
    no_future = λ n. is.below (named_above end c.want n.0 n.1 (subst (λ (e : ℕ). e < n.0) (sym end_is) n.2));
    not_collected = λ n. is.above (named_below horizon c.want n.0 n.1 (subst (λ (h : ℕ). n.0 < h) (sym horizon_is) n.2));
  }

  pub all_in_range : (cs : List Condition) → All (λ (c : Condition). IsBetween horizon end c.want) cs → All (IsInRange v) cs
  all_in_range cs all i c lt = in_range _ (all i c lt)

  pub first_future : (cs : List Condition) → FirstOut horizon end cs (IsAbove end) → FirstIs v cs (NamesFuture v)
  first_future cs f = record { index = f.index; condition = f.condition; there = f.there; is = future f.condition f.is; before = λ i c lt there. in_range c (f.before i c lt there) }

  pub first_collected : (cs : List Condition) → FirstOut horizon end cs (IsBelow horizon) → FirstIs v cs (NamesCollected v)
  first_collected cs f = record { index = f.index; condition = f.condition; there = f.there; is = collected f.condition f.is; before = λ i c lt there. in_range c (f.before i c lt there) }

module _ {D : Type 0} (v : CoordinatorView D) (l : LedgerValue) (epoch kept horizon : ℕ) (rising : Option ℕ) (r : Remembers (kept_of v) (memory_of v) l epoch kept horizon rising) where
  pub raised_at : (place : ℕ) (new : CoordinatorView D) → v.is_down ≡ false → horizon ≤ place → place ≤ kept → (IsRising v place → ⊥) → new ≡ record v { staged = v.staged ++ Horizon place ∷ [] }
      → RaisesAt v place new × (place ≤ end_of (kept_of v))
  raised_at place new up on within lower is =
      let e = r.kept_is in
      let b = r.same_base in
      let h = r.horizon_is in
      let len : length (memory_of v).log ≡ length (kept_of v).log + length r.more = ap length r.longer ∙ length-append (kept_of v).log r.more in
      (record { was_up = up; above = omega (arith, on, h); within = omega (arith, within, e, b, len); new_is = inl (lower, is) }, omega (arith, within, e))

  -- it is staged already
  pub rising_at : (place : ℕ) → v.is_down ≡ false → horizon ≤ place → place ≤ kept → IsRising v place → RaisesAt v place v × (place ≤ end_of (kept_of v))
  rising_at place up on within there =
      let e = r.kept_is in
      let b = r.same_base in
      let h = r.horizon_is in
      let len : length (memory_of v).log ≡ length (kept_of v).log + length r.more = ap length r.longer ∙ length-append (kept_of v).log r.more in
      (record { was_up = up; above = omega (arith, on, h); within = omega (arith, within, e, b, len); new_is = inr (there, refl) }, omega (arith, within, e))

  pub end_now : l.base + length l.log ≡ end_of (memory_of v)
  end_now = sym r.end_is

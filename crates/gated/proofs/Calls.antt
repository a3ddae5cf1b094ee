-- What a write and a sync leave, one call at a time.
use Rattle.std.proofs.Common.{◌≡◌, inl, inr, ⊎_elim, ℕ, ◌+◌, ◌≤◌, List, [], ◌∷◌, ◌++◌, length, Result, Ok, Err, sym, ◌∙◌, subst, arith}
use Rattle.std.specs.Result.{OnOk, OnErr}
use Rattle.device.specs.Device.{State, Leaves, Wrote, Tore, Synced, Keeps, Elapses, LeavesOnly, reach, left}
use Rattle.device.proofs.Moments.{leaves_nothing_else}
use Rattle.gated.specs.Gated.{IsAllDurable, WasPut}
use Rattle.device.proofs.History.{reach_push, reach_push_most, untouched_push}

-- A call leaves what has P, if what could be left before it has P, and what may be left now has it.
module _ {D : Type 0} (moment : D → ℕ) (left_since : D → ℕ → List ℕ → Type 0) (state : D → State) where
  pub one_call : (old new : D) (P : List ℕ → Type 0) → ((c : List ℕ) → left_since old (moment old) c → left (state old) c)
      → Elapses (moment old) (moment new) (left_since old) (left_since new) (left (state new))
      → ((c : List ℕ) → left (state old) c → P c) → ((c : List ℕ) → left (state new) c → P c) → LeavesOnly moment left_since old new P
  one_call old new P only time was is = record {
    later = time.later;
    each = λ c since. ⊎_elim (λ past. was c (only c past)) (λ l. is c l) (time.nothing_else (moment old) c (omega arith) since);
    before = λ t c le since. ⊎_elim (λ past. inl past) (λ l. inr (is c l)) (time.nothing_else t c le since);
  }

-- if nothing was written, the same is left
pub still : (s m : State) → m.durable ≡ s.durable → m.written ≡ s.written → (c : List ℕ) → left m c → left s c
still s m durable written c leaves =
    subst (λ (d : List ℕ). Leaves d s.written c) durable (subst (λ (w : List (ℕ × ℕ)). Leaves m.durable w c) written leaves)

-- after a sync, what reads is left
after_sync : (s m : State) → Synced s m → left s s.seen → (c : List ℕ) → left m c → left s c
after_sync s m synced here c leaves =
    let is : c ≡ s.seen = leaves_nothing_else m.durable c (subst (λ (w : List (ℕ × ℕ)). Leaves m.durable w c) synced.written leaves) ∙ synced.durable in
    subst (λ (x : List ℕ). left s x) (sym is) here

-- whatever came of it
pub synced_or_not : {T E : Type 0} (s m : State) (r : Result T E) → left s s.seen → OnOk r (Synced s m) → OnErr r (Keeps s m) → (c : List ℕ) → left m c → left s c
synced_or_not s m (Ok x) here ok err c leaves = after_sync s m ok here c leaves
synced_or_not s m (Err e) here ok err c leaves = still s m err.durable err.written c leaves

-- the range of a write over a device that had all durable is the only one
pub only_range : (s : State) (at n : ℕ) → s.written ≡ [] → (c : List ℕ) → Leaves s.durable (s.written ++ (at, n) ∷ []) c → Leaves s.durable ((at, n) ∷ []) c
only_range s at n none c leaves = subst (λ (w : List (ℕ × ℕ)). Leaves s.durable (w ++ (at, n) ∷ []) c) none leaves

module _ (s : State) (at : ℕ) where
  -- with one more range
  abbrev more : ℕ → List ℕ → Type 0
  more n c = Leaves s.durable (s.written ++ (at, n) ∷ []) c

  before_write : (n : ℕ) (c : List ℕ) → left s c → more n c
  before_write n c leaves =
      let reaches = reach_push s.written at n (length s.durable) in
      record { no_shorter = leaves.no_shorter; no_longer = omega (arith, leaves.no_longer, reaches.0); same = λ i lt un. leaves.same i lt (untouched_push s.written at n i un).0 }

  pub after_write : (n : ℕ) (m : State) → Tore s at n m → (c : List ℕ) → left m c → more n c
  after_write n m tore c leaves =
      let l : Leaves s.durable m.written c = subst (λ (d : List ℕ). Leaves d m.written c) tore.durable leaves in
      ⊎_elim
      (λ same. before_write n c (subst (λ (w : List (ℕ × ℕ)). Leaves s.durable w c) same l))
      (λ is. subst (λ (w : List (ℕ × ℕ)). Leaves s.durable w c) is l)
      tore.written

  -- a write, done or failed, makes nothing longer than to where it ends
  pub no_longer : (n most : ℕ) (m : State) → Tore s at n m → reach s.written (length s.durable) ≤ most → at + n ≤ most → (c : List ℕ) → left m c → length c ≤ most
  no_longer n most m tore before ends c leaves =
      ⊎_elim
      (λ same. omega (arith, (still s m tore.durable same c leaves).no_longer, before))
      (λ more.
      let l : Leaves s.durable (s.written ++ (at, n) ∷ []) c
      = subst (λ (d : List ℕ). Leaves d (s.written ++ (at, n) ∷ []) c) tore.durable (subst (λ (w : List (ℕ × ℕ)). Leaves m.durable w c) more leaves) in
      ⊎_elim (λ up. omega (arith, l.no_longer, up, ends)) (λ up. omega (arith, l.no_longer, up, before)) (reach_push_most s.written at n (length s.durable)))
      tore.written

-- what is left after a write that was done is also left by one that failed
pub tore_of : (s : State) (at : ℕ) (bytes : List ℕ) (m : State) → Wrote s at bytes m → Tore s at (length bytes) m
tore_of s at bytes m wrote = record { durable = wrote.durable; written = inr wrote.written }

-- whatever came of it
pub written_or_not : {T E : Type 0} (s : State) (at : ℕ) (bytes : List ℕ) (m : State) (r : Result T E) → OnOk r (Wrote s at bytes m) → OnErr r (Tore s at (length bytes) m) → Tore s at (length bytes) m
written_or_not s at bytes m (Ok x) ok err = tore_of s at bytes m ok
written_or_not s at bytes m (Err e) ok err = err

-- all is durable after a sync
pub put_durable : (s : State) (at : ℕ) (bytes : List ℕ) (new : State) → WasPut s at bytes new → IsAllDurable new
put_durable s at bytes new put = record { durable = put.durable; written = put.written }

-- a write, and a sync
pub put : (s : State) (at : ℕ) (bytes : List ℕ) (mid new : State) → Wrote s at bytes mid → Synced mid new → WasPut s at bytes new
put s at bytes mid new wrote synced = record { seen = synced.seen ∙ wrote.seen; durable = synced.durable ∙ sym synced.seen; written = synced.written; stopped = synced.stopped }

module _ {D : Type 0} (moment : D → ℕ) (left_since : D → ℕ → List ℕ → Type 0) (state : D → State) (old new : D) (P : List ℕ → Type 0)
    (only : (c : List ℕ) → left_since old (moment old) c → left (state old) c) (time : Elapses (moment old) (moment new) (left_since old) (left_since new) (left (state new))) where
  pub write_moments : (at n : ℕ) → Tore (state old) at n (state new) → ((c : List ℕ) → Leaves (state old).durable ((state old).written ++ (at, n) ∷ []) c → P c) → LeavesOnly moment left_since old new P
  write_moments at n tore has =
      one_call moment left_since state old new P only time (λ c l. has c (before_write (state old) at n c l)) (λ c l. has c (after_write (state old) at n (state new) tore c l))

  pub sync_moments : {T E : Type 0} (r : Result T E) → left (state old) (state old).seen → OnOk r (Synced (state old) (state new)) → OnErr r (Keeps (state old) (state new)) → ((c : List ℕ) → left (state old) c → P c)
      → LeavesOnly moment left_since old new P
  sync_moments r here ok err has = one_call moment left_since state old new P only time has (λ c l. has c (synced_or_not (state old) (state new) r here ok err c l))

  -- a call that writes nothing
  pub still_moments : Keeps (state old) (state new) → ((c : List ℕ) → left (state old) c → P c) → LeavesOnly moment left_since old new P
  still_moments keeps has = one_call moment left_since state old new P only time has (λ c l. has c (still (state old) (state new) keeps.durable keeps.written c l))

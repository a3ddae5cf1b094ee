-- A flow takes its turn: it stands in its slot after it, and the others stay as they are.
use Rattle.std.proofs.Common.{◌≡◌, ◌≢◌, ◌⊎◌, inl, inr, ⊎_elim, ◌==◌, ◌≤◌, ◌++◌, ℕ, zero, suc, Bool, true, false, true≢false, List, [], ◌∷◌, Some, slice_get, Contains, refl, sym, ◌∙◌, ap, subst, arith, if◌then◌else◌, length}
use Rattle.std.proofs.lemmas.Bool.{eq-eqb, eqb-true}
use Rattle.std.proofs.lemmas.List.Elements.{Contains-push_cases}
use Rattle.std.proofs.lemmas.Option.{same_Some}
use Rattle.stores.proofs.Words.{FlowsStand, HasSeenBelow, IsQuietFlow, IsRight, Machine, Moment, NodeName, Record, Running, id_of, replaced, WriteId}
use Rattle.stores.specs.FlowLaws.{FlowsGoOn}
use Rattle.stores.proofs.FlowBegins.{same_right, same_verdict}
use Rattle.stores.proofs.ShardStagesStands.{contained_at, contained_from}

-- no two flows have one slot
abbrev AreSlots : List Running → Type 0
AreSlots rs = (i j : ℕ) (q r : Running) → slice_get rs i ≡ Some q → slice_get rs j ≡ Some r → q.slot ≡ r.slot → i ≡ j

-- as many flows run
same_length : (later : Running) (rs : List Running) → length (replaced later rs) ≡ length rs
same_length later [] = refl
same_length later (q ∷ rs) = by_slot (q.slot == later.slot) (same_length later rs)
  where
    by_slot : (b : Bool) → length (replaced later rs) ≡ length rs → length (if b then later ∷ rs else q ∷ replaced later rs) ≡ length (q ∷ rs)
    by_slot true same = refl
    by_slot false same = omega (arith, same)

-- if one flow is replaced, a flow is that one after its turn, or another that stood at its place before
replaced_at : (later : Running) (rs : List Running) (k : ℕ) (r : Running) → AreSlots rs → slice_get rs k ≡ Some r → r.slot ≡ later.slot
    → (j : ℕ) (x : Running) → slice_get (replaced later rs) j ≡ Some x → ((j ≡ k) × (x ≡ later)) ⊎ ((j ≢ k) × (slice_get rs j ≡ Some x))
replaced_at later [] zero r once at same j x is = absurd cc
replaced_at later [] (suc k) r once at same j x is = absurd cc
replaced_at later (q ∷ rs) k r once at same j x is = by_slot (q.slot == later.slot) refl k at j is (λ m at_m i y is_y. replaced_at later rs m r (λ a b p s is_p is_s alike. let e = once (suc a) (suc b) p s is_p is_s alike in omega (arith, e)) at_m same i y is_y)
  where
    by_slot : (b : Bool) → (q.slot == later.slot) ≡ b → (l : ℕ) → slice_get (q ∷ rs) l ≡ Some r → (i : ℕ) → slice_get (if b then later ∷ rs else q ∷ replaced later rs) i ≡ Some x
        → ((m : ℕ) → slice_get rs m ≡ Some r → (a : ℕ) (y : Running) → slice_get (replaced later rs) a ≡ Some y → ((a ≡ m) × (y ≡ later)) ⊎ ((a ≢ m) × (slice_get rs a ≡ Some y)))
        → ((i ≡ l) × (x ≡ later)) ⊎ ((i ≢ l) × (slice_get (q ∷ rs) i ≡ Some x))
    by_slot true eq zero at_l zero here rest = inl (refl, sym (same_Some later x here))
    by_slot true eq zero at_l (suc i) there rest = inr (λ e. omega (arith, e), there)
    by_slot true eq (suc l) at_l i there rest = absurd (let e = once 0 (suc l) q r refl at_l (eqb-true q.slot later.slot eq ∙ sym same) in omega (arith, e))
    by_slot false eq zero at_l i there rest = absurd (true≢false (sym (eq-eqb q.slot later.slot (ap (λ (y : Running). y.slot) (same_Some q r at_l) ∙ same)) ∙ eq))
    by_slot false eq (suc l) at_l zero here rest = inr (λ e. omega (arith, e), here)
    by_slot false eq (suc l) at_l (suc i) there rest = ⊎_elim
        (λ new. inl (ap suc new.0, new.1))
        (λ old. inr (λ e. old.0 (omega (arith, e)), old.1))
        (rest l at_l i x there)

module _ (store shards : ℕ) (left stops : NodeName → List Record → Type 0) (now after : Moment) (r later : Running) (flows : FlowsStand store shards left now) (there : Contains now.running r)
    (slot : later.slot ≡ r.slot)
    (id : (id_of later.holds ≡ id_of r.holds) ⊎ ((j : ℕ) (x : Running) (one : WriteId) → slice_get now.running j ≡ Some x → id_of x.holds ≡ Some one → id_of later.holds ≡ Some one → ⊥)) where
  at_k : slice_get now.running (contained_at now.running r there).0 ≡ Some r
  at_k = (contained_at now.running r there).1

  is_at : (j : ℕ) (x : Running) → slice_get (replaced later now.running) j ≡ Some x
      → ((j ≡ (contained_at now.running r there).0) × (x ≡ later)) ⊎ ((j ≢ (contained_at now.running r there).0) × (slice_get now.running j ≡ Some x))
  is_at = replaced_at later now.running (contained_at now.running r there).0 r flows.slots at_k (sym slot)

  -- it stood there before, or r did: with the same slot
  origin : (j : ℕ) (x : Running) → slice_get (replaced later now.running) j ≡ Some x → (y : Running) × (slice_get now.running j ≡ Some y) × (y.slot ≡ x.slot)
  origin j x is = ⊎_elim
      (λ new. (r, subst (λ i. slice_get now.running i ≡ Some r) (sym new.0) at_k, sym slot ∙ ap (λ (y : Running). y.slot) (sym new.1)))
      (λ old. (x, old.1, refl))
      (is_at j x is)

  -- no other flow has the write that it has after its turn: it is the one that it had, or one that no flow has
  other : (j : ℕ) (x : Running) (one : WriteId) → j ≢ (contained_at now.running r there).0 → slice_get now.running j ≡ Some x → id_of x.holds ≡ Some one → id_of later.holds ≡ Some one → ⊥
  other j x one ne at has same = ⊎_elim
      (λ kept. ne (flows.ids j (contained_at now.running r there).0 x r one at at_k has (sym kept ∙ same)))
      (λ none. none j x one at has same)
      id

  -- the others stand at other slots
  pub flows_turn : now.machine.kept ≤ after.machine.kept → now.machine.horizon ≤ after.machine.horizon → HasSeenBelow after.machine later → IsQuietFlow later
      → ((x : Running) → Contains now.running x → x.slot ≢ r.slot → IsRight shards stops after x x.asked x.holds)
      → IsRight shards stops after later later.asked later.holds → FlowsStand store shards stops (record after { running = replaced later now.running })
  flows_turn kept horizon sees quiet others own = record {
    few = omega (arith, flows.few, same_length later now.running);
    slots = λ i j q x is_q is_x same.
        let a = origin i q is_q in
        let b = origin j x is_x in
        flows.slots i j a.0 b.0 a.1 b.1 (a.2 ∙ same ∙ sym b.2);
    ids = λ i j q x one is_q is_x has also. ⊎_elim
        (λ new_q. ⊎_elim
        (λ new_x. new_q.0 ∙ sym new_x.0)
        (λ old_x. absurd (other j x one old_x.0 old_x.1 also (ap (λ (y : Running). id_of y.holds) (sym new_q.1) ∙ has)))
        (is_at j x is_x))
        (λ old_q. ⊎_elim
        (λ new_x. absurd (other i q one old_q.0 old_q.1 has (ap (λ (y : Running). id_of y.holds) (sym new_x.1) ∙ also)))
        (λ old_x. flows.ids i j q x one old_q.1 old_x.1 has also)
        (is_at j x is_x))
        (is_at i q is_q);
    held = λ x has.
        let at = contained_at (replaced later now.running) x has in
        ⊎_elim
        (λ new. subst (λ (y : Running). IsRight shards stops (record after { running = replaced later now.running }) y y.asked y.holds) (sym new.1)
        (same_right shards stops after (replaced later now.running) after.told after.named later (λ y is. is) own))
        (λ old.
        let elsewhere : x.slot ≢ r.slot = λ same. old.0 (flows.slots at.0 (contained_at now.running r there).0 x r old.1 at_k same) in
        same_right shards stops after (replaced later now.running) after.told after.named x (λ y is. is) (others x (contained_from now.running at.0 x old.1) elsewhere))
        (is_at at.0 x at.1);
    seen = λ x has.
        let at = contained_at (replaced later now.running) x has in
        ⊎_elim
        (λ new. subst (HasSeenBelow after.machine) (sym new.1) sees)
        (λ old m there. let was = flows.seen x (contained_from now.running at.0 x old.1) m there in (omega (arith, was.0, kept), omega (arith, was.1, horizon)))
        (is_at at.0 x at.1);
    quiet = λ x has.
        let at = contained_at (replaced later now.running) x has in
        ⊎_elim (λ new. subst IsQuietFlow (sym new.1) quiet) (λ old. flows.quiet x (contained_from now.running at.0 x old.1)) (is_at at.0 x at.1);
  }

-- a flow that has seen one more machine, which lies at or below
pub sees_more : (before now m : Machine) (r later : Running) → later.seen ≡ r.seen ++ m ∷ [] → m.kept ≤ now.kept → m.horizon ≤ now.horizon → before.kept ≤ now.kept → before.horizon ≤ now.horizon
    → HasSeenBelow before r → HasSeenBelow now later
sees_more before now m r later is kept horizon up_kept up_horizon sees p there = ⊎_elim
    (λ old. let was = sees p old in (omega (arith, was.0, up_kept), omega (arith, was.1, up_horizon)))
    (λ new. (omega (arith, kept, ap (λ (x : Machine). x.kept) new), omega (arith, horizon, ap (λ (x : Machine). x.horizon) new)))
    (Contains-push_cases r.seen m p (subst (λ (l : List Machine). Contains l p) is there))

pub flows_go_on : (store shards : ℕ) (left : NodeName → List Record → Type 0) → FlowsGoOn store shards left
flows_go_on store shards left now r later st there slot id sees quiet right = record {
  rests = st.rests;
  nodes = st.nodes;
  heads = st.heads;
  listed = st.listed;
  locks = st.locks;
  ids = st.ids;
  flows = flows_turn store shards left left now now r later st.flows there slot (inl id) (omega arith) (omega arith) sees quiet (λ x has ne. st.flows.held x has) right;
  told = λ j d lt. same_verdict shards left now (replaced later now.running) now.told now.named _ (st.told j d lt);
}

-- A flow ends: the others stay as they are.
use Rattle.std.proofs.Common.{◌≡◌, ⊎_elim, ◌==◌, ℕ, zero, suc, Bool, true, false, ◌≤◌, List, [], ◌∷◌, length, Some, slice_get, slice_index_or, Contains, refl, subst, ap, arith, if◌then◌else◌}
use Rattle.std.proofs.lemmas.List.Elements.{Contains-append_right}
use Rattle.stores.proofs.Words.{NodeName, Record, Running, ended, id_of}
use Rattle.stores.specs.FlowLaws.{FlowsEnd}
use Rattle.stores.proofs.FlowBegins.{alone, same_right, same_verdict}
use Rattle.tuples.proofs.Lists.{first_or_later}

-- what is left of a list whose first flow is the one that ends, or is not
module _ (q : Running) (rs tail : List Running) where
  found : (b : Bool) → ((j : ℕ) (r : Running) → slice_get tail j ≡ Some r → (k : ℕ) × (slice_get rs k ≡ Some r))
      → (j : ℕ) (r : Running) → slice_get (if b then rs else q ∷ tail) j ≡ Some r → (k : ℕ) × (slice_get (q ∷ rs) k ≡ Some r)
  found true old j r is = (suc j, is)
  found false old zero r is = (zero, is)
  found false old (suc j) r is = let was = old j r is in (suc was.0, was.1)

  has : (b : Bool) → ((r : Running) → Contains tail r → Contains rs r) → (r : Running) → Contains (if b then rs else q ∷ tail) r → Contains (q ∷ rs) r
  has true old r is = Contains-append_right (q ∷ []) rs r is
  has false old r is = ⊎_elim (λ first. subst (Contains (q ∷ rs)) first (alone q rs)) (λ rest. Contains-append_right (q ∷ []) rs r (old r rest)) (first_or_later q r tail is)

  fewer : (b : Bool) → length tail ≤ length rs → length (if b then rs else q ∷ tail) ≤ length (q ∷ rs)
  fewer true le = omega arith
  fewer false le = omega (arith, le)

-- flows that are so related are one
abbrev AreOnceBy : (Running → Running → Type 0) → List Running → Type 0
AreOnceBy R rs = (i j : ℕ) (q r : Running) → slice_get rs i ≡ Some q → slice_get rs j ≡ Some r → R q r → i ≡ j

once_left : (R : Running → Running → Type 0) (p : Running) (rs tail : List Running) (b : Bool) → ((j : ℕ) (r : Running) → slice_get tail j ≡ Some r → (k : ℕ) × (slice_get rs k ≡ Some r))
    → AreOnceBy R (p ∷ rs) → AreOnceBy R tail → AreOnceBy R (if b then rs else p ∷ tail)
once_left R p rs tail true old once rest i j q r is_q is_r related = omega (arith, once (suc i) (suc j) q r is_q is_r related)
once_left R p rs tail false old once rest zero zero q r is_q is_r related = refl
once_left R p rs tail false old once rest zero (suc j) q r is_q is_r related = let was = old j r is_r in absurd (let e = once zero (suc was.0) q r is_q was.1 related in omega (arith, e))
once_left R p rs tail false old once rest (suc i) zero q r is_q is_r related = let was = old i q is_q in absurd (let e = once (suc was.0) zero q r was.1 is_r related in omega (arith, e))
once_left R p rs tail false old once rest (suc i) (suc j) q r is_q is_r related = ap suc (rest i j q r is_q is_r related)

-- a flow that is left ran before
pub was_running : (slot : ℕ) (rs : List Running) (j : ℕ) (r : Running) → slice_get (ended slot rs) j ≡ Some r → (k : ℕ) × (slice_get rs k ≡ Some r)
was_running slot [] j r is = (j, is)
was_running slot (q ∷ rs) j r is = found q rs (ended slot rs) (q.slot == slot) (was_running slot rs) j r is

pub ran_before : (slot : ℕ) (rs : List Running) (r : Running) → Contains (ended slot rs) r → Contains rs r
ran_before slot [] r is = is
ran_before slot (q ∷ rs) r is = has q rs (ended slot rs) (q.slot == slot) (ran_before slot rs) r is

no_more : (slot : ℕ) (rs : List Running) → length (ended slot rs) ≤ length rs
no_more slot [] = omega arith
no_more slot (q ∷ rs) = fewer q rs (ended slot rs) (q.slot == slot) (no_more slot rs)

once_ended : (R : Running → Running → Type 0) (slot : ℕ) (rs : List Running) → AreOnceBy R rs → AreOnceBy R (ended slot rs)
once_ended R slot [] once = once
once_ended R slot (q ∷ rs) once = once_left R q rs (ended slot rs) (q.slot == slot) (was_running slot rs) once
    (once_ended R slot rs (λ i j p r is_p is_r related. omega (arith, once (suc i) (suc j) p r is_p is_r related)))

pub flows_end : (store shards : ℕ) (left : NodeName → List Record → Type 0) → FlowsEnd store shards left
flows_end store shards left now slot st = record {
  rests = st.rests;
  nodes = st.nodes;
  heads = st.heads;
  listed = st.listed;
  locks = st.locks;
  ids = st.ids;
  flows = record {
    few = omega (arith, no_more slot now.running, st.flows.few);
    slots = once_ended (λ q r. q.slot ≡ r.slot) slot now.running st.flows.slots;
    ids = λ i j q r id is_q is_r has also. once_ended (λ p s. (id_of p.holds ≡ Some id) × (id_of s.holds ≡ Some id)) slot now.running
        (λ i j p s is_p is_s both. st.flows.ids i j p s id is_p is_s both.0 both.1) i j q r is_q is_r (has, also);
    held = λ r has. same_right shards left now (ended slot now.running) now.told now.named r (λ x is. is) (st.flows.held r (ran_before slot now.running r has));
    seen = λ r has. st.flows.seen r (ran_before slot now.running r has);
    quiet = λ r has. st.flows.quiet r (ran_before slot now.running r has);
  };
  told = λ j d lt. same_verdict shards left now (ended slot now.running) now.told now.named (slice_index_or now.told j d) (st.told j d lt);
}

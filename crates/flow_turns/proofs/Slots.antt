-- The flow in a slot, once one has gone on or has ended.
use Rattle.std.proofs.Common.{◌≡◌, ◌≢◌, ⊎_elim, ◌==◌, ℕ, zero, suc, false, List, [], ◌∷◌, Option, Some, None, slice_get, Contains, refl, sym, ◌∙◌, ap, subst, arith, if◌then◌else◌}
use Rattle.std.proofs.lemmas.Bool.{cases_Bool, eq-eqb, eqb-true}
use Rattle.std.proofs.lemmas.List.Elements.{Contains-append_right}
use Rattle.std.proofs.lemmas.Option.{same_Some}
use Rattle.flow_turns.proofs.CallWords.{Running, alone, ended, flow_at, replaced}

-- the flow that is found runs, and is in that slot
pub found_at : (slot : ℕ) (rs : List Running) (r : Running) → flow_at slot rs ≡ Some r → Contains rs r × (r.slot ≡ slot)
found_at slot [] r is = absurd cc
found_at slot (q ∷ rs) r is = ⊎_elim
    (λ here.
    let same : q ≡ r = same_Some q r (sym (ap (λ b. if b then Some q else flow_at slot rs) here) ∙ is) in
    (subst (Contains (q ∷ rs)) same (alone q rs), ap (λ (x : Running). x.slot) (sym same) ∙ eqb-true q.slot slot here))
    (λ other.
    let rest = found_at slot rs r (sym (ap (λ b. if b then Some q else flow_at slot rs) other) ∙ is) in
    (Contains-append_right (q ∷ []) rs r rest.0, rest.1))
    (cases_Bool (q.slot == slot))

not_here : (k s : ℕ) → k ≢ s → (s == k) ≡ false
not_here k s ne = ⊎_elim (λ same. absurd (ne (sym (eqb-true s k same)))) (λ other. other) (cases_Bool (s == k))

-- if it goes on, it is in its slot
pub at_replaced : (later r : Running) (rs : List Running) → flow_at later.slot rs ≡ Some r → flow_at later.slot (replaced later rs) ≡ Some later
at_replaced later r [] is = absurd cc
at_replaced later r (q ∷ rs) is = ⊎_elim
    (λ here.
    ap (λ b. flow_at later.slot (if b then later ∷ rs else q ∷ replaced later rs)) here
    ∙ ap (λ b. if b then Some later else flow_at later.slot rs) (eq-eqb later.slot later.slot refl))
    (λ other.
    ap (λ b. flow_at later.slot (if b then later ∷ rs else q ∷ replaced later rs)) other
    ∙ ap (λ b. if b then Some q else flow_at later.slot (replaced later rs)) other
    ∙ at_replaced later r rs (sym (ap (λ b. if b then Some q else flow_at later.slot rs) other) ∙ is))
    (cases_Bool (q.slot == later.slot))

-- and each other flow in its own
pub elsewhere_replaced : (later : Running) (rs : List Running) (k : ℕ) → k ≢ later.slot → flow_at k (replaced later rs) ≡ flow_at k rs
elsewhere_replaced later [] k ne = refl
elsewhere_replaced later (q ∷ rs) k ne = ⊎_elim
    (λ here.
    ap (λ b. flow_at k (if b then later ∷ rs else q ∷ replaced later rs)) here
    ∙ ap (λ b. if b then Some later else flow_at k rs) (not_here k later.slot ne)
    ∙ sym (ap (λ b. if b then Some q else flow_at k rs) (not_here k q.slot (λ same. ne (same ∙ eqb-true q.slot later.slot here)))))
    (λ other.
    ap (λ b. flow_at k (if b then later ∷ rs else q ∷ replaced later rs)) other
    ∙ ap (λ (o : Option Running). if q.slot == k then Some q else o) (elsewhere_replaced later rs k ne))
    (cases_Bool (q.slot == later.slot))

-- if it ends, its slot is free, since no two flows have one
none_at : (slot : ℕ) (rs : List Running) → ((j : ℕ) (r : Running) → slice_get rs j ≡ Some r → r.slot ≡ slot → ⊥) → flow_at slot rs ≡ None
none_at slot [] none = refl
none_at slot (q ∷ rs) none = ⊎_elim
    (λ here. absurd (none zero q refl (eqb-true q.slot slot here)))
    (λ other. ap (λ b. if b then Some q else flow_at slot rs) other ∙ none_at slot rs (λ j r is same. none (suc j) r is same))
    (cases_Bool (q.slot == slot))

pub at_ended : (slot : ℕ) (rs : List Running) → ((i j : ℕ) (q r : Running) → slice_get rs i ≡ Some q → slice_get rs j ≡ Some r → q.slot ≡ r.slot → i ≡ j) → flow_at slot (ended slot rs) ≡ None
at_ended slot [] once = refl
at_ended slot (q ∷ rs) once = ⊎_elim
    (λ here.
    ap (λ b. flow_at slot (if b then rs else q ∷ ended slot rs)) here
    ∙ none_at slot rs (λ j r is same. let e = once zero (suc j) q r refl is (eqb-true q.slot slot here ∙ sym same) in omega (arith, e)))
    (λ other.
    ap (λ b. flow_at slot (if b then rs else q ∷ ended slot rs)) other
    ∙ ap (λ b. if b then Some q else flow_at slot (ended slot rs)) other
    ∙ at_ended slot rs (λ i j p r is_p is_r same. let e = once (suc i) (suc j) p r is_p is_r same in omega (arith, e)))
    (cases_Bool (q.slot == slot))

pub elsewhere_ended : (slot : ℕ) (rs : List Running) (k : ℕ) → k ≢ slot → flow_at k (ended slot rs) ≡ flow_at k rs
elsewhere_ended slot [] k ne = refl
elsewhere_ended slot (q ∷ rs) k ne = ⊎_elim
    (λ here.
    ap (λ b. flow_at k (if b then rs else q ∷ ended slot rs)) here
    ∙ sym (ap (λ b. if b then Some q else flow_at k rs) (not_here k q.slot (λ same. ne (same ∙ eqb-true q.slot slot here)))))
    (λ other.
    ap (λ b. flow_at k (if b then rs else q ∷ ended slot rs)) other
    ∙ ap (λ (o : Option Running). if q.slot == k then Some q else o) (elsewhere_ended slot rs k ne))
    (cases_Bool (q.slot == slot))

-- The slots of a world's flows: as many as run, each once.
use Rattle.std.proofs.Common.{◌≡◌, ◌≢◌, ⊎_elim, ◌<◌, ◌+◌, ℕ, zero, suc, false, List, [], ◌∷◌, length, Option, Some, None, is_some, cond, slice_index_or, Contains, refl, ◌∙◌, ap, subst, arith}
use Rattle.std.specs.List.{AllByRecursion, IsDistinct}
use Rattle.std.proofs.Math.Dec.{eqb}
use Rattle.std.proofs.lemmas.Bool.{cases_Bool, eqb-true}
use Rattle.std.proofs.lemmas.List.Elements.{Contains-append_right}
use Rattle.std.proofs.lemmas.List.Recursion.{is_count_by}
use Rattle.headline.proofs.Words.{Flow, FlowView, IsShownSlot, alone, flow_at, flow_count}
use Rattle.tuples.proofs.Lists.{first_or_later}

-- those from a number on
slots_from : ℕ → List (Option Flow) → List ℕ
slots_from k [] = []
slots_from k (None ∷ flows) = slots_from (suc k) flows
slots_from k (Some f ∷ flows) = k ∷ slots_from (suc k) flows

pub taken_slots : List (Option Flow) → List ℕ
taken_slots flows = slots_from 0 flows

count : List (Option Flow) → ℕ
count [] = 0
count (None ∷ flows) = count flows
count (Some f ∷ flows) = 1 + count flows

as_many_from : (k : ℕ) (flows : List (Option Flow)) → length (slots_from k flows) ≡ count flows
unfolding slots_from count
as_many_from k [] = refl
as_many_from k (None ∷ flows) = as_many_from (suc k) flows
as_many_from k (Some f ∷ flows) = omega (arith, as_many_from (suc k) flows)

counts : (flows : List (Option Flow)) → count flows ≡ flow_count flows
unfolding count
counts flows = is_count_by count is_some refl by_first flows
  where
    by_first : (o : Option Flow) (rest : List (Option Flow)) → count (o ∷ rest) ≡ cond (is_some o) (1 + count rest) (count rest)
    by_first None rest = refl
    by_first (Some f) rest = refl

pub as_many : (flows : List (Option Flow)) → length (taken_slots flows) ≡ flow_count flows
unfolding taken_slots
as_many flows = as_many_from 0 flows ∙ counts flows

-- each is the slot of a flow
flow_of : (k : ℕ) (flows : List (Option Flow)) (t : ℕ) → Contains (slots_from k flows) t → (j : ℕ) × (f : Flow) × (t ≡ k + j) × (slice_index_or flows j None ≡ Some f)
unfolding slots_from
flow_of k [] t has = absurd (omega (arith, has.1))
flow_of k (None ∷ flows) t has = let found = flow_of (suc k) flows t has in (suc found.0, found.1, omega (arith, found.2), found.3)
flow_of k (Some f ∷ flows) t has = ⊎_elim
    (λ first. (zero, f, omega (arith, first), refl))
    (λ rest. let found = flow_of (suc k) flows t rest in (suc found.0, found.1, omega (arith, found.2), found.3))
    (first_or_later k t (slots_from (suc k) flows) has)

-- and each flow's slot is one of them
slot_of : (k : ℕ) (flows : List (Option Flow)) (j t : ℕ) (f : Flow) → t ≡ k + j → slice_index_or flows j None ≡ Some f → Contains (slots_from k flows) t
unfolding slots_from
slot_of k [] j t f at is = absurd cc
slot_of k (None ∷ flows) zero t f at is = absurd cc
slot_of k (None ∷ flows) (suc j) t f at is = slot_of (suc k) flows j t f (omega (arith, at)) is
slot_of k (Some g ∷ flows) zero t f at is = subst (Contains (k ∷ slots_from (suc k) flows)) (let e : k ≡ t = omega (arith, at) in e) (alone k (slots_from (suc k) flows))
slot_of k (Some g ∷ flows) (suc j) t f at is = Contains-append_right (k ∷ []) (slots_from (suc k) flows) t (slot_of (suc k) flows j t f (omega (arith, at)) is)

not_equal : (a b : ℕ) → a < b → eqb a b ≡ false
not_equal a b lt = ⊎_elim (λ same. absurd (let e = eqb-true a b same in omega (arith, lt, e))) (λ other. other) (cases_Bool (eqb a b))

-- each of them once
above : (k m : ℕ) (flows : List (Option Flow)) → k < m → AllByRecursion (λ (y : ℕ). eqb k y ≡ false) (slots_from m flows)
unfolding slots_from
above k m [] lt = tt
above k m (None ∷ flows) lt = above k (suc m) flows (omega (arith, lt))
above k m (Some f ∷ flows) lt = (not_equal k m lt, above k (suc m) flows (omega (arith, lt)))

once_from : (k : ℕ) (flows : List (Option Flow)) → IsDistinct eqb (slots_from k flows)
unfolding slots_from IsDistinct
once_from k [] = tt
once_from k (None ∷ flows) = once_from (suc k) flows
once_from k (Some f ∷ flows) = (above k (suc k) flows (omega arith), once_from (suc k) flows)

pub once : (flows : List (Option Flow)) → IsDistinct eqb (taken_slots flows)
unfolding taken_slots
once flows = once_from 0 flows

-- what a store shows in its slots is in these
module _ (shards : ℕ) (flows : List (Option Flow)) (shown : ℕ → Option FlowView) (shows : (slot : ℕ) → IsShownSlot shards (flow_at flows slot) (shown slot)) where
  pub each_taken : (t : ℕ) → Contains (taken_slots flows) t → shown t ≢ None
  unfolding taken_slots
  each_taken t has =
      let found = flow_of 0 flows t has in
      let at : flow_at flows t ≡ Some found.1 = ap (λ (j : ℕ). flow_at flows j) (let e : t ≡ found.0 = omega (arith, found.2) in e) ∙ found.3 in
      by_view found.1 (shown t) (subst (λ (o : Option Flow). IsShownSlot shards o (shown t)) at (shows t))
    where
      by_view : (f : Flow) (o : Option FlowView) → IsShownSlot shards (Some f) o → o ≢ None
      by_view f None is none = is
      by_view f (Some v) is none = cc

  pub all_taken : (t : ℕ) → shown t ≢ None → Contains (taken_slots flows) t
  unfolding taken_slots
  all_taken t some = by_flow (flow_at flows t) refl (shown t) refl (shows t)
    where
      by_flow : (o : Option Flow) → flow_at flows t ≡ o → (g : Option FlowView) → shown t ≡ g → IsShownSlot shards o g → Contains (slots_from 0 flows) t
      by_flow None at None is shown_so = absurd (some is)
      by_flow None at (Some v) is shown_so = absurd shown_so
      by_flow (Some f) at g is shown_so = slot_of 0 flows t t f (omega arith) at

  -- an empty slot is shown so
  pub none_shown : (t : ℕ) → flow_at flows t ≡ None → shown t ≡ None
  none_shown t free = by_view (shown t) (subst (λ (o : Option Flow). IsShownSlot shards o (shown t)) free (shows t))
    where
      by_view : (o : Option FlowView) → IsShownSlot shards None o → o ≡ None
      by_view None is = refl
      by_view (Some v) is = absurd is

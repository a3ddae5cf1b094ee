-- A place that heads refuse is not there, if they tell no less than what is seen, and no horizon above the one that is. A call that may be made is one of a
-- node that is there.
use Rattle.std.proofs.Common.{inl, inr, ⊎_elim, ℕ, ◌≤◌, List, length, arith}
use Rattle.flow_ties.proofs.Words.{at_least, Coordinator, Entry, exact, Freshness, HeadsValue, latest, MayBeMade, NodeCall, Refusal, Shard}
use Rattle.answer_flow.specs.Finding.{IsRefused}
use Rattle.flow_ties.specs.Refusing.{IsAtNode, IsPlaceRefused}

module _ (seen : List Entry) (low : ℕ) (v : HeadsValue) (e : Refusal) (reach : length seen ≤ v.length) (horizon : v.horizon ≤ low) where
  pub place_refused : (fresh : Freshness) → IsRefused fresh v e → IsPlaceRefused fresh seen low e
  place_refused latest why = ⊎_elim (λ future. absurd (why.future future)) (λ collected. absurd (why.collected collected)) why.one
  place_refused (at_least z) why = ⊎_elim
      (λ future. (future, let above = why.future future in omega (arith, reach, above)))
      (λ collected. absurd (why.collected collected))
      why.one
  place_refused (exact z) why = ⊎_elim
      (λ future. inl (future, let above = why.future future in omega (arith, reach, above)))
      (λ collected. inr (collected, let forgotten = (why.collected collected).1 in omega (arith, horizon, forgotten)))
      why.one

pub is_at_node : (shards : ℕ) (call : NodeCall) → MayBeMade shards call → IsAtNode shards call
is_at_node shards (Coordinator call) may = tt
is_at_node shards (Shard s call) may = may.0

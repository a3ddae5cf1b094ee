-- A read of a shared store that has a shard read before it is asked how far it has learned.
use Rattle.std.proofs.Common.{inl, inr, ℕ, List, None, sym, ap, subst}
use Rattle.locked.proofs.Words.{Entry, Freshness, IsReadOf, ReadView, Tupleset}
use Rattle.decisions.specs.Flows.{ReadHolds}
use Rattle.answer_flow.specs.Reading.{HastensRead}
use Rattle.flow_ties.specs.Reads.{HoldsRows}

-- what it holds is as it was
pub hastened : (shards : ℕ) (seen : List Entry) (fresh : Freshness) (sets : List Tupleset) (v after : ReadView) → HastensRead v after → IsReadOf shards seen fresh sets v → IsReadOf shards seen fresh sets after
hastened shards seen fresh sets v after (inl same) is = subst (IsReadOf shards seen fresh sets) (sym same) is
hastened shards seen fresh sets v after (inr same) is = subst (IsReadOf shards seen fresh sets) (sym same) (record {
  nothing = λ nowhere. ap (λ (held : ReadHolds). record held { batch = None }) (is.nothing nowhere);
  held = λ place there. let held : HoldsRows shards seen fresh sets place v.holds = is.held place there in record { there = held.there; wanted = held.wanted; done = held.done; few = held.few; rows = held.rows };
  batch = λ b some. absurd (cc some);
  answers = λ place done some. absurd (cc some);
})

-- Places that are as fresh as asked.
use Rattle.std.proofs.Common.{ℕ, ◌≤◌, ◌⊎◌, ◌≡◌, inl, inr, ⊎_elim, List, Bool, length, refl, arith}
use Rattle.locked.proofs.Words.{Entry, exact, Freshness, HasReason, IsAsAsked, IsBeyond, IsFresh, LiesBeyond, Narrows, NoMemory, Refusal}
use Rattle.calls.specs.Refusing.{HasTold}
use Rattle.decisions.specs.Flows.{at_least, latest}
use Rattle.flow_ties.specs.Refusing.{IsPlaceRefused}
use Rattle.locked.specs.Answering.{IsAhead, IsNotThere, IsPassed}
use Rattle.refusal.specs.declared.refusal.Refusal.TheVariants.{Collected}

-- above what was published, which is no less than what had been seen, a place that is as asked is as fresh as asked
pub beyond_is_fresh : (asked : Freshness) (before published place : ℕ) → before ≤ published → IsBeyond asked published → IsAsAsked asked place → IsFresh asked before place
beyond_is_fresh latest before published place rises beyond is = absurd beyond
beyond_is_fresh (at_least z) before published place rises beyond is = (is, omega (arith, rises, beyond, is))
beyond_is_fresh (exact z) before published place rises beyond is = is

pub fresh_is_as_asked : (asked : Freshness) (before place : ℕ) → IsFresh asked before place → IsAsAsked asked place
fresh_is_as_asked latest before place is = tt
fresh_is_as_asked (at_least z) before place is = is.0
fresh_is_as_asked (exact z) before place is = is

-- if less had been seen, what is as fresh as asked is still so
pub fresh_of_less : (asked : Freshness) (less more place : ℕ) → less ≤ more → IsFresh asked more place → IsFresh asked less place
fresh_of_less latest less more place le is = omega (arith, le, is)
fresh_of_less (at_least z) less more place le is = (is.0, omega (arith, le, is.1))
fresh_of_less (exact z) less more place le is = is

-- and a place that is not there is not there
not_there_of_less : (asked : Freshness) (less more : ℕ) (seen : List Entry) (low : ℕ) (e : Refusal) → less ≤ more → IsNotThere asked more seen low e → IsNotThere asked less seen low e
not_there_of_less asked less more seen low e le why = ⊎_elim (λ above. inl above) (λ below. inr (below.0, (below.1.0, fresh_of_less asked less more below.1.0 le below.1.1, below.1.2))) why

pub reason_of_less : (asked : Freshness) (less more : ℕ) (seen : List Entry) (low : ℕ) (marks : List Bool) (e : Refusal) → less ≤ more → HasTold marks e ⊎ ((e ≡ NoMemory) ⊎ IsNotThere asked more seen low e)
    → HasTold marks e ⊎ ((e ≡ NoMemory) ⊎ IsNotThere asked less seen low e)
reason_of_less asked less more seen low marks e le why = ⊎_elim
    (λ told. inl told)
    (λ rest. inr (⊎_elim (λ memory. inl memory) (λ place. inr (not_there_of_less asked less more seen low e le place)) rest))
    why

-- a place that is as fresh as asked lies above a horizon that had been seen, if that has not passed the one place that will do
pub fresh_is_kept : (asked : Freshness) (low before place : ℕ) → low ≤ before → IsAhead asked low → IsFresh asked before place → low ≤ place
fresh_is_kept latest low before place le ahead is = omega (arith, le, is)
fresh_is_kept (at_least z) low before place le ahead is = omega (arith, le, is.1)
fresh_is_kept (exact z) low before place le ahead is = omega (arith, ahead, is)

-- just one place that the horizon has passed is not there
pub passed_is_not_there : (asked : Freshness) (before low : ℕ) (seen : List Entry) → IsPassed asked low → IsNotThere asked before seen low Collected
passed_is_not_there latest before low seen passed = absurd passed
passed_is_not_there (at_least z) before low seen passed = absurd passed
passed_is_not_there (exact z) before low seen passed = inr (refl, (z, refl, passed))

-- a place of the list lies beyond nothing that is longer
pub place_is_reached : (asked : Freshness) (place so_far : ℕ) → place ≤ so_far → LiesBeyond (exact place) asked so_far
place_is_reached asked place so_far le n longer above = absurd (omega (arith, le, longer, above))

module _ (asked : Freshness) (before so_far : ℕ) (seen : List Entry) (low : ℕ) (e : Refusal) (le : so_far ≤ length seen) where
  -- a place that is not there, of which the one that was asked for is as fresh
  not_there : (narrow : Freshness) → Narrows narrow asked before → LiesBeyond narrow asked so_far → IsPlaceRefused narrow seen low e → IsNotThere asked before seen low e
  not_there latest narrows beyond why = absurd why
  not_there (at_least z) narrows beyond why = inl (why.0, beyond (length seen) le why.1)
  not_there (exact z) narrows beyond why = ⊎_elim (λ above. inl (above.0, beyond (length seen) le above.1)) (λ below. inr (below.0, (z, narrows z refl, below.1))) why

  -- and so the reason of a refusal is one in the words of what was asked for
  pub reason_asked : (marks : List Bool) (narrow : Freshness) → Narrows narrow asked before → LiesBeyond narrow asked so_far → HasReason marks narrow seen low e → HasTold marks e ⊎ ((e ≡ NoMemory) ⊎ IsNotThere asked before seen low e)
  reason_asked marks narrow narrows beyond reason = ⊎_elim
      (λ told. inl told)
      (λ rest. inr (⊎_elim (λ memory. inl memory) (λ place. inr (not_there narrow narrows beyond place)) rest))
      reason

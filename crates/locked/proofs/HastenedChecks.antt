-- A check of a shared store that has a shard read before it is asked how far it has learned.
use Rattle.std.proofs.Common.{◌≡◌, inl, inr, ℕ, List, Bool, Some, None, refl, sym, ◌∙◌, ap, subst}
use Rattle.locked.proofs.Words.{at_rest, CheckFlowValue, CheckHasReason, checks_at_rest_have_reason, CheckView, Entry, Freshness, IsCheckOf, Known, NoMemory, Progress, read, User, Userset}
use Rattle.calls.specs.declared.progress.Progress.TheVariants.{Next}
use Rattle.answer_flow.specs.Checking.{HastensCheck, LacksMemory}
use Rattle.answer_flow.specs.CheckViews.{IsAsked, refused, seen_after, seen_of}
use Rattle.answer_flow.specs.declared.check_phase.CheckDone.{CheckDone}
use Rattle.flow_ties.specs.Checks.{HoldsWalk}
use Rattle.locked.proofs.CheckTurns.{CheckGoesOn}

module _ (marks : List Bool) (seen : List Entry) (low : ℕ) (fresh : Freshness) (x : Userset) (u : User) where
  -- what it holds is as it was
  reads : (v after : CheckView) → v.ended ≡ None → after ≡ at_rest read (record v.holds { batch = None }) → IsCheckOf seen fresh x u v → IsCheckOf seen fresh x u after
  reads v after runs same is = subst (IsCheckOf seen fresh x u) (sym same) (record {
    nothing = λ rests nowhere. is.nothing runs nowhere;
    held = λ place there. let held : HoldsWalk seen fresh x u place v.holds = is.held place there in record { there = held.there; wanted = held.wanted; walk = held.walk };
    batch = λ b some. absurd (cc some);
    answers = λ place answer some. absurd (cc some);
  })

  lacks : (after : CheckView) → LacksMemory after → IsCheckOf seen fresh x u after
  lacks after same = subst (IsCheckOf seen fresh x u) (sym same) (record {
    nothing = λ rests. absurd (cc rests);
    held = λ place there. absurd (cc there);
    batch = λ b some. absurd (cc some);
    answers = λ place answer some. absurd (cc some);
  })

  held : (v after : CheckView) → v.ended ≡ None → HastensCheck v after → IsCheckOf seen fresh x u v → IsCheckOf seen fresh x u after
  held v after runs (inl same) is = subst (IsCheckOf seen fresh x u) (sym same) is
  held v after runs (inr h) is = elim h [ inl same ↦ reads v after runs same is | inr none ↦ lacks after none ]

  -- if it ends, memory was refused
  ends : (after : CheckView) → LacksMemory after → CheckHasReason marks fresh seen low x after
  ends after same e is =
      let same_end : Some (refused NoMemory) ≡ Some (refused e) = sym (ap (λ (v : CheckView). v.ended) same) ∙ is in
      let no_memory : e ≡ NoMemory = cc same_end in
      inl (inr (inl no_memory))

  reason : (v : CheckFlowValue) (after : CheckView) → HastensCheck (seen_of v) after → CheckHasReason marks fresh seen low x after
  reason v after (inl same) = subst (CheckHasReason marks fresh seen low x) (sym same) (checks_at_rest_have_reason fresh x marks seen low v.next v.holds)
  reason v after (inr h) =
      elim h [ inl same ↦ subst (CheckHasReason marks fresh seen low x) (sym same) (checks_at_rest_have_reason fresh x marks seen low read (record v.holds { batch = None })) | inr none ↦ ends after none ]

-- a check that is to read at once is what it was, or memory was refused
pub hastened : (rests : Type 0) (shards : ℕ) (pass : Known Entry) (marks : List Bool) (x : Userset) (fresh : Freshness) (u : User) (v : CheckFlowValue) (after : Progress CheckFlowValue CheckDone) → CheckGoesOn rests shards pass marks x fresh u (Next v)
    → IsAsked v.shards v.fresh v.user after → HastensCheck (seen_of v) (seen_after after) → CheckGoesOn rests shards pass marks x fresh u after
hastened rests shards pass marks x fresh u v after was asked hastens = record {
  asked = subst (λ (f : CheckFlowValue). IsAsked f.shards f.fresh f.user after) was.asked asked;
  held = λ h. held marks pass.seen pass.horizon fresh x u (seen_of v) (seen_after after) refl hastens (was.held h);
  reason = λ h. reason marks pass.seen pass.horizon fresh x u v (seen_after after) hastens;
}

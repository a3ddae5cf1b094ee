-- What the end of a learning says of its last reply.
use Rattle.std.proofs.Common.{◌≡◌, ◌⊎◌, inl, inr, ℕ, ◌≤◌, ◌<◌, Bool, true, false, Option, Some, None, Ok, Err, MatchOption, ap, refl, sym, ◌∙◌, arith}
use Rattle.std.proofs.lemmas.Bool.{cases_order, false≢true}
use Rattle.refusal.specs.declared.refusal.Refusal.{Refusal}
use Rattle.refusal.specs.declared.refusal.Refusal.TheVariants.{Collected, Full}
use Rattle.decisions.specs.Values.{BatchValue, HeadsValue}
use Rattle.decisions.specs.Flows.{HeadsHeld, no_heads}
use Rattle.catch_up.specs.Held.{Awaited, learning}
use Rattle.catch_up.specs.CatchingUp as catching
use Rattle.catch_up.specs.declared.caught.Progress.{Progress}
use Rattle.catch_up.specs.declared.caught.Progress.TheVariants.{Next, There, Refused as is_refused}
use Rattle.calls.specs.declared.reply.Reply.{Reply}
use Rattle.calls.specs.declared.reply.Reply.TheVariants.{Coordinator as from_coordinator, Shard as from_shard}
use Rattle.calls.specs.declared.reply.CoordinatorReply.TheVariants as told
use Rattle.calls.specs.declared.reply.ShardReply.TheVariants as told_by
use Rattle.care_flow.specs.declared.end.CareEnd.TheVariants.{Done, Refused, Resolved}
use Rattle.care_flow.specs.CatchUps.{on_its_way}
use Rattle.care_flow.specs.Learning.{AnswersSoFar, Fits, Gives, HasLearned, LearnStep, LearnView, ProgressGives, ask, catch_up}
use Rattle.care_flow.specs.Views.{over, ready}

abbrev is_there : Progress → Bool
is_there There = true
is_there (Next c) = false
is_there (is_refused e) = false

abbrev is_full : Refusal → Bool
is_full Full = true
is_full e = false

abbrev is_collected : Refusal → Bool
is_collected Collected = true
is_collected e = false

elsewhere : {X : Type 0} (other : Progress) → is_there other ≡ false → There ≡ other → X
elsewhere other on same = absurd (false≢true (sym (ap is_there same ∙ on)))

-- it has learned so far, or the catch-up would go on
far_enough : (to n : ℕ) (further : Progress) → is_there further ≡ false → (n < to → There ≡ further) → (n ≡ to) ⊎ ((n < to) ⊎ (to < n)) → to ≤ n
far_enough to n further on goes (inl same) = omega (arith, same)
far_enough to n further on goes (inr (inl less)) = elsewhere further on (goes less)
far_enough to n further on goes (inr (inr more)) = omega (arith, more)

-- a refused learning leads to a flush, or to the end
not_learned : (again : Bool) (e : Refusal) (flush end : Progress) → is_there flush ≡ false → is_there end ≡ false
    → (e ≡ Full → learning again ≡ learning false → There ≡ flush) → ((e ≡ Full → ⊥) ⊎ (learning again ≡ learning true) → There ≡ end) → ⊥
not_learned true e flush end on out goes ends = elsewhere end out (ends (inr refl))
not_learned false Full flush end on out goes ends = elsewhere flush on (goes refl refl)
not_learned false e flush end on out goes ends = elsewhere end out (ends (inl (λ full. false≢true (ap is_full full))))

-- refused decisions are asked for again, or end it
not_fetched : (e : Refusal) (anew end : Progress) → is_there anew ≡ false → is_there end ≡ false → (e ≡ Collected → There ≡ anew) → ((e ≡ Collected → ⊥) → There ≡ end) → ⊥
not_fetched Collected anew end on out goes ends = elsewhere anew on (goes refl)
not_fetched e anew end on out goes ends = elsewhere end out (ends (λ collected. false≢true (ap is_collected collected)))

-- a catch-up is there only after that answer
pub there_so_far : (s to : ℕ) (batch : Option BatchValue) (awaited : Awaited) (reply : Reply) → catching.Fits awaited reply
    → catching.Gives (record { held = on_its_way s to batch; awaited = awaited }) reply There → AnswersSoFar to reply
there_so_far s to batch awaited (from_coordinator (told.Batch (Ok b))) fits gives = elsewhere (Next (catching.to_hand_over (Some b) false (on_its_way s to batch))) refl gives
there_so_far s to batch awaited (from_coordinator (told.Batch (Err e))) fits gives = absurd (not_fetched e (Next (on_its_way s to None)) (is_refused e) refl refl gives.0 gives.1)
there_so_far s to batch awaited (from_coordinator reply) fits gives = absurd gives
there_so_far s to batch awaited (from_shard (told_by.Learned (Ok n))) fits gives = (n, refl, far_enough to n (Next (catching.to_fetch n (on_its_way s to None))) refl gives.1 (cases_order n to))
there_so_far s to batch awaited (from_shard (told_by.Learned (Err e))) fits gives = elsewhere (is_refused e) refl gives
there_so_far s to batch awaited (from_shard (told_by.Learn b (Ok k))) fits gives = elsewhere (Next (on_its_way s to None)) refl gives
there_so_far s to batch (learning again) (from_shard (told_by.Learn b (Err e))) fits gives = absurd (not_learned again e (Next (catching.to_flush b (on_its_way s to batch))) (is_refused e) refl refl gives.0 gives.1)
there_so_far s to batch awaited (from_shard (told_by.Learn b (Err e))) fits gives = absurd fits
there_so_far s to batch awaited (from_shard (told_by.Flush (Ok done))) fits gives = elsewhere (Next (catching.to_hand_over batch true (on_its_way s to batch))) refl gives
there_so_far s to batch awaited (from_shard (told_by.Flush (Err e))) fits gives = elsewhere (is_refused e) refl gives
there_so_far s to batch awaited (from_shard reply) fits gives = absurd gives

abbrev is_done : LearnView → Bool
is_done v = elim v.ended as (λ _. Bool) [ None ↦ false | Some end ↦ elim end as (λ _. Bool) [ Done ↦ true | Resolved all ↦ false | Refused e ↦ false ] ]

not_done : {X : Type 0} (other : LearnView) → is_done other ≡ false → over no_heads Done ≡ other → X
not_done other on same = absurd (false≢true (sym (ap is_done same ∙ on)))

-- a learning ends so
far_done : (s to : ℕ) (h : HeadsHeld) (awaited : Awaited) (reply : Reply) (progress : Progress) → catching.Fits awaited reply
    → catching.Gives (record { held = on_its_way s to h.batch; awaited = awaited }) reply progress → ProgressGives h progress (over no_heads Done) → AnswersSoFar to reply
far_done s to h awaited reply There fits gives done = there_so_far s to h.batch awaited reply fits gives
far_done s to h awaited reply (Next c) fits gives done = not_done (ready (record h { batch = c.batch }) (catch_up None)) refl done
far_done s to h awaited reply (is_refused e) fits gives done = not_done (over no_heads (Refused e)) refl done

-- by the heads that are held
by_heads : (s : ℕ) (heads : Option HeadsValue) (batch : Option BatchValue) (awaited : Awaited) (reply : Reply) → catching.Fits awaited reply
    → Gives s (record { heads = heads; batch = batch }) (catch_up (Some awaited)) reply (over no_heads Done) → HasLearned (record { heads = heads; batch = batch }) reply
by_heads s None batch awaited reply fits done = absurd done
by_heads s (Some v) batch awaited reply fits done = far_done s v.kept (record { heads = Some v; batch = batch }) awaited reply done.0 fits done.1 done.2

-- by the call that is out
done_at : (s : ℕ) (h : HeadsHeld) (step : LearnStep) (reply : Reply) → Fits step reply → Gives s h step reply (over no_heads Done) → HasLearned h reply
done_at s h ask (from_coordinator (told.Heads (Ok v))) fits done = not_done (ready (record h { heads = Some v }) (catch_up None)) refl done
done_at s h ask (from_coordinator (told.Heads (Err e))) fits done = not_done (over no_heads (Refused e)) refl done
done_at s h ask (from_coordinator reply) fits done = absurd done
done_at s h ask (from_shard reply) fits done = absurd done
done_at s h (catch_up None) reply fits done = absurd fits
done_at s h (catch_up (Some awaited)) reply fits done = by_heads s h.heads h.batch awaited reply fits done

-- a learning is done only if the shard has answered that it has learned up to the kept place of the heads
pub learning_is_done : (s : ℕ) (h : HeadsHeld) (awaited : Option LearnStep) (reply : Reply) → MatchOption awaited ⊥ (λ step. Fits step reply)
    → MatchOption awaited ⊥ (λ step. Gives s h step reply (over no_heads Done)) → HasLearned h reply
learning_is_done s h None reply fits gives = absurd fits
learning_is_done s h (Some step) reply fits gives = done_at s h step reply fits gives

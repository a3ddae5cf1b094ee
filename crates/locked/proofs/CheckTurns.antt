-- A check of a shared store goes on to hold what is of the list, turn by turn.
use Rattle.std.proofs.Common.{◌≡◌, ◌⊎◌, inl, inr, ⊎_elim, ◌≤◌, ℕ, List, length, Bool, Some, Result, Ok, Err, IfOk, refl, sym, ap, subst}
use Rattle.std.proofs.lemmas.Option.{same_Some}
use Rattle.locked.proofs.Words.{Attempt, begins_at, CallName, catch_up, CheckFlowValue, CheckHasReason, checks_at_rest_have_reason, Entry, exact, Freshness, heads, IsAsAsked, IsBeyond, IsCheckOf, IsFresh, Known, Narrows, Progress, Reply, Turns, User, Userset}
use Rattle.calls.specs.declared.progress.Progress.TheVariants.{Next}
use Rattle.answer_flow.specs.Checking.{Asks, GivesTo}
use Rattle.answer_flow.specs.CheckViews.{CheckAwaited, CheckCallValue, CheckEnding, IsAsked, checked, ended, refused, seen_after, seen_of, seen_out}
use Rattle.answer_flow.specs.Running.{AsksCheck, GivesCheck}
use Rattle.answer_flow.specs.declared.check_phase.CheckDone.{CheckDone}
use Rattle.flow_ties.specs.Checks.{IsMembershipAt, IsTooFar}
use Rattle.flow_ties.proofs.SeenChecks.{checks_answer_what_is_seen, checks_begin, checks_begin_at_places, checks_stay_seen}
use Rattle.flow_ties.proofs.ToldChecks.{checks_refuse_for_a_reason}
use Rattle.calls.specs.Refusing.{HasTold}
use Rattle.refusal.specs.declared.refusal.Refusal.{Refusal}
use Rattle.refusal.specs.declared.refusal.Refusal.TheVariants.{Collected, Full, NoMemory}
use Rattle.locked.specs.Answering.{CheckEnds, CheckRefuses, CheckRuns, IsNotThere, IsPassed}
use Rattle.locked.proofs.FreshPlaces.{beyond_is_fresh, fresh_is_as_asked, fresh_of_less, passed_is_not_there, place_is_reached, reason_asked, reason_of_less}

-- what the reply makes of it, in the words of what was asked
gives_to : (v : CheckFlowValue) (out : CheckCallValue) (reply : Reply) (after : Progress CheckFlowValue CheckDone)
    → out ≡ record { shards = v.shards; fresh = v.fresh; user = v.user; step = out.step; awaited = out.awaited; holds = out.holds } → GivesCheck out reply after
    → (awaited : CheckAwaited) → Some out.awaited ≡ Some awaited → GivesTo v.fresh v.user (seen_out out) awaited reply (seen_after after)
gives_to v out reply after same gives awaited is =
    let here = subst (λ (a : CheckAwaited). GivesTo out.fresh out.user (seen_out out) a reply (seen_after after)) (same_Some out.awaited awaited is) gives.1 in
    subst (λ (o : CheckCallValue). GivesTo o.fresh o.user (seen_out out) awaited reply (seen_after after)) same here

-- it is what was asked, what it holds is of the list, and a refusal has a reason in what was told
pub record CheckGoesOn (rested : Type 0) (shards : ℕ) (pass : Known Entry) (marks : List Bool) (x : Userset) (fresh : Freshness) (u : User) (after : Progress CheckFlowValue CheckDone) : Type 0 where
  pub asked : IsAsked shards fresh u after
  pub held : rested → IsCheckOf pass.seen fresh x u (seen_after after)
  pub reason : rested → CheckHasReason marks fresh pass.seen pass.horizon x (seen_after after)

-- one that waits was not refused
pub check_waits : (rests : Type 0) (shards : ℕ) (pass : Known Entry) (marks : List Bool) (x : Userset) (v : CheckFlowValue) → v.shards ≡ shards → (rests → IsCheckOf pass.seen v.fresh x v.user (seen_of v)) → CheckGoesOn rests shards pass marks x v.fresh v.user (Next v)
check_waits rests shards pass marks x v of held =
    record { asked = subst (λ (n : ℕ). IsAsked n v.fresh v.user (Next v)) of refl; held = held; reason = λ h. checks_at_rest_have_reason v.fresh x marks pass.seen pass.horizon v.next v.holds }

turned : {tried more : Known Attempt} (rests : Type 0) (shards : ℕ) (old new : Known Entry) (marks later : List Bool) (x : Userset) (v : CheckFlowValue) (after : Progress CheckFlowValue CheckDone) → v.shards ≡ shards → (rests → IsCheckOf old.seen v.fresh x v.user (seen_of v))
    → Turns AsksCheck rests GivesCheck shards old new tried more marks later v after → CheckGoesOn rests shards new later x v.fresh v.user after
turned rests shards old new marks later x v after of is t =
    let asks = subst (λ (n : ℕ). Asks n v.user (seen_of v) t.call (seen_out t.out)) of t.asked.2 in
    let gives = gives_to v t.out t.reply after t.asked.1 t.given in
    record {
      asked = subst (λ (n : ℕ). IsAsked n v.fresh v.user after) of (subst (λ (o : CheckCallValue). IsAsked o.shards o.fresh o.user after) t.asked.1 t.given.0);
      held = λ h. checks_answer_what_is_seen shards old.seen new.seen v.fresh x v.user (seen_of v) (seen_after after) t.serves.later.seen (is h)
          (record { running = refl; call = t.call; out = seen_out t.out; reply = t.reply; asks = asks; belongs = t.serves.belongs; told = t.serves.told h; gives = gives });
      reason = λ h. checks_refuse_for_a_reason shards v.fresh x v.user marks later new.seen new.horizon (seen_of v) (seen_out t.out) (seen_after after) t.call t.reply refl
          (checks_stay_seen old.seen new.seen v.fresh x v.user (seen_of v) t.serves.later.seen (is h))
          asks t.serves.belongs (t.serves.told h) gives (t.serves.reach h) (t.serves.care h) t.notices;
    }

-- and so after a turn
pub check_goes_on : {tried more : Known Attempt} (rests : Type 0) (shards : ℕ) (old new : Known Entry) (marks later : List Bool) (x : Userset) (fresh : Freshness) (u : User) (v : CheckFlowValue) (after : Progress CheckFlowValue CheckDone) → CheckGoesOn rests shards old marks x fresh u (Next v)
    → Turns AsksCheck rests GivesCheck shards old new tried more marks later v after → CheckGoesOn rests shards new later x fresh u after
check_goes_on rests shards old new marks later x fresh u v after was t =
    subst (λ (f : CheckFlowValue). CheckGoesOn rests shards new later x f.fresh f.user after) was.asked (turned rests shards old new marks later x v after (ap (λ (f : CheckFlowValue). f.shards) was.asked)
    (λ h. subst (λ (f : CheckFlowValue). IsCheckOf old.seen f.fresh x f.user (seen_of v)) (sym was.asked) (was.held h))
    t)

-- a check that begins at a place of the list
check_at : (rests : Type 0) (shards count : ℕ) (seen : List Entry) (asked : Freshness) (before place : ℕ) (x : Userset) (u : User) (name : CallName) → count ≡ shards → place ≤ length seen → IsFresh asked before place
    → CheckRuns rests shards seen asked before x u (record { shards = count; fresh = exact place; user = u; next = catch_up; holds = record (begins_at x) { place = Some place }; next_name = name })
check_at rests shards count seen asked before place x u name of there is_fresh = record {
  of = of;
  user = refl;
  narrows = λ other as_asked. subst (IsFresh asked before) (sym as_asked) is_fresh;
  beyond = place_is_reached asked place (length seen) there;
  held = λ h. checks_begin_at_places seen (exact place) x u place _ there refl refl;
}

-- a check at a place that lies above what was published asks for heads first
check_beyond : (rests : Type 0) (shards count : ℕ) (seen : List Entry) (asked : Freshness) (before : ℕ) (x : Userset) (u : User) (name : CallName) → count ≡ shards → before ≤ length seen → IsBeyond asked (length seen)
    → CheckRuns rests shards seen asked before x u (record { shards = count; fresh = asked; user = u; next = heads; holds = begins_at x; next_name = name })
check_beyond rests shards count seen asked before x u name of rises beyond = record {
  of = of;
  user = refl;
  narrows = λ other as_asked. beyond_is_fresh asked before (length seen) other rises beyond as_asked;
  beyond = λ n longer above. above;
  held = λ h. checks_begin seen asked x u;
}

-- what a check ends with is so of the list, at a place as fresh as asked
pub check_ends : (rests : Type 0) (shards : ℕ) (seen longer : List Entry) (asked : Freshness) (before : ℕ) (x : Userset) (u : User) (flow : CheckFlowValue) (end : CheckEnding) → CheckRuns rests shards seen asked before x u flow
    → IsCheckOf longer flow.fresh x flow.user (ended end) → CheckEnds longer asked before x u end
check_ends rests shards seen longer asked before x u flow end runs held place answer is =
    let member : IsMembershipAt longer flow.fresh x flow.user place answer = held.answers place answer (ap (λ (e : CheckEnding). Some e) is) in
    let wanted : IsFresh asked before place = runs.narrows place member.wanted in
    let of_user : IsMembershipAt longer flow.fresh x u place answer = subst (λ (u : User). IsMembershipAt longer flow.fresh x u place answer) runs.user member in
    (wanted, record { there = of_user.there; wanted = fresh_is_as_asked asked before place wanted; member = of_user.member })

-- and so if it is made, if there was memory for it
pub made_at : {E : Type 0} (rests : Type 0) (shards count : ℕ) (seen : List Entry) (asked : Freshness) (before place : ℕ) (x : Userset) (u : User) (name : CallName) (made : Result CheckFlowValue E) → count ≡ shards
    → IfOk made (λ f. f ≡ record { shards = count; fresh = exact place; user = u; next = catch_up; holds = record (begins_at x) { place = Some place }; next_name = name })
    → place ≤ length seen → IsFresh asked before place → IfOk made (λ f. CheckRuns rests shards seen asked before x u f)
made_at rests shards count seen asked before place x u name (Ok f) of same there is_fresh = subst (CheckRuns rests shards seen asked before x u) (sym same) (check_at rests shards count seen asked before place x u name of there is_fresh)
made_at rests shards count seen asked before place x u name (Err e) of same there is_fresh = tt

pub made_beyond : {E : Type 0} (rests : Type 0) (shards count : ℕ) (seen : List Entry) (asked : Freshness) (before : ℕ) (x : Userset) (u : User) (name : CallName) (made : Result CheckFlowValue E) → count ≡ shards
    → IfOk made (λ f. f ≡ record { shards = count; fresh = asked; user = u; next = heads; holds = begins_at x; next_name = name }) → before ≤ length seen → IsBeyond asked (length seen) → IfOk made (λ f. CheckRuns rests shards seen asked before x u f)
made_beyond rests shards count seen asked before x u name (Ok f) of same rises beyond = subst (CheckRuns rests shards seen asked before x u) (sym same) (check_beyond rests shards count seen asked before x u name of rises beyond)
made_beyond rests shards count seen asked before x u name (Err e) of same rises beyond = tt

-- a place at which it is too far to go is as fresh as asked
too_far_as_asked : (narrow asked : Freshness) (before : ℕ) (seen : List Entry) (x : Userset) → Narrows narrow asked before → IsTooFar seen (IsAsAsked narrow) x → IsTooFar seen (IsFresh asked before) x
too_far_as_asked narrow asked before seen x narrows far = record { place = far.place; there = far.there; wanted = narrows far.place far.wanted; reaches = far.reaches }

-- the refusal that a check ends with has a reason in the words of what was asked for
pub check_refuses : (rests : Type 0) (shards : ℕ) (seen longer : List Entry) (asked : Freshness) (before low : ℕ) (marks : List Bool) (x : Userset) (u : User) (flow : CheckFlowValue) (end : CheckEnding) → CheckRuns rests shards seen asked before x u flow
    → length seen ≤ length longer → CheckHasReason marks flow.fresh longer low x (ended end) → CheckRefuses marks longer low asked before x end
check_refuses rests shards seen longer asked before low marks x u flow end runs le reason e is = ⊎_elim
    (λ why. inl (reason_asked asked before (length seen) longer low e le marks flow.fresh runs.narrows runs.beyond why))
    (λ (full, far). inr (full, too_far_as_asked flow.fresh asked before longer x runs.narrows far))
    (reason e (ap (λ (e : CheckEnding). Some e) is))

-- what a check ends with is as good if less had been seen before it
pub check_ends_of_less : (seen : List Entry) (asked : Freshness) (less more : ℕ) (x : Userset) (u : User) (end : CheckEnding) → less ≤ more → CheckEnds seen asked more x u end → CheckEnds seen asked less x u end
check_ends_of_less seen asked less more x u end le ends place answer is =
    let it = ends place answer is in
    (fresh_of_less asked less more place le it.0, it.1)

pub check_refuses_of_less : (marks : List Bool) (seen : List Entry) (low : ℕ) (asked : Freshness) (less more : ℕ) (x : Userset) (end : CheckEnding) → less ≤ more → CheckRefuses marks seen low asked more x end
    → CheckRefuses marks seen low asked less x end
check_refuses_of_less marks seen low asked less more x end le refuses e is = ⊎_elim
    (λ why. inl (reason_of_less asked less more seen low marks e le why))
    (λ far. inr (far.0, record { place = far.1.place; there = far.1.there; wanted = fresh_of_less asked less more far.1.place le far.1.wanted; reaches = far.1.reaches }))
    (refuses e is)

refusal_in : CheckEnding → Refusal
refusal_in (refused e) = e
refusal_in (checked place answer) = NoMemory

-- just one place that the horizon has passed is refused for that reason
pub passed_refuses_check : (marks : List Bool) (seen : List Entry) (low : ℕ) (asked : Freshness) (before : ℕ) (x : Userset) → IsPassed asked low → CheckRefuses marks seen low asked before x (refused Collected)
unfolding refusal_in
passed_refuses_check marks seen low asked before x passed e is =
    subst (λ (e : Refusal). (HasTold marks e ⊎ ((e ≡ NoMemory) ⊎ IsNotThere asked before seen low e)) ⊎ ((e ≡ Full) × IsTooFar seen (IsFresh asked before) x)) (ap refusal_in is) (inl (inr (inr (passed_is_not_there asked before low seen passed))))

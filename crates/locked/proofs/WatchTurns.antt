-- A watch of a shared store goes on to hold what is of the list, turn by turn.
use Rattle.std.proofs.Common.{◌≡◌, ◌⊎◌, inl, inr, ⊎_elim, ◌≤◌, ℕ, List, Bool, length, Some, Ok, refl, sym, ap, subst, arith}
use Rattle.std.proofs.lemmas.Option.{same_Some}
use Rattle.locked.proofs.Words.{Attempt, Coordinator, Entry, from_coordinator, IsWatchOf, Known, max_watched, NodeCall, Progress, Reply, Turns, WatchFlowValue, WatchHasReason}
use Rattle.calls.specs.declared.call.CoordinatorCall.TheVariants.{Batch, Heads}
use Rattle.calls.specs.declared.reply.CoordinatorReply.TheVariants as told
use Rattle.calls.specs.declared.progress.Progress.TheVariants.{Next}
use Rattle.answer_flow.specs.Watching.{GivesTo}
use Rattle.answer_flow.specs.WatchViews.{IsAsked, WatchCallValue, WatchEnding, WatchStep, ended, seen_after, seen_of, seen_out}
use Rattle.answer_flow.specs.Running.{AsksWatch, GivesWatch}
use Rattle.answer_flow.specs.declared.watch_phase.WatchEnd.{WatchEnd}
use Rattle.flow_ties.specs.Watches.{TellsWatcher}
use Rattle.flow_ties.proofs.SeenWatches.{watches_list_what_is_seen}
use Rattle.flow_ties.proofs.ToldWatches.{watches_at_rest_have_reason, watches_refuse_for_a_reason}
use Rattle.locked.specs.Answering.{WatchEnds, WatchRefuses}

-- what a watch is told that had seen more, it is told that had seen less
tells_before : (before seen : ℕ) (call : NodeCall) (reply : Reply) → before ≤ seen → TellsWatcher seen call reply → TellsWatcher before call reply
tells_before before seen (Coordinator Heads) (from_coordinator (told.Heads (Ok h))) within tells = omega (arith, within, tells)
tells_before before seen (Coordinator (Batch from to)) (from_coordinator (told.Batch (Ok b))) within tells = tells
tells_before before seen call reply within tells = tt

-- what the reply makes of it, in the words of what was asked
gives_to : (v : WatchFlowValue) (out : WatchCallValue) (reply : Reply) (after : Progress WatchFlowValue WatchEnd) → out ≡ record { cursor = v.cursor; limit = v.limit; namespaces = v.namespaces; awaited = out.awaited; holds = out.holds }
    → GivesWatch out reply after → (awaited : WatchStep) → Some out.awaited ≡ Some awaited → GivesTo v.cursor v.limit v.namespaces (seen_out out) awaited reply (seen_after after)
gives_to v out reply after same gives awaited is =
    let here = subst (λ (a : WatchStep). GivesTo out.cursor out.limit out.namespaces (seen_out out) a reply (seen_after after)) (same_Some out.awaited awaited is) gives.1 in
    subst (λ (o : WatchCallValue). GivesTo o.cursor o.limit o.namespaces (seen_out out) awaited reply (seen_after after)) same here

-- It is what was asked, what it holds is of the list, of which so much had been seen before it began, and a refusal has a reason in what was told.
pub record WatchGoesOn (rested : Type 0) (before : ℕ) (pass : Known Entry) (marks : List Bool) (cursor limit : ℕ) (names : List (List ℕ)) (after : Progress WatchFlowValue WatchEnd) : Type 0 where
  pub asked : IsAsked cursor limit names after
  pub held : rested → IsWatchOf cursor limit names before pass.seen (seen_after after)
  pub reason : rested → WatchHasReason marks cursor pass.seen pass.horizon (seen_after after)

-- one that waits was not refused
pub watch_waits : (rests : Type 0) (before : ℕ) (pass : Known Entry) (marks : List Bool) (v : WatchFlowValue) → (rests → IsWatchOf v.cursor v.limit v.namespaces before pass.seen (seen_of v)) → WatchGoesOn rests before pass marks v.cursor v.limit v.namespaces (Next v)
watch_waits rests before pass marks v held = record { asked = refl; held = held; reason = λ h. watches_at_rest_have_reason v.cursor marks pass.seen pass.horizon v.next v.holds }

turned : {tried more : Known Attempt} (rests : Type 0) (shards before : ℕ) (old new : Known Entry) (marks later : List Bool) (v : WatchFlowValue) (after : Progress WatchFlowValue WatchEnd) → v.limit ≤ max_watched → before ≤ length old.seen
    → (rests → IsWatchOf v.cursor v.limit v.namespaces before old.seen (seen_of v)) → Turns AsksWatch rests GivesWatch shards old new tried more marks later v after → WatchGoesOn rests before new later v.cursor v.limit v.namespaces after
turned rests shards before old new marks later v after few within is t =
    let gives = gives_to v t.out t.reply after t.asked.1 t.given in
    record {
      asked = subst (λ (o : WatchCallValue). IsAsked o.cursor o.limit o.namespaces after) t.asked.1 t.given.0;
      held = λ h. watches_list_what_is_seen v.cursor v.limit v.namespaces before shards old.seen new.seen (seen_of v) (seen_after after) few t.serves.later.seen (is h) (record {
        running = refl;
        call = t.call;
        out = seen_out t.out;
        reply = t.reply;
        asks = t.asked.2;
        told = t.serves.told h;
        tells = tells_before before (length old.seen) t.call t.reply within (t.serves.watcher h);
        gives = gives;
      });
      reason = λ h. watches_refuse_for_a_reason shards v.cursor v.limit v.namespaces marks later new.seen new.horizon (seen_of v) (seen_out t.out) (seen_after after) t.call t.reply t.asked.2 t.serves.belongs gives (t.serves.reach h) (t.serves.care h) t.notices;
    }

-- and so after a turn
pub watch_goes_on : {tried more : Known Attempt} (rests : Type 0) (shards before : ℕ) (old new : Known Entry) (marks later : List Bool) (cursor limit : ℕ) (names : List (List ℕ)) (v : WatchFlowValue) (after : Progress WatchFlowValue WatchEnd) → limit ≤ max_watched → before ≤ length old.seen
    → WatchGoesOn rests before old marks cursor limit names (Next v) → Turns AsksWatch rests GivesWatch shards old new tried more marks later v after → WatchGoesOn rests before new later cursor limit names after
watch_goes_on rests shards before old new marks later cursor limit names v after few within was t =
    subst (λ (f : WatchFlowValue). WatchGoesOn rests before new later f.cursor f.limit f.namespaces after) was.asked (turned rests shards before old new marks later v after
    (subst (λ (f : WatchFlowValue). f.limit ≤ max_watched) (sym was.asked) few)
    within
    (λ h. subst (λ (f : WatchFlowValue). IsWatchOf f.cursor f.limit f.namespaces before old.seen (seen_of v)) (sym was.asked) (was.held h))
    t)

-- what a watch lists at its end is what there is
pub watch_ends : (cursor limit : ℕ) (names : List (List ℕ)) (before : ℕ) (seen : List Entry) (end : WatchEnding) → IsWatchOf cursor limit names before seen (ended end) → WatchEnds cursor limit names before seen end
watch_ends cursor limit names before seen end held place changes is = held.lists place changes (ap (λ (e : WatchEnding). Some e) is)

-- and the refusal that it ends with has a reason
pub watch_refuses : (cursor : ℕ) (seen : List Entry) (low : ℕ) (marks : List Bool) (end : WatchEnding) → WatchHasReason marks cursor seen low (ended end) → WatchRefuses marks seen low cursor end
watch_refuses cursor seen low marks end reason e is = reason e (ap (λ (e : WatchEnding). Some e) is)

-- what a watch lists is as good if less had been seen before it
pub watch_ends_of_less : (cursor limit : ℕ) (names : List (List ℕ)) (less more : ℕ) (seen : List Entry) (end : WatchEnding) → less ≤ more → WatchEnds cursor limit names more seen end → WatchEnds cursor limit names less seen end
watch_ends_of_less cursor limit names less more seen end le ends place changes is =
    let it = ends place changes is in
    record { there = it.there; behind = it.behind; within = it.within; far = ⊎_elim (λ whole. inl whole) (λ reaches. inr (omega (arith, le, reaches))) it.far; all = it.all }

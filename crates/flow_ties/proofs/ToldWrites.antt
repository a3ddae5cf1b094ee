-- A write is refused by what a reply to one of its calls has told.
use Rattle.std.proofs.Common.{◌≡◌, inl, inr, ⊎_elim, ℕ, Bool, true, false, List, [], Option, Some, None, Result, Ok, Err, refl, sym, ◌∙◌, ap, subst, ◌∷◌, ◌++◌, ◌<◌, arith}
use Rattle.std.proofs.lemmas.Bool.{cases_Bool}
use Rattle.std.proofs.lemmas.List.Elements.{All-cons, All-head, All-push, All-tail}
use Rattle.flow_ties.proofs.Words.{AnyRefusal, AsksCoordinator, AsksShard, Awaited, BatchValue, Cancelled, Commit, Coordinator, CoordinatorCall, decisions, end_of, error_of, flushing, from_coordinator, from_shard, GoesToDrop, HasTold, IntentValue, is_aborted, is_refused, is_unsure, IsReplyTo, Kept, Later, learned, learning, Next, No, NodeCall, NotDecidedGives, onward, outward, Progress, refused_by, RefusesAsTold, Reply, Shard, ShardCall, There, Undecided, Unsure, view_ended, votes_later, VoteValue, Way, WriteAwaited, WriteHolds, WriteId, WriteView, Wrote, Yes}
use Rattle.calls.specs.declared.reply.CoordinatorReply.TheVariants as told
use Rattle.calls.specs.declared.reply.ShardReply.TheVariants as told_by
use Rattle.calls.specs.declared.call.CoordinatorCall.TheVariants as calls
use Rattle.calls.specs.declared.call.ShardCall.TheVariants as shard_calls
use Rattle.commit_flow.specs.declared.end.WriteEnd.TheVariants.{Refused}
use Rattle.commit_flow.specs.Answering.{CatchUpGives, FlushGives, GivesTo, ProgressGives}
use Rattle.commit_flow.specs.WriteHolds.{HeldTicket}
use Rattle.commit_flow.specs.WriteHolds as waits
use Rattle.decisions.specs.declared.held.Held.{Held}
use Rattle.decisions.specs.declared.held.Held.TheVariants.{Ticket, Vote as held_vote}
use Rattle.commit_flow.specs.Views.{as_tickets, at_rest, ticket_value}
use Rattle.commit_flow.specs.Writing.{Asks, IsOnItsWayOut}
use Rattle.flow_ties.specs.Refusing.{Notices}
use Rattle.flow_ties.specs.Writes.{AreThere, WritesBeginUntold, WritesRefuseAsTold}
use Rattle.flow_ties.proofs.ToldCatchUps.{batch_carries, flush_carries, learn_carries, learned_carries}
use Rattle.refusal.proofs.Cases.{is_full}

-- what a reply refuses is told then, of whichever call it is one
record Noted (old : List Bool) (reply : Reply) (new : List Bool) : Type 0 where
  kept : (e : AnyRefusal) → HasTold old e → HasTold new e
  carried : (e : AnyRefusal) → refused_by reply ≡ Some e → HasTold new e

module _ (shards : ℕ) (old new : List Bool) (v : WriteView) (reply : Reply) (notes : Noted old reply new) (was : RefusesAsTold shards old v) where
  abbrev IsTold : WriteView → Type 0
  IsTold after = RefusesAsTold shards new after

  carried : (e : AnyRefusal) → refused_by reply ≡ Some e → HasTold new e
  carried e is = notes.carried e is

  goes_on : (h : WriteHolds) (caught : Option ℕ) (flushed : Bool) → h.way ≡ v.holds.way → AreThere shards h.tickets → IsTold (record (at_rest h) { caught = caught; flushed = flushed })
  goes_on h caught flushed same there = record {
    leaving = λ e is. notes.kept e (was.leaving e (sym same ∙ is));
    ended = λ e none. absurd (let bad : None ≡ Some (Refused e) = none in cc);
    tickets = there;
    goes_uncancelled = λ is. was.goes_uncancelled (sym same ∙ is);
    ends_uncancelled = λ none. let bad : None ≡ Some Cancelled = none in cc;
  }

  same_refusal : (e x : AnyRefusal) → outward (Some e) ≡ outward (Some x) → e ≡ x
  same_refusal e x is = cc is

  same_end : (e x : AnyRefusal) → Some (Refused e) ≡ Some (Refused x) → e ≡ x
  same_end e x is = cc is

  no_tickets : AreThere shards []
  no_tickets k t lt = absurd (omega (arith, lt))

  goes_out : (h : WriteHolds) (e : AnyRefusal) → AreThere shards h.tickets → refused_by reply ≡ Some e → IsTold (at_rest (record h { way = outward (Some e); batch = None }))
  goes_out h e there is = record {
    leaving = λ x same. carried x (is ∙ ap (λ (r : AnyRefusal). Some r) (same_refusal e x same));
    ended = λ x none. absurd (let bad : None ≡ Some (Refused x) = none in cc);
    tickets = there;
    goes_uncancelled = λ is. let bad : outward (Some e) ≡ outward None = is in cc;
    ends_uncancelled = λ none. let bad : None ≡ Some Cancelled = none in cc;
  }

  ends_refused : (e : AnyRefusal) → HasTold new e → IsTold (view_ended (Refused e))
  ends_refused e told_e = record {
    leaving = λ x same. subst (HasTold new) (same_refusal e x same) told_e;
    ended = λ x same. subst (HasTold new) (same_end e x same) told_e;
    tickets = no_tickets;
    goes_uncancelled = λ is. let bad : outward (Some e) ≡ outward None = is in cc;
    ends_uncancelled = λ is. let bad : Some (Refused e) ≡ Some Cancelled = is in cc;
  }

  ends_at : (place : ℕ) → IsTold (view_ended (Wrote place))
  ends_at place = record {
    leaving = λ e is. absurd (let bad : onward ≡ outward (Some e) = is in cc);
    ended = λ e is. absurd (let bad : Some (Wrote place) ≡ Some (Refused e) = is in cc);
    tickets = no_tickets;
    goes_uncancelled = λ is. let bad : onward ≡ outward None = is in cc;
    ends_uncancelled = λ is. let bad : Some (Wrote place) ≡ Some Cancelled = is in cc;
  }

  -- one that is on its way out goes there with a refusal, since nobody has cancelled it
  ends_by : IsOnItsWayOut v → (way : Way) → v.holds.way ≡ way → IsTold (view_ended (end_of way))
  ends_by is_leaving onward is = absurd (let bad : onward ≡ outward is_leaving.0 = sym is ∙ is_leaving.1 in cc)
  ends_by is_leaving (outward None) is = absurd (was.goes_uncancelled is)
  ends_by is_leaving (outward (Some e)) is = ends_refused e (notes.kept e (was.leaving e is))

  leaves : IsOnItsWayOut v → (way : Way) (after : WriteView) → way ≡ v.holds.way → after ≡ view_ended (end_of way) → IsTold after
  leaves is_leaving way after same is = subst IsTold (sym is) (ends_by is_leaving way (sym same))

  drops : IsOnItsWayOut v → (out : WriteView) (id : WriteId) (after : WriteView) → out.holds.way ≡ v.holds.way → AreThere shards out.holds.tickets → GoesToDrop out id after → IsTold after
  drops is_leaving out id after same there gives = ⊎_elim
      (λ goes. subst IsTold (sym goes) (goes_on (record out.holds { verdict = Some id }) None false same there))
      (λ (no_tickets, no_votes, is). leaves is_leaving out.holds.way after same is)
      gives

  by_progress : (out : WriteView) (s : ℕ) (progress : Progress) (after : WriteView) → out.holds.way ≡ v.holds.way → AreThere shards out.holds.tickets → ((e : AnyRefusal) → progress ≡ is_refused e → refused_by reply ≡ Some e)
      → ProgressGives out s progress after → IsTold after
  by_progress out s (Next c) after same there carries gives = subst IsTold (sym gives) (goes_on (record out.holds { batch = c.batch }) None false same there)
  by_progress out s There after same there carries gives = subst IsTold (sym gives) (goes_on (record out.holds { batch = None }) (Some s) false same there)
  by_progress out s (is_refused e) after same there carries gives = subst IsTold (sym gives) (goes_out out.holds e there (carries e refl))

  by_caught : (out : WriteView) (awaited : Awaited) (after : WriteView) → out.holds.way ≡ v.holds.way → AreThere shards out.holds.tickets → (it : CatchUpGives out awaited reply after)
      → ((e : AnyRefusal) → it.progress ≡ is_refused e → refused_by reply ≡ Some e) → IsTold after
  by_caught out awaited after same there it carries = by_progress out it.call.held.shard it.progress after same there carries it.then_gives

  by_flush : (out : WriteView) (was_full : Bool) (r : Result (Unit {0}) AnyRefusal) (after : WriteView) → out.holds.way ≡ v.holds.way → AreThere shards out.holds.tickets → ((e : AnyRefusal) → r ≡ Err e → refused_by reply ≡ Some e)
      → FlushGives out was_full r after → IsTold after
  by_flush out was_full (Ok done) after same there carries gives = subst IsTold (sym gives) (goes_on out.holds out.caught was_full same there)
  by_flush out was_full (Err e) after same there carries gives = subst IsTold (sym gives) (goes_out out.holds e there (carries e refl))

module _ (shards : ℕ) (old new : List Bool) (v after : WriteView) (was : RefusesAsTold shards old v) where
  abbrev Is : Type 0
  Is = RefusesAsTold shards new after

  -- what is seen of it while a call is out
  abbrev at : WriteHolds → WriteAwaited → WriteView
  at holds awaited = record v { holds = holds; awaited = Some awaited }

  begun : (reply : Reply) → Noted old reply new → GivesTo (record v { write = None; awaited = Some waits.begin }) waits.begin reply after → Is
  begun (from_coordinator (told.Begin (Ok i))) notes gives = subst (RefusesAsTold shards new) (sym gives) (goes_on shards old new v (from_coordinator (told.Begin (Ok i))) notes was (record v.holds { id = Some i.write.id; intent = Some i }) None false refl was.tickets)
  begun (from_coordinator (told.Begin (Err e))) notes gives = subst (RefusesAsTold shards new) (sym gives) (ends_refused shards old new v (from_coordinator (told.Begin (Err e))) notes was e (carried shards old new v (from_coordinator (told.Begin (Err e))) notes was e refl))
  begun reply notes gives = absurd gives

  batch_came : (from to : ℕ) (reply : Reply) → Noted old reply new → IsReplyTo (Coordinator (calls.Batch from to)) reply → GivesTo (at (v.holds) (waits.catch_up (decisions))) (waits.catch_up (decisions)) reply after → Is
  batch_came from to (from_coordinator (told.Batch r)) notes belongs it = by_caught shards old new v (from_coordinator (told.Batch r)) notes was (at (v.holds) (waits.catch_up (decisions))) (decisions) after refl was.tickets it (λ e is. batch_carries it.call it.progress e is r it.gives)
  batch_came from to reply notes belongs it = absurd belongs

  learned_told : (s : ℕ) (reply : Reply) → Noted old reply new → IsReplyTo (Shard s shard_calls.Learned) reply → GivesTo (at (v.holds) (waits.catch_up (learned))) (waits.catch_up (learned)) reply after → Is
  learned_told s (from_shard (told_by.Learned r)) notes belongs it = by_caught shards old new v (from_shard (told_by.Learned r)) notes was (at (v.holds) (waits.catch_up (learned))) (learned) after refl was.tickets it (λ e is. learned_carries it.call it.progress e is r it.gives)
  learned_told s reply notes belongs it = absurd belongs

  has_learned : (s : ℕ) (b : BatchValue) (again : Bool) (reply : Reply) → Noted old reply new → IsReplyTo (Shard s (shard_calls.Learn b)) reply → GivesTo (at (record v.holds { batch = None }) (waits.catch_up (learning again))) (waits.catch_up (learning again)) reply after → Is
  has_learned s b again (from_shard (told_by.Learn back r)) notes belongs it = by_caught shards old new v (from_shard (told_by.Learn back r)) notes was (at (record v.holds { batch = None }) (waits.catch_up (learning again))) (learning again) after refl was.tickets it (λ e is. learn_carries it.call it.progress e is back r again it.is_awaited it.gives)
  has_learned s b again reply notes belongs it = absurd belongs

  flushed_to_learn : (s : ℕ) (reply : Reply) → Noted old reply new → IsReplyTo (Shard s shard_calls.Flush) reply → GivesTo (at (v.holds) (waits.catch_up (flushing))) (waits.catch_up (flushing)) reply after → Is
  flushed_to_learn s (from_shard (told_by.Flush r)) notes belongs it = by_caught shards old new v (from_shard (told_by.Flush r)) notes was (at (v.holds) (waits.catch_up (flushing))) (flushing) after refl was.tickets it (λ e is. flush_carries it.call it.progress e is r it.gives)
  flushed_to_learn s reply notes belongs it = absurd belongs

  prepared : (s : ℕ) (again : Bool) (bits : ℕ) (out : WriteView) (reply : Reply) → Noted old reply new → s < shards → out.holds.way ≡ v.holds.way → AreThere shards out.holds.tickets → GivesTo out (waits.prepare s again bits) reply after → Is
  prepared s again bits out (from_shard (told_by.StagePrepare i (Ok t))) notes lt same there gives = subst (RefusesAsTold shards new) (sym gives) (goes_on shards old new v (from_shard (told_by.StagePrepare i (Ok t))) notes was _ None false same (All-push (λ (t : HeldTicket). t.shard < shards) out.holds.tickets (ticket_value (s, t)) there lt))
  prepared s again bits out (from_shard (told_by.StagePrepare i (Err e))) notes lt same there gives = ⊎_elim
      (λ full. ⊎_elim
      (λ twice. subst (RefusesAsTold shards new) (sym (gives.1 (inr twice))) (goes_out shards old new v (from_shard (told_by.StagePrepare i (Err e))) notes was (record out.holds { intent = Some i }) e there refl))
      (λ once. subst (RefusesAsTold shards new) (sym (gives.0 full once)) (goes_on shards old new v (from_shard (told_by.StagePrepare i (Err e))) notes was (record out.holds { intent = Some i }) (Some s) false same there))
      (cases_Bool again))
      (λ other. subst (RefusesAsTold shards new) (sym (gives.1 (inl other))) (goes_out shards old new v (from_shard (told_by.StagePrepare i (Err e))) notes was (record out.holds { intent = Some i }) e there refl))
      (is_full e)
  prepared s again bits out reply notes lt same there gives = absurd gives

  flushed_to_prepare : (s : ℕ) (reply : Reply) → Noted old reply new → GivesTo (at v.holds (waits.flush_to_prepare s)) (waits.flush_to_prepare s) reply after → Is
  flushed_to_prepare s (from_shard (told_by.Flush r)) notes gives = by_flush shards old new v (from_shard (told_by.Flush r)) notes was (at v.holds (waits.flush_to_prepare s)) true r after refl was.tickets (λ e is. ap error_of is) gives
  flushed_to_prepare s reply notes gives = absurd gives

  flushed_to_vote : (s : ℕ) (reply : Reply) → Noted old reply new → GivesTo (at v.holds (waits.flush_to_vote s)) (waits.flush_to_vote s) reply after → Is
  flushed_to_vote s (from_shard (told_by.Flush r)) notes gives = by_flush shards old new v (from_shard (told_by.Flush r)) notes was (at v.holds (waits.flush_to_vote s)) false r after refl was.tickets (λ e is. ap error_of is) gives
  flushed_to_vote s reply notes gives = absurd gives

  voted : (s : ℕ) (out : WriteView) (reply : Reply) → Noted old reply new → s < shards → out.holds.way ≡ v.holds.way → AreThere shards out.holds.tickets → GivesTo out (waits.vote s) reply after → Is
  voted s out (from_shard (told_by.Vote (Yes vote))) notes lt same there gives = subst (RefusesAsTold shards new) (sym gives) (goes_on shards old new v (from_shard (told_by.Vote (Yes vote))) notes was _ None false same there)
  voted s out (from_shard (told_by.Vote (votes_later t))) notes lt same there gives = subst (RefusesAsTold shards new) (sym gives) (goes_on shards old new v (from_shard (told_by.Vote (votes_later t))) notes was _ None false same (All-cons (λ (t : HeldTicket). t.shard < shards) (ticket_value (s, t)) out.holds.tickets lt there))
  voted s out (from_shard (told_by.Vote (No e))) notes lt same there gives = subst (RefusesAsTold shards new) (sym gives) (goes_out shards old new v (from_shard (told_by.Vote (No e))) notes was out.holds e there refl)
  voted s out reply notes lt same there gives = absurd gives

  undecided : (again : Bool) (out : WriteView) (reply : Reply) (notes : Noted old reply new) (e : AnyRefusal) (back : Option IntentValue) (votes : List VoteValue) → refused_by reply ≡ Some e → out.holds.way ≡ v.holds.way → AreThere shards out.holds.tickets
      → NotDecidedGives out again e back votes after → Is
  undecided again out reply notes e None votes carries same there gives = subst (RefusesAsTold shards new) (sym gives) (goes_out shards old new v reply notes was (record out.holds { votes = votes }) e there carries)
  undecided again out reply notes e (Some i) votes carries same there gives = ⊎_elim
      (λ full. ⊎_elim
      (λ twice. subst (RefusesAsTold shards new) (sym (gives.1 (inr twice))) (goes_out shards old new v reply notes was (record out.holds { intent = Some i; votes = votes }) e there carries))
      (λ once. subst (RefusesAsTold shards new) (sym (gives.0 full once)) (goes_on shards old new v reply notes was (record out.holds { intent = Some i; votes = votes }) None false same there))
      (cases_Bool again))
      (λ other. subst (RefusesAsTold shards new) (sym (gives.1 (inl other))) (goes_out shards old new v reply notes was (record out.holds { intent = Some i; votes = votes }) e there carries))
      (is_full e)

  decided : (again : Bool) (out : WriteView) (reply : Reply) → Noted old reply new → out.holds.way ≡ v.holds.way → AreThere shards out.holds.tickets → GivesTo out (waits.decide again) reply after → Is
  decided again out (from_coordinator (told.Decide (Ok d))) notes same there gives = subst (RefusesAsTold shards new) (sym gives) (goes_on shards old new v (from_coordinator (told.Decide (Ok d))) notes was (record out.holds { decided = Some d }) None false same there)
  decided again out (from_coordinator (told.Decide (Err r))) notes same there gives = undecided again out (from_coordinator (told.Decide (Err r))) notes r.refusal r.intent r.votes.items refl same there gives
  decided again out reply notes same there gives = absurd gives

  flushed_to_decide : (reply : Reply) → Noted old reply new → GivesTo (at v.holds waits.flush_to_decide) waits.flush_to_decide reply after → Is
  flushed_to_decide (from_coordinator (told.Flush r)) notes gives = by_flush shards old new v (from_coordinator (told.Flush r)) notes was (at v.holds waits.flush_to_decide) true r after refl was.tickets (λ e is. ap error_of is) gives
  flushed_to_decide reply notes gives = absurd gives

  came_out : (out : WriteView) (reply : Reply) → Noted old reply new → out.holds.way ≡ v.holds.way → AreThere shards out.holds.tickets → GivesTo out waits.outcome reply after → Is
  came_out out (from_coordinator (told.Outcome (Kept place))) notes same there gives = subst (RefusesAsTold shards new) (sym gives) (ends_at shards old new v (from_coordinator (told.Outcome (Kept place))) notes was place)
  came_out out (from_coordinator (told.Outcome (Later d))) notes same there gives = subst (RefusesAsTold shards new) (sym gives) (goes_on shards old new v (from_coordinator (told.Outcome (Later d))) notes was (record out.holds { decided = Some d }) None false same there)
  came_out out (from_coordinator (told.Outcome is_unsure)) notes same there gives = subst (RefusesAsTold shards new) (sym gives) (ends_refused shards old new v (from_coordinator (told.Outcome is_unsure)) notes was Unsure (carried shards old new v (from_coordinator (told.Outcome is_unsure)) notes was Unsure refl))
  came_out out reply notes same there gives = absurd gives

  flushed_to_come_out : (reply : Reply) → Noted old reply new → GivesTo (at v.holds waits.flush_to_outcome) waits.flush_to_outcome reply after → Is
  flushed_to_come_out (from_coordinator (told.Flush r)) notes gives = subst (RefusesAsTold shards new) (sym gives) (goes_on shards old new v (from_coordinator (told.Flush r)) notes was v.holds None false refl was.tickets)
  flushed_to_come_out reply notes gives = absurd gives

  aborted : IsOnItsWayOut v → (out : WriteView) (reply : Reply) → Noted old reply new → out.holds.way ≡ v.holds.way → AreThere shards out.holds.tickets → GivesTo out waits.abort reply after → Is
  aborted is_leaving out (from_coordinator (told.Abort (Ok verdict))) notes same there gives = drops shards old new v (from_coordinator (told.Abort (Ok verdict))) notes was is_leaving out verdict.id after same there gives
  aborted is_leaving out (from_coordinator (told.Abort (Err e))) notes same there gives = leaves shards old new v (from_coordinator (told.Abort (Err e))) notes was is_leaving out.holds.way after same gives
  aborted is_leaving out reply notes same there gives = absurd gives

  inquired : IsOnItsWayOut v → (out : WriteView) (reply : Reply) → Noted old reply new → out.holds.way ≡ v.holds.way → AreThere shards out.holds.tickets → GivesTo out waits.inquire reply after → Is
  inquired is_leaving out (from_coordinator (told.Inquire (Ok (is_aborted verdict)))) notes same there gives = drops shards old new v (from_coordinator (told.Inquire (Ok (is_aborted verdict)))) notes was is_leaving out verdict.id after same there gives
  inquired is_leaving out (from_coordinator (told.Inquire (Ok (Commit place)))) notes same there gives = leaves shards old new v (from_coordinator (told.Inquire (Ok (Commit place)))) notes was is_leaving out.holds.way after same gives
  inquired is_leaving out (from_coordinator (told.Inquire (Ok Undecided))) notes same there gives = leaves shards old new v (from_coordinator (told.Inquire (Ok Undecided))) notes was is_leaving out.holds.way after same gives
  inquired is_leaving out (from_coordinator (told.Inquire (Err e))) notes same there gives = leaves shards old new v (from_coordinator (told.Inquire (Err e))) notes was is_leaving out.holds.way after same gives
  inquired is_leaving out reply notes same there gives = absurd gives

  -- What a shard that was to drop a write answers is of no account.
  dropped : IsOnItsWayOut v → (out : WriteView) (reply : Reply) → ((e : AnyRefusal) → HasTold old e → HasTold new e) → out.holds.way ≡ v.holds.way → AreThere shards out.holds.tickets → GivesTo out waits.drop_write reply after → Is
  dropped is_leaving out (from_shard (told_by.DropWrite verdict r)) kept same there gives =
      let done : Reply = from_shard (told_by.DropWrite verdict (Ok tt)) in
      drops shards old new v done (record { kept = kept; carried = λ e none. absurd (let bad : None ≡ Some e = none in cc) }) was is_leaving out verdict.id after same there gives
  dropped is_leaving out reply kept same there gives = absurd gives

  -- after what a shard gave, the other tickets
  behind_given : (s : ℕ) (given : Held) (tickets : List HeldTicket) → AreThere shards (as_tickets s given ++ tickets) → AreThere shards tickets
  behind_given s (Ticket t) tickets all = All-tail (λ (t : HeldTicket). t.shard < shards) (ticket_value (s, t)) tickets all
  behind_given s (held_vote v) tickets all = all

  module _ (out : WriteView) (reply : Reply) (gives : (awaited : WriteAwaited) → out.awaited ≡ Some awaited → GivesTo out awaited reply after) where
    -- the reply to the call that is out
    to : (holds : WriteHolds) (awaited : WriteAwaited) → out ≡ at holds awaited → GivesTo (at holds awaited) awaited reply after
    to holds awaited waits = subst (λ (o : WriteView). GivesTo o awaited reply after) waits (gives awaited (ap (λ (o : WriteView). o.awaited) waits))

    by_coordinator : (call : CoordinatorCall) → Noted old reply new → AsksCoordinator v call out → IsReplyTo (Coordinator call) reply → Is
    by_coordinator (calls.Begin write) notes asks belongs = begun reply notes (subst (λ (o : WriteView). GivesTo o waits.begin reply after) asks.1 (gives waits.begin (ap (λ (o : WriteView). o.awaited) asks.1)))
    by_coordinator calls.Heads notes asks belongs = absurd asks
    by_coordinator (calls.Batch from to_place) notes asks belongs = batch_came from to_place reply notes belongs (to v.holds (waits.catch_up decisions) asks.1)
    by_coordinator (calls.Decide intent votes) notes asks belongs =
        let holds : WriteHolds = record v.holds { intent = None; votes = [] } in
        decided v.flushed (at holds (waits.decide v.flushed)) reply notes refl was.tickets (to holds (waits.decide v.flushed) asks.4)
    by_coordinator (calls.Outcome d) notes asks belongs =
        let holds : WriteHolds = record v.holds { decided = None } in
        came_out (at holds waits.outcome) reply notes refl was.tickets (to holds waits.outcome asks.1)
    by_coordinator (calls.Abort intent) notes asks belongs =
        let holds : WriteHolds = record v.holds { intent = None } in
        aborted asks.0 (at holds waits.abort) reply notes refl was.tickets (to holds waits.abort asks.2)
    by_coordinator (calls.Inquire id) notes asks belongs = inquired asks.0 (at v.holds waits.inquire) reply notes refl was.tickets (to v.holds waits.inquire asks.3)
    by_coordinator (calls.Raise place settled) notes asks belongs = absurd asks
    by_coordinator calls.Checkpoint notes asks belongs = absurd asks
    by_coordinator calls.Flush notes asks belongs = ⊎_elim
        (λ (on_way, waits_for, unflushed). flushed_to_decide reply notes (to v.holds waits.flush_to_decide waits_for))
        (λ (way, has, waits_for). flushed_to_come_out reply notes (to v.holds waits.flush_to_outcome waits_for))
        asks

    -- what is held while the call is out, of which the tickets are these
    held : (holds : WriteHolds) (awaited : WriteAwaited) → AreThere shards holds.tickets → out ≡ record v { holds = holds; awaited = Some awaited } → AreThere shards out.holds.tickets
    held holds awaited there waits = subst (λ (o : WriteView). AreThere shards o.holds.tickets) (sym waits) there

    by_shard : (s : ℕ) (call : ShardCall) → ((e : AnyRefusal) → HasTold old e → HasTold new e) → (s < shards → Noted old reply new) → AsksShard shards v s call out → IsReplyTo (Shard s call) reply → Is
    by_shard s shard_calls.Learned kept noted asks belongs = learned_told s reply (noted asks.1.2) belongs (to v.holds (waits.catch_up learned) asks.2)
    by_shard s (shard_calls.Learn batch) kept noted asks belongs =
        let again = asks.3.0 in
        has_learned s batch again reply (noted asks.1.2) belongs (to (record v.holds { batch = None }) (waits.catch_up (learning again)) asks.3.1)
    by_shard s (shard_calls.StagePrepare intent) kept noted asks belongs =
        let (bits, parts, waits_for) = asks.6 in
        prepared s v.flushed bits out reply (noted asks.2) asks.2 (ap (λ (o : WriteView). o.holds.way) waits_for) (subst (λ (o : WriteView). AreThere shards o.holds.tickets) (sym waits_for) was.tickets)
        (gives (waits.prepare s v.flushed bits) (ap (λ (o : WriteView). o.awaited) waits_for))
    by_shard s (shard_calls.Vote ticket) kept noted asks belongs =
        let (others, tickets, waits_for) = asks.2 in
        let all : AreThere shards (ticket_value (s, ticket) ∷ others) = subst (AreThere shards) tickets was.tickets in
        let lt : s < shards = All-head (λ (t : HeldTicket). t.shard < shards) (ticket_value (s, ticket)) others all in
        voted s out reply (noted lt) lt (ap (λ (o : WriteView). o.holds.way) waits_for)
        (held (record v.holds { tickets = others }) (waits.vote s) (All-tail (λ (t : HeldTicket). t.shard < shards) (ticket_value (s, ticket)) others all) waits_for)
        (gives (waits.vote s) (ap (λ (o : WriteView). o.awaited) waits_for))
    by_shard s (shard_calls.DropWrite verdict None) kept noted asks belongs = absurd asks
    by_shard s (shard_calls.DropWrite verdict (Some given)) kept noted asks belongs =
        let (tickets, votes, tickets_are, votes_are, waits_for) = asks.2 in
        dropped asks.0 out reply kept (ap (λ (o : WriteView). o.holds.way) waits_for)
        (held (record v.holds { tickets = tickets; votes = votes; verdict = None }) waits.drop_write (behind_given s given tickets (subst (AreThere shards) tickets_are was.tickets)) waits_for)
        (gives waits.drop_write (ap (λ (o : WriteView). o.awaited) waits_for))
    by_shard s shard_calls.InDoubt kept noted asks belongs = absurd asks
    by_shard s (shard_calls.Read place set) kept noted asks belongs = absurd asks
    by_shard s (shard_calls.ReadForCheck place x u) kept noted asks belongs = absurd asks
    by_shard s shard_calls.Settle kept noted asks belongs = absurd asks
    by_shard s (shard_calls.Collect heads) kept noted asks belongs = absurd asks
    by_shard s shard_calls.Checkpoint kept noted asks belongs = absurd asks
    by_shard s shard_calls.Flush kept noted asks belongs = ⊎_elim
        (λ (there, way). ⊎_elim
        (λ waits_for. flushed_to_learn s reply (noted there.2) belongs (to v.holds (waits.catch_up flushing) waits_for))
        (λ waits_for. flushed_to_prepare s reply (noted there.2) (to v.holds (waits.flush_to_prepare s) waits_for))
        way)
        (λ (t, others, tickets, waits_for). flushed_to_vote s reply (noted (All-head (λ (t : HeldTicket). t.shard < shards) (ticket_value (s, t)) others (subst (AreThere shards) tickets was.tickets)))
        (to v.holds (waits.flush_to_vote s) waits_for))
        asks.1

    by_call : (call : NodeCall) → Notices shards old call reply new → Asks shards v call out → IsReplyTo call reply → Is
    by_call (Coordinator call) notes asks belongs = by_coordinator call (record { kept = notes.kept; carried = notes.carried tt }) asks.1 belongs
    by_call (Shard s call) notes asks belongs = by_shard s call notes.kept (λ there. record { kept = notes.kept; carried = notes.carried there }) asks.1 belongs

pub writes_begin_untold : WritesBeginUntold
writes_begin_untold shards marks write = record {
  leaving = λ e is. absurd (let bad : onward ≡ outward (Some e) = is in cc);
  ended = λ e none. absurd (let bad : None ≡ Some (Refused e) = none in cc);
  tickets = λ k t lt. absurd (omega (arith, lt));
  goes_uncancelled = λ is. let bad : onward ≡ outward None = is in cc;
  ends_uncancelled = λ none. let bad : None ≡ Some Cancelled = none in cc;
}

pub writes_refuse_as_told : WritesRefuseAsTold
writes_refuse_as_told shards old new v out after call reply was asks belongs gives notes = by_call shards old new v after was out reply gives call notes asks belongs

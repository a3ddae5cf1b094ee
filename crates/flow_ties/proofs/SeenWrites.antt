-- What a write holds is of the write that was asked for, from its beginning to the place that it tells.
use Rattle.std.proofs.Common.{◌≡◌, inl, inr, ⊎_elim, ◌<◌, ℕ, Bool, true, false, List, [], Option, Some, None, Result, Ok, Err, sym, ◌∙◌, ap, subst}
use Rattle.std.proofs.lemmas.Bool.{cases_Bool}
use Rattle.std.proofs.lemmas.Option.{same_Some}
use mathlib.Core.List.{IsPrefix}
use Rattle.flow_ties.proofs.Words.{AnyRefusal, AsksCoordinator, AsksShard, BatchValue, Commit, Coordinator, CoordinatorCall, decisions, end_of, Entry, flushing, from_coordinator, from_shard, GoesToDrop, Inquiry, IntentValue, is_aborted, is_refused, is_unsure, IsBatchOf, IsHeld, IsReplyTo, IsTold, IsWrittenAt, Kept, Later, learned, learning, Next, No, NodeCall, NotDecidedGives, onward, outward, Progress, Reply, Shard, ShardCall, There, Undecided, Unsure, view_ended, votes_later, VoteValue, Way, WriteAwaited, WriteHolds, WriteId, WriteValue, WriteView, Wrote, Yes}
use Rattle.decisions.specs.Standing.{DecidedValue}
use Rattle.decisions.specs.Values.{TicketValue, VerdictValue}
use Rattle.coordinator.specs.declared.telling.Outcome.{Outcome}
use Rattle.shard.specs.declared.replies.VoteReply.{VoteReply}
use Rattle.calls.specs.Belonging.{IsIntentBack}
use Rattle.calls.specs.declared.call.CoordinatorCall.TheVariants as calls
use Rattle.calls.specs.declared.call.ShardCall.TheVariants as shard_calls
use Rattle.calls.specs.declared.reply.CoordinatorReply.TheVariants as told
use Rattle.calls.specs.declared.reply.ShardReply.TheVariants as told_by
use Rattle.commit_flow.specs.declared.end.WriteEnd.{WriteEnd}
use Rattle.commit_flow.specs.declared.end.WriteEnd.TheVariants.{Refused}
use Rattle.commit_flow.specs.Answering.{AbortGives, BeginGives, CatchUpGives, FlushGives, GivesTo, InquireGives, OutcomeGives, PrepareGives, ProgressGives, VoteGives}
use Rattle.commit_flow.specs.WriteHolds as waits
use Rattle.commit_flow.specs.Views.{at_rest}
use Rattle.commit_flow.specs.Writing.{Asks}
use Rattle.flow_ties.specs.Writes.{IsDecisionOf, IsOfRequest, IsWriteOf, Linking, TellsWriter, WritesAreRelinked, WritesBegin, WritesHandOverWhatIsSeen, WritesStaySeen, WritesTellWhatStands}
use Rattle.flow_ties.proofs.CatchUps.{HoldsOn, by_batch, by_flush, by_learn, by_learned, held_longer, none_held}
use Rattle.refusal.proofs.Cases.{is_full}

-- a way out ends at no place
no_place_out : (way : Way) (place : ℕ) → end_of way ≡ Wrote place → ⊥
no_place_out onward place is = cc
no_place_out (outward None) place is = cc
no_place_out (outward (Some e)) place is = cc

module _ (links : DecidedValue → Entry → Type 0) (asked : WriteValue) (above : ℕ) (seen : List Entry) where
  abbrev Is : WriteView → Type 0
  Is v = IsWriteOf links asked above seen v

  -- what is held is of the write
  record Holds (h : WriteHolds) : Type 0 where
    pub intent : (i : IntentValue) → h.intent ≡ Some i → IsOfRequest asked i.write
    pub batch : IsHeld seen h.batch
    pub decided : (d : DecidedValue) → h.decided ≡ Some d → IsDecisionOf links asked above d × (h.way ≡ onward)

  rests : (h : WriteHolds) (caught : Option ℕ) (flushed : Bool) → Holds h → Is (record (at_rest h) { caught = caught; flushed = flushed })
  rests h caught flushed holds = record {
    unbegun = λ w none. absurd (let bad : None ≡ Some w = none in cc);
    intent = holds.intent;
    batch = holds.batch;
    decided = holds.decided;
    written = λ place none. absurd (let bad : None ≡ Some (Wrote place) = none in cc);
  }

  -- an end tells what is so
  abbrev Tells : WriteEnd → Type 0
  Tells end = (place : ℕ) → end ≡ Wrote place → IsWrittenAt asked above seen place

  ends : (end : WriteEnd) → Tells end → Is (view_ended end)
  ends end tells = record {
    unbegun = λ w none. absurd (let bad : None ≡ Some w = none in cc);
    intent = λ i none. absurd (let bad : None ≡ Some i = none in cc);
    batch = none_held seen;
    decided = λ d none. absurd (let bad : None ≡ Some d = none in cc);
    written = λ place is. tells place (same_Some end (Wrote place) is);
  }

  refused : (e : AnyRefusal) → Is (view_ended (Refused e))
  refused e = ends (Refused e) (λ place is. absurd cc)

  goes_out : (h : WriteHolds) (e : Option AnyRefusal) → Holds h → h.decided ≡ None → Is (at_rest (record h { way = outward e; batch = None }))
  goes_out h e holds none = rests (record h { way = outward e; batch = None }) None false (record { intent = holds.intent; batch = none_held seen; decided = λ d is. absurd (let bad : None ≡ Some d = sym none ∙ is in cc) })

  -- it goes on to drop the write, or ends
  drops : (out : WriteView) (id : WriteId) (after : WriteView) → Holds out.holds → GoesToDrop out id after → Is after
  drops out id after holds gives = ⊎_elim
      (λ goes_on. subst Is (sym goes_on) (rests (record out.holds { verdict = Some id }) None false (record { intent = holds.intent; batch = holds.batch; decided = holds.decided })))
      (λ (no_tickets, no_votes, is). subst Is (sym is) (ends (end_of out.holds.way) (λ place wrote. absurd (no_place_out out.holds.way place wrote))))
      gives

  leaves : (out : WriteView) (after : WriteView) → after ≡ view_ended (end_of out.holds.way) → Is after
  leaves out after is = subst Is (sym is) (ends (end_of out.holds.way) (λ place wrote. absurd (no_place_out out.holds.way place wrote)))

  by_begin : (out : WriteView) (write : WriteValue) (r : Result IntentValue AnyRefusal) (after : WriteView) → Holds out.holds → write ≡ asked
      → TellsWriter links asked above seen (Coordinator (calls.Begin write)) (from_coordinator (told.Begin r)) → BeginGives out r after → Is after
  by_begin out write (Ok i) after holds same tells gives = subst Is (sym gives)
      (rests (record out.holds { id = Some i.write.id; intent = Some i }) None false (record {
        intent = λ j is. subst (λ (x : IntentValue). IsOfRequest asked x.write) (same_Some i j is) (subst (λ (w : WriteValue). IsOfRequest w i.write) same tells);
        batch = holds.batch;
        decided = holds.decided;
      }))
  by_begin out write (Err e) after holds same tells gives = subst Is (sym gives) (refused e)

  by_progress : (out : WriteView) (s : ℕ) (progress : Progress) (after : WriteView) → Holds out.holds → out.holds.decided ≡ None → HoldsOn seen progress → ProgressGives out s progress after → Is after
  by_progress out s (Next c) after holds none on gives = subst Is (sym gives)
      (rests (record out.holds { batch = c.batch }) None false (record { intent = holds.intent; batch = on; decided = holds.decided }))
  by_progress out s There after holds none on gives = subst Is (sym gives)
      (rests (record out.holds { batch = None }) (Some s) false (record { intent = holds.intent; batch = none_held seen; decided = holds.decided }))
  by_progress out s (is_refused e) after holds none on gives = subst Is (sym gives) (goes_out out.holds (Some e) holds none)

  by_prepare : (out : WriteView) (s : ℕ) (again : Bool) (i : IntentValue) (r : Result TicketValue AnyRefusal) (after : WriteView) → Holds out.holds → out.holds.decided ≡ None → IsOfRequest asked i.write
      → PrepareGives out s again i r after → Is after
  by_prepare out s again i r after holds none of_request gives = by_result r gives
    where
      back : WriteHolds
      back = record out.holds { intent = Some i }

      holds_back : Holds back
      holds_back = record { intent = λ j is. subst (λ (x : IntentValue). IsOfRequest asked x.write) (same_Some i j is) of_request; batch = holds.batch; decided = holds.decided }

      by_result : (x : Result TicketValue AnyRefusal) → PrepareGives out s again i x after → Is after
      by_result (Ok t) given = subst Is (sym given) (rests _ None false (record { intent = holds_back.intent; batch = holds_back.batch; decided = holds_back.decided }))
      by_result (Err e) given = ⊎_elim
          (λ full. ⊎_elim
          (λ twice. subst Is (sym (given.1 (inr twice))) (goes_out back (Some e) holds_back none))
          (λ once. subst Is (sym (given.0 full once)) (rests back (Some s) false holds_back))
          (cases_Bool again))
          (λ other. subst Is (sym (given.1 (inl other))) (goes_out back (Some e) holds_back none))
          (is_full e)

  by_flush_before : (out : WriteView) (was_full : Bool) (r : Result (Unit {0}) AnyRefusal) (after : WriteView) → Holds out.holds → out.holds.decided ≡ None → FlushGives out was_full r after → Is after
  by_flush_before out was_full (Ok done) after holds none gives = subst Is (sym gives) (rests out.holds out.caught was_full holds)
  by_flush_before out was_full (Err e) after holds none gives = subst Is (sym gives) (goes_out out.holds (Some e) holds none)

  by_vote : (out : WriteView) (s : ℕ) (r : VoteReply) (after : WriteView) → Holds out.holds → out.holds.decided ≡ None → VoteGives out s r after → Is after
  by_vote out s (Yes vote) after holds none gives = subst Is (sym gives) (rests _ None false (record { intent = holds.intent; batch = holds.batch; decided = holds.decided }))
  by_vote out s (votes_later t) after holds none gives = subst Is (sym gives) (rests _ None false (record { intent = holds.intent; batch = holds.batch; decided = holds.decided }))
  by_vote out s (No e) after holds none gives = subst Is (sym gives) (goes_out out.holds (Some e) holds none)

  by_not_decided : (out : WriteView) (again : Bool) (e : AnyRefusal) (intent : IntentValue) (back : Option IntentValue) (votes : List VoteValue) (after : WriteView) → Holds out.holds → out.holds.decided ≡ None
      → IsOfRequest asked intent.write → IsIntentBack intent back → NotDecidedGives out again e back votes after → Is after
  by_not_decided out again e intent None votes after holds none of_request is_back gives = subst Is (sym gives)
      (goes_out (record out.holds { votes = votes }) (Some e) (record { intent = holds.intent; batch = holds.batch; decided = holds.decided }) none)
  by_not_decided out again e intent (Some i) votes after holds none of_request is_back gives = ⊎_elim
      (λ full. ⊎_elim
      (λ twice. subst Is (sym (gives.1 (inr twice))) (goes_out back (Some e) holds_back none))
      (λ once. subst Is (sym (gives.0 full once)) (rests back None false holds_back))
      (cases_Bool again))
      (λ other. subst Is (sym (gives.1 (inl other))) (goes_out back (Some e) holds_back none))
      (is_full e)
    where
      back : WriteHolds
      back = record out.holds { intent = Some i; votes = votes }

      holds_back : Holds back
      holds_back = record {
        intent = λ j is. subst (λ (x : IntentValue). IsOfRequest asked x.write) (same_Some i j is) (subst (λ (x : IntentValue). IsOfRequest asked x.write) (sym is_back) of_request);
        batch = holds.batch;
        decided = holds.decided;
      }

  by_decided : (out : WriteView) (intent : IntentValue) (d : DecidedValue) (after : WriteView) → Holds out.holds → out.holds.way ≡ onward → IsOfRequest asked intent.write → links d intent.write × (above < d.place)
      → after ≡ at_rest (record out.holds { decided = Some d }) → Is after
  by_decided out intent d after holds way of_request tells gives = subst Is (sym gives)
      (rests (record out.holds { decided = Some d }) None false (record {
        intent = holds.intent;
        batch = holds.batch;
        decided = λ x is. (subst (IsDecisionOf links asked above) (same_Some d x is) (record { write = intent.write; is_asked = of_request; linked = tells.0; higher = tells.1 }), way);
      }))

  by_outcome : (out : WriteView) (d : DecidedValue) (r : Outcome) (after : WriteView) → Holds out.holds → out.holds.way ≡ onward → IsDecisionOf links asked above d
      → TellsWriter links asked above seen (Coordinator (calls.Outcome d)) (from_coordinator (told.Outcome r)) → OutcomeGives out r after → Is after
  by_outcome out d (Kept place) after holds way is_decision tells gives = subst Is (sym gives) (ends (Wrote place) (λ x is. subst (IsWrittenAt asked above seen) (same_place place x is) (record {
    write = is_decision.write;
    is_asked = is_decision.is_asked;
    stands = tells.1 is_decision.write is_decision.linked;
    higher = subst (λ (n : ℕ). above < n) (sym tells.0) is_decision.higher;
  })))
    where
      same_place : (x y : ℕ) → Wrote x ≡ Wrote y → x ≡ y
      same_place x y is = cc is
  by_outcome out d (Later back) after holds way is_decision tells gives = subst Is (sym gives)
      (rests (record out.holds { decided = Some back }) None false (record {
        intent = holds.intent;
        batch = holds.batch;
        decided = λ x is. (subst (IsDecisionOf links asked above) (sym tells ∙ same_Some back x is) is_decision, way);
      }))
  by_outcome out d is_unsure after holds way is_decision tells gives = subst Is (sym gives) (refused Unsure)

  by_abort : (out : WriteView) (r : Result VerdictValue AnyRefusal) (after : WriteView) → Holds out.holds → AbortGives out r after → Is after
  by_abort out (Ok verdict) after holds gives = drops out verdict.id after holds gives
  by_abort out (Err e) after holds gives = leaves out after gives

  by_inquire : (out : WriteView) (r : Result Inquiry AnyRefusal) (after : WriteView) → Holds out.holds → InquireGives out r after → Is after
  by_inquire out (Ok (is_aborted verdict)) after holds gives = drops out verdict.id after holds gives
  by_inquire out (Ok (Commit place)) after holds gives = leaves out after gives
  by_inquire out (Ok Undecided) after holds gives = leaves out after gives
  by_inquire out (Err e) after holds gives = leaves out after gives

  module _ (shards : ℕ) (v : WriteView) (is : Is v) where
    held : Holds v.holds
    held = record { intent = is.intent; batch = is.batch; decided = is.decided }

    -- what the reply gives to a call that is out
    abbrev Given : WriteView → Reply → WriteView → Type 0
    Given out reply after = (awaited : WriteAwaited) → out.awaited ≡ Some awaited → GivesTo out awaited reply after

    given_to : (holds : WriteHolds) (awaited : WriteAwaited) (out : WriteView) (reply : Reply) (after : WriteView) → out ≡ record v { holds = holds; awaited = Some awaited } → Given out reply after
        → GivesTo (record v { holds = holds; awaited = Some awaited }) awaited reply after
    given_to holds awaited out reply after waits gives = subst (λ (o : WriteView). GivesTo o awaited reply after) waits (gives awaited (ap (λ (o : WriteView). o.awaited) waits))

    abbrev out_with : WriteHolds → WriteAwaited → WriteView
    out_with holds awaited = record v { holds = holds; awaited = Some awaited }

    caught_by : (out : WriteView) (awaited : _) (reply : Reply) (after : WriteView) → Holds out.holds → out.holds.decided ≡ None → (it : CatchUpGives out awaited reply after) → HoldsOn seen it.progress → Is after
    caught_by out awaited reply after holds none it on = by_progress out it.call.held.shard it.progress after holds none on it.then_gives

    batch_of : (out : WriteView) (awaited : _) (reply : Reply) (after : WriteView) (it : CatchUpGives out awaited reply after) → Holds out.holds → IsHeld seen it.call.held.batch
    batch_of out awaited reply after it holds = subst (IsHeld seen) (sym it.holds) holds.batch

    batch_replied : (from to : ℕ) (reply : Reply) (after : WriteView) → v.holds.decided ≡ None → IsReplyTo (Coordinator (calls.Batch from to)) reply → IsTold shards seen (Coordinator (calls.Batch from to)) reply
        → GivesTo (out_with v.holds (waits.catch_up decisions)) (waits.catch_up decisions) reply after → Is after
    batch_replied from to (from_coordinator (told.Batch (Ok b))) after none belongs is_told it =
        caught_by (out_with v.holds (waits.catch_up decisions)) decisions (from_coordinator (told.Batch (Ok b))) after held none it (by_batch seen it.call (Ok b) it.progress (batch_of _ _ _ _ it held) is_told it.gives)
    batch_replied from to (from_coordinator (told.Batch (Err e))) after none belongs is_told it =
        caught_by (out_with v.holds (waits.catch_up decisions)) decisions (from_coordinator (told.Batch (Err e))) after held none it (by_batch seen it.call (Err e) it.progress (batch_of _ _ _ _ it held) tt it.gives)
    batch_replied from to reply after none belongs is_told it = absurd belongs

    learned_replied : (s : ℕ) (reply : Reply) (after : WriteView) → v.holds.decided ≡ None → IsReplyTo (Shard s shard_calls.Learned) reply
        → GivesTo (out_with v.holds (waits.catch_up learned)) (waits.catch_up learned) reply after → Is after
    learned_replied s (from_shard (told_by.Learned r)) after none belongs it =
        caught_by (out_with v.holds (waits.catch_up learned)) learned (from_shard (told_by.Learned r)) after held none it (by_learned seen it.call r it.progress it.gives)
    learned_replied s reply after none belongs it = absurd belongs

    handed : Holds (record v.holds { batch = None })
    handed = record { intent = is.intent; batch = none_held seen; decided = is.decided }

    learn_replied : (s : ℕ) (b : BatchValue) (again : Bool) (reply : Reply) (after : WriteView) → v.holds.decided ≡ None → v.holds.batch ≡ Some b → IsReplyTo (Shard s (shard_calls.Learn b)) reply
        → GivesTo (out_with (record v.holds { batch = None }) (waits.catch_up (learning again))) (waits.catch_up (learning again)) reply after → Is after
    learn_replied s b again (from_shard (told_by.Learn back r)) after none has belongs it =
        caught_by (out_with (record v.holds { batch = None }) (waits.catch_up (learning again))) (learning again) (from_shard (told_by.Learn back r)) after handed none it
        (by_learn seen it.call back r again it.is_awaited it.progress (subst (IsBatchOf seen) (sym belongs) (is.batch b has)) it.gives)
    learn_replied s b again reply after none has belongs it = absurd belongs

    flush_to_learn_replied : (s : ℕ) (reply : Reply) (after : WriteView) → v.holds.decided ≡ None → IsReplyTo (Shard s shard_calls.Flush) reply
        → GivesTo (out_with v.holds (waits.catch_up flushing)) (waits.catch_up flushing) reply after → Is after
    flush_to_learn_replied s (from_shard (told_by.Flush r)) after none belongs it =
        caught_by (out_with v.holds (waits.catch_up flushing)) flushing (from_shard (told_by.Flush r)) after held none it (by_flush seen it.call r it.progress (batch_of _ _ _ _ it held) it.gives)
    flush_to_learn_replied s reply after none belongs it = absurd belongs

    begin_replied : (write : WriteValue) (reply : Reply) (after : WriteView) → v.write ≡ Some write → IsReplyTo (Coordinator (calls.Begin write)) reply
        → TellsWriter links asked above seen (Coordinator (calls.Begin write)) reply → GivesTo (record v { write = None; awaited = Some waits.begin }) waits.begin reply after → Is after
    begin_replied write (from_coordinator (told.Begin r)) after has belongs tells gives = by_begin (record v { write = None; awaited = Some waits.begin }) write r after held (is.unbegun write has) tells gives
    begin_replied write reply after has belongs tells gives = absurd gives

    prepare_replied : (s : ℕ) (intent : IntentValue) (again : Bool) (bits : ℕ) (reply : Reply) (after : WriteView) (out : WriteView) → out.holds ≡ record v.holds { intent = None } → v.holds.decided ≡ None
        → v.holds.intent ≡ Some intent → IsReplyTo (Shard s (shard_calls.StagePrepare intent)) reply → GivesTo out (waits.prepare s again bits) reply after → Is after
    prepare_replied s intent again bits (from_shard (told_by.StagePrepare i r)) after out same none has belongs gives =
        by_prepare out s again i r after (subst Holds (sym same) (record { intent = λ j bad. absurd (let no : None ≡ Some j = bad in cc); batch = is.batch; decided = is.decided }))
        (ap (λ (h : WriteHolds). h.decided) same ∙ none) (subst (λ (x : IntentValue). IsOfRequest asked x.write) (sym belongs.0) (is.intent intent has)) gives
    prepare_replied s intent again bits reply after out same none has belongs gives = absurd gives

    flush_replied : (s : ℕ) (reply : Reply) (after : WriteView) → v.holds.decided ≡ None → GivesTo (out_with v.holds (waits.flush_to_prepare s)) (waits.flush_to_prepare s) reply after → Is after
    flush_replied s (from_shard (told_by.Flush r)) after none gives = by_flush_before (out_with v.holds (waits.flush_to_prepare s)) true r after held none gives
    flush_replied s reply after none gives = absurd gives

    flush_to_vote_replied : (s : ℕ) (reply : Reply) (after : WriteView) → v.holds.decided ≡ None → GivesTo (out_with v.holds (waits.flush_to_vote s)) (waits.flush_to_vote s) reply after → Is after
    flush_to_vote_replied s (from_shard (told_by.Flush r)) after none gives = by_flush_before (out_with v.holds (waits.flush_to_vote s)) false r after held none gives
    flush_to_vote_replied s reply after none gives = absurd gives

    flush_to_decide_replied : (reply : Reply) (after : WriteView) → v.holds.decided ≡ None → GivesTo (out_with v.holds waits.flush_to_decide) waits.flush_to_decide reply after → Is after
    flush_to_decide_replied (from_coordinator (told.Flush r)) after none gives = by_flush_before (out_with v.holds waits.flush_to_decide) true r after held none gives
    flush_to_decide_replied reply after none gives = absurd gives

    flush_to_outcome_replied : (reply : Reply) (after : WriteView) → GivesTo (out_with v.holds waits.flush_to_outcome) waits.flush_to_outcome reply after → Is after
    flush_to_outcome_replied (from_coordinator (told.Flush r)) after gives = subst Is (sym gives) (rests v.holds None false held)
    flush_to_outcome_replied reply after gives = absurd gives

    spent : Holds (record v.holds { intent = None; votes = [] })
    spent = record { intent = λ j bad. absurd (let no : None ≡ Some j = bad in cc); batch = is.batch; decided = is.decided }

    abort_replied : (intent : IntentValue) (reply : Reply) (after : WriteView) → GivesTo (out_with (record v.holds { intent = None }) waits.abort) waits.abort reply after → Is after
    abort_replied intent (from_coordinator (told.Abort r)) after gives = by_abort (out_with (record v.holds { intent = None }) waits.abort) r after
        (record { intent = λ j bad. absurd (let no : None ≡ Some j = bad in cc); batch = is.batch; decided = is.decided }) gives
    abort_replied intent reply after gives = absurd gives

    inquire_replied : (reply : Reply) (after : WriteView) → GivesTo (out_with v.holds waits.inquire) waits.inquire reply after → Is after
    inquire_replied (from_coordinator (told.Inquire r)) after gives = by_inquire (out_with v.holds waits.inquire) r after held gives
    inquire_replied reply after gives = absurd gives

    vote_replied : (s : ℕ) (out : WriteView) (reply : Reply) (after : WriteView) → Holds out.holds → out.holds.decided ≡ None → GivesTo out (waits.vote s) reply after → Is after
    vote_replied s out (from_shard (told_by.Vote r)) after holds none gives = by_vote out s r after holds none gives
    vote_replied s out reply after holds none gives = absurd gives

    drop_replied : (out : WriteView) (reply : Reply) (after : WriteView) → Holds out.holds → GivesTo out waits.drop_write reply after → Is after
    drop_replied out (from_shard (told_by.DropWrite verdict r)) after holds gives = drops out verdict.id after holds gives
    drop_replied out reply after holds gives = absurd gives

    outcome_replied : (d : DecidedValue) (reply : Reply) (after : WriteView) → v.holds.decided ≡ Some d → TellsWriter links asked above seen (Coordinator (calls.Outcome d)) reply
        → GivesTo (out_with (record v.holds { decided = None }) waits.outcome) waits.outcome reply after → Is after
    outcome_replied d (from_coordinator (told.Outcome r)) after has tells gives =
        let it = is.decided d has in
        by_outcome (out_with (record v.holds { decided = None }) waits.outcome) d r after
        (record { intent = is.intent; batch = is.batch; decided = λ x bad. absurd (let no : None ≡ Some x = bad in cc) }) it.1 it.0 tells gives
    outcome_replied d reply after has tells gives = absurd gives

    -- A call of the coordinator, and of a shard.
    by_coordinator : (call : CoordinatorCall) (out : WriteView) (reply : Reply) (after : WriteView) → AsksCoordinator v call out → IsReplyTo (Coordinator call) reply
        → IsTold shards seen (Coordinator call) reply → TellsWriter links asked above seen (Coordinator call) reply → Given out reply after → Is after
    by_coordinator (calls.Begin write) out reply after asks belongs is_told tells gives = begin_replied write reply after asks.0.0 belongs tells
        (subst (λ (o : WriteView). GivesTo o waits.begin reply after) asks.1 (gives waits.begin (ap (λ (o : WriteView). o.awaited) asks.1)))
    by_coordinator calls.Heads out reply after asks belongs is_told tells gives = absurd asks
    by_coordinator (calls.Batch from to) out reply after asks belongs is_told tells gives = batch_replied from to reply after asks.0.0.1 belongs is_told (given_to v.holds (waits.catch_up decisions) out reply after asks.1 gives)
    by_coordinator (calls.Decide intent votes) out (from_coordinator (told.Decide (Ok d))) after asks belongs is_told tells gives =
        by_decided (out_with (record v.holds { intent = None; votes = [] }) (waits.decide v.flushed)) intent d after spent asks.0.0 (is.intent intent asks.1) tells
        (given_to (record v.holds { intent = None; votes = [] }) (waits.decide v.flushed) out (from_coordinator (told.Decide (Ok d))) after asks.4 gives)
    by_coordinator (calls.Decide intent votes) out (from_coordinator (told.Decide (Err r))) after asks belongs is_told tells gives =
        by_not_decided (out_with (record v.holds { intent = None; votes = [] }) (waits.decide v.flushed)) v.flushed r.refusal intent r.intent r.votes.items after spent asks.0.1 (is.intent intent asks.1) belongs.0
        (given_to (record v.holds { intent = None; votes = [] }) (waits.decide v.flushed) out (from_coordinator (told.Decide (Err r))) after asks.4 gives)
    by_coordinator (calls.Decide intent votes) out reply after asks belongs is_told tells gives = absurd belongs
    by_coordinator (calls.Outcome d) out reply after asks belongs is_told tells gives = outcome_replied d reply after asks.0 tells (given_to (record v.holds { decided = None }) waits.outcome out reply after asks.1 gives)
    by_coordinator (calls.Abort intent) out reply after asks belongs is_told tells gives = abort_replied intent reply after (given_to (record v.holds { intent = None }) waits.abort out reply after asks.2 gives)
    by_coordinator (calls.Inquire id) out reply after asks belongs is_told tells gives = inquire_replied reply after (given_to v.holds waits.inquire out reply after asks.3 gives)
    by_coordinator (calls.Raise place settled) out reply after asks belongs is_told tells gives = absurd asks
    by_coordinator calls.Checkpoint out reply after asks belongs is_told tells gives = absurd asks
    by_coordinator calls.Flush out reply after asks belongs is_told tells gives = ⊎_elim
        (λ (on_way, waits_for, unflushed). flush_to_decide_replied reply after on_way.1 (given_to v.holds waits.flush_to_decide out reply after waits_for gives))
        (λ (way, decided, waits_for). flush_to_outcome_replied reply after (given_to v.holds waits.flush_to_outcome out reply after waits_for gives))
        asks

    by_shard : (s : ℕ) (call : ShardCall) (out : WriteView) (reply : Reply) (after : WriteView) → AsksShard shards v s call out → IsReplyTo (Shard s call) reply → Given out reply after → Is after
    by_shard s shard_calls.Learned out reply after asks belongs gives = learned_replied s reply after asks.0.1 belongs (given_to v.holds (waits.catch_up learned) out reply after asks.2 gives)
    by_shard s (shard_calls.Learn batch) out reply after asks belongs gives =
        let again = asks.3.0 in
        learn_replied s batch again reply after asks.0.1 asks.2 belongs (given_to (record v.holds { batch = None }) (waits.catch_up (learning again)) out reply after asks.3.1 gives)
    by_shard s (shard_calls.StagePrepare intent) out reply after asks belongs gives =
        let (bits, parts, waits_for) = asks.6 in
        prepare_replied s intent v.flushed bits reply after out (ap (λ (o : WriteView). o.holds) waits_for) asks.0.1 asks.3 belongs (gives (waits.prepare s v.flushed bits) (ap (λ (o : WriteView). o.awaited) waits_for))
    by_shard s (shard_calls.Vote ticket) out reply after asks belongs gives =
        let (others, tickets, waits_for) = asks.2 in
        let holds : WriteHolds = record v.holds { tickets = others } in
        vote_replied s (out_with holds (waits.vote s)) reply after (record { intent = is.intent; batch = is.batch; decided = is.decided }) asks.0.1 (given_to holds (waits.vote s) out reply after waits_for gives)
    by_shard s (shard_calls.DropWrite verdict None) out reply after asks belongs gives = absurd asks
    by_shard s (shard_calls.DropWrite verdict (Some given)) out reply after asks belongs gives =
        let (tickets, votes, tickets_are, votes_are, waits_for) = asks.2 in
        let holds : WriteHolds = record v.holds { tickets = tickets; votes = votes; verdict = None } in
        drop_replied (out_with holds waits.drop_write) reply after (record { intent = is.intent; batch = is.batch; decided = is.decided }) (given_to holds waits.drop_write out reply after waits_for gives)
    by_shard s shard_calls.InDoubt out reply after asks belongs gives = absurd asks
    by_shard s (shard_calls.Read place set) out reply after asks belongs gives = absurd asks
    by_shard s (shard_calls.ReadForCheck place x u) out reply after asks belongs gives = absurd asks
    by_shard s shard_calls.Settle out reply after asks belongs gives = absurd asks
    by_shard s (shard_calls.Collect heads) out reply after asks belongs gives = absurd asks
    by_shard s shard_calls.Checkpoint out reply after asks belongs gives = absurd asks
    by_shard s shard_calls.Flush out reply after asks belongs gives = ⊎_elim
        (λ (there, way). ⊎_elim
        (λ waits_for. flush_to_learn_replied s reply after asks.0.1 belongs (given_to v.holds (waits.catch_up flushing) out reply after waits_for gives))
        (λ waits_for. flush_replied s reply after asks.0.1 (given_to v.holds (waits.flush_to_prepare s) out reply after waits_for gives))
        way)
        (λ (t, others, tickets, waits_for). flush_to_vote_replied s reply after asks.0.1 (given_to v.holds (waits.flush_to_vote s) out reply after waits_for gives))
        asks.1

    by_call : (call : NodeCall) (out : WriteView) (reply : Reply) (after : WriteView) → Asks shards v call out → IsReplyTo call reply → IsTold shards seen call reply → TellsWriter links asked above seen call reply
        → Given out reply after → Is after
    by_call (Coordinator call) out reply after asks belongs is_told tells gives = by_coordinator call out reply after asks.1 belongs is_told tells gives
    by_call (Shard s call) out reply after asks belongs is_told tells gives = by_shard s call out reply after asks.1 belongs gives

  -- what it hands to a shard it held
  handed_over : (shards s : ℕ) (v out : WriteView) (b : BatchValue) → Is v → Asks shards v (Shard s (shard_calls.Learn b)) out → IsBatchOf seen b
  handed_over shards s v out b is asks = is.batch b asks.1.2

-- while it runs it has told no place
run_on : (links : Linking) (asked : WriteValue) (above : ℕ) (seen longer : List Entry) (v : WriteView) → IsPrefix seen longer → v.ended ≡ None → IsWriteOf links asked above seen v → IsWriteOf links asked above longer v
run_on links asked above seen longer v pre runs was = record {
  unbegun = was.unbegun;
  intent = was.intent;
  batch = held_longer seen longer v.holds.batch pre was.batch;
  decided = was.decided;
  written = λ place is. absurd (let bad : None ≡ Some (Wrote place) = sym runs ∙ is in cc);
}

pub writes_stay_seen : (links : Linking) → WritesStaySeen links
writes_stay_seen links asked above seen more v pre runs was = run_on links asked above seen more v pre runs was

pub writes_begin : (links : Linking) → WritesBegin links
writes_begin links asked above seen = record {
  unbegun = λ w is. sym (same_Some asked w is);
  intent = λ i none. absurd (let bad : None ≡ Some i = none in cc);
  batch = none_held seen;
  decided = λ d none. absurd (let bad : None ≡ Some d = none in cc);
  written = λ place none. absurd (let bad : None ≡ Some (Wrote place) = none in cc);
}

pub writes_are_relinked : (links other : Linking) → WritesAreRelinked links other
writes_are_relinked links other asked above seen v relinks was = record {
  unbegun = was.unbegun;
  intent = was.intent;
  batch = was.batch;
  decided = λ d is. let it = was.decided d is in (record { write = it.0.write; is_asked = it.0.is_asked; linked = relinks d it.0.write is it.0.linked; higher = it.0.higher }, it.1);
  written = was.written;
}

pub writes_hand_over_what_is_seen : (links : Linking) → WritesHandOverWhatIsSeen links
writes_hand_over_what_is_seen links asked above shards s seen v out b was asks = handed_over links asked above seen shards s v out b was asks

pub writes_tell_what_stands : (links : Linking) → WritesTellWhatStands links
writes_tell_what_stands links asked above shards seen later v after pre was turns =
    by_call links asked above later shards v (run_on links asked above seen later v pre turns.running was) turns.call turns.out turns.reply after turns.asks turns.belongs turns.told turns.tells turns.gives

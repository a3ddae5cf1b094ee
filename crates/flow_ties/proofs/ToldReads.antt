-- A read that is refused has a reason: a reply has told it, memory is refused, or the place is not there.
use Rattle.std.proofs.Common.{◌≡◌, inl, inr, ⊎_elim, ℕ, Bool, ◌≤◌, ◌<◌, ◌+◌, List, [], ◌∷◌, ◌++◌, length, Some, None, Result, Ok, Err, refl, sym, ◌∙◌, ap, subst}
use Rattle.std.proofs.lemmas.Bool.{cases_lt}
use Rattle.flow_ties.proofs.Words.{AnyRefusal, Behind, Coordinator, Entry, error_of, Finishes, Freshness, from_coordinator, from_shard, HasReason, HasTold, HeadsValue, IsReplyTo, Key, Next, NodeCall, NoMemory, nothing_read, OfObject, OfUser, Progress, ReadAwaited, ReadHolds, ReadReply, ReadStep, ReadView, Refused, refused_by, Reply, Rows, selected, TellsCare, TellsReach, There, Tuple, Tupleset}
use Rattle.calls.specs.declared.call.CoordinatorCall.TheVariants as calls
use Rattle.calls.specs.declared.reply.CoordinatorReply.TheVariants as told
use Rattle.calls.specs.declared.reply.ShardReply.TheVariants as told_by
use Rattle.answer_flow.specs.Reading.{AsksFor, CatchUpGives, CatchesUp, Continues, FlushGives, GivesTo, HeadsGive, LacksMemory, ProgressGives, ReadGives, RowsGive}
use Rattle.answer_flow.specs.ReadViews.{at_rest, catch_up, catch_up_call, ended, flush, flush_call, heads, heads_call, read, read_call, refused}
use Rattle.flow_ties.specs.Reads.{ReadHasReason, ReadsAtRestHaveReason, ReadsBeginForAReason, ReadsRefuseForAReason}
use Rattle.flow_ties.proofs.RefusedPlaces.{is_at_node, place_refused}
use Rattle.flow_ties.proofs.ToldCatchUps.{call_carries}

same_refusal : (e x : AnyRefusal) → Some (refused e) ≡ Some (refused x) → e ≡ x
same_refusal e x is = cc is

no_refusal : (place : ℕ) (done : List (List Tuple)) (e : AnyRefusal) → Some (selected place done) ≡ Some (refused e) → ⊥
no_refusal place done e is = absurd (let bad : Some (selected place done) ≡ Some (refused e) = is in cc)

module _ (fresh : Freshness) (marks : List Bool) (seen : List Entry) (low : ℕ) where
  abbrev Is : ReadView → Type 0
  Is after = ReadHasReason marks fresh seen low after

  rests : (step : ReadStep) (h : ReadHolds) → Is (at_rest step h)
  rests step h e none = absurd (let bad : None ≡ Some (refused e) = none in cc)

  answered : (place : ℕ) (done : List (List Tuple)) → Is (ended (selected place done))
  answered place done e is = absurd (no_refusal place done e is)

  is_refused : (e : AnyRefusal) → HasReason marks fresh seen low e → Is (ended (refused e))
  is_refused e reason x is = subst (HasReason marks fresh seen low) (same_refusal e x is) reason

  ends_told : (e : AnyRefusal) (after : ReadView) → HasTold marks e → after ≡ ended (refused e) → Is after
  ends_told e after told_e gives = subst Is (sym gives) (is_refused e (inl told_e))

  lacks_memory : (after : ReadView) → LacksMemory after → Is after
  lacks_memory after none = subst Is (sym none) (is_refused NoMemory (inr (inl refl)))

  continues : (sets : List Tupleset) (place : ℕ) (h : ReadHolds) (after : ReadView) → Continues sets place h after → Is after
  continues sets place h after gives = ⊎_elim
      (λ (lt : length h.done < length sets). ⊎_elim
      (λ goes_on. subst Is (sym goes_on) (rests catch_up h))
      (λ none. lacks_memory after none)
      (gives.more lt))
      (λ (le : length sets ≤ length h.done). subst Is (sym (gives.last le)) (answered place h.done))
      (cases_lt (length h.done) (length sets))

  -- what a reply carries was told
  abbrev AreTold : {T : Type 0} → Result T AnyRefusal → Type 0
  AreTold r = (e : AnyRefusal) → error_of r ≡ Some e → HasTold marks e

  by_heads : (sets : List Tupleset) (r : Result HeadsValue AnyRefusal) (after : ReadView) → AreTold r → TellsReach seen (Coordinator calls.Heads) (from_coordinator (told.Heads r)) → TellsCare low (Coordinator calls.Heads) (from_coordinator (told.Heads r))
      → HeadsGive fresh sets r after → Is after
  by_heads sets (Err e) after are_told reach horizon gives = ends_told e after (are_told e refl) gives
  by_heads sets (Ok v) after are_told reach horizon gives = ⊎_elim
      (λ (place, found, goes_on). continues sets place (record nothing_read { place = Some place }) after goes_on)
      (λ rest. ⊎_elim
      (λ later. subst Is (sym later.1) (rests flush nothing_read))
      (λ (e, why, is_so). subst Is (sym is_so) (is_refused e (inr (inr (place_refused seen low v e reach horizon fresh why)))))
      rest)
      gives

  by_flush : (r : Result (Unit {0}) AnyRefusal) (after : ReadView) → AreTold r → FlushGives r after → Is after
  by_flush (Ok done) after are_told gives = subst Is (sym gives) (rests heads nothing_read)
  by_flush (Err e) after are_told gives = ends_told e after (are_told e refl) gives

  by_progress : (out : ReadView) (progress : Progress) (after : ReadView) → ((e : AnyRefusal) → progress ≡ Refused e → HasTold marks e) → ProgressGives out progress after → Is after
  by_progress out (Next c) after are_told gives = subst Is (sym gives) (rests catch_up (record out.holds { batch = c.batch }))
  by_progress out There after are_told gives = subst Is (sym gives) (rests read (record out.holds { batch = None }))
  by_progress out (Refused e) after are_told gives = ends_told e after (are_told e refl) gives

  module _ (shards : ℕ) (sets : List Tupleset) where
    finishes : (place : ℕ) (h : ReadHolds) (rows : List Tuple) (after : ReadView) → Finishes sets place h rows after → Is after
    finishes place h rows after gives = ⊎_elim
        (λ none. lacks_memory after none)
        (λ goes_on. continues sets place (record h { done = h.done ++ rows ∷ []; below = 0; rows = [] }) after goes_on)
        gives

    by_rows : (q : Tupleset) (place : ℕ) (h : ReadHolds) (more : List Tuple) (after : ReadView) → RowsGive shards sets place h q more after → Is after
    by_rows (Key t) place h more after gives = finishes place h more after gives
    by_rows (OfObject o relation) place h more after gives = finishes place h more after gives
    by_rows (OfUser n u relation) place h more after gives = ⊎_elim
        (λ none. lacks_memory after none)
        (λ merges. ⊎_elim
        (λ (lt : h.below + 1 < shards). subst Is (sym (merges.next lt)) (rests catch_up (record h { below = h.below + 1; rows = merges.merged })))
        (λ (le : shards ≤ h.below + 1). finishes place h merges.merged after (merges.last le))
        (cases_lt (h.below + 1) shards))
        gives

    by_answer : (out : ReadView) (place : ℕ) → out.holds.place ≡ Some place → (q : Tupleset) (r : Result ReadReply AnyRefusal) (after : ReadView) → AreTold r → ReadGives shards sets out q r after → Is after
    by_answer out place at q (Ok (Rows more)) after are_told gives = by_rows q place out.holds more.items after (gives place at)
    by_answer out place at q (Ok Behind) after are_told gives = subst Is (sym gives) (rests catch_up out.holds)
    by_answer out place at q (Err e) after are_told gives = ends_told e after (are_told e refl) gives

    abbrev IsCarried : Reply → Type 0
    IsCarried reply = (e : AnyRefusal) → refused_by reply ≡ Some e → HasTold marks e

    heads_replied : (out : ReadView) (reply : Reply) (after : ReadView) → IsCarried reply → TellsReach seen (Coordinator calls.Heads) reply → TellsCare low (Coordinator calls.Heads) reply → GivesTo shards fresh sets out heads_call reply after → Is after
    heads_replied out (from_coordinator (told.Heads r)) after carried reach horizon gives = by_heads sets r after carried reach horizon gives
    heads_replied out reply after carried reach horizon gives = absurd gives

    flush_replied : (out : ReadView) (reply : Reply) (after : ReadView) → IsCarried reply → GivesTo shards fresh sets out flush_call reply after → Is after
    flush_replied out (from_coordinator (told.Flush r)) after carried gives = by_flush r after carried gives
    flush_replied out reply after carried gives = absurd gives

    read_replied : (out : ReadView) (place : ℕ) → out.holds.place ≡ Some place → (reply : Reply) (after : ReadView) → IsCarried reply → GivesTo shards fresh sets out read_call reply after → Is after
    read_replied out place at (from_shard (told_by.Read q r)) after carried gives = by_answer out place at q r after carried gives
    read_replied out place at reply after carried gives = absurd gives

    by_way : (v : ReadView) (call : NodeCall) (out : ReadView) (reply : Reply) (after : ReadView) (asks : CatchesUp shards sets v call out) → IsReplyTo call reply → IsCarried reply
        → ((awaited : ReadAwaited) → out.awaited ≡ Some awaited → GivesTo shards fresh sets out awaited reply after) → Is after
    by_way v call out reply after asks belongs carried gives =
        let it : CatchUpGives out asks.out.awaited reply after = gives (catch_up_call asks.out.awaited) (ap (λ (o : ReadView). o.awaited) asks.waits) in
        by_progress out it.progress after (λ e is. carried e (call_carries it.call it.progress e is asks.way asks.out it.is_awaited call reply asks.asks belongs it.gives)) it.then_gives

    -- whichever call it makes
    by_step : (step : ReadStep) (v : ReadView) (call : NodeCall) (out : ReadView) (reply : Reply) (after : ReadView) → AsksFor step shards sets v call out → IsReplyTo call reply → IsCarried reply
        → TellsReach seen call reply → TellsCare low call reply → ((awaited : ReadAwaited) → out.awaited ≡ Some awaited → GivesTo shards fresh sets out awaited reply after) → Is after
    by_step heads v call out reply after asks belongs carried reach horizon gives = heads_replied out reply after carried
        (subst (λ (c : NodeCall). TellsReach seen c reply) asks.0 reach)
        (subst (λ (c : NodeCall). TellsCare low c reply) asks.0 horizon)
        (gives heads_call (ap (λ (o : ReadView). o.awaited) asks.1))
    by_step flush v call out reply after asks belongs carried reach horizon gives = flush_replied out reply after carried (gives flush_call (ap (λ (o : ReadView). o.awaited) asks.1))
    by_step catch_up v call out reply after asks belongs carried reach horizon gives = by_way v call out reply after asks belongs carried gives
    by_step read v call out reply after asks belongs carried reach horizon gives =
        read_replied out asks.place (ap (λ (o : ReadView). o.holds.place) asks.waits ∙ asks.at_place) reply after carried (gives read_call (ap (λ (o : ReadView). o.awaited) asks.waits))

pub reads_at_rest_have_reason : ReadsAtRestHaveReason
reads_at_rest_have_reason fresh marks seen low step h = rests fresh marks seen low step h

pub reads_begin_for_a_reason : ReadsBeginForAReason
reads_begin_for_a_reason sets place v gives e is = ⊎_elim
    (λ (lt : 0 < length sets). ⊎_elim
    (λ goes_on. absurd (let bad : None ≡ Some (refused e) = ap (λ (o : ReadView). o.ended) (sym goes_on) ∙ is in cc))
    (λ none. sym (same_refusal NoMemory e (ap (λ (o : ReadView). o.ended) (sym none) ∙ is)))
    (gives.more lt))
    (λ (le : length sets ≤ 0). absurd (no_refusal place [] e (ap (λ (o : ReadView). o.ended) (sym (gives.last le)) ∙ is)))
    (cases_lt 0 (length sets))

pub reads_refuse_for_a_reason : ReadsRefuseForAReason
reads_refuse_for_a_reason shards fresh sets old new seen low v out after call reply asks belongs gives reach horizon notes =
    by_step fresh new seen low shards sets v.next v call out reply after asks.asks belongs (notes.carried (is_at_node shards call asks.owed)) reach horizon gives

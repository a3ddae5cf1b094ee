-- A read of a shared store goes on to hold what is of the list, turn by turn.
use Rattle.std.proofs.Common.{◌≡◌, ◌⊎◌, inl, inr, ◌≤◌, ℕ, List, Bool, length, Some, refl, sym, ap, subst}
use Rattle.std.proofs.lemmas.Option.{same_Some}
use Rattle.locked.proofs.Words.{Attempt, Entry, exact, Freshness, IsBeyond, IsFresh, IsReadOf, Known, Progress, ReadFlowValue, ReadHasReason, reads_at_rest_have_reason, Reply, Tupleset, Turns}
use Rattle.decisions.specs.Flows.{nothing_read}
use Rattle.names.specs.declared.call_name.CallName.{CallName}
use Rattle.calls.specs.declared.progress.Progress.TheVariants.{Next}
use Rattle.answer_flow.specs.Reading.{Asks, Continues, GivesTo, HastensRead}
use Rattle.answer_flow.specs.ReadViews.{IsAsked, ReadAwaited, ReadCallValue, ReadEnding, ended, heads, refused, seen_after, seen_of, seen_out, selected}
use Rattle.answer_flow.specs.Running.{AsksRead, GivesRead}
use Rattle.answer_flow.specs.declared.read_phase.ReadDone.{ReadDone}
use Rattle.flow_ties.specs.Reads.{AreRowsAt}
use Rattle.flow_ties.proofs.ToldReads.{reads_begin_for_a_reason, reads_refuse_for_a_reason}
use Rattle.flow_ties.proofs.SeenReads.{reads_answer_what_is_seen, reads_begin, reads_begin_at_places}
use Rattle.calls.specs.Refusing.{HasTold}
use Rattle.refusal.specs.declared.refusal.Refusal.{Refusal}
use Rattle.refusal.specs.declared.refusal.Refusal.TheVariants.{Collected, NoMemory}
use Rattle.locked.specs.Answering.{IsNotThere, IsPassed, ReadEnds, ReadRefuses, ReadRuns}
use Rattle.locked.proofs.FreshPlaces.{beyond_is_fresh, fresh_is_as_asked, fresh_of_less, passed_is_not_there, place_is_reached, reason_asked, reason_of_less}
use Rattle.locked.proofs.HastenedReads.{hastened}

-- what the reply makes of it, in the words of what was asked
gives_to : (shards : ℕ) (v : ReadFlowValue) (out : ReadCallValue) (reply : Reply) (after : Progress ReadFlowValue ReadDone) → v.shards ≡ shards
    → out ≡ record { shards = v.shards; fresh = v.fresh; sets = v.sets; step = out.step; awaited = out.awaited; holds = out.holds } → GivesRead out reply after
    → (awaited : ReadAwaited) → Some out.awaited ≡ Some awaited → GivesTo shards v.fresh v.sets (seen_out out) awaited reply (seen_after after)
gives_to shards v out reply after of same gives awaited is =
    let here = subst (λ (a : ReadAwaited). GivesTo out.shards out.fresh out.sets (seen_out out) a reply (seen_after after)) (same_Some out.awaited awaited is) gives.1 in
    let own = subst (λ (o : ReadCallValue). GivesTo o.shards o.fresh o.sets (seen_out out) awaited reply (seen_after after)) same here in
    subst (λ (n : ℕ). GivesTo n v.fresh v.sets (seen_out out) awaited reply (seen_after after)) of own

-- it is what was asked, what it holds is of the list, and a refusal has a reason in what was told
pub record ReadGoesOn (rested : Type 0) (shards : ℕ) (pass : Known Entry) (marks : List Bool) (fresh : Freshness) (sets : List Tupleset) (after : Progress ReadFlowValue ReadDone) : Type 0 where
  pub asked : IsAsked shards fresh sets after
  pub held : rested → IsReadOf shards pass.seen fresh sets (seen_after after)
  pub reason : rested → ReadHasReason marks fresh pass.seen pass.horizon (seen_after after)

-- one that waits was not refused
pub read_waits : (rests : Type 0) (shards : ℕ) (pass : Known Entry) (marks : List Bool) (v : ReadFlowValue) → v.shards ≡ shards → (rests → IsReadOf shards pass.seen v.fresh v.sets (seen_of v)) → ReadGoesOn rests shards pass marks v.fresh v.sets (Next v)
read_waits rests shards pass marks v of held =
    record { asked = subst (λ (n : ℕ). IsAsked n v.fresh v.sets (Next v)) of refl; held = held; reason = λ h. reads_at_rest_have_reason v.fresh marks pass.seen pass.horizon v.next v.holds }

turned : {tried more : Known Attempt} (rests : Type 0) (shards : ℕ) (old new : Known Entry) (marks later : List Bool) (v : ReadFlowValue) (after : Progress ReadFlowValue ReadDone) → v.shards ≡ shards → (rests → IsReadOf shards old.seen v.fresh v.sets (seen_of v))
    → Turns AsksRead rests GivesRead shards old new tried more marks later v after → ReadGoesOn rests shards new later v.fresh v.sets after
turned rests shards old new marks later v after of is t =
    let asks = subst (λ (n : ℕ). Asks n v.sets (seen_of v) t.call (seen_out t.out)) of t.asked.2 in
    let gives = gives_to shards v t.out t.reply after of t.asked.1 t.given in
    record {
      asked = subst (λ (n : ℕ). IsAsked n v.fresh v.sets after) of (subst (λ (o : ReadCallValue). IsAsked o.shards o.fresh o.sets after) t.asked.1 t.given.0);
      held = λ h. reads_answer_what_is_seen shards old.seen new.seen v.fresh v.sets (seen_of v) (seen_after after) t.serves.later.seen (is h)
          (record { call = t.call; out = seen_out t.out; reply = t.reply; asks = asks; belongs = t.serves.belongs; told = t.serves.told h; gives = gives });
      reason = λ h. reads_refuse_for_a_reason shards v.fresh v.sets marks later new.seen new.horizon (seen_of v) (seen_out t.out) (seen_after after) t.call t.reply asks t.serves.belongs gives (t.serves.reach h) (t.serves.care h) t.notices;
    }

-- and so after a turn, before which a shard was to be read at once or not
pub read_goes_on : {tried more : Known Attempt} (rests : Type 0) (shards : ℕ) (old new : Known Entry) (marks later : List Bool) (fresh : Freshness) (sets : List Tupleset) (v w : ReadFlowValue) (after : Progress ReadFlowValue ReadDone) → ReadGoesOn rests shards old marks fresh sets (Next v)
    → w ≡ record v { next = w.next; holds = w.holds; next_name = w.next_name } → HastensRead (seen_of v) (seen_of w) → Turns AsksRead rests GivesRead shards old new tried more marks later w after → ReadGoesOn rests shards new later fresh sets after
read_goes_on rests shards old new marks later fresh sets v w after was same hastens t =
    let asked : IsAsked shards fresh sets (Next w) = subst (λ (f : ReadFlowValue). w ≡ record f { next = w.next; holds = w.holds; next_name = w.next_name }) was.asked same in
    subst (λ (f : ReadFlowValue). ReadGoesOn rests shards new later f.fresh f.sets after) asked (turned rests shards old new marks later w after (ap (λ (f : ReadFlowValue). f.shards) asked)
    (λ h. subst (λ (f : ReadFlowValue). IsReadOf shards old.seen f.fresh f.sets (seen_of w)) (sym asked) (hastened shards old.seen fresh sets (seen_of v) (seen_of w) hastens (was.held h)))
    t)

-- a read that begins at a place of the list; only memory can be refused then
pub read_at : (rests : Type 0) (shards count : ℕ) (seen : List Entry) (asked : Freshness) (before low place : ℕ) (sets : List Tupleset) (begun : Progress ReadFlowValue ReadDone) → count ≡ shards → IsAsked count (exact place) sets begun → place ≤ length seen
    → IsFresh asked before place → Continues sets place (record nothing_read { place = Some place }) (seen_after begun) → ReadRuns rests shards seen asked before low sets begun
read_at rests shards count seen asked before low place sets begun of same there is_fresh begins = record {
  fresh = exact place;
  of = subst (λ (n : ℕ). IsAsked n (exact place) sets begun) of same;
  narrows = λ other as_asked. subst (IsFresh asked before) (sym as_asked) is_fresh;
  beyond = place_is_reached asked place (length seen) there;
  held = λ h. reads_begin_at_places shards seen (exact place) sets place (seen_after begun) there refl begins;
  reason = λ marks e is. inr (inl (reads_begin_for_a_reason sets place (seen_after begun) begins e is));
}

-- a read of a place that lies above what was published asks for heads first
pub read_beyond : (rests : Type 0) (shards count : ℕ) (seen : List Entry) (asked : Freshness) (before low : ℕ) (sets : List Tupleset) (name : CallName) (v : ReadFlowValue) → count ≡ shards
    → v ≡ record { shards = count; fresh = asked; sets = sets; next = heads; holds = nothing_read; next_name = name } → before ≤ length seen → IsBeyond asked (length seen) → ReadRuns rests shards seen asked before low sets (Next v)
read_beyond rests shards count seen asked before low sets name v of same rises beyond =
    let begun : ReadFlowValue = record { shards = count; fresh = asked; sets = sets; next = heads; holds = nothing_read; next_name = name } in
    subst (λ (f : ReadFlowValue). ReadRuns rests shards seen asked before low sets (Next f)) (sym same) (record {
      fresh = asked;
      of = subst (λ (n : ℕ). IsAsked n asked sets (Next begun)) of refl;
      narrows = λ other as_asked. beyond_is_fresh asked before (length seen) other rises beyond as_asked;
      beyond = λ n longer above. above;
      held = λ h. reads_begin shards seen asked sets;
      reason = λ marks. reads_at_rest_have_reason asked marks seen low heads nothing_read;
    })

-- rows that a read ends with are those of the list, at a place as fresh as asked
pub read_ends : (rests : Type 0) (shards : ℕ) (seen longer : List Entry) (asked : Freshness) (before low : ℕ) (sets : List Tupleset) (begun : Progress ReadFlowValue ReadDone) (end : ReadEnding) (runs : ReadRuns rests shards seen asked before low sets begun)
    → IsReadOf shards longer runs.fresh sets (ended end) → ReadEnds longer asked before sets end
read_ends rests shards seen longer asked before low sets begun end runs held place done is =
    let rows : AreRowsAt longer runs.fresh sets place done = held.answers place done (ap (λ (e : ReadEnding). Some e) is) in
    let wanted : IsFresh asked before place = runs.narrows place rows.wanted in
    (wanted, record { there = rows.there; wanted = fresh_is_as_asked asked before place wanted; all = rows.all; each = rows.each })

-- the refusal that a read ends with has a reason in the words of what was asked for
pub read_refuses : (rests : Type 0) (shards : ℕ) (seen longer : List Entry) (asked : Freshness) (before low now : ℕ) (marks : List Bool) (sets : List Tupleset) (begun : Progress ReadFlowValue ReadDone) (end : ReadEnding)
    (runs : ReadRuns rests shards seen asked before low sets begun) → length seen ≤ length longer → ReadHasReason marks runs.fresh longer now (ended end) → ReadRefuses marks longer now asked before end
read_refuses rests shards seen longer asked before low now marks sets begun end runs le reason e is =
    reason_asked asked before (length seen) longer now e le marks runs.fresh runs.narrows runs.beyond (reason e (ap (λ (e : ReadEnding). Some e) is))

-- what a read ends with is as good if less had been seen before it
pub read_ends_of_less : (seen : List Entry) (asked : Freshness) (less more : ℕ) (sets : List Tupleset) (end : ReadEnding) → less ≤ more → ReadEnds seen asked more sets end → ReadEnds seen asked less sets end
read_ends_of_less seen asked less more sets end le ends place done is =
    let it = ends place done is in
    (fresh_of_less asked less more place le it.0, it.1)

pub read_refuses_of_less : (marks : List Bool) (seen : List Entry) (low : ℕ) (asked : Freshness) (less more : ℕ) (end : ReadEnding) → less ≤ more → ReadRefuses marks seen low asked more end → ReadRefuses marks seen low asked less end
read_refuses_of_less marks seen low asked less more end le refuses e is = reason_of_less asked less more seen low marks e le (refuses e is)

refusal_in : ReadEnding → Refusal
refusal_in (refused e) = e
refusal_in (selected place done) = NoMemory

-- just one place that the horizon has passed is refused for that reason
pub passed_refuses_read : (marks : List Bool) (seen : List Entry) (low : ℕ) (asked : Freshness) (before : ℕ) → IsPassed asked low → ReadRefuses marks seen low asked before (refused Collected)
unfolding refusal_in
passed_refuses_read marks seen low asked before passed e is = subst (λ (e : Refusal). HasTold marks e ⊎ ((e ≡ NoMemory) ⊎ IsNotThere asked before seen low e)) (ap refusal_in is) (inr (inr (passed_is_not_there asked before low seen passed)))

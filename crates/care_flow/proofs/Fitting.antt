-- The reply to a call that a care makes is one that it waits for, and a care stays one of nodes that are there.
use Rattle.std.proofs.Common.{◌≡◌, ◌<◌, ℕ, Bool, true, false, Option, Some, None, Result, Ok, Err, MatchOption, IfErr, [], sym, subst}
use Rattle.std.specs.Global.{Vec}
use Rattle.tuples.specs.declared.entry.WriteId.{WriteId}
use Rattle.decisions.specs.Coordinators.{HaveSettled}
use Rattle.decisions.specs.Flows.{HeadsHeld, RaiseHolds, ResolveHolds}
use Rattle.decisions.specs.Values.{HeadsValue, SettledValue}
use Rattle.coordinator.specs.declared.raising.NotRaised.{NotRaised}
use Rattle.calls.specs.Names.{name_of}
use Rattle.calls.specs.Belonging.{GivesSettledBack, IsReplyTo}
use Rattle.names.specs.declared.node_name.NodeName.{NodeName}
use Rattle.names.specs.declared.node_name.NodeName.TheVariants as nodes
use Rattle.calls.specs.declared.call.NodeCall.{NodeCall}
use Rattle.calls.specs.declared.call.NodeCall.TheVariants.{Coordinator as of_coordinator, Shard as of_shard}
use Rattle.calls.specs.declared.call.CoordinatorCall.TheVariants as coordinator_calls
use Rattle.calls.specs.declared.call.ShardCall.TheVariants as shard_calls
use Rattle.calls.specs.declared.reply.Reply.{Reply}
use Rattle.calls.specs.declared.reply.Reply.TheVariants.{Coordinator as from_coordinator, Shard as from_shard}
use Rattle.calls.specs.declared.reply.CoordinatorReply.TheVariants as told
use Rattle.calls.specs.declared.reply.ShardReply.TheVariants as told_by
use Rattle.calls.proofs.Belonging.{to_call}
use Rattle.catch_up.proofs.Fitting as caught
use Rattle.care_flow.specs.CatchUps.{AsksToCatchUp, on_its_way}
use Rattle.care_flow.specs.Collecting as collecting
use Rattle.care_flow.specs.Flushing as flushing
use Rattle.care_flow.specs.Learning as learning
use Rattle.care_flow.specs.Raising as raising
use Rattle.care_flow.specs.Resolving as resolving
use Rattle.care_flow.specs.Views.{CareView, out}
use Rattle.care_flow.specs.Cares.{Answered, Awaits, IsThere, NextCall}
use Rattle.care_flow.specs.declared.care.CareFlow.{CareFlow}
use Rattle.care_flow.specs.declared.care.CareFlow.TheVariants.{Flush, Learn, Resolve, Raise, Collect}

same_call : (x y : NodeCall) → Some x ≡ Some y → x ≡ y
same_call x y is = cc

no_call : (x : NodeCall) → Some x ≡ None → ⊥
no_call x is = cc

-- the view after a call is the one that waits
waits : {H S : Type 0} (F : S → Reply → Type 0) (after : CareView H S) (h : H) (step : S) (reply : Reply)
    → after ≡ out h step → F step reply → MatchOption after.awaited ⊥ (λ s. F s reply)
waits {H} {S} F after h step reply is fit = subst (λ (v : CareView H S). MatchOption v.awaited ⊥ (λ s. F s reply)) (sym is) fit

-- what comes next is asked
asks_next : {H S : Type 0} (A : S → NodeCall → CareView H S → Type 0) (next : Option S) (call : NodeCall) (old new : CareView H S)
    → MatchOption next ((Some call ≡ None) × (new ≡ old)) (λ step. MatchOption (Some call) ⊥ (λ c. A step c new))
    → (P : Type 0) → ((step : S) → A step call new → P) → P
asks_next A None call old new h P f = absurd (no_call call h.0)
asks_next A (Some step) call old new h P f = f step h

flush_fits : (is_checkpoint : Bool) (node : NodeName) (reply : Reply) → IsReplyTo (flushing.flush_of is_checkpoint node) reply → flushing.Fits is_checkpoint node reply
flush_fits false nodes.Coordinator (from_coordinator (told.Flush r)) b = tt
flush_fits false (nodes.Shard s) (from_shard (told_by.Flush r)) b = tt
flush_fits true nodes.Coordinator (from_coordinator (told.Checkpoint r)) b = tt
flush_fits true (nodes.Shard s) (from_shard (told_by.Checkpoint r)) b = tt
flush_fits is_checkpoint node reply b = absurd b

flush_waits : (next : Option flushing.FlushStep) (old new : flushing.FlushFlowValue) (call : NodeCall) (reply : Reply) → new.node ≡ old.node → new.is_checkpoint ≡ old.is_checkpoint
    → MatchOption next ((Some call ≡ None) × (new.seen ≡ old.seen)) (λ step. (Some call ≡ Some (flushing.flush_of old.is_checkpoint old.node)) × (new.seen ≡ out tt flushing.flush))
    → IsReplyTo call reply → flushing.Awaits new reply
flush_waits None old new call reply same kind h b = absurd (no_call call h.0)
flush_waits (Some step) old new call reply same kind h b =
    let asked = flushing.flush_of old.is_checkpoint old.node in
    let fit = flush_fits old.is_checkpoint old.node reply (to_call call asked reply (same_call call asked h.0) b) in
    let of_node = subst (λ (n : NodeName). flushing.Fits old.is_checkpoint n reply) (sym same) fit in
    waits (λ s r. flushing.Fits new.is_checkpoint new.node r) new.seen tt flushing.flush reply h.1 (subst (λ (x : Bool). flushing.Fits x new.node reply) (sym kind) of_node)

learn_ask_fits : (reply : Reply) → IsReplyTo (of_coordinator coordinator_calls.Heads) reply → learning.Fits learning.ask reply
learn_ask_fits (from_coordinator (told.Heads r)) b = tt
learn_ask_fits reply b = absurd b

learn_caught : (s : ℕ) (h : HeadsHeld) (heads : Option HeadsValue) (call : NodeCall) (after : learning.LearnView) (reply : Reply)
    → MatchOption heads ⊥ (λ x. AsksToCatchUp (on_its_way s x.kept h.batch) call (λ batch awaited. after ≡ out (record h { batch = batch }) (learning.catch_up (Some awaited))))
    → IsReplyTo call reply → MatchOption after.awaited ⊥ (λ step. learning.Fits step reply)
learn_caught s h None call after reply a b = absurd a
learn_caught s h (Some x) call after reply a b =
    waits learning.Fits after (record h { batch = a.0.held.batch }) (learning.catch_up (Some a.0.awaited)) reply a.2 (caught.fits (record (on_its_way s x.kept h.batch) { next = name_of call; from = a.1.0; flushed = a.1.1 }) call reply a.0 a.1.2 b)

learn_fits : (s : ℕ) (h : HeadsHeld) (step : learning.LearnStep) (call : NodeCall) (after : learning.LearnView) (reply : Reply)
    → learning.Asks s h step call after → IsReplyTo call reply → MatchOption after.awaited ⊥ (λ step. learning.Fits step reply)
learn_fits s h learning.ask call after reply a b = waits learning.Fits after h learning.ask reply a.1 (learn_ask_fits reply (to_call call (of_coordinator coordinator_calls.Heads) reply a.0 b))
learn_fits s h (learning.catch_up is_out) call after reply a b = learn_caught s h h.heads call after reply a b

in_doubt_fits : (s : ℕ) (reply : Reply) → IsReplyTo (of_shard s shard_calls.InDoubt) reply → resolving.Fits resolving.in_doubt reply
in_doubt_fits s (from_shard (told_by.InDoubt r)) b = tt
in_doubt_fits s reply b = absurd b

inquire_fits : (id : WriteId) (reply : Reply) → IsReplyTo (of_coordinator (coordinator_calls.Inquire id)) reply → resolving.Fits (resolving.inquire id) reply
inquire_fits id (from_coordinator (told.Inquire r)) b = tt
inquire_fits id reply b = absurd b

drop_fits : (s : ℕ) (verdict : _) (reply : Reply) → IsReplyTo (of_shard s (shard_calls.DropWrite verdict None)) reply → resolving.Fits resolving.drop_write reply
drop_fits s verdict (from_shard (told_by.DropWrite back r)) b = tt
drop_fits s verdict reply b = absurd b

resolve_fits : (s : ℕ) (h : ResolveHolds) (step : resolving.ResolveStep) (call : NodeCall) (after : resolving.ResolveView) (reply : Reply)
    → resolving.Asks s h step call after → IsReplyTo call reply → MatchOption after.awaited ⊥ (λ step. resolving.Fits step reply)
resolve_fits s h resolving.in_doubt call after reply a b = waits resolving.Fits after h resolving.in_doubt reply a.1 (in_doubt_fits s reply (to_call call _ reply a.0 b))
resolve_fits s h (resolving.inquire id) call after reply a b = waits resolving.Fits after h (resolving.inquire id) reply a.1 (inquire_fits id reply (to_call call _ reply a.0 b))
resolve_fits s h (resolving.catch_up to is_out) call after reply a b =
    waits resolving.Fits after (record h { batch = a.1.0.held.batch }) (resolving.catch_up to (Some a.1.0.awaited)) reply a.1.2 (caught.fits (record (on_its_way s to h.batch) { next = name_of call; from = a.1.1.0; flushed = a.1.1.1 }) call reply a.1.0 a.1.1.2 b)
resolve_fits s h resolving.drop_write call after reply a b =
    waits resolving.Fits after (record h { verdict = None }) resolving.drop_write reply a.3 (drop_fits s a.0 reply (to_call call _ reply a.2 b))

collect_ask_fits : (reply : Reply) → IsReplyTo (of_coordinator coordinator_calls.Heads) reply → collecting.Fits collecting.ask reply
collect_ask_fits (from_coordinator (told.Heads r)) b = tt
collect_ask_fits reply b = absurd b

collects_fits : (s : ℕ) (again : _) (heads : HeadsValue) (reply : Reply) → IsReplyTo (of_shard s (shard_calls.Collect heads)) reply → collecting.Fits (collecting.collect again) reply
collects_fits s again heads (from_shard (told_by.Collect back r)) b = tt
collects_fits s again heads reply b = absurd b

collect_flushed : (s : ℕ) (reply : Reply) → IsReplyTo (of_shard s shard_calls.Flush) reply → collecting.Fits collecting.flush reply × collecting.Fits collecting.flush_to_collect reply
collect_flushed s (from_shard (told_by.Flush r)) b = (tt, tt)
collect_flushed s reply b = absurd b

collects : (s : ℕ) (h : HeadsHeld) (again : _) (heads : Option HeadsValue) (call : NodeCall) (after : collecting.CollectView) (reply : Reply)
    → MatchOption heads ⊥ (λ x. (call ≡ of_shard s (shard_calls.Collect x)) × (after ≡ out (record h { heads = None }) (collecting.collect again)))
    → IsReplyTo call reply → MatchOption after.awaited ⊥ (λ step. collecting.Fits step reply)
collects s h again None call after reply a b = absurd a
collects s h again (Some x) call after reply a b =
    waits collecting.Fits after (record h { heads = None }) (collecting.collect again) reply a.1 (collects_fits s again x reply (to_call call _ reply a.0 b))

collect_fits : (s : ℕ) (h : HeadsHeld) (step : collecting.CollectStep) (call : NodeCall) (after : collecting.CollectView) (reply : Reply)
    → collecting.Asks s h step call after → IsReplyTo call reply → MatchOption after.awaited ⊥ (λ step. collecting.Fits step reply)
collect_fits s h collecting.ask call after reply a b = waits collecting.Fits after h collecting.ask reply a.1 (collect_ask_fits reply (to_call call _ reply a.0 b))
collect_fits s h (collecting.collect again) call after reply a b = collects s h again h.heads call after reply a b
collect_fits s h collecting.flush_to_collect call after reply a b = let fit = collect_flushed s reply (to_call call (of_shard s shard_calls.Flush) reply a.0 b) in waits collecting.Fits after h collecting.flush_to_collect reply a.1 fit.1
collect_fits s h collecting.flush call after reply a b = let fit = collect_flushed s reply (to_call call (of_shard s shard_calls.Flush) reply a.0 b) in waits collecting.Fits after h collecting.flush reply a.1 fit.0

module _ (n place : ℕ) where
  raise_ask_fits : (reply : Reply) → IsReplyTo (of_coordinator coordinator_calls.Heads) reply → raising.Fits n place raising.ask reply
  raise_ask_fits (from_coordinator (told.Heads r)) b = tt
  raise_ask_fits reply b = absurd b

  raise_flushed : (reply : Reply) → IsReplyTo (of_coordinator coordinator_calls.Flush) reply
      → raising.Fits n place raising.flush_to_ask reply × raising.Fits n place raising.flush_to_raise reply × raising.Fits n place raising.flush_raised reply
  raise_flushed (from_coordinator (told.Flush r)) b = (tt, tt, tt)
  raise_flushed reply b = absurd b

  shard_flushed : (s : ℕ) (reply : Reply) → IsReplyTo (of_shard s shard_calls.Flush) reply → raising.Fits n place (raising.flush s) reply
  shard_flushed s (from_shard (told_by.Flush r)) b = tt
  shard_flushed s reply b = absurd b

  settle_fits : (s : ℕ) (reply : Reply) → IsReplyTo (of_shard s shard_calls.Settle) reply → raising.Fits n place (raising.settle s) reply
  settle_fits s (from_shard (told_by.Settle r)) b = tt
  settle_fits s reply b = absurd b

  settled_back : (settled : _) (r : Result (Unit {0}) NotRaised) → HaveSettled n place settled → GivesSettledBack settled r → IfErr r (λ back. HaveSettled n place back.settled.items)
  settled_back settled (Ok done) have b = tt
  settled_back settled (Err e) have b = subst (HaveSettled n place) (sym b) have

  raises_fits : (again : _) (all : Vec SettledValue) (reply : Reply) → HaveSettled n place all.items
      → IsReplyTo (of_coordinator (coordinator_calls.Raise place all)) reply → raising.Fits n place (raising.raise again) reply
  raises_fits again all (from_coordinator (told.Raise r)) have b = settled_back all.items r have b
  raises_fits again all reply have b = absurd b

  raise_caught : (s : ℕ) (h : RaiseHolds) (heads : Option HeadsValue) (call : NodeCall) (after : raising.RaiseView) (reply : Reply)
      → MatchOption heads ⊥ (λ x. AsksToCatchUp (on_its_way s x.kept h.batch) call (λ batch awaited. after ≡ out (record h { batch = batch }) (raising.catch_up s (Some awaited))))
      → IsReplyTo call reply → MatchOption after.awaited ⊥ (λ step. raising.Fits n place step reply)
  raise_caught s h None call after reply a b = absurd a
  raise_caught s h (Some x) call after reply a b =
      waits (raising.Fits n place) after (record h { batch = a.0.held.batch }) (raising.catch_up s (Some a.0.awaited)) reply a.2 (caught.fits (record (on_its_way s x.kept h.batch) { next = name_of call; from = a.1.0; flushed = a.1.1 }) call reply a.0 a.1.2 b)

  raise_fits : (h : RaiseHolds) (step : raising.RaiseStep) (call : NodeCall) (after : raising.RaiseView) (reply : Reply)
      → raising.Asks n place h step call after → IsReplyTo call reply → MatchOption after.awaited ⊥ (λ step. raising.Fits n place step reply)
  raise_fits h raising.ask call after reply a b = waits (raising.Fits n place) after h raising.ask reply a.1 (raise_ask_fits reply (to_call call _ reply a.0 b))
  raise_fits h raising.flush_to_ask call after reply a b =
      let fit = raise_flushed reply (to_call call (of_coordinator coordinator_calls.Flush) reply a.0 b) in waits (raising.Fits n place) after h raising.flush_to_ask reply a.1 fit.0
  raise_fits h (raising.catch_up s is_out) call after reply a b = raise_caught s h h.heads call after reply a b
  raise_fits h (raising.flush s) call after reply a b = waits (raising.Fits n place) after h (raising.flush s) reply a.1 (shard_flushed s reply (to_call call _ reply a.0 b))
  raise_fits h (raising.settle s) call after reply a b = waits (raising.Fits n place) after h (raising.settle s) reply a.1 (settle_fits s reply (to_call call _ reply a.0 b))
  raise_fits h (raising.raise again) call after reply a b =
      waits (raising.Fits n place) after (record h { settled = [] }) (raising.raise again) reply a.1.3 (
      raises_fits again a.1.0 reply (subst (HaveSettled n place) (sym a.1.1) a.0) (to_call call _ reply a.1.2 b)
      )
  raise_fits h raising.flush_to_raise call after reply a b =
      let fit = raise_flushed reply (to_call call (of_coordinator coordinator_calls.Flush) reply a.0 b) in waits (raising.Fits n place) after h raising.flush_to_raise reply a.1 fit.1
  raise_fits h raising.flush_raised call after reply a b =
      let fit = raise_flushed reply (to_call call (of_coordinator coordinator_calls.Flush) reply a.1 b) in waits (raising.Fits n place) after h raising.flush_raised reply a.2 fit.2

raise_awaits : (old new : raising.RaiseFlowValue) (reply : Reply) → new.shards ≡ old.shards → new.place ≡ old.place
    → MatchOption new.seen.awaited ⊥ (λ step. raising.Fits old.shards old.place step reply) → raising.Awaits new reply
raise_awaits old new reply shards place h =
    let here = subst (λ (n : ℕ). MatchOption new.seen.awaited ⊥ (λ step. raising.Fits n old.place step reply)) (sym shards) h in
    subst (λ (p : ℕ). MatchOption new.seen.awaited ⊥ (λ step. raising.Fits new.shards p step reply)) (sym place) here

-- the reply to the call is one that the care waits for
pub awaits : (old new : CareFlow) (call : NodeCall) (reply : Reply) → NextCall old (Some call) new → IsReplyTo call reply → Awaits new reply
awaits (Flush old) (Flush new) call reply h b = flush_waits old.seen.next old new call reply h.0 h.1 h.2 b
awaits (Learn old) (Learn new) call reply h b =
    asks_next (learning.Asks old.shard old.seen.holds) old.seen.next call old.seen new.seen h.1 (learning.Awaits new reply) (λ step a. learn_fits old.shard old.seen.holds step call new.seen reply a b)
awaits (Resolve old) (Resolve new) call reply h b =
    asks_next (resolving.Asks old.shard old.seen.holds) old.seen.next call old.seen new.seen h.2 (resolving.Awaits new reply) (λ step a. resolve_fits old.shard old.seen.holds step call new.seen reply a b)
awaits (Raise old) (Raise new) call reply h b =
    raise_awaits old new reply h.0 h.1 (asks_next (raising.Asks old.shards old.place old.seen.holds) old.seen.next call old.seen new.seen h.2 _ (λ step a. raise_fits old.shards old.place old.seen.holds step call new.seen reply a b))
awaits (Collect old) (Collect new) call reply h b =
    asks_next (collecting.Asks old.shard old.seen.holds) old.seen.next call old.seen new.seen h.1 (collecting.Awaits new reply) (λ step a. collect_fits old.shard old.seen.holds step call new.seen reply a b)
awaits old new call reply h b = absurd h

-- a care stays one of nodes that are there
pub there_next : (n : ℕ) (old new : CareFlow) (call : Option NodeCall) → NextCall old call new → IsThere n old → IsThere n new
there_next n (Flush old) (Flush new) call h is = subst (λ (x : NodeName). flushing.IsThere n x) (sym h.0) is
there_next n (Learn old) (Learn new) call h is = subst (λ (s : ℕ). s < n) (sym h.0) is
there_next n (Resolve old) (Resolve new) call h is = subst (λ (s : ℕ). s < n) (sym h.0) is
there_next n (Raise old) (Raise new) call h is = subst (λ (s : ℕ). s ≡ n) (sym h.0) is
there_next n (Collect old) (Collect new) call h is = subst (λ (s : ℕ). s < n) (sym h.0) is
there_next n old new call h is = absurd h

pub there_given : (n : ℕ) (old new : CareFlow) (reply : Reply) → Answered old reply new → IsThere n old → IsThere n new
there_given n (Flush old) (Flush new) reply h is = subst (λ (x : NodeName). flushing.IsThere n x) (sym h.0) is
there_given n (Learn old) (Learn new) reply h is = subst (λ (s : ℕ). s < n) (sym h.0) is
there_given n (Resolve old) (Resolve new) reply h is = subst (λ (s : ℕ). s < n) (sym h.0) is
there_given n (Raise old) (Raise new) reply h is = subst (λ (s : ℕ). s ≡ n) (sym h.0) is
there_given n (Collect old) (Collect new) reply h is = subst (λ (s : ℕ). s < n) (sym h.0) is
there_given n old new reply h is = absurd h

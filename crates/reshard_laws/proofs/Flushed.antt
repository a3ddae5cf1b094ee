-- A flush of the coordinator that told its end: all of the list is kept.
use Rattle.std.proofs.Common.{◌≡◌, ◌⊎◌, inl, inr, ⊎_elim, ℕ, List, [], ◌∷◌, Option, Some, None, length, refl, sym, ◌∙◌, ap, subst, arith}
use Rattle.reshard_laws.proofs.Words.{answered, Asked, began, Begins, care_for, Coordinator, coordinator, EndsAs, flow_at, flow_count, Flush, IfRunning, IsAsked, IsIdle, KeepsList, Moment, NamesHorizon, Running, Shows, StandsOver, State, StepsKeep, Store, Told, Turn, Turns, What, WorldView}
use Rattle.cluster.specs.declared.event.Answer.{Answer as AnyAnswer}
use Rattle.cluster.specs.declared.event.Answer.TheVariants.{Checked, Done, Listed, Resolved, Selected, Wrote}
use Rattle.cluster.specs.declared.event.What.TheVariants.{Began, Ended}
use Rattle.headline.specs.Told.{answer_of}
use Rattle.reshard.specs.Caring.{Cares, IsCaredFor, Serves, TurnsOf}
use Rattle.reshard.proofs.Caring.{nothing_done}
use Rattle.stores.specs.Flows.{to_flush}
use Rattle.stores.specs.Replies.{Agrees}
use Rattle.turns.proofs.Chains.{same_told}
use Rattle.reshard_laws.specs.Cared.{CaresKeepTheList, FlushedListsAreKept}
use Rattle.reshard_laws.proofs.Cares.{AreNoWrites, Cared, all_steps, each_turned, nothing_yet, one_step, ran}
use Rattle.reshard_laws.proofs.Flows.{Each, each_at, none_running}

abbrev pub IsFlush : Asked → Type 0
IsFlush asked = asked ≡ to_flush coordinator

-- the end of a flush of the coordinator
flush_agrees : (r : Running) (after : Moment) (a : AnyAnswer) → Agrees r after (to_flush coordinator) (answer_of a) → after.machine.kept ≡ length after.machine.log
flush_agrees r after (Wrote place) agrees = absurd agrees
flush_agrees r after (Selected place sets) agrees = absurd agrees
flush_agrees r after (Checked place is_member) agrees = absurd agrees
flush_agrees r after (Listed place all) agrees = absurd agrees
flush_agrees r after (Resolved found) agrees = absurd agrees
flush_agrees r after Done agrees = agrees

module _ (shards : ℕ) (found : ℕ → Type 0) (before after : Moment) (tells : List Told) where
  -- a flow that was asked for it alone began
  begins_flush : before.running ≡ [] → (slot : ℕ) → tells ≡ began slot ∷ []
      → (IsAsked shards (to_flush coordinator) × Begins shards found before (to_flush coordinator) tells after) ⊎ ((IsAsked shards (to_flush coordinator) → ⊥) × IsIdle shards found before tells after)
      → Each IsFlush after.running
  begins_flush none slot is (inl (asks, inl b)) = subst (λ (m : Moment). Each IsFlush m.running) (sym b.4) (refl, subst (Each IsFlush) (sym none) tt)
  begins_flush none slot is (inl (asks, inr full)) = subst (λ (m : Moment). Each IsFlush m.running) (sym full.2) (subst (Each IsFlush) (sym none) tt)
  begins_flush none slot is (inr (asks_not, idle)) = subst (λ (m : Moment). Each IsFlush m.running) (sym idle.1) (subst (Each IsFlush) (sym none) tt)

  -- and answered
  ends_flush : (slot : ℕ) (a : AnyAnswer) → Each IsFlush before.running → tells ≡ answered (answer_of a) ∷ [] → (o : Option Running) → flow_at slot before.running ≡ o
      → IfRunning shards found (Turns shards found) o before tells after → after.machine.kept ≡ length after.machine.log
  ends_flush slot a each is None at idle = absurd (let bad : answered (answer_of a) ∷ [] ≡ [] = sym is ∙ idle.0 in cc)
  ends_flush slot a each is (Some r) at t = ⊎_elim
      (λ loud.
      let told : loud.1.0 ∷ [] ≡ answered (answer_of a) ∷ [] = sym loud.1.1 ∙ is in
      let same : loud.1.0 ≡ answered (answer_of a) = cc in
      let ends : EndsAs shards found before t.later after (answered (answer_of a)) = subst (EndsAs shards found before t.later after) same loud.1.2 in
      flush_agrees t.later after a (subst (λ (x : Asked). Agrees t.later after x (answer_of a)) (t.turned.asked ∙ each_at IsFlush slot before.running r each at) ends.0))
      (λ silent. absurd (let bad : answered (answer_of a) ∷ [] ≡ [] = sym is ∙ silent.1 in cc))
      t.tells

module _ {D : Type 0} (state : D → State) (honest : D → Type 0) (moment : D → ℕ) (left_since : D → ℕ → List ℕ → Type 0) (keep : StepsKeep state honest moment left_since) where
  module _ (store shards : ℕ) (s : Store D) (now : Moment) where
    abbrev CaredAt : WorldView D → Type 0
    CaredAt = Cared state honest moment left_since keep store shards s now

    -- a flush of the coordinator is all that runs
    record Flushes (w : WorldView D) : Type 0 where
      cared : CaredAt w
      flush : Each IsFlush cared.keeps.after.running

    turns_flush : (slot : ℕ) (all : List (Option What)) (old new : WorldView D) → TurnsOf state honest moment left_since slot all old new → Flushes old → Flushes new
    turns_flush slot [] old new is f = subst Flushes (sym is) f
    turns_flush slot (told ∷ before) old new (mid, turns, takes) f =
        let g = turns_flush slot before old mid turns f in
        let r = ran state honest moment left_since keep store shards s now mid new g.cared (Turn slot) told tt takes in
        record {
          cared = one_step state honest moment left_since keep store shards s now mid new g.cared (Turn slot) told tt takes;
          flush = each_turned shards (NamesHorizon state honest store shards g.cared.keeps.later g.cared.keeps.after) g.cared.keeps.after IsFlush slot r.after g.flush r.told
              (flow_at slot g.cared.keeps.after.running) refl r.takes;
        }

    -- the world after it, at a moment at which all is kept
    abbrev pub Flushed : WorldView D → Type 0
    Flushed w = (c : CaredAt w) × (c.keeps.after.machine.kept ≡ length c.keeps.after.machine.log)

    flushed : (old new : WorldView D) (c : CaredAt old) → c.keeps.after.running ≡ [] → Serves state honest moment left_since (Flush Coordinator) old new → Flushed new
    flushed old new c none serves =
        let first = one_step state honest moment left_since keep store shards s now old serves.begun c (care_for (Flush Coordinator)) (Some (Began serves.slot)) tt serves.begins in
        let r = ran state honest moment left_since keep store shards s now old serves.begun c (care_for (Flush Coordinator)) (Some (Began serves.slot)) tt serves.begins in
        let began_one = begins_flush shards (NamesHorizon state honest store shards c.keeps.later c.keeps.after) c.keeps.after r.after r.told none serves.slot
        (same_told 0 (began serves.slot ∷ []) r.told r.tells) r.takes in
        let g = turns_flush serves.slot serves.before serves.begun serves.turns.0 serves.turns.1 (record { cared = first; flush = began_one }) in
        let l = ran state honest moment left_since keep store shards s now serves.turns.0 new g.cared (Turn serves.slot) (Some (Ended serves.answer)) tt serves.turns.2 in (
          one_step state honest moment left_since keep store shards s now serves.turns.0 new g.cared (Turn serves.slot) (Some (Ended serves.answer)) tt serves.turns.2,
          ends_flush shards (NamesHorizon state honest store shards g.cared.keeps.later g.cared.keeps.after) g.cared.keeps.after l.after l.told serves.slot serves.answer g.flush
              (same_told 0 (answered (answer_of serves.answer) ∷ []) l.told l.tells) (flow_at serves.slot g.cared.keeps.after.running) refl l.takes,
        )

  module _ (old new : WorldView D) (s : Store D) (now : Moment) (shows : Shows old s) (quiet : flow_count old.flows ≡ 0) (stands : StandsOver state honest old.store old.shards s now) where
    none : now.running ≡ []
    none = none_running state honest old.store old.shards old s now shows stands quiet

    abbrev first : Cared state honest moment left_since keep old.store old.shards s now old
    first = nothing_yet state honest moment left_since keep old.store old.shards s now old shows stands refl refl (subst AreNoWrites (sym none) tt)

    keeps_list : Cares state honest moment left_since old new → KeepsList state honest moment left_since old.store old.shards s now new
    keeps_list cares = (all_steps state honest moment left_since keep old.store old.shards s now 0 cares.steps cares.events old new cares.caring cares.took first).0.keeps

    pub keeps_all : IsCaredFor state honest moment left_since old new → (k : KeepsList state honest moment left_since old.store old.shards s now new) × (k.after.machine.kept ≡ length k.after.machine.log)
    keeps_all cared =
        let f = flushed old.store old.shards s now old cared.flushed first none cared.first in
        let cares = cared.rest cared.flushed (nothing_done state honest moment left_since cared.flushed) in
        let rest = all_steps state honest moment left_since keep old.store old.shards s now 0 cares.steps cares.events cared.flushed new cares.caring cares.took f.0 in
        let then = rest.0.keeps.after.machine in
        let long : length then.log ≡ length f.0.keeps.after.machine.log = ap (λ l. length l) rest.1.log in
        let on = rest.1.kept in
        let whole = f.1 in
        let within = rest.0.keeps.stands.stands.rests.within in
        (rest.0.keeps, omega (arith, long, on, whole, within))

  pub cares_keep_the_list : CaresKeepTheList state honest moment left_since
  cares_keep_the_list old new s now shows quiet stands cares = keeps_list old new s now shows quiet stands cares

  pub flushed_lists_are_kept : FlushedListsAreKept state honest moment left_since
  flushed_lists_are_kept old new s now shows quiet stands cared = keeps_all old new s now shows quiet stands cared

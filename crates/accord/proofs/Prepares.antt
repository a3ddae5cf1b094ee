-- A shard stages a prepare: all nodes agree on the list as it is.
use Rattle.std.proofs.Common.{◌≡◌, ◌≢◌, ◌⊎◌, inl, inr, ⊎_elim, ℕ, ◌<◌, ◌≤◌, Bool, true, List, [], ◌∷◌, ◌++◌, length, Some, None, Contains, refl, sym, ◌∙◌, ap, subst, cond, arith}
use Rattle.std.proofs.lemmas.Bool.{eq-eqb, ne_eqb}
use Rattle.tuples.specs.declared.entry.Entry.{Entry}
use Rattle.tuples.specs.declared.entry.WriteId.{WriteId}
use Rattle.tuples.specs.Log.{HoldAfter}
use Rattle.tuples.specs.Parts.{part, takes_part}
use Rattle.records.specs.declared.record.Record.{Record}
use Rattle.records.specs.declared.record.Record.TheVariants.{Prepare}
use Rattle.records.specs.Coordinators.{coordinator_state}
use Rattle.records.specs.Replays.{IsShardImage, ShardState, find_in_doubt, shard_state, shard_step}
use Rattle.replay.proofs.Doubts.{cases_id, find_put, find_put_same}
use Rattle.replay.proofs.States.{shard_push}
use Rattle.shard.proofs.Tested.{same_part_id}
use Rattle.laws.specs.LogLaws.{IsUnlisted}
use Rattle.laws.specs.Shards.{ShardMeans}
use Rattle.laws.specs.Worlds.{Means, Rests, shard_node}
use Rattle.laws.proofs.LessLeft.{whole_rests}
use Rattle.laws.proofs.Locks.{same_or_not}
use Rattle.laws.proofs.PreparableConditions.{preparable_conditions_hold}
use Rattle.laws.proofs.PrepareStep.{prepared_means}
use Rattle.laws.proofs.ShardSteps.{prepares_rest}
use Rattle.accord.specs.declared.parts.LogPart.{LogPart}
use Rattle.accord.specs.declared.parts.ShardPart.{ShardPart}
use Rattle.accord.specs.Agreeing.{Agree, AllNodes, IsUndecided, IsVoted, log_leaves, shard_leaves}
use Rattle.accord.specs.Shards.{Prepares, PreparesAgree, VotesStayAtPrepares, with_known, with_prepare}

module _ (store shards : ℕ) (n : AllNodes) (s : ℕ) (w : Entry) (a : Agree store shards n) (d : Prepares store shards n s w) where
  abbrev c : LogPart
  c = n.coordinator

  abbrev p : Entry
  p = part shards s w

  abbrev memory : List Record
  memory = (n.shard s).known

  abbrev longer : List Record
  longer = memory ++ Prepare p ∷ []

  abbrev after : ℕ → ShardPart
  after = (with_prepare n s p).shard

  here : after s ≡ with_known (n.shard s) (Prepare p)
  here = ap (λ (b : Bool). cond b (with_known (n.shard s) (Prepare p)) (n.shard s)) (eq-eqb s s refl)

  other : (t : ℕ) → t ≢ s → after t ≡ n.shard t
  other t ne = ap (λ (b : Bool). cond b (with_known (n.shard s) (Prepare p)) (n.shard t)) (ne_eqb t s ne)

  memory_left : shard_leaves n.shard s memory
  memory_left = inr (d.up, refl)

  -- a stop leaves what it could leave, or at this shard the longer list
  left_now : (t : ℕ) (found : List Record) → shard_leaves after t found → shard_leaves n.shard t found ⊎ ((t ≡ s) × (found ≡ longer))
  left_now t found is = ⊎_elim
      (λ (same : t ≡ s).
      let at : after t ≡ with_known (n.shard s) (Prepare p) = ap after same ∙ here in
      ⊎_elim
      (λ old. inl (inl (subst (λ (l : List (List Record)). Contains l found) (ap (λ (x : ShardPart). x.left) at ∙ ap (λ (k : ℕ). (n.shard k).left) (sym same)) old)))
      (λ new. inr (same, new.1 ∙ ap (λ (x : ShardPart). x.known) at))
      is)
      (λ ne. inl (subst (λ (x : ShardPart). Contains x.left found ⊎ ((x.is_up ≡ true) × (found ≡ x.known))) (other t ne) is))
      (same_or_not t s)

  unlisted : IsUnlisted p.id c.log
  unlisted j v is same = d.unlisted j v is (sym (same_part_id shards s w) ∙ same)

  own_epoch : (found : List Record) → log_leaves c found → p.id.epoch ≤ (coordinator_state found).epoch
  own_epoch found is = subst (λ (i : WriteId). i.epoch ≤ (coordinator_state found).epoch) (sym (same_part_id shards s w)) (d.given found is)

  rests : Rests store shards c.log c.kept c.horizon (log_leaves c) (shard_leaves after)
  rests = prepares_rest (log_leaves c) (shard_leaves n.shard) (shard_leaves after) store shards c.log c.kept c.horizon s memory p
      (record { rests = a.rests; here = memory_left; image = d.image; adds = left_now }) unlisted own_epoch

  whole : c.is_up ≡ true → Means store shards c.log c.horizon c.known (shard_leaves after)
  whole up =
      let le : c.horizon ≤ length c.log = omega (arith, a.rests.horizon, a.rests.within) in
      let only = λ (l : List Record). l ≡ c.known in
      (whole_rests (log_leaves c) (log_leaves c) (shard_leaves after) (shard_leaves after) store shards c.log c.horizon c.known a.rests.is_log le).1
      (prepares_rest only (shard_leaves n.shard) (shard_leaves after) store shards c.log (length c.log) c.horizon s memory p
      (record {
        rests = (whole_rests (log_leaves c) (log_leaves c) (shard_leaves n.shard) (shard_leaves n.shard) store shards c.log c.horizon c.known a.rests.is_log le).0 (a.whole up);
        here = memory_left;
        image = d.image;
        adds = left_now;
      })
      unlisted
      (λ found is. own_epoch found (inr (up, is))))

  knows : ShardMeans shards s c.log c.horizon c.horizon (shard_state memory)
  knows = (a.listed s memory d.there memory_left).1

  hold : HoldAfter c.log p.conditions
  hold = preparable_conditions_hold shards s c.log c.horizon c.horizon (shard_state memory) w a.rests.is_log (omega arith) knows d.preparable

  at_longer : shard_state longer ≡ shard_step (shard_state memory) (Prepare p)
  at_longer = shard_push memory (Prepare p)

  means_longer : ShardMeans shards s c.log c.horizon c.horizon (shard_state longer)
  means_longer = subst (ShardMeans shards s c.log c.horizon c.horizon) (sym at_longer) (prepared_means shards s c.log c.horizon c.horizon (shard_state memory) p.id unlisted knows p refl)

  -- of another write the shard has in doubt what it had
  doubt_else : (id : WriteId) → p.id ≢ id → find_in_doubt id (shard_state longer).in_doubt ≡ find_in_doubt id (shard_state memory).in_doubt
  unfolding shard_step
  doubt_else id ne = ap (λ (x : ShardState). find_in_doubt id x.in_doubt) at_longer ∙ find_put id (shard_state memory).in_doubt p ne

  doubt_own : find_in_doubt p.id (shard_state longer).in_doubt ≡ Some p
  unfolding shard_step
  doubt_own = ap (λ (x : ShardState). find_in_doubt p.id x.in_doubt) at_longer ∙ find_put_same (shard_state memory).in_doubt p

  still : (v : Entry) → Contains c.open_writes v → IsUndecided shards (with_prepare n s p) v
  still v is_open =
      let u = a.undecided v is_open in
      record {
        unlisted = u.unlisted;
        exact = λ t found q lt is has. ⊎_elim
            (λ old. u.exact t found q lt old has)
            (λ new. subst (λ (k : ℕ). (takes_part shards k v ≡ true) × (q ≡ part shards k v) × HoldAfter c.log q.conditions) (sym new.0) (⊎_elim
            (λ (same : p.id ≡ v.id).
            let is_w : v ≡ w = d.own v is_open (sym same ∙ same_part_id shards s w) in
            let both : Some q ≡ Some p = sym has ∙ ap (λ (l : List Record). find_in_doubt v.id (shard_state l).in_doubt) new.1 ∙ ap (λ (i : WriteId). find_in_doubt i (shard_state longer).in_doubt) (sym same) ∙ doubt_own in
            let is_p : q ≡ p = cc in (
              subst (λ (x : Entry). takes_part shards s x ≡ true) (sym is_w) d.takes,
              is_p ∙ ap (part shards s) (sym is_w),
              subst (λ (x : Entry). HoldAfter c.log x.conditions) (sym is_p) hold,
            ))
            (λ ne. u.exact s memory q d.there memory_left (sym (doubt_else v.id ne) ∙ ap (λ (l : List Record). find_in_doubt v.id (shard_state l).in_doubt) (sym new.1) ∙ has))
            (cases_id p.id v.id)))
            (left_now t found is);
      }

  agree : Agree store shards (with_prepare n s p)
  agree = record {
    rests = rests;
    whole = whole;
    listed = λ t found lt is. ⊎_elim
        (λ old. a.listed t found lt old)
        (λ new. subst (λ (k : ℕ). IsShardImage (shard_node store shards k) found × ShardMeans shards k c.log c.horizon c.horizon (shard_state found)) (sym new.0)
        (subst (λ (l : List Record). IsShardImage (shard_node store shards s) l × ShardMeans shards s c.log c.horizon c.horizon (shard_state l)) (sym new.1) (d.image, means_longer)))
        (left_now t found is);
    some = λ t lt. ⊎_elim
        (λ (same : t ≡ s).
        let at : after t ≡ with_known (n.shard s) (Prepare p) = ap after same ∙ here in
        ((after t).known, inr (ap (λ (x : ShardPart). x.is_up) at ∙ d.up, refl)))
        (λ ne. let f = a.some t lt in (f.0, subst (λ (x : ShardPart). Contains x.left f.0 ⊎ ((x.is_up ≡ true) × (f.0 ≡ x.known))) (sym (other t ne)) f.1))
        (same_or_not t s);
    distinct = a.distinct;
    undecided = still;
  }

  -- what was voted for is of another write, since this one is not in doubt yet
  votes : (t : ℕ) (id : WriteId) → t < shards → IsVoted shards n t id → IsVoted shards (with_prepare n s p) t id
  votes t id lt voted v is_open same found is = ⊎_elim
      (λ old. voted v is_open same found old)
      (λ new. ⊎_elim
      (λ (own : p.id ≡ id).
      let had : find_in_doubt id (shard_state memory).in_doubt ≡ Some (part shards t v) = voted v is_open same memory (subst (λ (k : ℕ). shard_leaves n.shard k memory) (sym new.0) memory_left) in
      let none : find_in_doubt p.id (shard_state memory).in_doubt ≡ None = d.preparable.free.new in
      let both : Some (part shards t v) ≡ None = sym had ∙ ap (λ (i : WriteId). find_in_doubt i (shard_state memory).in_doubt) (sym own) ∙ none in
      absurd cc)
      (λ ne. ap (λ (l : List Record). find_in_doubt id (shard_state l).in_doubt) new.1 ∙ doubt_else id ne ∙ voted v is_open same memory (subst (λ (k : ℕ). shard_leaves n.shard k memory) (sym new.0) memory_left))
      (cases_id p.id id))
      (left_now t found is)

pub prepares_agree : PreparesAgree
prepares_agree store shards n s w a d = agree store shards n s w a d

pub votes_stay_at_prepares : VotesStayAtPrepares
votes_stay_at_prepares store shards n s w t id a d lt voted = votes store shards n s w a d t id lt voted

-- The coordinator comes up again: the list is cut to what was found, and all of that is kept.
use Rattle.std.proofs.Common.{◌≡◌, inl, inr, ⊎_elim, ℕ, ◌≤◌, List, [], ◌∷◌, ◌++◌, length, take, Contains, sym, subst, arith}
use Rattle.std.proofs.lemmas.List.{length-take-le}
use Rattle.std.proofs.lemmas.List.Elements.{Contains-push_cases}
use Rattle.records.specs.declared.record.Record.{Record}
use Rattle.records.specs.declared.record.Record.TheVariants.{Epoch}
use Rattle.records.specs.Coordinators.{coordinator_state, end_of}
use Rattle.records.specs.Identity.{coordinator_number}
use Rattle.laws.specs.Worlds.{Means, Rests}
use Rattle.laws.proofs.CoordinatorSteps.{restarts_rest}
use Rattle.laws.proofs.LessLeft.{horizon_rises, raised_means}
use Rattle.accord.specs.declared.parts.LogPart.{LogPart}
use Rattle.accord.specs.Agreeing.{Agree, AllNodes, log_leaves, shard_leaves}
use Rattle.accord.specs.Coordinators.{Opens, OpeningsAgree, with_opening}

module _ (store shards : ℕ) (n : AllNodes) (found : List Record) (epoch : ℕ) (a : Agree store shards n) (d : Opens store shards n found epoch) where
  abbrev c : LogPart
  c = n.coordinator

  abbrev records : List Record
  records = found ++ Epoch epoch store shards coordinator_number ∷ []

  abbrev later : AllNodes
  later = with_opening store shards n found epoch

  abbrev end : ℕ
  end = end_of (coordinator_state found)

  abbrev horizon : ℕ
  horizon = (coordinator_state records).horizon

  -- a stop leaves the records with the opening alone
  only : (rs : List Record) → log_leaves later.coordinator rs → rs ≡ records
  only rs (inl one) = ⊎_elim (λ (none : Contains [] rs). absurd (omega (arith, none.1))) (λ last. sym last) (Contains-push_cases [] records rs one)
  only rs (inr all) = all.1

  cut : (c.kept ≤ end) × (end ≤ length c.log) × Rests store shards (take end c.log) end c.horizon (log_leaves later.coordinator) (shard_leaves n.shard) × Means store shards (take end c.log) c.horizon records (shard_leaves n.shard)
  cut = restarts_rest (log_leaves c) (log_leaves later.coordinator) (shard_leaves n.shard) store shards c.log c.kept c.horizon found epoch
      (record { rests = a.rests; here = inl d.was_left; image = d.image; adds = λ rs is. inr (only rs is) })
      (λ rs is. inr (only rs is))

  higher : c.horizon ≤ horizon
  higher = cut.3.decided.above

  within : horizon ≤ end
  within = let long = length-take-le end c.log cut.1 in let low = cut.3.decided.within in omega (arith, long, low)

  means : Means store shards (take end c.log) horizon records (shard_leaves n.shard)
  means = raised_means (log_leaves c) (log_leaves c) (shard_leaves n.shard) (shard_leaves n.shard) store shards (take end c.log) c.horizon horizon records higher (omega arith) cut.3

  agree : Agree store shards later
  agree = record {
    rests = horizon_rises (log_leaves later.coordinator) (log_leaves later.coordinator) (shard_leaves n.shard) (shard_leaves n.shard) store shards (take end c.log) end c.horizon horizon higher within
        (λ rs is. let same = only rs is in subst (λ (l : List Record). horizon ≤ (coordinator_state l).horizon) (sym same) (omega arith)) cut.2;
    whole = λ up. means;
    listed = λ s rs lt is. ((a.listed s rs lt is).0, (means.each_shard s rs lt is).means);
    some = a.some;
    distinct = λ i j v w none. absurd cc;
    undecided = λ w has. absurd (omega (arith, has.1));
  }

pub openings_agree : OpeningsAgree
openings_agree store shards n found epoch a d = agree store shards n found epoch a d

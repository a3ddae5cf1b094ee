-- What a shard's records stand for is fit for a checkpoint.
use Rattle.std.proofs.Common.{◌≡◌, ◌≤◌, ◌<◌, ◌+◌, ◌⊎◌, ⊎_elim, ℕ, All, List, [], ◌∷◌, ◌++◌, Option, Some, None, refl, sym, subst, arith, append_assoc}
use Rattle.std.specs.List.{AllByRecursion}
use Rattle.std.proofs.lemmas.List.{append-nil}
use Rattle.std.proofs.lemmas.List.Elements.{All-head, recursion_from_All}
use Rattle.tuples.specs.declared.tuple.Tuple.{Tuple}
use Rattle.tuples.specs.declared.change.Change.{Change}
use Rattle.tuples.specs.declared.entry.Entry.{Entry}
use Rattle.tuples.specs.declared.entry.WriteId.{WriteId}
use Rattle.tuples.specs.declared.version.Version.{Version}
use Rattle.tuples.specs.Changes.{changed, conditioned}
use Rattle.tuples.specs.Parts.{shard_of}
use Rattle.tuples.specs.Versions.{placed}
use Rattle.tuples.proofs.Options.{never_none}
use Rattle.records.specs.declared.mark.Inside.{Inside}
use Rattle.records.specs.declared.mark.Mark.TheVariants.{Begins, Row, Ends}
use Rattle.records.specs.declared.record.PlacedId.{PlacedId}
use Rattle.records.specs.declared.record.Record.{Record}
use Rattle.records.specs.declared.record.Record.TheVariants.{Prepare, Learned, Dropped, Epoch, Decision, Horizon, Checkpoint}
use Rattle.records.specs.Format.{AreRisingTo}
use Rattle.records.specs.Inside.{MayBegin, inside_of, inside_step}
use Rattle.records.specs.Replays.{AskOfLog, BeginsShardImage, Identity, IsShardImage, MayCome, MayComeInside, MayFollow, ShardState, changes_at, find_in_doubt, greatest_number, learned_rows, named, shard_state, shard_step}
use Rattle.records.proofs.Insides.{inside_push}
use Rattle.replay.proofs.Doubting.{AreInOrder, each_append, each_found, each_put, each_without, each_without_all, order_put, order_without, order_without_all}
use Rattle.replay.proofs.Rising.{AreKept, IsKept, RisesFrom, kept_collected, kept_more, kept_row, rises_append, rises_weaker}
use Rattle.replay.proofs.States.{shard_push}

-- a write that this shard may prepare, whatever else it has in doubt
pub record IsOwn (me : Identity) (w : Entry) : Type 0 where
  pub own : All (λ (t : Tuple). shard_of me.shards t.object ≡ me.node) (named w)
  pub some_epoch : 1 ≤ w.id.epoch
  pub epoch : w.id.epoch ≤ greatest_number
  pub some_number : 1 ≤ w.id.number
  pub number : w.id.number ≤ greatest_number
  pub places : AskOfLog w.conditions

pub record IsFit (me : Identity) (i : Option Inside) (s : ShardState) : Type 0 where
  pub own : AllByRecursion (IsOwn me) s.in_doubt
  pub order : AreInOrder s.in_doubt
  pub rows : AreKept me s.learned s.rows
  pub place : s.learned ≤ greatest_number
  pub epoch : s.epoch ≤ greatest_number
  pub horizon : s.horizon ≤ greatest_number
  pub within : i ≡ None → s.horizon ≤ s.learned

-- ---- the versions that learning adds

placed_rise : (place : ℕ) (cs : List Change) → RisesFrom place (placed place cs)
placed_rise place [] = tt
placed_rise place (c ∷ cs) = (omega arith, placed_rise place cs)

placed_within : (place : ℕ) (cs : List Change) → AllByRecursion (λ (v : Version). v.place ≤ place) (placed place cs)
placed_within place [] = tt
placed_within place (c ∷ cs) = (omega arith, placed_within place cs)

changes_rise : (place : ℕ) (o : Option Entry) → RisesFrom place (changes_at place o)
changes_rise place None = tt
changes_rise place (Some w) = placed_rise place w.changes

changes_within : (place : ℕ) (o : Option Entry) → AllByRecursion (λ (v : Version). v.place ≤ place) (changes_at place o)
changes_within place None = tt
changes_within place (Some w) = placed_within place w.changes

abbrev StartFrom : ℕ → List PlacedId → Type 0
StartFrom n [] = Unit {0}
StartFrom n (p ∷ placed_ids) = n ≤ p.place

start_above : (n : ℕ) (placed_ids : List PlacedId) → All (λ (p : PlacedId). n < p.place) placed_ids → StartFrom (1 + n) placed_ids
start_above n [] above = tt
start_above n (p ∷ placed_ids) above = let a = All-head (λ (p : PlacedId). n < p.place) p placed_ids above in omega (arith, a)

learned_rise : (n to : ℕ) (placed_ids : List PlacedId) (ws : List Entry) → StartFrom n placed_ids → AreRisingTo to placed_ids → RisesFrom n (learned_rows placed_ids ws)
learned_rise n to [] ws start rising = tt
learned_rise n to (p ∷ []) ws start rising =
    rises_append n p.place (changes_at p.place (find_in_doubt p.id ws)) [] start (rises_weaker n p.place _ start (changes_rise p.place (find_in_doubt p.id ws))) (changes_within p.place (find_in_doubt p.id ws)) tt
learned_rise n to (p ∷ q ∷ placed_ids) ws start rising =
    rises_append n p.place (changes_at p.place (find_in_doubt p.id ws)) (learned_rows (q ∷ placed_ids) ws) start (rises_weaker n p.place _ start (changes_rise p.place (find_in_doubt p.id ws)))
    (changes_within p.place (find_in_doubt p.id ws))
    (learned_rise p.place to (q ∷ placed_ids) ws (let a = rising.0 in omega (arith, a)) rising.1)

first_to : (to : ℕ) (p : PlacedId) (placed_ids : List PlacedId) → AreRisingTo to (p ∷ placed_ids) → p.place ≤ to
first_to to p [] rising = rising
first_to to p (q ∷ placed_ids) rising = let a = rising.0 in let b = first_to to q placed_ids rising.1 in omega (arith, a, b)

rest_to : (to : ℕ) (p : PlacedId) (placed_ids : List PlacedId) → AreRisingTo to (p ∷ placed_ids) → AreRisingTo to placed_ids
rest_to to p [] rising = tt
rest_to to p (q ∷ placed_ids) rising = rising.1

module _ (me : Identity) (to : ℕ) where
  abbrev IsHere : Tuple → Type 0
  IsHere t = shard_of me.shards t.object ≡ me.node

  placed_kept : (place : ℕ) (cs : List Change) (more : List Tuple) → place ≤ to → AllByRecursion IsHere (changed cs ++ more) → AllByRecursion (IsKept me to) (placed place cs)
  placed_kept place [] more low own = tt
  placed_kept place (c ∷ cs) more low own = (record { within = low; own = own.0 }, placed_kept place cs more low own.1)

  changes_kept : (place : ℕ) (id : WriteId) (ws : List Entry) (o : Option Entry) → find_in_doubt id ws ≡ o → place ≤ to → AllByRecursion (IsOwn me) ws → AllByRecursion (IsKept me to) (changes_at place o)
  changes_kept place id ws None is low own = tt
  changes_kept place id ws (Some w) is low own =
      placed_kept place w.changes (conditioned w.conditions) low (recursion_from_All IsHere (named w) (each_found (IsOwn me) id ws w own is).own)

  learned_kept : (placed_ids : List PlacedId) (ws : List Entry) → AreRisingTo to placed_ids → AllByRecursion (IsOwn me) ws → AllByRecursion (IsKept me to) (learned_rows placed_ids ws)
  learned_kept [] ws rising own = tt
  learned_kept (p ∷ placed_ids) ws rising own =
      each_append (IsKept me to) (changes_at p.place (find_in_doubt p.id ws)) (learned_rows placed_ids ws) (changes_kept p.place p.id ws (find_in_doubt p.id ws) refl (first_to to p placed_ids rising) own)
      (learned_kept placed_ids ws (rest_to to p placed_ids rising) own)

-- ---- one more record

same_rows : (me : Identity) (s : ShardState) → AreKept me s.learned s.rows → AreKept me s.learned (s.rows ++ [])
same_rows me s kept = subst (AreKept me s.learned) (sym (append-nil s.rows)) kept

fit_outside : (me : Identity) (s : ShardState) (r : Record) → IsFit me None s → MayCome me s r → IsFit me (inside_step None r) (shard_step s r)
unfolding shard_step
fit_outside me s (Prepare w) fit may = record {
  own = each_put (IsOwn me) w s.in_doubt (record { own = may.own; some_epoch = may.some_epoch; epoch = may.epoch; some_number = may.some_number; number = may.number; places = may.places }) fit.own;
  order = order_put w s.in_doubt fit.order;
  rows = fit.rows;
  place = fit.place;
  epoch = fit.epoch;
  horizon = fit.horizon;
  within = λ none. fit.within refl;
}
fit_outside me s (Learned to placed_ids) fit may = record {
  own = each_without_all (IsOwn me) placed_ids s.in_doubt fit.own;
  order = order_without_all placed_ids s.in_doubt fit.order;
  rows = kept_more me s.learned to s.rows (learned_rows placed_ids s.in_doubt) may.on fit.rows (learned_rise (1 + s.learned) to placed_ids s.in_doubt (start_above s.learned placed_ids may.above) may.places)
      (learned_kept me to placed_ids s.in_doubt may.places fit.own);
  place = may.place;
  epoch = fit.epoch;
  horizon = fit.horizon;
  within = λ none. (let a = fit.within refl in let b = may.on in omega (arith, a, b));
}
fit_outside me s (Dropped id) fit may = record {
  own = each_without (IsOwn me) id s.in_doubt fit.own;
  order = order_without id s.in_doubt fit.order;
  rows = fit.rows;
  place = fit.place;
  epoch = fit.epoch;
  horizon = fit.horizon;
  within = λ none. fit.within refl;
}
fit_outside me s (Epoch epoch store shards node) fit may = record { own = fit.own; order = fit.order; rows = fit.rows; place = fit.place; epoch = may.greatest; horizon = fit.horizon; within = λ none. fit.within refl }
fit_outside me s (Decision place w) fit may = absurd may
fit_outside me s (Horizon place) fit may = record {
  own = fit.own;
  order = fit.order;
  rows = kept_collected me s.learned place s.rows fit.rows;
  place = fit.place;
  epoch = fit.epoch;
  horizon = (let a = may.within in let b = fit.place in omega (arith, a, b));
  within = λ none. may.within;
}
fit_outside me s (Checkpoint mark) fit may = absurd may

fit_begun : (me : Identity) (s : ShardState) (r : Record) → IsFit me None s → MayBegin s.epoch r → IsFit me (inside_step None r) (shard_step s r)
unfolding shard_step
fit_begun me s (Prepare w) fit may = absurd may
fit_begun me s (Learned to placed_ids) fit may = absurd may
fit_begun me s (Dropped id) fit may = absurd may
fit_begun me s (Epoch epoch store shards node) fit may = absurd may
fit_begun me s (Decision place w) fit may = absurd may
fit_begun me s (Horizon place) fit may = absurd may
fit_begun me s (Checkpoint (Begins generation)) fit may = record { own = fit.own; order = fit.order; rows = same_rows me s fit.rows; place = fit.place; epoch = fit.epoch; horizon = fit.horizon; within = never_none }
fit_begun me s (Checkpoint (Row place change)) fit may = absurd may
fit_begun me s (Checkpoint (Ends generation)) fit may = absurd may

fit_inside : (me : Identity) (i : Inside) (s : ShardState) (r : Record) → IsFit me (Some i) s → MayComeInside me i s r → IsFit me (inside_step (Some i) r) (shard_step s r)
unfolding shard_step
fit_inside me i s (Prepare w) fit may = record {
  own = each_put (IsOwn me) w s.in_doubt (record { own = may.may.own; some_epoch = may.may.some_epoch; epoch = may.may.epoch; some_number = may.may.some_number; number = may.may.number; places = may.may.places }) fit.own;
  order = order_put w s.in_doubt fit.order;
  rows = fit.rows;
  place = fit.place;
  epoch = fit.epoch;
  horizon = fit.horizon;
  within = never_none;
}
fit_inside me i s (Learned to placed_ids) fit may = record {
  own = each_without_all (IsOwn me) placed_ids s.in_doubt fit.own;
  order = order_without_all placed_ids s.in_doubt fit.order;
  rows = kept_more me s.learned to s.rows (learned_rows placed_ids s.in_doubt) may.may.on fit.rows (learned_rise (1 + s.learned) to placed_ids s.in_doubt (start_above s.learned placed_ids may.may.above) may.may.places)
      (learned_kept me to placed_ids s.in_doubt may.may.places fit.own);
  place = may.may.place;
  epoch = fit.epoch;
  horizon = fit.horizon;
  within = never_none;
}
fit_inside me i s (Dropped id) fit may = absurd may
fit_inside me i s (Epoch epoch store shards node) fit may = record { own = fit.own; order = fit.order; rows = fit.rows; place = fit.place; epoch = may.greatest; horizon = fit.horizon; within = never_none }
fit_inside me i s (Decision place w) fit may = absurd may
fit_inside me i s (Horizon place) fit may = record { own = fit.own; order = fit.order; rows = kept_collected me s.learned place s.rows fit.rows; place = fit.place; epoch = fit.epoch; horizon = may.fits; within = never_none }
fit_inside me i s (Checkpoint (Begins generation)) fit may = absurd may
fit_inside me i s (Checkpoint (Row place change)) fit may = record {
  own = fit.own;
  order = fit.order;
  rows = kept_row me s.learned s.rows (record { place = place; change = change }) fit.rows may.some may.on (record { within = may.learned; own = may.own });
  place = fit.place;
  epoch = fit.epoch;
  horizon = fit.horizon;
  within = never_none;
}
fit_inside me i s (Checkpoint (Ends generation)) fit may = record { own = fit.own; order = fit.order; rows = same_rows me s fit.rows; place = fit.place; epoch = fit.epoch; horizon = fit.horizon; within = λ none. may.within }

fit_step : (me : Identity) (i : Option Inside) (s : ShardState) (r : Record) → IsFit me i s → MayFollow me i s r → IsFit me (inside_step i r) (shard_step s r)
fit_step me None s r fit may = ⊎_elim (fit_outside me s r fit) (fit_begun me s r fit) may
fit_step me (Some i) s r fit may = fit_inside me i s r fit may

fit_from : (me : Identity) (before rs : List Record) → BeginsShardImage me (before ++ rs) → IsFit me (inside_of before) (shard_state before) → IsFit me (inside_of (before ++ rs)) (shard_state (before ++ rs))
fit_from me before [] image fit = subst (λ (l : List Record). IsFit me (inside_of l) (shard_state l)) (sym (append-nil before)) fit
fit_from me before (r ∷ rs) image fit =
    let whole : (before ++ r ∷ []) ++ rs ≡ before ++ r ∷ rs = append_assoc before (r ∷ []) rs in
    let next : IsFit me (inside_of (before ++ r ∷ [])) (shard_state (before ++ r ∷ [])) =
    subst (λ (i : Option Inside). IsFit me i (shard_state (before ++ r ∷ []))) (sym (inside_push before r))
    (subst (IsFit me (inside_step (inside_of before) r)) (sym (shard_push before r)) (fit_step me (inside_of before) (shard_state before) r fit (image before rs r refl))) in
    subst (λ (l : List Record). IsFit me (inside_of l) (shard_state l)) whole (fit_from me (before ++ r ∷ []) rs (subst (BeginsShardImage me) (sym whole) image) next)

fit_empty : (me : Identity) → IsFit me (inside_of []) (shard_state [])
unfolding inside_of shard_state
fit_empty me = record { own = tt; order = tt; rows = record { rise = λ t. tt; each = tt }; place = omega arith; epoch = omega arith; horizon = omega arith; within = λ none. omega arith }

pub image_fit : (me : Identity) (rs : List Record) → IsShardImage me rs → IsFit me None (shard_state rs)
image_fit me rs image = subst (λ (i : Option Inside). IsFit me i (shard_state rs)) image.whole (fit_from me [] rs image.each (fit_empty me))

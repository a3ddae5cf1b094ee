-- Alike states of a shard stay alike, and the same records may come next.
use Rattle.std.proofs.Common.{◌≡◌, ◌≤◌, inl, inr, ℕ, List, Option, Some, None, refl, sym, ◌∙◌, ap, subst}
use Rattle.tuples.specs.Changes.{tuple_of}
use Rattle.tuples.specs.declared.entry.Entry.{Entry}
use Rattle.tuples.specs.declared.version.Version.{Version}
use Rattle.records.specs.declared.mark.Inside.{Inside}
use Rattle.records.specs.declared.mark.Mark.{Mark}
use Rattle.records.specs.declared.mark.Mark.TheVariants.{Begins, Row, Ends}
use Rattle.records.specs.declared.record.Record.{Record}
use Rattle.records.specs.declared.record.Record.TheVariants.{Prepare, Learned, Dropped, Epoch, Decision, Horizon, Checkpoint}
use Rattle.records.specs.Inside.{MayBegin}
use Rattle.records.specs.Replays.{Identity, MayCome, MayComeInside, MayFollow, MayMark, ShardState, learned_rows, marked_rows, put, shard_step, without, without_placed_ids}
use Rattle.versions.specs.Alike.{AreAlike}
use Rattle.versions.proofs.Alike.{append_alike, last_alike, collected_alike, alike_refl as rows_refl, alike_same as rows_same, alike_sym as rows_sym, alike_trans as rows_trans}
use Rattle.replay.specs.Alike.{IsAlike}

pub alike_refl : (a : ShardState) → IsAlike a a
alike_refl a = record { in_doubt = refl; learned = refl; horizon = refl; epoch = refl; rows = rows_refl a.rows }

pub alike_same : (a b : ShardState) → a ≡ b → IsAlike a b
alike_same a b is = subst (IsAlike a) is (alike_refl a)

pub alike_sym : {a b : ShardState} → IsAlike a b → IsAlike b a
alike_sym h = record { in_doubt = sym h.in_doubt; learned = sym h.learned; horizon = sym h.horizon; epoch = sym h.epoch; rows = rows_sym h.rows }

pub alike_trans : {a b d : ShardState} → IsAlike a b → IsAlike b d → IsAlike a d
alike_trans h k = record {
  in_doubt = h.in_doubt ∙ k.in_doubt;
  learned = h.learned ∙ k.learned;
  horizon = h.horizon ∙ k.horizon;
  epoch = h.epoch ∙ k.epoch;
  rows = rows_trans h.rows k.rows;
}

pub alike_step : {a b : ShardState} → IsAlike a b → (r : Record) → IsAlike (shard_step a r) (shard_step b r)
unfolding shard_step
alike_step h (Prepare w) = record { in_doubt = ap (put w) h.in_doubt; learned = h.learned; horizon = h.horizon; epoch = h.epoch; rows = h.rows }
alike_step h (Learned to placed_ids) = record {
  in_doubt = ap (without_placed_ids placed_ids) h.in_doubt;
  learned = refl;
  horizon = h.horizon;
  epoch = h.epoch;
  rows = append_alike h.rows (rows_same _ _ (ap (learned_rows placed_ids) h.in_doubt));
}
alike_step h (Dropped id) = record { in_doubt = ap (without id) h.in_doubt; learned = h.learned; horizon = h.horizon; epoch = h.epoch; rows = h.rows }
alike_step h (Epoch epoch store shards node) = record { in_doubt = h.in_doubt; learned = h.learned; horizon = h.horizon; epoch = refl; rows = h.rows }
alike_step h (Decision place w) = h
alike_step h (Horizon place) = record { in_doubt = h.in_doubt; learned = h.learned; horizon = refl; epoch = h.epoch; rows = collected_alike h.rows place }
alike_step h (Checkpoint mark) = record { in_doubt = h.in_doubt; learned = h.learned; horizon = h.horizon; epoch = h.epoch; rows = append_alike h.rows (rows_refl (marked_rows mark)) }

-- no rule for what comes outside of a checkpoint looks at the versions
may_come_rows : (me : Identity) (s : ShardState) (rows : List Version) (r : Record) → MayCome me s r → MayCome me (record s { rows = rows }) r
may_come_rows me s rows (Prepare w) may = record {
  opened = may.opened;
  new = may.new;
  own = may.own;
  free = may.free;
  some_epoch = may.some_epoch;
  epoch = may.epoch;
  some_number = may.some_number;
  number = may.number;
  places = may.places;
}
may_come_rows me s rows (Learned to placed_ids) may = record { opened = may.opened; on = may.on; place = may.place; above = may.above; places = may.places; prepared = may.prepared }
may_come_rows me s rows (Dropped id) may = record { opened = may.opened; prepared = may.prepared }
may_come_rows me s rows (Epoch epoch store shards node) may = record { next = may.next; greatest = may.greatest; same_store = may.same_store; same_shards = may.same_shards; same_node = may.same_node }
may_come_rows me s rows (Decision place w) may = may
may_come_rows me s rows (Horizon place) may = record { opened = may.opened; on = may.on; within = may.within }
may_come_rows me s rows (Checkpoint mark) may = may

state : List Entry → ℕ → ℕ → List Version → ℕ → ShardState
state in_doubt learned horizon rows epoch = record { in_doubt = in_doubt; learned = learned; horizon = horizon; rows = rows; epoch = epoch }

-- apart from the versions they are one state
pub same_but_rows : {a b : ShardState} → IsAlike a b → record a { rows = b.rows } ≡ b
unfolding state
same_but_rows {a} {b} h =
    ap (λ (x : List Entry). state x a.learned a.horizon b.rows a.epoch) h.in_doubt
    ∙ ap (λ (x : ℕ). state b.in_doubt x a.horizon b.rows a.epoch) h.learned
    ∙ ap (λ (x : ℕ). state b.in_doubt b.learned x b.rows a.epoch) h.horizon
    ∙ ap (λ (x : ℕ). state b.in_doubt b.learned b.horizon b.rows x) h.epoch

pub may_come_alike : {a b : ShardState} → IsAlike a b → (me : Identity) (r : Record) → MayCome me a r → MayCome me b r
may_come_alike {a} {b} h me r may = subst (λ (s : ShardState). MayCome me s r) (same_but_rows h) (may_come_rows me a b.rows r may)

-- within a checkpoint a rule looks only at the last version of a tuple
mark_rows : (me : Identity) (i : Inside) (s : ShardState) (rows : List Version) (mark : Mark) → AreAlike s.rows rows → MayMark me i s mark → MayMark me i (record s { rows = rows }) mark
mark_rows me i s rows (Begins generation) same may = may
mark_rows me i s rows (Row place change) same may = record {
  after = may.after;
  some = may.some;
  on = subst (λ (n : ℕ). n ≤ place) (last_alike same (tuple_of change)) may.on;
  learned = may.learned;
  own = may.own;
}
mark_rows me i s rows (Ends generation) same may = record { after = may.after; same = may.same; within = may.within }

inside_rows : (me : Identity) (i : Inside) (s : ShardState) (rows : List Version) (r : Record) → AreAlike s.rows rows → MayComeInside me i s r → MayComeInside me i (record s { rows = rows }) r
inside_rows me i s rows (Prepare w) same may = record { after = may.after; may = may_come_rows me s rows (Prepare w) may.may }
inside_rows me i s rows (Learned to placed_ids) same may = record { after = may.after; no_parts = may.no_parts; may = may_come_rows me s rows (Learned to placed_ids) may.may }
inside_rows me i s rows (Dropped id) same may = may
inside_rows me i s rows (Epoch epoch store shards node) same may = may
inside_rows me i s rows (Decision place w) same may = may
inside_rows me i s rows (Horizon place) same may = may
inside_rows me i s rows (Checkpoint mark) same may = mark_rows me i s rows mark same may

pub may_follow_alike : {a b : ShardState} → IsAlike a b → (me : Identity) (i : Option Inside) (r : Record) → MayFollow me i a r → MayFollow me i b r
may_follow_alike h me None r (inl may) = inl (may_come_alike h me r may)
may_follow_alike h me None r (inr may) = inr (subst (λ (epoch : ℕ). MayBegin epoch r) h.epoch may)
may_follow_alike {a} {b} h me (Some i) r may = subst (λ (s : ShardState). MayComeInside me i s r) (same_but_rows h) (inside_rows me i a b.rows r h.rows may)

-- Whether a checkpoint is under way, after one more record.
use Rattle.std.proofs.Common.{◌≡◌, ℕ, List, [], ◌∷◌, ◌++◌, Option, None, refl}
use Rattle.records.specs.declared.mark.Inside.{Inside}
use Rattle.records.specs.declared.record.Record.{Record}
use Rattle.records.specs.declared.record.Record.TheVariants.{Prepare, Learned, Dropped, Epoch, Decision, Horizon, Checkpoint}
use Rattle.records.specs.Inside.{MayBegin, inside_behind, inside_from, inside_of, inside_step}

pub inside_from-append : (i : Option Inside) (rs more : List Record) → inside_from i (rs ++ more) ≡ inside_from (inside_from i rs) more
inside_from-append i [] more = refl
inside_from-append i (r ∷ rs) more = inside_from-append (inside_step i r) rs more

pub inside_push : (rs : List Record) (r : Record) → inside_of (rs ++ r ∷ []) ≡ inside_step (inside_of rs) r
unfolding inside_of
inside_push rs r = inside_from-append None rs (r ∷ [])

-- what holds of a record that is not a mark of a checkpoint
abbrev pub UnlessMark : Record → Type 0 → Type 0
UnlessMark (Prepare w) T = T
UnlessMark (Learned to placed_ids) T = T
UnlessMark (Dropped id) T = T
UnlessMark (Epoch epoch store shards node) T = T
UnlessMark (Decision place w) T = T
UnlessMark (Horizon place) T = T
UnlessMark (Checkpoint mark) T = Unit {0}

pub unless_mark : (r : Record) (T : Type 0) → T → UnlessMark r T
unless_mark (Prepare w) T t = t
unless_mark (Learned to placed_ids) T t = t
unless_mark (Dropped id) T t = t
unless_mark (Epoch epoch store shards node) T t = t
unless_mark (Decision place w) T t = t
unless_mark (Horizon place) T t = t
unless_mark (Checkpoint mark) T t = tt

-- what begins a checkpoint is a mark
pub begin_is_mark : (epoch : ℕ) (r : Record) (T : Type 0) → MayBegin epoch r → UnlessMark r T
begin_is_mark epoch (Prepare w) T may = absurd may
begin_is_mark epoch (Learned to placed_ids) T may = absurd may
begin_is_mark epoch (Dropped id) T may = absurd may
begin_is_mark epoch (Epoch number store shards node) T may = absurd may
begin_is_mark epoch (Decision place w) T may = absurd may
begin_is_mark epoch (Horizon place) T may = absurd may
begin_is_mark epoch (Checkpoint mark) T may = tt

-- what ends a checkpoint is a mark
pub end_is_mark : (i : Inside) (r : Record) (T : Type 0) → inside_behind i r ≡ None → UnlessMark r T
end_is_mark i (Prepare w) T ended = absurd cc
end_is_mark i (Learned to placed_ids) T ended = absurd cc
end_is_mark i (Dropped id) T ended = absurd cc
end_is_mark i (Epoch epoch store shards node) T ended = absurd cc
end_is_mark i (Decision place w) T ended = absurd cc
end_is_mark i (Horizon place) T ended = absurd cc
end_is_mark i (Checkpoint mark) T ended = tt

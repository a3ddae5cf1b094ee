-- One more record: what the records stand for then, and that they are still a shard's.
use Rattle.std.proofs.Common.{◌≡◌, ◌⊎◌, inl, inr, ⊎_elim, List, [], ◌∷◌, ◌++◌, Option, Some, None, refl, sym, ap, ◌∙◌, subst, append_assoc}
use Rattle.std.proofs.lemmas.List.{append-nil}
use Rattle.records.specs.declared.mark.Inside.{Inside}
use Rattle.records.specs.declared.mark.Mark.{Mark}
use Rattle.records.specs.declared.record.Record.{Record}
use Rattle.records.specs.declared.record.Record.TheVariants.{Prepare, Learned, Dropped, Epoch, Decision, Horizon, Checkpoint}
use Rattle.records.specs.Inside.{MayBegin, begun_by, inside_of, inside_step}
use Rattle.records.specs.Replays.{BeginsShardImage, Identity, IsShardImage, MayCome, MayComeInside, MayFollow, ShardState, empty_shard, shard_from, shard_state, shard_step}
use Rattle.records.proofs.Insides.{UnlessMark, begin_is_mark, end_is_mark, inside_push, unless_mark}
use Rattle.tuples.proofs.Lists.{cut_last, no_element}

pub shard_from-append : (s : ShardState) (rs more : List Record) → shard_from s (rs ++ more) ≡ shard_from (shard_from s rs) more
shard_from-append s [] more = refl
shard_from-append s (r ∷ rs) more = shard_from-append (shard_step s r) rs more

pub shard_push : (rs : List Record) (r : Record) → shard_state (rs ++ r ∷ []) ≡ shard_step (shard_state rs) r
unfolding shard_state
shard_push rs r = shard_from-append empty_shard rs (r ∷ [])

pub image_empty : (me : Identity) → IsShardImage me []
unfolding inside_of
image_empty me = record { each = λ before after r is. absurd (no_element before after r is); whole = refl }

-- one more record of those that are read
pub image_more : (me : Identity) (rs : List Record) (r : Record) → BeginsShardImage me rs → MayFollow me (inside_of rs) (shard_state rs) r → BeginsShardImage me (rs ++ r ∷ [])
image_more me rs r begins may before after x is = ⊎_elim
    (λ new. subst (λ (y : Record). MayFollow me (inside_of before) (shard_state before) y) new.1 (subst (λ (ys : List Record). MayFollow me (inside_of ys) (shard_state ys) r) new.0 may))
    (λ old. begins before old.0 x old.1)
    (cut_last rs before after r x is)

-- what may come next begins no checkpoint
pub next_outside : (me : Identity) (s : ShardState) (r : Record) → MayCome me s r → begun_by r ≡ None
next_outside me s (Prepare w) may = refl
next_outside me s (Learned to placed_ids) may = refl
next_outside me s (Dropped id) may = refl
next_outside me s (Epoch epoch store shards node) may = refl
next_outside me s (Decision place w) may = refl
next_outside me s (Horizon place) may = refl
next_outside me s (Checkpoint mark) may = absurd may

pub image_push : (me : Identity) (rs : List Record) (r : Record) → IsShardImage me rs → MayCome me (shard_state rs) r → IsShardImage me (rs ++ r ∷ [])
image_push me rs r image may = record {
  each = image_more me rs r image.each (subst (λ (i : Option Inside). MayFollow me i (shard_state rs) r) (sym image.whole) (inl may));
  whole = inside_push rs r ∙ ap (λ (i : Option Inside). inside_step i r) image.whole ∙ next_outside me (shard_state rs) r may;
}

last_of : (me : Identity) (i : Option Inside) (s : ShardState) (r : Record) → MayFollow me i s r → inside_step i r ≡ None → UnlessMark r (MayCome me s r)
last_of me None s r (inl may) whole = unless_mark r (MayCome me s r) may
last_of me None s r (inr begins) whole = begin_is_mark s.epoch r (MayCome me s r) begins
last_of me (Some i) s r may whole = end_is_mark i r (MayCome me s r) whole

-- the last record of a shard's records might come next, if it is not the end of a checkpoint
pub image_last : (me : Identity) (rs : List Record) (r : Record) → IsShardImage me (rs ++ r ∷ []) → UnlessMark r (MayCome me (shard_state rs) r)
image_last me rs r image = last_of me (inside_of rs) (shard_state rs) r (image.each rs [] r refl) (sym (inside_push rs r) ∙ image.whole)

-- what each record keeps is true of all of them
module _ (me : Identity) (P : ShardState → Type 0)
    (next : (s : ShardState) (r : Record) → P s → MayCome me s r → P (shard_step s r))
    (inside : (i : Inside) (s : ShardState) (r : Record) → P s → MayComeInside me i s r → P (shard_step s r))
    (begins : (s : ShardState) (mark : Mark) → P s → P (shard_step s (Checkpoint mark))) where
  begun : (s : ShardState) (r : Record) → P s → MayBegin s.epoch r → P (shard_step s r)
  begun s (Prepare w) p may = absurd may
  begun s (Learned to placed_ids) p may = absurd may
  begun s (Dropped id) p may = absurd may
  begun s (Epoch epoch store shards node) p may = absurd may
  begun s (Decision place w) p may = absurd may
  begun s (Horizon place) p may = absurd may
  begun s (Checkpoint mark) p may = begins s mark p

  kept_by : (i : Option Inside) (s : ShardState) (r : Record) → P s → MayFollow me i s r → P (shard_step s r)
  kept_by None s r p (inl may) = next s r p may
  kept_by None s r p (inr may) = begun s r p may
  kept_by (Some i) s r p may = inside i s r p may

  pub image_keeps : (before rs : List Record) → BeginsShardImage me (before ++ rs) → P (shard_state before) → P (shard_state (before ++ rs))
  image_keeps before [] image p = subst (λ (l : List Record). P (shard_state l)) (sym (append-nil before)) p
  image_keeps before (r ∷ rs) image p =
      let whole : (before ++ r ∷ []) ++ rs ≡ before ++ r ∷ rs = append_assoc before (r ∷ []) rs in
      let one : P (shard_state (before ++ r ∷ [])) = subst P (sym (shard_push before r)) (kept_by (inside_of before) (shard_state before) r p (image before rs r refl)) in
      subst (λ (l : List Record). P (shard_state l)) whole (image_keeps (before ++ r ∷ []) rs (subst (BeginsShardImage me) (sym whole) image) one)

-- The first checkpoint of a shard that was never opened: it is the shard's, and stands for its versions.
use Rattle.std.proofs.Common.{◌≡◌, ◌≤◌, inl, inr, List, [], ◌∷◌, ◌++◌, map, Option, Some, None, refl, sym, ◌∙◌, ap, subst, arith, append_assoc}
use Rattle.std.proofs.lemmas.List.Elements.{All-nil}
use Rattle.reshard_laws.proofs.Words.{AreKept, Checkpoint, Ends, greatest_number, Inside, inside_from, IsKept, IsShardImage, of_shard, Reach, shard_first, ShardState, Version}
use Rattle.records.specs.declared.mark.Stage.TheVariants.{Listed}
use Rattle.records.specs.Inside.{inside_of}
use Rattle.records.specs.Replays.{Identity, empty_shard, shard_from, shard_state, shard_step}
use Rattle.replay.specs.Checkpoints.{row_of}
use Rattle.replay.proofs.Doubting.{each_middle}
use Rattle.replay.proofs.Rising.{newest_below, some_place}
use Rattle.replay.proofs.States.{image_empty}
use Rattle.replay.proofs.Checkpoints.{FollowAll, begins_from, follows_nothing}
use Rattle.tuples.specs.Versions.{collected}

-- ---- records that may follow one another

-- what the shard knows by it
abbrev pub first_state : Reach → List Version → ShardState
first_state reach own = record { in_doubt = []; learned = reach.place; horizon = reach.horizon; rows = own; epoch = 1 }

module _ (me : Identity) (reach : Reach) where
  abbrev listing : Option Inside
  listing = Some (record { generation = 1; stage = Listed })

  rows_behind : (done vs : List Version) → shard_from (first_state reach done) (map row_of vs ++ Checkpoint (Ends 1) ∷ []) ≡ first_state reach (done ++ vs)
  unfolding shard_step
  rows_behind done [] = refl
  rows_behind done (v ∷ vs) = rows_behind (done ++ v ∷ []) vs ∙ ap (first_state reach) (append_assoc done (v ∷ []) vs)

  pub first_is : (rows : List Version) → shard_state (shard_first me reach rows) ≡ first_state reach (of_shard me.shards me.node rows)
  unfolding shard_state shard_step collected
  first_is rows = rows_behind [] (of_shard me.shards me.node rows)

  follow_rows : (done vs : List Version) → reach.horizon ≤ reach.place → AreKept me reach.place (done ++ vs) → FollowAll me listing (first_state reach done) (map row_of vs ++ Checkpoint (Ends 1) ∷ [])
  unfolding shard_step
  follow_rows done [] low kept = (record { after = inl refl; same = refl; within = low }, tt)
  follow_rows done (v ∷ vs) low kept =
      let more : (done ++ v ∷ []) ++ vs ≡ done ++ v ∷ vs = append_assoc done (v ∷ []) vs in
      let is = each_middle (IsKept me reach.place) done v vs kept.each in (
        record { after = refl; some = some_place done v vs kept.rise; on = newest_below done v vs kept.rise; learned = is.within; own = is.own },
        follow_rows (done ++ v ∷ []) vs low (subst (AreKept me reach.place) (sym more) kept),
      )

  follow_first : (rows : List Version) → reach.horizon ≤ reach.place → reach.place ≤ greatest_number → AreKept me reach.place (of_shard me.shards me.node rows) → FollowAll me None empty_shard (shard_first me reach rows)
  unfolding shard_step collected
  follow_first rows low fits kept = (
    inr (record { unopened = refl; some = omega arith; greatest = omega arith }),
    (
      record { after = refl; some = omega arith; greatest = omega arith; same_store = refl; same_shards = refl; same_node = refl },
      (
        record { after = refl; on = omega arith; fits = omega (arith, low, fits) },
        (
          record { after = refl; no_parts = refl; may = record { opened = omega arith; on = omega arith; place = fits; above = All-nil _; places = tt; prepared = tt } },
          follow_rows [] (of_shard me.shards me.node rows) low kept,
        ),
      ),
    ),
  )

  inside_rows : (vs : List Version) → inside_from listing (map row_of vs ++ Checkpoint (Ends 1) ∷ []) ≡ None
  inside_rows [] = refl
  inside_rows (v ∷ vs) = inside_rows vs

  first_ends : (rows : List Version) → inside_of (shard_first me reach rows) ≡ None
  unfolding inside_of
  first_ends rows = inside_rows (of_shard me.shards me.node rows)

  pub first_image : (rows : List Version) → reach.horizon ≤ reach.place → reach.place ≤ greatest_number → AreKept me reach.place (of_shard me.shards me.node rows) → IsShardImage me (shard_first me reach rows)
  first_image rows low fits kept = record {
    each = begins_from me [] (shard_first me reach rows) (image_empty me).each (follows_nothing me (shard_first me reach rows) (follow_first rows low fits kept));
    whole = first_ends rows;
  }

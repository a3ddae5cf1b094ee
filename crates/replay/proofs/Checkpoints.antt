-- A checkpoint of a shard is the shard's, and stands for what reads the same.
use Rattle.std.proofs.Common.{◌≡◌, ◌≤◌, ◌⊎◌, inl, inr, ℕ, List, [], ◌∷◌, ◌++◌, map, Option, Some, None, refl, sym, ◌∙◌, ap, subst, arith, append_assoc}
use Rattle.std.specs.List.{AllByRecursion}
use Rattle.std.proofs.lemmas.List.{append-nil}
use Rattle.std.proofs.lemmas.List.Elements.{All-nil}
use Rattle.tuples.specs.declared.entry.Entry.{Entry}
use Rattle.tuples.specs.declared.version.Version.{Version}
use Rattle.tuples.specs.Versions.{collected}
use Rattle.records.specs.declared.mark.Inside.{Inside}
use Rattle.records.specs.declared.mark.Mark.TheVariants.{Ends}
use Rattle.records.specs.declared.mark.Stage.{Stage}
use Rattle.records.specs.declared.mark.Stage.TheVariants.{Listed, Doubted}
use Rattle.records.specs.declared.record.Record.{Record}
use Rattle.records.specs.declared.record.Record.TheVariants.{Checkpoint}
use Rattle.records.specs.Inside.{inside_from, inside_of, inside_step}
use Rattle.records.specs.Replays.{BeginsShardImage, Identity, IsShardImage, MayFollow, ShardState, empty_shard, greatest_number, shard_from, shard_state, shard_step}
use Rattle.records.proofs.Insides.{inside_push}
use Rattle.holds.specs.Holds.{AreApart}
use Rattle.replay.specs.Alike.{IsAlike}
use Rattle.replay.specs.Checkpoints.{ShardCheckpointsStand, prepare_of, row_of, shard_checkpoint}
use Rattle.replay.proofs.Doubting.{AreInOrder, all_before, each_middle, free_last, new_last, put_last}
use Rattle.replay.proofs.Fit.{IsFit, IsOwn, image_fit}
use Rattle.replay.proofs.Images.{image_apart}
use Rattle.replay.proofs.Rising.{AreKept, IsKept, kept_alike, newest_below, some_place}
use Rattle.replay.proofs.States.{image_empty, image_more, shard_push}

-- ---- records that may follow one another

abbrev pub FollowAll : Identity → Option Inside → ShardState → List Record → Type 0
FollowAll me i s [] = Unit {0}
FollowAll me i s (r ∷ rs) = MayFollow me i s r × FollowAll me (inside_step i r) (shard_step s r) rs

pub begins_from : (me : Identity) (before rs : List Record) → BeginsShardImage me before → FollowAll me (inside_of before) (shard_state before) rs → BeginsShardImage me (before ++ rs)
begins_from me before [] begins follow = subst (BeginsShardImage me) (sym (append-nil before)) begins
begins_from me before (r ∷ rs) begins follow =
    let next : FollowAll me (inside_of (before ++ r ∷ [])) (shard_state (before ++ r ∷ [])) rs =
    subst (λ (i : Option Inside). FollowAll me i (shard_state (before ++ r ∷ [])) rs) (sym (inside_push before r))
    (subst (λ (s : ShardState). FollowAll me (inside_step (inside_of before) r) s rs) (sym (shard_push before r)) follow.1) in
    subst (BeginsShardImage me) (append_assoc before (r ∷ []) rs) (begins_from me (before ++ r ∷ []) rs (image_more me before r begins follow.0) next)

module _ (me : Identity) (generation : ℕ) where
  abbrev at : Stage → Option Inside
  at stage = Some (record { generation = generation; stage = stage })

  -- ---- what it stands for

  rows_behind : (s : ShardState) (vs : List Version) (rs : List Record) → shard_from s (map row_of vs ++ rs) ≡ shard_from (record s { rows = s.rows ++ vs }) rs
  unfolding shard_step
  rows_behind s [] rs = ap (λ (l : List Version). shard_from (record s { rows = l }) rs) (sym (append-nil s.rows))
  rows_behind s (v ∷ vs) rs = rows_behind (record s { rows = s.rows ++ v ∷ [] }) vs rs ∙ ap (λ (l : List Version). shard_from (record s { rows = l }) rs) (append_assoc s.rows (v ∷ []) vs)

  doubts_behind : (s : ShardState) (done ws : List Entry) (rs : List Record) → AreInOrder (done ++ ws) → shard_from (record s { in_doubt = done }) (map prepare_of ws ++ rs) ≡ shard_from (record s { in_doubt = done ++ ws }) rs
  unfolding shard_step
  doubts_behind s done [] rs order = ap (λ (l : List Entry). shard_from (record s { in_doubt = l }) rs) (sym (append-nil done))
  doubts_behind s done (w ∷ ws) rs order =
      ap (λ (l : List Entry). shard_from (record s { in_doubt = l }) (map prepare_of ws ++ rs)) (put_last done w (all_before done w ws order))
      ∙ doubts_behind s (done ++ w ∷ []) ws rs (subst AreInOrder (sym (append_assoc done (w ∷ []) ws)) order)
      ∙ ap (λ (l : List Entry). shard_from (record s { in_doubt = l }) rs) (append_assoc done (w ∷ []) ws)

  abbrev head_of : ShardState → ShardState
  head_of s = record { in_doubt = []; learned = s.learned; horizon = s.horizon; rows = []; epoch = s.epoch }

  -- its own mark at the end adds no version
  end_adds_none : (s : ShardState) → shard_step s (Checkpoint (Ends generation)) ≡ s
  unfolding shard_step
  end_adds_none s = ap (λ (l : List Version). record s { rows = l }) (append-nil s.rows)

  checkpoint_state : (s : ShardState) (listed : List Version) → AreInOrder s.in_doubt → shard_state (shard_checkpoint me generation s listed) ≡ record s { rows = listed }
  unfolding shard_state shard_step collected
  checkpoint_state s listed order =
      rows_behind (head_of s) listed (map prepare_of s.in_doubt ++ Checkpoint (Ends generation) ∷ [])
      ∙ doubts_behind (record (head_of s) { rows = listed }) [] s.in_doubt (Checkpoint (Ends generation) ∷ []) order
      ∙ end_adds_none (record s { rows = listed })

  -- ---- that its records may follow one another

  follow_doubts : (s : ShardState) (stage : Stage) (done ws : List Entry) → (stage ≡ Listed) ⊎ (stage ≡ Doubted) → 1 ≤ s.epoch → s.horizon ≤ s.learned
      → AllByRecursion (IsOwn me) (done ++ ws) → AreInOrder (done ++ ws) → AreApart (done ++ ws)
      → FollowAll me (at stage) (record s { in_doubt = done }) (map prepare_of ws ++ Checkpoint (Ends generation) ∷ [])
  unfolding shard_step
  follow_doubts s stage done [] after opened within own order apart = (record { after = after; same = refl; within = within }, tt)
  follow_doubts s stage done (w ∷ ws) after opened within own order apart =
      let before = all_before done w ws order in
      let here = each_middle (IsOwn me) done w ws own in
      let more : (done ++ w ∷ []) ++ ws ≡ done ++ w ∷ ws = append_assoc done (w ∷ []) ws in (
        record {
          after = after;
          may = record {
            opened = opened;
            new = new_last done w before;
            own = here.own;
            free = free_last done w ws apart;
            some_epoch = here.some_epoch;
            epoch = here.epoch;
            some_number = here.some_number;
            number = here.number;
            places = here.places;
          };
        },
        subst (λ (l : List Entry). FollowAll me (at Doubted) (record s { in_doubt = l }) (map prepare_of ws ++ Checkpoint (Ends generation) ∷ [])) (sym (put_last done w before))
            (follow_doubts s Doubted (done ++ w ∷ []) ws (inr refl) opened within (subst (AllByRecursion (IsOwn me)) (sym more) own) (subst AreInOrder (sym more) order) (subst AreApart (sym more) apart)),
      )

  follow_rows : (s : ShardState) (done vs : List Version) (rs : List Record) → AreKept me s.learned (done ++ vs) → FollowAll me (at Listed) (record s { rows = done ++ vs }) rs
      → FollowAll me (at Listed) (record s { rows = done }) (map row_of vs ++ rs)
  unfolding shard_step
  follow_rows s done [] rs kept follow = subst (λ (l : List Version). FollowAll me (at Listed) (record s { rows = l }) rs) (append-nil done) follow
  follow_rows s done (v ∷ vs) rs kept follow =
      let more : (done ++ v ∷ []) ++ vs ≡ done ++ v ∷ vs = append_assoc done (v ∷ []) vs in
      let is = each_middle (IsKept me s.learned) done v vs kept.each in (
        record { after = refl; some = some_place done v vs kept.rise; on = newest_below done v vs kept.rise; learned = is.within; own = is.own },
        follow_rows s (done ++ v ∷ []) vs rs (subst (AreKept me s.learned) (sym more) kept) (subst (λ (l : List Version). FollowAll me (at Listed) (record s { rows = l }) rs) (sym more) follow),
      )

  follow_checkpoint : (s : ShardState) (listed : List Version) → 1 ≤ generation → generation ≤ greatest_number → 1 ≤ s.epoch → IsFit me None s → AreApart s.in_doubt → AreKept me s.learned listed
      → FollowAll me None empty_shard (shard_checkpoint me generation s listed)
  unfolding shard_step collected
  follow_checkpoint s listed some greatest opened fit apart kept = (
    inr (record { unopened = refl; some = some; greatest = greatest }),
    (
      record { after = refl; some = opened; greatest = fit.epoch; same_store = refl; same_shards = refl; same_node = refl },
      (
        record { after = refl; on = omega arith; fits = fit.horizon },
        (
          record { after = refl; no_parts = refl; may = record { opened = opened; on = omega arith; place = fit.place; above = All-nil _; places = tt; prepared = tt } },
          follow_rows (head_of s) [] listed (map prepare_of s.in_doubt ++ Checkpoint (Ends generation) ∷ []) kept
              (follow_doubts (record (head_of s) { rows = listed }) Listed [] s.in_doubt (inl refl) opened (fit.within refl) fit.own fit.order apart),
        ),
      ),
    ),
  )

  -- ---- that it ends

  inside_rows : (vs : List Version) (rs : List Record) → inside_from (at Listed) (map row_of vs ++ rs) ≡ inside_from (at Listed) rs
  inside_rows [] rs = refl
  inside_rows (v ∷ vs) rs = inside_rows vs rs

  inside_doubts : (stage : Stage) (ws : List Entry) → inside_from (at stage) (map prepare_of ws ++ Checkpoint (Ends generation) ∷ []) ≡ None
  inside_doubts stage [] = refl
  inside_doubts stage (w ∷ ws) = inside_doubts Doubted ws

  checkpoint_ends : (s : ShardState) (listed : List Version) → inside_of (shard_checkpoint me generation s listed) ≡ None
  unfolding inside_of
  checkpoint_ends s listed = inside_rows listed (map prepare_of s.in_doubt ++ Checkpoint (Ends generation) ∷ []) ∙ inside_doubts Listed s.in_doubt

pub follows_nothing : (me : Identity) (rs : List Record) → FollowAll me None empty_shard rs → FollowAll me (inside_of []) (shard_state []) rs
unfolding inside_of shard_state
follows_nothing me rs follow = follow

-- what a checkpoint of the records of a shard stands for: the versions in its order, and all else as it was
pub checkpoint_of_image : (me : Identity) (rs : List Record) (generation : ℕ) (listed : List Version) → IsShardImage me rs
    → shard_state (shard_checkpoint me generation (shard_state rs) listed) ≡ record (shard_state rs) { rows = listed }
checkpoint_of_image me rs generation listed image = checkpoint_state me generation (shard_state rs) listed (image_fit me rs image).order

pub checkpoints_stand : ShardCheckpointsStand
checkpoints_stand me rs generation listed image opened some greatest alike =
    let s = shard_state rs in
    let fit = image_fit me rs image in
    let kept = kept_alike me s.learned s.rows listed alike fit.rows in
    let cs = shard_checkpoint me generation s listed in
    let follow = follow_checkpoint me generation s listed some greatest opened fit (image_apart me rs image) kept in record {
      image = record { each = begins_from me [] cs (image_empty me).each (follows_nothing me cs follow); whole = checkpoint_ends me generation s listed };
      alike = subst (IsAlike s) (sym (checkpoint_of_image me rs generation listed image)) (record { in_doubt = refl; learned = refl; horizon = refl; epoch = refl; rows = alike });
    }

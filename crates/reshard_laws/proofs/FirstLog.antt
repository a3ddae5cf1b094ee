-- The first checkpoint of the coordinator of another number of shards: it is that coordinator's, and stands for what the old one knows.
use Rattle.std.proofs.Common.{◌≡◌, ◌+◌, ◌-◌, ℕ, List, [], ◌∷◌, ◌++◌, drop, Option, Some, None, refl, sym, subst, append_assoc}
use Rattle.reshard_laws.proofs.Words.{Checkpoint, coordinator_empty, coordinator_number, CoordinatorState, decisions_from, Ends, Entry, Identity, Inside, inside_from, inside_push, IsCoordinatorImage, Record}
use Rattle.records.specs.declared.mark.Stage.TheVariants.{Bounded}
use Rattle.records.specs.Checkpoints.{coordinator_checkpoint}
use Rattle.records.specs.Coordinators.{BeginsCoordinatorImage, coordinator_state, coordinator_step, empty_coordinator}
use Rattle.records.specs.Inside.{inside_of}
use Rattle.records.proofs.CoordinatorStates.{coordinator_push}
use Rattle.recovery.proofs.Checkpoints.{FollowAll, begins_from, follows_nothing}

-- an image, record by record
follow_of : (me : Identity) (before rs : List Record) → BeginsCoordinatorImage me (before ++ rs) → FollowAll me (inside_of before) (coordinator_state before) rs
follow_of me before [] begins = tt
follow_of me before (r ∷ rs) begins = (
  begins before rs r refl,
  subst (λ (i : Option Inside). FollowAll me i (coordinator_step (coordinator_state before) r) rs) (inside_push before r)
      (subst (λ (s : CoordinatorState). FollowAll me (inside_of (before ++ r ∷ [])) s rs) (coordinator_push before r)
      (follow_of me (before ++ r ∷ []) rs (subst (BeginsCoordinatorImage me) (sym (append_assoc before (r ∷ []) rs)) begins))),
)

from_nothing : (me : Identity) (rs : List Record) → FollowAll me (inside_of []) (coordinator_state []) rs → FollowAll me None empty_coordinator rs
unfolding inside_of coordinator_state
from_nothing me rs follow = follow

module _ (me you : Identity) where
  abbrev listing : Option Inside
  listing = Some (record { generation = 1; stage = Bounded })

  -- decisions are of no one store
  same_decisions : (s : CoordinatorState) (place : ℕ) (ws : List Entry) → FollowAll me listing s (decisions_from place ws ++ Checkpoint (Ends 1) ∷ []) → FollowAll you listing s (decisions_from place ws ++ Checkpoint (Ends 1) ∷ [])
  unfolding coordinator_step
  same_decisions s place [] follow = follow
  same_decisions s place (w ∷ ws) follow = (follow.0, same_decisions (record s { log = s.log ++ w ∷ [] }) (place + 1) ws follow.1)

  same_checkpoint : (s : CoordinatorState) → you.node ≡ coordinator_number → FollowAll me None empty_coordinator (coordinator_checkpoint me 1 s) → FollowAll you None empty_coordinator (coordinator_checkpoint you 1 s)
  unfolding coordinator_checkpoint coordinator_step
  same_checkpoint s is (begins, (opens, (bounds, rest))) = (
    begins,
    (
      record { may = record { after = refl; some = opens.may.some; greatest = opens.may.greatest; same_store = refl; same_shards = refl; same_node = refl }; coordinator = is },
      (bounds, same_decisions _ (s.horizon + 1) (drop (s.horizon - s.base) s.log) rest),
    ),
  )

  inside_decisions : (place : ℕ) (ws : List Entry) → inside_from listing (decisions_from place ws ++ Checkpoint (Ends 1) ∷ []) ≡ None
  inside_decisions place [] = refl
  inside_decisions place (w ∷ ws) = inside_decisions (place + 1) ws

  ends : (s : CoordinatorState) → inside_of (coordinator_checkpoint you 1 s) ≡ None
  unfolding inside_of coordinator_checkpoint
  ends s = inside_decisions (s.horizon + 1) (drop (s.horizon - s.base) s.log)

  -- what is a checkpoint of one coordinator is one of another
  pub first_log : (s : CoordinatorState) → you.node ≡ coordinator_number → IsCoordinatorImage me (coordinator_checkpoint me 1 s) → IsCoordinatorImage you (coordinator_checkpoint you 1 s)
  first_log s is image = record {
    each = begins_from you [] (coordinator_checkpoint you 1 s) (coordinator_empty you).each
        (follows_nothing you (coordinator_checkpoint you 1 s) (same_checkpoint s is (from_nothing me (coordinator_checkpoint me 1 s) (follow_of me [] (coordinator_checkpoint me 1 s) image.each))));
    whole = ends s;
  }

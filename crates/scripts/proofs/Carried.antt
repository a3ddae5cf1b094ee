-- A store that `reshard` has carried over, as one that a script has.
use Rattle.std.proofs.Common.{◌≡◌, ◌≤◌, ◌+◌, ◌*◌, inl, inr, ℕ, List, [], ◌∷◌, MatchResult, Ok, Err, Result, Option, length, arith, refl, rules, subst}
use Rattle.std.specs.List.{AllByRecursion}
use Rattle.cluster.specs.Runs.{TookAll}
use Rattle.cluster.specs.Steps.{Takes}
use Rattle.cluster.specs.Worlds.{WorldView, flow_count}
use Rattle.cluster.specs.declared.event.Event.{Event}
use Rattle.cluster.specs.declared.event.What.{What}
use Rattle.cluster.specs.declared.step.Step.{Step}
use Rattle.device.specs.Device.{State}
use Rattle.journal.specs.Beginnings.{BegunView}
use Rattle.reshard.specs.Caring as reshard
use Rattle.reshard.specs.Caring.{IsCaring}
use Rattle.refusal.specs.declared.refusal.Refusal.{Refusal}
use Rattle.reshard.specs.Made.{devices_of}
use Rattle.reshard.specs.Refusing.{AreUp, IsFirstDown}
use Rattle.scripts.proofs.Short.{refusal_short}
use Rattle.scripts.specs.Cares.{Cares, Moves}
use Rattle.scripts.specs.Resharding.{IsMoved, IsReady, IsUnready, Reshards}
use Rattle.scripts.specs.Scripts.{resharded_text}

module _ {D : Type 0} (state : D → State) (honest : D → Type 0) (moment : D → ℕ) (left_since : D → ℕ → List ℕ → Type 0) where
  steps_taken : (old : WorldView D) (number : ℕ) (steps : List Step) (events : List Event) (new : WorldView D) → AllByRecursion IsCaring steps
      → TookAll state honest moment left_since old number steps events new → Cares (Takes state honest moment left_since) old new
  steps_taken old number [] events new caring took = record { steps = []; caring = tt; took = took.1 }
  steps_taken old number (step ∷ steps) events new caring took =
      let rest = steps_taken took.0 (number + 1) steps took.2 new caring.1 took.4 in
      record { steps = record { step = step; told = took.3.0 } ∷ rest.steps; caring = (caring.0, rest.caring); took = (took.0, took.3.1, rest.took) }

  pub cares_taken : (old new : WorldView D) → reshard.Cares state honest moment left_since old new → Cares (Takes state honest moment left_since) old new
  cares_taken old new cares = steps_taken old 0 cares.steps cares.events new cares.caring cares.took

-- none was taken
pub no_cares : {S : Type 0} {takes : S → Step → Option What → S → Type 0} (old new : S) → new ≡ old → Cares takes old new
no_cares old new is = record { steps = []; caring = tt; took = is }

module _ {D : Type 0} (state : D → State) (honest : D → Type 0) (w : WorldView D) (quiet : flow_count w.flows ≡ 0) where
  -- if no flow runs it lies at the nodes alone
  pub ready : (r : Result (Unit {0}) Refusal) → MatchResult r (λ done. AreUp state honest w) (IsFirstDown state honest w) → MatchResult r (λ done. IsReady state honest w) (IsUnready state honest w)
  ready (Ok done) up = (quiet, up)
  ready (Err e) down = inr (quiet, down)

module _ {D : Type 0} (gives : D → Type 0) (state : D → State) (honest : D → Type 0) (moment : D → ℕ) (left_since : D → ℕ → List ℕ → Type 0) where
  -- a store that may not be carried over, or is not, or is
  abbrev Becomes : ℕ → WorldView D → Result (Unit {0}) Refusal → WorldView D → Type 0
  Becomes = Moves (Takes state honest moment left_since) (Reshards gives state honest moment left_since)

  pub unready_stays : (w now : WorldView D) (shards : ℕ) (e : Refusal) → w ≡ now → IsUnready state honest w e → Becomes shards now (Err e) now
  unready_stays w now shards e is unready =
      subst (λ (v : WorldView D). Becomes shards v (Err e) v) is (record { cared = w; cares = no_cares w w refl; moves = inr (unready, refl); stays = refl })

  pub ready_refuses : (w now cared : WorldView D) (shards : ℕ) (e : Refusal) → w ≡ now → IsReady state honest w → Cares (Takes state honest moment left_since) w cared → Becomes shards now (Err e) cared
  ready_refuses w now cared shards e is ready cares = subst (λ (v : WorldView D). Becomes shards v (Err e) cared) is (record { cared = cared; cares = cares; moves = inl ready; stays = refl })

  pub ready_moves : (w now cared new : WorldView D) (shards : ℕ) → w ≡ now → IsReady state honest w → Cares (Takes state honest moment left_since) w cared → IsMoved gives state honest moment left_since w cared shards new
      → Becomes shards now (Ok tt) new
  ready_moves w now cared new shards is ready cares moved = subst (λ (v : WorldView D). Becomes shards v (Ok tt) new) is (record { cared = cared; cares = cares; moves = (ready, moved); stays = tt })

-- what is told of it has room
pub resharded_short : (told : Result (Unit {0}) Refusal) → length (resharded_text told) ≤ 128
resharded_short (Ok done) = search rules
resharded_short (Err e) = refusal_short e

-- two devices a node
pub devices_count : {D : Type 0} (nodes : List (BegunView D)) (count : ℕ) → length nodes ≡ count → length (devices_of nodes) ≡ 2 * count
devices_count [] count is = omega (arith, is)
devices_count (n ∷ nodes) count is = let rest = devices_count nodes (length nodes) refl in omega (arith, is, rest)

-- What a shard's own contract of a read for a check says makes turns of a run.
use Rattle.std.proofs.Common.{◌≡◌, inl, ⊎_elim, ℕ, ◌<◌, List, refl, sym, ◌∙◌, ap, subst, arith}
use Rattle.stores.proofs.Batches.{known_means}
use Rattle.stores.proofs.CheckWalk.{check_replies_select, checks_go_on}
use Rattle.turns.proofs.Words.{Asked, CheckHolds, Collected, Freshness, HasItsCause, Holds, IsBelow, IsCheckSelection, IsRight, IsRightCheck, Moment, NoMemory, NodeName, Record, Running, ShardIsSeen, ShardView, Stands, TakesMemory, Tuple, Unsure, User, Userset, checking, coordinator, id_of, is_at, memory, place_of, shard, shard_of, to_check, with_call}
use Rattle.turns.specs.ShardCheckLaws.{CheckTurns, CheckYesTurns, IsChecker, ReadsForCheckAt, RefusedChecksHaveCause}
use Rattle.turns.proofs.AnswerTurns.{checks_end_yes}
use Rattle.turns.proofs.QuietTurns.{nothing_changes, quiet_calls_turn}
use Rattle.turns.proofs.SeesOn.{sees_on}
use Rattle.turns.proofs.ShardReadSeam.{wants_below}
use Rattle.turns.proofs.ShardSeam.{knows}

module _ (store shards : ℕ) (left : NodeName → List Record → Type 0) {D : Type 0} (now : Moment) (old : ShardView D) (s : ℕ) (fresh : Freshness) (x : Userset) (u : User) (place : ℕ) (r : Running) (h : CheckHolds)
    (st : Stands store shards left now) (seen : ShardIsSeen store shards s now.nodes old) (own : IsChecker now r fresh x u h place) where
  held : IsRightCheck shards left now r fresh x u h
  held = subst (λ (a : Asked). IsRight shards left now r a (checking h)) own.asked (subst (λ (y : Holds). IsRight shards left now r r.asked y) own.holds (st.flows.held r own.running))

  -- and after one more turn
  on : (k : CheckHolds) → IsRightCheck shards left now r fresh x u k → (holds : Holds) → IsRightCheck shards left now (with_call r holds r.met now.machine) fresh x u k
  on k right holds = sees_on shards left now r holds now.machine k.batch right.batch (to_check fresh x u) (checking k) right

  module _ (y : Userset) (rows : List Tuple) (of_shard : s ≡ shard_of shards y.object) (some : (found : List Record) × left coordinator found) (reply : ReadsForCheckAt old place y u rows) where
    selects : IsCheckSelection (is_at now.machine.log place) y u rows
    selects = check_replies_select store shards left now s place y u rows st some seen.there of_shard (held.place place own.at_place).kept
        (record { memory = memory old; knows = knows store shards left now old s seen; learned = reply.learned; above = reply.above; selected = reply.rows_are })

  collected : place < (memory old).horizon → IsBelow now.machine.horizon r r.asked
  collected low =
      let means = known_means store shards left now s (memory old) st seen.there (knows store shards left now old s seen) in
      subst (IsBelow now.machine.horizon r) (sym own.asked) (wants_below r fresh now.machine.horizon place (ap place_of own.holds ∙ own.at_place) (held.place place own.at_place).wanted (omega (arith, low, means.horizon)))

pub check_turns : (store shards : ℕ) (left : NodeName → List Record → Type 0) (D : Type 0) → CheckTurns store shards left D
check_turns store shards left D now old s fresh x y u place rows r h later st some seen of_shard own reply walks not_held =
    let right : IsRightCheck shards left now r fresh x u later = checks_go_on store shards left now r fresh x u h later place y rows (held store shards left now old s fresh x u place r h st seen own) own.at_place walks
    (selects store shards left now old s fresh x u place r h st seen own y rows of_shard some reply) not_held in
    quiet_calls_turn store shards left left now now.nodes now.machine r (checking later) r.met
    (record {
      call = nothing_changes store shards left now st;
      running = own.running;
      same_id = sym (ap id_of own.holds);
      right = subst (λ (a : Asked). IsRight shards left now (with_call r (checking later) r.met now.machine) a (checking later)) (sym own.asked)
          (on store shards left now old s fresh x u place r h st seen own later right (checking later));
    })
    (inl refl)

pub check_yes_turns : (store shards : ℕ) (left : NodeName → List Record → Type 0) (D : Type 0) → CheckYesTurns store shards left D
check_yes_turns store shards left D now old s fresh x y u place rows r h st some seen of_shard own reply waits has =
    checks_end_yes store shards left left now now.nodes now.machine r fresh x u h place y rows (nothing_changes store shards left now st) own.running own.asked
    (on store shards left now old s fresh x u place r h st seen own h (held store shards left now old s fresh x u place r h st seen own) r.holds) own.at_place waits
    (selects store shards left now old s fresh x u place r h st seen own y rows of_shard some reply) has

pub refused_checks_have_cause : (store shards : ℕ) (left : NodeName → List Record → Type 0) (D : Type 0) → RefusedChecksHaveCause store shards left D
refused_checks_have_cause store shards left D now behind old s fresh x u place e r h st seen own is_of = ⊎_elim
    (λ is. (
      subst (HasItsCause shards (shard s) now behind r) (sym is.0) (inl (collected store shards left now old s fresh x u place r h st seen own is.1)),
      λ same. let both : Collected ≡ Unsure = sym is.0 ∙ same in cc,
    ))
    (λ is. (subst (HasItsCause shards (shard s) now behind r) (sym is) (inl (subst TakesMemory (sym own.asked) tt)), λ same. let both : NoMemory ≡ Unsure = sym is ∙ same in cc))
    is_of

-- What the coordinator refuses to decide has its cause, and a write that is not decided it finds at no place.
use Rattle.std.proofs.Common.{◌≡◌, ◌⊎◌, inl, inr, ⊎_elim, ◌+◌, ◌-◌, ℕ, List, Contains, Some, slice_get, drop, sym, ◌∙◌, ap, refl, subst, arith}
use Rattle.turns.proofs.Words.{Asked, CoordinatorView, Decision, Entry, FindsAt, Holds, IsCutOff, IsFull, IsOpen, IsRight, IsRightWrite, IsSeen, IsUndecidedFlow, Moment, NodeName, Record, Running, Stands, WriteHolds, WriteId, coordinator, end_of, id_of, memory_of, shard, slice_get_drop, to_flush, to_write, writing}
use Rattle.decisions.specs.Coordinators.{IsDecidedAbove}
use Rattle.stores.proofs.AbortCauses.{refused_intents}
use Rattle.stores.proofs.PrepareTurn.{map_has}
use Rattle.turns.specs.CoordinatorSeamLaws.{DecideHasCause, UndecidedAreNotFound}
use Rattle.turns.proofs.CoordinatorCalls.{finds_place, log_is, whole}

module _ (store shards : ℕ) (left : NodeName → List Record → Type 0) {D : Type 0} (now : Moment) (v : CoordinatorView D) (r : Running) (h : WriteHolds) (w : Entry)
    (st : Stands store shards left now) (seen : IsSeen now.nodes v) (own : IsUndecidedFlow now r h w) where
  right : IsRightWrite shards left now r w.changes w.conditions h
  right = subst (λ (a : Asked). IsRight shards left now r a (writing h)) own.asked (subst (λ (x : Holds). IsRight shards left now r r.asked x) own.holds (st.flows.held r own.running))

  -- a write that is not decided is at no place
  not_decided : IsDecidedAbove v w.id → ⊥
  not_decided (j, u, is, same, above) =
      let base = (memory_of v).base in
      let at : slice_get (drop base now.machine.log) j ≡ Some u = ap (λ (l : List Entry). slice_get l j) (sym (whole store shards left now v st seen).decided.decisions) ∙ is in
      ((right.own w.id own.id).undecided own.undecided).unlisted (base + j) u (sym (slice_get_drop base now.machine.log j) ∙ at) (sym same)

  pub not_open : (Contains v.open_ids w.id → ⊥) ⊎ IsDecidedAbove v w.id → IsOpen now.nodes w → ⊥
  not_open (inl closed) is = closed (subst (λ (ids : List WriteId). Contains ids w.id) seen.open_writes (map_has (λ (x : Entry). x.id) now.nodes.open_writes w is))
  not_open (inr decided) is = not_decided decided

  pub not_found : (place : ℕ) → FindsAt v w.id place → ⊥
  not_found place finds =
      let at = finds_place store shards left now v st seen w.id place finds in
      ((right.own w.id own.id).undecided own.undecided).unlisted (place - 1) at.0 at.3 (sym at.4)

  no_flush : (s : ℕ) → to_write w.changes w.conditions ≡ to_flush (shard s) → ⊥
  no_flush s is = cc

pub undecided_are_not_found : (store shards : ℕ) (left : NodeName → List Record → Type 0) (D : Type 0) → UndecidedAreNotFound store shards left D
undecided_are_not_found store shards left D now v r h w place st seen own finds = not_found store shards left now v r h w st seen own place finds

pub decide_has_cause : (store shards : ℕ) (left : NodeName → List Record → Type 0) (D : Type 0) → DecideHasCause store shards left D
decide_has_cause store shards left D now after v r h w intent st seen own has = (
  λ closed. subst (IsCutOff now.nodes r) (sym own.holds) (refused_intents store shards left now r h w intent st own has (not_open store shards left now v r h w st seen own closed)),
  λ fits none. subst (IsFull shards coordinator now r) (sym own.asked) (⊎_elim
      (λ full. inl (record {
        durable = v.durable;
        staged = v.staged;
        next = Decision (end_of (memory_of v) + 1) w;
        calls = λ s is. no_flush store shards left now v r h w st seen own s (sym own.asked ∙ is);
        is_up = seen.at;
        stages = record { asks = own.asked; id = ap id_of own.holds ∙ own.id };
        is_record = fits;
        no_room = full;
      }))
      (λ last. inr (refl, inr (inr (let same = log_is store shards left now v st seen in omega (arith, last, same)))))
      none),
)

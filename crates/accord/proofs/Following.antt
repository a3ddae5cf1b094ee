-- What a coordinator does the list's part follows.
use Rattle.std.proofs.Common.{◌≡◌, ⊎_elim, ℕ, zero, suc, ◌+◌, List, [], ◌∷◌, ◌++◌, length, map, Some, Contains, slice_get, refl, sym, ◌∙◌, ap, subst, arith, append_assoc, length-append}
use Rattle.std.proofs.lemmas.Bool.{cases_Bool}
use Rattle.std.proofs.lemmas.List.{drop-append-le, length-drop}
use Rattle.std.proofs.lemmas.Option.{same_Some}
use Rattle.tuples.specs.declared.entry.Entry.{Entry}
use Rattle.tuples.specs.declared.entry.WriteId.{WriteId}
use Rattle.tuples.specs.Log.{same_id}
use Rattle.tuples.proofs.Lists.{contained_at, contained_from}
use Rattle.records.specs.declared.record.Record.TheVariants.{Decision}
use Rattle.records.specs.Coordinators.{CoordinatorState, coordinator_state, coordinator_step, end_of}
use Rattle.records.specs.Replays.{without}
use Rattle.records.proofs.CoordinatorStates.{coordinator_push}
use Rattle.decisions.specs.Coordinators.{CoordinatorView, memory_of, without_id}
use Rattle.accord.specs.declared.parts.ListPart.{ListPart}
use Rattle.accord.specs.Following.{AbortsFollow, BeginningsFollow, DecisionsFollow, IsPartOf}
use Rattle.accord.specs.OwnedLists.{IsOpen, with_aborted, with_open}

abbrev ids_of : List Entry → List WriteId
ids_of = map (λ (w : Entry). w.id)

-- what is left of the writes without an id has what is left of their ids
ids_without : (id : WriteId) (ws : List Entry) → ids_of (without id ws) ≡ without_id id (ids_of ws)
ids_without id [] = refl
ids_without id (w ∷ ws) = ⊎_elim
    (λ out. rw out (ids_without id ws))
    (λ stays. rw stays (ap (λ (l : List WriteId). w.id ∷ l) (ids_without id ws)))
    (cases_Bool (same_id w.id id))

-- an id among those of some writes is that of one
its_write : (ws : List Entry) (j : ℕ) (id : WriteId) → slice_get (ids_of ws) j ≡ Some id → (w : Entry) × (slice_get ws j ≡ Some w) × (w.id ≡ id)
its_write [] j id at = absurd cc
its_write (w ∷ ws) zero id at = (w, refl, same_Some _ _ at)
its_write (w ∷ ws) (suc j) id at = its_write ws j id at

module _ {D : Type 0} (old : CoordinatorView D) (p : ListPart) (f : IsPartOf old p) where
  aborted : (id : WriteId) → IsPartOf (record old { open_ids = without_id id old.open_ids }) (with_aborted p id)
  aborted id = record {
    epoch = f.epoch;
    given = f.given;
    open_ids = ids_without id p.open_writes ∙ ap (without_id id) f.open_ids;
    base = f.base;
    decisions = f.decisions;
  }

  open_write : (id : WriteId) → Contains old.open_ids id → IsOpen p id
  open_write id has =
      let at = contained_at (ids_of p.open_writes) id (subst (λ (l : List WriteId). Contains l id) (sym f.open_ids) has) in
      let one = its_write p.open_writes at.0 id at.1 in
      (one.0, contained_from p.open_writes at.0 one.0 one.1, one.2)

pub beginnings_follow : (D : Type 0) → BeginningsFollow D
beginnings_follow D old new changes conditions i p f begins = (
  rw (f.epoch, f.given) id_is,
  subst (λ (v : CoordinatorView D). IsPartOf v (with_open p i.write)) (sym begins.new_is) (record {
    epoch = f.epoch;
    given = ap (λ (n : ℕ). n + 1) f.given;
    open_ids = rw (id_is, f.open_ids) refl;
    base = f.base;
    decisions = f.decisions;
  }),
)
  where
    id_is : i.write.id ≡ record { epoch = (memory_of old).epoch; number = old.given + 1 }
    id_is = ap (λ (w : Entry). w.id) begins.write

pub aborts_follow : (D : Type 0) → AbortsFollow D
aborts_follow D old new id p f aborts = subst (λ (v : CoordinatorView D). IsPartOf v (with_aborted p id)) (sym aborts.new_is) (aborted old p f id)

pub decisions_follow : (D : Type 0) → DecisionsFollow D
unfolding coordinator_step
decisions_follow D old new w d p f decides = (
  open_write old p f w.id decides.is_open,
  record {
    epoch = f.epoch ∙ sym (ap (λ (s : CoordinatorState). s.epoch) pushed);
    given = f.given ∙ sym (ap (λ (v : CoordinatorView D). v.given) decides.new_is);
    open_ids = ids_without w.id p.open_writes ∙ ap (without_id w.id) f.open_ids ∙ sym (ap (λ (v : CoordinatorView D). v.open_ids) decides.new_is);
    base = let same = ap (λ (s : CoordinatorState). s.base) pushed in let low = f.base in omega (arith, low, same, length-append p.log (w ∷ []));
    decisions = rw pushed (ap (λ (l : List Entry). l ++ w ∷ []) f.decisions ∙ sym (drop-append-le (memory_of old).base p.log (w ∷ []) f.base));
  },
  decides.epoch ∙ sym f.epoch,
  decides.place ∙ ap (λ (n : ℕ). n + 1) end_is,
)
  where
    pushed : memory_of new ≡ record (memory_of old) { log = (memory_of old).log ++ w ∷ [] }
    pushed =
        ap (λ (v : CoordinatorView D). memory_of v) decides.new_is
        ∙ ap coordinator_state (sym (append_assoc old.durable old.staged (Decision d.place w ∷ [])))
        ∙ coordinator_push (old.durable ++ old.staged) (Decision d.place w)

    end_is : end_of (memory_of old) ≡ length p.log
    end_is = let low = f.base in omega (arith, low, ap length f.decisions, length-drop (memory_of old).base p.log)

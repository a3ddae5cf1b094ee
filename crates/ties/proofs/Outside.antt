-- What is known of ids, open ones and listed ones.
use Rattle.std.proofs.Common.{◌≡◌, Bool, if◌then◌else◌, inl, inr, ⊎_elim, ◌≤◌, List, [], ◌∷◌, Contains, sym, ◌∙◌, subst, arith}
use Rattle.std.proofs.lemmas.Bool.{cases_Bool}
use Rattle.std.proofs.lemmas.List.Elements.{Contains-append_left, Contains-append_right, Contains-push}
use Rattle.tuples.specs.Log.{same_id}
use Rattle.tuples.proofs.Lists.{first_or_later}
use Rattle.ties.proofs.Words.{AreOutside, CoordinatorView, Entry, IsGivenAt, memory_of, without_id, WriteId}

-- the ids that stay were there
pub kept_open : (id : WriteId) (ids : List WriteId) (x : WriteId) → Contains (without_id id ids) x → Contains ids x
kept_open id [] x there = there
kept_open id (y ∷ ids) x there = ⊎_elim
    (λ out. Contains-append_right (y ∷ []) ids x (kept_open id ids x (subst (λ (b : Bool). Contains (if b then without_id id ids else y ∷ without_id id ids) x) out there)))
    (λ stays. ⊎_elim
    (λ is. subst (Contains (y ∷ ids)) is (Contains-append_left (y ∷ []) ids y (Contains-push [] y)))
    (λ later. Contains-append_right (y ∷ []) ids x (kept_open id ids x later))
    (first_or_later y x (without_id id ids) (subst (λ (b : Bool). Contains (if b then without_id id ids else y ∷ without_id id ids) x) stays there)))
    (cases_Bool (same_id y id))

-- an id that was given is so in the same epoch, if no number was taken back
pub still_given : {D E : Type 0} (old : CoordinatorView E) (new : CoordinatorView D) (id : WriteId) → (memory_of new).epoch ≡ (memory_of old).epoch → old.given ≤ new.given → IsGivenAt old id → IsGivenAt new id
still_given old new id epoch given is = ⊎_elim (λ lt. inl (omega (arith, lt, epoch))) (λ eq. inr (eq.0 ∙ sym epoch, omega (arith, eq.1, given))) is

-- the same is known if fewer ids are open, or as many
pub still_outside : {D E : Type 0} (old : CoordinatorView E) (new : CoordinatorView D) (log : List Entry) → (memory_of new).epoch ≡ (memory_of old).epoch → new.given ≡ old.given
    → ((id : WriteId) → Contains new.open_ids id → Contains old.open_ids id) → AreOutside old log → AreOutside new log
still_outside old new log epoch given fewer out = record {
  listed = λ j w is. let o = out.listed j w is in (still_given old new w.id epoch (omega (arith, given)) o.0, λ there. o.1 (fewer w.id there));
  still_open = λ id there. let o = out.still_open id (fewer id there) in (o.0 ∙ sym epoch, omega (arith, o.1, given));
}

-- The ids of the open writes, by their numbers.
use Rattle.std.proofs.Common.{◌≡◌, ◌⊎◌, inl, inr, ⊎_elim, ℕ, ◌+◌, ◌==◌, ◌&&◌, not, true, false, Bool, List, [], ◌∷◌, ◌++◌, length, Contains, refl, sym, ◌∙◌, ap, subst, arith, if◌then◌else◌}
use Rattle.std.proofs.lemmas.Bool.{cases_Bool, eqb-true, eq-eqb}
use Rattle.std.proofs.lemmas.List.Elements.{Contains-append_left, Contains-append_right, Contains-push}
use Rattle.tuples.specs.declared.entry.WriteId.{WriteId}
use Rattle.tuples.specs.Log.{same_id}
use Rattle.tuples.proofs.Lists.{first_or_later, nothing_in}
use Rattle.holds.proofs.Doubts.{same_id_refl}
use Rattle.decisions.specs.Coordinators.{without_id}
use Rattle.coordinator.specs.Keeping.{newest_first, others}

pub newest_push : (epoch n : ℕ) (numbers : List ℕ) (ids : List WriteId) → newest_first epoch (numbers ++ n ∷ []) ids ≡ record { epoch = epoch; number = n } ∷ newest_first epoch numbers ids
newest_push epoch n [] ids = refl
newest_push epoch n (m ∷ numbers) ids = newest_push epoch n numbers (record { epoch = epoch; number = m } ∷ ids)

pub newest_length : (epoch : ℕ) (numbers : List ℕ) (ids : List WriteId) → length (newest_first epoch numbers ids) ≡ length numbers + length ids
newest_length epoch [] ids = omega arith
newest_length epoch (n ∷ numbers) ids = let rest = newest_length epoch numbers (record { epoch = epoch; number = n } ∷ ids) in omega (arith, rest)

open_cases : (epoch : ℕ) (id : WriteId) (numbers : List ℕ) (ids : List WriteId) → Contains (newest_first epoch numbers ids) id → ((id.epoch ≡ epoch) × Contains numbers id.number) ⊎ Contains ids id
open_cases epoch id [] ids there = inr there
open_cases epoch id (n ∷ numbers) ids there = ⊎_elim
    (λ later. inl (later.0, Contains-append_right (n ∷ []) numbers id.number later.1))
    (λ more. ⊎_elim
    (λ is. inl (ap (λ (i : WriteId). i.epoch) (sym is), Contains-append_left (n ∷ []) numbers id.number (one is)))
    (λ before. inr before)
    (first_or_later (record { epoch = epoch; number = n }) id ids more))
    (open_cases epoch id numbers (record { epoch = epoch; number = n } ∷ ids) there)
  where
    one : record { epoch = epoch; number = n } ≡ id → Contains (n ∷ []) id.number
    one is = subst (Contains (n ∷ [])) (ap (λ (i : WriteId). i.number) is) (Contains-push [] n)

open_before : (epoch : ℕ) (id : WriteId) (numbers : List ℕ) (ids : List WriteId) → Contains ids id → Contains (newest_first epoch numbers ids) id
open_before epoch id [] ids there = there
open_before epoch id (n ∷ numbers) ids there = open_before epoch id numbers (record { epoch = epoch; number = n } ∷ ids) (Contains-append_right (record { epoch = epoch; number = n } ∷ []) ids id there)

pub open_numbers : (epoch : ℕ) (id : WriteId) (numbers : List ℕ) → Contains (newest_first epoch numbers []) id → (id.epoch ≡ epoch) × Contains numbers id.number
open_numbers epoch id numbers there = ⊎_elim (λ is. is) (λ none. absurd (nothing_in id none)) (open_cases epoch id numbers [] there)

pub numbers_open : (epoch : ℕ) (id : WriteId) (numbers : List ℕ) (ids : List WriteId) → id.epoch ≡ epoch → Contains numbers id.number → Contains (newest_first epoch numbers ids) id
numbers_open epoch id [] ids same there = absurd (nothing_in id.number there)
numbers_open epoch id (n ∷ numbers) ids same there = ⊎_elim
    (λ is. open_before epoch id numbers (record { epoch = epoch; number = n } ∷ ids)
    (Contains-append_left (record { epoch = epoch; number = n } ∷ []) ids id (subst (Contains (record { epoch = epoch; number = n } ∷ [])) (whole is) (Contains-push [] (record { epoch = epoch; number = n })))))
    (λ later. numbers_open epoch id numbers (record { epoch = epoch; number = n } ∷ ids) same later)
    (first_or_later n id.number numbers there)
  where
    whole : n ≡ id.number → record { epoch = epoch; number = n } ≡ id
    whole is = ap (λ (m : ℕ). record { epoch = epoch; number = m }) is ∙ ap (λ (e : ℕ). record { epoch = e; number = id.number }) (sym same)

-- whether an id of this epoch is another
same_number : (epoch n : ℕ) (id : WriteId) → id.epoch ≡ epoch → same_id (record { epoch = epoch; number = n }) id ≡ (n == id.number)
same_number epoch n id same = ap (λ (b : Bool). b && (n == id.number)) (eq-eqb epoch id.epoch (sym same))

-- of this epoch, an id is taken out with its number
pub without_number : (epoch : ℕ) (id : WriteId) (numbers : List ℕ) (ids : List WriteId) → id.epoch ≡ epoch → without_id id (newest_first epoch numbers ids) ≡ newest_first epoch (others id.number numbers) (without_id id ids)
without_number epoch id [] ids same = refl
without_number epoch id (n ∷ numbers) ids same = without_number epoch id numbers (record { epoch = epoch; number = n } ∷ ids) same ∙ ⊎_elim
    (λ here. ap (λ (b : Bool). newest_first epoch (others id.number numbers) (if b then without_id id ids else record { epoch = epoch; number = n } ∷ without_id id ids)) (same_number epoch n id same ∙ here)
    ∙ ap (λ (b : Bool). newest_first epoch (if not b then n ∷ others id.number numbers else others id.number numbers) (without_id id ids)) (sym here))
    (λ further. ap (λ (b : Bool). newest_first epoch (others id.number numbers) (if b then without_id id ids else record { epoch = epoch; number = n } ∷ without_id id ids)) (same_number epoch n id same ∙ further)
    ∙ ap (λ (b : Bool). newest_first epoch (if not b then n ∷ others id.number numbers else others id.number numbers) (without_id id ids)) (sym further))
    (cases_Bool (n == id.number))

-- of another epoch, none is taken out
pub without_other : (epoch : ℕ) (id : WriteId) (numbers : List ℕ) (ids : List WriteId) → (id.epoch ≡ epoch → ⊥) → without_id id (newest_first epoch numbers ids) ≡ newest_first epoch numbers (without_id id ids)
without_other epoch id [] ids other = refl
without_other epoch id (n ∷ numbers) ids other =
    without_other epoch id numbers (record { epoch = epoch; number = n } ∷ ids) other
    ∙ ap (λ (b : Bool). newest_first epoch numbers (if b then without_id id ids else record { epoch = epoch; number = n } ∷ without_id id ids)) differs
  where
    differs : same_id (record { epoch = epoch; number = n }) id ≡ false
    differs = ap (λ (b : Bool). b && (n == id.number)) (⊎_elim (λ yes. absurd (other (sym (eqb-true epoch id.epoch yes)))) (λ differ. differ) (cases_Bool (epoch == id.epoch)))

-- what was taken out is not there
pub without_none : (id : WriteId) (ids : List WriteId) → Contains (without_id id ids) id → ⊥
without_none id [] there = nothing_in id there
without_none id (x ∷ ids) there = ⊎_elim
    (λ out. without_none id ids (subst (λ (b : Bool). Contains (if b then without_id id ids else x ∷ without_id id ids) id) out there))
    (λ stays. ⊎_elim
    (λ is. let e : same_id x id ≡ true = ap (same_id x) (sym is) ∙ same_id_refl x in let f : true ≡ false = sym e ∙ stays in absurd cc)
    (λ later. without_none id ids later)
    (first_or_later x id (without_id id ids) (subst (λ (b : Bool). Contains (if b then without_id id ids else x ∷ without_id id ids) id) stays there)))
    (cases_Bool (same_id x id))

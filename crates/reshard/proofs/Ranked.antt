-- Lists of versions in order, as what each version says of those after it.
use Rattle.std.proofs.Common.{◌≡◌, ◌≤◌, ◌<◌, ◌+◌, ℕ, zero, suc, Bool, false, filter, List, [], ◌∷◌, length, ⊎_elim, slice_index_or, sym, subst, arith}
use Rattle.std.specs.List.{AllByRecursion}
use Rattle.std.specs.List.Sorted.{IsSorted}
use Rattle.std.proofs.lemmas.Bool.{cases_Bool}
use Rattle.std.proofs.lemmas.List.Sorted.{sorted_far}
use Rattle.tuples.specs.declared.version.Version.{Version}
use Rattle.versions.specs.Rows.{version_cmp}
use Rattle.versions.proofs.Listed.{version_ranks}
use Rattle.replay.proofs.Doubting.{each_filter}
use Rattle.reshard.specs.Merging.{is_below}

-- none of these is below the version
abbrev pub NoneBelow : Version → List Version → Type 0
NoneBelow v = AllByRecursion (λ (u : Version). is_below u v ≡ false)

-- none is below one before it
abbrev pub Ranked : List Version → Type 0
Ranked [] = Unit {0}
Ranked (v ∷ vs) = NoneBelow v vs × Ranked vs

no_later : (v : Version) (xs : List Version) → ((k : ℕ) → k < length xs → is_below (slice_index_or xs k v) v ≡ false) → NoneBelow v xs
no_later v [] far = tt
no_later v (x ∷ xs) far = (far 0 (omega arith), no_later v xs (λ k lt. far (suc k) (omega (arith, lt))))

ranked_far : (xs : List Version) → ((i j : ℕ) (d : Version) → i ≤ j → j < length xs → is_below (slice_index_or xs j d) (slice_index_or xs i d) ≡ false) → Ranked xs
ranked_far [] far = tt
ranked_far (x ∷ xs) far = (no_later x xs (λ k lt. far 0 (suc k) x (omega arith) (omega (arith, lt))), ranked_far xs (λ i j d le lt. far (suc i) (suc j) d (omega (arith, le)) (omega (arith, lt))))

pub ranked : (xs : List Version) → IsSorted version_cmp xs → Ranked xs
ranked xs sorted = ranked_far xs (sorted_far _ version_ranks xs sorted)

pub sorted : (xs : List Version) → Ranked xs → IsSorted version_cmp xs
sorted [] r k d low lt = absurd (omega (arith, lt))
sorted (x ∷ []) r k d low lt = absurd (omega (arith, lt))
sorted (x ∷ y ∷ xs) r zero d low lt = r.0.0
sorted (x ∷ y ∷ xs) r (suc k) d low lt =
    let same : suc k + 1 ≡ suc (k + 1) = omega arith in
    subst (λ (n : ℕ). is_below (slice_index_or (x ∷ y ∷ xs) n d) (slice_index_or (x ∷ y ∷ xs) (suc k) d) ≡ false) (sym same) (sorted (y ∷ xs) r.1 k d (omega arith) (omega (arith, lt)))

pub ranked_filter : (p : Version → Bool) (xs : List Version) → Ranked xs → Ranked (filter p xs)
ranked_filter p [] r = tt
ranked_filter p (x ∷ xs) r = ⊎_elim
    (λ here. rw here (each_filter (λ (u : Version). is_below u x ≡ false) p xs r.0, ranked_filter p xs r.1))
    (λ past. rw past (ranked_filter p xs r.1))
    (cases_Bool (p x))

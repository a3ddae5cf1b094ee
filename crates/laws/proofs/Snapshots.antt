-- The versions of a log give back its snapshots.
use Rattle.std.proofs.Common.{◌≡◌, ◌⊎◌, inl, inr, ⊎_elim, ℕ, zero, suc, Bool, false, ◌+◌, ◌-◌, ◌<◌, ◌≤◌, nat_le, List, [], ◌∷◌, ◌++◌, map, filter, take, refl, sym, ◌∙◌, ap, arith}
use Rattle.std.proofs.lemmas.Bool.{cases_Bool, le-leb, lt-leb, leb-true, leb-false}
use Rattle.std.proofs.lemmas.List.Elements.{filter-append}
use Rattle.std.proofs.lemmas.List.{take-take}
use Rattle.std.specs.List.{flat_map}
use Rattle.laws.proofs.Words.{Change, Entry, Tuple, Version, changes_from, placed, there_after}
use Rattle.tuples.specs.Log.{is_at}
use Rattle.tuples.specs.Versions.{there_at}

abbrev at_or_below : ℕ → Version → Bool
at_or_below s v = nat_le v.place s

abbrev pub changes_of : List Version → List Change
changes_of = map (λ (v : Version). v.change)

map-append : (xs ys : List Version) → changes_of (xs ++ ys) ≡ changes_of xs ++ changes_of ys
map-append [] ys = refl
map-append (x ∷ xs) ys = ap (λ (l : List Change). x.change ∷ l) (map-append xs ys)

-- changes at a place that counts all count
all_count : (s place : ℕ) (changes : List Change) → place ≤ s → changes_of (filter (at_or_below s) (placed place changes)) ≡ changes
all_count s place [] le = refl
all_count s place (c ∷ changes) le = rw (le-leb place s le) (ap (λ (l : List Change). c ∷ l) (all_count s place changes le))

none_counts : (s place : ℕ) (changes : List Change) → s < place → filter (at_or_below s) (placed place changes) ≡ []
none_counts s place [] lt = refl
none_counts s place (c ∷ changes) lt = rw (lt-leb place s lt) (none_counts s place changes lt)

none_counts_from : (s place : ℕ) (log : List Entry) → s < place → filter (at_or_below s) (changes_from place log) ≡ []
none_counts_from s place [] lt = refl
none_counts_from s place (w ∷ log) lt =
    filter-append (at_or_below s) (placed place w.changes) (changes_from (place + 1) log)
    ∙ ap (λ (l : List Version). l ++ filter (at_or_below s) (changes_from (place + 1) log)) (none_counts s place w.changes lt)
    ∙ none_counts_from s (place + 1) log (omega arith)

cases_le : (a b : ℕ) → (a ≤ b) ⊎ (b < a)
cases_le a b = ⊎_elim (λ yes. inl (leb-true a b yes)) (λ no. inr (leb-false a b no)) (cases_Bool (nat_le a b))

take_none : {X : Type 0} (n : ℕ) (xs : List X) → n ≡ 0 → take n xs ≡ []
take_none n xs is = ap (λ k. take k xs) is ∙ refl

-- the changes at places up to s are those of the first writes
counted_changes : (s place : ℕ) (log : List Entry) → changes_of (filter (at_or_below s) (changes_from place log)) ≡ flat_map (λ (w : Entry). w.changes) (take (s + 1 - place) log)
counted_changes s place [] = nothing (s + 1 - place)
  where
    nothing : (n : ℕ) → [] ≡ flat_map (λ (w : Entry). w.changes) (take n [])
    nothing zero = refl
    nothing (suc n) = refl
counted_changes s place (w ∷ log) = ⊎_elim
    (λ le.
    let rest = counted_changes s (place + 1) log in
    let n : s + 1 - place ≡ suc (s + 1 - (place + 1)) = omega arith in
    ap changes_of (filter-append (at_or_below s) (placed place w.changes) (changes_from (place + 1) log))
    ∙ map-append (filter (at_or_below s) (placed place w.changes)) (filter (at_or_below s) (changes_from (place + 1) log))
    ∙ ap (λ (l : List Change). l ++ changes_of (filter (at_or_below s) (changes_from (place + 1) log))) (all_count s place w.changes le)
    ∙ ap (λ (l : List Change). w.changes ++ l) rest
    ∙ ap (λ (k : ℕ). flat_map (λ (v : Entry). v.changes) (take k (w ∷ log))) (sym n))
    (λ lt.
    let n : s + 1 - place ≡ 0 = omega arith in
    ap changes_of (none_counts_from s place (w ∷ log) lt)
    ∙ ap (flat_map (λ (v : Entry). v.changes)) (sym (take_none (s + 1 - place) (w ∷ log) n)))
    (cases_le place s)

-- at a place up to p, a tuple is there by the changes of the first p writes as the log says
pub there_at-changes : (log : List Entry) (p s : ℕ) (t : Tuple) → s ≤ p → there_at (changes_from 1 (take p log)) s t ≡ is_at log s t
unfolding there_at is_at
there_at-changes log p s t le =
    let n : s + 1 - 1 ≡ s = omega arith in
    ap (there_after t false) (counted_changes s 1 (take p log)
    ∙ ap (λ (k : ℕ). flat_map (λ (w : Entry). w.changes) (take k (take p log))) n
    ∙ ap (flat_map (λ (w : Entry). w.changes)) (take-take s p log le))

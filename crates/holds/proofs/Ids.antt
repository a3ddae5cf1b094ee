-- Ids in their order.
use Rattle.std.proofs.Common.{◌≡◌, ◌⊎◌, inl, inr, ⊎_elim, ◌<◌, ◌&&◌, ◌==◌, Bool, List, [], ◌∷◌, refl, sym, ◌∙◌, ap}
use Rattle.std.specs.Cmp.{IsEquivalence, IsTotalOrder, ranked, unsigned_ties}
use Rattle.std.specs.List.Sorted.{IsStrictlySortedBy}
use Rattle.std.specs.Ordering.{nat_cmp, ordering_then, eq_by_cmp}
use Rattle.std.specs.declared.cmp.Ordering.{Ordering}
use Rattle.std.specs.declared.cmp.Ordering.TheVariants.{Less, Equal, Greater}
use Rattle.std.proofs.lemmas.Cmp.{eq_by_cmp_equiv, on_total, then_total, nat_cmp_total}
use Rattle.tuples.specs.declared.entry.WriteId.{WriteId}
use Rattle.tuples.specs.Log.{same_id}
use Rattle.tuples.proofs.Same.{is_eq_then}
use Rattle.holds.proofs.Doubts.{same_id_refl, same_id_true}
use Rattle.records.specs.Replays.{id_cmp}
use Rattle.holds.specs.Holds.{AreAscendingIds}

pub id_total : IsTotalOrder id_cmp
id_total = then_total (on_total (λ (a : WriteId). a.epoch) nat_cmp_total) (on_total (λ (a : WriteId). a.number) nat_cmp_total)

pub id_ties : (a b : WriteId) → same_id a b ≡ eq_by_cmp id_cmp a b
id_ties a b =
    ap (λ (t : Bool). t && (a.number == b.number)) (unsigned_ties a.epoch b.epoch) ∙ ap (λ (t : Bool). eq_by_cmp nat_cmp a.epoch b.epoch && t) (unsigned_ties a.number b.number) ∙ sym (is_eq_then (nat_cmp a.epoch b.epoch) (nat_cmp a.number b.number))

first_less : (x y : Ordering) → ordering_then x y ≡ Less → (x ≡ Less) ⊎ ((x ≡ Equal) × (y ≡ Less))
first_less Less y is = inl refl
first_less Equal y is = inr (refl, is)
first_less Greater y is = absurd cc

pub below : (a b : WriteId) → id_cmp a b ≡ Less → (a.epoch < b.epoch) ⊎ ((a.epoch ≡ b.epoch) × (a.number < b.number))
below a b is = ⊎_elim
    (λ epoch. inl (ranked a.epoch b.epoch Less (sym epoch)))
    (λ both. inr (ranked a.epoch b.epoch Equal (sym both.0), ranked a.number b.number Less (sym both.1)))
    (first_less (nat_cmp a.epoch b.epoch) (nat_cmp a.number b.number) is)

pub ascending : (ids : List WriteId) → IsStrictlySortedBy id_cmp ids → AreAscendingIds ids
unfolding IsStrictlySortedBy
ascending [] sorted = tt
ascending (i ∷ []) sorted = tt
ascending (i ∷ j ∷ ids) sorted = (below i j sorted.0.0, ascending (j ∷ ids) sorted.1)

pub id_equivalence : IsEquivalence same_id
id_equivalence = record {
  refl = same_id_refl;
  symm = λ a b. id_ties a b ∙ (eq_by_cmp_equiv id_total).symm a b ∙ sym (id_ties b a);
  congr = λ a b d same. ap (λ (i : WriteId). same_id i d) (same_id_true a b same);
}

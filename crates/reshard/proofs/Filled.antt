-- What one node more has.
use Rattle.std.proofs.Common.{◌≡◌, ◌≢◌, ◌⊎◌, ◌<◌, ◌+◌, ◌↔◌, ℕ, List, Some, ⊎_elim, length, get_or, set, slice_get, length-set, refl, sym, ◌∙◌, ap, subst, arith}
use Rattle.std.proofs.lemmas.List.{get_or-set_other, get_or-set_same}
use Rattle.std.proofs.lemmas.List.Elements.{All-set}
use Rattle.std.proofs.lemmas.Option.{get_or_from_slice_get, slice_get-get_or, slice_get_within}
use Rattle.calls.specs.declared.carrying.Reach.{Reach}
use Rattle.device.specs.Device.{State}
use Rattle.journal.specs.Beginnings.{BegunView}
use Rattle.journal.specs.Records.{HasRecords}
use Rattle.tuples.specs.declared.version.Version.{Version}
use Rattle.reshard.specs.Made.{AreHonest, HaveShards, shard_first, shard_of_store}
use Rattle.reshard.specs.Written.{KeepsFirst}
use Rattle.reshard.proofs.Written.{keeps_first_set}

module _ {X : Type 0} where
  -- what stands at another place stood there before
  pub other_place : (xs : List X) (i j : ℕ) (x y : X) → j ≢ i → slice_get (set xs i x) j ≡ Some y → slice_get xs j ≡ Some y
  other_place xs i j x y other is =
      let within : j < length xs = omega (arith, slice_get_within (set xs i x) j y is, length-set xs i x) in
      slice_get-get_or xs j y within ∙ ap (λ (z : X). Some z) (sym (get_or-set_other xs i j x y other) ∙ get_or_from_slice_get (set xs i x) j y y is)

  pub same_place : (xs : List X) (i j : ℕ) (x y : X) → j ≡ i → i < length xs → slice_get (set xs i x) j ≡ Some y → x ≡ y
  same_place xs i j x y same within is =
      let there = subst (λ (k : ℕ). slice_get (set xs i x) k ≡ Some y) same is in
      sym (get_or-set_same xs i x y within) ∙ get_or_from_slice_get (set xs i x) i y y there

module _ {D : Type 0} (state : D → State) (honest : D → Type 0) where
  pub honest_at : (nodes : List (BegunView D)) (i : ℕ) (n : BegunView D) → i < length nodes → n ≡ get_or nodes i n → AreHonest honest nodes → honest n.a × honest n.b
  honest_at nodes i n within is all = subst (λ (m : BegunView D). honest m.a × honest m.b) (sym is) (all i n within)

  pub honest_kept : (nodes : List (BegunView D)) (i : ℕ) (was new : BegunView D) → i < length nodes → was ≡ get_or nodes i was → (honest was.a ↔ honest new.a) × (honest was.b ↔ honest new.b)
      → AreHonest honest nodes → AreHonest honest (set nodes i new)
  honest_kept nodes i was new within is too all =
      let here = honest_at nodes i was within is all in
      All-set (λ (n : BegunView D). honest n.a × honest n.b) nodes i new (too.0.0 here.0, too.1.0 here.1) all

  module _ (store shards : ℕ) (reach : Reach) (rows : List Version) (old : List (BegunView D)) where
    -- the shards so far have their own
    pub record SoFar (count : ℕ) (nodes : List (BegunView D)) : Type 0 where
      pub count_is : length nodes ≡ length old
      pub still_honest : AreHonest honest old → AreHonest honest nodes
      pub have : AreHonest honest old → HaveShards state store shards reach rows count nodes
      pub head : KeepsFirst old nodes

    pub none_so_far : SoFar 0 old
    none_so_far = record { count_is = refl; still_honest = λ all. all; have = λ all s below. absurd (omega arith); head = λ head others is. (others, is) }

    pub one_so_far : (s i : ℕ) (nodes : List (BegunView D)) (was new : BegunView D) → SoFar s nodes → i ≡ s + 1 → i < length nodes → was ≡ get_or nodes i was
        → (honest was.a ↔ honest new.a) × (honest was.b ↔ honest new.b) → (honest was.a → honest was.b → HasRecords (state new.a) (state new.b) (shard_first (shard_of_store store shards s) reach rows))
        → SoFar (s + 1) (set nodes i new)
    one_so_far s i nodes was new before at within is honest_too has = record {
      count_is = omega (arith, length-set nodes i new, before.count_is);
      still_honest = λ all. honest_kept nodes i was new within is honest_too (before.still_honest all);
      have = λ all t below n there.
          let here = honest_at nodes i was within is (before.still_honest all) in
          ⊎_elim
          (λ (earlier : t < s). before.have all t earlier n (other_place nodes i (t + 1) new n (λ same. omega (arith, same, at, earlier)) there))
          (λ (last : t ≡ s).
          let is_new = same_place nodes i (t + 1) new n (omega (arith, at, last)) within there in
          subst (λ (m : BegunView D). HasRecords (state m.a) (state m.b) (shard_first (shard_of_store store shards t) reach rows)) is_new
          (subst (λ (k : ℕ). HasRecords (state new.a) (state new.b) (shard_first (shard_of_store store shards k) reach rows)) (sym last) (has here.0 here.1)))
          (earlier_or_last t s below);
      head = keeps_first_set old nodes i s new at before.head;
    }
      where
        earlier_or_last : (t s : ℕ) → t < s + 1 → (t < s) ⊎ (t ≡ s)
        earlier_or_last t s below = grind arith

-- Which seat has which view, and so which number, after a step.
use Rattle.std.proofs.Common.{◌≡◌, ◌≢◌, ◌⊎◌, inl, inr, ⊎_elim, ℕ, zero, suc, List, [], ◌∷◌, ◌++◌, set, length, Contains, refl, sym, ap, ◌∙◌, subst}
use mathlib.Core.Option.{some, some-ne-none, some-injective}
use lib.ListN.{get_elem?}
use Rattle.atomic_table.proofs.Lists.{at_set}
use Rattle.joint.specs.declared.rule.View.{View}
use Rattle.joint.specs.Views.{nobody}

-- the last of a longer list, or one of the others
pub at_end : {A : Type 0} (l : List A) (a b : A) (j : ℕ) → get_elem? (l ++ a ∷ []) j ≡ some b → (get_elem? l j ≡ some b) ⊎ ((j ≡ length l) × (a ≡ b))
at_end [] a b zero e = inr (refl, some-injective a b e)
at_end [] a b (suc j) e = absurd (some-ne-none b (sym e))
at_end (x ∷ xs) a b zero e = inl e
at_end (x ∷ xs) a b (suc j) e = ⊎_elim (λ old. inl old) (λ last. inr (ap suc last.0, last.1)) (at_end xs a b j e)

module _ {P T F : Type 0} where
  -- after a change, a join and a split each number is held by the seat that held it before
  module _ (views : List (View P T F)) (id : ℕ) (v : View P T F) (at : get_elem? views id ≡ some v) where
    abbrev pub Stepped : View P T F → ℕ → View P T F → Type 0
    Stepped w j x = ((j ≡ id) × (w ≡ x)) ⊎ ((j ≢ id) × (get_elem? views j ≡ some x))

    -- at a join the other is nobody's, this one has both, and the rest stay
    abbrev pub Joined : ℕ → View P T F → ℕ → View P T F → Type 0
    Joined other both j x = ((j ≡ other) × (nobody ≡ x)) ⊎ (((j ≡ id) × (both ≡ x)) ⊎ ((j ≢ id) × (j ≢ other) × (get_elem? views j ≡ some x)))

    pub joined : (other : ℕ) (both : View P T F) (j : ℕ) (x : View P T F) → get_elem? (set (set views id both) other nobody) j ≡ some x → Joined other both j x
    joined other both j x e = ⊎_elim
        (λ spent. inl spent)
        (λ rest. ⊎_elim (λ here. inr (inl here)) (λ old. inr (inr (old.0, rest.0, old.1))) (at_set views id j both x rest.1))
        (at_set (set views id both) other j nobody x e)

    -- at a split this one has what is left, the last one the rest, and the others stay
    abbrev pub Parted : View P T F → View P T F → ℕ → View P T F → Type 0
    Parted left rest j x = ((j ≡ id) × (left ≡ x)) ⊎ (((j ≡ length (set views id left)) × (rest ≡ x)) ⊎ ((j ≢ id) × (get_elem? views j ≡ some x)))

    pub parted : (left rest : View P T F) (j : ℕ) (x : View P T F) → get_elem? (set views id left ++ rest ∷ []) j ≡ some x → Parted left rest j x
    parted left rest j x e = ⊎_elim
        (λ old. ⊎_elim (λ here. inl here) (λ other. inr (inr other)) (at_set views id j left x old))
        (λ last. inr (inl last))
        (at_end (set views id left) rest x j e)

    -- of parts, and of goods: no two seats hold one number
    module _ {A : Type 0} (h : View P T F → List (ℕ × A)) (once : (i j : ℕ) (x y : View P T F) (n : ℕ) (a b : A) → get_elem? views i ≡ some x → get_elem? views j ≡ some y → Contains (h x) (n, a) → Contains (h y) (n, b) → i ≡ j) where
      -- what a step gives a seat it held before, or nobody did
      module _ (w : View P T F) (had : (n : ℕ) (a : A) → Contains (h w) (n, a) → ((b : A) × Contains (h v) (n, b)) ⊎ ((j : ℕ) (y : View P T F) (b : A) → get_elem? views j ≡ some y → Contains (h y) (n, b) → ⊥)) where
        not_else : (j : ℕ) (y : View P T F) (n : ℕ) (a b : A) → Contains (h w) (n, a) → (j ≢ id) × (get_elem? views j ≡ some y) → Contains (h y) (n, b) → ⊥
        not_else j y n a b is other is' = ⊎_elim (λ old. other.0 (once j id y v n b old.0 other.1 at is' old.1)) (λ new. new j y b other.1 is') (had n a is)

        pub once_stepped : (i j : ℕ) (x y : View P T F) (n : ℕ) (a b : A) → Stepped w i x → Stepped w j y → Contains (h x) (n, a) → Contains (h y) (n, b) → i ≡ j
        once_stepped i j x y n a b (inl one) (inl two) is is' = one.0 ∙ sym two.0
        once_stepped i j x y n a b (inl one) (inr two) is is' = absurd (not_else j y n a b (subst (λ (z : View P T F). Contains (h z) (n, a)) (sym one.1) is) two is')
        once_stepped i j x y n a b (inr one) (inl two) is is' = absurd (not_else i x n b a (subst (λ (z : View P T F). Contains (h z) (n, b)) (sym two.1) is') one is)
        once_stepped i j x y n a b (inr one) (inr two) is is' = once i j x y n a b one.1 two.1 is is'

      module _ (other : ℕ) (u both : View P T F) (there : get_elem? views other ≡ some u) (of : (n : ℕ) (a : A) → Contains (h both) (n, a) → Contains (h v) (n, a) ⊎ Contains (h u) (n, a))
          (spent_none : (n : ℕ) (a : A) → Contains (h nobody) (n, a) → ⊥) where
        once_both : (j : ℕ) (y : View P T F) (n : ℕ) (a b : A) → Contains (h both) (n, a) → (j ≢ id) × (j ≢ other) × (get_elem? views j ≡ some y) → Contains (h y) (n, b) → ⊥
        once_both j y n a b is old is' = ⊎_elim
            (λ mine. old.0 (once j id y v n b a old.2 at is' mine))
            (λ theirs. old.1 (once j other y u n b a old.2 there is' theirs))
            (of n a is)

        pub once_joined : (i j : ℕ) (x y : View P T F) (n : ℕ) (a b : A) → Joined other both i x → Joined other both j y → Contains (h x) (n, a) → Contains (h y) (n, b) → i ≡ j
        once_joined i j x y n a b (inl spent) later is is' = absurd (spent_none n a (subst (λ (z : View P T F). Contains (h z) (n, a)) (sym spent.1) is))
        once_joined i j x y n a b (inr old) (inl spent) is is' = absurd (spent_none n b (subst (λ (z : View P T F). Contains (h z) (n, b)) (sym spent.1) is'))
        once_joined i j x y n a b (inr (inl here)) (inr (inl too)) is is' = here.0 ∙ sym too.0
        once_joined i j x y n a b (inr (inl here)) (inr (inr old)) is is' = absurd (once_both j y n a b (subst (λ (z : View P T F). Contains (h z) (n, a)) (sym here.1) is) old is')
        once_joined i j x y n a b (inr (inr old)) (inr (inl here)) is is' = absurd (once_both i x n b a (subst (λ (z : View P T F). Contains (h z) (n, b)) (sym here.1) is') old is)
        once_joined i j x y n a b (inr (inr old)) (inr (inr too)) is is' = once i j x y n a b old.2 too.2 is is'

      module _ (left rest : View P T F) (of_left : (n : ℕ) (a : A) → Contains (h left) (n, a) → Contains (h v) (n, a)) (of_rest : (n : ℕ) (a : A) → Contains (h rest) (n, a) → Contains (h v) (n, a))
          (apart : (n : ℕ) (a b : A) → Contains (h left) (n, a) → Contains (h rest) (n, b) → ⊥) where
        has_left : (x : View P T F) (n : ℕ) (a : A) → left ≡ x → Contains (h x) (n, a) → Contains (h left) (n, a)
        has_left x n a is = subst (λ (z : View P T F). Contains (h z) (n, a)) (sym is)

        has_rest : (x : View P T F) (n : ℕ) (a : A) → rest ≡ x → Contains (h x) (n, a) → Contains (h rest) (n, a)
        has_rest x n a is = subst (λ (z : View P T F). Contains (h z) (n, a)) (sym is)

        pub once_parted : (i j : ℕ) (x y : View P T F) (n : ℕ) (a b : A) → Parted left rest i x → Parted left rest j y → Contains (h x) (n, a) → Contains (h y) (n, b) → i ≡ j
        once_parted i j x y n a b (inl l) (inl too) is is' = l.0 ∙ sym too.0
        once_parted i j x y n a b (inl l) (inr (inl r)) is is' = absurd (apart n a b (has_left x n a l.1 is) (has_rest y n b r.1 is'))
        once_parted i j x y n a b (inl l) (inr (inr old)) is is' = absurd (old.0 (once j id y v n b a old.1 at is' (of_left n a (has_left x n a l.1 is))))
        once_parted i j x y n a b (inr (inl r)) (inl l) is is' = absurd (apart n b a (has_left y n b l.1 is') (has_rest x n a r.1 is))
        once_parted i j x y n a b (inr (inl r)) (inr (inl too)) is is' = r.0 ∙ sym too.0
        once_parted i j x y n a b (inr (inl r)) (inr (inr old)) is is' = absurd (old.0 (once j id y v n b a old.1 at is' (of_rest n a (has_rest x n a r.1 is))))
        once_parted i j x y n a b (inr (inr old)) (inl l) is is' = absurd (old.0 (once i id x v n a b old.1 at is (of_left n b (has_left y n b l.1 is'))))
        once_parted i j x y n a b (inr (inr old)) (inr (inl r)) is is' = absurd (old.0 (once i id x v n a b old.1 at is (of_rest n b (has_rest y n b r.1 is'))))
        once_parted i j x y n a b (inr (inr old)) (inr (inr too)) is is' = once i j x y n a b old.1 too.1 is is'

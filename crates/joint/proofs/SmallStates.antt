-- Views of two passes that meet the rule, and mistakes, each with the clause that refuses it.
use Rattle.std.proofs.Common.{◌≡◌, ℕ, zero, suc, true, List, [], ◌∷◌, Some, None, Contains, refl, sym, ap, ◌∙◌, subst, arith}
use Rattle.std.proofs.lemmas.Option.{same_Some}
use mathlib.Core.Option.{some, some-ne-none, some-injective}
use lib.ListN.{get_elem?}
use Rattle.joint.specs.declared.rule.View.{View}
use Rattle.joint.specs.Examples.{HasReached, IsBehind}
use Rattle.joint.specs.Held.{AreApart, under}
use Rattle.joint.specs.Whole.{Kept, of_parts}
use Rattle.joint.proofs.Held.{none_has, only_here, only_one}

abbrev holds_part : ℕ → ℕ → List ℕ → View ℕ ℕ ℕ
holds_part number value facts = record { has_begun = true; parts = (number, value) ∷ []; goods = []; facts = facts }

abbrev IsKept : View ℕ ℕ ℕ → View ℕ ℕ ℕ → Type 0
IsKept one other = Kept IsBehind HasReached (one ∷ other ∷ [])

each : {one other : View ℕ ℕ ℕ} (Q : ℕ → View ℕ ℕ ℕ → Type 0) → Q 0 one → Q 1 other → (i : ℕ) (v : View ℕ ℕ ℕ) → get_elem? (one ∷ other ∷ []) i ≡ some v → Q i v
each Q x y zero v at = subst (Q 0) (some-injective _ _ at) x
each Q x y (suc zero) v at = subst (Q 1) (some-injective _ _ at) y
each Q x y (suc (suc i)) v at = absurd (some-ne-none v (sym at))

-- the count is at 7, which covers the fact 5 and the other part
abbrev counting : View ℕ ℕ ℕ
counting = holds_part 0 7 (5 ∷ [])

abbrev following : View ℕ ℕ ℕ
following = holds_part 1 5 []

met : IsKept counting following
unfolding AreApart under
met = record {
  whole = of_parts ((0, 7) ∷ (1, 5) ∷ []);
  law = λ count follower at_0 at_1.
      let is_count : 7 ≡ count = same_Some _ _ at_0 in
      let is_follower : 5 ≡ follower = same_Some _ _ at_1 in
      omega (arith, is_count, is_follower);
  parts = each (λ _ v. (n p : ℕ) → Contains v.parts (n, p) → under ((0, 7) ∷ (1, 5) ∷ []) n ≡ Some p)
      (λ n p has. let is = only_one (0, 7) (n, p) has in ap (λ (x : ℕ × ℕ). under ((0, 7) ∷ (1, 5) ∷ []) x.0) (sym is) ∙ ap (λ (x : ℕ × ℕ). Some x.1) is)
      (λ n p has. let is = only_one (1, 5) (n, p) has in ap (λ (x : ℕ × ℕ). under ((0, 7) ∷ (1, 5) ∷ []) x.0) (sym is) ∙ ap (λ (x : ℕ × ℕ). Some x.1) is);
  goods = each (λ _ v. (n t : ℕ) → Contains v.goods (n, t) → None ≡ Some t) (λ n t has. absurd (none_has (n, t) has)) (λ n t has. absurd (none_has (n, t) has));
  one_part = λ i j v u n p q at_i at_j has has'. numbered_alike i j v u n p q at_i at_j has has';
  one_goods = λ i j v u n p q at_i at_j has. absurd (no_goods i v at_i n p has);
  begun = each (λ _ v. v.has_begun ≡ true) refl refl;
  apart = each (λ _ v. AreApart v.parts) ((λ a has. absurd (none_has (0, a) has)), tt) ((λ a has. absurd (none_has (1, a) has)), tt);
  facts = λ i v f at has. reached i v at f has;
  issued = 0;
  no_more = λ n le. refl;
}
  where
    no_goods : (i : ℕ) (v : View ℕ ℕ ℕ) → get_elem? (counting ∷ following ∷ []) i ≡ some v → (n t : ℕ) → Contains v.goods (n, t) → ⊥
    no_goods = each (λ _ v. (n t : ℕ) → Contains v.goods (n, t) → ⊥) (λ n t has. none_has (n, t) has) (λ n t has. none_has (n, t) has)

    reached : (i : ℕ) (v : View ℕ ℕ ℕ) → get_elem? (counting ∷ following ∷ []) i ≡ some v → (f : ℕ) → Contains v.facts f → HasReached (of_parts ((0, 7) ∷ (1, 5) ∷ [])) f
    reached = each (λ _ v. (f : ℕ) → Contains v.facts f → HasReached (of_parts ((0, 7) ∷ (1, 5) ∷ [])) f)
        (λ f has. let is = only_one 5 f has in (7, refl, omega (arith, is)))
        (λ f has. absurd (none_has f has))

    -- each seat holds the part of its own number
    own : (i : ℕ) (v : View ℕ ℕ ℕ) → get_elem? (counting ∷ following ∷ []) i ≡ some v → (n p : ℕ) → Contains v.parts (n, p) → i ≡ n
    own = each (λ i v. (n p : ℕ) → Contains v.parts (n, p) → i ≡ n)
        (λ n p has. ap (λ (x : ℕ × ℕ). x.0) (only_one (0, 7) (n, p) has))
        (λ n p has. ap (λ (x : ℕ × ℕ). x.0) (only_one (1, 5) (n, p) has))

    numbered_alike : (i j : ℕ) (v u : View ℕ ℕ ℕ) (n p q : ℕ) → get_elem? (counting ∷ following ∷ []) i ≡ some v → get_elem? (counting ∷ following ∷ []) j ≡ some u → Contains v.parts (n, p) → Contains u.parts (n, q) → i ≡ j
    numbered_alike i j v u n p q at_i at_j has has' = own i v at_i n p has ∙ sym (own j u at_j n q has')

-- a part beyond the one that it follows
no_part_beyond : IsKept (holds_part 0 4 []) (holds_part 1 5 []) → ⊥
no_part_beyond k = let le = k.law 4 5 (k.parts 0 _ refl 0 4 (only_here (0, 4))) (k.parts 1 _ refl 1 5 (only_here (1, 5))) in omega (arith, le)

-- a fact that is not right
no_wrong_fact : IsKept (holds_part 0 7 (8 ∷ [])) following → ⊥
no_wrong_fact k =
    let reached = k.facts 0 _ 8 refl (only_here 8) in
    let is : reached.0 ≡ 7 = same_Some _ _ (sym reached.1 ∙ k.parts 0 _ refl 0 7 (only_here (0, 7))) in
    let le = reached.2 in
    omega (arith, is, le)

-- one part in two hands, though both say the same of it
no_part_twice : IsKept (holds_part 0 7 []) (holds_part 0 7 []) → ⊥
no_part_twice k = let same = k.one_part 0 1 _ _ 0 7 7 refl refl (only_here (0, 7)) (only_here (0, 7)) in omega (arith, same)

-- goods in two hands
abbrev holds_goods : View ℕ ℕ ℕ
holds_goods = record { has_begun = true; parts = []; goods = (3, 1) ∷ []; facts = [] }

no_goods_twice : IsKept holds_goods holds_goods → ⊥
no_goods_twice k = let same = k.one_goods 0 1 _ _ 3 1 1 refl refl (only_here (3, 1)) (only_here (3, 1)) in omega (arith, same)

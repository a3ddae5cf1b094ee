-- Each step keeps the rule.
use Rattle.std.proofs.Common.{◌≡◌, ◌≢◌, ◌⊎◌, inl, inr, ⊎_elim, ℕ, zero, suc, ◌≤◌, ◌+◌, true, false, List, [], ◌∷◌, ◌++◌, set, Option, Some, None, Contains, refl, sym, ap, ◌∙◌, subst, arith}
use Rattle.std.proofs.lemmas.List.Elements.{Contains-append_cases}
use mathlib.Core.Option.{none, some, some-ne-none, some-injective}
use lib.ListN.{get_elem?}
use Rattle.atomic_table.specs.Table.{Allows, Joins, Me, Splits, State, keeps, step}
use Rattle.atomic_table.proofs.Lists.{at_set, set_again}
use Rattle.joint.specs.declared.rule.View.{View}
use Rattle.joint.specs.Held.{AreApart, IsOf, numbered, under}
use Rattle.joint.specs.Views.{both_of, changed, nobody, only_facts, only_first, only_goods, opener, unbegun, with_issued, without_first, without_goods}
use Rattle.joint.specs.Whole.{Admits, Begun, Changed, GoesOn, Has, IsRuled, Issued, Kept, Looked, Starts, Whole, of_parts, with_goods, with_put}
use Rattle.joint.proofs.Held.{apart_both, apart_first, apart_in_place, apart_rest, found, its_number, none_apart, none_has, not_both, number_of, numbered_here, of_first, of_rest, put_else, put_here, value_else}
use Rattle.joint.proofs.Seats.{Joined, Parted, Stepped, joined, once_joined, once_parted, once_stepped, parted}

-- a list of one has one seat
alone : {A : Type 0} (a b : A) (i : ℕ) → get_elem? (a ∷ []) i ≡ some b → (i ≡ 0) × (a ≡ b)
alone a b zero e = (refl, some-injective a b e)
alone a b (suc i) e = absurd (some-ne-none b (sym e))

module _ {P T F : Type 0} (holds : Whole P T → Type 0) (right : Whole P T → F → Type 0) where
  -- a seat that is a pass has a state that has begun
  kept_of : (s : State (Unit {0}) (View P T F)) (id : ℕ) (v : View P T F) → get_elem? s.views id ≡ some v → v.has_begun ≡ true → IsRuled holds right s → Kept holds right s.views
  kept_of s id v at begun (inl not_yet) =
      let is = (alone unbegun v id (ap (λ (l : List (View P T F)). get_elem? l id) (sym not_yet) ∙ at)).1 in
      let both : false ≡ true = ap (λ (x : View P T F). x.has_begun) is ∙ begun in
      absurd cc
  kept_of s id v at begun (inr k) = k

  -- the state has what the pass of a seat holds
  had : (views : List (View P T F)) (k : Kept holds right views) (id : ℕ) (v : View P T F) → get_elem? views id ≡ some v → Has holds right v.parts v.goods v.facts k.whole
  had views k id v at = record { law = k.law; parts = k.parts id v at; goods = k.goods id v at; facts = λ f has. k.facts id v f at has }

  -- the first step
  module _ (views : List (View P T F)) (id : ℕ) (not_yet : views ≡ unbegun ∷ []) (at : get_elem? views id ≡ some unbegun) (parts : List (ℕ × P)) (fs : List F) (starts : Starts holds right parts fs) where
    only : (i : ℕ) (x : View P T F) → get_elem? (set views id (opener parts fs)) i ≡ some x → (i ≡ id) × (opener parts fs ≡ x)
    only i x e = ⊎_elim
        (λ mine. mine)
        (λ other.
        let here = (alone unbegun unbegun id (ap (λ (l : List (View P T F)). get_elem? l id) (sym not_yet) ∙ at)).0 in
        let there = (alone unbegun x i (ap (λ (l : List (View P T F)). get_elem? l i) (sym not_yet) ∙ other.1)).0 in
        absurd (other.0 (there ∙ sym here)))
        (at_set views id i (opener parts fs) x e)

    started : Kept holds right (set views id (opener parts fs))
    started = record {
      whole = of_parts parts;
      law = starts.law;
      parts = λ i x e. subst (λ (v : View P T F). IsOf v.parts (under parts)) (only i x e).1 (found parts starts.apart);
      goods = λ i x e n t has. absurd (none_has (n, t) (subst (λ (v : View P T F). Contains v.goods (n, t)) (sym (only i x e).1) has));
      one_part = λ i j x y n p q e e' has has'. (only i x e).0 ∙ sym (only j y e').0;
      one_goods = λ i j x y n p q e e' has has'. (only i x e).0 ∙ sym (only j y e').0;
      begun = λ i x e. ap (λ (v : View P T F). v.has_begun) (sym (only i x e).1);
      apart = λ i x e. subst (λ (v : View P T F). AreApart v.parts) (only i x e).1 starts.apart;
      facts = λ i x f e has. starts.facts f (subst (λ (v : View P T F). Contains v.facts f) (sym (only i x e).1) has);
      issued = 0;
      no_more = λ n le. refl;
    }

  pub begins : (slots id : ℕ) (parts : List (ℕ × P)) (fs : List F) → Starts holds right parts fs → Allows (IsRuled holds right) slots id (unbegun, []) 0 (λ n. n) (Begun parts fs (step slots 0 0 0 none) (unbegun, []))
  begins slots id parts fs starts s ruled _ at _ = (
    opener parts fs,
    keeps,
    tt,
    inr (⊎_elim
        (λ not_yet. started s.views id not_yet at parts fs starts)
        (λ (k : Kept holds right s.views). let both : false ≡ true = k.begun id unbegun at in absurd cc)
        ruled),
    refl,
  )

  pub looks : (slots id : ℕ) (me : Me (Unit {0}) (View P T F)) → me.0.has_begun ≡ true → Allows (IsRuled holds right) slots id me 0 (λ n. n) (Looked holds right (step slots 0 0 0 none) me)
  looks slots id me begun s ruled _ at _ =
      let k = kept_of s id me.0 at begun ruled in (
        me.0,
        keeps,
        tt,
        inr (subst (Kept holds right) (sym (set_again s.views id me.0 at)) k),
        (refl, (k.whole, had s.views k id me.0 at)),
      )

  -- a step of one seat, after which the state is another
  module _ (views : List (View P T F)) (k : Kept holds right views) (id : ℕ) (v : View P T F) (at : get_elem? views id ≡ some v) (w : View P T F) (fs : List F) (later : Whole P T) (go : GoesOn holds right fs k.whole later)
      (begun : w.has_begun ≡ true) (apart : AreApart w.parts) (facts : (f : F) → Contains w.facts f → Contains v.facts f ⊎ Contains fs f)
      (parts : IsOf w.parts later.parts) (old_part : (n : ℕ) (p : P) → Contains w.parts (n, p) → (q : P) × Contains v.parts (n, q))
      (parts_stay : (n : ℕ) (p : P) → k.whole.parts n ≡ Some p → ((q : P) → Contains v.parts (n, q) → ⊥) → later.parts n ≡ Some p)
      (goods : IsOf w.goods later.goods) (old_goods : (n : ℕ) (t : T) → Contains w.goods (n, t) → ((u : T) × Contains v.goods (n, u)) ⊎ (k.whole.goods n ≡ None))
      (goods_stay : (n : ℕ) (t : T) → k.whole.goods n ≡ Some t → ((u : T) → Contains v.goods (n, u) → ⊥) → later.goods n ≡ Some t) (issued : ℕ) (no_more : (n : ℕ) → issued ≤ n → later.goods n ≡ None) where
    parts_on : (i : ℕ) (u : View P T F) → Stepped views id v at w i u → IsOf u.parts later.parts
    parts_on i u (inl mine) n q has = subst (λ (x : View P T F). IsOf x.parts later.parts) mine.1 parts n q has
    parts_on i u (inr other) n q has = parts_stay n q (k.parts i u other.1 n q has) (λ p is. other.0 (k.one_part i id u v n q p other.1 at has is))

    goods_on : (i : ℕ) (u : View P T F) → Stepped views id v at w i u → IsOf u.goods later.goods
    goods_on i u (inl mine) n q has = subst (λ (x : View P T F). IsOf x.goods later.goods) mine.1 goods n q has
    goods_on i u (inr other) n q has = goods_stay n q (k.goods i u other.1 n q has) (λ p is. other.0 (k.one_goods i id u v n q p other.1 at has is))

    facts_on : (i : ℕ) (u : View P T F) (f : F) → Stepped views id v at w i u → Contains u.facts f → right later f
    facts_on i u f (inl mine) has = ⊎_elim
        (λ old. go.stays f (k.facts id v f at old))
        (λ new. go.new f new)
        (facts f (subst (λ (x : View P T F). Contains x.facts f) (sym mine.1) has))
    facts_on i u f (inr other) has = go.stays f (k.facts i u f other.1 has)

    apart_on : (i : ℕ) (u : View P T F) → Stepped views id v at w i u → AreApart u.parts
    apart_on i u (inl mine) = subst (λ (x : View P T F). AreApart x.parts) mine.1 apart
    apart_on i u (inr other) = k.apart i u other.1

    begun_on : (i : ℕ) (u : View P T F) → Stepped views id v at w i u → u.has_begun ≡ true
    begun_on i u (inl mine) = ap (λ (x : View P T F). x.has_begun) (sym mine.1) ∙ begun
    begun_on i u (inr other) = k.begun i u other.1

    new_goods : (n : ℕ) (t : T) → Contains w.goods (n, t) → ((u : T) × Contains v.goods (n, u)) ⊎ ((j : ℕ) (y : View P T F) (u : T) → get_elem? views j ≡ some y → Contains y.goods (n, u) → ⊥)
    new_goods n t has = ⊎_elim
        (λ old. inl old)
        (λ (free : k.whole.goods n ≡ None). inr (λ j y u there is. let both : Some u ≡ None = sym (k.goods j y there n u is) ∙ free in absurd cc))
        (old_goods n t has)

    stepped : Kept holds right (set views id w)
    stepped = record {
      whole = later;
      law = go.law;
      parts = λ i u e. parts_on i u (at_set views id i w u e);
      goods = λ i u e. goods_on i u (at_set views id i w u e);
      one_part = λ i j x y n p q e e'. once_stepped views id v at (λ (z : View P T F). z.parts) k.one_part w (λ m r has. inl (old_part m r has)) i j x y n p q (at_set views id i w x e) (at_set views id j w y e');
      one_goods = λ i j x y n p q e e'. once_stepped views id v at (λ (z : View P T F). z.goods) k.one_goods w new_goods i j x y n p q (at_set views id i w x e) (at_set views id j w y e');
      begun = λ i u e. begun_on i u (at_set views id i w u e);
      apart = λ i u e. apart_on i u (at_set views id i w u e);
      facts = λ i u f e has. facts_on i u f (at_set views id i w u e) has;
      issued = issued;
      no_more = no_more;
    }

  pub changes : (slots id : ℕ) (me : Me (Unit {0}) (View P T F)) (p : Option P) (t : Option T) (fs : List F) → me.0.has_begun ≡ true
      → ((whole : Whole P T) → Has holds right me.0.parts me.0.goods me.0.facts whole → GoesOn holds right fs whole (with_put me.0.parts me.0.goods p t whole))
      → Allows (IsRuled holds right) slots id me 0 (λ n. n) (Changed p t fs (step slots 0 0 0 none) me)
  changes slots id me p t fs begun owed s ruled _ at _ =
      let v = me.0 in
      let k = kept_of s id v at begun ruled in
      let later = with_put v.parts v.goods p t k.whole in (
        changed p t fs v,
        keeps,
        tt,
        inr (stepped s.views k id v at (changed p t fs v) fs later (owed k.whole (had s.views k id v at)) begun (apart_in_place v.parts p (k.apart id v at))
            (λ f has. Contains-append_cases v.facts fs f has)
            (put_here v.parts p k.whole.parts (k.parts id v at))
            (number_of v.parts p)
            (λ n q is none. put_else v.parts p k.whole.parts n none ∙ is)
            (put_here v.goods t k.whole.goods (k.goods id v at))
            (λ n q has. inl (number_of v.goods t n q has))
            (λ n q is none. put_else v.goods t k.whole.goods n none ∙ is)
            k.issued
            (λ n le. put_else v.goods t k.whole.goods n (λ q has. let both : Some q ≡ None = sym (k.goods id v at n q has) ∙ k.no_more n le in absurd cc) ∙ k.no_more n le)),
        refl,
      )

  -- new goods, for a pass that holds nothing
  pub issues : (slots id : ℕ) (me : Me (Unit {0}) (View P T F)) (t : Option T) (fs : List F) → me.0.has_begun ≡ true → me.0.goods ≡ [] → me.0.parts ≡ [] → Admits holds right me.0.facts t fs
      → Allows (IsRuled holds right) slots id me 0 (λ n. n) (Issued t fs (step slots 0 0 0 none) me)
  issues slots id me t fs begun no_goods no_parts owed s ruled _ at _ =
      let v = me.0 in
      let k = kept_of s id v at begun ruled in
      let number = k.issued in
      let later = with_goods number t k.whole in
      let has_facts : Has holds right [] [] v.facts k.whole = record { law = k.law; parts = λ n p is. absurd (none_has (n, p) is); goods = λ n p is. absurd (none_has (n, p) is); facts = λ f is. k.facts id v f at is } in
      let free : k.whole.goods number ≡ None = k.no_more number (omega arith) in
      let new : (n : ℕ) (u : T) → Contains (v.goods ++ numbered number t) (n, u) → Contains (numbered number t) (n, u) = λ n u is. subst (λ (l : List (ℕ × T)). Contains (l ++ numbered number t) (n, u)) no_goods is in (
        with_issued number t fs v,
        keeps,
        tt,
        inr (stepped s.views k id v at (with_issued number t fs v) fs later (owed k.whole number has_facts free) begun (k.apart id v at)
            (λ f has. Contains-append_cases v.facts fs f has)
            (k.parts id v at)
            (λ n p is. (p, is))
            (λ n p is none. is)
            (λ n u is. numbered_here number t k.whole.goods n u (new n u is))
            (λ n u is. inr (ap k.whole.goods (its_number number t n u (new n u is)) ∙ free))
            (λ n u is none. value_else number t k.whole.goods n (λ same. let both : Some u ≡ None = sym is ∙ ap k.whole.goods same ∙ free in absurd cc) ∙ is)
            (number + 1)
            (λ n le. value_else number t k.whole.goods n (λ same. omega (arith, same, le)) ∙ k.no_more n (omega (arith, le)))),
        (number, refl),
      )

  pub joins : (id : ℕ) (v : View P T F) (other : ℕ) (u : View P T F) → v.has_begun ≡ true → Joins {S = Unit {0}} (IsRuled holds right) id v other u (both_of v u) nobody
  joins id v other u begun s ruled at apart there = inr (record {
    whole = k.whole;
    law = k.law;
    parts = λ j x e. parts_of j x (joined s.views id v at other (both_of v u) j x e);
    goods = λ j x e. goods_of j x (joined s.views id v at other (both_of v u) j x e);
    one_part = λ i j x y n p q e e'. once_joined s.views id v at (λ (z : View P T F). z.parts) k.one_part other u (both_of v u) theirs (λ n a is. Contains-append_cases v.parts u.parts (n, a) is) (λ n a is. none_has (n, a) is)
        i j x y n p q (joined s.views id v at other (both_of v u) i x e) (joined s.views id v at other (both_of v u) j y e');
    one_goods = λ i j x y n p q e e'. once_joined s.views id v at (λ (z : View P T F). z.goods) k.one_goods other u (both_of v u) theirs (λ n a is. Contains-append_cases v.goods u.goods (n, a) is) (λ n a is. none_has (n, a) is)
        i j x y n p q (joined s.views id v at other (both_of v u) i x e) (joined s.views id v at other (both_of v u) j y e');
    begun = λ j x e. begun_of j x (joined s.views id v at other (both_of v u) j x e);
    apart = λ j x e. apart_of j x (joined s.views id v at other (both_of v u) j x e);
    facts = λ j x f e has. facts_of j x f (joined s.views id v at other (both_of v u) j x e) has;
    issued = k.issued;
    no_more = k.no_more;
  })
    where
      k : Kept holds right s.views
      k = kept_of s id v at begun ruled

      theirs : get_elem? s.views other ≡ some u
      theirs = ⊎_elim (λ (t : (other ≡ id) × (both_of v u ≡ u)). absurd (apart t.0)) (λ (t : (other ≢ id) × (get_elem? s.views other ≡ some u)). t.1) (at_set s.views id other (both_of v u) u there)

      parts_of : (j : ℕ) (x : View P T F) → Joined s.views id v at other (both_of v u) j x → IsOf x.parts k.whole.parts
      parts_of j x (inl spent) n p has = absurd (none_has (n, p) (subst (λ (z : View P T F). Contains z.parts (n, p)) (sym spent.1) has))
      parts_of j x (inr (inl here)) n p has = ⊎_elim (λ mine. k.parts id v at n p mine) (λ other_has. k.parts other u theirs n p other_has)
          (Contains-append_cases v.parts u.parts (n, p) (subst (λ (z : View P T F). Contains z.parts (n, p)) (sym here.1) has))
      parts_of j x (inr (inr old)) n p has = k.parts j x old.2 n p has

      goods_of : (j : ℕ) (x : View P T F) → Joined s.views id v at other (both_of v u) j x → IsOf x.goods k.whole.goods
      goods_of j x (inl spent) n p has = absurd (none_has (n, p) (subst (λ (z : View P T F). Contains z.goods (n, p)) (sym spent.1) has))
      goods_of j x (inr (inl here)) n p has = ⊎_elim (λ mine. k.goods id v at n p mine) (λ other_has. k.goods other u theirs n p other_has)
          (Contains-append_cases v.goods u.goods (n, p) (subst (λ (z : View P T F). Contains z.goods (n, p)) (sym here.1) has))
      goods_of j x (inr (inr old)) n p has = k.goods j x old.2 n p has

      begun_of : (j : ℕ) (x : View P T F) → Joined s.views id v at other (both_of v u) j x → x.has_begun ≡ true
      begun_of j x (inl spent) = ap (λ (z : View P T F). z.has_begun) (sym spent.1)
      begun_of j x (inr (inl here)) = ap (λ (z : View P T F). z.has_begun) (sym here.1) ∙ begun
      begun_of j x (inr (inr old)) = k.begun j x old.2

      apart_of : (j : ℕ) (x : View P T F) → Joined s.views id v at other (both_of v u) j x → AreApart x.parts
      apart_of j x (inl spent) = subst (λ (z : View P T F). AreApart z.parts) spent.1 (none_apart P)
      apart_of j x (inr (inl here)) = subst (λ (z : View P T F). AreApart z.parts) here.1
          (apart_both v.parts u.parts (k.apart id v at) (k.apart other u theirs) (λ n p q mine other_has. apart (sym (k.one_part id other v u n p q at theirs mine other_has))))
      apart_of j x (inr (inr old)) = k.apart j x old.2

      facts_of : (j : ℕ) (x : View P T F) (f : F) → Joined s.views id v at other (both_of v u) j x → Contains x.facts f → right k.whole f
      facts_of j x f (inl spent) has = absurd (none_has f (subst (λ (z : View P T F). Contains z.facts f) (sym spent.1) has))
      facts_of j x f (inr (inl here)) has = ⊎_elim (λ mine. k.facts id v f at mine) (λ other_has. k.facts other u f theirs other_has)
          (Contains-append_cases v.facts u.facts f (subst (λ (z : View P T F). Contains z.facts f) (sym here.1) has))
      facts_of j x f (inr (inr old)) has = k.facts j x f old.2 has

  -- a split: what each of the two has the one had, not both the same, and both know what it knew
  module _ (id : ℕ) (v left rest : View P T F) (begun : v.has_begun ≡ true) (left_begun : left.has_begun ≡ true) (rest_begun : rest.has_begun ≡ true)
      (left_parts : (n : ℕ) (p : P) → Contains left.parts (n, p) → Contains v.parts (n, p)) (rest_parts : (n : ℕ) (p : P) → Contains rest.parts (n, p) → Contains v.parts (n, p))
      (parts_apart : AreApart v.parts → (n : ℕ) (p q : P) → Contains left.parts (n, p) → Contains rest.parts (n, q) → ⊥) (apart_left : AreApart v.parts → AreApart left.parts) (apart_right : AreApart v.parts → AreApart rest.parts)
      (left_goods : (n : ℕ) (t : T) → Contains left.goods (n, t) → Contains v.goods (n, t)) (rest_goods : (n : ℕ) (t : T) → Contains rest.goods (n, t) → Contains v.goods (n, t))
      (goods_apart : (n : ℕ) (t u : T) → Contains left.goods (n, t) → Contains rest.goods (n, u) → ⊥) (same_left : left.facts ≡ v.facts) (same_rest : rest.facts ≡ v.facts) where
    splits : Splits {S = Unit {0}} (IsRuled holds right) id v left rest
    splits s ruled at = inr (record {
      whole = k.whole;
      law = k.law;
      parts = λ j x e. parts_of j x (parted s.views id v at left rest j x e);
      goods = λ j x e. goods_of j x (parted s.views id v at left rest j x e);
      one_part = λ i j x y n p q e e'. once_parted s.views id v at (λ (z : View P T F). z.parts) k.one_part left rest left_parts rest_parts (parts_apart (k.apart id v at))
          i j x y n p q (parted s.views id v at left rest i x e) (parted s.views id v at left rest j y e');
      one_goods = λ i j x y n p q e e'. once_parted s.views id v at (λ (z : View P T F). z.goods) k.one_goods left rest left_goods rest_goods goods_apart
          i j x y n p q (parted s.views id v at left rest i x e) (parted s.views id v at left rest j y e');
      begun = λ j x e. begun_of j x (parted s.views id v at left rest j x e);
      apart = λ j x e. apart_of j x (parted s.views id v at left rest j x e);
      facts = λ j x f e has. facts_of j x f (parted s.views id v at left rest j x e) has;
      issued = k.issued;
      no_more = k.no_more;
    })
      where
        k : Kept holds right s.views
        k = kept_of s id v at begun ruled

        parts_of : (j : ℕ) (x : View P T F) → Parted s.views id v at left rest j x → IsOf x.parts k.whole.parts
        parts_of j x (inl l) n p has = k.parts id v at n p (left_parts n p (subst (λ (z : View P T F). Contains z.parts (n, p)) (sym l.1) has))
        parts_of j x (inr (inl r)) n p has = k.parts id v at n p (rest_parts n p (subst (λ (z : View P T F). Contains z.parts (n, p)) (sym r.1) has))
        parts_of j x (inr (inr old)) n p has = k.parts j x old.1 n p has

        goods_of : (j : ℕ) (x : View P T F) → Parted s.views id v at left rest j x → IsOf x.goods k.whole.goods
        goods_of j x (inl l) n p has = k.goods id v at n p (left_goods n p (subst (λ (z : View P T F). Contains z.goods (n, p)) (sym l.1) has))
        goods_of j x (inr (inl r)) n p has = k.goods id v at n p (rest_goods n p (subst (λ (z : View P T F). Contains z.goods (n, p)) (sym r.1) has))
        goods_of j x (inr (inr old)) n p has = k.goods j x old.1 n p has

        begun_of : (j : ℕ) (x : View P T F) → Parted s.views id v at left rest j x → x.has_begun ≡ true
        begun_of j x (inl l) = ap (λ (z : View P T F). z.has_begun) (sym l.1) ∙ left_begun
        begun_of j x (inr (inl r)) = ap (λ (z : View P T F). z.has_begun) (sym r.1) ∙ rest_begun
        begun_of j x (inr (inr old)) = k.begun j x old.1

        apart_of : (j : ℕ) (x : View P T F) → Parted s.views id v at left rest j x → AreApart x.parts
        apart_of j x (inl l) = subst (λ (z : View P T F). AreApart z.parts) l.1 (apart_left (k.apart id v at))
        apart_of j x (inr (inl r)) = subst (λ (z : View P T F). AreApart z.parts) r.1 (apart_right (k.apart id v at))
        apart_of j x (inr (inr old)) = k.apart j x old.1

        facts_of : (j : ℕ) (x : View P T F) (f : F) → Parted s.views id v at left rest j x → Contains x.facts f → right k.whole f
        facts_of j x f (inl l) has = k.facts id v f at (subst (λ (fs : List F). Contains fs f) (ap (λ (z : View P T F). z.facts) (sym l.1) ∙ same_left) has)
        facts_of j x f (inr (inl r)) has = k.facts id v f at (subst (λ (fs : List F). Contains fs f) (ap (λ (z : View P T F). z.facts) (sym r.1) ∙ same_rest) has)
        facts_of j x f (inr (inr old)) has = k.facts j x f old.1 has

  pub leaves : (id : ℕ) (v : View P T F) → v.has_begun ≡ true → Splits {S = Unit {0}} (IsRuled holds right) id v (without_goods v) (only_goods v)
  leaves id v begun = splits id v (without_goods v) (only_goods v) begun begun begun (λ n p is. is) (λ n p is. absurd (none_has (n, p) is)) (λ _ n p q one two. none_has (n, q) two) (λ apart. apart) (λ _. none_apart P)
      (λ n t is. absurd (none_has (n, t) is)) (λ n t is. is) (λ n t u one two. none_has (n, t) one) refl refl

  pub deals : (id : ℕ) (v : View P T F) → v.has_begun ≡ true → Splits {S = Unit {0}} (IsRuled holds right) id v (without_first v) (only_first v)
  deals id v begun = splits id v (without_first v) (only_first v) begun begun begun (λ n p is. of_rest v.parts (n, p) is) (λ n p is. of_first v.parts (n, p) is) (not_both v.parts) (apart_rest v.parts) (apart_first v.parts)
      (λ n t is. is) (λ n t is. absurd (none_has (n, t) is)) (λ n t u one two. none_has (n, u) two) refl refl

  pub notes : (id : ℕ) (v : View P T F) → v.has_begun ≡ true → Splits {S = Unit {0}} (IsRuled holds right) id v v (only_facts v)
  notes id v begun = splits id v v (only_facts v) begun begun begun (λ n p is. is) (λ n p is. absurd (none_has (n, p) is)) (λ _ n p q one two. none_has (n, q) two) (λ apart. apart) (λ _. none_apart P)
      (λ n t is. is) (λ n t is. absurd (none_has (n, t) is)) (λ n t u one two. none_has (n, u) two) refl refl

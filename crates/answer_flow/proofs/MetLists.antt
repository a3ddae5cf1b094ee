-- The usersets that a check has met, row by row.
use Rattle.std.proofs.Common.{◌≡◌, ◌⊎◌, inl, inr, ⊎_elim, ℕ, zero, suc, Bool, true, false, true≢false, cond, List, [], ◌∷◌, ◌++◌, ◌∙◌, Contains, refl, sym, ap, subst, arith, rules, append_assoc, append-nil}
use Rattle.std.specs.Ordering.{is_eq}
use Rattle.std.specs.Cmp.{tied_itself}
use Rattle.std.proofs.lemmas.List.Elements.{Contains-append_left, Contains-append_right, Contains-append_cases}
use Rattle.tuples.specs.declared.object.Userset.{Userset}
use Rattle.tuples.specs.declared.tuple.Tuple.{Tuple}
use Rattle.tuples.specs.declared.object.Object.{Object}
use Rattle.tuples.specs.declared.user.User.{User}
use Rattle.tuples.specs.declared.user.User.TheVariants.{Set}
use Rattle.tuples.specs.contracts.object.UsersetOrd.TheImpl.{ghosts}
use Rattle.tuples.specs.Checking.{holding}
use Rattle.tuples.specs.Order.{name_cmp, object_cmp, user_cmp, userset_cmp}
use Rattle.tuples.proofs.Same.{name_same, object_same, user_same, userset_same}
use Rattle.tuples.proofs.Ordered.{name_tied, object_tied, user_tied, userset_total}
use Rattle.tuples.proofs.OnceEach.{once_more}
use Rattle.answer_flow.specs.Walking.{IsWalk, LetsWait, Meets, is_met}

same_order : (a b : Userset) → ghosts.cmp a b ≡ userset_cmp a b
same_order a b = search rules

tied : (a b : Userset) → is_eq (ghosts.cmp a b) ≡ true → a ≡ b
tied a b is = userset_same a b (ap is_eq (sym (same_order a b)) ∙ is)

itself : (a : Userset) → is_eq (ghosts.cmp a a) ≡ true
itself a = ap is_eq (same_order a a ∙ tied_itself userset_total a)

only : {X : Type 0} (x y : X) → Contains (x ∷ []) y → x ≡ y
only x y (zero, lt, is) = is
only x y (suc k, lt, is) = absurd (omega (arith, lt))

cond_cases : (b c : Bool) → cond b true c ≡ true → (b ≡ true) ⊎ (c ≡ true)
cond_cases true c is = inl refl
cond_cases false c is = inr is

cond_right : (b c : Bool) → c ≡ true → cond b true c ≡ true
cond_right true c is = refl
cond_right false c is = is

-- one more is met
pushed : (keys met keys_now : List Userset) (z : Userset) → IsWalk keys met → is_met keys z ≡ false → ((q : Userset) → is_met keys_now q ≡ cond (is_eq (ghosts.cmp z q)) true (is_met keys q))
    → IsWalk keys_now (met ++ z ∷ [])
pushed keys met keys_now z walk not now = record {
  exact = λ q. (
    λ is. ⊎_elim
        (λ same. subst (Contains (met ++ z ∷ [])) (tied z q same) (Contains-append_right met (z ∷ []) z (0, omega arith, refl)))
        (λ old. Contains-append_left met (z ∷ []) q ((walk.exact q).0 old))
        (cond_cases (is_eq (ghosts.cmp z q)) (is_met keys q) (sym (now q) ∙ is)),
    λ has. ⊎_elim
        (λ old. now q ∙ cond_right (is_eq (ghosts.cmp z q)) (is_met keys q) ((walk.exact q).1 old))
        (λ new. let same = only z q new in now q ∙ ap (λ (b : Bool). cond b true (is_met keys q)) (subst (λ (x : Userset). is_eq (ghosts.cmp z x) ≡ true) same (itself z)))
        (Contains-append_cases met (z ∷ []) q has),
  );
  once = once_more met z walk.once (λ has. true≢false (sym ((walk.exact z).1 has) ∙ not));
}

pub begins : (y : Userset) (known keys waiting : List Userset) → IsWalk keys known → LetsWait y [] known keys waiting waiting
begins y known keys waiting walk = record {
  more = [];
  waits = sym (append-nil waiting);
  held = λ z has. absurd (omega (arith, has.1));
  all = λ z has. absurd (omega (arith, has.1));
  walk = subst (IsWalk keys) (sym (append-nil known)) walk;
}

-- a row that names no userset, or is not of this one
pub passes : (y : Userset) (rows : List Tuple) (row : Tuple) (known keys waiting before : List Userset) → LetsWait y rows known keys waiting before
    → ((z : Userset) → row ≡ holding y (Set z) → ⊥) → LetsWait y (rows ++ row ∷ []) known keys waiting before
passes y rows row known keys waiting before old not = record {
  more = old.more;
  waits = old.waits;
  held = λ z has. Contains-append_left rows (row ∷ []) (holding y (Set z)) (old.held z has);
  all = λ z has. ⊎_elim (λ left. old.all z left) (λ right. absurd (not z (only row (holding y (Set z)) right))) (Contains-append_cases rows (row ∷ []) (holding y (Set z)) has);
  walk = old.walk;
}

same_set : (y z x : Userset) → holding y (Set z) ≡ holding y (Set x) → z ≡ x
same_set y z x is = let same : Set z ≡ Set x = ap (λ (t : Tuple). t.user) is in cc

again : (y : Userset) (rows : List Tuple) (row : Tuple) (z : Userset) (known keys waiting before : List Userset) → LetsWait y rows known keys waiting before
    → row ≡ holding y (Set z) → is_met keys z ≡ true → LetsWait y (rows ++ row ∷ []) known keys waiting before
again y rows row z known keys waiting before old is met = record {
  more = old.more;
  waits = old.waits;
  held = λ x has. Contains-append_left rows (row ∷ []) (holding y (Set x)) (old.held x has);
  all = λ x has. ⊎_elim
      (λ left. old.all x left)
      (λ right. subst (λ (u : Userset). Contains known u ⊎ Contains old.more u) (same_set y z x (sym is ∙ only row (holding y (Set x)) right))
      (Contains-append_cases known old.more z ((old.walk.exact z).0 met)))
      (Contains-append_cases rows (row ∷ []) (holding y (Set x)) has);
  walk = old.walk;
}

first : (y : Userset) (rows : List Tuple) (row : Tuple) (z : Userset) (known keys waiting before keys_now : List Userset) → LetsWait y rows known keys waiting before
    → row ≡ holding y (Set z) → is_met keys z ≡ false → ((q : Userset) → is_met keys_now q ≡ cond (is_eq (ghosts.cmp z q)) true (is_met keys q))
    → LetsWait y (rows ++ row ∷ []) known keys_now (waiting ++ z ∷ []) before
first y rows row z known keys waiting before keys_now old is not now = record {
  more = old.more ++ z ∷ [];
  waits = ap (λ (xs : List Userset). xs ++ z ∷ []) old.waits ∙ append_assoc before old.more (z ∷ []);
  held = λ x has. ⊎_elim
      (λ left. Contains-append_left rows (row ∷ []) (holding y (Set x)) (old.held x left))
      (λ right. Contains-append_right rows (row ∷ []) (holding y (Set x)) (0, omega arith, is ∙ ap (λ (u : Userset). holding y (Set u)) (only z x right)))
      (Contains-append_cases old.more (z ∷ []) x has);
  all = λ x has. ⊎_elim
      (λ left. ⊎_elim (λ known_before. inl known_before) (λ waits. inr (Contains-append_left old.more (z ∷ []) x waits)) (old.all x left))
      (λ right. inr (subst (Contains (old.more ++ z ∷ [])) (same_set y z x (sym is ∙ only row (holding y (Set x)) right)) (Contains-append_right old.more (z ∷ []) z (0, omega arith, refl))))
      (Contains-append_cases rows (row ∷ []) (holding y (Set x)) has);
  walk = subst (IsWalk keys_now) (append_assoc known old.more (z ∷ [])) (pushed keys (known ++ old.more) keys_now z old.walk not now);
}

-- a row that names a userset, which is met
pub meets : (y : Userset) (rows : List Tuple) (row : Tuple) (z : Userset) (known keys waiting before keys_now waiting_now : List Userset) → LetsWait y rows known keys waiting before
    → row ≡ holding y (Set z) → Meets keys waiting z keys_now waiting_now → LetsWait y (rows ++ row ∷ []) known keys_now waiting_now before
meets y rows row z known keys waiting before keys_now waiting_now old is met = by_case (is_met keys z) refl
  where
    by_case : (b : Bool) → is_met keys z ≡ b → LetsWait y (rows ++ row ∷ []) known keys_now waiting_now before
    by_case true was = subst (λ (ks : List Userset). LetsWait y (rows ++ row ∷ []) known ks waiting_now before) (sym (met.again was).1)
        (subst (λ (ws : List Userset). LetsWait y (rows ++ row ∷ []) known keys ws before) (sym (met.again was).0) (again y rows row z known keys waiting before old is was))
    by_case false was = subst (λ (ws : List Userset). LetsWait y (rows ++ row ∷ []) known keys_now ws before) (sym (met.first was).0)
        (first y rows row z known keys waiting before keys_now old is was (met.first was).1)

-- no userset is met
none : IsWalk [] []
none = record {
  exact = λ z. (λ is. absurd (true≢false (sym is)), λ has. absurd (omega (arith, has.1)));
  once = λ i j x at_i at_j. absurd cc;
}

pub first_met : (keys waiting : List Userset) (z : Userset) (keys_now waiting_now : List Userset) → keys ≡ [] → waiting ≡ [] → Meets keys waiting z keys_now waiting_now
    → IsWalk keys_now waiting_now × (waiting_now ≡ z ∷ [])
first_met keys waiting z keys_now waiting_now no_keys none_waits met =
    let not : is_met keys z ≡ false = ap (λ (ks : List Userset). is_met ks z) no_keys in
    let is : waiting_now ≡ z ∷ [] = (met.first not).0 ∙ ap (λ (ws : List Userset). ws ++ z ∷ []) none_waits in
    let walk : IsWalk keys [] = subst (λ (ks : List Userset). IsWalk ks []) (sym no_keys) none in
    (subst (IsWalk keys_now) (sym is) (pushed keys [] keys_now z walk not (met.first not).1), is)

-- a row is the one by which a userset holds a user, exactly if each of its parts is
pub holding_is : (y : Userset) (u : User) (row : Tuple) → is_eq (object_cmp row.object y.object) ≡ true → is_eq (name_cmp row.relation y.relation) ≡ true → is_eq (user_cmp row.user u) ≡ true
    → row ≡ holding y u
holding_is y u row same_object same_relation same_users =
    let a = object_same row.object y.object same_object in
    let b = name_same row.relation y.relation same_relation in
    let d = user_same row.user u same_users in
    ap (λ (o : Object). record { object = o; relation = row.relation; user = row.user }) a
    ∙ ap (λ (r : List ℕ). record { object = y.object; relation = r; user = row.user }) b
    ∙ ap (λ (v : User). record { object = y.object; relation = y.relation; user = v }) d

pub holding_parts : (y : Userset) (u : User) (row : Tuple) → row ≡ holding y u
    → (is_eq (object_cmp row.object y.object) ≡ true) × (is_eq (name_cmp row.relation y.relation) ≡ true) × (is_eq (user_cmp row.user u) ≡ true)
holding_parts y u row is = (
  ap (λ (t : Tuple). is_eq (object_cmp t.object y.object)) is ∙ object_tied y.object,
  ap (λ (t : Tuple). is_eq (name_cmp t.relation y.relation)) is ∙ name_tied y.relation,
  ap (λ (t : Tuple). is_eq (user_cmp t.user u)) is ∙ user_tied u,
)

-- A packing is unpacked to its tuple, and one by user too.
use Rattle.std.proofs.Common.{◌≡◌, ◌<◌, ◌≤◌, ◌==◌, ◌+◌, ℕ, zero, suc, Bool, true, false, cond, not, List, [], ◌∷◌, ◌++◌, length, take, drop, get_or, nat_le, nat_lt, Some, None, inl, inr, refl, sym, ap, ap₂, subst, ◌∙◌, take_all, arith}
use Rattle.std.specs.List.{position}
use Rattle.std.proofs.lemmas.Bool.{cases_Bool}
use Rattle.std.proofs.lemmas.Bool.Decides.{nat_tests}
use Rattle.tuples.specs.declared.object.Userset.{Userset}
use Rattle.tuples.specs.declared.user.User.{User}
use Rattle.tuples.specs.declared.user.User.TheVariants.{Id, Set}
use Rattle.tuples.specs.declared.tuple.Tuple.{Tuple}
use Rattle.tuples.specs.Texts.{IsUserset, IsUser, IsTuple}
use Rattle.tuples.specs.Packing.{IsPacking, IsPackingByUser, packing, packing_by_user, user_packing, userset_packing, is_mark, is_of_set, place, front, behind, behind_user, unpacked_userset, unpacked_user, unpacked, unpacked_by_user}
use Rattle.tuples.proofs.InOrder.{AreAbove, name_above, id_above, userset_before}

place_is : (a : List ℕ) (s : ℕ) (x : List ℕ) → s ≤ 2 → AreAbove a → place (a ++ s ∷ x) ≡ length a
place_is [] s x hs ha = let low : nat_le s 2 ≡ true = grind (arith, nat_tests) in ap (λ b. cond (not b) (1 + place x) 0) low
place_is (b ∷ a) s x hs ha =
    let up : 2 < b = ha.0 in
    let no : nat_le b 2 ≡ false = grind (arith, nat_tests) in
    let rest = place_is a s x hs ha.1 in
    let more : 1 + place (a ++ s ∷ x) ≡ suc (length a) = omega (arith, rest) in
    ap (λ c. cond (not c) (1 + place (a ++ s ∷ x)) 0) no ∙ more

take_front : (a x : List ℕ) → take (length a) (a ++ x) ≡ a
take_front [] x = refl
take_front (b ∷ a) x = ap (λ l. b ∷ l) (take_front a x)

drop_front : (a : List ℕ) (s : ℕ) (x : List ℕ) → drop (suc (length a)) (a ++ s ∷ x) ≡ x
drop_front [] s x = refl
drop_front (b ∷ a) s x = drop_front a s x

get_mark : (a : List ℕ) (s : ℕ) (x : List ℕ) → get_or (a ++ s ∷ x) (length a) 0 ≡ s
get_mark [] s x = refl
get_mark (b ∷ a) s x = get_mark a s x

front_is : (a : List ℕ) (s : ℕ) (x : List ℕ) → s ≤ 2 → AreAbove a → front (a ++ s ∷ x) ≡ a
front_is a s x hs ha = ap (λ n. take n (a ++ s ∷ x)) (place_is a s x hs ha) ∙ take_front a (s ∷ x)

behind_is : (a : List ℕ) (s : ℕ) (x : List ℕ) → s ≤ 2 → AreAbove a → behind (a ++ s ∷ x) ≡ x
behind_is a s x hs ha = ap (λ n. drop n (a ++ s ∷ x)) (let e = place_is a s x hs ha in let more : place (a ++ s ∷ x) + 1 ≡ suc (length a) = omega (arith, e) in more) ∙ drop_front a s x

mark_is : (a : List ℕ) (s : ℕ) (x : List ℕ) → s ≤ 2 → AreAbove a → is_of_set (a ++ s ∷ x) ≡ (s == 2)
mark_is a s x hs ha = ap (λ (m : ℕ). m == 2) (ap (λ n. get_or (a ++ s ∷ x) n 0) (place_is a s x hs ha) ∙ get_mark a s x)

-- a userset and what stands after it
userset_again : (s : Userset) (x : List ℕ) → IsUserset s → unpacked_userset (userset_packing s ++ 0 ∷ x) ≡ s
userset_again s x v =
    let n = s.object.namespace in
    let text : userset_packing s ++ 0 ∷ x ≡ n ++ 0 ∷ (s.object.id ++ 0 ∷ (s.relation ++ 0 ∷ x)) = userset_before s (0 ∷ x) in
    let next = ap behind text ∙ behind_is n 0 (s.object.id ++ 0 ∷ (s.relation ++ 0 ∷ x)) (omega arith) (name_above n v.object.namespace) in
    let last = ap behind next ∙ behind_is s.object.id 0 (s.relation ++ 0 ∷ x) (omega arith) (id_above s.object.id v.object.id) in
    let first = ap front text ∙ front_is n 0 (s.object.id ++ 0 ∷ (s.relation ++ 0 ∷ x)) (omega arith) (name_above n v.object.namespace) in
    let second = ap front next ∙ front_is s.object.id 0 (s.relation ++ 0 ∷ x) (omega arith) (id_above s.object.id v.object.id) in
    let third = ap front last ∙ front_is s.relation 0 x (omega arith) (name_above s.relation v.relation) in
    λ i. record { object = record { namespace = first i; id = second i }; relation = third i }

behind_userset : (s : Userset) (x : List ℕ) → IsUserset s → behind (behind (behind (userset_packing s ++ 0 ∷ x))) ≡ x
behind_userset s x v =
    let n = s.object.namespace in
    let next = ap behind (userset_before s (0 ∷ x)) ∙ behind_is n 0 (s.object.id ++ 0 ∷ (s.relation ++ 0 ∷ x)) (omega arith) (name_above n v.object.namespace) in
    let last = ap behind next ∙ behind_is s.object.id 0 (s.relation ++ 0 ∷ x) (omega arith) (id_above s.object.id v.object.id) in
    ap behind last ∙ behind_is s.relation 0 x (omega arith) (name_above s.relation v.relation)

-- what stands after the namespace is unpacked to the user, and to the rest
record IsUserOf (u : User) (n x : List ℕ) : Type 0 where
  namespace : front (n ++ (user_packing u ++ 0 ∷ x)) ≡ n
  user : unpacked_user (is_of_set (n ++ (user_packing u ++ 0 ∷ x))) (behind (n ++ (user_packing u ++ 0 ∷ x))) ≡ u
  rest : behind_user (is_of_set (n ++ (user_packing u ++ 0 ∷ x))) (behind (n ++ (user_packing u ++ 0 ∷ x))) ≡ x

user_again : (u : User) (n x : List ℕ) → AreAbove n → IsUser u → IsUserOf u n x
user_again (Id i) n x hn hu =
    let rest = i ++ 0 ∷ x in
    let set : is_of_set (n ++ 1 ∷ rest) ≡ false = mark_is n 1 rest (omega arith) hn in
    let text = behind_is n 1 rest (omega arith) hn in
    record {
      namespace = front_is n 1 rest (omega arith) hn;
      user = ap₂ unpacked_user set text ∙ ap Id (front_is i 0 x (omega arith) (id_above i hu));
      rest = ap₂ behind_user set text ∙ behind_is i 0 x (omega arith) (id_above i hu);
    }
user_again (Set s) n x hn hu =
    let rest = userset_packing s ++ 0 ∷ x in
    let set : is_of_set (n ++ 2 ∷ rest) ≡ true = mark_is n 2 rest (omega arith) hn in
    let text = behind_is n 2 rest (omega arith) hn in
    record {
      namespace = front_is n 2 rest (omega arith) hn;
      user = ap₂ unpacked_user set text ∙ ap Set (userset_again s x hu);
      rest = ap₂ behind_user set text ∙ behind_userset s x hu;
    }

pub by_user_unpacked_packing : (t : Tuple) → IsTuple t → unpacked_by_user (packing_by_user t) ≡ t
by_user_unpacked_packing t v =
    let o = t.object.id in
    let again = user_again t.user t.object.namespace (o ++ 0 ∷ t.relation) (name_above t.object.namespace v.object.namespace) v.user in
    let id = ap front again.rest ∙ front_is o 0 t.relation (omega arith) (id_above o v.object.id) in
    let relation = ap behind again.rest ∙ behind_is o 0 t.relation (omega arith) (id_above o v.object.id) in
    λ i. record { object = record { namespace = again.namespace i; id = id i }; relation = relation i; user = again.user i }

pub by_user_unpacked_is : (text : List ℕ) (t : Tuple) → IsTuple t → text ≡ packing_by_user t → unpacked_by_user text ≡ t
by_user_unpacked_is text t v is = ap unpacked_by_user is ∙ by_user_unpacked_packing t v

pub is_packing_by_user : (text : List ℕ) (t : Tuple) → IsTuple t → text ≡ packing_by_user t → IsPackingByUser text
is_packing_by_user text t v is =
    let back : t ≡ unpacked_by_user text = sym (by_user_unpacked_is text t v is) in
    record { spelled = subst IsTuple back v; same = is ∙ ap packing_by_user back }

-- ---- a user at the end

place_end : (a : List ℕ) → AreAbove a → place a ≡ length a
place_end [] ha = refl
place_end (b ∷ a) ha =
    let up : 2 < b = ha.0 in
    let no : nat_le b 2 ≡ false = grind (arith, nat_tests) in
    let rest = place_end a ha.1 in
    let more : 1 + place a ≡ suc (length a) = omega (arith, rest) in
    ap (λ c. cond (not c) (1 + place a) 0) no ∙ more

front_end : (a : List ℕ) → AreAbove a → front a ≡ a
front_end a ha = ap (λ n. take n a) (place_end a ha) ∙ take_all (length a) a (omega arith)

userset_end : (s : Userset) → IsUserset s → unpacked_userset (userset_packing s) ≡ s
userset_end s v =
    let n = s.object.namespace in
    let next : behind (userset_packing s) ≡ s.object.id ++ 0 ∷ s.relation = behind_is n 0 (s.object.id ++ 0 ∷ s.relation) (omega arith) (name_above n v.object.namespace) in
    let last : behind (behind (userset_packing s)) ≡ s.relation = ap behind next ∙ behind_is s.object.id 0 s.relation (omega arith) (id_above s.object.id v.object.id) in
    let first = front_is n 0 (s.object.id ++ 0 ∷ s.relation) (omega arith) (name_above n v.object.namespace) in
    let second = ap front next ∙ front_is s.object.id 0 s.relation (omega arith) (id_above s.object.id v.object.id) in
    let third = ap front last ∙ front_end s.relation (name_above s.relation v.relation) in
    λ i. record { object = record { namespace = first i; id = second i }; relation = third i }

-- a relation, and the user after it
record IsUserAfter (u : User) (r : List ℕ) : Type 0 where
  relation : front (r ++ user_packing u) ≡ r
  user : unpacked_user (is_of_set (r ++ user_packing u)) (behind (r ++ user_packing u)) ≡ u

user_end : (u : User) (r : List ℕ) → AreAbove r → IsUser u → IsUserAfter u r
user_end (Id i) r hr hu =
    let set : is_of_set (r ++ 1 ∷ i) ≡ false = mark_is r 1 i (omega arith) hr in
    record {
      relation = front_is r 1 i (omega arith) hr;
      user = ap₂ unpacked_user set (behind_is r 1 i (omega arith) hr) ∙ ap Id (front_end i (id_above i hu));
    }
user_end (Set s) r hr hu =
    let rest = userset_packing s in
    let set : is_of_set (r ++ 2 ∷ rest) ≡ true = mark_is r 2 rest (omega arith) hr in
    record {
      relation = front_is r 2 rest (omega arith) hr;
      user = ap₂ unpacked_user set (behind_is r 2 rest (omega arith) hr) ∙ ap Set (userset_end s hu);
    }

pub unpacked_packing : (t : Tuple) → IsTuple t → unpacked (packing t) ≡ t
unpacked_packing t v =
    let n = t.object.namespace in
    let o = t.object.id in
    let rest = t.relation ++ user_packing t.user in
    let next : behind (packing t) ≡ o ++ 0 ∷ rest = behind_is n 0 (o ++ 0 ∷ rest) (omega arith) (name_above n v.object.namespace) in
    let last : behind (behind (packing t)) ≡ rest = ap behind next ∙ behind_is o 0 rest (omega arith) (id_above o v.object.id) in
    let again = user_end t.user t.relation (name_above t.relation v.relation) v.user in
    let first = front_is n 0 (o ++ 0 ∷ rest) (omega arith) (name_above n v.object.namespace) in
    let second = ap front next ∙ front_is o 0 rest (omega arith) (id_above o v.object.id) in
    let third = ap front last ∙ again.relation in
    let fourth = ap (λ l. unpacked_user (is_of_set l) (behind l)) last ∙ again.user in
    λ i. record { object = record { namespace = first i; id = second i }; relation = third i; user = fourth i }

pub unpacked_is : (text : List ℕ) (t : Tuple) → IsTuple t → text ≡ packing t → unpacked text ≡ t
unpacked_is text t v is = ap unpacked is ∙ unpacked_packing t v

pub is_packing : (text : List ℕ) (t : Tuple) → IsTuple t → text ≡ packing t → IsPacking text
is_packing text t v is =
    let back : t ≡ unpacked text = sym (unpacked_is text t v is) in
    record { spelled = subst IsTuple back v; same = is ∙ ap packing back }

-- ---- where the first mark is searched for

pub place_found : (text : List ℕ) (at : ℕ) → position is_mark text ≡ Some at → (place text ≡ at) × (at < length text)
place_found text at e = elim (cases_Bool (nat_lt (place text) (length text))) [
  | inl is ↦
      let both : Some (place text) ≡ Some at = ap (λ (b : Bool). cond b (Some (place text)) None) (sym is) ∙ e in
      let same : place text ≡ at = cc in
      let lt : place text < length text = grind (arith, nat_tests) in
      (same, omega (arith, lt, same))
  | inr apart ↦
      let never : None ≡ Some at = ap (λ (b : Bool). cond b (Some (place text)) None) (sym apart) ∙ e in
      absurd cc
]

pub place_past : (text : List ℕ) → position is_mark text ≡ None → length text ≤ place text
place_past text e = elim (cases_Bool (nat_lt (place text) (length text))) [
  | inl is ↦
      let never : Some (place text) ≡ None = ap (λ (b : Bool). cond b (Some (place text)) None) (sym is) ∙ e in
      absurd cc
  | inr apart ↦ grind (arith, nat_tests)
]

pub drop_past : (xs : List ℕ) (n : ℕ) → length xs ≤ n → drop n xs ≡ []
drop_past [] zero h = refl
drop_past [] (suc n) h = refl
drop_past (x ∷ xs) zero h = absurd (omega arith)
drop_past (x ∷ xs) (suc n) h = drop_past xs n (omega arith)

pub get_past : (xs : List ℕ) (n : ℕ) → length xs ≤ n → get_or xs n 0 ≡ 0
get_past [] zero h = refl
get_past [] (suc n) h = refl
get_past (x ∷ xs) zero h = absurd (omega arith)
get_past (x ∷ xs) (suc n) h = get_past xs n (omega arith)

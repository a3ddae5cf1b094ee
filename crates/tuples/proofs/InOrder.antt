-- The order of packings is that of tuples, or that of tuples by user.
use Rattle.std.proofs.Common.{◌≡◌, ◌<◌, ◌≤◌, ℕ, Bool, true, List, [], ◌∷◌, ◌++◌, refl, sym, ap, ap₂, ◌∙◌, append_assoc, arith}
use Rattle.std.specs.List.{AllByRecursion, list_all}
use Rattle.std.proofs.lemmas.Bool.Decides.{nat_tests}
use Rattle.std.specs.Cmp.{ranks}
use Rattle.std.specs.Ordering.{nat_cmp, ordering_then, MatchOrdering}
use Rattle.std.specs.declared.cmp.Ordering.{Ordering}
use Rattle.std.specs.declared.cmp.Ordering.TheVariants.{Less, Equal, Greater}
use Rattle.tuples.specs.Names.{IsName, IsId, is_name_byte, is_id_byte}
use Rattle.tuples.specs.declared.object.Object.{Object}
use Rattle.tuples.specs.declared.object.Userset.{Userset}
use Rattle.tuples.specs.declared.user.User.{User}
use Rattle.tuples.specs.declared.user.User.TheVariants.{Id, Set}
use Rattle.tuples.specs.declared.tuple.Tuple.{Tuple}
use Rattle.tuples.specs.ByUser.{by_user_cmp}
use Rattle.tuples.specs.Order.{name_cmp, object_cmp, userset_cmp, user_cmp, tuple_cmp}
use Rattle.tuples.specs.Texts.{IsObject, IsUserset, IsUser, IsTuple}
use Rattle.tuples.specs.Packing.{packing, packing_by_user, user_packing, userset_packing}

-- each byte is above each mark: marks are 0, 1 and 2
abbrev pub AreAbove : List ℕ → Type 0
AreAbove = AllByRecursion (λ b. 2 < b)

above_all : (p : ℕ → Bool) → ((b : ℕ) → p b ≡ true → 2 < b) → (xs : List ℕ) → list_all p xs ≡ true → AreAbove xs
above_all p each [] h = tt
above_all p each (x ∷ xs) h =
    let here : p x ≡ true = grind (arith, nat_tests) in
    let more : list_all p xs ≡ true = grind (arith, nat_tests) in
    (each x here, above_all p each xs more)

pub name_above : (n : List ℕ) → IsName n → AreAbove n
name_above n v = above_all is_name_byte (λ b h. grind (arith, nat_tests)) n v.each

pub id_above : (n : List ℕ) → IsId n → AreAbove n
id_above n v = above_all is_id_byte (λ b h. grind (arith, nat_tests)) n v.each

then_then : (o p q : Ordering) → ordering_then (ordering_then o p) q ≡ ordering_then o (ordering_then p q)
then_then Less p q = refl
then_then Equal p q = refl
then_then Greater p q = refl

is_less : (x y : ℕ) (o : Ordering) → MatchOrdering o (x < y) (x ≡ y) (y < x) → x < y → o ≡ Less
is_less x y Less h l = refl
is_less x y Equal h l = let e : x ≡ y = h in absurd (omega arith)
is_less x y Greater h l = let e : y < x = h in absurd (omega arith)

is_greater : (x y : ℕ) (o : Ordering) → MatchOrdering o (x < y) (x ≡ y) (y < x) → y < x → o ≡ Greater
is_greater x y Less h l = let e : x < y = h in absurd (omega arith)
is_greater x y Equal h l = let e : x ≡ y = h in absurd (omega arith)
is_greater x y Greater h l = refl

below : (x y : ℕ) → x < y → nat_cmp x y ≡ Less
below x y = is_less x y (nat_cmp x y) (ranks x y)

above : (x y : ℕ) → y < x → nat_cmp x y ≡ Greater
above x y = is_greater x y (nat_cmp x y) (ranks x y)

-- two texts with marks after their fronts: the fronts decide, then the marks, then the rest
pub marked_cmp : (a b : List ℕ) (s t : ℕ) (x y : List ℕ) → s ≤ 2 → t ≤ 2 → AreAbove a → AreAbove b
    → name_cmp (a ++ s ∷ x) (b ++ t ∷ y) ≡ ordering_then (name_cmp a b) (name_cmp (s ∷ x) (t ∷ y))
marked_cmp [] [] s t x y hs ht ha hb = refl
marked_cmp [] (b ∷ bs) s t x y hs ht ha hb = ap (λ o. ordering_then o (name_cmp x (bs ++ t ∷ y))) (below s b (omega (arith, hs, hb.0)))
marked_cmp (a ∷ more) [] s t x y hs ht ha hb = ap (λ o. ordering_then o (name_cmp (more ++ s ∷ x) y)) (above a t (omega (arith, ht, ha.0)))
marked_cmp (a ∷ more) (b ∷ bs) s t x y hs ht ha hb =
    ap (ordering_then (nat_cmp a b)) (marked_cmp more bs s t x y hs ht ha.1 hb.1)
    ∙ sym (then_then (nat_cmp a b) (name_cmp more bs) (name_cmp (s ∷ x) (t ∷ y)))

-- with the same mark
is_level : (m : ℕ) (o : Ordering) → MatchOrdering o (m < m) (m ≡ m) (m < m) → o ≡ Equal
is_level m Less h = let e : m < m = h in absurd (omega arith)
is_level m Equal h = refl
is_level m Greater h = let e : m < m = h in absurd (omega arith)

same_mark_cmp : (m : ℕ) (x y : List ℕ) → name_cmp (m ∷ x) (m ∷ y) ≡ name_cmp x y
same_mark_cmp m x y = ap (λ o. ordering_then o (name_cmp x y)) (is_level m (nat_cmp m m) (ranks m m))

zero_cmp : (a b x y : List ℕ) → AreAbove a → AreAbove b → name_cmp (a ++ 0 ∷ x) (b ++ 0 ∷ y) ≡ ordering_then (name_cmp a b) (name_cmp x y)
zero_cmp a b x y ha hb = marked_cmp a b 0 0 x y (omega arith) (omega arith) ha hb ∙ ap (ordering_then (name_cmp a b)) (same_mark_cmp 0 x y)

-- an object, and what stands after it
object_packing_cmp : (a b : Object) (x y : List ℕ) → IsObject a → IsObject b
    → name_cmp (a.namespace ++ 0 ∷ (a.id ++ 0 ∷ x)) (b.namespace ++ 0 ∷ (b.id ++ 0 ∷ y)) ≡ ordering_then (object_cmp a b) (name_cmp x y)
object_packing_cmp a b x y va vb =
    zero_cmp a.namespace b.namespace (a.id ++ 0 ∷ x) (b.id ++ 0 ∷ y) (name_above a.namespace va.namespace) (name_above b.namespace vb.namespace)
    ∙ ap (ordering_then (name_cmp a.namespace b.namespace)) (zero_cmp a.id b.id x y (id_above a.id va.id) (id_above b.id vb.id))
    ∙ sym (then_then (name_cmp a.namespace b.namespace) (name_cmp a.id b.id) (name_cmp x y))

pub userset_before : (s : Userset) (x : List ℕ) → userset_packing s ++ x ≡ s.object.namespace ++ 0 ∷ (s.object.id ++ 0 ∷ (s.relation ++ x))
userset_before s x =
    append_assoc s.object.namespace (0 ∷ (s.object.id ++ 0 ∷ s.relation)) x
    ∙ ap (λ l. s.object.namespace ++ 0 ∷ l) (append_assoc s.object.id (0 ∷ s.relation) x)

userset_rest_cmp : (a b : Userset) (x y : List ℕ) → IsUserset a → IsUserset b
    → name_cmp (userset_packing a ++ 0 ∷ x) (userset_packing b ++ 0 ∷ y) ≡ ordering_then (userset_cmp a b) (name_cmp x y)
userset_rest_cmp a b x y va vb =
    ap₂ name_cmp (userset_before a (0 ∷ x)) (userset_before b (0 ∷ y))
    ∙ object_packing_cmp a.object b.object (a.relation ++ 0 ∷ x) (b.relation ++ 0 ∷ y) va.object vb.object
    ∙ ap (ordering_then (object_cmp a.object b.object)) (zero_cmp a.relation b.relation x y (name_above a.relation va.relation) (name_above b.relation vb.relation))
    ∙ sym (then_then (object_cmp a.object b.object) (name_cmp a.relation b.relation) (name_cmp x y))

-- a namespace, the user after it, and the rest
user_rest_cmp : (n k : List ℕ) (u v : User) (x y : List ℕ) → AreAbove n → AreAbove k → IsUser u → IsUser v
    → name_cmp (n ++ (user_packing u ++ 0 ∷ x)) (k ++ (user_packing v ++ 0 ∷ y)) ≡ ordering_then (name_cmp n k) (ordering_then (user_cmp u v) (name_cmp x y))
user_rest_cmp n k (Id i) (Id j) x y hn hk hu hv =
    marked_cmp n k 1 1 (i ++ 0 ∷ x) (j ++ 0 ∷ y) (omega arith) (omega arith) hn hk
    ∙ ap (ordering_then (name_cmp n k)) (same_mark_cmp 1 (i ++ 0 ∷ x) (j ++ 0 ∷ y) ∙ zero_cmp i j x y (id_above i hu) (id_above j hv))
user_rest_cmp n k (Id i) (Set s) x y hn hk hu hv =
    marked_cmp n k 1 2 (i ++ 0 ∷ x) (userset_packing s ++ 0 ∷ y) (omega arith) (omega arith) hn hk
    ∙ ap (λ o. ordering_then (name_cmp n k) (ordering_then o (name_cmp (i ++ 0 ∷ x) (userset_packing s ++ 0 ∷ y)))) (below 1 2 (omega arith))
user_rest_cmp n k (Set s) (Id j) x y hn hk hu hv =
    marked_cmp n k 2 1 (userset_packing s ++ 0 ∷ x) (j ++ 0 ∷ y) (omega arith) (omega arith) hn hk
    ∙ ap (λ o. ordering_then (name_cmp n k) (ordering_then o (name_cmp (userset_packing s ++ 0 ∷ x) (j ++ 0 ∷ y)))) (above 2 1 (omega arith))
user_rest_cmp n k (Set s) (Set w) x y hn hk hu hv =
    marked_cmp n k 2 2 (userset_packing s ++ 0 ∷ x) (userset_packing w ++ 0 ∷ y) (omega arith) (omega arith) hn hk
    ∙ ap (ordering_then (name_cmp n k)) (same_mark_cmp 2 (userset_packing s ++ 0 ∷ x) (userset_packing w ++ 0 ∷ y) ∙ userset_rest_cmp s w x y hu hv)

userset_packing_cmp : (a b : Userset) → IsUserset a → IsUserset b → name_cmp (userset_packing a) (userset_packing b) ≡ userset_cmp a b
userset_packing_cmp a b va vb = object_packing_cmp a.object b.object a.relation b.relation va.object vb.object

-- a relation, and the user after it
relation_user_cmp : (r q : List ℕ) (u v : User) → AreAbove r → AreAbove q → IsUser u → IsUser v
    → name_cmp (r ++ user_packing u) (q ++ user_packing v) ≡ ordering_then (name_cmp r q) (user_cmp u v)
relation_user_cmp r q (Id i) (Id j) hr hq hu hv = marked_cmp r q 1 1 i j (omega arith) (omega arith) hr hq ∙ ap (ordering_then (name_cmp r q)) (same_mark_cmp 1 i j)
relation_user_cmp r q (Id i) (Set s) hr hq hu hv = marked_cmp r q 1 2 i (userset_packing s) (omega arith) (omega arith) hr hq ∙ ap (λ o. ordering_then (name_cmp r q) (ordering_then o (name_cmp i (userset_packing s)))) (below 1 2 (omega arith))
relation_user_cmp r q (Set s) (Id j) hr hq hu hv = marked_cmp r q 2 1 (userset_packing s) j (omega arith) (omega arith) hr hq ∙ ap (λ o. ordering_then (name_cmp r q) (ordering_then o (name_cmp (userset_packing s) j))) (above 2 1 (omega arith))
relation_user_cmp r q (Set s) (Set w) hr hq hu hv =
    marked_cmp r q 2 2 (userset_packing s) (userset_packing w) (omega arith) (omega arith) hr hq
    ∙ ap (ordering_then (name_cmp r q)) (same_mark_cmp 2 (userset_packing s) (userset_packing w) ∙ userset_packing_cmp s w hu hv)

-- the order of packings is that of their tuples
pub packing_cmp : (a b : Tuple) → IsTuple a → IsTuple b → name_cmp (packing a) (packing b) ≡ tuple_cmp a b
packing_cmp a b va vb =
    object_packing_cmp a.object b.object (a.relation ++ user_packing a.user) (b.relation ++ user_packing b.user) va.object vb.object
    ∙ ap (ordering_then (object_cmp a.object b.object)) (relation_user_cmp a.relation b.relation a.user b.user (name_above a.relation va.relation) (name_above b.relation vb.relation) va.user vb.user)

-- the order of packings is that of their tuples by user
pub by_user_packing_cmp : (a b : Tuple) → IsTuple a → IsTuple b → name_cmp (packing_by_user a) (packing_by_user b) ≡ by_user_cmp a b
by_user_packing_cmp a b va vb =
    user_rest_cmp a.object.namespace b.object.namespace a.user b.user (a.object.id ++ 0 ∷ a.relation) (b.object.id ++ 0 ∷ b.relation) (name_above a.object.namespace va.object.namespace) (name_above b.object.namespace vb.object.namespace) va.user vb.user
    ∙ ap (λ o. ordering_then (name_cmp a.object.namespace b.object.namespace) (ordering_then (user_cmp a.user b.user) o)) (zero_cmp a.object.id b.object.id a.relation b.relation (id_above a.object.id va.object.id) (id_above b.object.id vb.object.id))

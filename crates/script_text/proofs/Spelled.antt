-- The words of a request are in its shape.
use Rattle.std.proofs.Common.{◌≡◌, ℕ, ◌+◌, ◌≤◌, true, List, [], ◌∷◌, ◌++◌, map, codes, length, refl, ap, ◌∙◌, arith}
use Rattle.std.specs.List.{All, list_all}
use Rattle.std.proofs.lemmas.List.{length-append, length-map}
use Rattle.std.proofs.lemmas.List.Elements.{All-cons, All-map, All-nil, All-weaker}
use Rattle.tuples.specs.declared.change.Change.{Change}
use Rattle.tuples.specs.declared.change.Change.TheVariants.{Touch, Delete}
use Rattle.tuples.specs.declared.change.Condition.{Condition}
use Rattle.tuples.specs.declared.tuple.Tuple.{Tuple}
use Rattle.tuples.specs.declared.tupleset.Tupleset.{Tupleset}
use Rattle.tuples.specs.declared.tupleset.Tupleset.TheVariants.{Key, OfObject, OfUser}
use Rattle.tuples.specs.Names.{IsName}
use Rattle.tuples.specs.Texts.{object_text, relation_text, tuple_text, tupleset_text, user_text}
use Rattle.zookie.specs.Zookies.{zookie_bytes, zookie_text}
use Rattle.zookie.proofs.Encodings.{length_text}
use Rattle.tuples.specs.declared.freshness.Freshness.{Freshness}
use Rattle.tuples.specs.declared.freshness.Freshness.TheVariants.{Latest, AtLeast, Exact}
use Rattle.tuples.specs.declared.request.Request.{Request}
use Rattle.tuples.specs.declared.request.Request.TheVariants.{Write, Read, Check, Watch}
use Rattle.script_text.specs.Lines.{SpellsRequest}
use Rattle.script_text.specs.Shapes.{Fresh, HasShape, Shape, at_least, check, exact, fresh_word, latest, read, watch, write}
use Rattle.script_text.specs.Texts.{IsWanted, change_text, condition_text, fresh_text}
use Rattle.script_text.specs.Words.{AreFull, HasConditionShape, is_marked}

changes_marked : (cs : List Change) → list_all is_marked (map change_text cs) ≡ true
changes_marked [] = refl
changes_marked (Touch t ∷ cs) = changes_marked cs
changes_marked (Delete t ∷ cs) = changes_marked cs

asked_all : (cs : List Condition) → All (λ (c : Condition). IsWanted c.want) cs → All HasConditionShape (map condition_text cs)
asked_all cs wanted = All-map HasConditionShape condition_text cs (All-weaker (λ (c : Condition). IsWanted c.want) (λ c. HasConditionShape (condition_text c)) (λ c w. (tuple_text c.tuple, c.want, w, refl)) cs wanted)

-- something stands after a text
behind_full : (a b : List ℕ) (c : ℕ) → 1 ≤ length (a ++ c ∷ b)
behind_full a b c = omega (arith, length-append a (c ∷ b))

tuple_full : (t : Tuple) → 1 ≤ length (tuple_text t)
tuple_full t = behind_full (object_text t.object ++ 35 ∷ t.relation) (user_text t.user) 64

set_full : (q : Tupleset) → 1 ≤ length (tupleset_text q)
set_full (Key t) = tuple_full t
set_full (OfObject o r) = omega (arith, length-append (object_text o) (relation_text r), behind_full o.namespace o.id 58)
set_full (OfUser n u r) = behind_full (n ++ relation_text r) (user_text u) 64

sets_full : (qs : List Tupleset) → AreFull (map tupleset_text qs)
sets_full [] = All-nil (λ word. 1 ≤ length word)
sets_full (q ∷ qs) = All-cons (λ word. 1 ≤ length word) (tupleset_text q) (map tupleset_text qs) (set_full q) (sets_full qs)

names_full : (names : List (List ℕ)) → All IsName names → AreFull names
names_full names each = All-weaker IsName (λ name. 1 ≤ length name) (λ name v. v.some) names each

zookie_full : (store place : ℕ) → 1 ≤ length (zookie_text store place)
unfolding zookie_text
zookie_full store place = omega (arith, length_text (zookie_bytes store place) refl)

abbrev fresh_of : ℕ → Freshness → Fresh
fresh_of store Latest = latest
fresh_of store (AtLeast place) = at_least (zookie_text store place)
fresh_of store (Exact place) = exact (zookie_text store place)

fresh_same : (store : ℕ) (f : Freshness) → fresh_text store f ≡ fresh_word (fresh_of store f)
fresh_same store Latest = refl
fresh_same store (AtLeast place) = refl
fresh_same store (Exact place) = refl

-- the shape of a request
pub spelled_shape : (store : ℕ) (words : List (List ℕ)) (r : Request) → SpellsRequest store words r → (shape : Shape) × HasShape words shape
spelled_shape store words (Write w) h =
    let long = length-map w.changes change_text in
    (write (map change_text w.changes) (map condition_text w.conditions), (h.0, record { some = omega (arith, long, h.1.0.some); marked = changes_marked w.changes; asked = asked_all w.conditions h.1.1 }))
spelled_shape store words (Read f sets) h =
    let long = length-map sets.items tupleset_text in
    (read (fresh_of store f) (map tupleset_text sets.items), (h.0 ∙ ap (λ (l : List ℕ). codes "read" ∷ l ∷ map tupleset_text sets.items) (fresh_same store f), (omega (arith, long, h.1.1.0), sets_full sets.items)))
spelled_shape store words (Check f t) h = (check (fresh_of store f) (tuple_text t), (h.0 ∙ ap (λ (l : List ℕ). codes "check" ∷ l ∷ tuple_text t ∷ []) (fresh_same store f), tuple_full t))
spelled_shape store words (Watch from limit names) h = (watch (zookie_text store from) limit names.items, (h.0, (zookie_full store from, h.1.1, (h.1.2.0, names_full names.items h.1.3))))

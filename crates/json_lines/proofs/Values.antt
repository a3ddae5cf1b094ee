-- What lists of values say of the lists that they stand for.
use Rattle.std.proofs.Common.{◌≡◌, ℕ, suc, zero, ◌+◌, ◌<◌, ◌≤◌, List, [], ◌∷◌, ◌++◌, map, take, length, get_or, sym, ap, ◌∙◌, ◌⊎◌, inl, inr, arith, refl, codes, Bor, Some, String, string_bytes}
use Rattle.std.proofs.lemmas.List.{take_all, take_more, map-append}
use Rattle.std.specs.declared.alloc.Global.{Global}
use Rattle.serde_json.specs.Data.{Data, Members, null, boolean, number, string, array, object, member}
use Rattle.serde_json.specs.Find.{as_object}
use Rattle.serde_json.specs.View.{items_of, members_view, view}
use Rattle.serde_json.specs.declared.value.Value.{Value}
use Rattle.refusal.specs.declared.refusal.Refusal.{Refusal}
use Rattle.json_lines.specs.declared.shape.ChangeShape.{ChangeShape}
use Rattle.json_lines.specs.declared.shape.ChangeShape.TheVariants.{Touch, Delete}
use Rattle.json_lines.specs.declared.shape.WantShape.{WantShape}
use Rattle.json_lines.specs.declared.shape.WantShape.TheVariants.{Since, Exists, Absent}
use Rattle.json_lines.specs.Shapes.{Field, IsMisshapen, change_json, entry_fields, list_with, members_with, object_with, wanted_json}

pub items_once : (xs ys : List Data) → items_of xs ≡ items_of ys → xs ≡ ys
items_once [] [] e = refl
items_once [] (y ∷ ys) e = absurd cc
items_once (x ∷ xs) [] e = absurd cc
items_once (x ∷ xs) (y ∷ ys) e =
    let same : x ≡ y = cc in
    let more : items_of xs ≡ items_of ys = cc in
    ap (λ (d : Data). d ∷ xs) same ∙ ap (λ (ds : List Data). y ∷ ds) (items_once xs ys more)

pub lists_once : (xs ys : List Data) → list_with xs ≡ list_with ys → xs ≡ ys
lists_once xs ys e = items_once xs ys cc

-- one more value
pub map_more : {A B C : Type 0} (f : A → C) (g : B → C) (xs : List A) (ys : List B) (i : ℕ) (d : A) (y : B) → i < length xs → map f (take i xs) ≡ map g ys → f (get_or xs i d) ≡ g y → map f (take (i + 1) xs) ≡ map g (ys ++ y ∷ [])
map_more {A} {B} {C} f g xs ys i d y h e here =
    ap (map f) (take_more xs i d h)
    ∙ map-append f (take i xs) (get_or xs i d ∷ [])
    ∙ ap (λ (t : List C). t ++ f (get_or xs i d) ∷ []) e
    ∙ ap (λ (c : C). map g ys ++ c ∷ []) here
    ∙ sym (map-append g ys (y ∷ []))

-- a value at a place that stands for nothing
pub none_at : {A B C : Type 0} (f : A → C) (g : B → C) (xs : List A) (ys : List B) (i : ℕ) (d : A) → i < length xs → ((y : B) → f (get_or xs i d) ≡ g y → ⊥) → map f xs ≡ map g ys → ⊥
none_at f g [] ys i d h none e = omega arith
none_at f g (x ∷ xs) [] i d h none e = cc
none_at f g (x ∷ xs) (y ∷ ys) zero d h none e = none y cc
none_at f g (x ∷ xs) (y ∷ ys) (suc i) d h none e =
    let more : map f xs ≡ map g ys = cc in
    none_at f g xs ys i d (omega arith) none more

-- an item that stands for nothing
pub no_list : {B : Type 0} (g : B → Data) (value : Data) (xs : List Value) (i : ℕ) (x : Value) → value ≡ list_with (map view xs) → i < length xs → x ≡ get_or xs i x → ((y : B) → view x ≡ g y → ⊥) → (ys : List B) → value ≡ list_with (map g ys) → ⊥
no_list g value xs i x is h here none ys e = none_at view g xs ys i x h (λ y same. none y (ap view here ∙ same)) (lists_once (map view xs) (map g ys) (sym is ∙ e))

pub misshapen_list : {B : Type 0} (g : B → Data) (value : Data) (xs : List Value) (i : ℕ) (x : Value) (e : Refusal) → value ≡ list_with (map view xs) → i < length xs → x ≡ get_or xs i x
    → IsMisshapen (λ y. view x ≡ g y) e → IsMisshapen (λ (ys : List B). value ≡ list_with (map g ys)) e
misshapen_list g value xs i x e is h here (inl r) = inl (r.0, no_list g value xs i x is h here r.1)
misshapen_list g value xs i x e is h here (inr r) = inr r

-- the members that a map has
pub members_as_fields : (es : List (String Global × Value)) → members_view es ≡ members_with (entry_fields es)
members_as_fields [] = refl
members_as_fields (e ∷ es) = ap (λ (ms : Members). member (string_bytes e.0) (view e.1) ms) (members_as_fields es)

pub members_once : (fs gs : List Field) → members_with fs ≡ members_with gs → fs ≡ gs
members_once [] [] e = refl
members_once [] (g ∷ gs) e = absurd cc
members_once (f ∷ fs) [] e = absurd cc
members_once (f ∷ fs) (g ∷ gs) e =
    let key : f.0 ≡ g.0 = cc in
    let value : f.1 ≡ g.1 = cc in
    let more : members_with fs ≡ members_with gs = cc in
    let same : f ≡ g = ap (λ (k : List ℕ). (k, f.1)) key ∙ ap (λ (d : Data). (g.0, d)) value in
    ap (λ (x : Field). x ∷ fs) same ∙ ap (λ (xs : List Field). g ∷ xs) (members_once fs gs more)

pub objects_once : (fs gs : List Field) → object_with fs ≡ object_with gs → fs ≡ gs
objects_once fs gs e = members_once fs gs cc

pub object_is : (d : Data) (es : List (String Global × Value)) → Some (members_view es) ≡ as_object d → d ≡ object_with (entry_fields es)
object_is (object ms) es e = let same : ms ≡ members_view es = cc in ap (λ (x : Members). object x) (same ∙ members_as_fields es)
object_is null es e = absurd cc
object_is (boolean b) es e = absurd cc
object_is (number n) es e = absurd cc
object_is (string s) es e = absurd cc
object_is (array ds) es e = absurd cc

-- the texts of references
pub map_texts : (xs : List (Bor (List ℕ))) → map string (map (λ (t : Bor (List ℕ)). t.now) xs) ≡ map (λ (t : Bor (List ℕ)). string t.now) xs
map_texts [] = refl
map_texts (x ∷ xs) = ap (λ (ds : List Data). string x.now ∷ ds) (map_texts xs)

-- members that are not those of a change
pub no_change : (value : Data) (fs : List Field) → value ≡ object_with fs → ((a b : List ℕ) → fs ≡ (codes "op", string a) ∷ (codes "tuple", string b) ∷ [] → ⊥) → (c : ChangeShape) → value ≡ change_json c → ⊥
no_change value fs is none (Touch t) e = none (codes "touch") t.now (objects_once fs _ (sym is ∙ e))
no_change value fs is none (Delete t) e = none (codes "delete") t.now (objects_once fs _ (sym is ∙ e))

-- members that are those of neither kind of condition
pub no_condition : (value : Data) (fs : List Field) → value ≡ object_with fs
    → ((a b : List ℕ) → fs ≡ (codes "since", string a) ∷ (codes "tuple", string b) ∷ [] → ⊥)
    → ((a b : List ℕ) → fs ≡ (codes "tuple", string a) ∷ (codes "want", string b) ∷ [] → (b ≡ codes "exists") ⊎ (b ≡ codes "absent") → ⊥)
    → (want : WantShape) (tuple : List ℕ) → value ≡ wanted_json want tuple → ⊥
no_condition value fs is no_since no_want (Since z) tuple e = no_since z.now tuple (objects_once fs _ (sym is ∙ e))
no_condition value fs is no_since no_want Exists tuple e = no_want tuple (codes "exists") (objects_once fs _ (sym is ∙ e)) (inl refl)
no_condition value fs is no_since no_want Absent tuple e = no_want tuple (codes "absent") (objects_once fs _ (sym is ∙ e)) (inr refl)

-- each item was taken
pub whole_list : {B : Type 0} (g : B → Data) (value : Data) (xs : List Value) (ys : List B) (i : ℕ) → value ≡ list_with (map view xs) → length xs ≤ i → map view (take i xs) ≡ map g ys → value ≡ list_with (map g ys)
whole_list g value xs ys i is h e = is ∙ ap (λ (vs : List Value). list_with (map view vs)) (sym (take_all i xs h)) ∙ ap (λ (ds : List Data). list_with ds) e

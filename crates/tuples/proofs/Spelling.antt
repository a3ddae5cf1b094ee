-- Each text of the grammar is cut at its marks in one way.
use Rattle.std.proofs.Common.{◌≡◌, ◌≢◌, ℕ, Bool, true, false, ◌||◌, eqb, List, [], ◌∷◌, refl, sym, ap, ◌∙◌, arith, subst, inl, inr}
use Rattle.std.specs.List.{list_all}
use Rattle.std.proofs.lemmas.List.Folds.{list_any-append}
use Rattle.std.proofs.lemmas.Bool.Decides.{nat_tests}
use Rattle.tuples.specs.Names.{IsName, IsId, is_name_byte, is_id_byte}
use Rattle.tuples.specs.Parsing.{has_byte, Lacks, IsCut, SpellsNone, Refuses, own_text}
use Rattle.tuples.specs.Texts.{IsObject, IsUserset, IsUser, IsTuple, object_text, userset_text, user_text, tuple_text}
use Rattle.tuples.specs.declared.tuple.Tuple.{Tuple}
use Rattle.refusal.specs.declared.refusal.Refusal.{Refusal}
use Rattle.refusal.specs.declared.refusal.Refusal.TheVariants.{BadTuple}
use Rattle.tuples.specs.declared.object.Object.{Object}
use Rattle.tuples.specs.declared.object.Userset.{Userset}
use Rattle.tuples.proofs.Cuts.{cut_once, cut_nowhere}

-- bytes that all pass a test lack one that does not
passing_lack : (p : ℕ → Bool) (mark : ℕ) → p mark ≡ false → (xs : List ℕ) → list_all p xs ≡ true → Lacks mark xs
passing_lack p mark out [] h = refl
passing_lack p mark out (x ∷ xs) h =
    let here : p x ≡ true = grind (arith, nat_tests) in
    let more : list_all p xs ≡ true = grind (arith, nat_tests) in
    let apart : x ≢ mark = λ e. let same : p x ≡ p mark = ap p e in cc in
    let rest = passing_lack p mark out xs more in
    grind (arith, nat_tests)

pub name_lacks : (mark : ℕ) → is_name_byte mark ≡ false → (n : List ℕ) → IsName n → Lacks mark n
name_lacks mark out n v = passing_lack is_name_byte mark out n v.each

pub id_lacks : (mark : ℕ) → is_id_byte mark ≡ false → (n : List ℕ) → IsId n → Lacks mark n
id_lacks mark out n v = passing_lack is_id_byte mark out n v.each

-- a refusal of a part is one of the whole
pub refuses_whole : {A B : Type 0} (IsPart : A → Type 0) (part_text : A → List ℕ) (part : List ℕ) (IsWhole : B → Type 0) (whole_text : B → List ℕ) (whole : List ℕ) (e : Refusal) → (SpellsNone IsPart part_text part → SpellsNone IsWhole whole_text whole) → Refuses IsPart part_text part e → Refuses IsWhole whole_text whole e
refuses_whole IsPart part_text part IsWhole whole_text whole e more (inl h) = inl (h.0, more h.1)
refuses_whole IsPart part_text part IsWhole whole_text whole e more (inr h) = inr h

-- a part that is refused for its text has none
pub spells_none : {A : Type 0} (IsValid : A → Type 0) (text_of : A → List ℕ) (t : List ℕ) (e : Refusal) → Refuses IsValid text_of t e → e ≡ BadTuple → SpellsNone IsValid text_of t
spells_none IsValid text_of t e (inl h) was = h.1
spells_none IsValid text_of t e (inr h) was = absurd cc

-- objects

pub object_parts : (t a b : List ℕ) → IsCut 58 t a b → (o : Object) → IsObject o → t ≡ object_text o → (a ≡ o.namespace) × (b ≡ o.id)
object_parts t a b cut o v e = cut_once 58 a b o.namespace o.id cut.first (name_lacks 58 refl o.namespace v.namespace) (sym cut.whole ∙ e)

pub object_by_namespace : (t a b : List ℕ) → IsCut 58 t a b → SpellsNone IsName own_text a → SpellsNone IsObject object_text t
object_by_namespace t a b cut none o v e = none o.namespace v.namespace (object_parts t a b cut o v e).0

pub object_by_id : (t a b : List ℕ) → IsCut 58 t a b → SpellsNone IsId own_text b → SpellsNone IsObject object_text t
object_by_id t a b cut none o v e = none o.id v.id (object_parts t a b cut o v e).1

lacks_both : (a b c : Bool) → a ≡ false → b ≡ false → c ≡ false → (a || (b || c)) ≡ false
lacks_both a b c ha hb hc = grind (arith, nat_tests)

pub object_lacks : (mark : ℕ) → is_name_byte mark ≡ false → is_id_byte mark ≡ false → eqb 58 mark ≡ false → (o : Object) → IsObject o → Lacks mark (object_text o)
object_lacks mark in_name in_id apart o v =
    let name = name_lacks mark in_name o.namespace v.namespace in
    let id = id_lacks mark in_id o.id v.id in
    list_any-append (λ b. eqb b mark) o.namespace (58 ∷ o.id) ∙ lacks_both (has_byte mark o.namespace) (eqb 58 mark) (has_byte mark o.id) name apart id

-- usersets

pub userset_parts : (t a b : List ℕ) → IsCut 35 t a b → (s : Userset) → IsUserset s → t ≡ userset_text s → (a ≡ object_text s.object) × (b ≡ s.relation)
userset_parts t a b cut s v e = cut_once 35 a b (object_text s.object) s.relation cut.first (object_lacks 35 refl refl refl s.object v.object) (sym cut.whole ∙ e)

pub userset_by_object : (t a b : List ℕ) → IsCut 35 t a b → SpellsNone IsObject object_text a → SpellsNone IsUserset userset_text t
userset_by_object t a b cut none s v e = none s.object v.object (userset_parts t a b cut s v e).0

pub userset_by_relation : (t a b : List ℕ) → IsCut 35 t a b → SpellsNone IsName own_text b → SpellsNone IsUserset userset_text t
userset_by_relation t a b cut none s v e = none s.relation v.relation (userset_parts t a b cut s v e).1

-- a `:` tells a userset from an id
pub userset_has_colon : (s : Userset) → Lacks 58 (userset_text s) → ⊥
userset_has_colon s h =
    let whole : has_byte 58 (userset_text s) ≡ (has_byte 58 (object_text s.object) || has_byte 58 (35 ∷ s.relation)) = list_any-append (λ b. eqb b 58) (object_text s.object) (35 ∷ s.relation) in
    let object : Lacks 58 (object_text s.object) = grind (arith, nat_tests) in
    cut_nowhere 58 s.object.namespace s.object.id object

pub userset_lacks : (mark : ℕ) → is_name_byte mark ≡ false → is_id_byte mark ≡ false → eqb 58 mark ≡ false → eqb 35 mark ≡ false → (s : Userset) → IsUserset s → Lacks mark (userset_text s)
userset_lacks mark in_name in_id apart also s v =
    list_any-append (λ b. eqb b mark) (object_text s.object) (35 ∷ s.relation) ∙ lacks_both (has_byte mark (object_text s.object)) (eqb 35 mark) (has_byte mark s.relation) (object_lacks mark in_name in_id apart s.object v.object) also (name_lacks mark in_name s.relation v.relation)

-- tuples

-- the object with the relation, as a userset
abbrev pub front_of : Tuple → Userset
front_of t = record { object = t.object; relation = t.relation }

pub front_valid : (t : Tuple) → IsTuple t → IsUserset (front_of t)
front_valid t v = record { object = v.object; relation = v.relation }

pub tuple_parts : (t a b : List ℕ) → IsCut 64 t a b → (x : Tuple) → IsTuple x → t ≡ tuple_text x → (a ≡ userset_text (front_of x)) × (b ≡ user_text x.user)
tuple_parts t a b cut x v e = cut_once 64 a b (userset_text (front_of x)) (user_text x.user) cut.first (userset_lacks 64 refl refl refl refl (front_of x) (front_valid x v)) (sym cut.whole ∙ e)

pub tuple_has_cut : (t : List ℕ) → Lacks 64 t → SpellsNone IsTuple tuple_text t
tuple_has_cut t h x v e = cut_nowhere 64 (userset_text (front_of x)) (user_text x.user) (subst (Lacks 64) e h)

pub tuple_by_front : (t a b : List ℕ) → IsCut 64 t a b → SpellsNone IsUserset userset_text a → SpellsNone IsTuple tuple_text t
tuple_by_front t a b cut none x v e = none (front_of x) (front_valid x v) (tuple_parts t a b cut x v e).0

pub tuple_by_user : (t a b : List ℕ) → IsCut 64 t a b → SpellsNone IsUser user_text b → SpellsNone IsTuple tuple_text t
tuple_by_user t a b cut none x v e = none x.user v.user (tuple_parts t a b cut x v e).1

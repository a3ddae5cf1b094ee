-- Texts and tuples are fields.
use Rattle.std.proofs.Common.{◌≡◌, ℕ, zero, suc, ◌<◌, ◌≤◌, true, false, cond, ltb, List, [], ◌∷◌, ◌++◌, length, take, drop, Option, Some, None, refl, sym, subst, append_assoc, arith}
use Rattle.std.proofs.lemmas.Bool.{ltb-false, le-ltb}
use Rattle.std.proofs.lemmas.List.{take_at, drop_at, take-append-drop, length-append, length-take}
use Rattle.tuples.specs.declared.object.Object.{Object}
use Rattle.tuples.specs.declared.object.Userset.{Userset}
use Rattle.tuples.specs.declared.user.User.{User}
use Rattle.tuples.specs.declared.user.User.TheVariants.{Id, Set}
use Rattle.tuples.specs.declared.tuple.Tuple.{Tuple}
use Rattle.tuples.specs.Names.{IsId, IsName}
use Rattle.tuples.specs.Texts.{IsObject, IsUserset, IsUser, IsTuple}
use Rattle.records.specs.Format.{text_bytes, object_bytes, user_bytes, tuple_bytes}
use Rattle.records.specs.Reading.{byte_at, text_at, is_id, is_name, name_at, id_at, object_at, userset_at, user_of_kind_at, user_at, tuple_at}
use Rattle.records.proofs.Fields.{IsBytes, IsBytes-drop, Takes, Takes-then, Takes-kind, IsField, IsCase, field_of, bind_some, refused, one_case, two_case, three_case, tagged, tagged_field, byte_field}
use Rattle.records.proofs.Meanings.{name_of_test, test_of_name, id_of_test, test_of_id}

-- a case of a kind
pub kind_takes : {A C : Type 0} (k : ℕ) (reader : List ℕ → Option (C × List ℕ)) (make : A → C) (s : A → List ℕ) (F : A → Type 0) (t : C → List ℕ) (G : C → Type 0)
    → IsCase reader make s F → ((x : A) → t (make x) ≡ k ∷ s x) → ((x : A) → F x → G (make x))
    → (bytes : List ℕ) (z : C × List ℕ) → IsBytes bytes → reader bytes ≡ Some z → Takes (k ∷ bytes) (t z.0) z.1 × G z.0
kind_takes k reader make s F t G c spelled fits bytes z are_bytes e =
    let p = c.takes bytes z are_bytes e in
    let here : Takes (k ∷ bytes) (t (make p.0)) z.1 × G (make p.0) = (rw (spelled p.0) (Takes-kind k bytes (s p.0) z.1 p.2), fits p.0 p.3) in
    subst (λ y. Takes (k ∷ bytes) (t y) z.1 × G y) p.1 here

-- ---- texts

text_takes : (bytes : List ℕ) (x : List ℕ × List ℕ) → IsBytes bytes → text_at bytes ≡ Some x → Takes bytes (text_bytes x.0) x.1 × (length x.0 < 256)
unfolding text_at
text_takes bytes x fits e =
    let b = bind_some (byte_at bytes) (λ n. cond (ltb (length n.1) n.0) None (Some (take n.0 n.1, drop n.0 n.1))) x e in
    let n = b.0 in
    let t = byte_field.takes bytes n fits b.1 in
    let g = refused (ltb (length n.1) n.0) (take n.0 n.1, drop n.0 n.1) x b.2 in
    let long : n.0 ≤ length n.1 = ltb-false _ _ g.0 in
    let len : length (take n.0 n.1) ≡ n.0 = omega (arith, length-take n.0 n.1) in
    let second : Takes n.1 (take n.0 n.1) (drop n.0 n.1) = record { parts = sym (take-append-drop n.0 n.1); rest_fits = IsBytes-drop n.0 n.1 t.0.rest_fits } in
    let both = Takes-then bytes (n.0 ∷ []) n.1 (take n.0 n.1) (drop n.0 n.1) t.0 second in
    let whole : Takes bytes (text_bytes (take n.0 n.1)) (drop n.0 n.1) = subst (λ (k : ℕ). Takes bytes (k ∷ take n.0 n.1) (drop n.0 n.1)) (sym len) both in
    subst (λ (p : List ℕ × List ℕ). Takes bytes (text_bytes p.0) p.1 × (length p.0 < 256)) g.1 (whole, omega (arith, t.1, len))

text_again : (text rest : List ℕ) → length text < 256 → text_at (text_bytes text ++ rest) ≡ Some (text, rest)
unfolding text_at
text_again text rest lt =
    let long : ltb (length (text ++ rest)) (length text) ≡ false = le-ltb _ _ (omega (arith, length-append text rest)) in
    rw (long, take_at text rest (length text) refl, drop_at text rest (length text) refl) refl

text_field : IsField text_at text_bytes (λ t. length t < 256)
text_field = record { takes = text_takes; again = text_again }

pub name_field : IsField name_at text_bytes IsName
unfolding name_at
name_field = field_of name_at (λ (t : List ℕ). t) text_bytes (λ t. (length t < 256) × (is_name t ≡ true)) text_bytes IsName
    (one_case text_at text_bytes (λ t. length t < 256) is_name (λ t. t) text_field)
    (λ t. refl)
    (λ t fit. name_of_test t fit.1)
    (λ t fit. (t, refl, (omega (arith, fit.few), test_of_name t fit)))

pub id_field : IsField id_at text_bytes IsId
unfolding id_at
id_field = field_of id_at (λ (t : List ℕ). t) text_bytes (λ t. (length t < 256) × (is_id t ≡ true)) text_bytes IsId
    (one_case text_at text_bytes (λ t. length t < 256) is_id (λ t. t) text_field)
    (λ t. refl)
    (λ t fit. id_of_test t fit.1)
    (λ t fit. (t, refl, (omega (arith, fit.few), test_of_id t fit)))

-- ---- tuples

abbrev object : List ℕ → List ℕ → Object
object n i = record { namespace = n; id = i }

pub object_field : IsField object_at object_bytes IsObject
unfolding object_at
object_field = field_of object_at (λ (x : List ℕ × List ℕ). object x.0 x.1) (λ x. text_bytes x.0 ++ text_bytes x.1) (λ x. (IsName x.0 × IsId x.1) × (true ≡ true)) object_bytes IsObject
    (two_case name_at text_bytes IsName id_at text_bytes IsId (λ n i. true) object name_field id_field)
    (λ x. refl)
    (λ x fit. record { namespace = fit.0.0; id = fit.0.1 })
    (λ o fit. ((o.namespace, o.id), refl, ((fit.namespace, fit.id), refl)))

abbrev userset : Object → List ℕ → Userset
userset o r = record { object = o; relation = r }

abbrev userset_bytes : Userset → List ℕ
userset_bytes s = object_bytes s.object ++ text_bytes s.relation

pub userset_field : IsField userset_at userset_bytes IsUserset
unfolding userset_at
userset_field = field_of userset_at (λ (x : Object × List ℕ). userset x.0 x.1) (λ x. object_bytes x.0 ++ text_bytes x.1) (λ x. (IsObject x.0 × IsName x.1) × (true ≡ true)) userset_bytes IsUserset
    (two_case object_at object_bytes IsObject name_at text_bytes IsName (λ o r. true) userset object_field name_field)
    (λ x. refl)
    (λ x fit. record { object = fit.0.0; relation = fit.0.1 })
    (λ s fit. ((s.object, s.relation), refl, ((fit.object, fit.relation), refl)))

plain_user : IsCase (user_of_kind_at 1) (λ (i : List ℕ). Id i) text_bytes (λ i. IsId i × (true ≡ true))
unfolding user_of_kind_at
plain_user = one_case id_at text_bytes IsId (λ i. true) (λ i. Id i) id_field

set_user : IsCase (user_of_kind_at 2) (λ (s : Userset). Set s) userset_bytes (λ s. IsUserset s × (true ≡ true))
unfolding user_of_kind_at
set_user = one_case userset_at userset_bytes IsUserset (λ s. true) (λ s. Set s) userset_field

user_takes : (k : ℕ) (bytes : List ℕ) (z : User × List ℕ) → IsBytes bytes → user_of_kind_at k bytes ≡ Some z → Takes (k ∷ bytes) (user_bytes z.0) z.1 × IsUser z.0
unfolding user_of_kind_at
user_takes zero bytes z fits e = absurd cc
user_takes (suc zero) bytes z fits e =
    kind_takes 1 (user_of_kind_at 1) (λ (i : List ℕ). Id i) text_bytes (λ i. IsId i × (true ≡ true)) user_bytes IsUser plain_user (λ i. refl) (λ i fit. fit.0) bytes z fits e
user_takes (suc (suc zero)) bytes z fits e =
    kind_takes 2 (user_of_kind_at 2) (λ (s : Userset). Set s) userset_bytes (λ s. IsUserset s × (true ≡ true)) user_bytes IsUser set_user (λ s. refl) (λ s fit. fit.0) bytes z fits e
user_takes (suc (suc (suc k))) bytes z fits e = absurd cc

user_again : (u : User) (rest : List ℕ) → IsUser u → tagged user_of_kind_at (user_bytes u ++ rest) ≡ Some (u, rest)
user_again (Id i) rest fit = plain_user.again i rest (fit, refl)
user_again (Set s) rest fit = set_user.again s rest (fit, refl)

pub user_field : IsField user_at user_bytes IsUser
unfolding user_at
user_field = tagged_field user_of_kind_at user_bytes IsUser user_takes user_again

abbrev tuple : Object → List ℕ → User → Tuple
tuple o r u = record { object = o; relation = r; user = u }

pub tuple_field : IsField tuple_at tuple_bytes IsTuple
unfolding tuple_at
tuple_field = field_of tuple_at (λ (x : Object × List ℕ × User). tuple x.0 x.1 x.2) (λ x. object_bytes x.0 ++ (text_bytes x.1 ++ user_bytes x.2)) (λ x. (IsObject x.0 × IsName x.1 × IsUser x.2) × (true ≡ true)) tuple_bytes IsTuple
    (three_case object_at object_bytes IsObject name_at text_bytes IsName user_at user_bytes IsUser (λ o r u. true) tuple object_field name_field user_field)
    (λ x. append_assoc (object_bytes x.0) (text_bytes x.1) (user_bytes x.2))
    (λ x fit. record { object = fit.0.0; relation = fit.0.1; user = fit.0.2 })
    (λ t fit. ((t.object, t.relation, t.user), refl, ((fit.object, fit.relation, fit.user), refl)))

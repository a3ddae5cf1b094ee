-- A text is that of one value.
use Rattle.std.proofs.Common.{◌≡◌, ℕ, List, refl, sym, ap, ◌∙◌, subst}
use Rattle.tuples.specs.Parsing.{Lacks}
use Rattle.tuples.specs.Texts.{IsObject, IsUserset, IsUser, IsTuple, object_text, userset_text, user_text, tuple_text}
use Rattle.tuples.specs.declared.object.Object.{Object}
use Rattle.tuples.specs.declared.object.Userset.{Userset}
use Rattle.tuples.specs.declared.user.User.{User}
use Rattle.tuples.specs.declared.user.User.TheVariants.{Id, Set}
use Rattle.tuples.specs.declared.tuple.Tuple.{Tuple}
use Rattle.tuples.proofs.Cuts.{cut_once}
use Rattle.tuples.proofs.Spelling.{name_lacks, id_lacks, object_lacks, userset_lacks, userset_has_colon, front_of, front_valid}

pub object_text_once : (a b : Object) → IsObject a → IsObject b → object_text a ≡ object_text b → a ≡ b
object_text_once a b va vb e =
    let parts = cut_once 58 a.namespace a.id b.namespace b.id (name_lacks 58 refl a.namespace va.namespace) (name_lacks 58 refl b.namespace vb.namespace) e in
    let object : List ℕ → List ℕ → Object = λ n i. record { namespace = n; id = i } in
    ap (λ (n : List ℕ). object n a.id) parts.0 ∙ ap (object b.namespace) parts.1

pub userset_text_once : (a b : Userset) → IsUserset a → IsUserset b → userset_text a ≡ userset_text b → a ≡ b
userset_text_once a b va vb e =
    let parts = cut_once 35 (object_text a.object) a.relation (object_text b.object) b.relation (object_lacks 35 refl refl refl a.object va.object) (object_lacks 35 refl refl refl b.object vb.object) e in
    let userset : Object → List ℕ → Userset = λ o r. record { object = o; relation = r } in
    ap (λ (o : Object). userset o a.relation) (object_text_once a.object b.object va.object vb.object parts.0) ∙ ap (userset b.object) parts.1

pub user_text_once : (a b : User) → IsUser a → IsUser b → user_text a ≡ user_text b → a ≡ b
user_text_once (Id a) (Id b) va vb e = ap (λ (n : List ℕ). Id n) e
user_text_once (Id a) (Set b) va vb e = absurd (userset_has_colon b (subst (Lacks 58) e (id_lacks 58 refl a va)))
user_text_once (Set a) (Id b) va vb e = absurd (userset_has_colon a (subst (Lacks 58) (sym e) (id_lacks 58 refl b vb)))
user_text_once (Set a) (Set b) va vb e = ap (λ (s : Userset). Set s) (userset_text_once a b va vb e)

pub tuple_text_once : (a b : Tuple) → IsTuple a → IsTuple b → tuple_text a ≡ tuple_text b → a ≡ b
tuple_text_once a b va vb e =
    let parts = cut_once 64 (userset_text (front_of a)) (user_text a.user) (userset_text (front_of b)) (user_text b.user) (userset_lacks 64 refl refl refl refl (front_of a) (front_valid a va)) (userset_lacks 64 refl refl refl refl (front_of b) (front_valid b vb)) e in
    let front = userset_text_once (front_of a) (front_of b) (front_valid a va) (front_valid b vb) parts.0 in
    let tuple : Userset → User → Tuple = λ f u. record { object = f.object; relation = f.relation; user = u } in
    ap (λ (f : Userset). tuple f a.user) front ∙ ap (tuple (front_of b)) (user_text_once a.user b.user va.user vb.user parts.1)

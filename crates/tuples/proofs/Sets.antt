-- A text is that of one tupleset.
use Rattle.std.proofs.Common.{◌≡◌, ℕ, List, ◌++◌, Option, refl, sym, ap, ◌∙◌, subst}
use Rattle.tuples.specs.Names.{IsName}
use Rattle.tuples.specs.Parsing.{Lacks}
use Rattle.tuples.specs.Texts.{IsObject, IsTuple, IsRelation, IsTupleset, object_text, userset_text, user_text, relation_text, tupleset_text}
use Rattle.tuples.specs.declared.object.Object.{Object}
use Rattle.tuples.specs.declared.tuple.Tuple.{Tuple}
use Rattle.tuples.specs.declared.user.User.{User}
use Rattle.tuples.specs.declared.tupleset.Tupleset.{Tupleset}
use Rattle.tuples.specs.declared.tupleset.Tupleset.TheVariants.{Key, OfObject, OfUser}
use Rattle.tuples.proofs.Cuts.{cut_once, cut_nowhere}
use Rattle.tuples.proofs.Spelling.{front_of, front_valid, name_lacks, object_lacks, userset_has_colon, userset_lacks}
use Rattle.tuples.proofs.Once.{object_text_once, tuple_text_once, user_text_once}
use Rattle.tuples.proofs.Selecting.{front_lacks, of_object_lacks, relation_once}

-- a key has an `@`, and a tupleset of an object has none
key_of_no_object : (t : Tuple) (o : Object) (r : Option (List ℕ)) → IsObject o → IsRelation r → tupleset_text (Key t) ≡ tupleset_text (OfObject o r) → ⊥
key_of_no_object t o r vo vr e = cut_nowhere 64 (userset_text (front_of t)) (user_text t.user) (subst (Lacks 64) (sym e) (of_object_lacks o r vo vr))

-- a key has a `:` before the `@`, and a tupleset of a user has none
key_of_no_user : (t : Tuple) (n : List ℕ) (u : User) (r : Option (List ℕ)) → IsTuple t → IsName n → IsRelation r → tupleset_text (Key t) ≡ tupleset_text (OfUser n u r) → ⊥
key_of_no_user t n u r vt vn vr e =
    let front = cut_once 64 (userset_text (front_of t)) (user_text t.user) (n ++ relation_text r) (user_text u) (userset_lacks 64 refl refl refl refl (front_of t) (front_valid t vt)) (front_lacks 64 refl refl n r vn vr) e in
    userset_has_colon (front_of t) (subst (Lacks 58) (sym front.0) (front_lacks 58 refl refl n r vn vr))

-- a tupleset of a user has an `@`, and one of an object has none
user_of_no_object : (n : List ℕ) (u : User) (r : Option (List ℕ)) (o : Object) (s : Option (List ℕ)) → IsObject o → IsRelation s → tupleset_text (OfUser n u r) ≡ tupleset_text (OfObject o s) → ⊥
user_of_no_object n u r o s vo vs e = cut_nowhere 64 (n ++ relation_text r) (user_text u) (subst (Lacks 64) (sym e) (of_object_lacks o s vo vs))

pub tupleset_text_once : (q r : Tupleset) → IsTupleset q → IsTupleset r → tupleset_text q ≡ tupleset_text r → q ≡ r
tupleset_text_once (Key t) (Key u) vt vu e = ap (λ (x : Tuple). Key x) (tuple_text_once t u vt vu e)
tupleset_text_once (Key t) (OfObject o r) vt vo e = absurd (key_of_no_object t o r vo.0 vo.1 e)
tupleset_text_once (Key t) (OfUser n u r) vt vu e = absurd (key_of_no_user t n u r vt vu.0 vu.2 e)
tupleset_text_once (OfObject o r) (Key t) vo vt e = absurd (key_of_no_object t o r vo.0 vo.1 (sym e))
tupleset_text_once (OfObject o r) (OfObject p s) vo vp e =
    let parts = relation_once (object_text o) (object_text p) r s (object_lacks 35 refl refl refl o vo.0) (object_lacks 35 refl refl refl p vp.0) e in
    ap (λ (x : Object). OfObject x r) (object_text_once o p vo.0 vp.0 parts.0) ∙ ap (λ (x : Option (List ℕ)). OfObject p x) parts.1
tupleset_text_once (OfObject o r) (OfUser n u s) vo vu e = absurd (user_of_no_object n u s o r vo.0 vo.1 (sym e))
tupleset_text_once (OfUser n u r) (Key t) vu vt e = absurd (key_of_no_user t n u r vt vu.0 vu.2 (sym e))
tupleset_text_once (OfUser n u r) (OfObject o s) vu vo e = absurd (user_of_no_object n u r o s vo.0 vo.1 e)
tupleset_text_once (OfUser n u r) (OfUser m v s) vu vv e =
    let cut = cut_once 64 (n ++ relation_text r) (user_text u) (m ++ relation_text s) (user_text v) (front_lacks 64 refl refl n r vu.0 vu.2) (front_lacks 64 refl refl m s vv.0 vv.2) e in
    let parts = relation_once n m r s (name_lacks 35 refl n vu.0) (name_lacks 35 refl m vv.0) cut.0 in
    ap (λ (x : List ℕ). OfUser x u r) parts.0 ∙ ap (λ (x : User). OfUser m x r) (user_text_once u v vu.1 vv.1 cut.1) ∙ ap (λ (x : Option (List ℕ)). OfUser m v x) parts.1

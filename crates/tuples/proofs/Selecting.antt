-- Each text of a tupleset is cut at its marks in one way.
use Rattle.std.proofs.Common.{◌≡◌, ℕ, true, false, eqb, List, ◌∷◌, ◌++◌, refl, sym, ap, ◌∙◌, arith, subst, Option, Some, None, append-nil}
use Rattle.std.proofs.lemmas.List.Folds.{list_any-append}
use Rattle.std.proofs.lemmas.Bool.Decides.{nat_tests}
use Rattle.tuples.specs.Names.{IsName, is_name_byte}
use Rattle.tuples.specs.Parsing.{has_byte, Lacks, IsCut, SpellsNone, own_text}
use Rattle.tuples.specs.Texts.{IsObject, IsUser, IsTuple, IsRelation, IsTupleset, object_text, user_text, tuple_text, tupleset_text, relation_text}
use Rattle.tuples.specs.declared.object.Object.{Object}
use Rattle.tuples.specs.declared.user.User.{User}
use Rattle.tuples.specs.declared.tupleset.Tupleset.TheVariants.{Key, OfObject, OfUser}
use Rattle.tuples.proofs.Cuts.{cut_once, cut_nowhere}
use Rattle.tuples.proofs.Spelling.{name_lacks, object_lacks, tuple_has_cut, tuple_parts, userset_has_colon, front_of}

-- the text before a relation has no `#`, so it ends at one place
pub relation_once : (a c : List ℕ) (r s : Option (List ℕ)) → Lacks 35 a → Lacks 35 c → a ++ relation_text r ≡ c ++ relation_text s → (a ≡ c) × (r ≡ s)
relation_once a c None None ha hc e = (sym (append-nil a) ∙ e ∙ append-nil c, refl)
relation_once a c None (Some s) ha hc e = absurd (cut_nowhere 35 c s (subst (Lacks 35) (sym (append-nil a) ∙ e) ha))
relation_once a c (Some r) None ha hc e = absurd (cut_nowhere 35 a r (subst (Lacks 35) (sym (append-nil c) ∙ sym e) hc))
relation_once a c (Some r) (Some s) ha hc e = let parts = cut_once 35 a r c s ha hc e in (parts.0, ap (λ (x : List ℕ). Some x) parts.1)

relation_lacks : (mark : ℕ) → is_name_byte mark ≡ false → eqb 35 mark ≡ false → (r : Option (List ℕ)) → IsRelation r → Lacks mark (relation_text r)
relation_lacks mark out apart None v = refl
relation_lacks mark out apart (Some r) v = let l = name_lacks mark out r v in grind (arith, nat_tests)

lacks_append : (mark : ℕ) (a b : List ℕ) → Lacks mark a → Lacks mark b → Lacks mark (a ++ b)
lacks_append mark a b ha hb = let whole = list_any-append (λ x. eqb x mark) a b in grind (arith, nat_tests)

-- no tupleset of an object has an `@`
pub of_object_lacks : (o : Object) (r : Option (List ℕ)) → IsObject o → IsRelation r → Lacks 64 (object_text o ++ relation_text r)
of_object_lacks o r vo vr = lacks_append 64 (object_text o) (relation_text r) (object_lacks 64 refl refl refl o vo) (relation_lacks 64 refl refl r vr)

-- no `:` or `@` stands before the `@` in a tupleset of a user
pub front_lacks : (mark : ℕ) → is_name_byte mark ≡ false → eqb 35 mark ≡ false → (n : List ℕ) (r : Option (List ℕ)) → IsName n → IsRelation r → Lacks mark (n ++ relation_text r)
front_lacks mark out apart n r vn vr = lacks_append mark n (relation_text r) (name_lacks mark out n vn) (relation_lacks mark out apart r vr)

-- tuplesets of an object

of_object_parts : (t a : List ℕ) (r : Option (List ℕ)) → Lacks 35 a → t ≡ a ++ relation_text r → (o : Object) (s : Option (List ℕ)) → IsObject o → t ≡ object_text o ++ relation_text s → (a ≡ object_text o) × (r ≡ s)
of_object_parts t a r h whole o s v e = relation_once a (object_text o) r s h (object_lacks 35 refl refl refl o v) (sym whole ∙ e)

-- with no `@` a tupleset is one of an object
only_of_object : (t : List ℕ) → Lacks 64 t → ((o : Object) (r : Option (List ℕ)) → IsObject o → IsRelation r → t ≡ object_text o ++ relation_text r → ⊥) → SpellsNone IsTupleset tupleset_text t
only_of_object t h none (Key x) v e = tuple_has_cut t h x v e
only_of_object t h none (OfObject o r) v e = none o r v.0 v.1 e
only_of_object t h none (OfUser n u r) v e = cut_nowhere 64 (n ++ relation_text r) (user_text u) (subst (Lacks 64) e h)

pub of_object_by_object : (t a : List ℕ) (r : Option (List ℕ)) → Lacks 64 t → Lacks 35 a → t ≡ a ++ relation_text r → SpellsNone IsObject object_text a → SpellsNone IsTupleset tupleset_text t
of_object_by_object t a r no_user h whole none = only_of_object t no_user (λ o s vo vs e. none o vo (of_object_parts t a r h whole o s vo e).0)

pub of_object_by_relation : (t a : List ℕ) (r : Option (List ℕ)) → Lacks 64 t → Lacks 35 a → t ≡ a ++ relation_text r → SpellsNone IsRelation relation_text (relation_text r) → SpellsNone IsTupleset tupleset_text t
of_object_by_relation t a r no_user h whole none = only_of_object t no_user (λ o s vo vs e. none s vs (ap relation_text (of_object_parts t a r h whole o s vo e).1))

-- keys

-- with a `:` before the `@` a tupleset is a key
pub key_by_tuple : (t a b : List ℕ) → IsCut 64 t a b → has_byte 58 a ≡ true → SpellsNone IsTuple tuple_text t → SpellsNone IsTupleset tupleset_text t
key_by_tuple t a b cut h none (Key x) v e = none x v e
key_by_tuple t a b cut h none (OfObject o r) v e = cut_nowhere 64 a b (subst (Lacks 64) (sym e ∙ cut.whole) (of_object_lacks o r v.0 v.1))
key_by_tuple t a b cut h none (OfUser n u r) v e =
    let same = (cut_once 64 a b (n ++ relation_text r) (user_text u) cut.first (front_lacks 64 refl refl n r v.0 v.2) (sym cut.whole ∙ e)).0 in
    let lacks : Lacks 58 a = subst (Lacks 58) (sym same) (front_lacks 58 refl refl n r v.0 v.2) in
    cc

-- tuplesets of a user

of_user_parts : (front a user : List ℕ) (r : Option (List ℕ)) → Lacks 64 front → Lacks 35 a → front ≡ a ++ relation_text r → (n : List ℕ) (u : User) (s : Option (List ℕ)) → IsName n → IsRelation s → front ++ 64 ∷ user ≡ n ++ relation_text s ++ 64 ∷ user_text u → (a ≡ n) × (r ≡ s) × (user ≡ user_text u)
of_user_parts front a user r no_user h whole n u s vn vs e =
    let parts = cut_once 64 front user (n ++ relation_text s) (user_text u) no_user (front_lacks 64 refl refl n s vn vs) e in
    let more = relation_once a n r s h (name_lacks 35 refl n vn) (sym whole ∙ parts.0) in
    (more.0, more.1, parts.1)

-- with no `:` before the `@` a tupleset is one of a user
only_of_user : (front user : List ℕ) → Lacks 64 front → Lacks 58 front → ((n : List ℕ) (u : User) (r : Option (List ℕ)) → IsName n → IsUser u → IsRelation r → front ++ 64 ∷ user ≡ n ++ relation_text r ++ 64 ∷ user_text u → ⊥) → SpellsNone IsTupleset tupleset_text (front ++ 64 ∷ user)
only_of_user front user no_user no_object none (Key x) v e =
    let cut : IsCut 64 (front ++ 64 ∷ user) front user = record { first = no_user; whole = refl } in
    userset_has_colon (front_of x) (subst (Lacks 58) (tuple_parts (front ++ 64 ∷ user) front user cut x v e).0 no_object)
only_of_user front user no_user no_object none (OfObject o r) v e = cut_nowhere 64 front user (subst (Lacks 64) (sym e) (of_object_lacks o r v.0 v.1))
only_of_user front user no_user no_object none (OfUser n u r) v e = none n u r v.0 v.1 v.2 e

pub of_user_by_namespace : (front a user : List ℕ) (r : Option (List ℕ)) → Lacks 64 front → Lacks 58 front → Lacks 35 a → front ≡ a ++ relation_text r → SpellsNone IsName own_text a → SpellsNone IsTupleset tupleset_text (front ++ 64 ∷ user)
of_user_by_namespace front a user r no_user no_object h whole none = only_of_user front user no_user no_object (λ n u s vn vu vs e. none n vn (of_user_parts front a user r no_user h whole n u s vn vs e).0)

pub of_user_by_relation : (front a user : List ℕ) (r : Option (List ℕ)) → Lacks 64 front → Lacks 58 front → Lacks 35 a → front ≡ a ++ relation_text r → SpellsNone IsRelation relation_text (relation_text r) → SpellsNone IsTupleset tupleset_text (front ++ 64 ∷ user)
of_user_by_relation front a user r no_user no_object h whole none = only_of_user front user no_user no_object (λ n u s vn vu vs e. none s vs (ap relation_text (of_user_parts front a user r no_user h whole n u s vn vs e).1))

pub of_user_by_user : (front a user : List ℕ) (r : Option (List ℕ)) → Lacks 64 front → Lacks 58 front → Lacks 35 a → front ≡ a ++ relation_text r → SpellsNone IsUser user_text user → SpellsNone IsTupleset tupleset_text (front ++ 64 ∷ user)
of_user_by_user front a user r no_user no_object h whole none = only_of_user front user no_user no_object (λ n u s vn vu vs e. none u vu (of_user_parts front a user r no_user h whole n u s vn vs e).2)

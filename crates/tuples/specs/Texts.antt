-- The one text of each value, and which values have one.
use Rattle.std.specs.Prelude.{ℕ, List, [], ◌∷◌, ◌++◌, Option, Some, None}
use Rattle.tuples.specs.Names.{IsName, IsId}
use Rattle.tuples.specs.declared.object.Object.{Object}
use Rattle.tuples.specs.declared.object.Userset.{Userset}
use Rattle.tuples.specs.declared.user.User.{User}
use Rattle.tuples.specs.declared.user.User.TheVariants.{Id, Set}
use Rattle.tuples.specs.declared.tuple.Tuple.{Tuple}
use Rattle.tuples.specs.declared.tupleset.Tupleset.{Tupleset}
use Rattle.tuples.specs.declared.tupleset.Tupleset.TheVariants.{Key, OfObject, OfUser}

-- namespace:id
abbrev pub object_text : Object → List ℕ
object_text o = o.namespace ++ 58 ∷ o.id

-- namespace:id#relation
abbrev pub userset_text : Userset → List ℕ
userset_text s = object_text s.object ++ 35 ∷ s.relation

-- a plain id, or a userset
abbrev pub user_text : User → List ℕ
user_text (Id i) = i
user_text (Set s) = userset_text s

-- namespace:id#relation@user
abbrev pub tuple_text : Tuple → List ℕ
tuple_text t = object_text t.object ++ 35 ∷ t.relation ++ 64 ∷ user_text t.user

-- #relation, if one is given
abbrev pub relation_text : Option (List ℕ) → List ℕ
relation_text None = []
relation_text (Some r) = 35 ∷ r

-- one key; namespace:id or namespace:id#relation; namespace@user or namespace#relation@user
abbrev pub tupleset_text : Tupleset → List ℕ
tupleset_text (Key t) = tuple_text t
tupleset_text (OfObject o r) = object_text o ++ relation_text r
tupleset_text (OfUser n u r) = n ++ relation_text r ++ 64 ∷ user_text u

pub record IsObject (o : Object) : Type 0 where
  pub namespace : IsName o.namespace
  pub id : IsId o.id

pub record IsUserset (s : Userset) : Type 0 where
  pub object : IsObject s.object
  pub relation : IsName s.relation

abbrev pub IsUser : User → Type 0
IsUser (Id i) = IsId i
IsUser (Set s) = IsUserset s

-- each part of the tuple is in its grammar
pub record IsTuple (t : Tuple) : Type 0 where
  pub object : IsObject t.object
  pub relation : IsName t.relation
  pub user : IsUser t.user

abbrev pub IsRelation : Option (List ℕ) → Type 0
IsRelation None = Unit {0}
IsRelation (Some r) = IsName r

abbrev pub IsTupleset : Tupleset → Type 0
IsTupleset (Key t) = IsTuple t
IsTupleset (OfObject o r) = IsObject o × IsRelation r
IsTupleset (OfUser n u r) = IsName n × IsUser u × IsRelation r

-- A tuple as one text: its names and ids, with a mark below each byte of theirs after all but the last.
use Rattle.std.specs.Prelude.{◌≡◌, ◌==◌, ◌+◌, ℕ, Bool, nat_le, List, ◌∷◌, ◌++◌, take, drop, get_or, if◌then◌else◌}
use Rattle.std.specs.List.{position_or_len}
use Rattle.tuples.specs.declared.object.Userset.{Userset}
use Rattle.tuples.specs.declared.user.User.{User}
use Rattle.tuples.specs.declared.user.User.TheVariants.{Id, Set}
use Rattle.tuples.specs.declared.tuple.Tuple.{Tuple}
use Rattle.tuples.specs.Texts.{IsTuple}

-- the most bytes of a packing
abbrev pub max_packed : ℕ
max_packed = 517

-- namespace 0 id 0 relation
abbrev pub userset_packing : Userset → List ℕ
userset_packing s = s.object.namespace ++ 0 ∷ (s.object.id ++ 0 ∷ s.relation)

-- a plain user after 1, a userset after 2
abbrev pub user_packing : User → List ℕ
user_packing (Id i) = 1 ∷ i
user_packing (Set s) = 2 ∷ userset_packing s

-- namespace 0 id 0 relation, and the user
abbrev pub packing : Tuple → List ℕ
packing t = t.object.namespace ++ 0 ∷ (t.object.id ++ 0 ∷ (t.relation ++ user_packing t.user))

-- the namespace, the user, 0 id 0 relation
abbrev pub packing_by_user : Tuple → List ℕ
packing_by_user t = t.object.namespace ++ (user_packing t.user ++ 0 ∷ (t.object.id ++ 0 ∷ t.relation))

abbrev pub is_mark : ℕ → Bool
is_mark b = nat_le b 2

-- how many bytes stand before the first mark
abbrev pub place : List ℕ → ℕ
place = position_or_len is_mark

-- what stands before the first mark, and what after it
abbrev pub front : List ℕ → List ℕ
front text = take (place text) text

abbrev pub behind : List ℕ → List ℕ
behind text = drop (place text + 1) text

-- the first mark is that of a userset
abbrev pub is_of_set : List ℕ → Bool
is_of_set text = get_or text (place text) 0 == 2

abbrev pub unpacked_userset : List ℕ → Userset
unpacked_userset text = record { object = record { namespace = front text; id = front (behind text) }; relation = front (behind (behind text)) }

-- the user of the kind at whose packing the text begins, and what stands after it
abbrev pub unpacked_user : Bool → List ℕ → User
unpacked_user is_set text = if is_set then Set (unpacked_userset text) else Id (front text)

abbrev pub behind_user : Bool → List ℕ → List ℕ
behind_user is_set text = if is_set then behind (behind (behind text)) else behind text

-- the tuple that a packing stands for
abbrev pub unpacked : List ℕ → Tuple
unpacked text = record {
  object = record { namespace = front text; id = front (behind text) };
  relation = front (behind (behind text));
  user = unpacked_user (is_of_set (behind (behind text))) (behind (behind (behind text)));
}

-- the tuple that a packing by user stands for
abbrev pub unpacked_by_user : List ℕ → Tuple
unpacked_by_user text = record {
  object = record { namespace = front text; id = front (behind_user (is_of_set text) (behind text)) };
  relation = behind (behind_user (is_of_set text) (behind text));
  user = unpacked_user (is_of_set text) (behind text);
}

-- the text is the packing of a tuple
pub record IsPacking (text : List ℕ) : Type 0 where
  pub spelled : IsTuple (unpacked text)
  pub same : text ≡ packing (unpacked text)

-- the text is the packing of a tuple by user
pub record IsPackingByUser (text : List ℕ) : Type 0 where
  pub spelled : IsTuple (unpacked_by_user text)
  pub same : text ≡ packing_by_user (unpacked_by_user text)

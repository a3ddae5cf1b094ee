-- What a pass holds and knows, and what is left of it when some goes with another pass.
use Rattle.std.specs.Prelude.{ℕ, true, false, List, [], ◌++◌, Option, take, drop}
use Rattle.atomic_table.specs.Seated.{TableId}
use Rattle.joint.specs.Held.{in_place, numbered}
use Rattle.joint.specs.declared.rule.View.{View}

-- what contracts see of a pass: of which state it is, the parts and the goods that it holds, and the facts that it knows
pub record Holding (P T F : Type 0) : Type 0 where
  pub table : TableId
  pub parts : List (ℕ × P)
  pub goods : List (ℕ × T)
  pub facts : List F

module _ {P T F : Type 0} where
  -- a pass that holds and knows nothing
  abbrev pub nobody : View P T F
  nobody = record { has_begun = true; parts = []; goods = []; facts = [] }

  -- the one pass of a state that has no part yet
  abbrev pub unbegun : View P T F
  unbegun = record { has_begun = false; parts = []; goods = []; facts = [] }

  -- the first pass of a state
  abbrev pub opener : List (ℕ × P) → List F → View P T F
  opener parts facts = record { has_begun = true; parts = parts; goods = []; facts = facts }

  abbrev pub without_goods : View P T F → View P T F
  without_goods v = record { has_begun = v.has_begun; parts = v.parts; goods = []; facts = v.facts }

  abbrev pub only_goods : View P T F → View P T F
  only_goods v = record { has_begun = v.has_begun; parts = []; goods = v.goods; facts = v.facts }

  abbrev pub without_first : View P T F → View P T F
  without_first v = record { has_begun = v.has_begun; parts = drop 1 v.parts; goods = v.goods; facts = v.facts }

  abbrev pub only_first : View P T F → View P T F
  only_first v = record { has_begun = v.has_begun; parts = take 1 v.parts; goods = []; facts = v.facts }

  abbrev pub only_facts : View P T F → View P T F
  only_facts v = record { has_begun = v.has_begun; parts = []; goods = []; facts = v.facts }

  abbrev pub both_of : View P T F → View P T F → View P T F
  both_of v u = record { has_begun = v.has_begun; parts = v.parts ++ u.parts; goods = v.goods ++ u.goods; facts = v.facts ++ u.facts }

  -- a part and goods in place of those that it holds, and more facts
  abbrev pub changed : Option P → Option T → List F → View P T F → View P T F
  changed p t fs v = record { has_begun = v.has_begun; parts = in_place v.parts p; goods = in_place v.goods t; facts = v.facts ++ fs }

  -- goods under a new number, and more facts
  abbrev pub with_issued : ℕ → Option T → List F → View P T F → View P T F
  with_issued k t fs v = record { has_begun = v.has_begun; parts = v.parts; goods = v.goods ++ numbered k t; facts = v.facts ++ fs }

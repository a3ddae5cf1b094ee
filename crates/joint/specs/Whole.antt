-- One state of all nodes and of all callers, the rule of what passes hold and know of it, and what each step owes and tells.
use Rattle.std.specs.Prelude.{◌≡◌, ◌⊎◌, ◌≤◌, ℕ, true, List, [], ◌∷◌, Option, None, Contains}
use mathlib.Core.Option.{some}
use lib.ListN.{get_elem?}
use Rattle.atomic_table.specs.Table.{Me, State, Step}
use Rattle.joint.specs.Held.{AreApart, IsOf, put, under, with_value}
use Rattle.joint.specs.Views.{Holding, changed, opener, unbegun, with_issued}
use Rattle.joint.specs.declared.rule.View.{View}

-- the parts of nodes, and the goods of callers, each under a number of its own
pub record Whole (P T : Type 0) : Type 0 where
  pub parts : ℕ → Option P
  pub goods : ℕ → Option T

-- the state that has just these parts
abbrev pub of_parts : {P T : Type 0} → List (ℕ × P) → Whole P T
of_parts held = record { parts = under held; goods = λ n. None }

-- the state with another part and other goods in place of those that are held
abbrev pub with_put : {P T : Type 0} → List (ℕ × P) → List (ℕ × T) → Option P → Option T → Whole P T → Whole P T
with_put parts goods p t whole = record { parts = put parts p whole.parts; goods = put goods t whole.goods }

-- the state with goods under one number more
abbrev pub with_goods : {P T : Type 0} → ℕ → Option T → Whole P T → Whole P T
with_goods k t whole = record { parts = whole.parts; goods = with_value k t whole.goods }

-- Given the law of the state, and which facts are right of it
module _ {P T F : Type 0} (holds : Whole P T → Type 0) (right : Whole P T → F → Type 0) where
  -- Each pass holds what the state has, no two hold the same, and all that they know is right. From some number on nobody ever held goods.
  pub record Kept (views : List (View P T F)) : Type 0 where
    pub whole : Whole P T
    pub law : holds whole
    pub parts : (i : ℕ) (v : View P T F) → get_elem? views i ≡ some v → IsOf v.parts whole.parts
    pub goods : (i : ℕ) (v : View P T F) → get_elem? views i ≡ some v → IsOf v.goods whole.goods
    pub one_part : (i j : ℕ) (v u : View P T F) (n : ℕ) (p q : P) → get_elem? views i ≡ some v → get_elem? views j ≡ some u → Contains v.parts (n, p) → Contains u.parts (n, q) → i ≡ j
    pub one_goods : (i j : ℕ) (v u : View P T F) (n : ℕ) (p q : T) → get_elem? views i ≡ some v → get_elem? views j ≡ some u → Contains v.goods (n, p) → Contains u.goods (n, q) → i ≡ j
    pub begun : (i : ℕ) (v : View P T F) → get_elem? views i ≡ some v → v.has_begun ≡ true
    pub apart : (i : ℕ) (v : View P T F) → get_elem? views i ≡ some v → AreApart v.parts
    pub facts : (i : ℕ) (v : View P T F) (f : F) → get_elem? views i ≡ some v → Contains v.facts f → right whole f
    pub issued : ℕ
    pub no_more : (n : ℕ) → issued ≤ n → whole.goods n ≡ None

  -- the rule: so it is once the state has begun
  abbrev pub IsRuled : State (Unit {0}) (View P T F) → Type 0
  IsRuled s = (s.views ≡ unbegun ∷ []) ⊎ Kept s.views

  -- the state has what a pass holds, all that it knows is right of it, and it is by the law
  pub record Has (ps : List (ℕ × P)) (ts : List (ℕ × T)) (fs : List F) (whole : Whole P T) : Type 0 where
    pub law : holds whole
    pub parts : IsOf ps whole.parts
    pub goods : IsOf ts whole.goods
    pub facts : (f : F) → Contains fs f → right whole f

  -- there is such a state
  abbrev pub IsSeen : Holding P T F → Type 0
  IsSeen pass = (whole : Whole P T) × Has pass.parts pass.goods pass.facts whole

  -- The state that a change leaves is by the law, what was right before it is right of it, and so are the new facts.
  pub record GoesOn (fs : List F) (before after : Whole P T) : Type 0 where
    pub law : holds after
    pub stays : (f : F) → right before f → right after f
    pub new : (f : F) → Contains fs f → right after f

  -- what a change owes: the state goes on, whichever has what the pass holds
  abbrev pub Keeps : Holding P T F → Option P → Option T → List F → Type 0
  Keeps pass p t fs = (whole : Whole P T) → Has pass.parts pass.goods pass.facts whole → GoesOn fs whole (with_put pass.parts pass.goods p t whole)

  -- what new goods owe: the state goes on with them, whichever number that has none they are given, if these facts are right of it
  abbrev pub Admits : List F → Option T → List F → Type 0
  Admits known t fs = (whole : Whole P T) (k : ℕ) → Has [] [] known whole → whole.goods k ≡ None → GoesOn fs whole (with_goods k t whole)

  -- what a start owes: its parts make a state by the law, of which the first facts are right
  pub record Starts (parts : List (ℕ × P)) (fs : List F) : Type 0 where
    pub apart : AreApart parts
    pub law : holds (of_parts parts)
    pub facts : (f : F) → Contains fs f → right (of_parts parts) f

  -- a look leaves the pass as it is
  abbrev pub Looked : Step (Unit {0}) → Me (Unit {0}) (View P T F) → ℕ → Me (Unit {0}) (View P T F) → Type 0
  Looked step me found me' = (me' ≡ me) × ((whole : Whole P T) × Has me.0.parts me.0.goods me.0.facts whole)

module _ {P T F : Type 0} where
  -- a change leaves it with what it put there
  abbrev pub Changed : Option P → Option T → List F → Step (Unit {0}) → Me (Unit {0}) (View P T F) → ℕ → Me (Unit {0}) (View P T F) → Type 0
  Changed p t fs step me found me' = me' ≡ (changed p t fs me.0, me.1)

  -- a beginning leaves it with the first parts and facts
  abbrev pub Begun : List (ℕ × P) → List F → Step (Unit {0}) → Me (Unit {0}) (View P T F) → ℕ → Me (Unit {0}) (View P T F) → Type 0
  Begun parts fs step me found me' = me' ≡ (opener parts fs, me.1)

  -- new goods are held under some number
  abbrev pub Issued : Option T → List F → Step (Unit {0}) → Me (Unit {0}) (View P T F) → ℕ → Me (Unit {0}) (View P T F) → Type 0
  Issued t fs step me found me' = (k : ℕ) × (me' ≡ (with_issued k t fs me.0, me.1))

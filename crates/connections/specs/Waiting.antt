-- The rule of the queue: numbers are put in order and taken in order, none twice.
use Rattle.std.specs.Prelude.{◌≡◌, ℕ, suc, ◌+◌, true, false, List, [], ◌∷◌, ◌++◌, Option, Some, None, if◌then◌else◌, length, map}
use mathlib.Core.Option.{some}
use lib.ListN.{get_elem?}
use Rattle.connections.specs.declared.connections.rule.View.{View}
use Rattle.connections.specs.declared.connections.rule.Numbered.{Numbered}
use Rattle.connections.specs.Ends.{End}
use Rattle.connections.specs.Numbers.{times, once_up_to, behind, IsUpTo, IsAbove, IsEach}

-- the acceptor's view, which knows how many were put, and how many passes there are
abbrev pub acceptor : ℕ → ℕ → List ℕ → View
acceptor put made told = record { puts = true; put = put; made = made; share = 1; taken = []; told = told }

-- a view of so many passes that took nothing: 1 for a new worker, 0 for a pass that was gathered in another
abbrev pub worker : ℕ → View
worker share = record { puts = false; put = 0; made = 0; share = share; taken = []; told = [] }

-- the acceptor's view once there is one pass more
abbrev pub one_more : View → View
one_more v = record v { made = suc v.made }

-- how often x was taken, by all passes together
abbrev pub taken_in_all : ℕ → List View → ℕ
taken_in_all x [] = 0
taken_in_all x (v ∷ vs) = times x v.taken + taken_in_all x vs

-- how many passes the views stand for, each in the one that it was gathered in
abbrev pub shares_in_all : List View → ℕ
shares_in_all [] = 0
shares_in_all (v ∷ vs) = v.share + shares_in_all vs

-- the one pass that puts knows how many were put, and how many passes there are; what a pass took or was told of is gone; one that was gathered in another has nothing
pub record Fits (writer put made gone port : ℕ) (v : View) : Type 0 where
  pub writes : v.puts ≡ true → (port ≡ writer) × (v.put ≡ put) × (v.made ≡ made)
  pub took : IsUpTo gone v.taken
  pub told : IsUpTo gone v.told
  pub empty : v.share ≡ 0 → v.taken ≡ []

-- one pass with what both took
abbrev pub gathered : View → View → View
gathered v u = record v { share = v.share + u.share; taken = v.taken ++ u.taken }

-- a pass that took nothing, and was told of all that this one took
abbrev pub note : View → View
note v = record (worker 0) { told = v.taken }

-- a pass that took in such a note, beside what it was told before
abbrev pub told_of : View → View → View
told_of v u = record v { told = v.told ++ u.told }

-- what the pass that puts knows of the end
abbrev pub end_of : View → Option End
end_of v = if v.puts then Some (record { put = v.put; passes = v.made }) else None

module _ {C : Type 0} where
  -- the numbers of what waits
  abbrev pub numbers : List (Numbered C) → List ℕ
  numbers items = map (λ (i : Numbered C). i.number) items

  -- the numbers up to `gone` were taken, each once, and those after it wait, in their order
  pub record Ruled (items : List (Numbered C)) (views : List View) : Type 0 where
    pub writer : ℕ
    pub made : ℕ
    pub gone : ℕ
    pub waiting : numbers items ≡ behind gone (length items)
    pub once : (x : ℕ) → taken_in_all x views ≡ once_up_to x gone
    pub shares : shares_in_all views ≡ made
    pub passes : (port : ℕ) (v : View) → get_elem? views port ≡ some v → Fits writer (gone + length items) made gone port v

  -- one more was put
  abbrev pub Put : View → Numbered C → View → Type 0
  Put v x w = w ≡ record v { put = suc v.put }

  -- the number is above all that the pass took, which has taken it
  abbrev pub Took : View → Numbered C → View → Type 0
  Took v x w = (w ≡ record v { taken = v.taken ++ x.number ∷ [] }) × IsAbove x.number v.taken

  -- what waits are the numbers after some number, up to the last that was put; none of them is one that the pass took or was told of; if all passes are
  -- gathered in this one, it took each number up to that one
  abbrev pub Waits : View → List (Numbered C) → Type 0
  Waits v items = (gone : ℕ) × (numbers items ≡ behind gone (length items)) × IsUpTo gone v.taken × IsUpTo gone v.told × (v.puts ≡ true → v.put ≡ gone + length items)
      × (v.puts ≡ true → v.made ≡ v.share → IsEach gone v.taken)

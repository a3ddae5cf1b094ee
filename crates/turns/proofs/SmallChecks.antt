-- A small check: a holds b, which holds no other. One step of its walk meets what the laws ask of it.
use Rattle.std.proofs.Common.{◌≡◌, inr, ⊎_elim, ℕ, List, [], ◌∷◌, Some, None, Contains, get_or, refl, sym, ◌∙◌, ap, arith}
use Rattle.std.proofs.lemmas.Option.{slice_get_within}
use Rattle.turns.proofs.Words.{AreOnce, AsksAbove, AsksBelow, CheckHolds, HeadsValue, Set, Tuple, User, Userset, Walks, at_least, exact, holding, latest, to_raise, to_watch}
use Rattle.turns.specs.CoordinatorSeamLaws.{FindsPlace}
use Rattle.tuples.proofs.Lists.{first_or_later}

-- g:x#m, for a byte x
abbrev userset : ℕ → Userset
userset x = record { object = record { namespace = 103 ∷ []; id = x ∷ [] }; relation = 109 ∷ [] }

abbrev a : Userset
a = userset 97

abbrev b : Userset
b = userset 98

-- at place 4 nothing was walked yet, and then a was
abbrev before : CheckHolds
before = record { heads = None; place = Some 4; walked = []; waiting = a ∷ []; batch = None }

abbrev behind : CheckHolds
behind = record { heads = None; place = Some 4; walked = a ∷ []; waiting = b ∷ []; batch = None }

abbrev rows : List Tuple
rows = holding a (Set b) ∷ []

only : {X : Type 0} (x y : X) → Contains (x ∷ []) y → y ≡ x
only x y has = ⊎_elim (λ is. sym is) (λ never. absurd (omega (arith, never.1))) (first_or_later x y [] has)

none : {X : Type 0} (y : X) → Contains [] y → ⊥
none y has = omega (arith, has.1)

itself : {X : Type 0} (x y : X) → y ≡ x → Contains (x ∷ []) y
itself x y is = (0, omega arith, sym is)

once : (x : Userset) → AreOnce (x ∷ [])
once x i j y is_i is_j = let low = slice_get_within (x ∷ []) i y is_i in let high = slice_get_within (x ∷ []) j y is_j in omega (arith, low, high)

apart : b ≡ a → ⊥
apart is = let bytes : 98 ≡ 97 = ap (λ (x : Userset). get_or x.object.id 0 0) is in omega (arith, bytes)

asked_user : (u v : User) → holding a u ≡ holding a v → u ≡ v
asked_user u v is = ap (λ (t : Tuple). t.user) is

same_userset : (x y : Userset) → Set x ≡ Set y → x ≡ y
same_userset x y is = cc

walks_a : Walks a rows before behind
walks_a = record {
  heads = refl;
  place = refl;
  batch = refl;
  rest = [];
  first = refl;
  walked = record { once = once a; has = λ z. (λ has. inr (only a z has), λ is. ⊎_elim (λ never. absurd (none z never)) (λ same. itself a z same) is) };
  more = b ∷ [];
  waiting = refl;
  once = once b;
  held = λ z has. itself (holding a (Set b)) (holding a (Set z)) (ap (λ (y : Userset). holding a (Set y)) (only b z has));
  new = λ z has met. apart (sym (only b z has) ∙ only a z met);
  all = λ z has. inr (itself b z (same_userset z b (asked_user (Set z) (Set b) (only (holding a (Set b)) (holding a (Set z)) has))));
}

-- heads of a log of 5, of which 4 are kept and 2 forgotten
abbrev heads : HeadsValue
heads = record { length = 5; kept = 4; horizon = 2 }

finds_the_kept_place : FindsPlace latest heads 4
finds_the_kept_place = refl

finds_it_for_one_below : FindsPlace (at_least 1) heads 4
finds_it_for_one_below = (refl, omega arith)

finds_one_between : FindsPlace (exact 3) heads 3
finds_one_between = (refl, omega arith, omega arith)

finds_none_that_is_not_kept : FindsPlace (exact 5) heads 5 → ⊥
finds_none_that_is_not_kept is = omega (arith, is.1)

asks_above_the_log : AsksAbove heads (to_watch 6 1 [])
asks_above_the_log = omega arith

raises_above_the_kept_place : AsksAbove heads (to_raise 5)
raises_above_the_kept_place = omega arith

asks_below_the_horizon : AsksBelow heads (to_watch 1 1 [])
asks_below_the_horizon = omega arith

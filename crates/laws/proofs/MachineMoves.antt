-- What the machine keeps, whatever it does.
use Rattle.std.proofs.Common.{◌≡◌, ◌≤◌, ◌++◌, ◌∷◌, [], ℕ, List, length, take, drop, false, ◌-◌, ◌+◌, sym, ◌∙◌, ap, arith, refl, subst}
use Rattle.std.proofs.lemmas.List.{drop-take, length-take, length_push, take-append-le, take-take}
use Rattle.std.specs.List.{flat_map}
use Rattle.laws.proofs.Words.{Entry, Tuple, events_from, there_after}
use Rattle.tuples.specs.Log.{is_at}
use Rattle.tuples.specs.Watching.{events}
use Rattle.laws.specs.Machines.{Machine, Move, append, keep, cut, raise, Makes, Moves}

-- the second machine has all that the first one keeps
record Keeps (m n : Machine) : Type 0 where
  kept : m.kept ≤ n.kept
  within : n.kept ≤ length n.log
  horizon : m.horizon ≤ n.horizon
  writes : take m.kept n.log ≡ take m.kept m.log

-- one move
one_kept : (m n : Machine) (move : Move) → m.kept ≤ length m.log → Makes m move n → Keeps m n
one_kept m n (append w) within makes = subst (λ (x : Machine). Keeps m x) (sym makes.1) (record {
  kept = omega arith;
  within = omega (arith, length_push m.log w, within);
  horizon = omega arith;
  writes = take-append-le m.kept m.log (w ∷ []) within;
})
one_kept m n (keep i) within makes = subst (λ (x : Machine). Keeps m x) (sym makes.1) (record {
  kept = omega arith;
  within = omega (arith, within, makes.0);
  horizon = omega arith;
  writes = refl;
})
one_kept m n (cut i) within makes = subst (λ (x : Machine). Keeps m x) (sym makes.1) (record {
  kept = omega arith;
  within = omega (arith, length-take i m.log, within, makes.0);
  horizon = omega arith;
  writes = take-take m.kept i m.log makes.0;
})
one_kept m n (raise x) within makes = subst (λ (y : Machine). Keeps m y) (sym makes.2) (record {
  kept = omega arith;
  within = within;
  horizon = makes.0;
  writes = refl;
})

-- the first machine keeps no more than the second, so what the third has of the second's it has of the first's
keeps_then : (a b d : Machine) → Keeps a b → Keeps b d → Keeps a d
keeps_then a b d first second = record {
  kept = omega (arith, first.kept, second.kept);
  within = second.within;
  horizon = omega (arith, first.horizon, second.horizon);
  writes = sym (take-take a.kept b.kept d.log first.kept) ∙ ap (take a.kept) second.writes ∙ take-take a.kept b.kept b.log first.kept ∙ first.writes;
}

-- moves, one after another
all_kept : (m n : Machine) (moves : List Move) → m.kept ≤ length m.log → Moves m moves n → Keeps m n
all_kept m n [] within is = subst (λ (x : Machine). Keeps m x) (sym is) (record { kept = omega arith; within = within; horizon = omega arith; writes = refl })
all_kept m n (move ∷ moves) within step =
    let first = one_kept m step.0 move within step.1 in
    keeps_then m step.0 n first (all_kept step.0 n moves first.within step.2)

pub kept_stay : (m n : Machine) (moves : List Move) → m.kept ≤ length m.log → Moves m moves n
    → (m.kept ≤ n.kept) × (n.kept ≤ length n.log) × (m.horizon ≤ n.horizon) × (take m.kept n.log ≡ take m.kept m.log)
kept_stay m n moves within steps = let k = all_kept m n moves within steps in (k.kept, k.within, k.horizon, k.writes)

-- the first writes, as many as are kept or fewer
first_stay : (m n : Machine) (moves : List Move) (s : ℕ) → m.kept ≤ length m.log → s ≤ m.kept → Moves m moves n → take s n.log ≡ take s m.log
first_stay m n moves s within le steps = sym (take-take s m.kept n.log le) ∙ ap (take s) (all_kept m n moves within steps).writes ∙ take-take s m.kept m.log le

pub snapshots_stay : (m n : Machine) (moves : List Move) (s : ℕ) (t : Tuple) → m.kept ≤ length m.log → s ≤ m.kept → Moves m moves n → is_at n.log s t ≡ is_at m.log s t
unfolding is_at
snapshots_stay m n moves s t within le steps = ap (λ (log : List Entry). there_after t false (flat_map (λ (w : Entry). w.changes) log)) (first_stay m n moves s within le steps)

-- the writes after a place, up to one that is not below it
between : (c e : ℕ) (log : List Entry) → c ≤ e → take (e - c) (drop c log) ≡ drop c (take e log)
between c e log le = sym (drop-take c (e - c) log) ∙ ap (λ k. drop c (take k log)) (let is : c + (e - c) ≡ e = omega (arith, le) in is)

pub events_stay : (m n : Machine) (moves : List Move) (c e : ℕ) (names : List (List ℕ)) → m.kept ≤ length m.log → c ≤ e → e ≤ m.kept → Moves m moves n
    → events n.log c e names ≡ events m.log c e names
unfolding events
events_stay m n moves c e names within ce le steps = ap (events_from (c + 1) names)
    (between c e n.log ce ∙ ap (drop c) (first_stay m n moves e within le steps) ∙ sym (between c e m.log ce))

-- moves and then more are moves
pub moves_then : (a b d : Machine) (moves more : List Move) → Moves a moves b → Moves b more d → Moves a (moves ++ more) d
moves_then a b d [] more is rest = subst (λ (x : Machine). Moves x more d) is rest
moves_then a b d (move ∷ moves) more step rest = (step.0, step.1, moves_then step.0 b d moves more step.2 rest)

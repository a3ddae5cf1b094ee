-- What quiet moves leave of a machine.
use Rattle.std.proofs.Common.{ℕ, List, [], ◌∷◌, All, refl, sym, ◌∙◌, subst, arith}
use Rattle.std.proofs.lemmas.List.Elements.{All-head, All-tail}
use Rattle.laws.specs.Machines.{Machine, Makes, Move, Moves, append, cut, keep, raise}
use Rattle.turns.specs.Runs.{IsQuiet}
use Rattle.dumping.specs.Dumped.{GoesOn}

pub goes_nowhere : (m : Machine) → GoesOn m m
goes_nowhere m = record { log = refl; kept = omega arith; horizon = omega arith }

pub goes_then : (a b d : Machine) → GoesOn a b → GoesOn b d → GoesOn a d
goes_then a b d first second = record { log = second.log ∙ first.log; kept = omega (arith, first.kept, second.kept); horizon = omega (arith, first.horizon, second.horizon) }

quiet_move : (P : ℕ → Type 0) (m n : Machine) (move : Move) → IsQuiet P move → Makes m move n → GoesOn m n
quiet_move P m n (append w) quiet makes = absurd quiet
quiet_move P m n (keep i) quiet makes = subst (GoesOn m) (sym makes.1) (record { log = refl; kept = omega arith; horizon = omega arith })
quiet_move P m n (cut i) quiet makes = absurd quiet
quiet_move P m n (raise x) quiet makes = subst (GoesOn m) (sym makes.2) (record { log = refl; kept = omega arith; horizon = makes.0 })

-- they list nothing and cut nothing
pub quiet_moves : (P : ℕ → Type 0) (m n : Machine) (moves : List Move) → All (IsQuiet P) moves → Moves m moves n → GoesOn m n
quiet_moves P m n [] quiet is = subst (GoesOn m) (sym is) (goes_nowhere m)
quiet_moves P m n (move ∷ moves) quiet (mid, first, rest) =
    goes_then m mid n (quiet_move P m mid move (All-head (IsQuiet P) move moves quiet) first) (quiet_moves P mid n moves (All-tail (IsQuiet P) move moves quiet) rest)

-- What quiet moves leave of a machine.
use Rattle.std.proofs.Common.{◌≡◌, ◌⊎◌, inl, inr, ⊎_elim, ℕ, List, [], ◌∷◌, All, refl, sym, ◌∙◌, subst, arith}
use Rattle.std.proofs.lemmas.List.Elements.{All-head, All-tail}
use Rattle.reshard_laws.proofs.Words.{HasSameList, Machine}
use Rattle.laws.specs.Machines.{Makes, Move, Moves, append, cut, keep, raise}
use Rattle.turns.specs.Runs.{IsQuiet}

-- and its horizon is the one from before, or one of these
pub record GoesQuietly (may_rise : ℕ → Type 0) (m n : Machine) : Type 0 where
  pub same : HasSameList m n
  pub horizon : (n.horizon ≡ m.horizon) ⊎ may_rise n.horizon

pub stays : (m : Machine) → HasSameList m m
stays m = record { log = refl; kept = omega arith; horizon = omega arith }

pub stays_then : (a b d : Machine) → HasSameList a b → HasSameList b d → HasSameList a d
stays_then a b d first second = record { log = second.log ∙ first.log; kept = omega (arith, first.kept, second.kept); horizon = omega (arith, first.horizon, second.horizon) }

pub goes_nowhere : (P : ℕ → Type 0) (m n : Machine) → n ≡ m → GoesQuietly P m n
goes_nowhere P m n is = subst (GoesQuietly P m) (sym is) (record { same = stays m; horizon = inl refl })

pub goes_then : (P : ℕ → Type 0) (a b d : Machine) → GoesQuietly P a b → GoesQuietly P b d → GoesQuietly P a d
goes_then P a b d first second = record {
  same = stays_then a b d first.same second.same;
  horizon = ⊎_elim (λ still. ⊎_elim (λ before. inl (still ∙ before)) (λ rose. inr (subst P (sym still) rose)) first.horizon) (λ rose. inr rose) second.horizon;
}

quiet_move : (P : ℕ → Type 0) (m n : Machine) (move : Move) → IsQuiet P move → Makes m move n → GoesQuietly P m n
quiet_move P m n (append w) quiet makes = absurd quiet
quiet_move P m n (keep i) quiet makes = subst (GoesQuietly P m) (sym makes.1) (record { same = record { log = refl; kept = omega arith; horizon = omega arith }; horizon = inl refl })
quiet_move P m n (cut i) quiet makes = absurd quiet
quiet_move P m n (raise x) quiet makes = subst (GoesQuietly P m) (sym makes.2) (record { same = record { log = refl; kept = omega arith; horizon = makes.0 }; horizon = inr quiet })

pub quiet_moves : (P : ℕ → Type 0) (m n : Machine) (moves : List Move) → All (IsQuiet P) moves → Moves m moves n → GoesQuietly P m n
quiet_moves P m n [] quiet is = goes_nowhere P m n is
quiet_moves P m n (move ∷ moves) quiet (mid, first, rest) =
    goes_then P m mid n (quiet_move P m mid move (All-head (IsQuiet P) move moves quiet) first) (quiet_moves P mid n moves (All-tail (IsQuiet P) move moves quiet) rest)

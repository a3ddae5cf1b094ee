-- The machine after a stop is where moves lead.
use Rattle.std.proofs.Common.{◌≡◌, ⊎_elim, ◌≤◌, ◌++◌, ◌∷◌, [], ℕ, List, length, take, max, refl, ◌∙◌, ap, subst, arith}
use Rattle.headline.proofs.Words.{Entry, Machine, Move, Moves, append, cut, keep, moves_then, raise}
use Rattle.turns.specs.StoreLaws.{IsStopOf}

-- the same log, kept up to another place, and with another horizon
at_log : List Entry → Machine → Machine
at_log log m = record { log = log; kept = m.kept; horizon = m.horizon }

-- what moves do to the log alone, they do if no more is kept, and the horizon is any
log_moves : (low m n : Machine) (moves : List Move) → low.kept ≤ m.kept → Moves m moves n → (others : List Move) × Moves (at_log m.log low) others (at_log n.log low)
unfolding at_log
log_moves low m n [] le is = ([], ap (λ (x : Machine). at_log x.log low) is)
log_moves low m n (append w ∷ moves) le (mid, makes, rest) =
    let further = log_moves low mid n moves (omega (arith, le, ap (λ (x : Machine). x.kept) makes.1)) rest in
    (append w ∷ further.0, (at_log mid.log low, (makes.0, ap (λ (x : Machine). at_log x.log low) makes.1), further.1))
log_moves low m n (keep i ∷ moves) le (mid, makes, rest) =
    let further = log_moves low mid n moves (let is = ap (λ (x : Machine). x.kept) makes.1 in omega (arith, le, is)) rest in
    (further.0, subst (λ (l : List Entry). Moves (at_log l low) further.0 (at_log n.log low)) (ap (λ (x : Machine). x.log) makes.1) further.1)
log_moves low m n (cut i ∷ moves) le (mid, makes, rest) =
    let further = log_moves low mid n moves (let is = ap (λ (x : Machine). x.kept) makes.1 in omega (arith, le, is)) rest in
    (cut i ∷ further.0, (at_log mid.log low, (omega (arith, le, makes.0), ap (λ (x : Machine). at_log x.log low) makes.1), further.1))
log_moves low m n (raise x ∷ moves) le (mid, makes, rest) =
    let further = log_moves low mid n moves (let is = ap (λ (y : Machine). y.kept) makes.2 in omega (arith, le, is)) rest in
    (further.0, subst (λ (l : List Entry). Moves (at_log l low) further.0 (at_log n.log low)) (ap (λ (y : Machine). y.log) makes.2) further.1)

-- from a machine to a beginning of its log, kept further
cut_and_keep : (m stopped : Machine) → m.kept ≤ stopped.kept → stopped.kept ≤ length stopped.log → stopped.log ≡ take (length stopped.log) m.log → stopped.horizon ≡ m.horizon
    → Moves m (cut (length stopped.log) ∷ keep stopped.kept ∷ []) stopped
cut_and_keep m stopped up within log horizon = (
  record m { log = take (length stopped.log) m.log },
  (omega (arith, up, within), refl),
  (record { log = take (length stopped.log) m.log; kept = max m.kept stopped.kept; horizon = m.horizon }, (subst (λ (l : List Entry). stopped.kept ≤ length l) log within, refl), same),
)
  where
    higher : stopped.kept ≡ max m.kept stopped.kept
    higher = omega (arith, up)

    same : stopped ≡ record { log = take (length stopped.log) m.log; kept = max m.kept stopped.kept; horizon = m.horizon }
    same = ap (λ (l : List Entry). record { log = l; kept = stopped.kept; horizon = stopped.horizon }) log
        ∙ ap (λ (k : ℕ). record { log = take (length stopped.log) m.log; kept = k; horizon = stopped.horizon }) higher
        ∙ ap (λ (h : ℕ). record { log = take (length stopped.log) m.log; kept = max m.kept stopped.kept; horizon = h }) horizon

pub stop_moves : (before after stopped : Machine) (moves : List Move) → Moves before moves after → IsStopOf before after stopped → stopped.kept ≤ length stopped.log
    → (others : List Move) × Moves before others stopped
unfolding at_log
stop_moves before after stopped moves moved stop within = ⊎_elim
    (λ first. (cut (length stopped.log) ∷ keep stopped.kept ∷ [], cut_and_keep before stopped stop.kept within first stop.horizon))
    (λ first.
    let others = log_moves before before after moves (omega arith) moved in
    let there : Machine = record { log = after.log; kept = before.kept; horizon = before.horizon } in (
      others.0 ++ cut (length stopped.log) ∷ keep stopped.kept ∷ [],
      moves_then before there stopped others.0 (cut (length stopped.log) ∷ keep stopped.kept ∷ []) others.1 (cut_and_keep there stopped stop.kept within first stop.horizon),
    ))
    stop.log

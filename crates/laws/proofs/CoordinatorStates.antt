-- What a coordinator knows tells how long the log is; and lemmas of its records, passed on.
use Rattle.std.proofs.Common.{◌≡◌, ℕ, ◌-◌, List, length, ◌∙◌, ap, arith}
use Rattle.std.proofs.lemmas.List.{length-drop}
use Rattle.laws.proofs.Words.{CoordinatorMeans, CoordinatorState, Entry, end_of}
pub use Rattle.records.proofs.CoordinatorStates.{coordinator_empty, coordinator_from-append, coordinator_image_push, coordinator_last, coordinator_push}

pub end_is_length : (log : List Entry) (h : ℕ) (state : CoordinatorState) → CoordinatorMeans log h state → end_of state ≡ length log
end_is_length log h state m =
    let cut : length state.log ≡ length log - state.base = ap length m.decisions ∙ length-drop state.base log in
    omega (arith, cut, m.base, m.within)

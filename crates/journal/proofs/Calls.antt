-- What a stop leaves during one call and then another.
use Rattle.std.proofs.Common.{◌≡◌, inl, inr, ⊎_elim, ℕ, Bool, true, false, List, Result, Ok, Err, MatchResult, refl, sym, ◌∙◌, arith, subst}
use Rattle.journal.specs.Records.{LeavesBoth, found, HasRecords}
use Rattle.away.specs.Aways.{lent_state}
use Rattle.away.specs.declared.away.Away.{Away}
use Rattle.records.specs.declared.record.Record.{Record}
use Rattle.device.specs.Device.{State, left}

-- one call, and then another
pub then_both : {D : Type 0} (moment : D → ℕ) (left_since : D → ℕ → List ℕ → Type 0) (a b c d e f : D) (P Q R : List ℕ → List ℕ → Type 0) → LeavesBoth moment left_since a b c d P → LeavesBoth moment left_since c d e f Q
    → ((x y v w : List ℕ) → found x y ≡ found v w → P v w → R x y) → ((x y : List ℕ) → Q x y → R x y) → LeavesBoth moment left_since a b e f R
then_both moment left_since a b c d e f P Q R first second by_first by_second = record {
  later_a = let m = first.later_a in let n = second.later_a in omega (arith, m, n);
  later_b = let m = first.later_b in let n = second.later_b in omega (arith, m, n);
  each = λ x y in_x in_y. ⊎_elim
      (λ had. by_first x y had.0 had.1 had.4 (first.each had.0 had.1 had.2 had.3))
      (λ now. by_second x y now)
      (second.before (moment a) (moment b) x y first.later_a first.later_b in_x in_y);
  before = λ t u x y le_t le_u in_x in_y. ⊎_elim
      (λ had. ⊎_elim
      (λ long_ago. inl (long_ago.0, long_ago.1, long_ago.2, long_ago.3, had.4 ∙ long_ago.4))
      (λ now. inr (by_first x y had.0 had.1 had.4 now))
      (first.before t u had.0 had.1 le_t le_u had.2 had.3))
      (λ now. inr (by_second x y now))
      (second.before t u x y (let m = first.later_a in omega (arith, m, le_t)) (let m = first.later_b in omega (arith, m, le_u)) in_x in_y);
}

-- a device over which an opening went well had not failed
pub not_stopped : (stopped : Bool) → (stopped ≡ true → false ≡ true) → stopped ≡ false
not_stopped true opened = sym (opened refl)
not_stopped false opened = refl

pub match_weaker : {X Y : Type 0} (r : Result X Y) (P P' : X → Type 0) (Q Q' : Y → Type 0) → MatchResult r P Q → ((x : X) → P x → P' x) → ((y : Y) → Q y → Q' y) → MatchResult r P' Q'
match_weaker (Ok x) P P' Q Q' is ok err = ok x is
match_weaker (Err y) P P' Q Q' is ok err = err y is

-- what stands for the devices has the same records
pub records_lent : {D : Type 0} (state : D → State) (a b : D) (x y : Away D) (rs : List Record) → x.was.value ≡ a → y.was.value ≡ b → HasRecords (state a) (state b) rs → HasRecords (lent_state state x) (lent_state state y) rs
records_lent {D} state a b x y rs at_a at_b has c d in_c in_d =
    has c d (subst (λ (v : D). left (state v) c) at_a in_c) (subst (λ (v : D). left (state v) d) at_b in_d)

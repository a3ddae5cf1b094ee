-- A checkpoint while it is written ahead, and what two banks have after it.
use Rattle.std.proofs.Common.{◌≡◌, inl, inr, ⊎_elim, ◌↔◌, ℕ, ◌≤◌, false, List, [], ◌∷◌, ◌++◌, Some, Result, Ok, Err, refl, sym, ◌∙◌, ap, arith, append_assoc}
use Rattle.device.specs.Device.{State, LeavesOnly}
use Rattle.device.proofs.Moments.{leaves_map, leaves_then}
use Rattle.gated.specs.Gated.{HasList, IsAhead, IsOldOrLonger, IsOldOrNone, LogView, gated}
use Rattle.std.specs.Result.{OnOk}
use Rattle.records.specs.declared.record.Record.{Record}
use Rattle.journal.specs.Ahead.{IsOldNoneOr, IsPut, IsWriting, KeepsLists}
use Rattle.journal.specs.Rest.{BankHas, IsAtRest}
use Rattle.journal.proofs.Flushes.{listed_records}

abbrev pub LeavesNone : {D : Type 0} → (D → ℕ) → (D → ℕ → List ℕ → Type 0) → D → D → Type 0
LeavesNone moment left_since old new = LeavesOnly moment left_since old new (λ c. gated c ≡ Some [])

pub lists_then : {D : Type 0} (state : D → State) (moment : D → ℕ) (left_since : D → ℕ → List ℕ → Type 0) (old mid new : D) → KeepsLists state moment left_since old mid → KeepsLists state moment left_since mid new
    → KeepsLists state moment left_since old new
lists_then state moment left_since old mid new first second = record {
  moments = λ bodies list. leaves_then moment left_since old mid new (λ c. gated c ≡ Some bodies) (first.moments bodies list) (second.moments bodies (first.list bodies list));
  list = λ bodies list. second.list bodies (first.list bodies list);
}

-- what was put so far, and what the source still has
pub record SoFar {D : Type 0} (state : D → State) (honest : D → Type 0) (moment : D → ℕ) (left_since : D → ℕ → List ℕ → Type 0) (old new : LogView D) (piece_then piece had has : List Record) : Type 0 where
  pub still_honest : honest old.device ↔ honest new.device
  pub lists : honest old.device → KeepsLists state moment left_since old.device new.device
  pub up : honest old.device → (state new.device).stopped ≡ false
  pub put : (all : List Record) → honest old.device → IsPut (state old.device) old.end old.at piece_then all
      → (done : List Record) × (done ++ has ≡ all ++ had) × IsPut (state new.device) new.end new.at piece done
  pub end : new.end ≡ old.end
  pub counts : (state old.device).failures ≤ (state new.device).failures
  pub none : (state new.device).failures ≡ (state old.device).failures

module _ {D : Type 0} (state : D → State) (honest : D → Type 0) (moment : D → ℕ) (left_since : D → ℕ → List ℕ → Type 0) where
  module _ (old mid new : LogView D) (piece_then piece now had has rest : List Record) (r : Record) (so_far : SoFar state honest moment left_since old mid piece_then piece had has) (took : has ≡ r ∷ rest)
      (still : honest mid.device ↔ honest new.device) (lists : honest mid.device → KeepsLists state moment left_since mid.device new.device) (up : honest mid.device → (state new.device).stopped ≡ false)
      (put : (all : List Record) → honest mid.device → IsPut (state mid.device) mid.end mid.at piece all → IsPut (state new.device) new.end new.at now (all ++ r ∷ []))
      (end : new.end ≡ mid.end) (counts : (state mid.device).failures ≤ (state new.device).failures) (none : (state new.device).failures ≡ (state mid.device).failures) where
    pub one_put : SoFar state honest moment left_since old new piece_then now had rest
    one_put = record {
      still_honest = (λ h. still.0 (so_far.still_honest.0 h), λ h. so_far.still_honest.1 (still.1 h));
      lists = λ hon. lists_then state moment left_since old.device mid.device new.device (so_far.lists hon) (lists (so_far.still_honest.0 hon));
      up = λ hon. up (so_far.still_honest.0 hon);
      put = λ all hon is.
          let before = so_far.put all hon is in (
            before.0 ++ r ∷ [],
            append_assoc before.0 (r ∷ []) rest ∙ ap (λ (l : List Record). before.0 ++ l) (sym took) ∙ before.1,
            put before.0 (so_far.still_honest.0 hon) before.2,
          );
      end = end ∙ so_far.end;
      counts = omega (arith, so_far.counts, counts);
      none = none ∙ so_far.none;
    }

pub on_ok_two : {T E P Q R : Type 0} (r : Result T E) → (P → Q → R) → OnOk r P → OnOk r Q → OnOk r R
on_ok_two (Ok x) f p q = f p q
on_ok_two (Err e) f p q = tt

-- nothing is ahead, and no record waits
pub none_put : (s : State) (end at : ℕ) (piece : List Record) → piece ≡ [] → IsAhead s end at [] → IsPut s end at piece []
none_put s end at piece none is = record { rs = []; writing = record { ahead = []; is = is; read = refl }; all_is = sym none }

-- The checkpoint was ahead, and is published
module _ {D : Type 0} (moment : D → ℕ) (left_since : D → ℕ → List ℕ → Type 0) (state : D → State) (old mid last new : D) (end at : ℕ) (bodies : List (List ℕ)) (rs : List Record) (writing : IsWriting (state last) end at rs) where
  pub published_moments : LeavesOnly moment left_since old mid (IsOldOrNone bodies) → LeavesNone moment left_since mid last → LeavesOnly moment left_since last new (IsOldOrLonger [] writing.ahead)
      → LeavesOnly moment left_since old new (IsOldNoneOr bodies rs)
  published_moments first second third =
      let P : List ℕ → Type 0 = IsOldNoneOr bodies rs in
      leaves_then moment left_since old last new P
      (leaves_then moment left_since old mid last P
      (leaves_map moment left_since old mid (IsOldOrNone bodies) P (λ c. ⊎_elim (λ is. inl is) (λ is. inr (inl is))) first)
      (leaves_map moment left_since mid last (λ c. gated c ≡ Some []) P (λ c is. inr (inl is)) second))
      (leaves_map moment left_since last new (IsOldOrLonger [] writing.ahead) P (λ c. ⊎_elim (λ is. inr (inl is)) (λ is. inr (inr (listed_records c writing.ahead rs is writing.read)))) third)

  pub published : HasList (state new) writing.ahead → BankHas (state new) rs
  published list c is = listed_records c writing.ahead rs (list c is) writing.read

  pub published_rest : HasList (state new) writing.ahead → (state new).stopped ≡ false → IsAtRest (state new)
  published_rest list up = record { bodies = writing.ahead; rs = rs; has = list; read = writing.read; up = up }

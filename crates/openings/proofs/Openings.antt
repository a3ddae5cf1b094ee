-- Opening a node once more.
use Rattle.std.proofs.Common.{◌≡◌, ◌⊎◌, inl, inr, ⊎_elim, ◌≤◌, ◌<◌, ◌+◌, ◌++◌, ℕ, List, [], ◌∷◌, Some, length, refl, sym, ap, ◌∙◌, subst, arith, false, true}
use Rattle.records.specs.declared.record.Record.{Record}
use Rattle.records.specs.declared.record.Record.TheVariants.{Epoch}
use Rattle.records.specs.Format.{batch_bytes, record_bytes}
use Rattle.records.specs.Identity.{Identity}
use Rattle.device.specs.Device.{HasFailed, State, left}
use Rattle.journal.specs.Records.{BankLacksRoom, HasCause, HasNoRoom, HasOldOrNew, IsOpened, LeavesBoth, View, WasLeftOrFound, found}
use Rattle.journal.specs.Unread.{OpeningView, journal_of}
use Rattle.journal.proofs.Calls.{then_both}
use Rattle.journal.proofs.Failures.{failed_since}
use Rattle.openings.specs.Openings.{LacksRoomToReopen, WasLeftOrReopened, reopened}

-- the record of an opening is short
pub opening_fits : (staged : List Record) (epoch store shards node : ℕ) → staged ≡ [] → HasNoRoom staged (Epoch epoch store shards node) → ⊥
unfolding batch_bytes record_bytes
opening_fits staged epoch store shards node none (inl many) = omega (arith, ap length none)
opening_fits staged epoch store shards node none (inr long) =
    let short : 1048576 < length (batch_bytes false ([] ++ Epoch epoch store shards node ∷ [])) = subst (λ (l : List Record). 1048576 < length (batch_bytes false (l ++ Epoch epoch store shards node ∷ []))) none long in
    omega (arith, short)

-- what a call leaves, weakened
pub leaves_weaker : {D : Type 0} (moment : D → ℕ) (left_since : D → ℕ → List ℕ → Type 0) (a b c d : D) (P Q : List ℕ → List ℕ → Type 0) → LeavesBoth moment left_since a b c d P → ((x y : List ℕ) → P x y → Q x y) → LeavesBoth moment left_since a b c d Q
leaves_weaker moment left_since a b c d P Q l f = record {
  later_a = l.later_a;
  later_b = l.later_b;
  each = λ x y in_x in_y. f x y (l.each x y in_x in_y);
  before = λ t u x y le_t le_u in_x in_y. ⊎_elim (λ was. inl was) (λ p. inr (f x y p)) (l.before t u x y le_t le_u in_x in_y);
}

-- what was found, or the records found with the opening's
reopened_by : (IsImage : Identity → List Record → Type 0) (epoch_in : List Record → ℕ) (me : Identity) (sa sb : State) → left sa sa.seen → left sb sb.seen → (rs durable : List Record) (epoch : ℕ)
    → found sa.seen sb.seen ≡ Some rs → durable ≡ rs → epoch ≡ epoch_in rs + 1 → IsImage me (reopened epoch_in me rs)
    → (x y : List ℕ) → HasOldOrNew durable (Epoch epoch me.store me.shards me.node ∷ []) x y → WasLeftOrReopened IsImage epoch_in me sa sb x y
reopened_by IsImage epoch_in me sa sb reads_a reads_b rs durable epoch was same next more x y (inl old) = inl (sa.seen, sb.seen, reads_a, reads_b, old ∙ ap (λ (l : List Record). Some l) same ∙ sym was)
reopened_by IsImage epoch_in me sa sb reads_a reads_b rs durable epoch was same next more x y (inr new) =
    inr (rs, was, more, new ∙ ap (λ (l : List Record). Some (l ++ Epoch epoch me.store me.shards me.node ∷ [])) same ∙ ap (λ (n : ℕ). Some (rs ++ Epoch n me.store me.shards me.node ∷ [])) next)

-- the records are found, and the next opening is staged and flushed
module _ {D : Type 0} (state : D → State) (honest : D → Type 0) (epoch_in : List Record → ℕ) (a b : D) (me : Identity) (o : OpeningView D) (rs : List Record) (epoch : ℕ) (next : epoch ≡ epoch_in rs + 1)
    (v : View D) (staged : v ≡ record (journal_of o) { staged = Epoch epoch me.store me.shards me.node ∷ [] }) where
  pub reopens : (moment : D → ℕ) (left_since : D → ℕ → List ℕ → Type 0) (IsImage : Identity → List Record → Type 0) (e f : D) → left (state a) (state a).seen → left (state b) (state b).seen
      → IsOpened state a b rs (journal_of o) → IsImage me (reopened epoch_in me rs) → LeavesBoth moment left_since a b o.a o.b (WasLeftOrFound (state a) (state b)) → honest o.a → honest o.b
      → (honest v.a → honest v.b → v.is_down ≡ false → LeavesBoth moment left_since v.a v.b e f (HasOldOrNew v.durable v.staged)) → LeavesBoth moment left_since a b e f (WasLeftOrReopened IsImage epoch_in me (state a) (state b))
  reopens moment left_since IsImage e f reads_a reads_b opened more first ha hb second =
      let then = subst (λ (w : View D). honest w.a → honest w.b → w.is_down ≡ false → LeavesBoth moment left_since w.a w.b e f (HasOldOrNew w.durable w.staged)) staged second ha hb refl in
      then_both moment left_since a b o.a o.b e f _ _ (WasLeftOrReopened IsImage epoch_in me (state a) (state b)) first then (λ x y v w same was. inl (was.0, was.1, was.2, was.3, same ∙ was.4))
      (reopened_by IsImage epoch_in me (state a) (state b) reads_a reads_b rs (journal_of o).durable epoch opened.was opened.durable next more)

  pub fails_to_reopen : (honest a → honest b → IsOpened state a b rs (journal_of o)) → (honest a → honest o.a) → (honest b → honest o.b) → (state a).failures ≤ (state o.a).failures → (state b).failures ≤ (state o.b).failures
      → (new : View D) → (v.is_down ≡ true) ⊎ HasCause state honest v new → HasFailed (state a) (state new.a) ⊎ (HasFailed (state b) (state new.b) ⊎ LacksRoomToReopen state honest epoch_in a b me)
  fails_to_reopen opened same same_b counts_a counts_b new why = told (subst (λ (w : View D). (w.is_down ≡ true) ⊎ HasCause state honest w new) staged why)
    where
      told : (false ≡ true) ⊎ HasCause state honest (record (journal_of o) { staged = Epoch epoch me.store me.shards me.node ∷ [] }) new
          → HasFailed (state a) (state new.a) ⊎ (HasFailed (state b) (state new.b) ⊎ LacksRoomToReopen state honest epoch_in a b me)
      told (inl down) = absurd cc
      told (inr (inl in_a)) = inl (failed_since (state a) (state o.a) (state new.a) counts_a in_a)
      told (inr (inr (inl in_b))) = inr (inl (failed_since (state b) (state o.b) (state new.b) counts_b in_b))
      told (inr (inr (inr lacks))) = inr (inr (record {
        rs = rs;
        journal = journal_of o;
        found = opened;
        same = same;
        same_b = same_b;
        lacks = subst (λ (n : ℕ). BankLacksRoom state honest o.a o.b o.end (Epoch n me.store me.shards me.node ∷ [])) next lacks;
      }))

-- What is found of devices whose first checkpoint has begun.
use Rattle.std.proofs.Common.{◌≡◌, ◌⊎◌, inl, inr, ⊎_elim, ℕ, Bool, true, false, List, [], ◌∷◌, Option, Some, None, refl, sym, ◌∙◌, ap, subst, arith}
use Rattle.std.proofs.lemmas.Bool.{cases_Bool}
use Rattle.device.specs.Device.{LeavesOnly, State, left}
use Rattle.device.proofs.Moments.{leaves_map, leaves_then}
use Rattle.gated.specs.Gated.{HasList, IsFoundList, IsOldOrLonger, IsOldOrNew, gated}
use Rattle.records.specs.Checkpoints.{generation_of, is_complete}
use Rattle.records.specs.Reading.{batch}
use Rattle.records.specs.declared.record.Record.{Record}
use Rattle.journal.specs.Ahead.{IsWriting, KeepsLists, checkpoint_of}
use Rattle.journal.specs.Beginnings.{HasBegun, HasBeginsOr, HasNone, HasNoneOrBegins, HasNoneOrNeverOpens, NeverOpens, NeverOpensOr, begins}
use Rattle.journal.specs.Records.{HasRecords, LeavesEach, bank_records, batches, both, current_bank, found, later_bank, of_bank, of_current}
use Rattle.journal.specs.Rest.{BankHas}
use Rattle.journal.proofs.Flushes.{listed_records}
use Rattle.journal.proofs.Picked.{found_current}
use Rattle.journal.proofs.Replaced.{checkpoint_whole}

-- Which bank is current beside one without a record
no_bank : current_bank [] [] ≡ Some false
unfolding current_bank is_complete generation_of
no_bank = refl

begun_bank : current_bank (begins ∷ []) [] ≡ None
unfolding current_bank is_complete generation_of
begun_bank = refl

whole_bank : (rs : List Record) → current_bank (checkpoint_of 1 rs) [] ≡ Some false
unfolding current_bank is_complete generation_of
whole_bank rs = ap (λ (b : Bool). later_bank b false false 1 0) (checkpoint_whole 1 rs)

found_none : (x y : List ℕ) → bank_records x ≡ Some [] → bank_records y ≡ Some [] → found x y ≡ Some []
found_none x y in_x in_y = found_current false x y [] [] in_x in_y no_bank

found_begun : (x y : List ℕ) → bank_records x ≡ Some (begins ∷ []) → bank_records y ≡ Some [] → found x y ≡ None
unfolding found
found_begun x y in_x in_y =
    ap (λ (o : Option (List Record)). of_current o (bank_records y)) in_x
    ∙ ap (λ (o : Option (List Record)). of_current (Some (begins ∷ [])) o) in_y
    ∙ ap (λ (o : Option Bool). of_bank o (begins ∷ []) []) begun_bank

found_whole : (x y : List ℕ) (rs : List Record) → bank_records x ≡ Some (checkpoint_of 1 rs) → bank_records y ≡ Some [] → found x y ≡ Some (checkpoint_of 1 rs)
found_whole x y rs in_x in_y = found_current false x y (checkpoint_of 1 rs) [] in_x in_y (whole_bank rs)

-- the bodies of an empty list and of one
pub bank_none : (c : List ℕ) → gated c ≡ Some [] → bank_records c ≡ Some []
bank_none c is = listed_records c [] [] is refl

one_body : (body : List ℕ) → batch body ≡ Some (begins ∷ []) → batches (body ∷ []) ≡ Some (begins ∷ [])
one_body body read = ap (λ (o : Option (List Record)). both o (Some [])) read

pub bank_begun : (c body : List ℕ) → batch body ≡ Some (begins ∷ []) → gated c ≡ Some (body ∷ []) → bank_records c ≡ Some (begins ∷ [])
bank_begun c body read is = listed_records c (body ∷ []) (begins ∷ []) is (one_body body read)

pub begun_stays : (sa sb : State) (end at : ℕ) → HasBegun sa end at → HasList sb [] → NeverOpens sa sb
begun_stays sa sb end at begun none x y in_x in_y = found_begun x y (bank_begun x begun.body begun.read (begun.list x in_x)) (bank_none y (none y in_y))

pub whole_has : (sa sb : State) (rs : List Record) → BankHas sa (checkpoint_of 1 rs) → HasList sb [] → HasRecords sa sb (checkpoint_of 1 rs)
whole_has sa sb rs has none x y in_x in_y = found_whole x y rs (has x in_x) (bank_none y (none y in_y))

-- the only body is appended to an empty list
pub one_or_none : (body c : List ℕ) → batch body ≡ Some (begins ∷ []) → IsOldOrNew [] body c → HasNoneOrBegins c
one_or_none body c read (inl is) = inl (bank_none c is)
one_or_none body c read (inr is) = inr (bank_begun c body read is)

-- a device that answered has not failed
pub is_up : (s : State) → (s.stopped ≡ true → ⊥) → s.stopped ≡ false
is_up s answered = ⊎_elim (λ stopped. absurd (answered stopped)) (λ up. up) (cases_Bool s.stopped)

module _ {D : Type 0} (state : D → State) (moment : D → ℕ) (left_since : D → ℕ → List ℕ → Type 0) where
  -- an opening of a device without a record
  module _ (old new : D) (list : HasList (state old) []) (reads : (state old).stopped ≡ false → left (state old) (state old).seen) where
    pub opened_none : (bodies : List (List ℕ)) → (state old).stopped ≡ false → IsFoundList (state old) bodies (state new) → HasList (state new) []
    opened_none bodies up is =
        let same : Some bodies ≡ Some [] = sym is.was ∙ list (state old).seen (reads up) in
        let none : bodies ≡ [] = cc in
        subst (HasList (state new)) none is.has

    pub opens_none : ((state old).stopped ≡ true → LeavesOnly moment left_since old new (left (state old)))
        → LeavesOnly moment left_since old new (λ c. left (state old) c ⊎ (gated c ≡ gated (state old).seen)) → LeavesOnly moment left_since old new HasNone
    opens_none still l = ⊎_elim
        (λ stopped. leaves_map moment left_since old new (left (state old)) HasNone (λ c is. bank_none c (list c is)) (still stopped))
        (λ up. leaves_map moment left_since old new (λ c. left (state old) c ⊎ (gated c ≡ gated (state old).seen)) HasNone
        (λ c is. bank_none c (⊎_elim (λ was. list c was) (λ same. same ∙ list (state old).seen (reads up)) is)) l)
        (cases_Bool (state old).stopped)

  pub stays_none : (d : D) → HasList (state d) [] → ((c : List ℕ) → left_since d (moment d) c → left (state d) c) → LeavesOnly moment left_since d d HasNone
  stays_none d list only = record { later = omega arith; each = λ c is. bank_none c (list c (only c is)); before = λ t c le is. inl is }

  pub none_first : (old new : D) → LeavesOnly moment left_since old new HasNone → LeavesOnly moment left_since old new HasNoneOrBegins
  none_first old new l = leaves_map moment left_since old new HasNone HasNoneOrBegins (λ c is. inl is) l

  pub each_begun : (a b new_a new_b : D) → LeavesOnly moment left_since a new_a HasNoneOrBegins → LeavesOnly moment left_since b new_b HasNone → LeavesEach moment left_since a b new_a new_b HasNoneOrNeverOpens
  each_begun a b new_a new_b l m = record {
    later_a = l.later;
    later_b = m.later;
    each = λ x y in_a in_b. ⊎_elim (λ is. inl (found_none x y is (m.each y in_b))) (λ is. inr (found_begun x y is (m.each y in_b))) (l.each x in_a);
  }

  pub each_finished : (rs : List Record) (a b new_a new_b : D) → LeavesOnly moment left_since a new_a (HasBeginsOr (checkpoint_of 1 rs)) → LeavesOnly moment left_since b new_b HasNone
      → LeavesEach moment left_since a b new_a new_b (NeverOpensOr (checkpoint_of 1 rs))
  each_finished rs a b new_a new_b l m = record {
    later_a = l.later;
    later_b = m.later;
    each = λ x y in_a in_b. ⊎_elim (λ is. inl (found_begun x y is (m.each y in_b))) (λ is. inr (found_whole x y rs is (m.each y in_b))) (l.each x in_a);
  }

  -- The rest was ahead, and is published
  module _ (rs : List Record) (old last : D) (end at : ℕ) (begun : HasBegun (state old) end at) (kept : KeepsLists state moment left_since old last) where
    pub still_begun : LeavesOnly moment left_since old last (HasBeginsOr (checkpoint_of 1 rs))
    still_begun = leaves_map moment left_since old last (λ c. gated c ≡ Some (begun.body ∷ [])) (HasBeginsOr (checkpoint_of 1 rs)) (λ c is. inl (bank_begun c begun.body begun.read is)) (kept.moments (begun.body ∷ []) begun.list)

    module _ (new : D) (then_end then_at : ℕ) (tail : List Record) (tail_is : checkpoint_of 1 rs ≡ begins ∷ tail) (writing : IsWriting (state last) then_end then_at tail) where
      all_read : batches (begun.body ∷ writing.ahead) ≡ Some (checkpoint_of 1 rs)
      all_read = ap (λ (o : Option (List Record)). both o (batches writing.ahead)) begun.read ∙ ap (λ (o : Option (List Record)). both (Some (begins ∷ [])) o) writing.read ∙ ap (λ (l : List Record). Some l) (sym tail_is)

      pub finished_moments : LeavesOnly moment left_since last new (IsOldOrLonger (begun.body ∷ []) writing.ahead) → LeavesOnly moment left_since old new (HasBeginsOr (checkpoint_of 1 rs))
      finished_moments third =
          leaves_then moment left_since old last new (HasBeginsOr (checkpoint_of 1 rs)) still_begun
          (leaves_map moment left_since last new (IsOldOrLonger (begun.body ∷ []) writing.ahead) (HasBeginsOr (checkpoint_of 1 rs))
          (λ c. ⊎_elim (λ is. inl (bank_begun c begun.body begun.read is)) (λ is. inr (listed_records c (begun.body ∷ writing.ahead) (checkpoint_of 1 rs) is all_read))) third)

      pub finished : HasList (state new) (begun.body ∷ writing.ahead) → BankHas (state new) (checkpoint_of 1 rs)
      finished list c is = listed_records c (begun.body ∷ writing.ahead) (checkpoint_of 1 rs) (list c is) all_read

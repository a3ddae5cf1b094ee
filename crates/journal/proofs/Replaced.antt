-- Two banks of which the one that is not current gets a checkpoint.
use Rattle.std.proofs.Common.{◌≡◌, ◌⊎◌, inl, inr, ℕ, Bool, true, false, not, ◌||◌, ◌==◌, ◌<◌, ◌+◌, List, [], ◌∷◌, ◌++◌, Option, Some, All, refl, sym, ◌∙◌, ap, subst, arith}
use Rattle.std.specs.List.{list_any}
use Rattle.std.proofs.lemmas.Bool.{eq-eqb}
use Rattle.std.proofs.lemmas.List.{append-nil}
use Rattle.std.proofs.lemmas.List.Elements.{All-nil}
use Rattle.std.proofs.lemmas.List.Folds.{list_any-append}
use Rattle.std.proofs.Math.Bool.{or-true}
use Rattle.device.specs.Device.{State, LeavesOnly, left}
use Rattle.records.specs.Checkpoints.{generation_of, is_complete, is_end}
use Rattle.records.specs.declared.mark.Mark.TheVariants.{Ends}
use Rattle.records.specs.declared.record.Record.{Record}
use Rattle.records.specs.declared.record.Record.TheVariants.{Checkpoint}
use Rattle.journal.specs.Ahead.{HasOldOrNewOr, IsOldNoneOr, checkpoint_of}
use Rattle.journal.specs.Records.{HasRecords, bank_records, current_bank, durable_of, found, then_batches, LeavesEach}
use Rattle.journal.specs.Rest.{AreLed, BankHas, IsAtRest, IsPlain}
use Rattle.journal.proofs.Flushes.{HasOneOf, led_durable, listed_records}
use Rattle.journal.proofs.Picked.{found_current, generation_longer_a, generation_longer_b, leads_longer_a, leads_longer_b, leads_new_a, leads_new_b, led_by_empty_a, led_by_empty_b}

-- one bank is current beside the other, whether the current one is b or not
abbrev pub Leads : Bool → List Record → List Record → Type 0
Leads true current other = current_bank other current ≡ Some true
Leads false current other = current_bank current other ≡ Some false

-- what is found in the contents of the current bank and of the other
abbrev pub found_at : Bool → List ℕ → List ℕ → Option (List Record)
found_at true x y = found y x
found_at false x y = found x y

pub found_lead : (is_b : Bool) (x y : List ℕ) (current other : List Record) → bank_records x ≡ Some current → bank_records y ≡ Some other → Leads is_b current other → found_at is_b x y ≡ Some current
found_lead true x y current other in_x in_y leads = found_current true y x other current in_y in_x leads
found_lead false x y current other in_x in_y leads = found_current false x y current other in_x in_y leads

lead_more : (is_b : Bool) (current other more : List Record) → Leads is_b current other → All IsPlain more → Leads is_b (current ++ more) other
lead_more true current other more leads plain = leads_longer_b other current more leads
lead_more false current other [] leads plain = subst (λ (l : List Record). current_bank l other ≡ Some false) (sym (append-nil current)) leads
lead_more false current other (r ∷ more) leads plain = leads_longer_a current (r ∷ more) other leads plain (omega arith)

lead_generation : (is_b : Bool) (current other more : List Record) → Leads is_b current other → All IsPlain more → generation_of (current ++ more) ≡ generation_of current
lead_generation true current other more leads plain = generation_longer_b other current more leads
lead_generation false current other more leads plain = generation_longer_a current more other leads plain

lead_none : (is_b : Bool) (current other : List Record) → Leads is_b current other → Leads is_b current []
lead_none true current other leads = led_by_empty_a other current leads
lead_none false current other leads = led_by_empty_b current other leads

lead_new : (is_b : Bool) (current other new : List Record) → Leads is_b current other → is_complete new ≡ true → generation_of current < generation_of new → Leads (not is_b) new current
lead_new true current other new leads whole lt = leads_new_a other current new leads whole lt
lead_new false current other new leads whole lt = leads_new_b current other new leads whole lt

same_found : (is_b : Bool) (x y : List ℕ) → found_at is_b x y ≡ found_at (not is_b) y x
same_found true x y = refl
same_found false x y = refl

-- a checkpoint is whole, of its generation
same_number : (n : ℕ) → (n == n) ≡ true
same_number n = eq-eqb n n refl

pub checkpoint_whole : (generation : ℕ) (rs : List Record) → is_complete (checkpoint_of generation rs) ≡ true
unfolding is_complete
checkpoint_whole generation rs =
    list_any-append (is_end generation) rs (Checkpoint (Ends generation) ∷ [])
    ∙ ap (λ (b : Bool). list_any (is_end generation) rs || (b || false)) (same_number generation)
    ∙ or-true (list_any (is_end generation) rs)

pub checkpoint_generation : (generation : ℕ) (rs : List Record) → generation_of (checkpoint_of generation rs) ≡ generation
unfolding generation_of
checkpoint_generation generation rs = refl

-- Given the current bank's records, what is staged, and the checkpoint
module _ (is_b : Bool) (current other staged rs : List Record) (now next : ℕ) (leads : Leads is_b current other) (plain : All IsPlain staged) (now_is : now ≡ generation_of current) (next_is : next ≡ now + 1) where
  abbrev new : List Record
  new = checkpoint_of next rs

  longer : Leads is_b (current ++ staged) other
  longer = lead_more is_b current other staged leads plain

  pub leads_then : Leads (not is_b) new (current ++ staged)
  leads_then =
      lead_new is_b (current ++ staged) other new longer (checkpoint_whole next rs)
      (omega (arith, now_is, next_is, lead_generation is_b current other staged leads plain, checkpoint_generation next rs))

  leads_still : Leads is_b (current ++ staged) []
  leads_still = lead_none is_b (current ++ staged) other longer

  leads_before : Leads (not is_b) new current
  leads_before = lead_new is_b current other new leads (checkpoint_whole next rs) (omega (arith, now_is, next_is, checkpoint_generation next rs))

  abbrev HasNext : List ℕ → List ℕ → Type 0
  HasNext x y = ((found_at is_b x y ≡ Some current) ⊎ (found_at is_b x y ≡ Some (current ++ staged))) ⊎ (found_at is_b x y ≡ Some new)

  -- what a stop leaves of both
  module _ (bodies : List (List ℕ)) (read : then_batches (Some bodies) ≡ Some other) where
    each_of : (x y : List ℕ) → HasOneOf current staged x → IsOldNoneOr bodies new y → HasNext x y
    each_of x y (inl old) (inl is) = inl (inl (found_lead is_b x y current other old (listed_records y bodies other is read) leads))
    each_of x y (inl old) (inr (inl is)) = inl (inl (found_lead is_b x y current [] old (listed_records y [] [] is refl) (lead_none is_b current other leads)))
    each_of x y (inl old) (inr (inr is)) = inr (same_found is_b x y ∙ found_lead (not is_b) y x new current is old leads_before)
    each_of x y (inr more) (inl is) = inl (inr (found_lead is_b x y (current ++ staged) other more (listed_records y bodies other is read) longer))
    each_of x y (inr more) (inr (inl is)) = inl (inr (found_lead is_b x y (current ++ staged) [] more (listed_records y [] [] is refl) leads_still))
    each_of x y (inr more) (inr (inr is)) = inr (same_found is_b x y ∙ found_lead (not is_b) y x new (current ++ staged) is more leads_then)

-- the list of the other bank has its records
pub list_read : (s : State) (r : IsAtRest s) (rs : List Record) → left s s.seen → BankHas s rs → then_batches (Some r.bodies) ≡ Some rs
list_read s r rs here has = sym (ap then_batches (r.has s.seen here)) ∙ has s.seen here

module _ {D : Type 0} (state : D → State) (moment : D → ℕ) (left_since : D → ℕ → List ℕ → Type 0) (staged rs : List Record) (plain : All IsPlain staged) (now next : ℕ) (next_is : next ≡ now + 1) where
  module _ (a b new_a new_b : D) (led : AreLed (state a) (state b) false now) (rest : IsAtRest (state b)) (here : left (state b) (state b).seen) where
    durable_a : durable_of (state a) (state b) ≡ led.first
    durable_a = led_durable (state a) (state b) false now led

    pub each_from_a : LeavesOnly moment left_since a new_a (HasOneOf led.first staged) → LeavesOnly moment left_since b new_b (IsOldNoneOr rest.bodies (checkpoint_of next rs))
        → LeavesEach moment left_since a b new_a new_b (HasOldOrNewOr (durable_of (state a) (state b)) staged (checkpoint_of next rs))
    each_from_a l m = subst (λ (d : List Record). LeavesEach moment left_since a b new_a new_b (HasOldOrNewOr d staged (checkpoint_of next rs))) (sym durable_a) (record {
      later_a = l.later;
      later_b = m.later;
      each = λ x y in_a in_b. each_of false led.first led.other staged rs now next led.leads plain led.generation_is next_is rest.bodies (list_read (state b) rest led.other here led.b) x y (l.each x in_a) (m.each y in_b);
    })

    pub led_from_a : BankHas (state new_a) (led.first ++ staged) → BankHas (state new_b) (checkpoint_of next rs) → AreLed (state new_a) (state new_b) true next
    led_from_a has_a has_b = record {
      first = led.first ++ staged;
      other = checkpoint_of next rs;
      a = has_a;
      b = has_b;
      leads = leads_then false led.first led.other staged rs now next led.leads plain led.generation_is next_is;
      generation_is = sym (checkpoint_generation next rs);
    }

    pub new_from_a : BankHas (state new_a) (led.first ++ staged) → BankHas (state new_b) (checkpoint_of next rs) → durable_of (state new_a) (state new_b) ≡ checkpoint_of next rs
    unfolding led_from_a
    new_from_a has_a has_b = led_durable (state new_a) (state new_b) true next (led_from_a has_a has_b)

  module _ (a b new_a new_b : D) (led : AreLed (state a) (state b) true now) (rest : IsAtRest (state a)) (here : left (state a) (state a).seen) where
    durable_b : durable_of (state a) (state b) ≡ led.other
    durable_b = led_durable (state a) (state b) true now led

    pub each_from_b : LeavesOnly moment left_since b new_b (HasOneOf led.other staged) → LeavesOnly moment left_since a new_a (IsOldNoneOr rest.bodies (checkpoint_of next rs))
        → LeavesEach moment left_since a b new_a new_b (HasOldOrNewOr (durable_of (state a) (state b)) staged (checkpoint_of next rs))
    each_from_b l m = subst (λ (d : List Record). LeavesEach moment left_since a b new_a new_b (HasOldOrNewOr d staged (checkpoint_of next rs))) (sym durable_b) (record {
      later_a = m.later;
      later_b = l.later;
      each = λ x y in_a in_b. each_of true led.other led.first staged rs now next led.leads plain led.generation_is next_is rest.bodies (list_read (state a) rest led.first here led.a) y x (l.each y in_b) (m.each x in_a);
    })

    pub led_from_b : BankHas (state new_b) (led.other ++ staged) → BankHas (state new_a) (checkpoint_of next rs) → AreLed (state new_a) (state new_b) false next
    led_from_b has_b has_a = record {
      first = checkpoint_of next rs;
      other = led.other ++ staged;
      a = has_a;
      b = has_b;
      leads = leads_then true led.other led.first staged rs now next led.leads plain led.generation_is next_is;
      generation_is = sym (checkpoint_generation next rs);
    }

    pub new_from_b : BankHas (state new_b) (led.other ++ staged) → BankHas (state new_a) (checkpoint_of next rs) → durable_of (state new_a) (state new_b) ≡ checkpoint_of next rs
    unfolding led_from_b
    new_from_b has_b has_a = led_durable (state new_a) (state new_b) false next (led_from_b has_b has_a)

-- no call
pub each_same : {D : Type 0} (state : D → State) (moment : D → ℕ) (left_since : D → ℕ → List ℕ → Type 0) (a b : D) (durable staged rs : List Record) → HasRecords (state a) (state b) durable
    → ((c : List ℕ) → left_since a (moment a) c → left (state a) c) → ((c : List ℕ) → left_since b (moment b) c → left (state b) c) → LeavesEach moment left_since a b a b (HasOldOrNewOr durable staged rs)
each_same state moment left_since a b durable staged rs has only_a only_b = record {
  later_a = omega arith;
  later_b = omega arith;
  each = λ x y in_a in_b. inl (inl (has x y (only_a x in_a) (only_b y in_b)));
}

pub none_plain : (staged : List Record) → staged ≡ [] → All IsPlain staged
none_plain staged none = subst (All IsPlain) (sym none) (All-nil IsPlain)

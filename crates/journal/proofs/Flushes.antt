-- What two devices have while one of them is written.
use Rattle.std.proofs.Common.{◌≡◌, ◌⊎◌, inl, inr, ⊎_elim, ℕ, Bool, true, false, ◌≤◌, List, [], ◌∷◌, ◌++◌, Some, length, All, refl, sym, ◌∙◌, ap, subst, arith}
use Rattle.records.specs.declared.record.Record.{Record}
use Rattle.records.specs.Reading.{batch}
use Rattle.device.specs.Device.{State, left, LeavesOnly, Leaves}
use Rattle.std.proofs.lemmas.Bool.{cases_Bool}
use Rattle.std.proofs.lemmas.Option.{same_Some}
use Rattle.device.proofs.Moments.{leaves_map}
use Rattle.device.proofs.History.{reach_least}
use Rattle.gated.specs.Gated.{gated, HasList, IsOldOrNew}
use Rattle.records.specs.Checkpoints.{generation_of, is_complete}
use Rattle.journal.specs.Records.{bank_records, current_bank, found, batches, then_batches, HadRecords, HasRecords, or_none, durable_of, LeavesBoth, HasOldOrNew, WasLeftOrFound}
use Rattle.journal.specs.Rest.{AreLed, BankHas, IsAtRest, IsPlain, bank_of}
use Rattle.journal.proofs.Joined.{batches-push}
use Rattle.journal.proofs.Picked.{found_current, found_same, generation_longer_a, generation_longer_b, leads_longer_a, leads_longer_b, led_a, led_b, longer_a, longer_b}

pub listed_records : (c : List ℕ) (bodies : List (List ℕ)) (rs : List Record) → gated c ≡ Some bodies → batches bodies ≡ Some rs → bank_records c ≡ Some rs
listed_records c bodies rs list is = ap then_batches list ∙ is

pub rest_has : (s : State) (r : IsAtRest s) → BankHas s r.rs
rest_has s r c is = listed_records c r.bodies r.rs (r.has c is) r.read

-- the records are the ones that each content has
same_records : (s : State) (r : IsAtRest s) (rs : List Record) → left s s.seen → BankHas s rs → r.rs ≡ rs
same_records s r rs here has = same_Some r.rs rs (sym (rest_has s r s.seen here) ∙ has s.seen here)

old_or_new : (s : State) (r : IsAtRest s) (body : List ℕ) (more : List Record) (c : List ℕ) → batch body ≡ Some more → IsOldOrNew r.bodies body c → (bank_records c ≡ Some r.rs) ⊎ (bank_records c ≡ Some (r.rs ++ more))
old_or_new s r body more c one (inl old) = inl (listed_records c r.bodies r.rs old r.read)
old_or_new s r body more c one (inr new) = inr (listed_records c (r.bodies ++ body ∷ []) (r.rs ++ more) new (batches-push r.bodies body r.rs more r.read one))

module _ {D : Type 0} (state : D → State) (moment : D → ℕ) (left_since : D → ℕ → List ℕ → Type 0) (old new : D) (r : IsAtRest (state old)) (here : left (state old) (state old).seen)
    (body : List ℕ) (more : List Record) (one : batch body ≡ Some more) (durable : List Record) (has : BankHas (state old) durable) where
  pub records_any_moment : LeavesOnly moment left_since old new (IsOldOrNew r.bodies body) → LeavesOnly moment left_since old new (λ c. (bank_records c ≡ Some durable) ⊎ (bank_records c ≡ Some (durable ++ more)))
  records_any_moment l =
      let same = same_records (state old) r durable here has in
      let P : List ℕ → Type 0 = λ c. (bank_records c ≡ Some durable) ⊎ (bank_records c ≡ Some (durable ++ more)) in
      let f : (c : List ℕ) → IsOldOrNew r.bodies body c → P c = λ c is. subst (λ (rs : List Record). (bank_records c ≡ Some rs) ⊎ (bank_records c ≡ Some (rs ++ more))) same (old_or_new (state old) r body more c one is) in
      record {
        later = l.later;
        each = λ c is. f c (l.each c is);
        before = λ t c le is. ⊎_elim (λ was. inl was) (λ p. inr (f c p)) (l.before t c le is);
      }

  pub records_ok : HasList (state new) (r.bodies ++ body ∷ []) → BankHas (state new) (durable ++ more)
  records_ok new_list c is =
      let same = same_records (state old) r durable here has in
      listed_records c (r.bodies ++ body ∷ []) (durable ++ more) (new_list c is) (batches-push r.bodies body durable more (r.read ∙ ap (λ (rs : List Record). Some rs) same) one)

pub durable_left : (s : State) → left s s.durable
durable_left s = record { no_shorter = omega arith; no_longer = reach_least s.written (length s.durable); same = λ i lt un. refl }

-- Banks of which one is current have its records, whatever a stop leaves
module _ (sa sb : State) (is_b : Bool) (generation : ℕ) (led : AreLed sa sb is_b generation) where
  abbrev now : List Record
  now = bank_of is_b led.first led.other

  pub led_records : HasRecords sa sb now
  led_records x y in_a in_b = found_current is_b x y led.first led.other (led.a x in_a) (led.b y in_b) led.leads

  pub led_durable : durable_of sa sb ≡ now
  led_durable = ap or_none (led_records sa.durable sb.durable (durable_left sa) (durable_left sb))

  pub led_have : HasRecords sa sb (durable_of sa sb)
  led_have = subst (HasRecords sa sb) (sym led_durable) led_records

  pub led_generation : generation ≡ generation_of (durable_of sa sb)
  led_generation = led.generation_is ∙ ap generation_of (sym led_durable)

pub same_durable : (sa sb ta tb : State) → ta.durable ≡ sa.durable → tb.durable ≡ sb.durable → durable_of ta tb ≡ durable_of sa sb
same_durable sa sb ta tb is_a is_b = ap (λ (c : List ℕ). or_none (found c tb.durable)) is_a ∙ ap (λ (c : List ℕ). or_none (found sa.durable c)) is_b

pub rest_kept : (s t : State) → t.durable ≡ s.durable → t.written ≡ s.written → t.stopped ≡ s.stopped → IsAtRest s → IsAtRest t
rest_kept s t durable written stopped r = record {
  bodies = r.bodies;
  rs = r.rs;
  has = λ c is. r.has c (subst (λ (d : List ℕ). Leaves d s.written c) durable (subst (λ (w : List (ℕ × ℕ)). Leaves t.durable w c) written is));
  read = r.read;
  up = stopped ∙ r.up;
}

-- One bank is written, after which the records are the longer ones
abbrev pub HasOneOf : List Record → List Record → List ℕ → Type 0
HasOneOf rs more c = (bank_records c ≡ Some rs) ⊎ (bank_records c ≡ Some (rs ++ more))

module _ {D : Type 0} (state : D → State) (moment : D → ℕ) (left_since : D → ℕ → List ℕ → Type 0) (staged : List Record) (plain : All IsPlain staged) (some : 1 ≤ length staged) (generation : ℕ) where
  module _ (old new b : D) (led : AreLed (state old) (state b) false generation) (l : LeavesOnly moment left_since old new (HasOneOf led.first staged))
      (now : (t : ℕ) → t ≤ moment old → left_since old t (state old).seen) (here : left (state old) (state old).seen) (only : (c : List ℕ) → left_since b (moment b) c → left (state b) c) where
    leads_a : current_bank (led.first ++ staged) led.other ≡ Some false
    leads_a = leads_longer_a led.first staged led.other led.leads plain some

    durable_a : durable_of (state old) (state b) ≡ led.first
    durable_a = led_durable (state old) (state b) false generation led

    each_a : (x y : List ℕ) → HasOneOf led.first staged x → left (state b) y → HasOldOrNew led.first staged x y
    each_a x y (inl is) in_b = inl (found_current false x y led.first led.other is (led.b y in_b) led.leads)
    each_a x y (inr is) in_b = inr (found_current false x y (led.first ++ staged) led.other is (led.b y in_b) leads_a)

    whole_a : (is_complete led.first ≡ true) ⊎ (led.first ≡ [])
    whole_a = ⊎_elim (λ whole. inl whole) (λ none. inr none.0) (led_a led.first led.other led.leads)

    before_a : (t u : ℕ) (x y : List ℕ) → t ≤ moment old → left_since b u y → left_since old t x ⊎ HasOneOf led.first staged x
        → HadRecords left_since old b t u x y ⊎ HasOldOrNew led.first staged x y
    before_a t u x y le in_b (inl was) = inl (x, y, was, in_b, refl)
    before_a t u x y le in_b (inr (inl is)) = inl ((state old).seen, y, now t le, in_b, found_same x y (state old).seen y (is ∙ sym (led.a (state old).seen here)) refl)
    before_a t u x y le in_b (inr (inr is)) = ⊎_elim
        (λ same. inl ((state old).seen, y, now t le, in_b, same))
        (λ longer. inr (inr longer))
        (longer_a x (state old).seen y led.first staged (led.a (state old).seen here) is whole_a plain some)

    pub both_by_a : LeavesBoth moment left_since old b new b (HasOldOrNew (durable_of (state old) (state b)) staged)
    both_by_a = subst (λ (rs : List Record). LeavesBoth moment left_since old b new b (HasOldOrNew rs staged)) (sym durable_a) (record {
      later_a = l.later;
      later_b = omega arith;
      each = λ x y in_a in_b. each_a x y (l.each x in_a) (only y in_b);
      before = λ t u x y t_le u_le in_a in_b. before_a t u x y t_le in_b (l.before t x t_le in_a);
    })

    pub led_by_a : BankHas (state new) (led.first ++ staged) → AreLed (state new) (state b) false generation
    led_by_a has = record {
      first = led.first ++ staged;
      other = led.other;
      a = has;
      b = led.b;
      leads = leads_a;
      generation_is = led.generation_is ∙ sym (generation_longer_a led.first staged led.other led.leads plain);
    }

    pub longer_by_a : BankHas (state new) (led.first ++ staged) → durable_of (state new) (state b) ≡ durable_of (state old) (state b) ++ staged
    unfolding led_by_a
    longer_by_a has = led_durable (state new) (state b) false generation (led_by_a has) ∙ ap (λ (l : List Record). l ++ staged) (sym durable_a)

  module _ (a old new : D) (led : AreLed (state a) (state old) true generation) (l : LeavesOnly moment left_since old new (HasOneOf led.other staged))
      (now : (t : ℕ) → t ≤ moment old → left_since old t (state old).seen) (here : left (state old) (state old).seen) (only : (c : List ℕ) → left_since a (moment a) c → left (state a) c) where
    leads_b : current_bank led.first (led.other ++ staged) ≡ Some true
    leads_b = leads_longer_b led.first led.other staged led.leads

    durable_b : durable_of (state a) (state old) ≡ led.other
    durable_b = led_durable (state a) (state old) true generation led

    each_b : (x y : List ℕ) → left (state a) x → HasOneOf led.other staged y → HasOldOrNew led.other staged x y
    each_b x y in_a (inl is) = inl (found_current true x y led.first led.other (led.a x in_a) is led.leads)
    each_b x y in_a (inr is) = inr (found_current true x y led.first (led.other ++ staged) (led.a x in_a) is leads_b)

    before_b : (t u : ℕ) (x y : List ℕ) → u ≤ moment old → left_since a t x → left_since old u y ⊎ HasOneOf led.other staged y
        → HadRecords left_since a old t u x y ⊎ HasOldOrNew led.other staged x y
    before_b t u x y le in_a (inl was) = inl (x, y, in_a, was, refl)
    before_b t u x y le in_a (inr (inl is)) = inl (x, (state old).seen, in_a, now u le, found_same x y x (state old).seen refl (is ∙ sym (led.b (state old).seen here)))
    before_b t u x y le in_a (inr (inr is)) = ⊎_elim
        (λ same. inl (x, (state old).seen, in_a, now u le, same))
        (λ longer. inr (inr longer))
        (longer_b y (state old).seen x led.other staged (led.b (state old).seen here) is (led_b led.first led.other led.leads))

    pub both_by_b : LeavesBoth moment left_since a old a new (HasOldOrNew (durable_of (state a) (state old)) staged)
    both_by_b = subst (λ (rs : List Record). LeavesBoth moment left_since a old a new (HasOldOrNew rs staged)) (sym durable_b) (record {
      later_a = omega arith;
      later_b = l.later;
      each = λ x y in_a in_b. each_b x y (only x in_a) (l.each y in_b);
      before = λ t u x y t_le u_le in_a in_b. before_b t u x y u_le in_a (l.before u y u_le in_b);
    })

    pub led_by_b : BankHas (state new) (led.other ++ staged) → AreLed (state a) (state new) true generation
    led_by_b has = record {
      first = led.first;
      other = led.other ++ staged;
      a = led.a;
      b = has;
      leads = leads_b;
      generation_is = led.generation_is ∙ sym (generation_longer_b led.first led.other staged led.leads);
    }

    pub longer_by_b : BankHas (state new) (led.other ++ staged) → durable_of (state a) (state new) ≡ durable_of (state a) (state old) ++ staged
    unfolding led_by_b
    longer_by_b has = led_durable (state a) (state new) true generation (led_by_b has) ∙ ap (λ (l : List Record). l ++ staged) (sym durable_b)

module _ {D : Type 0} (state : D → State) (moment : D → ℕ) (left_since : D → ℕ → List ℕ → Type 0) where
  -- no call
  pub both_same : (a b : D) (durable staged : List Record) → HasRecords (state a) (state b) durable → ((c : List ℕ) → left_since a (moment a) c → left (state a) c)
      → ((c : List ℕ) → left_since b (moment b) c → left (state b) c) → LeavesBoth moment left_since a b a b (HasOldOrNew durable staged)
  both_same a b durable staged has only_a only_b = record {
    later_a = omega arith;
    later_b = omega arith;
    each = λ x y in_a in_b. inl (has x y (only_a x in_a) (only_b y in_b));
    before = λ t u x y t_le u_le in_a in_b. inl (x, y, in_a, in_b, refl);
  }

  -- a content has the list of one that could be left before
  abbrev pub IsAsLeft : State → List ℕ → Type 0
  IsAsLeft s c = (v : List ℕ) × left s v × (gated c ≡ gated v)

  -- each bank was opened, or no call of it was made
  module _ (a b new_a new_b : D) (counts_a : (t : ℕ) (c : List ℕ) → t ≤ moment a → left (state a) c → left_since a t c) (counts_b : (t : ℕ) (c : List ℕ) → t ≤ moment b → left (state b) c → left_since b t c)
      (first : LeavesOnly moment left_since a new_a (IsAsLeft (state a))) (other : LeavesOnly moment left_since b new_b (IsAsLeft (state b))) where
    same_lists : (x y v w : List ℕ) → gated x ≡ gated v → gated y ≡ gated w → found x y ≡ found v w
    same_lists x y v w in_a in_b = found_same x y v w (ap then_batches in_a) (ap then_batches in_b)

    had : (old : D) (t : ℕ) (c : List ℕ) → ((d : List ℕ) → left (state old) d → left_since old t d) → left_since old t c ⊎ IsAsLeft (state old) c → (v : List ℕ) × left_since old t v × (gated c ≡ gated v)
    had old t c counts (inl was) = (c, was, refl)
    had old t c counts (inr is) = (is.0, counts is.0 is.1, is.2)

    pub both_opened : LeavesBoth moment left_since a b new_a new_b (WasLeftOrFound (state a) (state b))
    both_opened = record {
      later_a = first.later;
      later_b = other.later;
      each = λ x y in_a in_b.
          let v = first.each x in_a in
          let w = other.each y in_b in
          (v.0, w.0, v.1, w.1, same_lists x y v.0 w.0 v.2 w.2);
      before = λ t u x y t_le u_le in_a in_b.
          let v = had a t x (λ d. counts_a t d t_le) (first.before t x t_le in_a) in
          let w = had b u y (λ d. counts_b u d u_le) (other.before u y u_le in_b) in
          inl (v.0, w.0, v.1, w.1, same_lists x y v.0 w.0 v.2 w.2);
    }

  -- what an opening of one bank says, and what no call says
  pub as_left : (old new : D) → (((state old).stopped ≡ true) → LeavesOnly moment left_since old new (left (state old))) → ((state old).stopped ≡ false → left (state old) (state old).seen)
      → LeavesOnly moment left_since old new (λ c. left (state old) c ⊎ (gated c ≡ gated (state old).seen)) → LeavesOnly moment left_since old new (IsAsLeft (state old))
  as_left old new still reads l = ⊎_elim
      (λ stopped. leaves_map moment left_since old new (left (state old)) (IsAsLeft (state old)) (λ c is. (c, is, refl)) (still stopped))
      (λ up. leaves_map moment left_since old new (λ c. left (state old) c ⊎ (gated c ≡ gated (state old).seen)) (IsAsLeft (state old))
      (λ c is. ⊎_elim (λ was. (c, was, refl)) (λ same. ((state old).seen, reads up, same)) is) l)
      (cases_Bool (state old).stopped)

  pub as_it_was : (d : D) → ((c : List ℕ) → left_since d (moment d) c → left (state d) c) → LeavesOnly moment left_since d d (IsAsLeft (state d))
  as_it_was d only = record {
    later = omega arith;
    each = λ c is. (c, only c is, refl);
    before = λ t c le is. inl is;
  }

-- Which of two banks is the current one.
use Rattle.std.proofs.Common.{◌≡◌, ◌⊎◌, inl, inr, ⊎_elim, ℕ, zero, suc, Bool, true, false, ◌≤◌, ◌<◌, ◌&&◌, ◌||◌, nat_lt, if◌then◌else◌, List, [], ◌∷◌, ◌++◌, length, Option, Some, None, All, refl, sym, ◌∙◌, ap, subst, arith}
use Rattle.std.specs.List.{list_any}
use Rattle.std.proofs.lemmas.Bool.{lt-ltb, le-ltb, and_parts}
use Rattle.std.proofs.lemmas.List.Folds.{list_any-append}
use Rattle.records.specs.declared.record.Record.{Record}
use Rattle.records.specs.Checkpoints.{generation_begun, generation_of, is_complete, is_end, is_ended}
use Rattle.records.specs.Inside.{begun_by}
use Rattle.records.specs.declared.mark.Inside.{Inside}
use Rattle.journal.specs.Records.{bank_records, current_bank, found, has_none, is_behind_checkpoint, later_bank, of_bank, of_current}
use Rattle.journal.specs.Rest.{IsPlain, bank_of}

-- what is whole stays whole
ended_longer : (o : Option Inside) (rs more : List Record) → is_ended o rs ≡ true → is_ended o (rs ++ more) ≡ true
ended_longer None rs more is = refl
ended_longer (Some i) rs more is = list_any-append (is_end i.generation) rs more ∙ ap (λ (b : Bool). b || list_any (is_end i.generation) more) is

pub complete_longer : (rs more : List Record) → is_complete rs ≡ true → is_complete (rs ++ more) ≡ true
unfolding is_complete
complete_longer [] more is = absurd cc
complete_longer (r ∷ rs) more is = ended_longer (begun_by r) rs more is

pub same_generation : (rs more : List Record) → is_complete rs ≡ true → generation_of (rs ++ more) ≡ generation_of rs
unfolding is_complete generation_of
same_generation [] more is = absurd cc
same_generation (r ∷ rs) more is = refl

pub same_behind : (rs more : List Record) → is_complete rs ≡ true → is_behind_checkpoint (rs ++ more) ≡ is_behind_checkpoint rs
unfolding is_complete generation_of
same_behind [] more is = absurd cc
same_behind (r ∷ rs) more is = refl

pub some_records : (rs : List Record) → is_complete rs ≡ true → has_none rs ≡ false
unfolding is_complete
some_records [] is = absurd cc
some_records (r ∷ rs) is = refl

-- Records without a checkpoint are whole
pub plain_complete : (rs : List Record) → All IsPlain rs → 1 ≤ length rs → is_complete rs ≡ true
unfolding is_complete
plain_complete [] plain some = absurd (omega (arith, some))
plain_complete (r ∷ rs) plain some = let first : begun_by r ≡ None = plain 0 r (omega arith) in ap (λ (o : Option Inside). is_ended o rs) first

pub plain_generation : (rs : List Record) → All IsPlain rs → generation_of rs ≡ 0
unfolding generation_of
plain_generation [] plain = refl
plain_generation (r ∷ rs) plain = let first : begun_by r ≡ None = plain 0 r (omega arith) in ap generation_begun first

-- the current bank is chosen by these
current_by : (rs ss xs ys : List Record) → is_behind_checkpoint xs ≡ is_behind_checkpoint ss → (r s n : Bool) (g h : ℕ)
    → is_complete rs ≡ r → is_complete xs ≡ s → (has_none rs && has_none xs) ≡ n → generation_of rs ≡ g → generation_of xs ≡ h
    → current_bank rs xs ≡ (if is_behind_checkpoint ss then later_bank r s n g h else None)
unfolding current_bank
current_by rs ss xs ys behind r s n g h complete_r complete_s none gen_r gen_s =
    ap (λ (b : Bool). if b then later_bank (is_complete rs) (is_complete xs) (has_none rs && has_none xs) (generation_of rs) (generation_of xs) else None) behind
    ∙ ap (λ (b : Bool). if is_behind_checkpoint ss then later_bank b (is_complete xs) (has_none rs && has_none xs) (generation_of rs) (generation_of xs) else None) complete_r
    ∙ ap (λ (b : Bool). if is_behind_checkpoint ss then later_bank r b (has_none rs && has_none xs) (generation_of rs) (generation_of xs) else None) complete_s
    ∙ ap (λ (b : Bool). if is_behind_checkpoint ss then later_bank r s b (generation_of rs) (generation_of xs) else None) none
    ∙ ap (λ (i : ℕ). if is_behind_checkpoint ss then later_bank r s n i (generation_of xs) else None) gen_r
    ∙ ap (λ (i : ℕ). if is_behind_checkpoint ss then later_bank r s n g i else None) gen_s

is_current : (rs ss : List Record) → current_bank rs ss ≡ (if is_behind_checkpoint ss then later_bank (is_complete rs) (is_complete ss) (has_none rs && has_none ss) (generation_of rs) (generation_of ss) else None)
unfolding current_bank
is_current rs ss = refl

some_here : (rs : List Record) (b : Bool) → has_none rs ≡ false → (has_none rs && b) ≡ false
some_here rs b is = ap (λ (c : Bool). c && b) is

no_here : (b : Bool) (rs : List Record) → has_none rs ≡ false → (b && has_none rs) ≡ false
no_here true rs is = is
no_here false rs is = refl

-- Batches after what is whole do not change which bank is current, whatever the other one has
pub same_bank_a : (rs more ss : List Record) → is_complete rs ≡ true → current_bank (rs ++ more) ss ≡ current_bank rs ss
same_bank_a rs more ss whole =
    let longer = complete_longer rs more whole in
    current_by (rs ++ more) ss ss ss refl true (is_complete ss) false (generation_of rs) (generation_of ss) longer refl (some_here (rs ++ more) (has_none ss) (some_records (rs ++ more) longer)) (same_generation rs more whole) refl
    ∙ sym (current_by rs ss ss ss refl true (is_complete ss) false (generation_of rs) (generation_of ss) whole refl (some_here rs (has_none ss) (some_records rs whole)) refl refl)

pub same_bank_b : (rs ss more : List Record) → is_complete ss ≡ true → current_bank rs (ss ++ more) ≡ current_bank rs ss
same_bank_b rs ss more whole =
    let longer = complete_longer ss more whole in
    current_by rs ss (ss ++ more) ss (same_behind ss more whole) (is_complete rs) true false (generation_of rs) (generation_of ss) refl longer (no_here (has_none rs) (ss ++ more) (some_records (ss ++ more) longer)) refl (same_generation ss more whole)
    ∙ sym (current_by rs ss ss ss refl (is_complete rs) true false (generation_of rs) (generation_of ss) refl whole (no_here (has_none rs) ss (some_records ss whole)) refl refl)

nothing_at : (rs : List Record) → has_none rs ≡ true → rs ≡ []
nothing_at [] is = refl
nothing_at (r ∷ rs) is = absurd cc

-- The bank that is current is whole, or none has a record
by_a : (b r s n : Bool) (g h : ℕ) → (if b then later_bank r s n g h else None) ≡ Some false → (r ≡ true) ⊎ (n ≡ true)
by_a false r s n g h is = absurd cc
by_a true true s n g h is = inl refl
by_a true false true n g h is = absurd cc
by_a true false false true g h is = inr refl
by_a true false false false g h is = absurd cc

pub led_a : (rs ss : List Record) → current_bank rs ss ≡ Some false → (is_complete rs ≡ true) ⊎ ((rs ≡ []) × (ss ≡ []))
led_a rs ss leads = ⊎_elim
    (λ whole. inl whole)
    (λ none. let both = and_parts (has_none rs) (has_none ss) none in inr (nothing_at rs both.0, nothing_at ss both.1))
    (by_a (is_behind_checkpoint ss) (is_complete rs) (is_complete ss) (has_none rs && has_none ss) (generation_of rs) (generation_of ss) (sym (is_current rs ss) ∙ leads))

by_b : (b r s n : Bool) (g h : ℕ) → (if b then later_bank r s n g h else None) ≡ Some true → s ≡ true
by_b false r s n g h is = absurd cc
by_b true true true n g h is = refl
by_b true true false n g h is = absurd cc
by_b true false true n g h is = refl
by_b true false false true g h is = absurd cc
by_b true false false false g h is = absurd cc

pub led_b : (rs ss : List Record) → current_bank rs ss ≡ Some true → is_complete ss ≡ true
led_b rs ss leads = by_b (is_behind_checkpoint ss) (is_complete rs) (is_complete ss) (has_none rs && has_none ss) (generation_of rs) (generation_of ss) (sym (is_current rs ss) ∙ leads)

pub later_b : (none : Bool) (g h : ℕ) → g < h → later_bank true true none g h ≡ Some true
later_b none g h lt = ap (λ (b : Bool). if b then Some false else if nat_lt g h then Some true else None) (le-ltb h g (omega (arith, lt))) ∙ ap (λ (b : Bool). if b then Some true else None) (lt-ltb g h lt)

pub later_a : (none : Bool) (g h : ℕ) → h < g → later_bank true true none g h ≡ Some false
later_a none g h lt = ap (λ (b : Bool). if b then Some false else if nat_lt g h then Some true else None) (lt-ltb h g lt)

-- If bank a gets its first records, it is current, or bank b is as before
first_records : (more ss : List Record) (s : Bool) → is_complete ss ≡ s → All IsPlain more → 1 ≤ length more → (current_bank more ss ≡ Some false) ⊎ (current_bank more ss ≡ current_bank [] ss)
unfolding is_complete generation_of
first_records more [] s is plain some =
    let whole = plain_complete more plain some in
    inl (current_by more [] [] [] refl true false false (generation_of more) 0 whole refl (some_here more true (some_records more whole)) refl refl)
first_records more (x ∷ ss) false is plain some =
    let whole = plain_complete more plain some in
    by_behind (is_behind_checkpoint (x ∷ ss)) refl
  where
    by_behind : (b : Bool) → is_behind_checkpoint (x ∷ ss) ≡ b → (current_bank more (x ∷ ss) ≡ Some false) ⊎ (current_bank more (x ∷ ss) ≡ current_bank [] (x ∷ ss))
    by_behind true behind = inl (
        current_by more (x ∷ ss) (x ∷ ss) [] refl true false false (generation_of more) (generation_of (x ∷ ss)) (plain_complete more plain some) is
        (some_here more false (some_records more (plain_complete more plain some))) refl refl
        ∙ ap (λ (b : Bool). if b then Some false else None) behind)
    by_behind false behind = inr (
        is_current more (x ∷ ss) ∙ ap (λ (b : Bool). if b then later_bank (is_complete more) (is_complete (x ∷ ss)) (has_none more && has_none (x ∷ ss)) (generation_of more) (generation_of (x ∷ ss)) else None) behind
        ∙ sym (is_current [] (x ∷ ss) ∙ ap (λ (b : Bool). if b then later_bank (is_complete []) (is_complete (x ∷ ss)) (has_none [] && has_none (x ∷ ss)) (generation_of []) (generation_of (x ∷ ss)) else None) behind))
first_records more (x ∷ ss) true is plain some = inr (by_generation (generation_of (x ∷ ss)) refl)
  where
    whole : is_complete more ≡ true
    whole = plain_complete more plain some

    by_generation : (h : ℕ) → generation_of (x ∷ ss) ≡ h → current_bank more (x ∷ ss) ≡ current_bank [] (x ∷ ss)
    by_generation zero gen =
        let behind : is_behind_checkpoint (x ∷ ss) ≡ false = ap (nat_lt 0) gen in
        is_current more (x ∷ ss) ∙ ap (λ (b : Bool). if b then later_bank (is_complete more) (is_complete (x ∷ ss)) (has_none more && has_none (x ∷ ss)) (generation_of more) (generation_of (x ∷ ss)) else None) behind
        ∙ sym (is_current [] (x ∷ ss) ∙ ap (λ (b : Bool). if b then later_bank (is_complete []) (is_complete (x ∷ ss)) (has_none [] && has_none (x ∷ ss)) (generation_of []) (generation_of (x ∷ ss)) else None) behind)
    by_generation (suc h) gen =
        current_by more (x ∷ ss) (x ∷ ss) [] refl true true false 0 (suc h) whole is (some_here more false (some_records more whole)) (plain_generation more plain) gen
        ∙ ap (λ (o : Option Bool). if is_behind_checkpoint (x ∷ ss) then o else None) (later_b false 0 (suc h) (omega arith))
        ∙ sym (current_by [] (x ∷ ss) (x ∷ ss) [] refl false true false 0 (suc h) refl is refl refl gen)

pub longer_bank_a : (rs more ss : List Record) → (is_complete rs ≡ true) ⊎ (rs ≡ []) → All IsPlain more → 1 ≤ length more
    → (current_bank (rs ++ more) ss ≡ Some false) ⊎ (current_bank (rs ++ more) ss ≡ current_bank rs ss)
longer_bank_a rs more ss (inl whole) plain some = inr (same_bank_a rs more ss whole)
longer_bank_a rs more ss (inr none) plain some =
    subst (λ (l : List Record). (current_bank (l ++ more) ss ≡ Some false) ⊎ (current_bank (l ++ more) ss ≡ current_bank l ss)) (sym none) (first_records more ss (is_complete ss) refl plain some)

-- the current bank stays current with more batches
pub leads_longer_a : (rs more ss : List Record) → current_bank rs ss ≡ Some false → All IsPlain more → 1 ≤ length more → current_bank (rs ++ more) ss ≡ Some false
leads_longer_a rs more ss leads plain some = ⊎_elim
    (λ is. is)
    (λ same. same ∙ leads)
    (longer_bank_a rs more ss (⊎_elim (λ whole. inl whole) (λ none. inr none.0) (led_a rs ss leads)) plain some)

pub leads_longer_b : (rs ss more : List Record) → current_bank rs ss ≡ Some true → current_bank rs (ss ++ more) ≡ Some true
leads_longer_b rs ss more leads = same_bank_b rs ss more (led_b rs ss leads) ∙ leads

-- and of its generation
pub generation_longer_a : (rs more ss : List Record) → current_bank rs ss ≡ Some false → All IsPlain more → generation_of (rs ++ more) ≡ generation_of rs
unfolding generation_of
generation_longer_a rs more ss leads plain = ⊎_elim
    (λ whole. same_generation rs more whole)
    (λ none. ap (λ (l : List Record). generation_of (l ++ more)) none.0 ∙ plain_generation more plain ∙ sym (ap generation_of none.0))
    (led_a rs ss leads)

pub generation_longer_b : (rs ss more : List Record) → current_bank rs ss ≡ Some true → generation_of (ss ++ more) ≡ generation_of ss
generation_longer_b rs ss more leads = same_generation ss more (led_b rs ss leads)

-- What is found
pub found_of : (x y : List ℕ) (rs ss : List Record) → bank_records x ≡ Some rs → bank_records y ≡ Some ss → found x y ≡ of_bank (current_bank rs ss) rs ss
unfolding found
found_of x y rs ss first other = ap (λ (o : Option (List Record)). of_current o (bank_records y)) first ∙ ap (of_current (Some rs)) other

pub found_same : (x y v w : List ℕ) → bank_records x ≡ bank_records v → bank_records y ≡ bank_records w → found x y ≡ found v w
unfolding found
found_same x y v w first other = ap (λ (o : Option (List Record)). of_current o (bank_records y)) first ∙ ap (of_current (bank_records v)) other

pub found_current : (is_b : Bool) (x y : List ℕ) (rs ss : List Record) → bank_records x ≡ Some rs → bank_records y ≡ Some ss → current_bank rs ss ≡ Some is_b → found x y ≡ Some (bank_of is_b rs ss)
found_current true x y rs ss first other leads = found_of x y rs ss first other ∙ ap (λ (o : Option Bool). of_bank o rs ss) leads
found_current false x y rs ss first other leads = found_of x y rs ss first other ∙ ap (λ (o : Option Bool). of_bank o rs ss) leads

-- A bank with more batches has the longer records, or the records are those that were found with the shorter ones
module _ (x v y : List ℕ) (rs more : List Record) (old : bank_records v ≡ Some rs) (new : bank_records x ≡ Some (rs ++ more)) where
  longer_or_same_a : (o : Option (List Record)) → bank_records y ≡ o → (is_complete rs ≡ true) ⊎ (rs ≡ []) → All IsPlain more → 1 ≤ length more
      → (found x y ≡ found v y) ⊎ (found x y ≡ Some (rs ++ more))
  unfolding found
  longer_or_same_a None is led plain some = inl (
      ap (λ (p : Option (List Record)). of_current p (bank_records y)) new ∙ ap (of_current (Some (rs ++ more))) is
      ∙ sym (ap (λ (p : Option (List Record)). of_current p (bank_records y)) old ∙ ap (of_current (Some rs)) is))
  longer_or_same_a (Some ss) is led plain some = ⊎_elim
      (λ leads. inr (found_current false x y (rs ++ more) ss new is leads))
      (λ same. by_bank (current_bank rs ss) refl same)
      (longer_bank_a rs more ss led plain some)
    where
      by_bank : (o : Option Bool) → current_bank rs ss ≡ o → current_bank (rs ++ more) ss ≡ current_bank rs ss → (found x y ≡ found v y) ⊎ (found x y ≡ Some (rs ++ more))
      by_bank None at same = inl (
          found_of x y (rs ++ more) ss new is ∙ ap (λ (p : Option Bool). of_bank p (rs ++ more) ss) (same ∙ at)
          ∙ sym (found_of v y rs ss old is ∙ ap (λ (p : Option Bool). of_bank p rs ss) at))
      by_bank (Some true) at same = inl (
          found_of x y (rs ++ more) ss new is ∙ ap (λ (p : Option Bool). of_bank p (rs ++ more) ss) (same ∙ at)
          ∙ sym (found_of v y rs ss old is ∙ ap (λ (p : Option Bool). of_bank p rs ss) at))
      by_bank (Some false) at same = inr (found_current false x y (rs ++ more) ss new is (same ∙ at))

  pub longer_a : (is_complete rs ≡ true) ⊎ (rs ≡ []) → All IsPlain more → 1 ≤ length more → (found x y ≡ found v y) ⊎ (found x y ≡ Some (rs ++ more))
  longer_a led plain some = longer_or_same_a (bank_records y) refl led plain some

  longer_or_same_b : (o : Option (List Record)) → bank_records y ≡ o → is_complete rs ≡ true → (found y x ≡ found y v) ⊎ (found y x ≡ Some (rs ++ more))
  unfolding found
  longer_or_same_b None is whole = inl (ap (λ (p : Option (List Record)). of_current p (bank_records x)) is ∙ sym (ap (λ (p : Option (List Record)). of_current p (bank_records v)) is))
  longer_or_same_b (Some ss) is whole = by_bank (current_bank ss rs) refl
    where
      by_bank : (o : Option Bool) → current_bank ss rs ≡ o → (found y x ≡ found y v) ⊎ (found y x ≡ Some (rs ++ more))
      by_bank None at = inl (
          found_of y x ss (rs ++ more) is new ∙ ap (λ (p : Option Bool). of_bank p ss (rs ++ more)) (same_bank_b ss rs more whole ∙ at)
          ∙ sym (found_of y v ss rs is old ∙ ap (λ (p : Option Bool). of_bank p ss rs) at))
      by_bank (Some false) at = inl (
          found_of y x ss (rs ++ more) is new ∙ ap (λ (p : Option Bool). of_bank p ss (rs ++ more)) (same_bank_b ss rs more whole ∙ at)
          ∙ sym (found_of y v ss rs is old ∙ ap (λ (p : Option Bool). of_bank p ss rs) at))
      by_bank (Some true) at = inr (found_current true y x ss (rs ++ more) is new (same_bank_b ss rs more whole ∙ at))

  pub longer_b : is_complete rs ≡ true → (found y x ≡ found y v) ⊎ (found y x ≡ Some (rs ++ more))
  longer_b whole = longer_or_same_b (bank_records y) refl whole

-- A bank that is empty is led by the other one
pub led_by_empty_b : (rs ss : List Record) → current_bank rs ss ≡ Some false → current_bank rs [] ≡ Some false
unfolding is_complete generation_of
led_by_empty_b rs ss leads = ⊎_elim
    (λ whole. current_by rs [] [] [] refl true false false (generation_of rs) 0 whole refl (some_here rs true (some_records rs whole)) refl refl)
    (λ none. subst (λ (l : List Record). current_bank l [] ≡ Some false) (sym none.0) (current_by [] [] [] [] refl false false true 0 0 refl refl refl refl refl))
    (led_a rs ss leads)

pub led_by_empty_a : (rs ss : List Record) → current_bank rs ss ≡ Some true → current_bank [] ss ≡ Some true
unfolding is_complete generation_of
led_by_empty_a rs ss leads =
    let whole = led_b rs ss leads in
    let behind : is_behind_checkpoint ss ≡ true = by_behind (is_behind_checkpoint ss) (is_complete rs) (is_complete ss) (has_none rs && has_none ss) (generation_of rs) (generation_of ss) (sym (is_current rs ss) ∙ leads) in
    current_by [] ss ss [] refl false true false 0 (generation_of ss) refl whole (no_here true ss (some_records ss whole)) refl refl ∙ ap (λ (b : Bool). if b then Some true else None) behind
  where
    by_behind : (b r s n : Bool) (g h : ℕ) → (if b then later_bank r s n g h else None) ≡ Some true → b ≡ true
    by_behind true r s n g h is = refl
    by_behind false r s n g h is = absurd cc

-- A bank whole with a greater generation leads
pub leads_new_b : (rs ss new : List Record) → current_bank rs ss ≡ Some false → is_complete new ≡ true → generation_of rs < generation_of new → current_bank rs new ≡ Some true
unfolding is_complete generation_of
leads_new_b rs ss new leads whole lt = ⊎_elim
    (λ complete.
    current_by rs new new [] refl true true false (generation_of rs) (generation_of new) complete whole (some_here rs (has_none new) (some_records rs complete)) refl refl
    ∙ ap (λ (o : Option Bool). if is_behind_checkpoint new then o else None) (later_b false (generation_of rs) (generation_of new) lt)
    ∙ ap (λ (b : Bool). if b then Some true else None) behind)
    (λ none.
    subst (λ (l : List Record). current_bank l new ≡ Some true) (sym none.0)
    (current_by [] new new [] refl false true false 0 (generation_of new) refl whole (no_here true new (some_records new whole)) empty_generation refl ∙ ap (λ (b : Bool). if b then Some true else None) behind))
    (led_a rs ss leads)
  where
    empty_generation : generation_of [] ≡ 0
    empty_generation = refl

    behind_of : (l : List Record) → is_complete l ≡ true → 0 < generation_of l → is_behind_checkpoint l ≡ true
    behind_of [] w pos = refl
    behind_of (r ∷ l) w pos = lt-ltb 0 (generation_of (r ∷ l)) pos

    behind : is_behind_checkpoint new ≡ true
    behind = behind_of new whole (omega (arith, lt))

pub leads_new_a : (rs ss new : List Record) → current_bank rs ss ≡ Some true → is_complete new ≡ true → generation_of ss < generation_of new → current_bank new ss ≡ Some false
leads_new_a rs ss new leads whole lt =
    let other = led_b rs ss leads in
    let behind : is_behind_checkpoint ss ≡ true = by_behind (is_behind_checkpoint ss) (is_complete rs) (is_complete ss) (has_none rs && has_none ss) (generation_of rs) (generation_of ss) (sym (is_current rs ss) ∙ leads) in
    current_by new ss ss [] refl true true false (generation_of new) (generation_of ss) whole other (some_here new (has_none ss) (some_records new whole)) refl refl
    ∙ ap (λ (o : Option Bool). if is_behind_checkpoint ss then o else None) (later_a false (generation_of new) (generation_of ss) lt)
    ∙ ap (λ (b : Bool). if b then Some false else None) behind
  where
    by_behind : (b r s n : Bool) (g h : ℕ) → (if b then later_bank r s n g h else None) ≡ Some true → b ≡ true
    by_behind true r s n g h is = refl
    by_behind false r s n g h is = absurd cc

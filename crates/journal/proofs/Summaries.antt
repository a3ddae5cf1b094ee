-- What is counted of the records of a bank.
use Rattle.std.proofs.Common.{◌≡◌, ◌⊎◌, inl, inr, ℕ, zero, suc, ◌+◌, ◌<◌, Bool, true, false, ◌||◌, ◌&&◌, map, drop, length, get_or, Vec, Global, nat_lt, if◌then◌else◌, List, [], ◌∷◌, ◌++◌, Option, Some, None, refl, sym, ◌∙◌, ap, arith}
use Rattle.std.proofs.lemmas.Bool.{lt-ltb}
use Rattle.std.specs.List.{list_any}
use Rattle.std.proofs.Math.Seq.{drop-cons}
use Rattle.records.specs.Reading.{batch}
use Rattle.records.specs.declared.record.Record.{Record}
use Rattle.records.specs.Checkpoints.{generation_begun, generation_of, is_complete, is_end, is_ended}
use Rattle.records.specs.Inside.{begun_by}
use Rattle.records.specs.declared.mark.Inside.{Inside}
use Rattle.journal.specs.Records.{batches, both, current_bank, has_none, is_behind_checkpoint, later_bank}
use Rattle.journal.specs.Summaries.{IsChosen, first_summary, generation_in, no_summary, summary_from, summary_step, then_summary}
use Rattle.journal.specs.declared.summary.Summary.{Summary}

pub summary_append : (s : Summary) (rs more : List Record) → summary_from s (rs ++ more) ≡ summary_from (summary_from s rs) more
summary_append s [] more = refl
summary_append s (r ∷ rs) more = summary_append (summary_step s r) rs more

-- records in front, and then those of the batches after them
pub summary_both : (s : Summary) (rs : List Record) (o : Option (List Record)) → then_summary s (both (Some rs) o) ≡ then_summary (summary_from s rs) o
summary_both s rs None = refl
summary_both s rs (Some more) = ap (λ (t : Summary). Some t) (summary_append s rs more)

pub no_records : (s : Summary) (o : Option (List Record)) → then_summary s o ≡ None → o ≡ None
no_records s None is = refl
no_records s (Some rs) is = absurd cc

-- After a first record
or_so : (b c : Bool) → (b || false) ≡ b
or_so true c = refl
or_so false c = refl

or_or : (b c d : Bool) → ((b || c) || d) ≡ (b || (c || d))
or_or true c d = refl
or_or false c d = refl

counted : (g : ℕ) (whole : Bool) (rs : List Record) → summary_from (record { generation = g; is_complete = whole; is_empty = false }) rs ≡ record { generation = g; is_complete = whole || list_any (is_end g) rs; is_empty = false }
counted g whole [] = ap (λ (b : Bool). record { generation = g; is_complete = b; is_empty = false }) (sym (or_so whole false))
counted g whole (r ∷ rs) = counted g (whole || is_end g r) rs ∙ ap (λ (b : Bool). record { generation = g; is_complete = b; is_empty = false }) (or_or whole (is_end g r) (list_any (is_end g) rs))

counted_first : (o : Option Inside) (rs : List Record) → summary_from (first_summary (generation_in o)) rs ≡ record { generation = generation_begun o; is_complete = is_ended o rs; is_empty = false }
counted_first None rs = counted 0 true rs
counted_first (Some i) rs = counted i.generation false rs

pub summary_is : (rs : List Record) → summary_from no_summary rs ≡ record { generation = generation_of rs; is_complete = is_complete rs; is_empty = has_none rs }
unfolding is_complete generation_of
summary_is [] = refl
summary_is (r ∷ rs) = counted_first (begun_by r) rs

-- bank b has a record, and no checkpoint begins them
pub behind_none : (ss : List Record) → has_none ss ≡ false → generation_of ss ≡ 0 → is_behind_checkpoint ss ≡ false
behind_none [] some is = absurd cc
behind_none (s ∷ ss) some is = ap (nat_lt 0) is

pub behind_some : (ss : List Record) (h : ℕ) → generation_of ss ≡ suc h → is_behind_checkpoint ss ≡ true
behind_some [] h is = refl
behind_some (s ∷ ss) h is = ap (nat_lt 0) is ∙ lt-ltb 0 (suc h) (omega arith)

pub behind_nothing : (ss : List Record) → has_none ss ≡ true → is_behind_checkpoint ss ≡ true
behind_nothing [] is = refl
behind_nothing (s ∷ ss) is = absurd cc

pub none_both : (b c : Bool) → (if b then c else false) ≡ (b && c)
none_both true c = refl
none_both false c = refl

-- Which bank is current, by their summaries
module _ (rs ss : List Record) (s t : Summary) (s_is : s ≡ summary_from no_summary rs) (t_is : t ≡ summary_from no_summary ss) where
  of_first : s ≡ record { generation = generation_of rs; is_complete = is_complete rs; is_empty = has_none rs }
  of_first = s_is ∙ summary_is rs

  of_other : t ≡ record { generation = generation_of ss; is_complete = is_complete ss; is_empty = has_none ss }
  of_other = t_is ∙ summary_is ss

  not_behind : is_behind_checkpoint ss ≡ false → None ≡ current_bank rs ss
  unfolding current_bank
  not_behind is = sym (ap (λ (b : Bool). if b then later_bank (is_complete rs) (is_complete ss) (has_none rs && has_none ss) (generation_of rs) (generation_of ss) else None) is)

  pub none_current : t.is_empty ≡ false → t.generation ≡ 0 → None ≡ current_bank rs ss
  none_current some zero_is = not_behind (behind_none ss (sym (ap (λ (x : Summary). x.is_empty) of_other) ∙ some) (sym (ap (λ (x : Summary). x.generation) of_other) ∙ zero_is))

  is_behind : is_behind_checkpoint ss ≡ true → later_bank s.is_complete t.is_complete (if s.is_empty then t.is_empty else false) s.generation t.generation ≡ current_bank rs ss
  unfolding current_bank
  is_behind is =
      ap (λ (x : Summary). later_bank x.is_complete t.is_complete (if x.is_empty then t.is_empty else false) x.generation t.generation) of_first
      ∙ ap (λ (x : Summary). later_bank (is_complete rs) x.is_complete (if has_none rs then x.is_empty else false) (generation_of rs) x.generation) of_other
      ∙ ap (λ (b : Bool). later_bank (is_complete rs) (is_complete ss) b (generation_of rs) (generation_of ss)) (none_both (has_none rs) (has_none ss))
      ∙ sym (ap (λ (b : Bool). if b then later_bank (is_complete rs) (is_complete ss) (has_none rs && has_none ss) (generation_of rs) (generation_of ss) else None) is)

  behind_positive : (h : ℕ) → generation_of ss ≡ h → (h ≡ 0 → ⊥) → is_behind_checkpoint ss ≡ true
  behind_positive zero is some = absurd (some refl)
  behind_positive (suc h) is some = behind_some ss h is

  pub behind_if : (t.is_empty ≡ true) ⊎ ((t.generation ≡ 0) → ⊥) → later_bank s.is_complete t.is_complete (if s.is_empty then t.is_empty else false) s.generation t.generation ≡ current_bank rs ss
  behind_if (inl none) = is_behind (behind_nothing ss (sym (ap (λ (x : Summary). x.is_empty) of_other) ∙ none))
  behind_if (inr some) = is_behind (behind_positive (generation_of ss) refl (λ is. some (ap (λ (x : Summary). x.generation) of_other ∙ is)))

-- One batch more is counted
batch_more : (s t : Summary) (o rest : Option (List Record)) → Some t ≡ then_summary s o → then_summary s (both o rest) ≡ then_summary t rest
batch_more s t None rest is = absurd cc
batch_more s t (Some rs) rest is =
    let same : t ≡ summary_from s rs = cc in
    summary_both s rs rest ∙ ap (λ (x : Summary). then_summary x rest) (sym same)

pub bodies_more : (s t : Summary) (bodies : List (Vec ℕ Global)) (i : ℕ) (body : Vec ℕ Global) → i < length bodies → body ≡ get_or bodies i body → Some t ≡ then_summary s (batch body.items)
    → then_summary s (batches (map (λ b. b.items) (drop i bodies))) ≡ then_summary t (batches (map (λ b. b.items) (drop (i + 1) bodies)))
bodies_more s t bodies i body lt is counts =
    let front : drop i bodies ≡ body ∷ drop (i + 1) bodies = drop-cons bodies i body lt ∙ ap (λ (n : ℕ). get_or bodies i body ∷ drop n bodies) (let e : suc i ≡ i + 1 = omega arith in e) ∙ ap (λ (b : Vec ℕ Global). b ∷ drop (i + 1) bodies) (sym is) in
    ap (λ (l : List (Vec ℕ Global)). then_summary s (batches (map (λ b. b.items) l))) front
    ∙ batch_more s t (batch body.items) (batches (map (λ b. b.items) (drop (i + 1) bodies))) counts

-- What was counted are records
pub counted_records : (s : Summary) (o : Option (List Record)) → Some s ≡ then_summary no_summary o → (rs : List Record) × (o ≡ Some rs) × (s ≡ summary_from no_summary rs)
counted_records s None is = absurd cc
counted_records s (Some rs) is = (rs, refl, cc)

module _ (in_a in_b : List (List ℕ)) (s t : Summary) (of_a : Some s ≡ then_summary no_summary (batches in_a)) (of_b : Some t ≡ then_summary no_summary (batches in_b)) where
  first : (rs : List Record) × (batches in_a ≡ Some rs) × (s ≡ summary_from no_summary rs)
  first = counted_records s (batches in_a) of_a

  other : (rs : List Record) × (batches in_b ≡ Some rs) × (t ≡ summary_from no_summary rs)
  other = counted_records t (batches in_b) of_b

  module _ (records : Option (List Record)) where
    pub chosen_b : ((rs ss : List Record) → s ≡ summary_from no_summary rs → t ≡ summary_from no_summary ss → Some true ≡ current_bank rs ss) → records ≡ batches in_b → IsChosen in_a in_b true t.generation records
    chosen_b current are = record {
      first = first.0;
      other = other.0;
      a = first.1;
      b = other.1;
      leads = sym (current first.0 other.0 first.2 other.2);
      generation_is = ap (λ (x : Summary). x.generation) (other.2 ∙ summary_is other.0);
      records_are = are ∙ other.1;
    }

    pub chosen_a : ((rs ss : List Record) → s ≡ summary_from no_summary rs → t ≡ summary_from no_summary ss → Some false ≡ current_bank rs ss) → records ≡ batches in_a → IsChosen in_a in_b false s.generation records
    chosen_a current are = record {
      first = first.0;
      other = other.0;
      a = first.1;
      b = other.1;
      leads = sym (current first.0 other.0 first.2 other.2);
      generation_is = ap (λ (x : Summary). x.generation) (first.2 ∙ summary_is first.0);
      records_are = are ∙ first.1;
    }

-- What an opening finds.
use Rattle.std.proofs.Common.{◌≡◌, Bool, List, ℕ, Option, Some, None, refl, sym, ◌∙◌, ap}
use Rattle.records.specs.declared.record.Record.{Record}
use Rattle.device.specs.Device.{State}
use Rattle.gated.specs.Gated.{gated, IsFoundList}
use Rattle.journal.specs.Records.{HasRecords, IsOpened, bank_records, batches, found, of_current, or_none, then_batches}
use Rattle.journal.specs.Rest.{AreLed, IsAtRest}
use Rattle.journal.specs.Summaries.{IsChosen}
use Rattle.journal.specs.Unread.{OpeningView, journal_of}
use Rattle.journal.proofs.Flushes.{durable_left, led_records, listed_records}
use Rattle.journal.proofs.Picked.{found_current}

-- what is found is what the bodies are
pub found_bodies : (a b : List ℕ) (in_a in_b : List (List ℕ)) → gated a ≡ Some in_a → gated b ≡ Some in_b → found a b ≡ of_current (batches in_a) (batches in_b)
unfolding found
found_bodies a b in_a in_b first other = ap (λ (o : Option (List (List ℕ))). of_current (then_batches o) (bank_records b)) first ∙ ap (λ (o : Option (List (List ℕ))). of_current (batches in_a) (then_batches o)) other

-- a bank that has no list
pub none_in_a : (a b : List ℕ) → gated a ≡ None → found a b ≡ None
unfolding found
none_in_a a b is = ap (λ (o : Option (List (List ℕ))). of_current (then_batches o) (bank_records b)) is

no_other : (o : Option (List Record)) → of_current o None ≡ None
no_other None = refl
no_other (Some rs) = refl

pub none_in_b : (a b : List ℕ) → gated b ≡ None → found a b ≡ None
unfolding found
none_in_b a b is = ap (λ (o : Option (List (List ℕ))). of_current (bank_records a) (then_batches o)) is ∙ no_other (bank_records a)

-- a device whose batches were read has records
pub at_rest : (old s : State) (bodies : List (List ℕ)) (rs : List Record) → IsFoundList old bodies s → batches bodies ≡ Some rs → IsAtRest s
at_rest old s bodies rs list read = record { bodies = bodies; rs = rs; has = list.has; read = read; up = list.up }

module _ (old_a old_b sa sb : State) (in_a in_b : List (List ℕ)) (list_a : IsFoundList old_a in_a sa) (list_b : IsFoundList old_b in_b sb) (is_b : Bool) (generation : ℕ) (records : Option (List Record))
    (chosen : IsChosen in_a in_b is_b generation records) where
  pub are_led : AreLed sa sb is_b generation
  are_led = record {
    first = chosen.first;
    other = chosen.other;
    a = λ c is. listed_records c in_a chosen.first (list_a.has c is) chosen.a;
    b = λ c is. listed_records c in_b chosen.other (list_b.has c is) chosen.b;
    leads = chosen.leads;
    generation_is = chosen.generation_is;
  }

  pub found_seen : found old_a.seen old_b.seen ≡ records
  found_seen =
      found_current is_b old_a.seen old_b.seen chosen.first chosen.other (listed_records old_a.seen in_a chosen.first list_a.was chosen.a) (listed_records old_b.seen in_b chosen.other list_b.was chosen.b) chosen.leads
      ∙ sym chosen.records_are

  pub found_durable : found sa.durable sb.durable ≡ records
  unfolding are_led
  found_durable = led_records sa sb is_b generation are_led sa.durable sb.durable (durable_left sa) (durable_left sb) ∙ sym chosen.records_are

  pub found_left : (rs : List Record) → records ≡ Some rs → HasRecords sa sb rs
  unfolding are_led
  found_left rs is x y left_a left_b = led_records sa sb is_b generation are_led x y left_a left_b ∙ sym chosen.records_are ∙ is

pub opened_at : {D : Type 0} (state : D → State) (a b : D) (new : OpeningView D) (in_a in_b : List (List ℕ)) → IsFoundList (state a) in_a (state new.a) → IsFoundList (state b) in_b (state new.b)
    → (is_b : Bool) (generation : ℕ) (records : Option (List Record)) → IsChosen in_a in_b is_b generation records → new.records ≡ found (state new.a).durable (state new.b).durable
    → (rs : List Record) → records ≡ Some rs → IsOpened state a b rs (journal_of new)
opened_at state a b new in_a in_b list_a list_b is_b generation records chosen are rs is =
    let durable = found_durable (state a) (state b) (state new.a) (state new.b) in_a in_b list_a list_b is_b generation records chosen in
    record {
      was = found_seen (state a) (state b) (state new.a) (state new.b) in_a in_b list_a list_b is_b generation records chosen ∙ is;
      durable = ap or_none (are ∙ durable ∙ is);
      has = found_left (state a) (state b) (state new.a) (state new.b) in_a in_b list_a list_b is_b generation records chosen rs is;
      reads = list_a.reads;
      reads_b = list_b.reads;
    }

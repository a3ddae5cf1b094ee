-- What a coordinator keeps in memory is what its records stand for.
use Rattle.std.proofs.Common.{◌≡◌, ◌≤◌, ◌+◌, ◌-◌, ◌++◌, ℕ, List, [], ◌∷◌, Option, None, Some, drop, length, length-append, length-drop, ◌<◌, ◌==◌, not, All, append_assoc, refl, sym, ap, ◌∙◌, subst, arith, false}
use Rattle.std.proofs.lemmas.List.{append-nil, drop-append-le, drop-drop}
use Rattle.std.proofs.lemmas.List.Elements.{All-filter, All-push, All-weaker}
use Rattle.tuples.specs.declared.entry.Entry.{Entry}
use Rattle.records.specs.declared.record.Record.{Record}
use Rattle.records.specs.declared.record.Record.TheVariants.{Decision, Horizon}
use Rattle.records.specs.Coordinators.{CoordinatorState, coordinator_state, coordinator_step, end_of}
use Rattle.records.specs.Replays.{greatest_number}
use Rattle.records.proofs.CoordinatorStates.{coordinator_push}
use Rattle.device.specs.Device.{State}
use Rattle.journal.specs.Records.{HasRecords, View}
use Rattle.ledger.specs.Ledgers.{LedgerValue}
use Rattle.coordinator.specs.Keeping.{AreDurable, IsGivenNumber, IsKept, Remembers, others, risen}
use Rattle.coordinator.proofs.Staged.{last_of_more, order_decided, order_raised}

-- what was staged is durable, and what stands at or below the horizon then is forgotten
pub remembers_flushed : (d w : CoordinatorState) (l m : LedgerValue) (epoch kept horizon end : ℕ) (rising : Option ℕ) → Remembers d w l epoch kept horizon rising
    → m ≡ record l { base = risen horizon rising; log = drop (risen horizon rising - horizon) l.log } → end ≡ l.base + length l.log → end ≤ greatest_number
    → Remembers w w m epoch end (risen horizon rising) None
remembers_flushed d w l m epoch kept horizon end rising was is end_is fits = record {
  opened = was.opened;
  epoch_fits = was.epoch_fits;
  kept_epoch = was.epoch_is;
  epoch_is = was.epoch_is;
  settled = ap (λ (x : LedgerValue). x.awaited) is ∙ was.settled;
  first = let f = was.first in omega (arith, f, base, rises, at);
  same_base = refl;
  base = base;
  horizon_is = was.risen_is;
  kept_is = was.end_is ∙ sym end_is;
  kept_fits = fits;
  within = omega (arith, within, whole, end_is, risen_is);
  end_is = omega (arith, whole, base, len, rises, within, at, risen_is);
  log = log ∙ ap (λ (x : List Entry). drop (r - horizon) x) was.log ∙ drop-drop (r - horizon) (l.base - w.base) w.log ∙ ap (λ (n : ℕ). drop n w.log) (let f = was.first in omega (arith, f, base, rises, at));
  more = [];
  longer = sym (append-nil w.log);
  risen_is = was.risen_is;
  rises = omega (arith, risen_is);
  risen_within = was.risen_within;
}
  where
    r : ℕ
    r = risen horizon rising

    base : m.base ≡ risen horizon rising
    base = ap (λ (x : LedgerValue). x.base) is

    log : m.log ≡ drop (risen horizon rising - horizon) l.log
    log = ap (λ (x : LedgerValue). x.log) is

    at : l.base ≡ horizon
    at = was.base

    risen_is : w.horizon ≡ risen horizon rising
    risen_is = was.risen_is

    rises : horizon ≤ risen horizon rising
    rises = let h = was.rises in omega (arith, h, risen_is)

    within : w.horizon ≤ end_of w
    within = was.risen_within

    whole : end_of w ≡ l.base + length l.log
    whole = was.end_is

    len : length m.log ≡ length l.log - (risen horizon rising - horizon)
    len = ap length log ∙ length-drop (risen horizon rising - horizon) l.log

module _ {D : Type 0} (state : D → State) (honest : D → Type 0) (j k : View D) (l m : LedgerValue) (epoch kept horizon end : ℕ) (rising : Option ℕ) (numbers : List ℕ) (given : ℕ) where
  pub kept_flushed : IsKept state honest j l epoch kept horizon rising numbers given → m ≡ record l { base = risen horizon rising; log = drop (risen horizon rising - horizon) l.log }
      → end ≡ l.base + length l.log → end ≤ greatest_number → j.is_down ≡ false → k.staged ≡ []
      → (honest k.a → honest j.a) → (honest k.b → honest j.b) → (honest j.a → honest j.b → (k.durable ≡ j.durable ++ j.staged) × HasRecords (state k.a) (state k.b) k.durable)
      → IsKept state honest k m epoch end (risen horizon rising) None numbers given
  kept_flushed was is end_is fits up fresh back_a back_b flushed = record {
    durable = was.durable ++ was.staged;
    staged = [];
    remembers = subst (λ (rs : List Record). Remembers (coordinator_state (was.durable ++ was.staged)) (coordinator_state rs) m epoch end (risen horizon rising) None) (sym (append-nil (was.durable ++ was.staged)))
        (remembers_flushed _ _ l m epoch kept horizon end rising was.remembers is end_is fits);
    in_order = tt;
    last = refl;
    numbers_given = was.numbers_given;
    given_fits = was.given_fits;
    staged_is = λ now. sym fresh;
    backed = λ now ha hb.
        let both = flushed (back_a ha) (back_b hb) in
        record {
          rest = both.1;
          same = ap (λ (rs : List Record). rs ++ was.staged) (was.backed up (back_a ha) (back_b hb)).same ∙ ap (λ (rs : List Record). j.durable ++ rs) (was.staged_is up) ∙ sym both.0;
        };
  }

-- A decision is staged and listed.
pub state_decided : (rs : List Record) (place : ℕ) (x : Entry) → coordinator_state (rs ++ Decision place x ∷ []) ≡ record (coordinator_state rs) { log = (coordinator_state rs).log ++ x ∷ [] }
unfolding coordinator_step
state_decided rs place x = coordinator_push rs (Decision place x)

pub state_raised : (rs : List Record) (place : ℕ) → coordinator_state (rs ++ Horizon place ∷ []) ≡ record (coordinator_state rs) { horizon = place }
unfolding coordinator_step
state_raised rs place = coordinator_push rs (Horizon place)

pub remembers_decided : (d w : CoordinatorState) (l m : LedgerValue) (epoch kept horizon : ℕ) (rising : Option ℕ) (x : Entry) → Remembers d w l epoch kept horizon rising
    → m ≡ record l { log = l.log ++ x ∷ []; awaited = None } → Remembers d (record w { log = w.log ++ x ∷ [] }) m epoch kept horizon rising
remembers_decided d w l m epoch kept horizon rising x was is = record {
  opened = was.opened;
  epoch_fits = was.epoch_fits;
  kept_epoch = was.kept_epoch;
  epoch_is = was.epoch_is;
  settled = ap (λ (y : LedgerValue). y.awaited) is;
  first = let f = was.first in omega (arith, f, base);
  same_base = was.same_base;
  base = base ∙ was.base;
  horizon_is = was.horizon_is;
  kept_is = was.kept_is;
  kept_fits = was.kept_fits;
  within = was.within;
  end_is = let e = was.end_is in omega (arith, e, base, len, wlen);
  log = log ∙ ap (λ (y : List Entry). y ++ x ∷ []) was.log ∙ sym (drop-append-le (l.base - w.base) w.log (x ∷ []) front) ∙ ap (λ (n : ℕ). drop (n - w.base) (w.log ++ x ∷ [])) (sym base);
  more = was.more ++ x ∷ [];
  longer = ap (λ (y : List Entry). y ++ x ∷ []) was.longer ∙ append_assoc d.log was.more (x ∷ []);
  risen_is = was.risen_is;
  rises = was.rises;
  risen_within = let e = was.risen_within in omega (arith, e, wlen);
}
  where
    base : m.base ≡ l.base
    base = ap (λ (y : LedgerValue). y.base) is

    log : m.log ≡ l.log ++ x ∷ []
    log = ap (λ (y : LedgerValue). y.log) is

    len : length m.log ≡ length l.log + 1
    len = ap length log ∙ length-append l.log (x ∷ [])

    wlen : length (w.log ++ x ∷ []) ≡ length w.log + 1
    wlen = length-append w.log (x ∷ [])

    front : l.base - w.base ≤ length w.log
    front = let e = was.end_is in let f = was.first in omega (arith, e, f)

pub remembers_raised : (d w : CoordinatorState) (l : LedgerValue) (epoch kept horizon place : ℕ) (rising : Option ℕ) → Remembers d w l epoch kept horizon rising
    → horizon ≤ place → place ≤ kept → Remembers d (record w { horizon = place }) l epoch kept horizon (Some place)
remembers_raised d w l epoch kept horizon place rising was on within = record {
  opened = was.opened;
  epoch_fits = was.epoch_fits;
  kept_epoch = was.kept_epoch;
  epoch_is = was.epoch_is;
  settled = was.settled;
  first = was.first;
  same_base = was.same_base;
  base = was.base;
  horizon_is = was.horizon_is;
  kept_is = was.kept_is;
  kept_fits = was.kept_fits;
  within = was.within;
  end_is = was.end_is;
  log = was.log;
  more = was.more;
  longer = was.longer;
  risen_is = refl;
  rises = on;
  risen_within = let e = was.kept_is in let b = was.same_base in let len : length w.log ≡ length d.log + length was.more = ap length was.longer ∙ length-append d.log was.more in omega (arith, within, e, b, len);
}

module _ {D : Type 0} (state : D → State) (honest : D → Type 0) (j k : View D) (l m : LedgerValue) (epoch kept horizon : ℕ) (rising : Option ℕ) (numbers more : List ℕ) (given : ℕ)
    (was : IsKept state honest j l epoch kept horizon rising numbers given) where
  pub kept_decided : (place : ℕ) (x : Entry) → k ≡ record j { staged = j.staged ++ Decision place x ∷ [] } → m ≡ record l { log = l.log ++ x ∷ []; awaited = None } → All (IsGivenNumber given) more
      → IsKept state honest k m epoch kept horizon rising more given
  kept_decided place x staged listed numbers_given = record {
    durable = was.durable;
    staged = was.staged ++ Decision place x ∷ [];
    remembers = subst (λ (s : CoordinatorState). Remembers (coordinator_state was.durable) s m epoch kept horizon rising)
        (sym (state_decided (was.durable ++ was.staged) place x) ∙ ap coordinator_state (append_assoc was.durable was.staged (Decision place x ∷ [])))
        (remembers_decided _ _ l m epoch kept horizon rising x was.remembers listed);
    in_order = order_decided horizon kept place x was.staged was.in_order;
    last = was.last ∙ sym (last_of_more None was.staged (Decision place x ∷ []));
    numbers_given = numbers_given;
    given_fits = was.given_fits;
    staged_is = subst (λ (i : View D). i.is_down ≡ false → was.staged ++ Decision place x ∷ [] ≡ i.staged) (sym staged) (λ up. ap (λ (rs : List Record). rs ++ Decision place x ∷ []) (was.staged_is up));
    backed = subst (λ (i : View D). i.is_down ≡ false → honest i.a → honest i.b → AreDurable state i was.durable) (sym staged) (λ up ha hb. let b = was.backed up ha hb in record { rest = b.rest; same = b.same });
  }

  pub kept_raised : (place : ℕ) → k ≡ record j { staged = j.staged ++ Horizon place ∷ [] } → horizon ≤ place → place ≤ kept → ((r : ℕ) → rising ≡ Some r → r < place)
      → IsKept state honest k l epoch kept horizon (Some place) numbers given
  kept_raised place staged on within lower = record {
    durable = was.durable;
    staged = was.staged ++ Horizon place ∷ [];
    remembers = subst (λ (s : CoordinatorState). Remembers (coordinator_state was.durable) s l epoch kept horizon (Some place))
        (sym (state_raised (was.durable ++ was.staged) place) ∙ ap coordinator_state (append_assoc was.durable was.staged (Horizon place ∷ [])))
        (remembers_raised _ _ l epoch kept horizon place rising was.remembers on within);
    in_order = order_raised horizon kept place None was.staged on within (λ r is. lower r (was.last ∙ is)) was.in_order;
    last = sym (last_of_more None was.staged (Horizon place ∷ []));
    numbers_given = was.numbers_given;
    given_fits = was.given_fits;
    staged_is = subst (λ (i : View D). i.is_down ≡ false → was.staged ++ Horizon place ∷ [] ≡ i.staged) (sym staged) (λ up. ap (λ (rs : List Record). rs ++ Horizon place ∷ []) (was.staged_is up));
    backed = subst (λ (i : View D). i.is_down ≡ false → honest i.a → honest i.b → AreDurable state i was.durable) (sym staged) (λ up ha hb. let b = was.backed up ha hb in record { rest = b.rest; same = b.same });
  }

  -- other writes are open
  pub kept_open : (later : ℕ) → All (IsGivenNumber later) more → later ≤ greatest_number → IsKept state honest j l epoch kept horizon rising more later
  kept_open later numbers_given fits = record {
    durable = was.durable;
    staged = was.staged;
    remembers = was.remembers;
    in_order = was.in_order;
    last = was.last;
    numbers_given = numbers_given;
    given_fits = fits;
    staged_is = was.staged_is;
    backed = was.backed;
  }

pub given_more : (given n : ℕ) (numbers : List ℕ) → All (IsGivenNumber given) numbers → n ≡ given + 1 → All (IsGivenNumber n) (numbers ++ n ∷ [])
given_more given n numbers all next =
    All-push (IsGivenNumber n) numbers n (All-weaker (IsGivenNumber given) (IsGivenNumber n) (λ x is. record { some = is.some; up_to = let u = is.up_to in omega (arith, u, next) }) numbers all) (record { some = omega (arith, next); up_to = omega arith })

pub given_others : (given number : ℕ) (numbers : List ℕ) → All (IsGivenNumber given) numbers → All (IsGivenNumber given) (others number numbers)
given_others given number numbers all = All-filter (λ n. not (n == number)) (IsGivenNumber given) numbers all

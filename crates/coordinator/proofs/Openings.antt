-- Opening a coordinator once more.
use Rattle.std.proofs.Common.{◌≡◌, ◌≤◌, ◌<◌, ◌+◌, ◌-◌, ◌++◌, ℕ, List, [], ◌∷◌, Option, Some, None, All, length, length-drop, drop, refl, sym, ap, ◌∙◌, subst, arith}
use Rattle.std.proofs.lemmas.List.{append-nil}
use Rattle.records.specs.declared.record.Record.{Record}
use Rattle.records.specs.declared.record.Record.TheVariants.{Epoch}
use Rattle.records.specs.Coordinators.{BeginsCoordinatorImage, CoordinatorState, IsCoordinatorImage, MayFollowNext, coordinator_state, coordinator_step, empty_coordinator, end_of}
use Rattle.records.specs.Identity.{coordinator_number}
use Rattle.records.specs.Replays.{Identity, greatest_number}
use Rattle.records.specs.Inside.{inside_of, inside_step}
use Rattle.records.specs.declared.mark.Inside.{Inside}
use Rattle.records.proofs.CoordinatorStates.{coordinator_empty, coordinator_more, coordinator_push}
use Rattle.records.proofs.Insides.{inside_push}
use Rattle.recovery.specs.Reading.{DecidedSoFar, TakesDecided, nothing_decided}
use Rattle.device.specs.Device.{State}
use Rattle.journal.specs.Records.{both, View}
use Rattle.ledger.specs.Ledgers.{LedgerValue}
use Rattle.decisions.specs.Coordinators.{coordinator_opening}
use Rattle.openings.specs.Openings.{AreReplayed, IsReopened}
use Rattle.journal.specs.Unread.{IsRead, Left}
use Rattle.journal.proofs.Left.{both-nil, read_among, read_more}
use Rattle.coordinator.specs.Keeping.{IsGivenNumber, IsKept, IsMemoryOf, Remembers, openings_in}

some_is : {X : Type 0} (x y : X) → Some x ≡ Some y → x ≡ y
some_is x y is = cc

pub nothing_replayed : empty_coordinator ≡ coordinator_state []
unfolding coordinator_state
nothing_replayed = refl

-- records that were read are replayed
pub record SoFar (me : Identity) (whole : Option (List Record)) (left : Left) (m : DecidedSoFar) : Type 0 where
  pub done : List Record
  pub all : whole ≡ both (Some done) left.records
  pub inside : m.inside ≡ inside_of done
  pub replayed : m.state ≡ coordinator_state done
  pub begins : BeginsCoordinatorImage me done

pub nothing_read : (me : Identity) (left : Left) (m : DecidedSoFar) → m ≡ nothing_decided → SoFar me left.records left m
unfolding inside_of
nothing_read me left m is = record {
  done = [];
  all = sym (both-nil left.records);
  inside = ap (λ (n : DecidedSoFar). n.inside) is;
  replayed = ap (λ (n : DecidedSoFar). n.state) is ∙ nothing_replayed;
  begins = (coordinator_empty me).each;
}

-- one more
module _ (me : Identity) (whole : Option (List Record)) (old : Left) (m : DecidedSoFar) (so_far : SoFar me whole old m) (r : Record) (new : Left) (read : IsRead old r new) where
  follows : MayFollowNext me m.inside m.state r → MayFollowNext me (inside_of so_far.done) (coordinator_state so_far.done) r
  follows may =
      subst (λ (i : Option Inside). MayFollowNext me i (coordinator_state so_far.done) r) so_far.inside (subst (λ (s : CoordinatorState). MayFollowNext me m.inside s r) so_far.replayed may)

  pub one_replayed : (n : DecidedSoFar) → MayFollowNext me m.inside m.state r → TakesDecided m r n → SoFar me whole new n
  one_replayed n may taken = record {
    done = so_far.done ++ r ∷ [];
    all = read_more whole so_far.done old so_far.all r new read;
    inside = taken.inside ∙ ap (λ (i : Option Inside). inside_step i r) so_far.inside ∙ sym (inside_push so_far.done r);
    replayed = taken.state ∙ ap (λ (s : CoordinatorState). coordinator_step s r) so_far.replayed ∙ sym (coordinator_push so_far.done r);
    begins = coordinator_more me so_far.done r so_far.begins (follows may);
  }

  pub may_follow : (rs : List Record) → whole ≡ Some rs → IsCoordinatorImage me rs → MayFollowNext me m.inside m.state r
  may_follow rs was image =
      let among = read_among whole so_far.done old so_far.all r new read rs was in
      subst (λ (i : Option Inside). MayFollowNext me i m.state r) (sym so_far.inside)
      (subst (λ (s : CoordinatorState). MayFollowNext me (inside_of so_far.done) s r) (sym so_far.replayed) (image.each so_far.done among.0 r among.1))

-- all were read
module _ (me : Identity) (whole : Option (List Record)) (left : Left) (m : DecidedSoFar) (so_far : SoFar me whole left m) (none : left.records ≡ Some []) where
  all_read : whole ≡ Some so_far.done
  all_read = so_far.all ∙ ap (both (Some so_far.done)) none ∙ ap (λ (rs : List Record). Some rs) (append-nil so_far.done)

  pub replayed_whole : m.inside ≡ None → AreReplayed IsCoordinatorImage IsMemoryOf me whole m.state
  replayed_whole ended = record {
    rs = so_far.done;
    found = all_read;
    image = record { each = so_far.begins; whole = sym so_far.inside ∙ ended };
    made_of = so_far.replayed;
  }

  pub ended_by : (rs : List Record) → whole ≡ Some rs → IsCoordinatorImage me rs → m.inside ≡ None
  ended_by rs was image = so_far.inside ∙ ap inside_of (some_is so_far.done rs (sym all_read ∙ was)) ∙ image.whole

pub opened_state : (before : List Record) (epoch store shards node : ℕ) → coordinator_state (before ++ Epoch epoch store shards node ∷ []) ≡ record (coordinator_state before) { epoch = epoch }
unfolding coordinator_step
opened_state before epoch store shards node = coordinator_push before (Epoch epoch store shards node)

-- what is remembered of replayed records with one opening more
remembers_opened : (s w : CoordinatorState) (l : LedgerValue) (epoch kept horizon : ℕ) → w ≡ record s { epoch = epoch } → s.base ≤ s.horizon → l ≡ record { base = s.horizon; log = drop (s.horizon - s.base) s.log; awaited = None }
    → epoch ≡ s.epoch + 1 → s.epoch < greatest_number → kept ≡ end_of s → kept ≤ greatest_number → horizon ≡ s.horizon → s.horizon ≤ end_of s → Remembers w w l epoch kept horizon None
remembers_opened s w l epoch kept horizon is low ledger next below kept_is fits horizon_is within = record {
  opened = omega (arith, next);
  epoch_fits = omega (arith, next, below);
  kept_epoch = ap (λ (x : CoordinatorState). x.epoch) is;
  epoch_is = ap (λ (x : CoordinatorState). x.epoch) is;
  settled = ap (λ (x : LedgerValue). x.awaited) ledger;
  first = omega (arith, base, lbase, low);
  same_base = refl;
  base = ap (λ (x : LedgerValue). x.base) ledger ∙ sym horizon_is;
  horizon_is = ap (λ (x : CoordinatorState). x.horizon) is ∙ sym horizon_is;
  kept_is = end ∙ sym kept_is;
  kept_fits = fits;
  within = omega (arith, horizon_is, within, kept_is);
  end_is = omega (arith, end, lbase, len, within, low);
  log = log ∙ ap (λ (n : ℕ). drop n s.log) (let e : s.horizon - s.base ≡ l.base - w.base = omega (arith, lbase, base) in e) ∙ ap (λ (x : CoordinatorState). drop (l.base - w.base) x.log) (sym is);
  more = [];
  longer = sym (append-nil w.log);
  risen_is = ap (λ (x : CoordinatorState). x.horizon) is ∙ sym horizon_is;
  rises = omega (arith, horizon_is, high);
  risen_within = omega (arith, high, end, within);
}
  where
    base : w.base ≡ s.base
    base = ap (λ (x : CoordinatorState). x.base) is

    high : w.horizon ≡ s.horizon
    high = ap (λ (x : CoordinatorState). x.horizon) is

    end : end_of w ≡ end_of s
    end = ap end_of is

    lbase : l.base ≡ s.horizon
    lbase = ap (λ (x : LedgerValue). x.base) ledger

    log : l.log ≡ drop (s.horizon - s.base) s.log
    log = ap (λ (x : LedgerValue). x.log) ledger

    len : length l.log ≡ length s.log - (s.horizon - s.base)
    len = ap length log ∙ length-drop (s.horizon - s.base) s.log

-- a coordinator goes on from what the records that were found stand for
module _ {D : Type 0} (state : D → State) (honest : D → Type 0) (a b : D) (me : Identity) (j : View D) (s : CoordinatorState) (opened : IsReopened state honest IsCoordinatorImage IsMemoryOf openings_in a b me j s)
    (node : me.node ≡ coordinator_number) (fresh : j.staged ≡ []) (back_a : honest j.a → honest a) (back_b : honest j.b → honest b) (l : LedgerValue) (epoch kept horizon : ℕ) where
  abbrev now : List Record
  now = opened.rs ++ coordinator_opening me opened.rs ∷ []

  state_is : epoch ≡ s.epoch + 1 → coordinator_state now ≡ record s { epoch = epoch }
  state_is next =
      let is = opened.made_of in
      let same : (coordinator_state opened.rs).epoch + 1 ≡ epoch = sym (next ∙ ap (λ (x : CoordinatorState). x.epoch + 1) is) in
      opened_state opened.rs ((coordinator_state opened.rs).epoch + 1) me.store me.shards me.node ∙ ap (λ (n : ℕ). record (coordinator_state opened.rs) { epoch = n }) same ∙ ap (λ (x : CoordinatorState). record x { epoch = epoch }) (sym is)

  pub opened_kept : s.base ≤ s.horizon → l ≡ record { base = s.horizon; log = drop (s.horizon - s.base) s.log; awaited = None } → epoch ≡ s.epoch + 1 → kept ≡ end_of s → kept ≤ greatest_number
      → horizon ≡ s.horizon → s.horizon ≤ end_of s → (numbers : List ℕ) → numbers ≡ [] → IsKept state honest j l epoch kept horizon None numbers 0
  opened_kept low ledger next kept_is fits horizon_is within numbers none = record {
    durable = now;
    staged = [];
    remembers = subst (λ (rs : List Record). Remembers (coordinator_state now) (coordinator_state rs) l epoch kept horizon None) (sym (append-nil now))
        (remembers_opened s (coordinator_state now) l epoch kept horizon (state_is next) low ledger next (let few = opened.below in let is : s.epoch ≡ (coordinator_state opened.rs).epoch = ap (λ (x : CoordinatorState). x.epoch) opened.made_of in omega (arith, few, is)) kept_is fits horizon_is within);
    in_order = tt;
    last = refl;
    numbers_given = subst (All (IsGivenNumber 0)) (sym none) (λ k d lt. absurd (omega (arith, lt)));
    given_fits = omega arith;
    staged_is = λ up. sym fresh;
    backed = λ up ha hb. record { rest = opened.rest (back_a ha) (back_b hb); same = sym (opened.durable (back_a ha) (back_b hb)) };
  }

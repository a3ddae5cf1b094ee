-- What a coordinator keeps in memory, while its devices are elsewhere and once they are back.
use Rattle.std.proofs.Common.{◌≡◌, ◌≤◌, ◌+◌, ◌-◌, ◌++◌, ◌||◌, ℕ, Bool, true, false, List, Option, None, drop, length, take, length-append, length-drop, append_assoc, true≢false, refl, sym, ap, ◌∙◌, subst, arith}
use Rattle.std.proofs.lemmas.List.{drop-drop, take-append-drop}
use Rattle.std.proofs.lemmas.Bool.{or_parts}
use Rattle.away.specs.Aways.{lent_honest, lent_state}
use Rattle.away.specs.declared.away.Away.{Away}
use Rattle.tuples.specs.declared.entry.Entry.{Entry}
use Rattle.records.specs.declared.record.Record.{Record}
use Rattle.records.specs.Coordinators.{CoordinatorState, coordinator_from, coordinator_state, end_of}
use Rattle.records.specs.Replays.{Identity, greatest_number}
use Rattle.records.proofs.CoordinatorStates.{state_of_more}
use Rattle.device.specs.Device.{State}
use Rattle.journal.specs.Lending.{IsLent, landed}
use Rattle.journal.specs.Records.{HasRecords, View}
use Rattle.journal.proofs.Calls.{records_lent}
use Rattle.ledger.specs.Ledgers.{LedgerValue}
use Rattle.decisions.specs.Coordinators.{CoordinatorView, IsRunning}
use Rattle.coordinator.specs.Keeping.{IsKept, Remembers, risen}
use Rattle.coordinator.specs.Lending.{HasFlown, IsLentCoordinator, IsToldOf}
use Rattle.coordinator.specs.declared.lending.Flying.{Flying}
use Rattle.coordinator.specs.Staged.{AreInOrder, decided, last_horizon}
use Rattle.coordinator.proofs.Facts.{view_of}
use Rattle.coordinator.proofs.Staged.{GoesOn, base_behind, decided_behind, epoch_behind, horizon_behind, in_two, last_of_more, left_is, lies_below, lies_on, lies_within, order_of_first, order_wider, rises_still, risen_twice}

-- The first of what is staged is durable: what the memory remembers then.
module _ (ds xs ys : List Record) (l : LedgerValue) (epoch kept horizon : ℕ) (rising flown : Option ℕ) (count : ℕ)
    (was : Remembers (coordinator_state ds) (coordinator_state (ds ++ xs ++ ys)) l epoch kept horizon rising) (order : AreInOrder horizon kept (xs ++ ys)) (last : rising ≡ last_horizon None (xs ++ ys))
    (counts : count ≡ length (decided xs)) (tells : flown ≡ last_horizon None xs) where
  abbrev pub d : CoordinatorState
  d = coordinator_state ds

  abbrev pub w : CoordinatorState
  w = coordinator_state (ds ++ xs ++ ys)

  abbrev pub mid : CoordinatorState
  mid = coordinator_state (ds ++ xs)

  from_d : mid ≡ coordinator_from d xs
  from_d = state_of_more ds xs

  from_mid : w ≡ coordinator_from mid ys
  from_mid = state_of_more (ds ++ xs) ys

  mid_log : mid.log ≡ d.log ++ decided xs
  mid_log = ap (λ (x : CoordinatorState). x.log) from_d ∙ decided_behind d xs

  mid_base : mid.base ≡ d.base
  mid_base = ap (λ (x : CoordinatorState). x.base) from_d ∙ base_behind horizon kept d xs (order_of_first horizon kept xs ys order)

  w_log : w.log ≡ mid.log ++ decided ys
  w_log = ap (λ (x : CoordinatorState). x.log) from_mid ∙ decided_behind mid ys

  on : GoesOn horizon horizon kept flown ys
  on = subst (λ (o : Option ℕ). GoesOn horizon horizon kept o ys) (sym tells) (in_two horizon horizon kept None xs ys (omega arith) order tt)

  last_on : rising ≡ last_horizon flown ys
  last_on = last ∙ last_of_more None xs ys ∙ ap (λ (o : Option ℕ). last_horizon o ys) (sym tells)

  abbrev pub r : ℕ
  r = risen horizon flown

  pub r_on : horizon ≤ r
  r_on = lies_on horizon on.next kept flown on.lies

  r_within : r ≤ kept
  r_within = lies_within horizon on.next kept flown was.within on.lies

  mid_end : end_of mid ≡ kept + count
  mid_end = let e = was.kept_is in let len : length mid.log ≡ length d.log + length (decided xs) = ap length mid_log ∙ length-append d.log (decided xs) in omega (arith, e, len, mid_base, counts)

  w_base : mid.base ≡ w.base
  w_base = mid_base ∙ was.same_base

  w_end : end_of w ≡ end_of mid + length (decided ys)
  w_end = let len : length w.log ≡ length mid.log + length (decided ys) = ap length w_log ∙ length-append mid.log (decided ys) in omega (arith, len, w_base)

  -- there is room for what flew
  pub kept_within : kept + count ≤ l.base + length l.log
  kept_within = let e = was.end_is in let me = mid_end in let we = w_end in omega (arith, e, me, we)

  pub r_in_ledger : r ≤ l.base + length l.log
  r_in_ledger = let k = kept_within in let i = r_within in omega (arith, k, i)

  module _ (rests : Option ℕ) (none : rising ≡ flown → rests ≡ None) (some : (rising ≡ flown → ⊥) → rests ≡ rising) where
    pub rests_is : rests ≡ last_horizon None ys
    rests_is = left_is horizon horizon kept flown rising rests ys (omega arith) on last_on none some

    pub order_left : AreInOrder r (kept + count) ys
    order_left = order_wider on.next kept r (kept + count) ys (lies_below horizon on.next kept flown on.up on.lies) (omega arith) on.order

    pub remembers_landed : (m : LedgerValue) → m ≡ record l { base = risen horizon flown; log = drop (risen horizon flown - horizon) l.log } → kept + count ≤ greatest_number
        → Remembers (coordinator_state (ds ++ xs)) (coordinator_state (ds ++ xs ++ ys)) m epoch (kept + count) (risen horizon flown) rests
    remembers_landed m is fits = record {
      opened = was.opened;
      epoch_fits = was.epoch_fits;
      kept_epoch = ap (λ (x : CoordinatorState). x.epoch) from_d ∙ epoch_behind horizon kept d xs (order_of_first horizon kept xs ys order) ∙ was.kept_epoch;
      epoch_is = was.epoch_is;
      settled = ap (λ (x : LedgerValue). x.awaited) is ∙ was.settled;
      first = let f = was.first in let b = was.base in let h = r_on in omega (arith, f, b, h, base);
      same_base = w_base;
      base = base;
      horizon_is = ap (λ (x : CoordinatorState). x.horizon) from_d ∙ horizon_behind horizon None d xs was.horizon_is ∙ ap (risen horizon) (sym tells);
      kept_is = mid_end;
      kept_fits = fits;
      within = let i = r_within in omega (arith, i);
      end_is = let e = was.end_is in let b = was.base in let h = r_on in let i = r_in_ledger in omega (arith, e, b, h, i, base, len);
      log = log ∙ ap (λ (x : List Entry). drop (r - horizon) x) was.log ∙ drop-drop (r - horizon) (l.base - w.base) w.log
          ∙ ap (λ (n : ℕ). drop n w.log) (let f = was.first in let b = was.base in let h = r_on in omega (arith, f, b, h, base));
      more = decided ys;
      longer = w_log;
      risen_is = was.risen_is ∙ risen_twice horizon horizon kept flown rising rests ys (omega arith) on last_on rests_is;
      rises = let h = was.risen_is in let s = rises_still horizon horizon kept flown rising rests ys (omega arith) on last_on in omega (arith, h, s);
      risen_within = was.risen_within;
    }
      where
        base : m.base ≡ r
        base = ap (λ (x : LedgerValue). x.base) is

        log : m.log ≡ drop (r - horizon) l.log
        log = ap (λ (x : LedgerValue). x.log) is

        len : length m.log ≡ length l.log - (r - horizon)
        len = ap length log ∙ length-drop (r - horizon) l.log

module _ {D : Type 0} (state : D → State) (honest : D → Type 0) where
  -- the same over what stands for the devices
  pub kept_lent : (j : View D) (k : View (Away D)) (l : LedgerValue) (epoch kept horizon : ℕ) (rising : Option ℕ) (numbers : List ℕ) (given : ℕ) → IsLent state j k
      → IsKept state honest j l epoch kept horizon rising numbers given → IsKept (lent_state state) (lent_honest honest) k l epoch kept horizon rising numbers given
  kept_lent j k l epoch kept horizon rising numbers given is was = record {
    durable = was.durable;
    staged = was.staged;
    remembers = was.remembers;
    in_order = was.in_order;
    last = was.last;
    numbers_given = was.numbers_given;
    given_fits = was.given_fits;
    staged_is = λ up. was.staged_is (sym is.is_down ∙ up) ∙ sym is.staged;
    backed = λ up ha hb.
        let b = was.backed (sym is.is_down ∙ up) (subst honest is.a.was ha) (subst honest is.b.was hb) in
        record {
          rest = subst (HasRecords (lent_state state k.a) (lent_state state k.b)) (sym is.durable) (records_lent state j.a j.b k.a k.b j.durable is.a.was is.b.was b.rest);
          same = b.same ∙ sym is.durable;
        };
  }

  pub running_lent : (v : CoordinatorView D) (u : CoordinatorView (Away D)) → IsLentCoordinator state v u → IsRunning state honest v → IsRunning (lent_state state) (lent_honest honest) u
  running_lent v u is run = record {
    honest_a = subst honest (sym is.a.was) run.honest_a;
    honest_b = subst honest (sym is.b.was) run.honest_b;
    up = is.is_down ∙ run.up;
    rest = subst (HasRecords (lent_state state u.a) (lent_state state u.b)) (sym is.durable) (records_lent state v.a v.b u.a u.b v.durable is.a.was is.b.was run.rest);
  }

  -- what is told of a flight
  pub all_told : (j : View D) (l : LedgerValue) (epoch kept horizon : ℕ) (rising : Option ℕ) (numbers : List ℕ) (given : ℕ) → IsKept state honest j l epoch kept horizon rising numbers given
      → j.is_down ≡ false → (l.base + length l.log - kept ≡ length (decided j.staged)) × (rising ≡ last_horizon None j.staged)
  all_told j l epoch kept horizon rising numbers given was up =
      let d = coordinator_state was.durable in
      let whole = state_of_more was.durable was.staged in
      let log : (coordinator_state (was.durable ++ was.staged)).log ≡ d.log ++ decided was.staged = ap (λ (s : CoordinatorState). s.log) whole ∙ decided_behind d was.staged in
      let len : length (coordinator_state (was.durable ++ was.staged)).log ≡ length d.log + length (decided was.staged) = ap length log ∙ length-append d.log (decided was.staged) in
      let e = was.remembers.end_is in
      let k = was.remembers.kept_is in
      let b = was.remembers.same_base in (
        subst (λ (rs : List Record). l.base + length l.log - kept ≡ length (decided rs)) (was.staged_is up) (omega (arith, e, k, b, len)),
        subst (λ (rs : List Record). rising ≡ last_horizon None rs) (was.staged_is up) was.last,
      )

  -- a flight that failed leaves the memory as it was, of no use
  pub kept_down : (j : View (Away D)) (k : View D) (l : LedgerValue) (epoch kept horizon : ℕ) (rising : Option ℕ) (numbers : List ℕ) (given : ℕ)
      → IsKept (lent_state state) (lent_honest honest) j l epoch kept horizon rising numbers given → k.is_down ≡ true → IsKept state honest k l epoch kept horizon rising numbers given
  kept_down j k l epoch kept horizon rising numbers given was down = record {
    durable = was.durable;
    staged = was.staged;
    remembers = was.remembers;
    in_order = was.in_order;
    last = was.last;
    numbers_given = was.numbers_given;
    given_fits = was.given_fits;
    staged_is = λ up. absurd (true≢false (sym down ∙ up));
    backed = λ up. absurd (true≢false (sym down ∙ up));
  }

  -- what flew is durable
  module _ (j : View (Away D)) (l : LedgerValue) (epoch kept horizon : ℕ) (rising : Option ℕ) (numbers : List ℕ) (given : ℕ) (flying : Flying)
      (was : IsKept (lent_state state) (lent_honest honest) j l epoch kept horizon rising numbers given) (up : j.is_down ≡ false) (told : IsToldOf (take flying.sent.count j.staged) flying) where
    abbrev pub n : ℕ
    n = flying.sent.count

    abbrev pub xs : List Record
    xs = take n was.staged

    abbrev pub ys : List Record
    ys = drop n was.staged

    two : was.staged ≡ xs ++ ys
    two = sym (take-append-drop n was.staged)

    remembers : Remembers (coordinator_state was.durable) (coordinator_state (was.durable ++ xs ++ ys)) l epoch kept horizon rising
    remembers = subst (λ (rs : List Record). Remembers (coordinator_state was.durable) (coordinator_state rs) l epoch kept horizon rising) (ap (λ (rs : List Record). was.durable ++ rs) two ∙ sym (append_assoc was.durable xs ys)) was.remembers

    order : AreInOrder horizon kept (xs ++ ys)
    order = subst (AreInOrder horizon kept) two was.in_order

    last : rising ≡ last_horizon None (xs ++ ys)
    last = was.last ∙ ap (last_horizon None) two

    counts : flying.decisions ≡ length (decided xs)
    counts = told.decisions ∙ ap (λ (rs : List Record). length (decided (take n rs))) (sym (was.staged_is up))

    tells : flying.rising ≡ last_horizon None xs
    tells = told.rising ∙ ap (λ (rs : List Record). last_horizon None (take n rs)) (sym (was.staged_is up))

    pub room : kept + flying.decisions ≤ l.base + length l.log
    room = kept_within was.durable xs ys l epoch kept horizon rising flying.rising flying.decisions remembers order last counts tells

    pub rises_from : horizon ≤ risen horizon flying.rising
    rises_from = r_on was.durable xs ys l epoch kept horizon rising flying.rising flying.decisions remembers order last counts tells

    pub rises_to : risen horizon flying.rising ≤ l.base + length l.log
    rises_to = r_in_ledger was.durable xs ys l epoch kept horizon rising flying.rising flying.decisions remembers order last counts tells

    module _ (k : View D) (m : LedgerValue) (rests : Option ℕ) (none : rising ≡ flying.rising → rests ≡ None) (some : (rising ≡ flying.rising → ⊥) → rests ≡ rising) (is : m ≡ record l { base = risen horizon flying.rising; log = drop (risen horizon flying.rising - horizon) l.log })
        (fits : kept + flying.decisions ≤ greatest_number) (staged : k.staged ≡ drop n j.staged)
        (flown : honest k.a → honest k.b → lent_honest honest j.a × lent_honest honest j.b × (k.durable ≡ j.durable ++ take n j.staged) × HasRecords (state k.a) (state k.b) k.durable) where
      pub kept_landed : IsKept state honest k m epoch (kept + flying.decisions) (risen horizon flying.rising) rests numbers given
      kept_landed = record {
        durable = was.durable ++ xs;
        staged = ys;
        remembers = remembers_landed was.durable xs ys l epoch kept horizon rising flying.rising flying.decisions remembers order last counts tells rests none some m is fits;
        in_order = order_left was.durable xs ys l epoch kept horizon rising flying.rising flying.decisions remembers order last counts tells rests none some;
        last = rests_is was.durable xs ys l epoch kept horizon rising flying.rising flying.decisions remembers order last counts tells rests none some;
        numbers_given = was.numbers_given;
        given_fits = was.given_fits;
        staged_is = λ now. ap (drop n) (was.staged_is up) ∙ sym staged;
        backed = λ now ha hb.
            let f = flown ha hb in
            record {
              rest = f.3;
              same = ap (λ (rs : List Record). was.durable ++ take n rs) (was.staged_is up) ∙ ap (λ (rs : List Record). rs ++ take n j.staged) (was.backed up f.0 f.1).same ∙ sym f.2;
            };
      }

module _ {D : Type 0} (state : D → State) (honest : D → Type 0) where
  -- the same of equal values
  same_kept : (j : View D) (l m : LedgerValue) (epoch kept kept_too horizon horizon_too : ℕ) (rising rising_too : Option ℕ) (numbers : List ℕ) (given : ℕ)
      → m ≡ l → kept_too ≡ kept → horizon_too ≡ horizon → rising_too ≡ rising → IsKept state honest j l epoch kept horizon rising numbers given → IsKept state honest j m epoch kept_too horizon_too rising_too numbers given
  same_kept j l m epoch kept kept_too horizon horizon_too rising rising_too numbers given same_ledger same_place same_horizon same_rising was =
      subst (λ (x : LedgerValue). IsKept state honest j x epoch kept_too horizon_too rising_too numbers given) (sym same_ledger)
      (subst (λ (x : ℕ). IsKept state honest j l epoch x horizon_too rising_too numbers given) (sym same_place)
      (subst (λ (x : ℕ). IsKept state honest j l epoch kept x rising_too numbers given) (sym same_horizon)
      (subst (λ (x : Option ℕ). IsKept state honest j l epoch kept horizon x numbers given) (sym same_rising) was)))

  -- The devices of a coordinator that its callers see as v are back.
  module _ (j : View (Away D)) (f k : View D) (me : Identity) (l : LedgerValue) (epoch kept horizon : ℕ) (rising : Option ℕ) (numbers : List ℕ) (given : ℕ) (flying : Flying) (v : CoordinatorView (Away D))
      (was : IsKept (lent_state state) (lent_honest honest) j l epoch kept horizon rising numbers given) (is : view_of j me epoch numbers given ≡ v) (back : k ≡ landed j f flying.sent)
      (told : v.is_down ≡ false → f.is_down ≡ false → IsToldOf (take flying.sent.count v.staged) flying) where
    module _ (up : k.is_down ≡ false) where
      both_up : (j.is_down ≡ false) × (f.is_down ≡ false)
      both_up = or_parts j.is_down f.is_down (sym (ap (λ (x : View D). x.is_down) back) ∙ up)

      view_up : v.is_down ≡ false
      view_up = sym (ap (λ (x : CoordinatorView (Away D)). x.is_down) is) ∙ both_up.0

      told_inside : IsToldOf (take flying.sent.count j.staged) flying
      told_inside = subst (λ (rs : List Record). IsToldOf (take flying.sent.count rs) flying) (sym (ap (λ (x : CoordinatorView (Away D)). x.staged) is)) (told view_up both_up.1)

      pub has_room : kept + flying.decisions ≤ l.base + length l.log
      has_room = room state honest j l epoch kept horizon rising numbers given flying was both_up.0 told_inside

      pub goes_from : horizon ≤ risen horizon flying.rising
      goes_from = rises_from state honest j l epoch kept horizon rising numbers given flying was both_up.0 told_inside

      pub goes_to : risen horizon flying.rising ≤ l.base + length l.log
      goes_to = rises_to state honest j l epoch kept horizon rising numbers given flying was both_up.0 told_inside

      pub kept_up : (m n : LedgerValue) (kept_now horizon_now : ℕ) (rests rising_now : Option ℕ) (later : ℕ) → (rising ≡ flying.rising → rests ≡ None) → ((rising ≡ flying.rising → ⊥) → rests ≡ rising)
          → m ≡ record l { base = risen horizon flying.rising; log = drop (risen horizon flying.rising - horizon) l.log } → later ≡ kept + flying.decisions → later ≤ greatest_number
          → (v.is_down ≡ false → f.is_down ≡ false → honest f.a → honest f.b → HasFlown state honest v f flying.sent.count)
          → n ≡ m → kept_now ≡ later → horizon_now ≡ risen horizon flying.rising → rising_now ≡ rests → IsKept state honest k n epoch kept_now horizon_now rising_now numbers given
      kept_up m n kept_now horizon_now rests rising_now later none some m_is later_is fits flown same_ledger same_later same_horizon same_rising =
          subst (λ (x : View D). IsKept state honest x n epoch kept_now horizon_now rising_now numbers given) (sym back)
          (same_kept (landed j f flying.sent) m n epoch (kept + flying.decisions) kept_now (risen horizon flying.rising) horizon_now rests rising_now numbers given same_ledger (same_later ∙ later_is) same_horizon same_rising
          (kept_landed state honest j l epoch kept horizon rising numbers given flying was both_up.0 told_inside (landed j f flying.sent) m rests none some m_is (subst (λ (x : ℕ). x ≤ greatest_number) later_is fits) refl
          (λ ha hb.
          let h : HasFlown state honest (view_of j me epoch numbers given) f flying.sent.count = subst (λ (x : CoordinatorView (Away D)). HasFlown state honest x f flying.sent.count) (sym is) (flown view_up both_up.1 ha hb) in
          (h.honest_a, h.honest_b, h.durable, h.rest))))

    -- if the flight went well it is up
    pub running_again : (v.is_down ≡ false → f.is_down ≡ false → honest f.a → honest f.b → HasFlown state honest v f flying.sent.count)
        → v.is_down ≡ false → f.is_down ≡ false → honest f.a → honest f.b → IsRunning state honest (view_of k me epoch numbers given)
    running_again flown up flew ha hb = subst (λ (x : View D). IsRunning state honest (view_of x me epoch numbers given)) (sym back) (record {
      honest_a = ha;
      honest_b = hb;
      up = ap (λ (down : Bool). down || f.is_down) (ap (λ (x : CoordinatorView (Away D)). x.is_down) is ∙ up) ∙ flew;
      rest = (flown up flew ha hb).rest;
    })

    pub kept_as_it_was : (n : LedgerValue) (kept_now horizon_now : ℕ) (rising_now : Option ℕ) → k.is_down ≡ true → n ≡ l → kept_now ≡ kept → horizon_now ≡ horizon → rising_now ≡ rising
        → IsKept state honest k n epoch kept_now horizon_now rising_now numbers given
    kept_as_it_was n kept_now horizon_now rising_now down same_ledger same_kept_place same_horizon same_rising =
        same_kept k l n epoch kept kept_now horizon horizon_now rising rising_now numbers given same_ledger same_kept_place same_horizon same_rising (kept_down state honest j k l epoch kept horizon rising numbers given was down)

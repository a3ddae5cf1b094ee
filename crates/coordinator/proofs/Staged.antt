-- What decisions and rising horizons make of a coordinator.
use Rattle.std.proofs.Common.{◌≡◌, ◌⊎◌, inl, inr, ⊎_elim, ◌≤◌, ◌<◌, ◌+◌, ◌++◌, ℕ, List, [], ◌∷◌, Option, None, Some, Contains, append_assoc, refl, sym, ap, ◌∙◌, subst, arith}
use Rattle.std.proofs.lemmas.List.{append-nil}
use Rattle.std.proofs.lemmas.List.Elements.{Contains-append_left, Contains-append_right, Contains-push}
use Rattle.tuples.specs.declared.entry.Entry.{Entry}
use Rattle.tuples.proofs.Lists.{first_or_later, nothing_in}
use Rattle.records.specs.declared.record.Record.{Record}
use Rattle.records.specs.declared.record.Record.TheVariants.{Decision, Dropped, Epoch, Horizon, Learned, Prepare, Checkpoint}
use Rattle.records.specs.Coordinators.{CoordinatorState, coordinator_from, coordinator_step, marked_base}
use Rattle.coordinator.specs.Keeping.{risen}
use Rattle.coordinator.specs.Staged.{AreInOrder, decided, last_horizon}

-- the decisions among them stand after those that were known
pub decided_behind : (s : CoordinatorState) (rs : List Record) → (coordinator_from s rs).log ≡ s.log ++ decided rs
unfolding coordinator_step
decided_behind s [] = sym (append-nil s.log)
decided_behind s (Prepare w ∷ rs) = decided_behind s rs
decided_behind s (Learned to placed_ids ∷ rs) = decided_behind s rs
decided_behind s (Dropped id ∷ rs) = decided_behind s rs
decided_behind s (Epoch epoch store shards node ∷ rs) = decided_behind (record s { epoch = epoch }) rs
decided_behind s (Decision place w ∷ rs) = decided_behind (record s { log = s.log ++ w ∷ [] }) rs ∙ append_assoc s.log (w ∷ []) (decided rs)
decided_behind s (Horizon place ∷ rs) = decided_behind (record s { horizon = place }) rs
decided_behind s (Checkpoint mark ∷ rs) = decided_behind (record s { base = marked_base mark s }) rs

-- the base is the same
pub base_behind : (low high : ℕ) (s : CoordinatorState) (rs : List Record) → AreInOrder low high rs → (coordinator_from s rs).base ≡ s.base
unfolding coordinator_step
base_behind low high s [] order = refl
base_behind low high s (Prepare w ∷ rs) order = absurd order
base_behind low high s (Learned to placed_ids ∷ rs) order = absurd order
base_behind low high s (Dropped id ∷ rs) order = absurd order
base_behind low high s (Epoch epoch store shards node ∷ rs) order = absurd order
base_behind low high s (Decision place w ∷ rs) order = base_behind low high (record s { log = s.log ++ w ∷ [] }) rs order
base_behind low high s (Horizon place ∷ rs) order = base_behind (place + 1) high (record s { horizon = place }) rs order.2
base_behind low high s (Checkpoint mark ∷ rs) order = absurd order

-- the horizon is the last of them
pub horizon_behind : (low : ℕ) (before : Option ℕ) (s : CoordinatorState) (rs : List Record) → s.horizon ≡ risen low before → (coordinator_from s rs).horizon ≡ risen low (last_horizon before rs)
unfolding coordinator_step
horizon_behind low before s [] is = is
horizon_behind low before s (Prepare w ∷ rs) is = horizon_behind low before s rs is
horizon_behind low before s (Learned to placed_ids ∷ rs) is = horizon_behind low before s rs is
horizon_behind low before s (Dropped id ∷ rs) is = horizon_behind low before s rs is
horizon_behind low before s (Checkpoint mark ∷ rs) is = horizon_behind low before (record s { base = marked_base mark s }) rs is
horizon_behind low before s (Epoch epoch store shards node ∷ rs) is = horizon_behind low before (record s { epoch = epoch }) rs is
horizon_behind low before s (Decision place w ∷ rs) is = horizon_behind low before (record s { log = s.log ++ w ∷ [] }) rs is
horizon_behind low before s (Horizon place ∷ rs) is = horizon_behind low (Some place) (record s { horizon = place }) rs refl

-- none of them is an opening
pub epoch_behind : (low high : ℕ) (s : CoordinatorState) (rs : List Record) → AreInOrder low high rs → (coordinator_from s rs).epoch ≡ s.epoch
unfolding coordinator_step
epoch_behind low high s [] order = refl
epoch_behind low high s (Prepare w ∷ rs) order = absurd order
epoch_behind low high s (Learned to placed_ids ∷ rs) order = absurd order
epoch_behind low high s (Dropped id ∷ rs) order = absurd order
epoch_behind low high s (Checkpoint mark ∷ rs) order = absurd order
epoch_behind low high s (Epoch epoch store shards node ∷ rs) order = absurd order
epoch_behind low high s (Decision place w ∷ rs) order = epoch_behind low high (record s { log = s.log ++ w ∷ [] }) rs order
epoch_behind low high s (Horizon place ∷ rs) order = epoch_behind (place + 1) high (record s { horizon = place }) rs order.2

pub last_of_more : (before : Option ℕ) (rs more : List Record) → last_horizon before (rs ++ more) ≡ last_horizon (last_horizon before rs) more
last_of_more before [] more = refl
last_of_more before (Prepare w ∷ rs) more = last_of_more before rs more
last_of_more before (Learned to placed_ids ∷ rs) more = last_of_more before rs more
last_of_more before (Dropped id ∷ rs) more = last_of_more before rs more
last_of_more before (Checkpoint mark ∷ rs) more = last_of_more before rs more
last_of_more before (Epoch epoch store shards node ∷ rs) more = last_of_more before rs more
last_of_more before (Decision place w ∷ rs) more = last_of_more before rs more
last_of_more before (Horizon place ∷ rs) more = last_of_more (Some place) rs more

-- the first of them
pub order_of_first : (low high : ℕ) (rs more : List Record) → AreInOrder low high (rs ++ more) → AreInOrder low high rs
order_of_first low high [] more order = tt
order_of_first low high (Prepare w ∷ rs) more order = absurd order
order_of_first low high (Learned to placed_ids ∷ rs) more order = absurd order
order_of_first low high (Dropped id ∷ rs) more order = absurd order
order_of_first low high (Checkpoint mark ∷ rs) more order = absurd order
order_of_first low high (Epoch epoch store shards node ∷ rs) more order = absurd order
order_of_first low high (Decision place w ∷ rs) more order = order_of_first low high rs more order
order_of_first low high (Horizon place ∷ rs) more order = (order.0, order.1, order_of_first (place + 1) high rs more order.2)

-- between other places
pub order_wider : (low high lower higher : ℕ) (rs : List Record) → lower ≤ low → high ≤ higher → AreInOrder low high rs → AreInOrder lower higher rs
order_wider low high lower higher [] below above order = tt
order_wider low high lower higher (Prepare w ∷ rs) below above order = absurd order
order_wider low high lower higher (Learned to placed_ids ∷ rs) below above order = absurd order
order_wider low high lower higher (Dropped id ∷ rs) below above order = absurd order
order_wider low high lower higher (Checkpoint mark ∷ rs) below above order = absurd order
order_wider low high lower higher (Epoch epoch store shards node ∷ rs) below above order = absurd order
order_wider low high lower higher (Decision place w ∷ rs) below above order = order_wider low high lower higher rs below above order
order_wider low high lower higher (Horizon place ∷ rs) below above order =
    (omega (arith, below, order.0), omega (arith, above, order.1), order_wider (place + 1) high (place + 1) higher rs (omega arith) above order.2)

-- after a horizon below them there is a last one, which is no lower
rises_on : (low high place : ℕ) (rs : List Record) → place < low → AreInOrder low high rs → (r : ℕ) × (last_horizon (Some place) rs ≡ Some r) × (place ≤ r)
rises_on low high place [] lt order = (place, refl, omega arith)
rises_on low high place (Prepare w ∷ rs) lt order = absurd order
rises_on low high place (Learned to placed_ids ∷ rs) lt order = absurd order
rises_on low high place (Dropped id ∷ rs) lt order = absurd order
rises_on low high place (Checkpoint mark ∷ rs) lt order = absurd order
rises_on low high place (Epoch epoch store shards node ∷ rs) lt order = absurd order
rises_on low high place (Decision p w ∷ rs) lt order = rises_on low high place rs lt order
rises_on low high place (Horizon p ∷ rs) lt order =
    let rest = rises_on (p + 1) high p rs (omega arith) order.2 in
    let le = rest.2 in
    let on = order.0 in
    (rest.0, rest.1, omega (arith, lt, on, le))

-- each of them is at most the last
at_most_last : (low high : ℕ) (before : Option ℕ) (rs : List Record) (x : ℕ) → AreInOrder low high rs → Contains rs (Horizon x) → (r : ℕ) × (last_horizon before rs ≡ Some r) × (x ≤ r)
at_most_last low high before [] x order there = absurd (nothing_in (Horizon x) there)
at_most_last low high before (Prepare w ∷ rs) x order there = absurd order
at_most_last low high before (Learned to placed_ids ∷ rs) x order there = absurd order
at_most_last low high before (Dropped id ∷ rs) x order there = absurd order
at_most_last low high before (Checkpoint mark ∷ rs) x order there = absurd order
at_most_last low high before (Epoch epoch store shards node ∷ rs) x order there = absurd order
at_most_last low high before (Decision place w ∷ rs) x order there =
    ⊎_elim (λ is. absurd cc) (λ later. at_most_last low high before rs x order later) (first_or_later (Decision place w) (Horizon x) rs there)
at_most_last low high before (Horizon place ∷ rs) x order there = ⊎_elim
    (λ is. let same : place ≡ x = cc in let rest = rises_on (place + 1) high place rs (omega arith) order.2 in let le = rest.2 in (rest.0, rest.1, omega (arith, same, le)))
    (λ later. at_most_last (place + 1) high (Some place) rs x order.2 later)
    (first_or_later (Horizon place) (Horizon x) rs there)

-- none of them is so high
pub none_so_high : (low high : ℕ) (rs : List Record) (rising : Option ℕ) (place : ℕ) → AreInOrder low high rs → rising ≡ last_horizon None rs → ((r : ℕ) → rising ≡ Some r → r < place)
    → ((x : ℕ) × Contains rs (Horizon x) × (place ≤ x)) → ⊥
none_so_high low high rs rising place order last lower there =
    let one = at_most_last low high None rs there.0 order there.1 in
    let lt = lower one.0 (last ∙ one.1) in
    let le = there.2 in
    let up = one.2 in
    omega (arith, lt, le, up)

behind_first : (before : Option ℕ) (x : Record) (rs : List Record) (r : ℕ) → (before ≡ Some r) ⊎ Contains rs (Horizon r) → (before ≡ Some r) ⊎ Contains (x ∷ rs) (Horizon r)
behind_first before x rs r there = ⊎_elim (λ same. inl same) (λ later. inr (Contains-append_right (x ∷ []) rs (Horizon r) later)) there

-- the last of them is one of them
pub last_there : (before : Option ℕ) (rs : List Record) (r : ℕ) → last_horizon before rs ≡ Some r → (before ≡ Some r) ⊎ Contains rs (Horizon r)
last_there before [] r is = inl is
last_there before (Prepare w ∷ rs) r is = behind_first before (Prepare w) rs r (last_there before rs r is)
last_there before (Learned to placed_ids ∷ rs) r is = behind_first before (Learned to placed_ids) rs r (last_there before rs r is)
last_there before (Dropped id ∷ rs) r is = behind_first before (Dropped id) rs r (last_there before rs r is)
last_there before (Checkpoint mark ∷ rs) r is = behind_first before (Checkpoint mark) rs r (last_there before rs r is)
last_there before (Epoch epoch store shards node ∷ rs) r is = behind_first before (Epoch epoch store shards node) rs r (last_there before rs r is)
last_there before (Decision place w ∷ rs) r is = behind_first before (Decision place w) rs r (last_there before rs r is)
last_there before (Horizon place ∷ rs) r is = ⊎_elim
    (λ same. inr (subst (λ (h : ℕ). Contains (Horizon place ∷ rs) (Horizon h)) (let e : place ≡ r = cc in e) (Contains-append_left (Horizon place ∷ []) rs (Horizon place) (Contains-push [] (Horizon place)))))
    (λ later. inr (Contains-append_right (Horizon place ∷ []) rs (Horizon r) later))
    (last_there (Some place) rs r is)

pub rising_there : (rs : List Record) (rising : Option ℕ) (r : ℕ) → rising ≡ last_horizon None rs → rising ≡ Some r → Contains rs (Horizon r)
rising_there rs rising r last is = ⊎_elim (λ none. absurd cc) (λ there. there) (last_there None rs r (sym last ∙ is))

-- one decision more
pub order_decided : (low high place : ℕ) (w : Entry) (rs : List Record) → AreInOrder low high rs → AreInOrder low high (rs ++ Decision place w ∷ [])
order_decided low high place w [] order = tt
order_decided low high place w (Prepare v ∷ rs) order = absurd order
order_decided low high place w (Learned to placed_ids ∷ rs) order = absurd order
order_decided low high place w (Dropped id ∷ rs) order = absurd order
order_decided low high place w (Checkpoint mark ∷ rs) order = absurd order
order_decided low high place w (Epoch epoch store shards node ∷ rs) order = absurd order
order_decided low high place w (Decision p v ∷ rs) order = order_decided low high place w rs order
order_decided low high place w (Horizon p ∷ rs) order = (order.0, order.1, order_decided (p + 1) high place w rs order.2)

-- one horizon more, that is above each of them
pub order_raised : (low high place : ℕ) (before : Option ℕ) (rs : List Record) → low ≤ place → place ≤ high → ((r : ℕ) → last_horizon before rs ≡ Some r → r < place) → AreInOrder low high rs
    → AreInOrder low high (rs ++ Horizon place ∷ [])
order_raised low high place before [] le within below order = (le, within, tt)
order_raised low high place before (Prepare v ∷ rs) le within below order = absurd order
order_raised low high place before (Learned to placed_ids ∷ rs) le within below order = absurd order
order_raised low high place before (Dropped id ∷ rs) le within below order = absurd order
order_raised low high place before (Checkpoint mark ∷ rs) le within below order = absurd order
order_raised low high place before (Epoch epoch store shards node ∷ rs) le within below order = absurd order
order_raised low high place before (Decision p v ∷ rs) le within below order = order_raised low high place before rs le within below order
order_raised low high place before (Horizon p ∷ rs) le within below order =
    let rest = rises_on (p + 1) high p rs (omega arith) order.2 in
    let lt = below rest.0 rest.1 in
    let up = rest.2 in
    (order.0, order.1, order_raised (p + 1) high place (Some p) rs (omega (arith, lt, up)) within below order.2)

-- the last horizon so far lies from a first place up to a last, below the next
abbrev pub Lies : ℕ → ℕ → ℕ → Option ℕ → Type 0
Lies first next high None = Unit {0}
Lies first next high (Some place) = (first ≤ place) × (place < next) × (place ≤ high)

pub lies_on : (first next high : ℕ) (o : Option ℕ) → Lies first next high o → first ≤ risen first o
lies_on first next high None lies = omega arith
lies_on first next high (Some place) lies = lies.0

pub lies_below : (first next high : ℕ) (o : Option ℕ) → first ≤ next → Lies first next high o → risen first o ≤ next
lies_below first next high None le lies = le
lies_below first next high (Some place) le lies = let lt = lies.1 in omega (arith, lt)

pub lies_within : (first next high : ℕ) (o : Option ℕ) → first ≤ high → Lies first next high o → risen first o ≤ high
lies_within first next high None le lies = le
lies_within first next high (Some place) le lies = lies.2

lies_apart : (first next high r : ℕ) (o : Option ℕ) → Lies first next high o → next ≤ r → Some r ≡ o → ⊥
lies_apart first next high r None lies le is = absurd cc
lies_apart first next high r (Some place) lies le is = let lt = lies.1 in let same : r ≡ place = cc in omega (arith, lt, le, same)

-- what comes after the first of them
pub record GoesOn (first low high : ℕ) (flown : Option ℕ) (more : List Record) : Type 0 where
  pub next : ℕ
  pub up : low ≤ next
  pub order : AreInOrder next high more
  pub lies : Lies first next high flown

pub in_two : (first low high : ℕ) (before : Option ℕ) (rs more : List Record) → first ≤ low → AreInOrder low high (rs ++ more) → Lies first low high before → GoesOn first low high (last_horizon before rs) more
in_two first low high before [] more le order lies = record { next = low; up = omega arith; order = order; lies = lies }
in_two first low high before (Prepare w ∷ rs) more le order lies = absurd order
in_two first low high before (Learned to placed_ids ∷ rs) more le order lies = absurd order
in_two first low high before (Dropped id ∷ rs) more le order lies = absurd order
in_two first low high before (Checkpoint mark ∷ rs) more le order lies = absurd order
in_two first low high before (Epoch epoch store shards node ∷ rs) more le order lies = absurd order
in_two first low high before (Decision place w ∷ rs) more le order lies = in_two first low high before rs more le order lies
in_two first low high before (Horizon place ∷ rs) more le order lies =
    let on = order.0 in
    let rest = in_two first (place + 1) high (Some place) rs more (omega (arith, le, on)) order.2 (omega (arith, le, on), omega arith, order.1) in
    let up = rest.up in
    record { next = rest.next; up = omega (arith, on, up); order = rest.order; lies = rest.lies }

-- of what comes after a horizon, the last one is that horizon, or one above it
last_or_before : (low high : ℕ) (before : Option ℕ) (rs : List Record) → AreInOrder low high rs
    → ((last_horizon before rs ≡ before) × (last_horizon None rs ≡ None)) ⊎ ((r : ℕ) × (last_horizon before rs ≡ Some r) × (last_horizon None rs ≡ Some r) × (low ≤ r))
last_or_before low high before [] order = inl (refl, refl)
last_or_before low high before (Prepare w ∷ rs) order = absurd order
last_or_before low high before (Learned to placed_ids ∷ rs) order = absurd order
last_or_before low high before (Dropped id ∷ rs) order = absurd order
last_or_before low high before (Checkpoint mark ∷ rs) order = absurd order
last_or_before low high before (Epoch epoch store shards node ∷ rs) order = absurd order
last_or_before low high before (Decision place w ∷ rs) order = last_or_before low high before rs order
last_or_before low high before (Horizon place ∷ rs) order =
    let rest = rises_on (place + 1) high place rs (omega arith) order.2 in
    let le = rest.2 in
    let on = order.0 in
    inr (rest.0, rest.1, rest.1, omega (arith, on, le))

-- The horizon that is left rising if the first of what is staged is durable.
module _ (first low high : ℕ) (flown rising left : Option ℕ) (more : List Record) (le : first ≤ low) (on : GoesOn first low high flown more) (last : rising ≡ last_horizon flown more) where
  cases : ((last_horizon flown more ≡ flown) × (last_horizon None more ≡ None)) ⊎ ((r : ℕ) × (last_horizon flown more ≡ Some r) × (last_horizon None more ≡ Some r) × (on.next ≤ r))
  cases = last_or_before on.next high flown more on.order

  pub left_is : (rising ≡ flown → left ≡ None) → ((rising ≡ flown → ⊥) → left ≡ rising) → left ≡ last_horizon None more
  left_is none some = ⊎_elim
      (λ same. none (last ∙ same.0) ∙ sym same.1)
      (λ new. some (λ is. lies_apart first on.next high new.0 flown on.lies new.3 (sym (last ∙ new.1) ∙ is)) ∙ last ∙ new.1 ∙ sym new.2)
      cases

  pub risen_twice : left ≡ last_horizon None more → risen first rising ≡ risen (risen first flown) left
  risen_twice is = ⊎_elim
      (λ same. ap (risen first) (last ∙ same.0) ∙ ap (risen (risen first flown)) (sym (is ∙ same.1)))
      (λ new. ap (risen first) (last ∙ new.1) ∙ ap (risen (risen first flown)) (sym (is ∙ new.2)))
      cases

  pub rises_still : risen first flown ≤ risen first rising
  rises_still = ⊎_elim
      (λ same. let is = ap (risen first) (last ∙ same.0) in omega (arith, is))
      (λ new. let is : risen first rising ≡ new.0 = ap (risen first) (last ∙ new.1) in let b = lies_below first on.next high flown (let u = on.up in omega (arith, le, u)) on.lies in let r = new.3 in omega (arith, is, b, r))
      cases

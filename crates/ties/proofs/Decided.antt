-- What records add to what a coordinator knows.
use Rattle.std.proofs.Common.{◌≡◌, ℕ, ◌≤◌, ◌<◌, List, [], ◌∷◌, ◌++◌, Contains, refl, sym, ap, subst, arith}
use Rattle.std.proofs.lemmas.List.{append-nil}
use Rattle.std.proofs.lemmas.List.Elements.{Contains-append_left, Contains-append_right, Contains-push}
use Rattle.ties.proofs.Words.{AreStaged, coordinator_from, CoordinatorState, Decision, Dropped, Entry, Epoch, Horizon, Learned, Prepare, Record}
use Rattle.records.specs.declared.record.Record.TheVariants.{Checkpoint}
use Rattle.records.specs.Coordinators.{coordinator_step}
use Rattle.coordinator.specs.Staged.{decided}

pub decided-append : (rs more : List Record) → decided (rs ++ more) ≡ decided rs ++ decided more
decided-append [] more = refl
decided-append (Prepare w ∷ rs) more = decided-append rs more
decided-append (Learned to placed_ids ∷ rs) more = decided-append rs more
decided-append (Dropped id ∷ rs) more = decided-append rs more
decided-append (Checkpoint mark ∷ rs) more = decided-append rs more
decided-append (Epoch epoch store shards node ∷ rs) more = decided-append rs more
decided-append (Decision place w ∷ rs) more = ap (λ (l : List Entry). w ∷ l) (decided-append rs more)
decided-append (Horizon place ∷ rs) more = decided-append rs more

-- the base is the same after the beginning of what is staged
pub base_behind : (low high : ℕ) (s : CoordinatorState) (rs more : List Record) → AreStaged low high (rs ++ more) → (coordinator_from s rs).base ≡ s.base
unfolding coordinator_step
base_behind low high s [] more staged = refl
base_behind low high s (Prepare w ∷ rs) more staged = absurd staged
base_behind low high s (Learned to placed_ids ∷ rs) more staged = absurd staged
base_behind low high s (Dropped id ∷ rs) more staged = absurd staged
base_behind low high s (Epoch epoch store shards node ∷ rs) more staged = absurd staged
base_behind low high s (Decision place w ∷ rs) more staged = base_behind low high (record s { log = s.log ++ w ∷ [] }) rs more staged
base_behind low high s (Horizon place ∷ rs) more staged = base_behind place high (record s { horizon = place }) rs more staged.1
base_behind low high s (Checkpoint mark ∷ rs) more staged = absurd staged

-- and after all of it
pub base_staged : (low high : ℕ) (s : CoordinatorState) (rs : List Record) → AreStaged low high rs → (coordinator_from s rs).base ≡ s.base
base_staged low high s rs staged = base_behind low high s rs [] (subst (AreStaged low high) (sym (append-nil rs)) staged)

-- What is staged, in two parts: the first raise the horizon to a place that the rest rise from, and the epoch is the same.
pub staged_in_two : (s : CoordinatorState) (high : ℕ) (rs more : List Record) → AreStaged s.horizon high (rs ++ more)
    → (s.horizon ≤ (coordinator_from s rs).horizon) × AreStaged (coordinator_from s rs).horizon high more × ((coordinator_from s rs).epoch ≡ s.epoch)
unfolding coordinator_step
staged_in_two s high [] more staged = (omega arith, staged, refl)
staged_in_two s high (Prepare w ∷ rs) more staged = absurd staged
staged_in_two s high (Learned to placed_ids ∷ rs) more staged = absurd staged
staged_in_two s high (Dropped id ∷ rs) more staged = absurd staged
staged_in_two s high (Checkpoint mark ∷ rs) more staged = absurd staged
staged_in_two s high (Epoch epoch store shards node ∷ rs) more staged = absurd staged
staged_in_two s high (Decision place w ∷ rs) more staged = staged_in_two (record s { log = s.log ++ w ∷ [] }) high rs more staged
staged_in_two s high (Horizon place ∷ rs) more staged =
    let rest = staged_in_two (record s { horizon = place }) high rs more staged.1 in
    (omega (arith, staged.0, rest.0), rest.1, rest.2)

-- all of it
pub staged_whole : (s : CoordinatorState) (high : ℕ) (rs : List Record) → AreStaged s.horizon high rs
    → (s.horizon ≤ (coordinator_from s rs).horizon) × ((coordinator_from s rs).horizon ≤ high) × ((coordinator_from s rs).epoch ≡ s.epoch)
staged_whole s high rs staged =
    let parts = staged_in_two s high rs [] (subst (AreStaged s.horizon high) (sym (append-nil rs)) staged) in
    (parts.0, parts.1, parts.2)

-- up to a higher place
pub staged_higher : (low high higher : ℕ) (rs : List Record) → high ≤ higher → AreStaged low high rs → AreStaged low higher rs
staged_higher low high higher [] le staged = omega (arith, le, staged)
staged_higher low high higher (Prepare w ∷ rs) le staged = absurd staged
staged_higher low high higher (Learned to placed_ids ∷ rs) le staged = absurd staged
staged_higher low high higher (Dropped id ∷ rs) le staged = absurd staged
staged_higher low high higher (Checkpoint mark ∷ rs) le staged = absurd staged
staged_higher low high higher (Epoch epoch store shards node ∷ rs) le staged = absurd staged
staged_higher low high higher (Decision place w ∷ rs) le staged = staged_higher low high higher rs le staged
staged_higher low high higher (Horizon place ∷ rs) le staged = (staged.0, staged_higher place high higher rs le staged.1)

-- one more decision
pub staged_decision : (low high place : ℕ) (w : Entry) (rs : List Record) → AreStaged low high rs → AreStaged low high (rs ++ Decision place w ∷ [])
staged_decision low high place w [] staged = staged
staged_decision low high place w (Prepare v ∷ rs) staged = absurd staged
staged_decision low high place w (Learned to placed_ids ∷ rs) staged = absurd staged
staged_decision low high place w (Dropped id ∷ rs) staged = absurd staged
staged_decision low high place w (Checkpoint mark ∷ rs) staged = absurd staged
staged_decision low high place w (Epoch epoch store shards node ∷ rs) staged = absurd staged
staged_decision low high place w (Decision p v ∷ rs) staged = staged_decision low high place w rs staged
staged_decision low high place w (Horizon p ∷ rs) staged = (staged.0, staged_decision p high place w rs staged.1)

first_too : (place : ℕ) (r : Record) (rs : List Record) → ((x : ℕ) → Contains (r ∷ rs) (Horizon x) → x < place) → (x : ℕ) → Contains rs (Horizon x) → x < place
first_too place r rs below x there = below x (Contains-append_right (r ∷ []) rs (Horizon x) there)

-- one more horizon, above each of them
pub staged_horizon : (low high place : ℕ) (rs : List Record) → low ≤ place → place ≤ high → ((x : ℕ) → Contains rs (Horizon x) → x < place) → AreStaged low high rs → AreStaged low high (rs ++ Horizon place ∷ [])
staged_horizon low high place [] le within below staged = (le, within)
staged_horizon low high place (Prepare v ∷ rs) le within below staged = absurd staged
staged_horizon low high place (Learned to placed_ids ∷ rs) le within below staged = absurd staged
staged_horizon low high place (Dropped id ∷ rs) le within below staged = absurd staged
staged_horizon low high place (Checkpoint mark ∷ rs) le within below staged = absurd staged
staged_horizon low high place (Epoch epoch store shards node ∷ rs) le within below staged = absurd staged
staged_horizon low high place (Decision p v ∷ rs) le within below staged = staged_horizon low high place rs le within (first_too place (Decision p v) rs below) staged
staged_horizon low high place (Horizon p ∷ rs) le within below staged = (
  staged.0,
  staged_horizon p high place rs (let lt = below p (Contains-append_left (Horizon p ∷ []) rs (Horizon p) (Contains-push [] (Horizon p))) in omega (arith, lt)) within (first_too place (Horizon p) rs below) staged.1,
)

-- they rise at most to that place
pub staged_within : (low high : ℕ) (rs : List Record) → AreStaged low high rs → low ≤ high
staged_within low high [] staged = staged
staged_within low high (Prepare w ∷ rs) staged = absurd staged
staged_within low high (Learned to placed_ids ∷ rs) staged = absurd staged
staged_within low high (Dropped id ∷ rs) staged = absurd staged
staged_within low high (Checkpoint mark ∷ rs) staged = absurd staged
staged_within low high (Epoch epoch store shards node ∷ rs) staged = absurd staged
staged_within low high (Decision place w ∷ rs) staged = staged_within low high rs staged
staged_within low high (Horizon place ∷ rs) staged = let rest = staged_within place high rs staged.1 in omega (arith, staged.0, rest)

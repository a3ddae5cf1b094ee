-- A call of the coordinator that changes its memory, and no device.
use Rattle.std.proofs.Common.{◌≡◌, ◌≢◌, ◌⊎◌, ◌==◌, ℕ, Bool, true, false, List, [], ◌∷◌, Contains, refl, sym, ◌∙◌, ap, if◌then◌else◌}
use Rattle.std.proofs.lemmas.Bool.{eq-eqb}
use Rattle.flow_turns.proofs.WriteWords.{CoordinatorView, IsCalled, IsHorizonIn, IsMade, IsSeen, Machine, Moment, NamesHorizon, NodeName, Nodes, Record, Running, StandsOver, State, Store, WriteId, coordinator, devices_of, down, ended, fails_by, inside_by, is_seen, left, replaced, same_devices, shard, shows_nodes, still_given, still_named, still_sound, still_within, stops, up}
use Rattle.calls.specs.Views as views
use Rattle.stores.specs.Stores.{ShowsNodes}

module _ {D : Type 0} (state : D → State) (honest : D → Type 0) (moment : D → ℕ) (left_since : D → ℕ → List ℕ → Type 0)
    (only_now : (d : D) (c : List ℕ) → honest d → left_since d (moment d) c → left (state d) c)
    (store shards : ℕ) (old new : Store D) (now : Moment) (standing : StandsOver state honest store shards old now)
    (x y : CoordinatorView D) (called : IsCalled state honest moment left_since store shards coordinator (views.coordinator x) (views.coordinator y) old new) (is_up : x.is_down ≡ false)
    (staged : List Record) (ids : List WriteId) (given : ℕ) (same : y ≡ record x { staged = staged; open_ids = ids; given = given }) where
  pub devices : new.devices ≡ old.devices
  devices = same_devices state honest moment left_since store shards old new now standing coordinator (views.coordinator x) (views.coordinator y) called (ap (λ (z : CoordinatorView D). devices_of (views.coordinator z)) same)

  y_up : y.is_down ≡ false
  y_up = ap (λ (z : CoordinatorView D). z.is_down) same ∙ is_up

  module _ (next : Nodes) (seen : IsSeen next y) (others : (t : ℕ) → next.at (shard t) ≡ now.nodes.at (shard t)) where
    others_stay : (n : NodeName) → n ≢ coordinator → next.at n ≡ now.nodes.at n
    others_stay coordinator ne = absurd (ne refl)
    others_stay (shard t) ne = others t

    shows : ShowsNodes next new
    shows = shows_nodes state honest moment left_since store shards old new now standing coordinator (views.coordinator x) (views.coordinator y) called next
        (record { others = others_stay; open_writes = λ ne. absurd (ne refl); given = λ ne. absurd (ne refl) })
        (seen.at ∙ sym (ap (λ b. if b then down else up y.durable y.staged) y_up))
        (seen.open_writes ∙ sym called.after.memory.0) (seen.given ∙ sym called.after.memory.1)

    -- what is known of the store after it, if no horizon is new
    pub made : (m : Machine) → ((h : ℕ) → IsHorizonIn store shards (stops state honest store shards new.devices) next h → Contains now.named h ⊎ NamesHorizon state honest store shards old now h)
        → IsMade state honest moment left_since store shards old new now next m
    made m named = record {
      sound = still_sound state honest moment left_since store shards old new now standing only_now devices;
      nodes = shows;
      named = named;
      fails = fails_by state honest moment left_since store shards old new now standing coordinator (views.coordinator x) (views.coordinator y) called next shows;
      inside = inside_by state honest moment left_since store shards old new now standing (still_within state honest moment left_since store shards old new now standing only_now devices) m;
      given = still_given state honest moment left_since store shards old new now standing devices;
    }

    -- a call that stages nothing
    pub still_made_of : staged ≡ x.staged → IsMade state honest moment left_since store shards old new now next now.machine
    still_made_of none = made now.machine (still_named state honest moment left_since store shards old new now standing only_now devices next
        (seen.at ∙ ap (λ (z : CoordinatorView D). up z.durable z.staged) same ∙ ap (λ (l : List Record). up x.durable l) none ∙ sym (is_seen state honest store shards old now standing x called.before is_up).at))

-- a flow that went on and then ends has ended
pub ends_anyway : (k : Running) (rs : List Running) → ended k.slot (replaced k rs) ≡ ended k.slot rs
ends_anyway k [] = refl
ends_anyway k (q ∷ rs) = by_test (q.slot == k.slot) refl (ends_anyway k rs)
  where
    own : (k.slot == k.slot) ≡ true
    own = eq-eqb k.slot k.slot refl

    by_test : (b : Bool) → (q.slot == k.slot) ≡ b → ended k.slot (replaced k rs) ≡ ended k.slot rs → ended k.slot (replaced k (q ∷ rs)) ≡ ended k.slot (q ∷ rs)
    by_test true is rest = ap (λ (c : Bool). ended k.slot (if c then k ∷ rs else q ∷ replaced k rs)) is
        ∙ ap (λ (c : Bool). if c then rs else k ∷ ended k.slot rs) own
        ∙ sym (ap (λ (c : Bool). if c then rs else q ∷ ended k.slot rs) is)
    by_test false is rest = ap (λ (c : Bool). ended k.slot (if c then k ∷ rs else q ∷ replaced k rs)) is
        ∙ ap (λ (c : Bool). if c then replaced k rs else q ∷ ended k.slot (replaced k rs)) is
        ∙ ap (λ (l : List Running). q ∷ l) rest
        ∙ sym (ap (λ (c : Bool). if c then rs else q ∷ ended k.slot rs) is)

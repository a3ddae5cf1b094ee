-- A script that is set on a device of a world changes nothing that a store stands for: the device holds what it held, and is as honest as before.
use Rattle.std.proofs.Common.{◌≡◌, ◌≢◌, ⊎_elim, ℕ, List, length, Option, Some, None, MatchOption, refl, sym, ◌∙◌, ap, subst, if◌then◌else◌}
use Rattle.std.proofs.Math.Path.{fun_ext}
use Rattle.std.proofs.lemmas.List.{length-set}
use Rattle.headline.proofs.Words.{Bank, Finds, IsHorizonIn, IsNamed, IsNode, IsThere, Moment, NamesHorizon, NodeName, NodeView, Record, Shows, ShowsMemory, Stands, StandsOver, State, Store, Tear, WorldView, coordinator, devices_of, down, index_of, left, named, node_at, refused, shard, shown, stops, up}
use Rattle.device.specs.Device.{Keeps}
use Rattle.device.proofs.States.{kept_left}
use Rattle.calls.specs.Failing.{DevicesAreSet, NodeIsSet}
use Rattle.calls.specs.Views as views
use Rattle.names.specs.declared.node_name.NodeName.TheVariants.{Coordinator, Shard}
use Rattle.cluster.specs.Nodes.{IsSetIn}
use Rattle.headline.specs.DeviceScripts.{ScriptsKeep, StandsAsBefore}
use Rattle.headline.proofs.Behind.{behind, same_at, same_devices, shows_node}
use Rattle.headline.proofs.Nodes.{IsPut, is_put}
use Rattle.headline.proofs.Memory.{same_memory}
use Rattle.turns.proofs.QuietTurns.{is_same_node}

-- a stop may leave the same of two devices that hold the same
same_found : (a b x y : State) → Keeps a x → Keeps b y → Finds (left x) (left y) ≡ Finds (left a) (left b)
same_found a b x y in_a in_b =
    ap (λ (d : List ℕ). Finds (left (record x { durable = d })) (left y)) in_a.durable
    ∙ ap (λ (w : List (ℕ × ℕ)). Finds (left (record x { durable = a.durable; written = w })) (left y)) in_a.written
    ∙ ap (λ (d : List ℕ). Finds (left a) (left (record y { durable = d }))) in_b.durable
    ∙ ap (λ (w : List (ℕ × ℕ)). Finds (left a) (left (record y { durable = b.durable; written = w }))) in_b.written

module _ {D : Type 0} (set : D → ℕ → Tear → Type 0) (state : D → State) (honest : D → Type 0) (moment : D → ℕ) (left_since : D → ℕ → List ℕ → Type 0) (bank : Bank) (k : ℕ) (tear : Tear) where
  abbrev IsSet : NodeView D → NodeView D → Type 0
  IsSet = NodeIsSet set state honest moment left_since bank k tear

  abbrev AreSet : D × D → D × D → Type 0
  AreSet old new = DevicesAreSet set state honest moment left_since bank k tear old.0 old.1 new.0 new.1

  -- what the script leaves of a node: its devices, its name, what it shows over devices that are honest, and what lies in its memory alone
  devices_set : (v w : NodeView D) → IsSet v w → AreSet (devices_of v) (devices_of w)
  devices_set (views.coordinator v) (views.coordinator w) is = is.devices
  devices_set (views.shard v) (views.shard w) is = is.devices
  devices_set (views.refused e a b) (views.refused f x y) is = is.1
  devices_set v w is = absurd is

  same_name : (store shards : ℕ) (n : NodeName) (v w : NodeView D) → IsSet v w → IsNamed store shards v n → IsNamed store shards w n
  same_name store shards coordinator (views.coordinator v) (views.coordinator w) is name = is.keeps.me ∙ name
  same_name store shards (shard s) (views.coordinator v) (views.coordinator w) is name = absurd name
  same_name store shards coordinator (views.shard v) (views.shard w) is name = absurd name
  same_name store shards (shard s) (views.shard v) (views.shard w) is name = is.staged.3 ∙ name
  same_name store shards n (views.refused e a b) (views.refused f x y) is name = tt
  same_name store shards n v w is name = absurd is

  same_shown : (v w : NodeView D) → IsSet v w → honest (devices_of v).0 → honest (devices_of v).1 → shown w ≡ shown v
  same_shown (views.coordinator v) (views.coordinator w) is in_a in_b =
      ap (λ b. if b then down else up w.durable w.staged) is.staged.1 ∙ ap (λ (rs : List Record). if v.is_down then down else up rs w.staged) (is.durable in_a in_b)
      ∙ ap (λ (rs : List Record). if v.is_down then down else up v.durable rs) is.staged.0
  same_shown (views.shard v) (views.shard w) is in_a in_b =
      ap (λ b. if b then down else up w.durable w.staged) is.staged.1 ∙ ap (λ (rs : List Record). if v.is_down then down else up rs w.staged) (is.durable in_a in_b)
      ∙ ap (λ (rs : List Record). if v.is_down then down else up v.durable rs) is.staged.0
  same_shown (views.refused e a b) (views.refused f x y) is in_a in_b = ap refused is.0
  same_shown v w is in_a in_b = absurd is

  remembers : (v w : NodeView D) (s : Store D) → IsSet v w → ShowsMemory v s → ShowsMemory w s
  remembers (views.coordinator v) (views.coordinator w) s is shows = (shows.0 ∙ sym is.keeps.open_ids, shows.1 ∙ sym is.keeps.given)
  remembers (views.shard v) (views.shard w) s is shows = tt
  remembers (views.refused e a b) (views.refused f x y) s is shows = tt
  remembers v w s is shows = absurd is

  -- The node of this name has the script.
  module _ (old : WorldView D) (s : Store D) (shows : Shows old s) (n : NodeName) (was : NodeView D) (at : node_at old.nodes (named n) ≡ Some was) (nodes : List (NodeView D))
      (is_set : IsSetIn set state honest moment left_since bank k tear old.nodes (named n) was nodes) where
    abbrev is : NodeView D
    is = is_set.is

    -- the nodes as they then are; of what lies in memory alone nothing has changed
    abbrev later : Store D
    later = record (behind nodes s.flows s) { open_ids = s.open_ids; given = s.given }

    abbrev Stand : Store D → Moment → Type 0
    Stand = StandsOver state honest old.store old.shards

    before : IsNode old.store old.shards s n was
    before = shows.nodes n was at

    put : IsPut old.nodes n is nodes
    put = is_put old.shards old.nodes nodes n is shows.count before.there is_set.new_is

    shown_later : (m : NodeName) (v : NodeView D) → node_at nodes (named m) ≡ Some v → IsThere old.shards m → IsNamed old.store old.shards v m → ShowsMemory v s → IsNode old.store old.shards later m v
    shown_later m v is_v there name memory =
        let node = shows_node old.store old.shards nodes s.flows s m v is_v there name in
        record { there = there; named = name; devices = node.devices; at = node.at; memory = same_memory v s later refl refl memory }

    after : IsNode old.store old.shards later n is
    after = shown_later n is put.here before.there (same_name old.store old.shards n was is is_set.is_set before.named) (remembers was is s is_set.is_set before.memory)

    nodes_shown : (m : NodeName) (v : NodeView D) → node_at nodes (named m) ≡ Some v → IsNode old.store old.shards later m v
    nodes_shown m v is_v = ⊎_elim
        (λ same.
        let same_v : is ≡ v = (let both : Some is ≡ Some v = sym put.here ∙ ap (λ (l : NodeName). node_at nodes (named l)) (sym same) ∙ is_v in cc) in
        subst (λ (l : NodeName). IsNode old.store old.shards later l v) (sym same) (subst (λ (x : NodeView D). IsNode old.store old.shards later n x) same_v after))
        (λ ne. let node = shows.nodes m v (sym (put.others m ne) ∙ is_v) in shown_later m v is_v node.there node.named node.memory)
        (is_same_node m n)

    shows_later : Shows (record old { nodes = nodes }) later
    shows_later = record {
      some = shows.some;
      count = ap (λ (ns : List (NodeView D)). length ns) is_set.new_is ∙ length-set old.nodes (index_of (named n)) is ∙ shows.count;
      nodes = nodes_shown;
      flows = shows.flows;
    }

    other_devices : (m : NodeName) → m ≢ n → later.devices m ≡ s.devices m
    other_devices m ne = same_devices old.store old.shards nodes s.flows s m (node_at old.nodes (named m)) (put.others m ne) (λ v is_v. shows.nodes m v is_v)

    other_at : (m : NodeName) → m ≢ n → later.at m ≡ s.at m
    other_at m ne = same_at old.store old.shards nodes s.flows s m (node_at old.nodes (named m)) (put.others m ne) (λ v is_v. shows.nodes m v is_v)

    -- if each device that the store has is honest, a stop may leave of each node what it could leave before
    module _ (now : Moment) (standing : Stand s now) where
      abbrev stops_of : (NodeName → D × D) → NodeName → List Record → Type 0
      stops_of = stops state honest old.store old.shards

      honest_a : honest (devices_of was).0
      honest_a = subst (λ (p : D × D). honest p.0) before.devices (standing.sound.honest_a n before.there)

      honest_b : honest (devices_of was).1
      honest_b = subst (λ (p : D × D). honest p.1) before.devices (standing.sound.honest_b n before.there)

      set_is : AreSet (devices_of was) (devices_of is)
      set_is = devices_set was is is_set.is_set

      abbrev found_of : D × D → List Record → Type 0
      found_of p = Finds (left (state p.0)) (left (state p.1))

      here_stops : stops_of later.devices n ≡ stops_of s.devices n
      here_stops = ap found_of after.devices
          ∙ same_found (state (devices_of was).0) (state (devices_of was).1) (state (devices_of is).0) (state (devices_of is).1) (set_is.keeps_a honest_a) (set_is.keeps_b honest_b)
          ∙ ap found_of (sym before.devices)

      same_stops : stops_of later.devices ≡ stops_of s.devices
      same_stops = fun_ext (λ m. ⊎_elim
          (λ here. subst (λ (l : NodeName). stops_of later.devices l ≡ stops_of s.devices l) (sym here) here_stops)
          (λ other. ap found_of (other_devices m other))
          (is_same_node m n))

      abbrev IsWithin : D × D → D × D → Type 0
      IsWithin p q = ((c : List ℕ) → left (state p.0) c → left (state q.0) c) × ((c : List ℕ) → left (state p.1) c → left (state q.1) c)

      here_within : IsWithin (devices_of is) (devices_of was)
      here_within = (
        kept_left (state (devices_of was).0) (state (devices_of is).0) (set_is.keeps_a honest_a),
        kept_left (state (devices_of was).1) (state (devices_of is).1) (set_is.keeps_b honest_b),
      )

      within : (m : NodeName) → IsWithin (later.devices m) (s.devices m)
      within m = ⊎_elim
          (λ here. subst (λ (l : NodeName). IsWithin (later.devices l) (s.devices l)) (sym here)
          (subst (λ (p : D × D). IsWithin p (s.devices n)) (sym after.devices) (subst (λ (p : D × D). IsWithin (devices_of is) p) (sym before.devices) here_within)))
          (λ other. subst (λ (p : D × D). IsWithin p (s.devices m)) (sym (other_devices m other)) (λ c in_a. in_a, λ c in_b. in_b))
          (is_same_node m n)

      here_at : later.at n ≡ s.at n
      here_at = after.at ∙ same_shown was is is_set.is_set honest_a honest_b ∙ sym before.at

      pub stands_later : Stand later now
      stands_later = record {
        sound = record {
          honest_a = λ m there. ⊎_elim
              (λ here. subst (λ (l : NodeName). honest (later.devices l).0) (sym here) (subst (λ (p : D × D). honest p.0) (sym after.devices) (set_is.still_honest.0.0 honest_a)))
              (λ other. subst (λ (p : D × D). honest p.0) (sym (other_devices m other)) (standing.sound.honest_a m there))
              (is_same_node m n);
          honest_b = λ m there. ⊎_elim
              (λ here. subst (λ (l : NodeName). honest (later.devices l).1) (sym here) (subst (λ (p : D × D). honest p.1) (sym after.devices) (set_is.still_honest.1.0 honest_b)))
              (λ other. subst (λ (p : D × D). honest p.1) (sym (other_devices m other)) (standing.sound.honest_b m there))
              (is_same_node m n);
          readable = λ m a b there in_a in_b. standing.sound.readable m a b there ((within m).0 a in_a) ((within m).1 b in_b);
        };
        nodes = record {
          at = λ m. standing.nodes.at m ∙ ⊎_elim (λ here. subst (λ (l : NodeName). s.at l ≡ later.at l) (sym here) (sym here_at)) (λ other. sym (other_at m other)) (is_same_node m n);
          open_ids = standing.nodes.open_ids;
          given = standing.nodes.given;
        };
        flows = standing.flows;
        stands = subst (λ (f : NodeName → List Record → Type 0). Stands old.store old.shards f now) (sym same_stops) standing.stands;
      }

      pub left_before : (m : NodeName) (found : List Record) → stops_of later.devices m found → stops_of s.devices m found
      left_before m found = subst (λ (f : NodeName → List Record → Type 0). f m found) same_stops

      pub named_before : (x : ℕ) → NamesHorizon state honest old.store old.shards later now x → NamesHorizon state honest old.store old.shards s now x
      named_before x names = subst (λ (f : NodeName → List Record → Type 0). IsHorizonIn old.store old.shards f now.nodes x) same_stops names

    keeps_there : StandsAsBefore state honest old s (record old { nodes = nodes })
    keeps_there = record {
      later = later;
      shows = shows_later;
      stands = λ now standing. stands_later now standing;
      named = λ now x standing names. named_before now standing x names;
      leaves = λ now n found standing there. left_before now standing n found there;
    }

  -- whether the world has the node or not: one that has none is as it was
  keeps_at : (n : NodeName) (old new : WorldView D) (s : Store D) → Shows old s → (o : Option (NodeView D)) → node_at old.nodes (named n) ≡ o
      → MatchOption o (new.nodes ≡ old.nodes) (λ was. IsSetIn set state honest moment left_since bank k tear old.nodes (named n) was new.nodes) → new ≡ record old { nodes = new.nodes }
      → StandsAsBefore state honest old s new
  keeps_at n old new s shows None at same rest = record {
    later = s;
    shows = subst (λ (w : WorldView D). Shows w s) (sym (rest ∙ ap (λ (ns : List (NodeView D)). record old { nodes = ns }) same)) shows;
    stands = λ now standing. standing;
    named = λ now x standing names. names;
    leaves = λ now n found standing there. there;
  }
  keeps_at n old new s shows (Some was) at is_set rest = subst (λ (w : WorldView D). StandsAsBefore state honest old s w) (sym rest) (keeps_there old s shows n was at new.nodes is_set)

-- whatever the node's name, as the calls say it
pub scripts_keep : {D : Type 0} (set : D → ℕ → Tear → Type 0) (state : D → State) (honest : D → Type 0) (moment : D → ℕ) (left_since : D → ℕ → List ℕ → Type 0) → ScriptsKeep set state honest moment left_since
scripts_keep set state honest moment left_since bank k tear Coordinator old new s shows is =
    keeps_at set state honest moment left_since bank k tear coordinator old new s shows (node_at old.nodes Coordinator) refl is.nodes is.rest
scripts_keep set state honest moment left_since bank k tear (Shard j) old new s shows is =
    keeps_at set state honest moment left_since bank k tear (shard j) old new s shows (node_at old.nodes (Shard j)) refl is.nodes is.rest

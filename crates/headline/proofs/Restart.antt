-- A restart of a node keeps the promise of a step.
use Rattle.std.proofs.Common.{◌≡◌, ◌≢◌, inl, inr, ⊎_elim, ◌≤◌, ◌++◌, ℕ, List, [], ◌∷◌, Option, Some, None, MatchOption, slice_set, refl, sym, ◌∙◌, ap, subst}
use Rattle.std.proofs.lemmas.List.{length-set}
use Rattle.headline.proofs.Words.{FlowView, IsIdle, IsNode, IsThere, Moment, NamesHorizon, NodeName, NodeState, NodeView, OpensAs, OpensWithCause, Ran, Reopened, Restart, Restarts, Running, RunsOne, Shows, ShowsSlot, StandsOver, State, StepKeeps, Store, Told, What, WorldView, all_told, coordinator, devices_of, down, events_of, index_of, inside_by, left, named, node_at, refused, restart, shard, shown, staged_of, still_given, still_within, stops, up}
use Rattle.names.specs.declared.node_name.NodeName as names
use Rattle.names.specs.declared.node_name.NodeName.TheVariants as called
use Rattle.cluster.specs.Steps.{RestartsIn, Takes}
use Rattle.stores.specs.Moments.{flow_at}
use Rattle.turns.specs.Runs as runs
use Rattle.turns.proofs.QuietTurns.{is_same_node}
use Rattle.headline.proofs.Causes.{opens_with_cause}
use Rattle.headline.proofs.Inside.{HoldsOn, given_still, holds_opened, holds_still, inside, now_left, old_horizon, sound_now}
use Rattle.headline.proofs.Lists.{is_somewhere, places_apart, set_elsewhere, set_here, shows_reopened}
use Rattle.headline.proofs.Memory.{memory_elsewhere, opened_node, with_node}
use Rattle.headline.proofs.Places.{in_place_elsewhere, in_place_here}
use Rattle.headline.proofs.Reopening.{are_over}
use Rattle.headline.proofs.Stepped.{IsStepped, given_behind, ids_behind, stepped, told_by}

-- after its opening a node has staged nothing, and is not down
pub opened_so : (shards : ℕ) (may : ℕ → Type 0) (n : NodeName) (after : Moment) (t : Told) → OpensAs shards may n after t → (staged_of (after.nodes.at n) ≡ []) × (after.nodes.at n ≢ down)
opened_so shards may n after (runs.began slot) is = absurd is
opened_so shards may n after runs.goes_on is = absurd is
opened_so shards may n after (runs.answered answer) is = absurd is
opened_so shards may n after runs.came_up is = (ap staged_of is.0.1, λ gone. let both : up is.0.0 [] ≡ down = sym is.0.1 ∙ gone in cc)
opened_so shards may n after (runs.refuses e) is = (ap staged_of is.0, λ gone. let both : refused e ≡ down = sym is.0 ∙ gone in cc)

-- the flows after it are shown as before
flows_behind : (n : NodeName) (may : ℕ → Type 0) (shards : ℕ) (now after : Moment) (told : List Told) (r : Restarts shards may now n told after) (slot : ℕ) (v : Option FlowView) → ShowsSlot (flow_at slot now.running) v
    → ShowsSlot (flow_at slot after.running) v
flows_behind coordinator may shards now after told r slot v shows = subst (λ (l : List Running). ShowsSlot (flow_at slot l) v) (sym r.allowed.1) (shows_reopened slot now.running v shows)
flows_behind (shard s) may shards now after told r slot v shows = subst (λ (l : List Running). ShowsSlot (flow_at slot l) v) (sym r.allowed.1) shows

module _ {D : Type 0} (state : D → State) (honest : D → Type 0) (moment : D → ℕ) (left_since : D → ℕ → List ℕ → Type 0)
    (counts_now : (d : D) (t : ℕ) (c : List ℕ) → honest d → t ≤ moment d → left (state d) c → left_since d t c) (only_now : (d : D) (c : List ℕ) → honest d → left_since d (moment d) c → left (state d) c)
    (store shards : ℕ) where
  -- a node that is there was opened again
  module _ (old : Store D) (n : NodeName) (there : IsThere shards n) (is : NodeView D) (reopened : Reopened state honest moment left_since store shards (named n) (old.devices n).0 (old.devices n).1 is)
      (number : ℕ) (now : Moment) (standing : StandsOver state honest store shards old now) where
    abbrev later : Store D
    later = with_node old n is

    devices_here : later.devices n ≡ devices_of is
    devices_here = in_place_here n (devices_of is) old.devices

    abbrev is_stepped : IsStepped state honest moment left_since counts_now only_now store shards old.devices later.devices now n is
    is_stepped = stepped state honest moment left_since counts_now only_now store shards old.devices later.devices now standing.stands standing.sound n there
        (λ m ne. in_place_elsewhere n (devices_of is) old.devices m ne) is reopened devices_here

    holds_on : (k : NodeName) → IsThere shards k → HoldsOn state honest moment left_since counts_now only_now store shards old.devices later.devices k
    holds_on k there_k = ⊎_elim
        (λ same. subst (HoldsOn state honest moment left_since counts_now only_now store shards old.devices later.devices) (sym same)
        (holds_opened state honest moment left_since counts_now only_now store shards old.devices later.devices standing.sound n there is devices_here
        (are_over state honest moment left_since counts_now only_now store shards n (old.devices n).0 (old.devices n).1 is (standing.sound.honest_a n there) (standing.sound.honest_b n there) reopened)))
        (λ other. holds_still state honest moment left_since counts_now only_now store shards old.devices later.devices standing.sound k there_k (in_place_elsewhere n (devices_of is) old.devices k other))
        (is_same_node k n)

    state_now : (staged_of (is_stepped.after.nodes.at n) ≡ []) × (is_stepped.after.nodes.at n ≢ down)
    state_now = let t = is_stepped.step.tells in opened_so shards (NamesHorizon state honest store shards old now) n is_stepped.after t.0 t.2

    no_new_horizon : (x : ℕ) → NamesHorizon state honest store shards later is_stepped.after x → NamesHorizon state honest store shards old now x
    no_new_horizon x high = ⊎_elim
        (λ same. old_horizon state honest moment left_since counts_now only_now store shards old.devices later.devices holds_on is_stepped.after.nodes now.nodes
        (ap (λ (k : NodeName). staged_of (is_stepped.after.nodes.at k)) same ∙ state_now.0) x high)
        (λ other. still other high)
        (is_same_node coordinator n)
      where
        still : coordinator ≢ n → NamesHorizon state honest store shards later is_stepped.after x → NamesHorizon state honest store shards old now x
        still other (some, (rs, (was, is_left, which), at)) = (
          some,
          (
            rs,
            (
              was,
              subst (λ (p : D × D). stops state honest store shards (λ k. p) coordinator was) (in_place_elsewhere n (devices_of is) old.devices coordinator other) is_left,
              ⊎_elim (λ plain. inl plain) (λ more. inr (more ∙ ap (λ (m : NodeState). was ++ staged_of m) (is_stepped.step.others.others coordinator other))) which,
            ),
            at,
          ),
        )

    pub restarted : Ran state honest moment left_since store shards old now number (restart n) (events_of number (told_by is ∷ [])) later
    restarted = record {
      after = is_stepped.after;
      told = told_by is ∷ [];
      takes = inl (there, is_stepped.step);
      tells = refl;
      stands = record {
        sound = sound_now state honest moment left_since counts_now only_now store shards old.devices later.devices holds_on;
        nodes = record {
          at = λ k. ⊎_elim
              (λ same. ap is_stepped.after.nodes.at same ∙ is_stepped.at ∙ sym (in_place_here n (shown is) old.at) ∙ ap later.at (sym same))
              (λ other. is_stepped.step.others.others k other ∙ standing.nodes.at k ∙ sym (in_place_elsewhere n (shown is) old.at k other))
              (is_same_node k n);
          open_ids = is_stepped.open_ids ∙ ap (ids_behind n) standing.nodes.open_ids;
          given = is_stepped.given ∙ ap (given_behind n is) standing.nodes.given;
        };
        flows = λ slot. flows_behind n (NamesHorizon state honest store shards old now) shards now is_stepped.after (told_by is ∷ []) is_stepped.step slot (old.flows slot) (standing.flows slot);
        stands = is_stepped.stands;
      };
      named = λ x high. inr (no_new_horizon x high);
      fails = λ k there_k is_down not_down. absurd (⊎_elim
          (λ same. state_now.1 (ap is_stepped.after.nodes.at (sym same) ∙ is_down))
          (λ other. not_down (sym (is_stepped.step.others.others k other) ∙ is_down))
          (is_same_node k n));
      opens = λ k there_k same. subst (λ (j : NodeName). OpensWithCause state honest moment left_since store shards old.devices later.devices j (is_stepped.after.nodes.at j)) (one_node k same)
          (subst (OpensWithCause state honest moment left_since store shards old.devices later.devices n) (sym is_stepped.at)
          (opens_with_cause state honest moment left_since store shards old.devices later.devices n is (standing.sound.honest_a n there) (standing.sound.honest_b n there) reopened devices_here));
      inside = inside state honest moment left_since counts_now only_now store shards old.devices later.devices holds_on now.nodes now.machine is_stepped.after.machine standing.stands.rests;
      given = λ id was_given rs is. given_still state honest moment left_since counts_now only_now store shards old.devices later.devices holds_on id rs was_given
          (now_left state honest moment left_since counts_now only_now store shards old.devices later.devices holds_on coordinator rs is tt);
    }
      where
        one_node : (k : NodeName) → restart n ≡ restart k → n ≡ k
        one_node k same = cc

  -- a node that is not there: nothing happens
  idle : (n : NodeName) → (IsThere shards n → ⊥) → (s : Store D) (number : ℕ) (now : Moment) → StandsOver state honest store shards s now
      → Ran state honest moment left_since store shards s now number (restart n) (events_of number []) s
  idle n away s number now standing = record {
    after = now;
    told = [];
    takes = inr (away, (refl, refl));
    tells = refl;
    stands = standing;
    named = λ x high. inr high;
    fails = λ k there is_down not_down. absurd (not_down is_down);
    opens = λ k there same. absurd (away (subst (IsThere shards) (one_node k (sym same)) there));
    inside = inside_by state honest moment left_since store shards s s now standing (still_within state honest moment left_since store shards s s now standing only_now refl) now.machine;
    given = still_given state honest moment left_since store shards s s now standing refl;
  }
    where
      one_node : (k : NodeName) → restart k ≡ restart n → k ≡ n
      one_node k same = cc

-- What is known after a restart of node n: a store that shows the world, and the promise of the step.
record KeepsOf {D : Type 0} (state : D → State) (honest : D → Type 0) (moment : D → ℕ) (left_since : D → ℕ → List ℕ → Type 0) (old : WorldView D) (s : Store D) (n : NodeName) (told : Option What) (new : WorldView D) : Type 0 where
  pub later : Store D
  pub shows : Shows new later
  pub store_is : new.store ≡ old.store
  pub shards_is : new.shards ≡ old.shards
  pub runs : (number : ℕ) → RunsOne state honest moment left_since old.store old.shards s number (restart n) (events_of number (all_told told)) later

module _ {D : Type 0} (state : D → State) (honest : D → Type 0) (moment : D → ℕ) (left_since : D → ℕ → List ℕ → Type 0)
    (counts_now : (d : D) (t : ℕ) (c : List ℕ) → honest d → t ≤ moment d → left (state d) c → left_since d t c) (only_now : (d : D) (c : List ℕ) → honest d → left_since d (moment d) c → left (state d) c)
    (old new : WorldView D) (s : Store D) (told : Option What) (shows : Shows old s) (n : NodeName) where
  abbrev IsKept : Type 0
  IsKept = KeepsOf state honest moment left_since old s n told new

  -- it is idle
  where_idle : node_at old.nodes (named n) ≡ None → IsIdle state honest moment left_since old told new → IsKept
  where_idle none idles = record {
    later = s;
    shows = subst (λ (w : WorldView D). Shows w s) (sym idles.1) shows;
    store_is = ap (λ (w : WorldView D). w.store) idles.1;
    shards_is = ap (λ (w : WorldView D). w.shards) idles.1;
    runs = λ number now standing. subst (λ (t : Option What). Ran state honest moment left_since old.store old.shards s now number (restart n) (events_of number (all_told t)) s) (sym idles.0)
        (idle state honest moment left_since counts_now only_now old.store old.shards n away s number now standing);
  }
    where
      away : IsThere old.shards n → ⊥
      away there =
          let found = is_somewhere old.nodes old.shards n shows.count there in
          let both : Some found.0 ≡ None = sym found.1 ∙ none in cc

  -- the node is there, and is opened
  module _ (was : NodeView D) (at : node_at old.nodes (named n) ≡ Some was) (restarts : RestartsIn state honest moment left_since old (named n) was told new) where
    abbrev is : NodeView D
    is = restarts.0.is

    node : IsNode old.store old.shards s n was
    node = shows.nodes n was at

    reopened : Reopened state honest moment left_since old.store old.shards (named n) (s.devices n).0 (s.devices n).1 is
    reopened = subst (λ (p : D × D). Reopened state honest moment left_since old.store old.shards (named n) p.0 p.1 is) (sym node.devices) restarts.0.reopened

    abbrev put : WorldView D
    put = record old { nodes = slice_set old.nodes (index_of (named n)) is }

    new_is : new ≡ put
    new_is = restarts.1 ∙ ap (λ (l : List (NodeView D)). record old { nodes = l }) restarts.0.new_is

    shows_node : (k : NodeName) (v : NodeView D) → node_at put.nodes (named k) ≡ Some v → IsNode old.store old.shards (with_node s n is) k v
    shows_node k v at_k = ⊎_elim
        (λ same.
        let one : v ≡ is = set_here old.nodes (index_of (named n)) is v (ap (λ (j : NodeName). node_at put.nodes (named j)) (sym same) ∙ at_k) in
        let opened = opened_node state honest moment left_since old.store old.shards n (s.devices n).0 (s.devices n).1 is s reopened in
        subst (λ (j : NodeName). IsNode old.store old.shards (with_node s n is) j v) (sym same) (subst (IsNode old.store old.shards (with_node s n is) n) (sym one) (record {
          there = node.there;
          named = opened.0;
          devices = in_place_here n (devices_of is) s.devices;
          at = in_place_here n (shown is) s.at;
          memory = opened.1;
        })))
        (λ other.
        let was_k = shows.nodes k v (sym (set_elsewhere old.nodes (index_of (named n)) (index_of (named k)) is (places_apart k n other)) ∙ at_k) in
        record {
          there = was_k.there;
          named = was_k.named;
          devices = in_place_elsewhere n (devices_of is) s.devices k other ∙ was_k.devices;
          at = in_place_elsewhere n (shown is) s.at k other ∙ was_k.at;
          memory = memory_elsewhere old.store old.shards k n v is s other was_k.named was_k.memory;
        })
        (is_same_node k n)

    shows_put : Shows put (with_node s n is)
    shows_put = record {
      some = shows.some;
      count = length-set old.nodes (index_of (named n)) is ∙ shows.count;
      nodes = shows_node;
      flows = shows.flows;
    }

    where_there : IsKept
    where_there = record {
      later = with_node s n is;
      shows = subst (λ (w : WorldView D). Shows w (with_node s n is)) (sym new_is) shows_put;
      store_is = ap (λ (w : WorldView D). w.store) new_is;
      shards_is = ap (λ (w : WorldView D). w.shards) new_is;
      runs = λ number now standing. subst (λ (t : Option What). Ran state honest moment left_since old.store old.shards s now number (restart n) (events_of number (all_told t)) (with_node s n is)) (sym restarts.0.tells)
          (restarted state honest moment left_since counts_now only_now old.store old.shards s n node.there is reopened number now standing);
    }

  is_kept : Takes state honest moment left_since old (Restart (named n)) told new → IsKept
  is_kept takes = by_node (node_at old.nodes (named n)) refl takes
    where
      by_node : (o : Option (NodeView D)) → node_at old.nodes (named n) ≡ o → MatchOption o (IsIdle state honest moment left_since old told new) (λ was. RestartsIn state honest moment left_since old (named n) was told new) → IsKept
      by_node None at idles = where_idle at idles
      by_node (Some was) at restarts = where_there was at restarts

module _ {D : Type 0} (state : D → State) (honest : D → Type 0) (moment : D → ℕ) (left_since : D → ℕ → List ℕ → Type 0)
    (counts_now : (d : D) (t : ℕ) (c : List ℕ) → honest d → t ≤ moment d → left (state d) c → left_since d t c) (only_now : (d : D) (c : List ℕ) → honest d → left_since d (moment d) c → left (state d) c) where
  pub restarts_keep : (name : names.NodeName) → StepKeeps state honest moment left_since (Restart name)
  restarts_keep called.Coordinator old new s told shows whole takes =
      let kept = is_kept state honest moment left_since counts_now only_now old new s told shows coordinator takes in
      record { later = kept.later; shows = λ now standing. kept.shows; store_is = kept.store_is; shards_is = kept.shards_is; runs = kept.runs }
  restarts_keep (called.Shard t) old new s told shows whole takes =
      let kept = is_kept state honest moment left_since counts_now only_now old new s told shows (shard t) takes in
      record { later = kept.later; shows = λ now standing. kept.shows; store_is = kept.store_is; shards_is = kept.shards_is; runs = kept.runs }

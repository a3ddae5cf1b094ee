-- The opening of a whole store, node by node: the coordinator, and then shard by shard.
use Rattle.std.proofs.Common.{◌≡◌, ◌≢◌, ◌⊎◌, inl, inr, ⊎_elim, ◌≤◌, ◌<◌, ◌++◌, ℕ, zero, suc, List, [], get_or, length, map, refl, sym, ◌∙◌, ap, subst, arith}
use Rattle.std.proofs.lemmas.Bool.{cases_lt}
use Rattle.std.proofs.lemmas.List.Elements.{All-append}
use Rattle.headline.proofs.Words.{AreSound, CoordinatorKnows, CoordinatorState, Entry, FoundHorizon, IsHorizonIn, IsOfOpening, IsOfRefusedOpening, IsThere, Machine, MayRise, Moment, Move, Moves, NodeName, NodeState, NodeView, OpensAs, Record, Refusal, Reopened, Stands, State, Told, WriteId, closed_nodes, coordinator, devices_of, down, left, named, refused, shard, shown, stops, up}
use Rattle.turns.specs.Reopens.{IsOpenedFrom}
use Rattle.turns.specs.Runs as runs
use Rattle.stores.proofs.ShardStages.{shard_number}
use Rattle.turns.proofs.QuietTurns.{is_same_node}
use Rattle.turns.proofs.RunNames.{of_opening}
use Rattle.headline.proofs.Begun.{Begins}
use Rattle.headline.proofs.Closed.{closed_with, only_left}
use Rattle.headline.proofs.Inside.{HoldsOn, holds_opened, holds_still, sound_now}
use Rattle.headline.proofs.Places.{in_place, in_place_elsewhere, in_place_here}
use Rattle.headline.proofs.Reopening.{are_over}
use Rattle.headline.proofs.Stepped.{IsStepped, given_behind, stepped}
use Rattle.laws.proofs.MachineMoves.{moves_then}

-- what stands at the coordinator and at the first of the shards, and at the others what stood there
abbrev pub opened_to : {X : Type 0} → (NodeName → X) → (NodeName → X) → ℕ → NodeName → X
opened_to f g zero = in_place coordinator (f coordinator) g
opened_to f g (suc k) = in_place (shard k) (f (shard k)) (opened_to f g k)

-- a node among the first, except for the last of them
among_first : (k : ℕ) (n : NodeName) → IsThere (suc k) n → n ≢ shard k → IsThere k n
among_first k coordinator there other = tt
among_first k (shard s) there other = ⊎_elim
    (λ (lt : s < k). lt)
    (λ (le : k ≤ s). absurd (other (let same : s ≡ k = omega (arith, le, there) in ap shard same)))
    (cases_lt s k)

pub at_opened : {X : Type 0} (f g : NodeName → X) (k : ℕ) (n : NodeName) → IsThere k n → opened_to f g k n ≡ f n
at_opened f g zero coordinator there = refl
at_opened f g zero (shard s) there = absurd (omega (arith, there))
at_opened f g (suc k) n there = ⊎_elim
    (λ same. ap (opened_to f g (suc k)) same ∙ in_place_here (shard k) (f (shard k)) (opened_to f g k) ∙ ap f (sym same))
    (λ other. in_place_elsewhere (shard k) (f (shard k)) (opened_to f g k) n other ∙ at_opened f g k n (among_first k n there other))
    (is_same_node n (shard k))

pub at_unopened : {X : Type 0} (f g : NodeName → X) (k s : ℕ) → k ≤ s → opened_to f g k (shard s) ≡ g (shard s)
at_unopened f g zero s le = refl
at_unopened f g (suc k) s le = in_place_elsewhere (shard k) (f (shard k)) (opened_to f g k) (shard s) (λ is. let same : s ≡ k = ap shard_number is in omega (arith, le, same))
    ∙ at_unopened f g k s (omega (arith, le))

-- up, with nothing staged, or refused as an opening may be
abbrev pub IsFine : NodeState → Type 0
IsFine now = ((durable : List Record) × (now ≡ up durable [])) ⊎ ((e : Refusal) × (now ≡ refused e) × IsOfRefusedOpening e)

fine_by : (shards : ℕ) (may : ℕ → Type 0) (n : NodeName) (after : Moment) (t : Told) → OpensAs shards may n after t → IsFine (after.nodes.at n)
fine_by shards may n after (runs.began slot) is = absurd is
fine_by shards may n after runs.goes_on is = absurd is
fine_by shards may n after (runs.answered answer) is = absurd is
fine_by shards may n after runs.came_up is = inl is.0
fine_by shards may n after (runs.refuses e) is = inr (e, is.0, is.1)

-- all is kept that a coordinator that came up has found
kept_by : (shards : ℕ) (may : ℕ → Type 0) (after : Moment) (t : Told) → OpensAs shards may coordinator after t → (durable memory : CoordinatorState) → CoordinatorKnows after.nodes durable memory → after.machine.kept ≡ length after.machine.log
kept_by shards may after (runs.began slot) is durable memory knows = absurd is
kept_by shards may after runs.goes_on is durable memory knows = absurd is
kept_by shards may after (runs.answered answer) is durable memory knows = absurd is
kept_by shards may after runs.came_up is durable memory knows = is.1 refl
kept_by shards may after (runs.refuses e) is durable memory knows = absurd (let both : refused e ≡ up knows.durable knows.staged = sym is.0 ∙ knows.is_up in cc)

not_shard : (s : ℕ) → shard s ≢ coordinator
not_shard s is = cc

not_coordinator : (s : ℕ) → coordinator ≢ shard s
not_coordinator s is = cc

module _ {D : Type 0} (state : D → State) (honest : D → Type 0) (moment : D → ℕ) (left_since : D → ℕ → List ℕ → Type 0)
    (counts_now : (d : D) (t : ℕ) (c : List ℕ) → honest d → t ≤ moment d → left (state d) c → left_since d t c) (only_now : (d : D) (c : List ℕ) → honest d → left_since d (moment d) c → left (state d) c)
    (store shards : ℕ) (old : NodeName → D × D) (node : NodeName → NodeView D) where
  -- the devices once the coordinator and the first of the shards were opened, and what their nodes show
  abbrev pub devices : ℕ → NodeName → D × D
  devices = opened_to (λ n. devices_of (node n)) old

  abbrev pub states : ℕ → NodeName → NodeState
  states = opened_to (λ n. shown (node n)) (λ n. down)

  -- A moment for which the store stands then: moves of an opening lead to its machine; no flow runs; whoever was told that a write is aborted was told so
  -- for good; the nodes that were opened are up or refused, and the others down; and all that a coordinator that is up has found is kept.
  pub record IsOpenedUpTo (m : Machine) (told : List WriteId) (k : ℕ) : Type 0 where
    pub after : Moment
    pub stands : Stands store shards (stops state honest store shards (devices k)) after
    pub opened : IsOpenedFrom state honest moment left_since store shards old m after.machine
    pub running : after.running ≡ []
    pub told_before : after.told ≡ told
    pub named : after.named ≡ []
    pub at : (n : NodeName) → after.nodes.at n ≡ states k n
    pub open_ids : map (λ (w : Entry). w.id) after.nodes.open_writes ≡ []
    pub given : after.nodes.given ≡ given_behind coordinator (node coordinator) 0
    pub fine : (n : NodeName) → IsThere k n → IsFine (shown (node n))
    pub kept : (durable memory : CoordinatorState) → CoordinatorKnows after.nodes durable memory → after.machine.kept ≡ length after.machine.log

  module _ (sound : AreSound state honest store shards old) (reopened : (n : NodeName) → IsThere shards n → Reopened state honest moment left_since store shards (named n) (old n).0 (old n).1 (node n)) where
    -- at every moment so far a stop leaves of each node what it could leave before, or that with the record of an opening
    pub holds_on : (k : ℕ) (n : NodeName) → IsThere shards n → HoldsOn state honest moment left_since counts_now only_now store shards old (devices k) n
    holds_on k n there = by_name n there
      where
        where_opened : (n : NodeName) → IsThere shards n → IsThere k n → HoldsOn state honest moment left_since counts_now only_now store shards old (devices k) n
        where_opened n there first = holds_opened state honest moment left_since counts_now only_now store shards old (devices k) sound n there (node n)
            (at_opened (λ j. devices_of (node j)) old k n first)
            (are_over state honest moment left_since counts_now only_now store shards n (old n).0 (old n).1 (node n) (sound.honest_a n there) (sound.honest_b n there) (reopened n there))

        by_name : (n : NodeName) → IsThere shards n → HoldsOn state honest moment left_since counts_now only_now store shards old (devices k) n
        by_name coordinator there = where_opened coordinator there tt
        by_name (shard s) there = ⊎_elim
            (λ (lt : s < k). where_opened (shard s) there lt)
            (λ (le : k ≤ s). holds_still state honest moment left_since counts_now only_now store shards old (devices k) sound (shard s) there (at_unopened (λ j. devices_of (node j)) old k s le))
            (cases_lt s k)

    module _ (m : Machine) (told : List WriteId) (begun : Begins state honest moment left_since counts_now only_now store shards old m told (node coordinator)) where
      abbrev of_coordinator : IsStepped state honest moment left_since counts_now only_now store shards begun.mid (devices 0) (closed_with begun.machine told) coordinator (node coordinator)
      of_coordinator = stepped state honest moment left_since counts_now only_now store shards begun.mid (devices 0) (closed_with begun.machine told) begun.stands begun.sound coordinator tt
          (λ n ne. in_place_elsewhere coordinator (devices_of (node coordinator)) old n ne ∙ sym (begun.others n ne)) (node coordinator) begun.reopened refl

      abbrev found_between : ℕ → Type 0
      found_between = IsHorizonIn store shards (stops state honest store shards begun.mid) closed_nodes

      abbrev may_rise : ℕ → Type 0
      may_rise = MayRise shards found_between (closed_with begun.machine told)

      was_found : (x : ℕ) → may_rise x → FoundHorizon state honest moment left_since store shards old x
      was_found x (inl has) = absurd (omega (arith, has.1))
      was_found x (inr (some, (rs, there, high))) = (some, (rs, begun.less rs (only_left (stops state honest store shards begun.mid) coordinator rs there), high))

      at_first : (n : NodeName) → of_coordinator.after.nodes.at n ≡ states 0 n
      at_first coordinator = of_coordinator.at
      at_first (shard s) = of_coordinator.step.others.others (shard s) (not_shard s)

      first_fine : (n : NodeName) → IsThere 0 n → IsFine (shown (node n))
      first_fine coordinator there = let t = of_coordinator.step.tells in subst IsFine of_coordinator.at (fine_by shards found_between coordinator of_coordinator.after t.0 t.2)
      first_fine (shard s) there = absurd (omega (arith, there))

      first : IsOpenedUpTo m told 0
      first = record {
        after = of_coordinator.after;
        stands = of_coordinator.stands;
        opened = record {
          moves = begun.moves ++ of_coordinator.step.moves;
          machine = moves_then m begun.machine of_coordinator.after.machine begun.moves of_coordinator.step.moves begun.moved of_coordinator.step.machine;
          allowed = All-append (IsOfOpening (FoundHorizon state honest moment left_since store shards old)) begun.moves of_coordinator.step.moves begun.allowed
              (λ j d lt. of_opening may_rise (FoundHorizon state honest moment left_since store shards old) was_found (get_or of_coordinator.step.moves j d) (of_coordinator.step.allowed.0 j d lt));
        };
        running = of_coordinator.step.allowed.1;
        told_before = of_coordinator.step.told_before;
        named = of_coordinator.step.named;
        at = at_first;
        open_ids = of_coordinator.open_ids;
        given = of_coordinator.given;
        fine = first_fine;
        kept = let t = of_coordinator.step.tells in kept_by shards found_between of_coordinator.after t.0 t.2;
      }

      -- one more shard
      module _ (k : ℕ) (lt : k < shards) (u : IsOpenedUpTo m told k) where
        there_as_it_was : Reopened state honest moment left_since store shards (named (shard k)) (devices k (shard k)).0 (devices k (shard k)).1 (node (shard k))
        there_as_it_was = subst (λ (p : D × D). Reopened state honest moment left_since store shards (named (shard k)) p.0 p.1 (node (shard k)))
            (sym (at_unopened (λ j. devices_of (node j)) old k k (omega arith))) (reopened (shard k) lt)

        abbrev of_shard : IsStepped state honest moment left_since counts_now only_now store shards (devices k) (devices (suc k)) u.after (shard k) (node (shard k))
        of_shard = stepped state honest moment left_since counts_now only_now store shards (devices k) (devices (suc k)) u.after u.stands
            (sound_now state honest moment left_since counts_now only_now store shards old (devices k) (holds_on k)) (shard k) lt
            (λ n ne. in_place_elsewhere (shard k) (devices_of (node (shard k))) (devices k) n ne) (node (shard k)) there_as_it_was
            (in_place_here (shard k) (devices_of (node (shard k))) (devices k))

        same_machine : of_shard.after.machine ≡ u.after.machine
        same_machine = subst (λ (l : List Move). Moves u.after.machine l of_shard.after.machine) of_shard.step.allowed.0 of_shard.step.machine

        at_next : (n : NodeName) → of_shard.after.nodes.at n ≡ states (suc k) n
        at_next n = ⊎_elim
            (λ same. ap of_shard.after.nodes.at same ∙ of_shard.at ∙ sym (in_place_here (shard k) (shown (node (shard k))) (states k)) ∙ ap (states (suc k)) (sym same))
            (λ other. of_shard.step.others.others n other ∙ u.at n ∙ sym (in_place_elsewhere (shard k) (shown (node (shard k))) (states k) n other))
            (is_same_node n (shard k))

        fine_next : (n : NodeName) → IsThere (suc k) n → IsFine (shown (node n))
        fine_next n there = ⊎_elim
            (λ same. let t = of_shard.step.tells in subst (λ (j : NodeName). IsFine (shown (node j))) (sym same) (subst IsFine of_shard.at (fine_by shards (IsHorizonIn store shards (stops state honest store shards (devices k)) u.after.nodes) (shard k) of_shard.after t.0 t.2)))
            (λ other. u.fine n (among_first k n there other))
            (is_same_node n (shard k))

        next : IsOpenedUpTo m told (suc k)
        next = record {
          after = of_shard.after;
          stands = of_shard.stands;
          opened = subst (IsOpenedFrom state honest moment left_since store shards old m) (sym same_machine) u.opened;
          running = of_shard.step.allowed.1 ∙ u.running;
          told_before = of_shard.step.told_before ∙ u.told_before;
          named = of_shard.step.named ∙ u.named;
          at = at_next;
          open_ids = of_shard.open_ids ∙ u.open_ids;
          given = of_shard.given ∙ u.given;
          fine = fine_next;
          kept = λ durable memory knows. ap (λ (x : Machine). x.kept) same_machine
              ∙ u.kept durable memory (record {
                durable = knows.durable;
                staged = knows.staged;
                is_up = sym (of_shard.step.others.others coordinator (not_coordinator k)) ∙ knows.is_up;
                durable_state = knows.durable_state;
                replayed = knows.replayed;
              })
              ∙ ap (λ (x : Machine). length x.log) (sym same_machine);
        }

      pub opened_up_to : (k : ℕ) → k ≤ shards → IsOpenedUpTo m told k
      opened_up_to zero le = first
      opened_up_to (suc k) le = next k (omega (arith, le)) (opened_up_to k (omega (arith, le)))

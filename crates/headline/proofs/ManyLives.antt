-- Many lives of a store are one list of moves.
use Rattle.std.proofs.Common.{◌≡◌, ◌≤◌, ◌+◌, ◌*◌, ◌++◌, ℕ, List, [], ◌∷◌, length, map, All, Option, Some, None, get_or, refl, sym, ◌∙◌, subst}
use Rattle.tuples.specs.declared.entry.WriteId.{WriteId}
use Rattle.records.specs.Identity.{max_shards}
use Rattle.records.specs.declared.record.Record.{Record}
use Rattle.device.specs.Device.{State, left}
use Rattle.device.specs.declared.tear.Tear.{Tear}
use Rattle.journal.specs.Records.{Finds}
use Rattle.calls.specs.Views.{NodeView}
use Rattle.cluster.specs.Openings.{IsOpenedOver}
use Rattle.cluster.specs.Worlds.{WorldView, node_at}
use Rattle.laws.specs.Machines.{Machine, Move, Moves}
use Rattle.laws.specs.Nodes.{IsThere, NodeName}
use Rattle.laws.proofs.MachineMoves.{kept_stay, moves_then}
use Rattle.stores.specs.Stores.{AreSound, IsToldOver, NamesHorizon, RestsOver, StandsOver, Store, stops}
use Rattle.turns.specs.Promises.{Ran, events_of}
use Rattle.turns.specs.Reopens.{Reopened}
use Rattle.turns.specs.StoreLaws.{IsStopped, SettlesOne}
use Rattle.turns.proofs.Chains.{stopped_openings_rest, stopped_steps_rest}
use Rattle.turns.proofs.ClosedStoreRests.{closed_stores_rest}
use Rattle.turns.proofs.RunChain.{runs_move}
use Rattle.headline.specs.Acts.{Acted, KeepsActs, numbered, steps_in}
use Rattle.headline.specs.Found.{RestLikewise}
use Rattle.headline.specs.PastWrites.{IsPast, IsPastOver}
use Rattle.headline.specs.ManyLives.{AreDevicesOf, End, EndsOver, IsRunIn, Life, Lived, LivesAll, LivesOn, LivesOnce, ManyLives, RunsIn, closes, stops_opening, stops_within}
use Rattle.headline.specs.Promised.{KeepsOpened, devices_at}
use Rattle.headline.specs.Shown.{Shows, named}
use Rattle.headline.specs.Told.{IsWholeStep, all_told, step_of}
use Rattle.headline.proofs.Acting.{acts_keep}
use Rattle.headline.proofs.Found.{what_is_found_rests}
use Rattle.headline.proofs.Joined.{steps_keep}
use Rattle.headline.proofs.Likewise.{rest_likewise}
use Rattle.headline.proofs.Nodes.{node_there}
use Rattle.headline.proofs.PastRests.{past_opened, past_stopped}
use Rattle.headline.proofs.PastWrites.{past_writes_stay}
use Rattle.headline.proofs.StopMoves.{stop_moves}
use Rattle.headline.proofs.Whole.{openings_keep}

-- if the devices of the nodes that are there are the same, they rest likewise
module _ {D : Type 0} (state : D → State) (honest : D → Type 0) (moment : D → ℕ) (left_since : D → ℕ → List ℕ → Type 0) (store shards : ℕ) (old new : NodeName → D × D)
    (same : (n : NodeName) → IsThere shards n → new n ≡ old n) where
  was_left : (n : NodeName) (found : List Record) → IsThere shards n → stops state honest store shards new n found → stops state honest store shards old n found
  was_left n found there = subst (λ (p : D × D). Finds (left (state p.0)) (left (state p.1)) found) (same n there)

  same_sound : AreSound state honest store shards old → AreSound state honest store shards new
  same_sound sound = record {
    honest_a = λ n there. subst (λ (p : D × D). honest p.0) (sym (same n there)) (sound.honest_a n there);
    honest_b = λ n there. subst (λ (p : D × D). honest p.1) (sym (same n there)) (sound.honest_b n there);
    readable = λ n a b there in_a in_b. sound.readable n a b there (subst (λ (p : D × D). left (state p.0) a) (same n there) in_a) (subst (λ (p : D × D). left (state p.1) b) (same n there) in_b);
  }

  pub same_rest : (m : Machine) → RestsOver state honest store shards old m → RestLikewise state honest moment left_since store shards old new m
  same_rest = rest_likewise state honest moment left_since store shards old new same_sound was_left

module _ {D : Type 0} (set : D → ℕ → Tear → Type 0) (state : D → State) (honest : D → Type 0) (moment : D → ℕ) (left_since : D → ℕ → List ℕ → Type 0)
    (counts_now : (d : D) (t : ℕ) (c : List ℕ) → honest d → t ≤ moment d → left (state d) c → left_since d t c)
    (only_now : (d : D) (c : List ℕ) → honest d → left_since d (moment d) c → left (state d) c) (store shards : ℕ) (any : D) where
  -- the devices of a world are those of a store that shows it
  pub same_devices : (w : WorldView D) (s : Store D) (devices : NodeName → D × D) → w.shards ≡ shards → Shows w s → AreDevicesOf set state honest moment left_since w devices
      → (n : NodeName) → IsThere shards n → devices n ≡ s.devices n
  same_devices w s devices shards_is shows are n there = by_node (node_at w.nodes (named n)) refl
    where
      by_node : (o : Option (NodeView D)) → node_at w.nodes (named n) ≡ o → devices n ≡ s.devices n
      by_node None at = absurd (node_there w.shards w.nodes n shows.count (subst (λ (k : ℕ). IsThere k n) (sym shards_is) there) at)
      by_node (Some v) at = are n v at ∙ sym (shows.nodes n v at).devices

  -- a stop between devices is one between those that are the same
  pub same_stop : (old older new newer stopped : NodeName → D × D) → ((n : NodeName) → IsThere shards n → old n ≡ older n) → ((n : NodeName) → IsThere shards n → new n ≡ newer n)
      → IsStopped state honest moment left_since store shards old new stopped → IsStopped state honest moment left_since store shards older newer stopped
  same_stop old older new newer stopped same_old same_new stop = record {
    honest_a = stop.honest_a;
    honest_b = stop.honest_b;
    a = λ n there. subst (λ (p : D × D). SettlesOne state honest moment left_since store shards p.0 (newer n).0 (stopped n).0) (same_old n there)
        (subst (λ (p : D × D). SettlesOne state honest moment left_since store shards (old n).0 p.0 (stopped n).0) (same_new n there) (stop.a n there));
    b = λ n there. subst (λ (p : D × D). SettlesOne state honest moment left_since store shards p.1 (newer n).1 (stopped n).1) (same_old n there)
        (subst (λ (p : D × D). SettlesOne state honest moment left_since store shards (old n).1 p.1 (stopped n).1) (same_new n there) (stop.b n there));
  }

  module _ (old new : List D) (m : Machine) (ids : List WriteId) (some : 1 ≤ shards) (few : shards ≤ max_shards) (count : length old ≡ 2 * (shards + 1))
      (rests : RestsOver state honest store shards (devices_at any old) m) (told_all : All (IsToldOver state honest store shards (devices_at any old) m) ids) where
    module _ (life : Life) (opened : WorldView D) (is_opened : IsOpenedOver state honest moment left_since store shards old opened) where
      abbrev k : KeepsOpened state honest moment left_since any old store shards opened
      k = openings_keep state honest moment left_since counts_now only_now any old store shards opened some few count is_opened

      abbrev reopened : Reopened state honest moment left_since store shards (devices_at any old) m ids k.later
      reopened = (k.reopens m ids rests told_all).0

      -- a write that came to nothing before the life
      was_past : (id : WriteId) → IsPastOver state honest moment left_since store shards (devices_at any old) m id → IsPast state honest moment left_since store shards k.later reopened.after id
      was_past id is = past_opened state honest moment left_since store shards (devices_at any old) m ids k.later k.reopens rests told_all id is

      -- the steps of the life
      acted : (last : WorldView D) → All IsWholeStep (steps_in life.acts) → Acted set state honest moment left_since opened life.acts life.told last
          → KeepsActs set state honest moment left_since store shards k.later reopened.after 0 life.acts life.told last
      acted last whole acts =
          let stands = subst (λ (n : ℕ). StandsOver state honest n opened.shards k.later reopened.after) (sym is_opened.store_is)
          (subst (λ (n : ℕ). StandsOver state honest store n k.later reopened.after) (sym is_opened.shards_is) reopened.stands) in
          let all = acts_keep set state honest moment left_since (steps_keep state honest moment left_since counts_now only_now) opened last k.later reopened.after 0 life.acts life.told k.shows whole acts stands in
          subst (λ (n : ℕ). KeepsActs set state honest moment left_since n shards k.later reopened.after 0 life.acts life.told last) is_opened.store_is
          (subst (λ (n : ℕ). KeepsActs set state honest moment left_since opened.store n k.later reopened.after 0 life.acts life.told last) is_opened.shards_is all)

      -- what a life is that got past its opening, if moves lead on from its last moment
      runs_in : (last : WorldView D) (over : KeepsActs set state honest moment left_since store shards k.later reopened.after 0 life.acts life.told last) (after : Machine) (ending : List Move)
          → Moves over.after.machine ending after → RunsIn set state honest moment left_since store shards any old m ids life after over.after.told
      runs_in last over after ending ends = record {
        opened = opened;
        first = k.later;
        shows_first = k.shows;
        reopened = reopened;
        inside = (k.reopens m ids rests told_all).1;
        last = last;
        acted = over;
        told_is = refl;
        ending = ending;
        ends = ends;
      }

      all_moves : (last : WorldView D) (over : KeepsActs set state honest moment left_since store shards k.later reopened.after 0 life.acts life.told last) (after : Machine) (ending : List Move)
          → Moves over.after.machine ending after → (moves : List Move) × Moves m moves after
      all_moves last over after ending ends =
          let ran = runs_move shards (NamesHorizon state honest store shards k.later reopened.after) 0 reopened.after over.after (map step_of (steps_in life.acts)) (numbered 0 life.told) over.run in (
            reopened.opened.moves ++ (ran.0 ++ ending),
            moves_then m reopened.after.machine after reopened.opened.moves (ran.0 ++ ending) reopened.opened.machine (moves_then reopened.after.machine over.after.machine after ran.0 ending ran.1 ends),
          )

      by_end : (end : End) → life.end ≡ end → EndsOver set state honest moment left_since store shards any old opened life.acts life.told end new
          → Lived set state honest moment left_since store shards any old m ids life new
      unfolding runs_in acted
      by_end closes is (last, whole, acts, are) =
          let over = acted last whole acts in
          let closed = closed_stores_rest state honest moment left_since store shards over.later over.after over.stands in
          let same = same_devices last over.later (devices_at any new) over.shards_is over.shows are in
          let likewise = same_rest state honest moment left_since store shards over.later.devices (devices_at any new) same over.after.machine closed.0 in
          let moves = all_moves last over over.after.machine [] refl in
          record {
            after = over.after.machine;
            told = over.after.told;
            moves = moves.0;
            moved = moves.1;
            rests = likewise.rests;
            told_stays = λ j d lt. likewise.told (get_or over.after.told j d) (closed.1 j d lt);
            past = λ id is. let still = over.past id (was_past id is) in likewise.past id (record { given = still.given.epoch; unlisted = still.unlisted });
            runs = subst (λ (e : End). IsRunIn set state honest moment left_since store shards any old m ids life e over.after.machine over.after.told) (sym is) (runs_in last over over.after.machine [] refl, refl);
          }
      by_end stops_opening is (devices, none, nothing, are, stop) =
          let same = same_devices opened k.later devices is_opened.shards_is k.shows are in
          let stopped = stopped_openings_rest state honest moment left_since store shards (devices_at any old) (devices_at any new) k.later m ids rests told_all reopened (k.reopens m ids rests told_all).1
          (same_stop (devices_at any old) (devices_at any old) devices k.later.devices (devices_at any new) (λ n there. refl) same stop) in
          let moves = stop_moves m reopened.after.machine stopped.0 reopened.opened.moves reopened.opened.machine stopped.1 stopped.2.rests.within in
          record {
            after = stopped.0;
            told = ids;
            moves = moves.0;
            moved = moves.1;
            rests = stopped.2;
            told_stays = stopped.3;
            past = λ id is. past_stopped state honest moment left_since store shards (devices_at any old) k.later.devices (devices_at any new)
                (same_stop (devices_at any old) (devices_at any old) devices k.later.devices (devices_at any new) (λ n there. refl) same stop)
                m reopened.after.machine stopped.0 id (k.reopens m ids rests told_all).1 stopped.1 is.given is.unlisted (was_past id is).unlisted;
            runs = subst (λ (e : End). IsRunIn set state honest moment left_since store shards any old m ids life e stopped.0 ids) (sym is) (refl, (k.later, reopened, stopped.1));
          }
      by_end (stops_within step) is (last, next, tells, devices, later, whole, acts, whole_step, takes, are, are_next, stop) =
          let over = acted last whole acts in
          let keeps = steps_keep state honest moment left_since counts_now only_now step last next over.later tells over.shows whole_step takes in
          let standing = subst (λ (n : ℕ). StandsOver state honest n last.shards over.later over.after) (sym over.store_is)
          (subst (λ (n : ℕ). StandsOver state honest store n over.later over.after) (sym over.shards_is) over.stands) in
          let shows_next = keeps.shows over.after standing in
          let ran_there = keeps.runs 0 over.after standing in
          let ran : Ran state honest moment left_since store shards over.later over.after 0 (step_of step) (events_of 0 (all_told tells)) keeps.later =
          subst (λ (n : ℕ). Ran state honest moment left_since n shards over.later over.after 0 (step_of step) (events_of 0 (all_told tells)) keeps.later) over.store_is
          (subst (λ (n : ℕ). Ran state honest moment left_since last.store n over.later over.after 0 (step_of step) (events_of 0 (all_told tells)) keeps.later) over.shards_is ran_there) in
          let same = same_devices last over.later devices over.shards_is over.shows are in
          let same_next = same_devices next keeps.later later (keeps.shards_is ∙ over.shards_is) shows_next are_next in
          let stopped = stopped_steps_rest state honest moment left_since store shards over.later keeps.later over.after 0 (step_of step) (events_of 0 (all_told tells)) (devices_at any new) over.stands ran
          (same_stop devices over.later.devices later keeps.later.devices (devices_at any new) same same_next stop) in
          let one = runs_move shards (NamesHorizon state honest store shards over.later over.after) 0 over.after ran.after (step_of step ∷ []) (events_of 0 ran.told ++ [])
          (ran.after, ran.told, [], ran.takes, (refl, refl), refl) in
          let ending = stop_moves over.after.machine ran.after.machine stopped.0 one.0 one.1 stopped.1 stopped.2.rests.within in
          let moves = all_moves last over stopped.0 ending.0 ending.1 in
          record {
            after = stopped.0;
            told = over.after.told;
            moves = moves.0;
            moved = moves.1;
            rests = stopped.2;
            told_stays = stopped.3;
            past = λ id is.
                let still = over.past id (was_past id is) in
                let next_past = past_writes_stay state honest moment left_since store shards over.later keeps.later over.after 0 (step_of step) (events_of 0 (all_told tells)) id over.stands ran still in
                past_stopped state honest moment left_since store shards over.later.devices keeps.later.devices (devices_at any new)
                (same_stop devices over.later.devices later keeps.later.devices (devices_at any new) same same_next stop)
                over.after.machine ran.after.machine stopped.0 id ran.inside stopped.1 still.given.epoch still.unlisted next_past.unlisted;
            runs = subst (λ (e : End). IsRunIn set state honest moment left_since store shards any old m ids life e stopped.0 over.after.told) (sym is) (runs_in last over stopped.0 ending.0 ending.1, tells, keeps.later, ran, stopped.1);
          }

    -- a life, whatever its end
    lives_once : (life : Life) → LivesOnce set state honest moment left_since store shards any old life new → Lived set state honest moment left_since store shards any old m ids life new
    lives_once life (opened, is_opened, ends, new_count) = by_end life opened is_opened life.end refl ends

  -- and so one after another
  pub many_lives : (old new : List D) (lives : List Life) (m : Machine) (ids : List WriteId) → 1 ≤ shards → shards ≤ max_shards → length old ≡ 2 * (shards + 1)
      → RestsOver state honest store shards (devices_at any old) m → All (IsToldOver state honest store shards (devices_at any old) m) ids
      → LivesAll set state honest moment left_since store shards any old lives new → LivesOn set state honest moment left_since store shards any old m ids lives new
  many_lives old new [] m ids some few count rests told_all same = record {
    after = m;
    told = ids;
    chain = refl;
    moves = [];
    moved = refl;
    kept_stays = refl;
    rests = subst (λ (l : List D). RestsOver state honest store shards (devices_at any l) m) (sym same) rests;
    told_stays = subst (λ (l : List D). All (IsToldOver state honest store shards (devices_at any l) m) ids) (sym same) told_all;
    past = λ id is. subst (λ (l : List D). IsPastOver state honest moment left_since store shards (devices_at any l) m id) (sym same) is;
  }
  many_lives old new (life ∷ lives) m ids some few count rests told_all (there, mid, found_of, once, all) =
      let likewise = what_is_found_rests state honest moment left_since store shards any old there m count found_of rests in
      let lived = lives_once there mid m ids some few (found_of.count ∙ count) likewise.rests (λ j d lt. likewise.told (get_or ids j d) (told_all j d lt)) life once in
      let further = many_lives mid new lives lived.after lived.told some few once.3 lived.rests lived.told_stays all in
      let moved = moves_then m lived.after further.after lived.moves further.moves lived.moved further.moved in
      record {
        after = further.after;
        told = further.told;
        chain = (there, mid, found_of, lived, further.chain);
        moves = lived.moves ++ further.moves;
        moved = moved;
        kept_stays = (kept_stay m further.after (lived.moves ++ further.moves) rests.rests.within moved).3;
        rests = further.rests;
        told_stays = further.told_stays;
        past = λ id is. further.past id (lived.past id (likewise.past id is));
      }

pub many : {D : Type 0} (set : D → ℕ → Tear → Type 0) (state : D → State) (honest : D → Type 0) (moment : D → ℕ) (left_since : D → ℕ → List ℕ → Type 0)
    → ((d : D) (t : ℕ) (c : List ℕ) → honest d → t ≤ moment d → left (state d) c → left_since d t c)
    → ((d : D) (c : List ℕ) → honest d → left_since d (moment d) c → left (state d) c) → (store shards : ℕ) → ManyLives set state honest moment left_since store shards
many set state honest moment left_since counts_now only_now store shards any = many_lives set state honest moment left_since counts_now only_now store shards any

-- How the opening of a whole store begins. If both devices of the coordinator are revived it is known what its opening finds, whether it then comes up or is
-- refused: the machine is cut to that, and the store stands, closed, over the revived devices. If one fails as it is revived nothing is known of what it
-- would find: the store stands, closed, at all of its log, over the devices as they were. From there on each opening of a node is a step, the coordinator's
-- first.
use Rattle.std.proofs.Common.{◌≡◌, ◌≢◌, inl, ⊎_elim, ◌≤◌, ◌<◌, ℕ, List, [], get_or, Some, All, refl, sym, ◌∙◌, ap, subst, arith}
use Rattle.std.proofs.lemmas.List.Elements.{All-nil}
use Rattle.std.proofs.lemmas.Option.{same_Some}
use Rattle.headline.proofs.Words.{AreSound, FoundHorizon, IsFound, IsOfOpening, IsRevived, IsThere, IsToldOver, Machine, Move, Moves, NodeName, NodeView, Opens, Record, Reopened, RestsOver, Revived, ShardMeans, Stands, State, WriteId, coordinator, coordinator_state, cut_to, found, last_sync, leaves_nothing_else, left, named, shard, shard_state, stops}
use Rattle.records.specs.Coordinators.{end_of}
use Rattle.device.specs.Device.{Leaves}
use Rattle.turns.specs.ReopenLaws.{FindsCoordinator}
use Rattle.turns.proofs.ClosedStore.{closed_stores_stand}
use Rattle.turns.proofs.RunNames.{of_opening}
use Rattle.headline.proofs.Closed.{closed_with, stands_told, stands_uncut, told_cut}
use Rattle.headline.proofs.Places.{in_place}
use Rattle.headline.proofs.Within.{found_again, less_left}

module _ {D : Type 0} (state : D → State) (honest : D → Type 0) (moment : D → ℕ) (left_since : D → ℕ → List ℕ → Type 0)
    (counts_now : (d : D) (t : ℕ) (c : List ℕ) → honest d → t ≤ moment d → left (state d) c → left_since d t c) (only_now : (d : D) (c : List ℕ) → honest d → left_since d (moment d) c → left (state d) c)
    (store shards : ℕ) (old : NodeName → D × D) (m : Machine) (told : List WriteId) (is : NodeView D) where
  -- The devices from which the openings are steps: no other node's than the coordinator's have changed, and of its own a stop leaves no more than before. The
  -- store stands over them, closed, at a machine to which moves of an opening lead; and the coordinator's opening is one over them.
  pub record Begins : Type 0 where
    pub mid : NodeName → D × D
    pub machine : Machine
    pub moves : List Move
    pub moved : Moves m moves machine
    pub allowed : All (IsOfOpening (FoundHorizon state honest moment left_since store shards old)) moves
    pub stands : Stands store shards (stops state honest store shards mid) (closed_with machine told)
    pub sound : AreSound state honest store shards mid
    pub others : (n : NodeName) → n ≢ coordinator → mid n ≡ old n
    pub reopened : Reopened state honest moment left_since store shards (named coordinator) (mid coordinator).0 (mid coordinator).1 is
    pub less : (rs : List Record) → stops state honest store shards mid coordinator rs → stops state honest store shards old coordinator rs

  module _ (rests : RestsOver state honest store shards old m) (told_over : All (IsToldOver state honest store shards old m) told)
      (reopened : Reopened state honest moment left_since store shards (named coordinator) (old coordinator).0 (old coordinator).1 is) where
    abbrev before : NodeName → List Record → Type 0
    before = stops state honest store shards old

    hon_a : honest (old coordinator).0
    hon_a = rests.sound.honest_a coordinator tt

    hon_b : honest (old coordinator).1
    hon_b = rests.sound.honest_b coordinator tt

    -- one of the devices failed
    whole : ((s : ℕ) (found : List Record) → s < shards → before (shard s) found → ShardMeans shards s m.log m.horizon m.horizon (shard_state found)) → Begins
    whole listed =
        let a = state (old coordinator).0 in
        let b = state (old coordinator).1 in
        let rs = rests.sound.readable coordinator a.durable b.durable tt (last_sync a) (last_sync b) in
        record {
          mid = old;
          machine = m;
          moves = [];
          moved = refl;
          allowed = All-nil (IsOfOpening (FoundHorizon state honest moment left_since store shards old));
          stands = stands_told store shards before m told
              (stands_uncut store shards before m rests.rests (rs.0, (a.durable, b.durable, last_sync a, last_sync b, rs.1)) listed rests.given)
              (λ j d lt. let was = told_over j d lt in (was.given, was.none));
          sound = rests.sound;
          others = λ n ne. refl;
          reopened = reopened;
          less = λ rs is. is;
        }

    -- both were revived
    module _ (fa : IsFound state honest moment left_since (old coordinator).0 reopened.a) (fb : IsFound state honest moment left_since (old coordinator).1 reopened.b)
        (opens : Opens state honest moment left_since store shards (named coordinator) reopened.a reopened.b is) where
      abbrev between : NodeName → D × D
      between = in_place coordinator (reopened.a, reopened.b) old

      revived_a : Revived (state (old coordinator).0) (state reopened.a)
      revived_a = fa.0 hon_a

      revived_b : Revived (state (old coordinator).1) (state reopened.b)
      revived_b = fb.0 hon_b

      reads : (rs : List Record) × (found (state reopened.a).seen (state reopened.b).seen ≡ Some rs)
      reads = rests.sound.readable coordinator (state reopened.a).seen (state reopened.b).seen tt revived_a.found revived_b.found

      could : before coordinator reads.0
      could = ((state reopened.a).seen, (state reopened.b).seen, revived_a.found, revived_b.found, reads.1)

      -- a stop leaves of a revived device what reads
      alone : (s t : State) → Revived s t → (c : List ℕ) → left t c → c ≡ t.seen
      alone s t r c in_c = leaves_nothing_else t.durable c (subst (λ (w : List (ℕ × ℕ)). Leaves t.durable w c) r.written in_c) ∙ r.durable

      finds : FindsCoordinator before (stops state honest store shards between) reads.0
      finds = record {
        was_left = could;
        here = λ rs left_there. same_Some rs reads.0 (sym left_there.4
            ∙ ap (λ (c : List ℕ). found c left_there.1) (alone (state (old coordinator).0) (state reopened.a) revived_a left_there.0 left_there.2)
            ∙ ap (found (state reopened.a).seen) (alone (state (old coordinator).1) (state reopened.b) revived_b left_there.1 left_there.3) ∙ reads.1);
        same = λ s rs left_there. left_there;
      }

      abbrev later : Machine
      later = cut_to m (coordinator_state reads.0)

      above : m.horizon ≤ (coordinator_state reads.0).horizon
      above = (rests.rests.each reads.0 could).3.decided.above

      again : (d e : D) → honest d → IsRevived state honest moment left_since d e → Revived (state d) (state e) → IsRevived state honest moment left_since e e
      again d e hon revived r = record {
        still_honest = (λ h. h, λ h. h);
        found = inl (λ h. found_again (state d) (state e) r, refl);
        counts = omega arith;
        time = λ h. record { later = omega arith; nothing_else = λ t c le in_c. inl in_c; keeps = λ t c le in_c. in_c };
      }

      found_as_it_is : (d e : D) → Revived (state d) (state e) → IsFound state honest moment left_since e e
      found_as_it_is d e r = (λ h. found_again (state d) (state e) r, refl)

      sound_between : AreSound state honest store shards between
      sound_between = record { honest_a = first; honest_b = second; readable = readable }
        where
          first : (n : NodeName) → IsThere shards n → honest (between n).0
          first coordinator there = reopened.revived_a.still_honest.0 hon_a
          first (shard s) there = rests.sound.honest_a (shard s) there

          second : (n : NodeName) → IsThere shards n → honest (between n).1
          second coordinator there = reopened.revived_b.still_honest.0 hon_b
          second (shard s) there = rests.sound.honest_b (shard s) there

          readable : (n : NodeName) (c d : List ℕ) → IsThere shards n → left (state (between n).0) c → left (state (between n).1) d → (rs : List Record) × (found c d ≡ Some rs)
          readable coordinator c d there in_c in_d = rests.sound.readable coordinator c d tt
              (less_left state honest moment left_since counts_now only_now (old coordinator).0 reopened.a hon_a reopened.revived_a c in_c)
              (less_left state honest moment left_since counts_now only_now (old coordinator).1 reopened.b hon_b reopened.revived_b d in_d)
          readable (shard s) c d there in_c in_d = rests.sound.readable (shard s) c d there in_c in_d

      others_between : (n : NodeName) → n ≢ coordinator → between n ≡ old n
      others_between coordinator ne = absurd (ne refl)
      others_between (shard s) ne = refl

      found_so : Begins
      found_so =
          let closed = closed_stores_stand store shards before (stops state honest store shards between) m reads.0 rests.rests finds in
          record {
            mid = between;
            machine = later;
            moves = closed.1.0;
            moved = closed.1.1;
            allowed = λ j d lt. of_opening _ (FoundHorizon state honest moment left_since store shards old) (λ x high. (high.0, (reads.0, could, high.1))) (get_or closed.1.0 j d) (closed.1.2 j d lt);
            stands = stands_told store shards (stops state honest store shards between) later told closed.0 (λ j d lt.
                let was = told_over j d lt in (
                  λ rs left_there. subst (λ (l : List Record). (get_or told j d).epoch ≤ (coordinator_state l).epoch) (sym (finds.here rs left_there)) (was.given reads.0 could),
                  told_cut m (end_of (coordinator_state reads.0)) (coordinator_state reads.0).horizon (get_or told j d) above was.none,
                ));
            sound = sound_between;
            others = others_between;
            reopened = record {
              a = reopened.a;
              b = reopened.b;
              revived_a = again (old coordinator).0 reopened.a hon_a reopened.revived_a revived_a;
              revived_b = again (old coordinator).1 reopened.b hon_b reopened.revived_b revived_b;
              opens = inl (found_as_it_is (old coordinator).0 reopened.a revived_a, found_as_it_is (old coordinator).1 reopened.b revived_b, opens);
            };
            less = λ rs left_there. subst (before coordinator) (sym (finds.here rs left_there)) could;
          }

    pub begins : ((s : ℕ) (found : List Record) → s < shards → before (shard s) found → ShardMeans shards s m.log m.horizon m.horizon (shard_state found)) → Begins
    begins listed = ⊎_elim
        (λ was. found_so was.0 was.1 was.2)
        (λ failed. whole listed)
        reopened.opens

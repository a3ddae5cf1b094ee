-- A small life of a store: over devices to which nothing was ever written, and which fail again as they are revived, one shard and its coordinator are
-- opened, and each is refused as down. A flush of the coordinator begins, ends with that refusal, and a turn of its slot then finds no flow. So all that the
-- headline asks for can be met at once.
use Rattle.std.proofs.Common.{◌≡◌, ◌≢◌, inl, inr, ◌≤◌, ℕ, zero, suc, false, true, true≢false, List, [], ◌∷◌, length, Option, Err, Some, None, All, refl, sym, ◌∙◌, arith}
use Rattle.std.proofs.lemmas.List.Elements.{All-nil, All-cons}
use Rattle.headline.proofs.Words.{AddsFlow, Began, Care, CareFlow, Coordinator, Down, Event, Flow, Flush, IsOpenedOver, IsRevived, IsThere, IsToldOver, IsWholeStep, Lives, NodeView, Reopened, RestsOver, State, Step, TookAll, Turn, WorldView, care_for, coordinator, devices_at, flow_at, from_coordinator, left, over, ready, shard}
use Rattle.device.specs.Device.{Failed, reach}
use Rattle.names.specs.declared.care.Care.TheVariants as cares
use Rattle.names.specs.declared.node_name.NodeName.TheVariants as named
use Rattle.calls.specs.Views.{refused}
use Rattle.calls.specs.declared.call.CoordinatorCall.TheVariants as calls
use Rattle.calls.specs.declared.progress.Progress.TheVariants as made
use Rattle.calls.specs.declared.reply.CoordinatorReply.TheVariants as told
use Rattle.care_flow.specs.Flushing.{flush}
use Rattle.care_flow.specs.Views.{out}
use Rattle.care_flow.specs.declared.care.CareCall.{CareCall}
use Rattle.care_flow.specs.declared.care.CareCall.TheVariants as outs
use Rattle.care_flow.specs.declared.end.CareEnd.TheVariants as ends
use Rattle.cluster.specs.Runs.{Took}
use Rattle.cluster.specs.declared.event.What.TheVariants.{Refused}
use Rattle.names.specs.declared.node_name.NodeName.{NodeName}
use Rattle.laws.specs.Nodes as nodes
use Rattle.stores.specs.NewStores.{empty_machine}
use Rattle.turns.specs.StoreLaws.{IsUnmade}
use Rattle.turns.proofs.ClosedStoreRests.{unmade_stores_rest}
use Rattle.headline.proofs.Joined.{lives}

-- the flush of the coordinator before its call, with the call out, and after its end
abbrev fresh : CareFlow
fresh = Flush (record { node = named.Coordinator; is_checkpoint = false; seen = ready tt flush })

abbrev asking : CareCall
asking = outs.Flush (record { node = named.Coordinator; is_checkpoint = false; seen = out tt flush })

abbrev refused_down : CareFlow
refused_down = Flush (record { node = named.Coordinator; is_checkpoint = false; seen = over tt (ends.Refused Down) })

-- a flush begins, its turn is its end, and there is none to turn then
abbrev pub steps : List Step
steps = care_for (cares.Flush named.Coordinator) ∷ Turn 0 ∷ Turn 0 ∷ []

abbrev began : Event
began = record { step = 0; what = Began 0 }

abbrev was_refused : Event
was_refused = record { step = 1; what = Refused Down }

abbrev pub events : List Event
events = began ∷ was_refused ∷ []

-- four devices that are alike, two at each node
abbrev pub four : {D : Type 0} → D → List D
four d = d ∷ d ∷ d ∷ d ∷ []

-- a node whose opening was refused, and a world of two such nodes, with this in its slots
abbrev away : {D : Type 0} → D → NodeView D
away d = refused Down d d

abbrev pub world : {D : Type 0} → D → List (Option Flow) → WorldView D
world d flows = record { store = 7; shards = 1; nodes = away d ∷ away d ∷ []; flows = flows }

-- each slot but the first has as much as when there is none
elsewhere : (flow : Option Flow) (slot : ℕ) → slot ≢ 0 → flow_at (flow ∷ []) slot ≡ flow_at [] slot
elsewhere flow zero ne = absurd (ne refl)
elsewhere flow (suc slot) ne = refl

module _ {D : Type 0} (state : D → State) (honest : D → Type 0) (moment : D → ℕ) (left_since : D → ℕ → List ℕ → Type 0) (old new : D) where
  -- what the steps ask for is whole
  whole : All IsWholeStep steps
  whole = All-cons IsWholeStep (care_for (cares.Flush named.Coordinator)) (Turn 0 ∷ Turn 0 ∷ []) tt (All-cons IsWholeStep (Turn 0) (Turn 0 ∷ []) tt (All-cons IsWholeStep (Turn 0) [] tt (All-nil IsWholeStep)))

  -- the flush begins in the first slot
  begins : Took state honest moment left_since (world new []) 0 (care_for (cares.Flush named.Coordinator)) (began ∷ []) (world new (Some (Care fresh) ∷ []))
  begins = (Some (Began 0), (record { nowhere = λ never. absurd (never tt); full = λ may many. absurd (omega (arith, many)); begins = λ may few. there }, refl), refl)
    where
      there : AddsFlow [] (Care fresh) (Some (Began 0)) (Some (Care fresh) ∷ [])
      there = record { slot = 0; free = refl; puts = record { at = refl; others = elsewhere (Some (Care fresh)) }; tells = refl }

  -- its turn calls the coordinator, and ends with the refusal
  ends_refused : Took state honest moment left_since (world new (Some (Care fresh) ∷ [])) 1 (Turn 0) (was_refused ∷ []) (world new (None ∷ []))
  ends_refused = (
    Some (Refused Down),
    (
      record {
        after = made.Ended (Some (Refused Down));
        turns = (
          made.Ended (ends.Refused Down),
          record {
            call = Coordinator calls.Flush;
            out = asking;
            reply = from_coordinator (told.Flush (Err Down));
            asked = (refl, (refl, refl, (refl, refl)), λ shards there. tt);
            fits = tt;
            whole = tt;
            called = record { is = away new; answers = inl (refl, refl); new_is = refl };
            given = (refused_down, ((refl, refl, (ends.Refused Down, refl, refl)), (ends.Refused Down, refl)), record { unnamed = refl; over = refl; end_is = refl; each = tt });
          },
          refl,
        );
        leaves = (record { at = refl; others = λ slot ne. elsewhere None slot ne ∙ sym (elsewhere (Some (Care fresh)) slot ne) }, refl);
      },
      refl,
    ),
    refl,
  )

  -- and the next turn finds no flow
  finds_none : Took state honest moment left_since (world new (None ∷ [])) 2 (Turn 0) [] (world new (None ∷ []))
  finds_none = (None, (refl, refl), refl)

  took : TookAll state honest moment left_since (world new []) 0 steps events (world new (None ∷ []))
  took = (
    world new (Some (Care fresh) ∷ []),
    began ∷ [],
    was_refused ∷ [],
    begins,
    (world new (None ∷ []), was_refused ∷ [], [], ends_refused, (world new (None ∷ []), [], [], finds_none, (refl, refl), refl), refl),
    refl,
  )

  module _ (is_honest : honest old) (unmade : IsUnmade (state old)) (revived : IsRevived state honest moment left_since old new) (failed : Failed (state old) (state new)) where
    -- each node is opened over devices that fail again
    fails : (name : NodeName) → Reopened state honest moment left_since 7 1 name old old (away new)
    fails name = record { a = new; b = new; revived_a = revived; revived_b = revived; opens = inr (refl, inl failed) }

    is_opened : IsOpenedOver state honest moment left_since 7 1 (four old) (world new [])
    is_opened = record { store_is = refl; shards_is = refl; nodes = (fails named.Coordinator, (fails (named.Shard 0), tt)); flows = refl }

    -- which rest at the empty log
    rests : RestsOver state honest 7 1 (devices_at old (four old)) empty_machine
    rests = unmade_stores_rest state honest moment left_since 7 1 (devices_at old (four old)) honest_there unmade_there
      where
        honest_there : (n : nodes.NodeName) → IsThere 1 n → honest (devices_at old (four old) n).0 × honest (devices_at old (four old) n).1
        honest_there coordinator there = (is_honest, is_honest)
        honest_there (shard zero) there = (is_honest, is_honest)
        honest_there (shard (suc s)) there = absurd (omega (arith, there))

        unmade_there : (n : nodes.NodeName) → IsThere 1 n → IsUnmade (state (devices_at old (four old) n).0) × IsUnmade (state (devices_at old (four old) n).1)
        unmade_there coordinator there = (unmade, unmade)
        unmade_there (shard zero) there = (unmade, unmade)
        unmade_there (shard (suc s)) there = absurd (omega (arith, there))

    -- so the store lives, if what a stop may leave of a device since now is what it may leave now: by these steps, and by none
    module _ (counts_now : (d : D) (t : ℕ) (c : List ℕ) → honest d → t ≤ moment d → left (state d) c → left_since d t c)
        (only_now : (d : D) (c : List ℕ) → honest d → left_since d (moment d) c → left (state d) c) where
      pub life : Lives state honest moment left_since 7 1 (devices_at old (four old)) empty_machine [] steps events (world new (None ∷ []))
      life = lives state honest moment left_since counts_now only_now 7 1 old (four old) (world new []) (world new (None ∷ [])) steps events empty_machine [] (omega arith) (omega arith) refl rests
          (All-nil (IsToldOver state honest 7 1 (devices_at old (four old)) empty_machine)) is_opened whole took

      pub still_life : Lives state honest moment left_since 7 1 (devices_at old (four old)) empty_machine [] [] [] (world new [])
      still_life = lives state honest moment left_since counts_now only_now 7 1 old (four old) (world new []) (world new []) [] [] empty_machine [] (omega arith) (omega arith) refl rests
          (All-nil (IsToldOver state honest 7 1 (devices_at old (four old)) empty_machine)) is_opened (All-nil IsWholeStep) (refl, refl)

-- A small device: it is what the laws see of it. Honest is one that reads as a stop may leave it, and at its longest; and no time passes at it.
abbrev pub itself : State → State
itself s = s

pub record IsHonest (s : State) : Type 0 where
  pub reads_left : s.stopped ≡ false → left s s.seen
  pub reads_longest : s.stopped ≡ false → reach s.written (length s.durable) ≤ length s.seen

abbrev pub at_once : State → ℕ
at_once s = 0

abbrev pub left_now : State → ℕ → List ℕ → Type 0
left_now s t c = left s c

abbrev pub unmade : State
unmade = record { seen = []; durable = []; written = []; stopped = false; failures = 0 }

abbrev failed_once : State
failed_once = record { seen = []; durable = []; written = []; stopped = true; failures = 1 }

pub unmade_honest : IsHonest unmade
unmade_honest = record { reads_left = λ up. record { no_shorter = omega arith; no_longer = omega arith; same = λ i lt none. refl }; reads_longest = λ up. omega arith }

failed_honest : IsHonest failed_once
failed_honest = record { reads_left = λ up. absurd (true≢false up); reads_longest = λ up. absurd (true≢false up) }

fails_again : Failed unmade failed_once
fails_again = record { cause = inl (omega arith); stopped = refl }

revived : IsRevived itself IsHonest at_once left_now unmade failed_once
revived = record {
  still_honest = (λ was. failed_honest, λ is. unmade_honest);
  found = inr (λ was. record { seen = refl; durable = refl; written = refl }, fails_again);
  counts = omega arith;
  time = λ was. record { later = omega arith; nothing_else = λ t c le is. inr is; keeps = λ t c le is. is };
}

-- so there is such a life
pub small_life : Lives itself IsHonest at_once left_now 7 1 (devices_at unmade (four unmade)) empty_machine [] steps events (world failed_once (None ∷ []))
small_life = life itself IsHonest at_once left_now unmade failed_once unmade_honest (record { durable = refl; written = refl }) revived fails_again (λ d t c fine le is. is) (λ d c fine is. is)

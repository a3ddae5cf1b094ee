-- A flow over a store that stands, from its beginning to its answer.
use Rattle.std.proofs.Common.{◌≡◌, ◌⊎◌, inl, inr, ⊎_elim, ◌==◌, ℕ, true≢false, false, List, [], ◌∷◌, ◌++◌, Contains, Option, Some, None, MatchOption, slice_get, refl, sym, ◌∙◌, ap, subst, arith, eq-eqb, if◌then◌else◌}
use Rattle.std.proofs.lemmas.List.Elements.{Contains-push_cases}
use Rattle.flow_turns.proofs.Slots.{at_ended, at_replaced, found_at}
use Rattle.cluster.specs.Flows.{next_name_of}
use Rattle.cluster.specs.Steps.{Takes}
use Rattle.cluster.specs.Worlds.{WorldView, flow_at as flow_in}
use Rattle.cluster.specs.declared.event.Answer.{Answer}
use Rattle.cluster.specs.declared.event.What.{What}
use Rattle.cluster.specs.declared.event.What.TheVariants.{Began, Ended, Next, Refused, Up}
use Rattle.cluster.specs.declared.flow.Flow.{Flow}
use Rattle.cluster.specs.declared.step.Step.{Step}
use Rattle.cluster.specs.declared.step.Step.TheVariants.{Turn}
use Rattle.device.specs.Device.{State}
use Rattle.headline.specs.Promised.{StepsKeep}
use Rattle.headline.specs.Shown.{IsShownSlot, Shows}
use Rattle.headline.specs.Told.{IsWholeStep, all_told, answer_of, step_of}
use Rattle.laws.specs.Machines.{Machine}
use Rattle.names.specs.declared.call_name.CallName.{CallName}
use Rattle.refusal.specs.declared.refusal.Refusal.TheVariants.{Full}
use Rattle.scripts.specs.Going.{GoesOn as CallGoesOn, GoesOnFrom, Turns as MakesTurns, last_told}
use Rattle.scripts.specs.Stepping.{IsNext}
use Rattle.tuples.specs.declared.change.Change.{Change}
use Rattle.tuples.specs.declared.change.Condition.{Condition}
use Rattle.tuples.specs.declared.entry.WriteId.{WriteId}
use Rattle.stores.proofs.FlowBegins.{alone}
use Rattle.turns.proofs.Chains.{same_told}
use Rattle.stores.specs.Flows.{Asked, IsAsked, to_write}
use Rattle.stores.specs.Moments.{Moment, Running, SawFirst, begun, ended, flow_at, replaced}
use Rattle.stores.specs.Replies as replies
use Rattle.stores.specs.Replies.{Agrees}
use Rattle.turns.specs.Runs as runs
use Rattle.turns.specs.Runs.{Begins, Decides, DecidesNothing, EndsAs, IfRunning, IsIdle, MayRise, Told, Turns, answered, began, came_up, goes_on, refuses, start, told_by}
use Rattle.stores.specs.Stores.{FlowView, NamesHorizon, ShowsSlot, StandsOver, Store}
use Rattle.dumping.specs.Dumped.{GoesOn}
use Rattle.dumping.specs.Gathering.{Plays, PlaysOn}
use Rattle.dumping.proofs.Machines.{goes_nowhere, goes_then, quiet_moves}

-- the first of machines of which there is a last
first_of : (seen : List Machine) (m : Machine) → (f : Machine) × (slice_get (seen ++ m ∷ []) 0 ≡ Some f) × Contains (seen ++ m ∷ []) f
first_of [] m = (m, refl, alone m [])
first_of (f ∷ seen) m = (f, refl, alone f (seen ++ m ∷ []))

module _ {D : Type 0} (state : D → State) (honest : D → Type 0) (moment : D → ℕ) (left_since : D → ℕ → List ℕ → Type 0) (keep : StepsKeep state honest moment left_since) (store shards : ℕ) (ids : List WriteId) where
  -- a store that stands shows the world, and this much was told
  pub record Standing (w : WorldView D) : Type 0 where
    pub s : Store D
    pub now : Moment
    pub shows : Shows w s
    pub stands : StandsOver state honest store shards s now
    pub store_is : w.store ≡ store
    pub shards_is : w.shards ≡ shards
    pub told_is : now.told ≡ ids

  -- the horizons that its coordinator names
  abbrev names_of : (w : WorldView D) → Standing w → ℕ → Type 0
  names_of w st = NamesHorizon state honest w.store w.shards st.s st.now

  -- and so after a step
  record Stepped (found : ℕ → Type 0) (now : Moment) (step : runs.Step) (told : List Told) (w : WorldView D) : Type 0 where
    later : Store D
    after : Moment
    shows : Shows w later
    stands : StandsOver state honest store shards later after
    store_is : w.store ≡ store
    shards_is : w.shards ≡ shards
    takes : runs.Takes shards found now step told after

  stepped : (old new : WorldView D) (st : Standing old) (step : Step) (told : Option What) → IsWholeStep step → Takes state honest moment left_since old step told new
      → Stepped (names_of old st) st.now (step_of step) (all_told told) new
  stepped old new st step told whole takes =
      let standing : StandsOver state honest old.store old.shards st.s st.now =
      subst (λ (n : ℕ). StandsOver state honest n old.shards st.s st.now) (sym st.store_is)
      (subst (λ (n : ℕ). StandsOver state honest store n st.s st.now) (sym st.shards_is) st.stands) in
      let k = keep step old new st.s told st.shows whole takes in
      let ran = k.runs 0 st.now standing in
      record {
        later = k.later;
        after = ran.after;
        shows = k.shows st.now standing;
        stands = subst (λ (n : ℕ). StandsOver state honest n shards k.later ran.after) st.store_is
            (subst (λ (n : ℕ). StandsOver state honest old.store n k.later ran.after) st.shards_is ran.stands);
        store_is = k.store_is ∙ st.store_is;
        shards_is = k.shards_is ∙ st.shards_is;
        takes = subst (λ (n : ℕ). runs.Takes n (names_of old st) st.now (step_of step) (all_told told) ran.after) st.shards_is
            (subst (λ (l : List Told). runs.Takes old.shards (names_of old st) st.now (step_of step) l ran.after) (same_told 0 (all_told told) ran.told ran.tells) ran.takes);
      }

  -- the flow in a slot was asked this, and has seen machines that go on from one
  record Flies (asked : Asked) (slot : ℕ) (base : Machine) (w : WorldView D) : Type 0 where
    standing : Standing w
    on : GoesOn base standing.now.machine
    r : Running
    at : flow_at slot standing.now.running ≡ Some r
    asked_is : r.asked ≡ asked
    quiet : r.is_cancelled ≡ false
    seen : (m : Machine) → Contains r.seen m → GoesOn base m

  -- a flow that was asked this has answered
  pub record Answered (asked : Asked) (answer : replies.Answer) (base : Machine) (w : WorldView D) : Type 0 where
    pub standing : Standing w
    pub on : GoesOn base standing.now.machine
    pub r : Running
    pub agrees : Agrees r standing.now asked answer
    pub seen : (m : Machine) → Contains r.seen m → GoesOn base m
    pub first : Machine
    pub saw : SawFirst r first
    pub from : GoesOn base first

  -- no flow is in the slot
  abbrev Gone : ℕ → WorldView D → Type 0
  Gone slot w = (s : Store D) × (now : Moment) × Shows w s × StandsOver state honest store shards s now × (flow_at slot now.running ≡ None)

  not_shown : (n : ℕ) (r : Option Running) (v : Option FlowView) (f : Option Flow) → ShowsSlot r v → IsShownSlot n f v → r ≡ None → f ≡ None
  not_shown n None None None shows shown none = refl
  not_shown n None None (Some f) shows shown none = absurd shown
  not_shown n None (Some v) f shows shown none = absurd shows
  not_shown n (Some r) v f shows shown none = absurd cc

  -- so none goes on there
  no_flow : (slot : ℕ) (w : WorldView D) → Gone slot w → GoesOnFrom (Takes state honest moment left_since) IsNext slot None w → ⊥
  no_flow slot w (s, now, shows, stands, none) (next, is_next, goes) =
      let nothing : flow_in w.flows slot ≡ None = not_shown w.shards (flow_at slot now.running) (s.flows slot) (flow_in w.flows slot) (stands.flows slot) (shows.flows slot) none in
      let no_next : next ≡ None = subst (λ (f : Option Flow). MatchOption f (next ≡ None) (λ (x : Flow). next ≡ next_name_of x)) nothing is_next in
      subst (λ (n : Option CallName). CallGoesOn None n) no_next goes

  module _ (asked : Asked) (no_write : (changes : List Change) (conditions : List Condition) → asked ≡ to_write changes conditions → ⊥) (slot : ℕ) (base : Machine) where
    -- what is so after a turn that tells this
    abbrev After : Told → WorldView D → Type 0
    After (began s) w = ⊥
    After goes_on w = Flies asked slot base w
    After (answered a) w = (told_by a ≡ [] → Answered asked a base w) × Gone slot w
    After came_up w = ⊥
    After (refuses e) w = Gone slot w

    module _ (old new : WorldView D) (f : Flies asked slot base old) (told : List Told) (st : Stepped (names_of old f.standing) f.standing.now (runs.turn slot) told new) where
      abbrev found : ℕ → Type 0
      found = names_of old f.standing

      abbrev now : Moment
      now = f.standing.now

      taken : Turns shards found now f.r told st.after
      taken = subst (λ (o : Option Running). IfRunning shards found (Turns shards found) o now told st.after) f.at st.takes

      -- it lists nothing
      goes : GoesOn base st.after.machine
      goes = goes_then base now.machine st.after.machine f.on (⊎_elim
          (λ (d : Decides shards found now f.r taken.moves st.after taken.later). absurd (no_write d.write.changes d.write.conditions (sym f.asked_is ∙ d.own)))
          (λ (nothing : DecidesNothing shards found now f.r taken.moves taken.later). quiet_moves (MayRise shards found now) now.machine st.after.machine taken.moves nothing.moves_are taken.machine)
          taken.turned.decides)

      saw : (m : Machine) → Contains taken.later.seen m → GoesOn base m
      saw m has = ⊎_elim
          (λ before. f.seen m before)
          (λ same. subst (GoesOn base) same goes)
          (Contains-push_cases f.r.seen st.after.machine m (subst (λ (l : List Machine). Contains l m) taken.turned.seen has))

      here : taken.later.slot ≡ slot
      here = taken.turned.slot ∙ (found_at slot now.running f.r f.at).1

      goes_further : EndsAs shards found now taken.later st.after goes_on → Flies asked slot base new
      goes_further ends = record {
        standing = record { s = st.later; now = st.after; shows = st.shows; stands = st.stands; store_is = st.store_is; shards_is = st.shards_is; told_is = ends.1 ∙ f.standing.told_is };
        on = goes;
        r = taken.later;
        at = ap (flow_at slot) ends.0 ∙ subst (λ (s : ℕ). flow_at s (replaced taken.later now.running) ≡ Some taken.later) here
            (at_replaced taken.later f.r now.running (subst (λ (s : ℕ). flow_at s now.running ≡ Some f.r) (sym here) f.at));
        asked_is = taken.turned.asked ∙ f.asked_is;
        quiet = taken.turned.cancelled ∙ f.quiet;
        seen = saw;
      }

      gone : st.after.running ≡ ended taken.later.slot now.running → Gone slot new
      gone is = (st.later, st.after, st.shows, st.stands, ap (flow_at slot) (is ∙ ap (λ (s : ℕ). ended s now.running) here) ∙ at_ended slot now.running f.standing.stands.stands.flows.slots)

      answers : (a : replies.Answer) → EndsAs shards found now taken.later st.after (answered a) → told_by a ≡ [] → Answered asked a base new
      answers a ends none =
          let first = first_of f.r.seen st.after.machine in
          record {
            standing = record { s = st.later; now = st.after; shows = st.shows; stands = st.stands; store_is = st.store_is; shards_is = st.shards_is; told_is = ends.2 ∙ ap (λ (l : List WriteId). l ++ now.told) none ∙ f.standing.told_is };
            on = goes;
            r = taken.later;
            agrees = subst (λ (x : Asked). Agrees taken.later st.after x a) (taken.turned.asked ∙ f.asked_is) ends.0;
            seen = saw;
            first = first.0;
            saw = ap (λ (l : List Machine). slice_get l 0) taken.turned.seen ∙ first.1;
            from = saw first.0 (subst (λ (l : List Machine). Contains l first.0) (sym taken.turned.seen) first.2);
          }

      by_told : (t : Told) → EndsAs shards found now taken.later st.after t → After t new
      by_told (began s) ends = absurd ends
      by_told goes_on ends = goes_further ends
      by_told (answered a) ends = (answers a ends, gone ends.1)
      by_told came_up ends = absurd ends
      by_told (refuses e) ends = gone ends.1

      turned_to : (t : Told) × (told ≡ t ∷ []) × After t new
      turned_to = ⊎_elim
          (λ loud. (loud.1.0, loud.1.1, by_told loud.1.0 loud.1.2))
          (λ silent. absurd (true≢false (sym silent.0 ∙ f.quiet)))
          taken.tells

    turned : (old new : WorldView D) → Flies asked slot base old → (told : Option What) → Takes state honest moment left_since old (Turn slot) told new → (t : Told) × (all_told told ≡ t ∷ []) × After t new
    turned old new f told takes = turned_to old new f (all_told told) (stepped old new f.standing (Turn slot) told tt takes)

    -- as long as it goes on, it runs
    runs_still : (all : List (Option What)) (old new : WorldView D) → Flies asked slot base old → MakesTurns (Takes state honest moment left_since) IsNext slot None all old new
        → GoesOnFrom (Takes state honest moment left_since) IsNext slot None new → Flies asked slot base new
    runs_still [] old new f is still = subst (Flies asked slot base) (sym is) f
    runs_still (told ∷ before) old new f (mid, turns, goes_mid, takes) still =
        let x = turned mid new (runs_still before old mid f turns goes_mid) told takes in by_after x.0 x.2
      where
        by_after : (t : Told) → After t new → Flies asked slot base new
        by_after (began s) after = absurd after
        by_after goes_on after = after
        by_after (answered a) after = absurd (no_flow slot new after.1 still)
        by_after came_up after = absurd after
        by_after (refuses e) after = absurd (no_flow slot new after still)

    -- and in the end it has answered
    ends_well : (a : Answer) (all : List (Option What)) (old new : WorldView D) → told_by (answer_of a) ≡ [] → Flies asked slot base old → MakesTurns (Takes state honest moment left_since) IsNext slot None all old new
        → Some (Ended a) ≡ last_told all → Answered asked (answer_of a) base new
    ends_well a [] old new none f turns last = absurd cc
    ends_well a (told ∷ before) old new none f (mid, turns, goes_mid, takes) last =
        let x = turned mid new (runs_still before old mid f turns goes_mid) told takes in
        let both : x.0 ∷ [] ≡ answered (answer_of a) ∷ [] = sym x.1 ∙ ap all_told (sym last) in
        let same : x.0 ≡ answered (answer_of a) = cc in
        (subst (λ (t : Told). After t new) same x.2).0 none

  -- a flow begins
  begins_well : (asked : Asked) (slot : ℕ) (old mid : WorldView D) (st : Standing old) (first : Step) → step_of first ≡ start asked → IsWholeStep first
      → Takes state honest moment left_since old first (Some (Began slot)) mid → Flies asked slot st.now.machine mid
  begins_well asked slot old mid st first is whole takes =
      let x = stepped old mid st first (Some (Began slot)) whole takes in
      by_cases x (subst (λ (s : runs.Step). runs.Takes shards (names_of old st) st.now s (began slot ∷ []) x.after) is x.takes)
    where
      by_cases : (x : Stepped (names_of old st) st.now (step_of first) (began slot ∷ []) mid) → (IsAsked shards asked × Begins shards (names_of old st) st.now asked (began slot ∷ []) x.after) ⊎ ((IsAsked shards asked → ⊥) × IsIdle shards (names_of old st) st.now (began slot ∷ []) x.after)
          → Flies asked slot st.now.machine mid
      by_cases x (inl (ok, inl b)) =
          let told : began slot ∷ [] ≡ began b.0 ∷ [] = b.3 in
          let same : slot ≡ b.0 = cc in
          record {
            standing = record { s = x.later; now = x.after; shows = x.shows; stands = x.stands; store_is = x.store_is; shards_is = x.shards_is; told_is = ap (λ (m : Moment). m.told) b.4 ∙ st.told_is };
            on = subst (GoesOn st.now.machine) (sym (ap (λ (m : Moment). m.machine) b.4)) (goes_nowhere st.now.machine);
            r = begun b.0 asked;
            at = ap (λ (m : Moment). flow_at slot m.running) b.4 ∙ ap (λ (t : ℕ). if b.0 == t then Some (begun b.0 asked) else flow_at t st.now.running) same ∙ ap (λ c. if c then Some (begun b.0 asked) else flow_at b.0 st.now.running) (eq-eqb b.0 b.0 refl);
            asked_is = refl;
            quiet = refl;
            seen = λ m has. absurd (omega (arith, has.1));
          }
      by_cases x (inl (ok, inr full)) = absurd (let bad : began slot ∷ [] ≡ refuses Full ∷ [] = full.1 in cc)
      by_cases x (inr idle) = absurd (let bad : began slot ∷ [] ≡ [] = idle.1.0 in cc)

  -- A step that begins a flow other than a write, and that is played to an answer: the answer agrees.
  pub played : (asked : Asked) → ((changes : List Change) (conditions : List Condition) → asked ≡ to_write changes conditions → ⊥) → (first : Step) → step_of first ≡ start asked → IsWholeStep first
      → (a : Answer) → told_by (answer_of a) ≡ [] → (old new : WorldView D) (st : Standing old) → Plays (Takes state honest moment left_since) IsNext first old (Some (Ended a)) new
      → Answered asked (answer_of a) st.now.machine new
  played asked no_write first is whole a none old new st p = by_told p.told p.begins p.ends
    where
      unbegun : (told : Option What) (mid : WorldView D) → Takes state honest moment left_since old first told mid → all_told told ≡ answered (answer_of a) ∷ [] → ⊥
      unbegun told mid takes telling =
          let x = stepped old mid st first told whole takes in
          by_cases x (subst (λ (l : List Told). runs.Takes shards (names_of old st) st.now (start asked) l x.after) telling (subst (λ (s : runs.Step). runs.Takes shards (names_of old st) st.now s (all_told told) x.after) is x.takes))
        where
          by_cases : (x : Stepped (names_of old st) st.now (step_of first) (all_told told) mid) → (IsAsked shards asked × Begins shards (names_of old st) st.now asked (answered (answer_of a) ∷ []) x.after) ⊎ ((IsAsked shards asked → ⊥) × IsIdle shards (names_of old st) st.now (answered (answer_of a) ∷ []) x.after) → ⊥
          by_cases x (inl (ok, inl b)) = let bad : answered (answer_of a) ∷ [] ≡ began b.0 ∷ [] = b.3 in cc
          by_cases x (inl (ok, inr full)) = let bad : answered (answer_of a) ∷ [] ≡ refuses Full ∷ [] = full.1 in cc
          by_cases x (inr idle) = let bad : answered (answer_of a) ∷ [] ≡ [] = idle.1.0 in cc

      by_told : (told : Option What) → Takes state honest moment left_since old first told p.mid → PlaysOn (Takes state honest moment left_since) IsNext told p.mid (Some (Ended a)) new → Answered asked (answer_of a) st.now.machine new
      by_told None takes on = absurd (let bad : Some (Ended a) ≡ None = on.0 in cc)
      by_told (Some (Began slot)) takes on = ends_well asked no_write slot st.now.machine a on.all p.mid new none (begins_well asked slot old p.mid st first is whole takes) on.turns on.last
      by_told (Some (Next name)) takes on = absurd (let bad : Some (Ended a) ≡ Some (Next name) = on.0 in cc)
      by_told (Some (Ended b)) takes on = absurd (unbegun (Some (Ended b)) p.mid takes (ap all_told (sym on.0)))
      by_told (Some Up) takes on = absurd (let bad : Some (Ended a) ≡ Some Up = on.0 in cc)
      by_told (Some (Refused e)) takes on = absurd (let bad : Some (Ended a) ≡ Some (Refused e) = on.0 in cc)

-- How a care goes on in its slot, and to its end.
use Rattle.std.proofs.Common.{◌≡◌, ◌≤◌, ◌<◌, ◌∷◌, [], ◌⊎◌, inl, inr, ℕ, true, false, List, Option, Some, None, Result, Ok, Err, MatchOption, is_some, refl, sym, ap, ◌∙◌, subst, arith}
use Rattle.calls.specs.declared.progress.Progress.{Progress}
use Rattle.calls.specs.declared.progress.Progress.TheVariants as made
use Rattle.care_flow.specs.Cares.{next_name_of}
use Rattle.care_flow.specs.declared.care.CareFlow.{CareFlow}
use Rattle.care_flow.specs.declared.end.CareEnd.{CareEnd}
use Rattle.care_flow.specs.declared.end.CareEnd.TheVariants as care_ends
use Rattle.cluster.specs.Begun.{MayCare, caring_for}
use Rattle.cluster.specs.Ends.{TellsCare}
use Rattle.cluster.specs.Flows as flows
use Rattle.cluster.specs.Steps.{AddsFlow, Begins, GoesOn, IsIdle, IsMade, LeavesSlot, Takes, TurnsIn}
use Rattle.cluster.specs.Worlds.{WorldView, flow_at, flow_count}
use Rattle.cluster.specs.declared.event.Answer.{Answer}
use Rattle.cluster.specs.declared.event.Answer.TheVariants as answers
use Rattle.cluster.specs.declared.event.What.{What}
use Rattle.cluster.specs.declared.event.What.TheVariants.{Began, Ended, Next, Refused}
use Rattle.cluster.specs.declared.flow.Flow.{Flow}
use Rattle.cluster.specs.declared.flow.Flow.TheVariants.{Care as a_care}
use Rattle.cluster.specs.declared.step.Step.TheVariants.{Turn, Care as care_for}
use Rattle.device.specs.Device.{State}
use Rattle.names.specs.declared.call_name.CallName.{CallName}
use Rattle.names.specs.declared.call_name.CallName.TheVariants.{Batch, Learned}
use Rattle.names.specs.declared.care.Care.{Care}
use Rattle.names.specs.declared.care.Care.TheVariants as cares
use Rattle.refusal.specs.declared.refusal.Refusal.{Refusal}
use Rattle.refusal.specs.declared.refusal.Refusal.TheVariants.{Damaged, Full, NoMemory}
use Rattle.tuples.specs.Limits.{max_flows}
use Rattle.reshard.specs.Caring.{HoldsCare, IsGoing, TurnsOf}
use Rattle.reshard.specs.Refusing.{BeginsNot, ComesTo, HasMade, NextIs, Plays, TellsBeginning, TellsNoEnd}

-- ---- what comes next

module _ {D : Type 0} (w : WorldView D) (slot : ℕ) (result : Option CallName) where
  pub next_is : (name : CallName) → HoldsCare w slot → MatchOption (flow_at w.flows slot) (result ≡ None) (λ flow. result ≡ flows.next_name_of flow) → result ≡ Some name → NextIs w slot name
  next_is name holds is named = go (flow_at w.flows slot) holds is
    where
      go : (o : Option Flow) → MatchOption o ⊥ IsGoing → MatchOption o (result ≡ None) (λ flow. result ≡ flows.next_name_of flow) → MatchOption o ⊥ (λ flow. flows.next_name_of flow ≡ Some name)
      go None holds is = absurd holds
      go (Some flow) holds is = sym is ∙ named

  pub never_none : HoldsCare w slot → MatchOption (flow_at w.flows slot) (result ≡ None) (λ flow. result ≡ flows.next_name_of flow) → result ≡ None → ⊥
  never_none holds is none = go (flow_at w.flows slot) holds is
    where
      by_care : (v : CareFlow) → is_some (next_name_of v) ≡ true → result ≡ next_name_of v → ⊥
      by_care v going is = let bad : false ≡ true = ap (λ (o : Option CallName). is_some o) (sym none ∙ is) ∙ going in absurd cc

      go : (o : Option Flow) → MatchOption o ⊥ IsGoing → MatchOption o (result ≡ None) (λ flow. result ≡ flows.next_name_of flow) → ⊥
      go None holds is = holds
      go (Some (a_care v)) holds is = by_care v holds is
      go (Some flow) holds is = holds

one_next : {D : Type 0} (w : WorldView D) (slot : ℕ) (a b : CallName) → NextIs w slot a → NextIs w slot b → a ≡ b
one_next w slot a b one other = go (flow_at w.flows slot) one other
  where
    go : (o : Option Flow) → MatchOption o ⊥ (λ flow. flows.next_name_of flow ≡ Some a) → MatchOption o ⊥ (λ flow. flows.next_name_of flow ≡ Some b) → a ≡ b
    go None one other = absurd one
    go (Some flow) one other = let same : Some a ≡ Some b = sym one ∙ other in cc

module _ {D : Type 0} (state : D → State) (honest : D → Type 0) (moment : D → ℕ) (left_since : D → ℕ → List ℕ → Type 0) where
  -- ---- a step of a care leaves as many shards

  pub turn_shards : (slot : ℕ) (old new : WorldView D) (told : Option What) → Takes state honest moment left_since old (Turn slot) told new → new.shards ≡ old.shards
  turn_shards slot old new told takes = go (flow_at old.flows slot) takes
    where
      go : (o : Option Flow) → MatchOption o (IsIdle state honest moment left_since old told new) (λ flow. TurnsIn state honest moment left_since old slot flow told new) → new.shards ≡ old.shards
      go None takes = ap (λ (w : WorldView D). w.shards) takes.1
      go (Some flow) takes = ap (λ (w : WorldView D). w.shards) takes.1

  pub begin_shards : (care : Care) (old new : WorldView D) (told : Option What) → Takes state honest moment left_since old (care_for care) told new → new.shards ≡ old.shards
  begin_shards care old new told takes = ap (λ (w : WorldView D). w.shards) takes.1

  turns_shards : (slot : ℕ) (all : List (Option What)) (old new : WorldView D) → TurnsOf state honest moment left_since slot all old new → new.shards ≡ old.shards
  turns_shards slot [] old new is = ap (λ (w : WorldView D). w.shards) is
  turns_shards slot (told ∷ before) old new (mid, turns, takes) = turn_shards slot mid new told takes ∙ turns_shards slot before old mid turns

  pub plays_shards : (slot : ℕ) (old new : WorldView D) (r : Result (Unit {0}) Refusal) → Plays state honest moment left_since slot old r new → new.shards ≡ old.shards
  plays_shards slot old new (Ok done) (answer, before, turns) = turns_shards slot (Some (Ended answer) ∷ before) old new turns
  plays_shards slot old new (Err e) (inl (before, turns)) = turns_shards slot (Some (Refused e) ∷ before) old new turns
  plays_shards slot old new (Err e) (inr (inl (none, all, turns))) = turns_shards slot all old new turns
  plays_shards slot old new (Err e) (inr (inr (damaged, m))) = turn_shards slot m.mid new (Some (Next Learned)) m.turn ∙ turns_shards slot m.before old m.mid m.turns

  pub not_begun_shards : (care : Care) (old new : WorldView D) (e : Refusal) → BeginsNot state honest moment left_since care old e new → new.shards ≡ old.shards
  not_begun_shards care old new e (inl (none, same)) = ap (λ (w : WorldView D). w.shards) same
  not_begun_shards care old new e (inr takes) = begin_shards care old new (Some (Refused e)) takes

  -- ---- the beginning

  begins_or_not : (old : List (Option Flow)) (may : Type 0) (flow : Flow) (told : Option What) (new : List (Option Flow)) → may → Begins old may flow told new → (told ≡ Some (Refused Full)) ⊎ AddsFlow old flow told new
  begins_or_not old may flow told new is b = by_room (order max_flows (flow_count old))
    where
      order : (m n : ℕ) → (m ≤ n) ⊎ (n < m)
      order m n = grind arith

      by_room : (max_flows ≤ flow_count old) ⊎ (flow_count old < max_flows) → (told ≡ Some (Refused Full)) ⊎ AddsFlow old flow told new
      by_room (inl full) = inl (b.full is full).0
      by_room (inr room) = inr (b.begins is room)

  pub tells_beginning : (care : Care) (old new : WorldView D) (told : Option What) → MayCare old.shards care → Takes state honest moment left_since old (care_for care) told new → TellsBeginning told
  tells_beginning care old new told may takes = go (begins_or_not old.flows (MayCare old.shards care) (caring_for old.shards care) told new.flows may takes.0)
    where
      go : (told ≡ Some (Refused Full)) ⊎ AddsFlow old.flows (caring_for old.shards care) told new.flows → TellsBeginning told
      go (inl full) = subst TellsBeginning (sym full) tt
      go (inr adds) = subst TellsBeginning (sym adds.tells) tt

  care_goes : (shards : ℕ) (care : Care) → IsGoing (caring_for shards care)
  care_goes shards (cares.Flush node) = refl
  care_goes shards (cares.Checkpoint node) = refl
  care_goes shards (cares.Learn s) = refl
  care_goes shards (cares.Resolve s) = refl
  care_goes shards (cares.Raise place) = refl
  care_goes shards (cares.Collect s) = refl

  pub begun_holds : (care : Care) (slot : ℕ) (old new : WorldView D) → MayCare old.shards care → Takes state honest moment left_since old (care_for care) (Some (Began slot)) new → HoldsCare new slot
  begun_holds care slot old new may takes = go (begins_or_not old.flows (MayCare old.shards care) (caring_for old.shards care) (Some (Began slot)) new.flows may takes.0)
    where
      go : (Some (Began slot) ≡ Some (Refused Full)) ⊎ AddsFlow old.flows (caring_for old.shards care) (Some (Began slot)) new.flows → HoldsCare new slot
      go (inl full) = absurd cc
      go (inr adds) =
          let same : adds.slot ≡ slot = let both : Some (Began slot) ≡ Some (Began adds.slot) = adds.tells in cc in
          subst (λ (s : ℕ). HoldsCare new s) same
          (subst (λ (o : Option Flow). MatchOption o ⊥ IsGoing) (sym adds.puts.at) (care_goes old.shards care))

  -- ---- a turn

  module _ (slot : ℕ) (old new : WorldView D) (told : Option What) where
    -- it told the end, or the care goes on
    abbrev Came : Type 0
    Came = ((answer : Answer) × (told ≡ Some (Ended answer))) ⊎ (((e : Refusal) × (told ≡ Some (Refused e))) ⊎ ((next : CallName) × (told ≡ Some (Next next)) × NextIs new slot next × HoldsCare new slot))

    told_by : (end : CareEnd) (tells : Option What) → TellsCare end tells → told ≡ tells → Came
    told_by care_ends.Done tells is same = inl (answers.Done, same ∙ is)
    told_by (care_ends.Resolved found) tells is same = inl (answers.Resolved found, same ∙ is)
    told_by (care_ends.Refused e) tells is same = inr (inl (e, same ∙ is))

    by_made : (turned : Progress CareFlow CareEnd) (after : Progress Flow (Option What)) → IsMade a_care TellsCare turned after → LeavesSlot old.flows slot after told new.flows → Came
    by_made (made.Next v) (made.Next flow) is_made left =
        let on = subst (λ (f : Flow). GoesOn old.flows slot f told new.flows) is_made left in
        inr (inr (
          on.name,
          on.tells,
          subst (λ (o : Option Flow). MatchOption o ⊥ (λ flow. flows.next_name_of flow ≡ Some on.name)) (sym on.puts.at) on.named.0,
          subst (λ (o : Option Flow). MatchOption o ⊥ IsGoing) (sym on.puts.at) (ap (λ (o : Option CallName). is_some o) on.named.0),
        ))
    by_made (made.Ended end) (made.Ended tells) is_made left = told_by end tells is_made left.1
    by_made (made.Next v) (made.Ended tells) is_made left = absurd is_made
    by_made (made.Ended end) (made.Next flow) is_made left = absurd is_made

    by_flow : (o : Option Flow) → MatchOption o ⊥ IsGoing → MatchOption o (IsIdle state honest moment left_since old told new) (λ flow. TurnsIn state honest moment left_since old slot flow told new) → Came
    by_flow None going takes = absurd going
    by_flow (Some (a_care v)) going takes = by_made takes.0.turns.0 takes.0.after takes.0.turns.2 takes.0.leaves
    by_flow (Some flow) going takes = absurd going

    turn_of_care : HoldsCare old slot → Takes state honest moment left_since old (Turn slot) told new → Came
    turn_of_care holds takes = by_flow (flow_at old.flows slot) holds takes

  -- ---- turn after turn

  -- The care is in its slot still, and has made turns; of the last one it is known which call it made.
  pub record IsPlaying (slot : ℕ) (made : Option CallName) (first now : WorldView D) : Type 0 where
    pub holds : HoldsCare now slot
    pub so_far : MatchOption made (now ≡ first) (λ name. (next : CallName) × HasMade state honest moment left_since slot name next first now × NextIs now slot next)

  module _ (slot : ℕ) (made : Option CallName) (first now : WorldView D) (playing : IsPlaying slot made first now) where
    turns_so_far : (all : List (Option What)) × TurnsOf state honest moment left_since slot all first now
    turns_so_far = go made playing.so_far
      where
        go : (m : Option CallName) → MatchOption m (now ≡ first) (λ name. (next : CallName) × HasMade state honest moment left_since slot name next first now × NextIs now slot next)
            → (all : List (Option What)) × TurnsOf state honest moment left_since slot all first now
        go None same = ([], same)
        go (Some name) (next, m, is) = (Some (Next next) ∷ m.before, (m.mid, m.turns, m.turn))

    pub left_behind : made ≡ Some Batch → NextIs now slot Learned → Plays state honest moment left_since slot first (Err Damaged) now
    left_behind is_batch learned =
        let last = subst (λ (m : Option CallName). MatchOption m (now ≡ first) (λ name. (next : CallName) × HasMade state honest moment left_since slot name next first now × NextIs now slot next)) is_batch playing.so_far in
        inr (inr (refl, subst (λ (name : CallName). HasMade state honest moment left_since slot Batch name first now) (one_next now slot last.0 Learned last.2 learned) last.1))

    pub countless : Plays state honest moment left_since slot first (Err NoMemory) now
    countless = let t = turns_so_far in inr (inl (refl, t.0, t.1))

    module _ (new : WorldView D) (told : Option What) (takes : Takes state honest moment left_since now (Turn slot) told new) where
      pub comes_to_end : (r : Result (Unit {0}) Refusal) → ComesTo told (Some r) → Plays state honest moment left_since slot first r new
      comes_to_end (Ok done) (answer, is) =
          let t = turns_so_far in
          (answer, t.0, (now, t.1, subst (λ (o : Option What). Takes state honest moment left_since now (Turn slot) o new) is takes))
      comes_to_end (Err e) is =
          let t = turns_so_far in
          inl (t.0, (now, t.1, subst (λ (o : Option What). Takes state honest moment left_since now (Turn slot) o new) is takes))

      pub one_more : (name : CallName) → NextIs now slot name → TellsNoEnd told → IsPlaying slot (Some name) first new
      one_more name makes no_end = go (turn_of_care slot now new told playing.holds takes)
        where
          go : Came slot now new told → IsPlaying slot (Some name) first new
          go (inl (answer, is)) = absurd (subst TellsNoEnd is no_end)
          go (inr (inl (e, is))) = absurd (subst TellsNoEnd is no_end)
          go (inr (inr (next, is, comes, holds))) = record {
            holds = holds;
            so_far = (
              next,
              record {
                mid = now;
                before = turns_so_far.0;
                turns = turns_so_far.1;
                makes = makes;
                turn = subst (λ (o : Option What). Takes state honest moment left_since now (Turn slot) o new) is takes;
              },
              comes,
            );
          }

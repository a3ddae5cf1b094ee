-- One care more, and what a care that is served or refused is.
use Rattle.std.proofs.Common.{◌≡◌, ◌++◌, ◌∷◌, [], inl, inr, ℕ, List, Option, Some, Result, Ok, Err, length, refl, sym, subst, arith}
use Rattle.std.specs.List.{AllByRecursion}
use Rattle.std.specs.Result.{IfErr, OnOk}
use Rattle.std.proofs.lemmas.List.Elements.{Contains-push}
use Rattle.cluster.proofs.Runs.{one_more}
use Rattle.cluster.specs.Steps.{Takes, events_of}
use Rattle.cluster.specs.Worlds.{WorldView}
use Rattle.cluster.specs.declared.event.Event.{Event}
use Rattle.cluster.specs.declared.event.What.{What}
use Rattle.cluster.specs.declared.event.What.TheVariants.{Began, Ended, Next, Refused}
use Rattle.cluster.specs.declared.step.Step.{Step}
use Rattle.cluster.specs.declared.step.Step.TheVariants.{Turn, Care as care_for}
use Rattle.device.specs.Device.{State}
use Rattle.names.specs.declared.call_name.CallName.TheVariants.{Learned}
use Rattle.names.specs.declared.care.Care.{Care}
use Rattle.names.specs.declared.care.Care.TheVariants.{Flush}
use Rattle.names.specs.declared.node_name.NodeName.TheVariants.{Coordinator}
use Rattle.refusal.specs.declared.refusal.Refusal.{Refusal}
use Rattle.refusal.specs.declared.refusal.Refusal.TheVariants.{NoMemory}
use Rattle.reshard.specs.Caring.{Cares, CaresOn, IsCaredFor, IsCaring, IsOfClosing, Serves, TurnsOf}
use Rattle.reshard.specs.Refusing.{BeginsNot, Plays, RefusesCare}

all_more : (steps : List Step) (s : Step) → AllByRecursion IsCaring steps → IsCaring s → AllByRecursion IsCaring (steps ++ s ∷ [])
all_more [] s all one = (one, tt)
all_more (x ∷ steps) s all one = (all.0, all_more steps s all.1 one)

module _ {D : Type 0} (state : D → State) (honest : D → Type 0) (moment : D → ℕ) (left_since : D → ℕ → List ℕ → Type 0) where
  pub nothing_done : (w : WorldView D) → Cares state honest moment left_since w w
  nothing_done w = record { steps = []; events = []; caring = tt; took = (refl, refl) }

  -- the cares, and one such step after them
  abbrev with_step : (first old new : WorldView D) (step : Step) (told : Option What) → IsCaring step → Takes state honest moment left_since old step told new → Cares state honest moment left_since first old
      → Cares state honest moment left_since first new
  with_step first old new step told caring takes cares = record {
    steps = cares.steps ++ step ∷ [];
    events = cares.events ++ events_of (length cares.steps) told;
    caring = all_more cares.steps step cares.caring caring;
    took = one_more state honest moment left_since first old new 0 (length cares.steps) cares.steps step cares.events (events_of (length cares.steps) told) cares.took (omega arith) (told, takes, refl);
  }

  pub one_care : (old new : WorldView D) (step : Step) (told : Option What) → IsCaring step → Takes state honest moment left_since old step told new → CaresOn state honest moment left_since old new
  one_care old new step told caring takes first cares = with_step first old new step told caring takes cares

  pub no_care : (old new : WorldView D) → new ≡ old → CaresOn state honest moment left_since old new
  no_care old new same first cares = subst (λ (w : WorldView D). Cares state honest moment left_since first w) (sym same) cares

  pub cares_then : (old mid new : WorldView D) → CaresOn state honest moment left_since old mid → CaresOn state honest moment left_since mid new → CaresOn state honest moment left_since old new
  cares_then old mid new one two first cares = two first (one first cares)

  -- ---- turns of one flow

  pub turns_care : (slot : ℕ) (all : List (Option What)) (old new : WorldView D) → TurnsOf state honest moment left_since slot all old new → CaresOn state honest moment left_since old new
  turns_care slot [] old new is = no_care old new is
  turns_care slot (told ∷ before) old new (mid, turns, takes) = cares_then old mid new (turns_care slot before old mid turns) (one_care mid new (Turn slot) told tt takes)

  pub serves_care : (care : Care) (old new : WorldView D) → IsOfClosing care → Serves state honest moment left_since care old new → CaresOn state honest moment left_since old new
  serves_care care old new is s =
      cares_then old s.begun new (one_care old s.begun (care_for care) (Some (Began s.slot)) is s.begins) (turns_care s.slot (Some (Ended s.answer) ∷ s.before) s.begun new s.turns)

  -- ---- refusals

  pub refused_later : (old mid new : WorldView D) (e : Refusal) → CaresOn state honest moment left_since old mid → RefusesCare state honest moment left_since mid e new → RefusesCare state honest moment left_since old e new
  refused_later old mid new e on refuses first cares = refuses first (on first cares)

  no_memory : (old new : WorldView D) (e : Refusal) → e ≡ NoMemory → CaresOn state honest moment left_since old new → RefusesCare state honest moment left_since old e new
  no_memory old new e none on first cares = record { cares = on first cares; cause = inr (inl none) }

  told_refused : (old new : WorldView D) (step : Step) (e : Refusal) → IsCaring step → Takes state honest moment left_since old step (Some (Refused e)) new → RefusesCare state honest moment left_since old e new
  told_refused old new step e caring takes first cares =
      let event : Event = record { step = length cares.steps; what = Refused e } in
      record { cares = with_step first old new step (Some (Refused e)) caring takes cares; cause = inl (length cares.steps, Contains-push cares.events event) }

  pub begins_not : (care : Care) (old new : WorldView D) (e : Refusal) → IsOfClosing care → BeginsNot state honest moment left_since care old e new → RefusesCare state honest moment left_since old e new
  begins_not care old new e is (inl (none, same)) = no_memory old new e none (no_care old new same)
  begins_not care old new e is (inr takes) = told_refused old new (care_for care) e is takes

  plays_not : (slot : ℕ) (old new : WorldView D) (e : Refusal) → Plays state honest moment left_since slot old (Err e) new → RefusesCare state honest moment left_since old e new
  plays_not slot old new e (inl (before, t)) = refused_later old t.0 new e (turns_care slot before old t.0 t.1) (told_refused t.0 new (Turn slot) e tt t.2)
  plays_not slot old new e (inr (inl (none, all, turns))) = no_memory old new e none (turns_care slot all old new turns)
  plays_not slot old new e (inr (inr (damaged, m))) = λ first cares.
      let before = turns_care slot m.before old m.mid m.turns first cares in
      record {
        cares = one_care m.mid new (Turn slot) (Some (Next Learned)) tt m.turn first before;
        cause = inr (inr (damaged, record { slot = slot; mid = m.mid; cares = before; makes = m.makes; turn = m.turn }));
      }

  -- ---- a care from its beginning to its end

  module _ (care : Care) (slot : ℕ) (old begun new : WorldView D) (is : IsOfClosing care) (begins : Takes state honest moment left_since old (care_for care) (Some (Began slot)) begun) where
    pub serves_well : (r : Result (Unit {0}) Refusal) → Plays state honest moment left_since slot begun r new → OnOk r (Serves state honest moment left_since care old new)
    serves_well (Ok done) (answer, before, turns) = record { slot = slot; begun = begun; begins = begins; answer = answer; before = before; turns = turns }
    serves_well (Err e) plays = tt

    pub serves_not : (r : Result (Unit {0}) Refusal) → Plays state honest moment left_since slot begun r new → IfErr r (λ e. RefusesCare state honest moment left_since old e new)
    serves_not (Ok done) plays = tt
    serves_not (Err e) plays = refused_later old begun new e (one_care old begun (care_for care) (Some (Began slot)) is begins) (plays_not slot begun new e plays)

  -- ---- all cares

  pub cared_cares : (old new : WorldView D) → IsCaredFor state honest moment left_since old new → Cares state honest moment left_since old new
  cared_cares old new cared = cared.rest old (serves_care (Flush Coordinator) old cared.flushed tt cared.first old (nothing_done old))

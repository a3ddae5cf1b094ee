-- Laws of calls and of turns after them, as contracts say them.
use Rattle.std.proofs.Common.{◌≡◌, ◌≢◌, ℕ, false, List, [], ◌∷◌, Option, Some, None, All, refl, sym, ◌∙◌, subst}
use Rattle.std.proofs.lemmas.Option.{same_Some}
use Rattle.flow_turns.proofs.CallWords.{Agrees, Answer, Asked, FlowView, HasItsCause, Holds, IsRight, IsRightVerdict, Machine, Moment, Nodes, Ran, Refusal, Running, ShowsFlow, State, Store, Unsure, answered, behind_call, ending, events_of, goes_on, left, refuses, stops, told_by, with_call}
use Rattle.turns.specs.Runs.{turn as turns_in}
use Rattle.flow_turns.specs.CallLaws.{IsQuietTurn, QuietTurnsAnswer, QuietTurnsGoOn, QuietTurnsRefuse, StillCallsAreQuiet}
use Rattle.flow_turns.proofs.Made.{IsQuietlyMade, still_made}
use Rattle.flow_turns.proofs.Turned.{answers, goes, refused_by, the_flow}

module _ {D : Type 0} (state : D → State) (honest : D → Type 0) (moment : D → ℕ) (left_since : D → ℕ → List ℕ → Type 0) where
  pub still_calls_are_quiet : ((d : D) (c : List ℕ) → honest d → left_since d (moment d) c → left (state d) c) → (store shards : ℕ) → StillCallsAreQuiet state honest moment left_since store shards
  still_calls_are_quiet only_now store shards old new now n was is standing called same =
      let both = still_made state honest moment left_since store shards old new now standing n was is called only_now same in
      record { quiet = both.0; made = both.1 }

  module _ (store shards : ℕ) (old new : Store D) (now : Moment) (next : Nodes) (m : Machine) (slot number : ℕ) (r : Running) (asked : Asked) (holds : Holds) (g : Option FlowView)
      (turn : IsQuietTurn state honest moment left_since store shards old new now next m slot r asked holds g) where
    abbrev f : FlowView
    f = record { asked = Some asked; holds = holds; is_cancelled = false }

    shows : ShowsFlow r f
    shows =
        let flow = the_flow state honest moment left_since store shards old new now turn.standing number slot f g turn.slots in
        subst (λ (q : Running). ShowsFlow q f) (same_Some flow.0 r (sym flow.1 ∙ turn.runs)) flow.2

    abbrev quiet : IsQuietlyMade state honest moment left_since store shards old new now turn.standing next m
    quiet = (turn.call.quiet, turn.call.made)

    goes_on_as : (after : Holds) → IsRight shards (stops state honest store shards new.devices) (behind_call now next m) (with_call r after r.met m) asked after → g ≡ Some (record f { holds = after })
        → Ran state honest moment left_since store shards old now number (turns_in slot) (events_of number (goes_on ∷ [])) new
    goes_on_as after right is = goes state honest moment left_since store shards old new now turn.standing number slot f g turn.slots r turn.runs asked shows refl turn.no_write next m quiet after right is

    answers_as : (answer : Answer) → g ≡ None → Agrees (with_call r r.holds r.met m) (ending now next m r (told_by answer)) asked answer
        → All (IsRightVerdict shards (stops state honest store shards new.devices) (behind_call now next m)) (told_by answer)
        → Ran state honest moment left_since store shards old now number (turns_in slot) (events_of number (answered answer ∷ [])) new
    answers_as answer is agrees right = answers state honest moment left_since store shards old new now turn.standing number slot f g turn.slots r turn.runs asked shows refl turn.no_write next m quiet answer is agrees right

    refuses_as : (e : Refusal) → g ≡ None → HasItsCause shards turn.call.quiet.node now (ending now next m r []) r e → e ≢ Unsure
        → Ran state honest moment left_since store shards old now number (turns_in slot) (events_of number (refuses e ∷ [])) new
    refuses_as e is cause sure = refused_by state honest moment left_since store shards old new now turn.standing number slot f g turn.slots r turn.runs asked shows refl turn.no_write next m quiet e is (cause, sure)

  pub quiet_turns_go_on : (store shards : ℕ) → QuietTurnsGoOn state honest moment left_since store shards
  quiet_turns_go_on store shards old new now next m slot r asked holds after turn right number = goes_on_as store shards old new now next m slot number r asked holds _ turn after right refl

  pub quiet_turns_answer : (store shards : ℕ) → QuietTurnsAnswer state honest moment left_since store shards
  quiet_turns_answer store shards old new now next m slot r asked holds answer turn agrees right number = answers_as store shards old new now next m slot number r asked holds _ turn answer refl agrees right

  pub quiet_turns_refuse : (store shards : ℕ) → QuietTurnsRefuse state honest moment left_since store shards
  quiet_turns_refuse store shards old new now next m slot r asked holds e turn cause sure number = refuses_as store shards old new now next m slot number r asked holds _ turn e refl cause sure

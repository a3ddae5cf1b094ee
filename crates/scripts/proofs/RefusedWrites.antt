-- A line that asks for a write, and prints that memory was refused, has made none that was told.
use Rattle.std.proofs.Common.{◌≡◌, ◌≤◌, ◌<◌, ◌⊎◌, ⊎_elim, inl, inr, ℕ, Bool, true, false, List, [], ◌∷◌, length, Option, Some, None, MatchOption, refl, sym, ◌∙◌, ap, subst, arith}
use Rattle.std.proofs.lemmas.Bool.{cases_lt}
use Rattle.std.proofs.lemmas.Option.{same_Some}
use Rattle.tuples.specs.Limits.{max_flows}
use Rattle.calls.specs.declared.progress.Progress.{Progress}
use Rattle.calls.specs.declared.progress.Progress.TheVariants as made
use Rattle.commit_flow.specs.Flows.{WriteFlowValue}
use Rattle.commit_flow.specs.declared.end.WriteEnd.{WriteEnd}
use Rattle.commit_flow.specs.declared.end.WriteEnd.TheVariants as write_end
use Rattle.cluster.specs.Begun.{begun_for}
use Rattle.cluster.specs.Ends.{TellsWrite}
use Rattle.cluster.specs.Steps.{GoesOn, IsIdle, IsMade, LeavesSlot, Takes, TellsWriting, TurnsIn, unless, write_of}
use Rattle.cluster.specs.Worlds.{WorldView, flow_at, flow_count}
use Rattle.cluster.specs.declared.event.Answer.TheVariants.{Wrote, Selected, Checked, Listed, Resolved, Done}
use Rattle.cluster.specs.declared.event.What.{What}
use Rattle.cluster.specs.declared.event.What.TheVariants.{Began, Next, Ended, Up, Refused}
use Rattle.cluster.specs.declared.flow.Flow.{Flow}
use Rattle.cluster.specs.declared.flow.Flow.TheVariants as flow
use Rattle.tuples.specs.declared.request.Request.TheVariants as request
use Rattle.cluster.specs.declared.step.Step.{Step}
use Rattle.cluster.specs.declared.step.Step.TheVariants as step
use Rattle.device.specs.Device.{State}
use Rattle.device.specs.declared.tear.Tear.{Tear}
use Rattle.script_text.specs.PrintedTexts.{refusal_line}
use Rattle.refusal.specs.declared.refusal.Refusal.{Refusal}
use Rattle.refusal.specs.declared.refusal.Refusal.TheVariants.{Full, NoMemory}
use Rattle.scripts.proofs.Short.{refusal_short}
use Rattle.scripts.specs.Going as going
use Rattle.scripts.specs.Going.{Goes, last_told}
use Rattle.scripts.specs.Refusing.{EndsNot, ServesNot}
use Rattle.scripts.specs.Scripts.{Ends, Serves, slot_of}
use Rattle.scripts.specs.Stepping.{IsNext}
use Rattle.scripts.specs.Telling.{told_text}
use Rattle.tuples.specs.declared.write.Write.{Write}
use Rattle.scripts.specs.RefusedWrites.{IsRefusedMemory, WritesRefusedMemory}
use Rattle.scripts.proofs.Written.{next_other, next_short, refusal_once, wrote_other, wrote_short}

-- what a turn of a write tells: nothing, its next call, its place, or a refusal
abbrev IsOfWrite : Option What → Type 0
IsOfWrite None = Unit {0}
IsOfWrite (Some (Next name)) = Unit {0}
IsOfWrite (Some (Ended (Wrote place))) = Unit {0}
IsOfWrite (Some (Refused e)) = Unit {0}
IsOfWrite told = ⊥

-- its text is short
short : (id : ℕ) (told : Option What) → IsOfWrite told → length (told_text id told) ≤ 128
short id None is = omega arith
short id (Some (Began slot)) is = absurd is
short id (Some (Next name)) is = next_short name
short id (Some (Ended (Wrote place))) is = wrote_short id place
short id (Some (Ended (Selected place sets))) is = absurd is
short id (Some (Ended (Checked place is_member))) is = absurd is
short id (Some (Ended (Listed place all))) is = absurd is
short id (Some (Ended (Resolved found))) is = absurd is
short id (Some (Ended Done)) is = absurd is
short id (Some Up) is = absurd is
short id (Some (Refused e)) is = refusal_short e

-- and if it says that memory was refused, that was told
refused_text : (id : ℕ) (told : Option What) → IsOfWrite told → told_text id told ≡ refusal_line NoMemory → told ≡ Some (Refused NoMemory)
refused_text id None is text = absurd (let none : 0 ≡ length (refusal_line NoMemory) = ap length text in omega (arith, none))
refused_text id (Some (Began slot)) is text = absurd is
refused_text id (Some (Next name)) is text = absurd (next_other name text)
refused_text id (Some (Ended (Wrote place))) is text = absurd (wrote_other id place text)
refused_text id (Some (Ended (Selected place sets))) is text = absurd is
refused_text id (Some (Ended (Checked place is_member))) is text = absurd is
refused_text id (Some (Ended (Listed place all))) is text = absurd is
refused_text id (Some (Ended (Resolved found))) is text = absurd is
refused_text id (Some (Ended Done)) is text = absurd is
refused_text id (Some Up) is text = absurd is
refused_text id (Some (Refused e)) is text = ap (λ (x : Refusal). Some (Refused x)) (refusal_once e text)

abbrev IsWriteFlow : Flow → Type 0
IsWriteFlow (flow.Write w) = Unit {0}
IsWriteFlow other = ⊥

-- how a write ended
write_told : (end : WriteEnd) (told : Option What) → TellsWrite end told → IsOfWrite told
write_told (write_end.Wrote place) told is = subst IsOfWrite (sym is) tt
write_told (write_end.Refused e) told is = subst IsOfWrite (sym is) tt
write_told write_end.Cancelled told is = subst IsOfWrite (sym is) tt

unless_told : (b : Bool) (told : Option What) → IsOfWrite told → IsOfWrite (unless b told)
unless_told true told is = tt
unless_told false told is = is

no_flow : (f : Flow) → None ≡ Some f → ⊥
no_flow f is = cc

module _ {D : Type 0} (gives : D → Type 0) (set : D → ℕ → Tear → Type 0) (state : D → State) (honest : D → Type 0) (moment : D → ℕ) (left_since : D → ℕ → List ℕ → Type 0) where
  -- in the slot there is the flow of a write, or none
  abbrev HasWrite : ℕ → WorldView D → Type 0
  HasWrite slot w = (f : Flow) → flow_at w.flows slot ≡ Some f → IsWriteFlow f

  module _ (slot : ℕ) (old new : WorldView D) (told : Option What) where
    left : (is_cancelled : Bool) (turned : Progress WriteFlowValue WriteEnd) (after : Progress Flow (Option What)) → IsMade (write_of is_cancelled) (TellsWriting is_cancelled) turned after → LeavesSlot old.flows slot after told new.flows
        → HasWrite slot new × IsOfWrite told
    left is_cancelled (made.Next w) (made.Next f) is_made leaves =
        let on = subst (λ (g : Flow). GoesOn old.flows slot g told new.flows) is_made leaves in
        (λ g at. subst IsWriteFlow (same_Some (write_of is_cancelled w) g (sym on.puts.at ∙ at)) tt, subst IsOfWrite (sym on.tells) (unless_told is_cancelled (Some (Next on.name)) tt))
    left is_cancelled (made.Ended end) (made.Ended tells) is_made leaves =
        (λ g at. absurd (no_flow g (sym leaves.0.at ∙ at)), subst IsOfWrite (sym (leaves.1 ∙ is_made.2)) (unless_told is_cancelled is_made.0 (write_told end is_made.0 is_made.1)))
    left is_cancelled (made.Next w) (made.Ended tells) is_made leaves = absurd is_made
    left is_cancelled (made.Ended end) (made.Next f) is_made leaves = absurd is_made

    turned_write : (f : Flow) → IsWriteFlow f → TurnsIn state honest moment left_since old slot f told new → HasWrite slot new × IsOfWrite told
    turned_write (flow.Write w) is (turn, same) = left w.is_cancelled turn.turns.0 turn.after turn.turns.2 turn.leaves
    turned_write (flow.Read v) is turn = absurd is
    turned_write (flow.Check v) is turn = absurd is
    turned_write (flow.Watch v) is turn = absurd is
    turned_write (flow.Care v) is turn = absurd is

    turned : HasWrite slot old → Takes state honest moment left_since old (step.Turn slot) told new → HasWrite slot new × IsOfWrite told
    turned has takes = by_flow (flow_at old.flows slot) refl takes
      where
        by_flow : (o : Option Flow) → flow_at old.flows slot ≡ o
            → MatchOption o (IsIdle state honest moment left_since old told new) (λ f. TurnsIn state honest moment left_since old slot f told new) → HasWrite slot new × IsOfWrite told
        by_flow None at idle = (subst (HasWrite slot) (sym idle.1) has, subst IsOfWrite (sym idle.0) tt)
        by_flow (Some f) at turn = turned_write f (has f at) turn

  all_turned : (slot : ℕ) (all : List (Option What)) (old new : WorldView D) → HasWrite slot old
      → going.Turns (Takes state honest moment left_since) IsNext slot None all old new → HasWrite slot new × IsOfWrite (last_told all)
  all_turned slot [] old new has same = (subst (HasWrite slot) (sym same) has, tt)
  all_turned slot (told ∷ before) old new has t = turned slot t.0 new told (all_turned slot before old t.0 has t.1).0 t.3

  -- a write begins in a slot, or nothing is done
  abbrev IsBegun : WorldView D → Option What → WorldView D → Type 0
  IsBegun old told new = ((told ≡ Some (Refused Full)) × (new ≡ old)) ⊎ ((slot : ℕ) × (told ≡ Some (Began slot)) × HasWrite slot new)

  begun : (w : Write) (old new : WorldView D) (told : Option What) → Takes state honest moment left_since old (step.Start (request.Write w)) told new → IsBegun old told new
  begun w old new told (begins, is) = ⊎_elim
      (λ (few : flow_count old.flows < max_flows).
      let adds = begins.begins tt few in
      inr (adds.slot, adds.tells, λ f at. subst IsWriteFlow (same_Some (begun_for old.shards (request.Write w)) f (sym adds.puts.at ∙ at)) tt))
      (λ (many : max_flows ≤ flow_count old.flows).
      let full = begins.full tt many in
      inl (full.0, is ∙ ap (λ (fs : List (Option Flow)). record old { flows = fs }) full.1))
      (cases_lt (flow_count old.flows) max_flows)

  module _ (id : ℕ) (w : Write) (old new : WorldView D) where
    abbrev takes : WorldView D → Step → Option What → WorldView D → Type 0
    takes = Takes state honest moment left_since

    abbrev Is : Type 0
    Is = IsRefusedMemory takes IsNext (step.Start (request.Write w)) old new

    ends : (told : Option What) (mid : WorldView D) → takes old (step.Start (request.Write w)) told mid → IsBegun old told mid → Ends takes IsNext id told mid (refusal_line NoMemory) new → Is
    ends told mid first (inl (full, same)) e = let none = subst (λ (o : Option What). Ends takes IsNext id o mid (refusal_line NoMemory) new) full e in inl (none.0 ∙ same)
    ends told mid first (inr (slot, began, has)) e =
        let gone = subst (λ (o : Option What). Ends takes IsNext id o mid (refusal_line NoMemory) new) began e in
        let of_write : IsOfWrite gone.0 = subst IsOfWrite (sym gone.1.last) (all_turned slot gone.1.all mid new has gone.1.turns).1 in
        let refused : gone.0 ≡ Some (Refused NoMemory) = refused_text id gone.0 of_write (sym gone.2) in
        inr (inl (slot, mid, subst (λ (o : Option What). takes old (step.Start (request.Write w)) o mid) began first, subst (λ (o : Option What). Goes takes IsNext slot None mid o new) refused gone.1))

    ends_not : (told : Option What) (mid : WorldView D) → takes old (step.Start (request.Write w)) told mid → IsBegun old told mid → EndsNot takes IsNext id 0 told mid new → Is
    ends_not told mid first (inl (full, same)) (inl (slot, is, gives)) = absurd (no_slot slot (sym (ap slot_of full) ∙ is))
      where
        no_slot : (s : ℕ) → None ≡ Some s → ⊥
        no_slot s is = cc
    ends_not told mid first (inl (full, same)) (inr (text, e, long)) = let none = subst (λ (o : Option What). Ends takes IsNext id o mid text new) full e in inl (none.0 ∙ same)
    ends_not told mid first (inr (slot, began, has)) (inl (other, is, gives)) =
        let same : Some slot ≡ Some other = sym (ap slot_of began) ∙ is in
        let one : slot ≡ other = cc in
        let began_there : told ≡ Some (Began other) = began ∙ ap (λ (s : ℕ). Some (Began s)) one in
        inr (inr (other, mid, subst (λ (o : Option What). takes old (step.Start (request.Write w)) o mid) began_there first, gives, ⊎_elim (λ less. absurd (omega (arith, less))) (λ many. many) gives.1.cause))
    ends_not told mid first (inr (slot, began, has)) (inr (text, e, long)) =
        let gone = subst (λ (o : Option What). Ends takes IsNext id o mid text new) began e in
        let of_write : IsOfWrite gone.0 = subst IsOfWrite (sym gone.1.last) (all_turned slot gone.1.all mid new has gone.1.turns).1 in
        let few = short id gone.0 of_write in
        let same : length text ≡ length (told_text id gone.0) = ap length gone.2 in
        absurd (omega (arith, few, same, long))

    serves : Serves takes IsNext id (step.Start (request.Write w)) old (refusal_line NoMemory) new → Is
    serves s = ends s.0 s.1 s.2 (begun w old s.1 s.0 s.2) s.3

    serves_not : ServesNot takes IsNext id 0 (step.Start (request.Write w)) old new → Is
    serves_not (inl same) = inl same
    serves_not (inr s) = ends_not s.0 s.1 s.2 (begun w old s.1 s.0 s.2) s.3

  pub writes_refused_memory : WritesRefusedMemory gives set state honest moment left_since
  writes_refused_memory id w old new (inl p) = (serves id w old.store new.store p.0, p.1)
  writes_refused_memory id w old new (inr (text, p)) = (serves_not id w old.store new.store p.0, p.1)

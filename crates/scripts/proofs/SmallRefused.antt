-- A small store that is at 0, begins a flow and is at 1, and ends it by its one turn, at 2: what of it is a write that was refused memory, and what is not.
use Rattle.std.proofs.Common.{◌≡◌, ◌≤◌, inl, inr, ℕ, zero, suc, List, [], ◌∷◌, length, Option, Some, None, refl, sym, ◌∙◌, arith}
use Rattle.names.specs.declared.call_name.CallName.{CallName}
use Rattle.names.specs.declared.call_name.CallName.TheVariants as call
use Rattle.cluster.specs.declared.event.Answer.TheVariants.{Wrote}
use Rattle.cluster.specs.declared.event.What.{What}
use Rattle.cluster.specs.declared.event.What.TheVariants.{Began, Ended, Refused}
use Rattle.cluster.specs.declared.step.Step.{Step}
use Rattle.cluster.specs.declared.step.Step.TheVariants.{Start, Turn, Cancel, Care, Restart}
use Rattle.refusal.specs.declared.refusal.Refusal.TheVariants.{NoMemory}
use Rattle.tuples.specs.declared.write.Write.{Write}
use Rattle.tuples.specs.declared.request.Request.TheVariants as request
use Rattle.scripts.specs.Going.{Turns, last_told, most_calls}
use Rattle.scripts.specs.RefusedWrites.{EndsRefused, IsRefusedMemory}

-- the flow ends with this
abbrev takes : What → ℕ → Step → Option What → ℕ → Type 0
takes end old (Start request) told new = (old ≡ 0) × (told ≡ Some (Began 0)) × (new ≡ 1)
takes end old (Turn slot) told new = (old ≡ 1) × (told ≡ Some end) × (new ≡ 2)
takes end old (Cancel slot) told new = ⊥
takes end old (Care care) told new = ⊥
takes end old (Restart node) told new = ⊥

abbrev nexts : ℕ → ℕ → Option CallName → Type 0
nexts zero slot next = next ≡ None
nexts (suc zero) slot next = next ≡ Some call.Begin
nexts (suc (suc s)) slot next = next ≡ None

module _ (w : Write) where
  abbrev first : Step
  first = Start (request.Write w)

  -- if nothing is done, or the flow ends so, the write was refused memory
  did_nothing : (end : What) → IsRefusedMemory (takes end) nexts first 0 0
  did_nothing end = inl refl

  ended_so : EndsRefused (takes (Refused NoMemory)) nexts first 0 2
  ended_so = (
    0,
    1,
    (refl, refl, refl),
    record { all = Some (Refused NoMemory) ∷ []; turns = (1, refl, (Some call.Begin, refl, λ is. is), (refl, refl, refl)); last = refl; ends = (None, refl, λ is. is) },
  )

  -- no flow makes two turns
  one_turn : (end : What) (slot : ℕ) (t u : Option What) (before : List (Option What)) (old new : ℕ) → Turns (takes end) nexts slot None (t ∷ u ∷ before) old new → ⊥
  one_turn end slot t u before old new turns = let two : 2 ≡ 1 = sym turns.1.3.2 ∙ turns.3.0 in omega (arith, two)

  -- a write that was made and told was not refused memory, whatever the line prints
  made_and_told : IsRefusedMemory (takes (Ended (Wrote 1))) nexts first 0 2 → ⊥
  made_and_told (inl same) = let bad : 2 ≡ 0 = same in omega (arith, bad)
  made_and_told (inr (inl (slot, mid, begun, goes))) = by_turns goes.all goes.turns goes.last
    where
      by_turns : (all : List (Option What)) → Turns (takes (Ended (Wrote 1))) nexts slot None all mid 2 → Some (Refused NoMemory) ≡ last_told all → ⊥
      by_turns [] turns last = cc
      by_turns (t ∷ before) turns last = let told : Some (Refused NoMemory) ≡ Some (Ended (Wrote 1)) = last ∙ turns.3.1 in cc
  made_and_told (inr (inr (slot, mid, begun, gives, many))) = by_turns gives.1.all gives.1.turns many
    where
      by_turns : (all : List (Option What)) → Turns (takes (Ended (Wrote 1))) nexts slot None all mid gives.0 → most_calls ≤ length all → ⊥
      by_turns [] turns few = omega (arith, few)
      by_turns (t ∷ []) turns few = omega (arith, few)
      by_turns (t ∷ u ∷ before) turns few = one_turn (Ended (Wrote 1)) slot t u before mid gives.0 turns

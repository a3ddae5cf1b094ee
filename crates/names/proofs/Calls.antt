-- All calls are among those that a text is looked for in.
use Rattle.std.proofs.Common.{◌≡◌, List, ℕ, [], ◌∷◌, All, MatchOption, Option, Some, None, arith}
use Rattle.names.specs.declared.call_name.CallName.{CallName}
use Rattle.names.specs.declared.call_name.CallName.TheVariants as call
use Rattle.names.specs.Names.{call_text}

abbrev all : List CallName
all = call.Begin ∷ call.Heads ∷ call.Learned ∷ call.Batch ∷ call.Learn ∷ call.StagePrepare ∷ call.Flush ∷ call.Vote ∷ call.Decide ∷ call.Outcome ∷ call.Abort
    ∷ call.DropWrite ∷ call.Inquire ∷ call.InDoubt ∷ call.Read ∷ call.Settle ∷ call.Raise ∷ call.Collect ∷ call.Checkpoint ∷ []

each : (P : CallName → Type 0) → All P all → (c : CallName) → P c
each P h call.Begin = h 0 call.Begin (omega arith)
each P h call.Heads = h 1 call.Heads (omega arith)
each P h call.Learned = h 2 call.Learned (omega arith)
each P h call.Batch = h 3 call.Batch (omega arith)
each P h call.Learn = h 4 call.Learn (omega arith)
each P h call.StagePrepare = h 5 call.StagePrepare (omega arith)
each P h call.Flush = h 6 call.Flush (omega arith)
each P h call.Vote = h 7 call.Vote (omega arith)
each P h call.Decide = h 8 call.Decide (omega arith)
each P h call.Outcome = h 9 call.Outcome (omega arith)
each P h call.Abort = h 10 call.Abort (omega arith)
each P h call.DropWrite = h 11 call.DropWrite (omega arith)
each P h call.Inquire = h 12 call.Inquire (omega arith)
each P h call.InDoubt = h 13 call.InDoubt (omega arith)
each P h call.Read = h 14 call.Read (omega arith)
each P h call.Settle = h 15 call.Settle (omega arith)
each P h call.Raise = h 16 call.Raise (omega arith)
each P h call.Collect = h 17 call.Collect (omega arith)
each P h call.Checkpoint = h 18 call.Checkpoint (omega arith)

pub found : (text : List ℕ) (r : Option CallName) → MatchOption r (All (λ c. text ≡ call_text c → ⊥) all) (λ c. text ≡ call_text c)
    → MatchOption r ((c : CallName) → text ≡ call_text c → ⊥) (λ c. text ≡ call_text c)
found text (Some c) h = h
found text None h = each (λ c. text ≡ call_text c → ⊥) h

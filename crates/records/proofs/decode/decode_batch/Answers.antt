use Rattle.std.proofs.Common.{◌≡◌, ℕ, List, Some, None, Result, Err, arith}
use Rattle.std.specs.Global.{Vec}
use Rattle.refusal.specs.declared.refusal.Refusal.{Refusal}
use Rattle.refusal.specs.declared.refusal.Refusal.TheVariants as refusals
use Rattle.records.specs.declared.record.Record.{Record}
use Rattle.records.specs.declared.unread.Unread.{Unread}
use Rattle.records.specs.declared.unread.Unread.TheVariants.{Damaged, NoMemory}
use Rattle.records.specs.Format.{IsBatch}
use Rattle.records.specs.Giving.{Fails, refusal_of}
use Rattle.records.specs.Reading.{batch}
use Rattle.records.proofs.Spelled.{batch_is, batch_reads}
use Rattle.records.proofs.decode.decode_batch.Goals as goal

abbrev refused : Refusal → Result (Vec Record) Refusal
refused r = Err r

-- what was refused as damaged is no batch
is_none : (u : Unread) (r : Refusal) (bytes : List ℕ) → r ≡ refusal_of u → Fails u (batch bytes) → refused r ≡ refused refusals.Damaged → (rs : List Record) → IsBatch bytes rs → ⊥
is_none Damaged r bytes e fails is rs h =
    let read : batch bytes ≡ Some rs = batch_reads bytes rs h in
    let nothing : batch bytes ≡ None = fails in
    cc
is_none NoMemory r bytes e fails is rs h = cc

pub returns-in-Ok-clause-found : goal.returns-in-Ok-clause-found
returns-in-Ok-clause-found c = batch_is c.args.bytes.now (λ i. omega (arith, c.type_inv.bytes i)) c.in-Ok.records.items c.in-Ok.ensures

pub returns-in-Err-clause-only : goal.returns-in-Err-clause-only
returns-in-Err-clause-only c = is_none c.in-Err.unread c.refusal.result c.args.bytes.now c.refusal.ensures c.in-Err.ensures

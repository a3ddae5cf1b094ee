use Rattle.std.proofs.Common.{◌≡◌, ℕ, ◌+◌, ◌-◌, List, drop, ◌∙◌, ap, arith}
use Rattle.std.proofs.lemmas.List.{drop-drop}
use Rattle.tuples.specs.declared.entry.Entry.{Entry}
use Rattle.ledger.specs.Ledgers.{LedgerValue}
use Rattle.ledger.proofs.ledger.Ledger.forget.Goals as goal

pub loop-preserved : goal.loop-preserved
loop-preserved c =
    let s = c.args.self.now in
    let further : c.loop.counter - s.base + 1 ≡ c.loop.counter + 1 - s.base = (let le = c.loop.auto.counter in let same : c.self.inside.base ≡ s.base = ap (λ (v : LedgerValue). v.base) c.self.view_is in omega (arith, le, same)) in
    c.forget_first.ensures
    ∙ ap (λ (v : LedgerValue). record v { base = v.base + 1; log = drop 1 v.log }) c.loop.invariant
    ∙ ap (λ (l : List Entry). record s { base = c.loop.counter + 1; log = l }) (drop-drop 1 (c.loop.counter - s.base) s.log ∙ ap (λ (n : ℕ). drop n s.log) further)

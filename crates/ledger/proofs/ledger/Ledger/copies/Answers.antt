use Rattle.std.proofs.Common.{◌≡◌, ◌+◌, ◌-◌, ◌<◌, ◌++◌, ◌∷◌, [], List, length, take, drop, get_or, length-drop, sym, ◌∙◌, ap, arith}
use Rattle.std.proofs.lemmas.List.{get_or-drop, take_more}
use Rattle.tuples.specs.declared.entry.Entry.{Entry}
use Rattle.ledger.specs.Ledgers.{LedgerValue}
use Rattle.ledger.proofs.ledger.Ledger.copies.Goals as goal

pub loop-index-preserved : goal.loop-index-preserved
loop-index-preserved c =
    let s = c.self.inside in
    let first = c.args.from - s.base in
    let log = s.decisions.items in
    let i = c.loop-index.index in
    let same : c.args.self.now.log ≡ log = ap (λ (v : LedgerValue). v.log) (sym c.self.view_is) in
    let base : c.args.self.now.base ≡ s.base = ap (λ (v : LedgerValue). v.base) (sym c.self.view_is) in
    let len : length (drop first log) ≡ length log - first = length-drop first log in
    let all : length c.args.self.now.log ≡ length log = ap length same in
    let from = c.requires.from in
    let to = c.requires.to in
    let i_lt = c.loop-index-test.true in
    let lt : i < length (drop first log) = omega (arith, len, all, base, from, to, i_lt) in
    let w = c.in_ok-copied.field-0 in
    let item : w ≡ get_or (drop first log) i w = (let e : w ≡ c.index.result.now = c.in_ok-copied.ensures in e ∙ c.index.ensures ∙ sym (get_or-drop first log i c.index.result.now) ∙ ap (λ (x : Entry). get_or (drop first log) i x) (sym e)) in
    c.in_ok-push.ensures.items ∙ ap (λ (l : List Entry). l ++ w ∷ []) (c.loop-index.invariant ∙ ap (λ (l : List Entry). take i (drop first l)) same)
    ∙ ap (λ (x : Entry). take i (drop first log) ++ x ∷ []) item ∙ sym (take_more (drop first log) i w lt) ∙ ap (λ (l : List Entry). take (i + 1) (drop first l)) (sym same)

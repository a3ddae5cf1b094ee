use Rattle.std.proofs.Common.{◌≡◌, ◌<◌, ◌+◌, ◌-◌, ◌∷◌, ℕ, drop, length, sym, ◌∙◌, ap, subst, arith}
use Rattle.std.proofs.lemmas.List.{drop_more}
use Rattle.tuples.specs.declared.entry.Entry.{Entry}
use Rattle.ledger.specs.Ledgers.{IsDecided, LedgerValue}
use Rattle.ledger.proofs.ledger.Ledger.at.Goals as goal

pub returns-clause-decided : goal.returns-clause-decided
returns-clause-decided c =
    let s = c.self.inside in
    let r = c.index.result.now in
    let view = c.self.view_is in
    let base : s.base ≡ c.args.self.now.base = ap (λ (v : LedgerValue). v.base) view in
    let len : length s.decisions.items ≡ length c.args.self.now.log = ap (λ (v : LedgerValue). length v.log) view in
    let lt : c.args.place - s.base - 1 < length s.decisions.items = omega (arith, base, len, c.requires.behind, c.requires.within) in
    subst IsDecided (sym c.index.ensures) (c.self.invariant.2 (c.args.place - s.base - 1) r lt)

pub returns-clause-rest : goal.returns-clause-rest
returns-clause-rest c =
    let s = c.self.inside in
    let r = c.index.result.now in
    let log = s.decisions.items in
    let view = c.self.view_is in
    let base : s.base ≡ c.args.self.now.base = ap (λ (v : LedgerValue). v.base) view in
    let len : length log ≡ length c.args.self.now.log = ap (λ (v : LedgerValue). length v.log) view in
    let i = c.args.place - s.base - 1 in
    let lt : c.args.place - s.base - 1 < length log = omega (arith, base, len, c.requires.behind, c.requires.within) in
    let next : c.args.place - s.base - 1 + 1 ≡ c.args.place - s.base = omega (arith, base, c.requires.behind) in
    subst (λ (v : LedgerValue). drop (c.args.place - v.base - 1) v.log ≡ r ∷ drop (c.args.place - v.base) v.log) view
    (drop_more log i r lt ∙ ap (λ (x : Entry). x ∷ drop (i + 1) log) (sym c.index.ensures) ∙ ap (λ (n : ℕ). r ∷ drop n log) next)

use Rattle.std.proofs.Common.{◌≡◌, Option, ◌∙◌, ap, subst, MatchOption, None}
use Rattle.tuples.specs.declared.entry.WriteId.{WriteId}
use Rattle.ledger.specs.Ledgers.{AreApart, IsOther, IsPlaceOf, LedgerValue, known_ids, place_of}
use Rattle.ledger.proofs.Indexed.{found_place}
use Rattle.ledger.proofs.ledger.Ledger.find.Goals as goal

pub returns : goal.returns
returns c =
    let s = c.self.inside in
    let none : s.awaited ≡ None = ap (λ (v : LedgerValue). v.awaited) c.self.view_is ∙ c.requires in
    let is = c.self.invariant.0.places c.args.id ∙ ap (λ (o : Option WriteId). place_of c.args.id s.base (known_ids s.decisions.items o)) none in
    subst (λ (v : LedgerValue). MatchOption c.copied.result (IsOther c.args.id v.log) (IsPlaceOf c.args.id v.base v.log)) c.self.view_is
    (found_place c.args.id s.base s.decisions.items c.copied.result (subst AreApart (ap (known_ids s.decisions.items) none) c.self.invariant.0.apart) (c.copied.ensures ∙ c.get.ensures.value ∙ is))

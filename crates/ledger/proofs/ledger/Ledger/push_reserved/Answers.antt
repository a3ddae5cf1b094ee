use Rattle.std.proofs.Common.{◌≡◌, ◌++◌, ◌∷◌, [], All, Some, map, sym, ◌∙◌, ap, subst}
use Rattle.std.proofs.lemmas.List.{map-append}
use Rattle.std.proofs.lemmas.List.Elements.{All-push}
use Rattle.ledger.specs.Ledgers.{IsDecided, IsIndexed, LedgerValue, id_of, known_ids}
use Rattle.ledger.proofs.ledger.Ledger.push_reserved.Goals as goal

pub invariant_of-self : goal.invariant_of-self
invariant_of-self c =
    let s = c.self.inside in
    let log = s.decisions.items in
    let w = c.args.write in
    let items : c.push_back_reserved.new.self.items ≡ log ++ w ∷ [] = c.push_back_reserved.ensures.items in
    let was : s.awaited ≡ Some w.id = ap (λ (v : LedgerValue). v.awaited) c.self.view_is ∙ c.requires.awaited in
    let same : known_ids log s.awaited ≡ map id_of c.push_back_reserved.new.self.items =
    ap (known_ids log) was ∙ sym (map-append id_of log (w ∷ [])) ∙ ap (map id_of) (sym items) in
    (subst (IsIndexed _ s.base) same c.self.invariant.0, tt, subst (All IsDecided) (sym items) (All-push IsDecided log w c.self.invariant.2 c.requires.decided))

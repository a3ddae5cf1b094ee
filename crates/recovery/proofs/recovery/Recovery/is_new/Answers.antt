use Rattle.std.proofs.Common.{◌≡◌, ◌↔◌, List, Bool, Option, Some, None, MatchOption, IsTrue, true, false, subst, ℕ, refl, not, is_some}
use Rattle.tuples.specs.declared.entry.Entry.{Entry}
use Rattle.tuples.specs.declared.entry.WriteId.{WriteId}
use Rattle.records.specs.Coordinators.{CoordinatorState, IsNotDecided}
use Rattle.ledger.specs.Ledgers.{IsOther, IsPlaceOf}
use Rattle.recovery.proofs.recovery.Recovery.is_new.Goals as goal

found_or_other : (id : WriteId) (base : ℕ) (log : List Entry) (o : Option ℕ) (b : Bool) → is_some o ≡ not b → MatchOption o (IsOther id log) (IsPlaceOf id base log) → IsTrue b ↔ IsOther id log
found_or_other id base log None true is other = (λ yes. other, λ yes. refl)
found_or_other id base log None false is other = absurd cc
found_or_other id base log (Some n) true is place = absurd cc
found_or_other id base log (Some n) false is place = (λ yes. absurd cc, λ other. absurd (other place.index place.write place.there place.same))

pub returns : goal.returns
returns c =
    let s = c.self.inside in
    let h = found_or_other c.args.id s.ledger.base s.ledger.log c.find.result c.is_none.result c.is_none.ensures c.find.ensures in
    subst (λ (v : CoordinatorState). IsTrue c.is_none.result ↔ IsNotDecided c.args.id v) c.self.view_is h

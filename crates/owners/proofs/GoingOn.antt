-- Each step goes on by the law.
use Rattle.std.proofs.Common.{◌≡◌, ◌<◌, ℕ, List, [], ◌∷◌, ◌++◌, subst}
use Rattle.tuples.specs.declared.entry.Entry.{Entry}
use Rattle.tuples.specs.declared.entry.WriteId.{WriteId}
use Rattle.joint.proofs.Held.{none_has, only_one}
use Rattle.accord.specs.declared.goods.Begun.{Begun}
use Rattle.accord.specs.declared.parts.ListPart.{ListPart}
use Rattle.accord.specs.OwnedLists.{AreFound, IsOpen, IsPlaced, decided_write, found_list, next_of, no_list, restarted, undecided, with_aborted, with_listed, with_open}
use Rattle.accord.specs.Owning.{decided_of}
use Rattle.accord.proofs.OwnedLists.{aborts_keep_owners, beginnings_keep_owners, decided_writes_stay, decisions_keep_owners, found_lists_are_owned, restarts_keep_owners}
use Rattle.owners.specs.Owners.{GoesOnAlone, GoesOnWith}

pub opens : (log : List Entry) (epoch : ℕ) → 0 < epoch → AreFound log epoch → GoesOnAlone no_list (found_list log epoch)
opens log epoch later found = record {
  owned = λ goods a. found_lists_are_owned log epoch goods a found;
  placed = λ d is. decided_writes_stay.at_openings log epoch d later is;
}

pub begins : (p : ListPart) (begun : List Begun) (w : Entry) → w.id ≡ next_of p → GoesOnWith p begun (with_open p w) (begun ++ undecided w ∷ []) []
begins p begun w next = record {
  owned = λ old new k a is put. beginnings_keep_owners p old new k begun w a is next put;
  placed = λ d is. is;
  facts = λ d none. absurd (none_has d none);
}

pub decides : (p : ListPart) (before : List Begun) (w : Entry) (after : List Begun) → IsOpen p w.id
    → GoesOnWith p (before ++ undecided w ∷ after) (with_listed p w) (before ++ decided_of (undecided w) ∷ after) (decided_write p w ∷ [])
decides p before w after is_open = record {
  owned = λ old new k a is put. decisions_keep_owners p old new k before w after a is is_open put;
  placed = λ d is. decided_writes_stay.at_decisions p w d is;
  facts = λ d one. subst (IsPlaced (with_listed p w)) (only_one (decided_write p w) d one) (decided_writes_stay.new p w);
}

pub aborts : (p : ListPart) (id : WriteId) → GoesOnAlone p (with_aborted p id)
aborts p id = record { owned = λ goods a. aborts_keep_owners p goods id a; placed = λ d is. is }

pub restarts : (p : ListPart) (count epoch : ℕ) → p.epoch < epoch → GoesOnAlone p (restarted p count epoch)
restarts p count epoch later = record {
  owned = λ goods a. restarts_keep_owners p goods count epoch a later;
  placed = λ d is. decided_writes_stay.at_restarts p count epoch d later is;
}

use Rattle.std.proofs.Common.{◌≡◌, ℕ, ◌∷◌, Bool, List, Option, Some, None, sym, ◌∙◌, ap, subst, if◌then◌else◌, deque_len, deque_capacity, length, refl, arith}
use Rattle.std.specs.BTreeMap.{get}
use Rattle.std.proofs.lemmas.List.Elements.{All-rest}
use Rattle.tuples.specs.declared.entry.Entry.{Entry}
use Rattle.tuples.specs.declared.entry.WriteId.{WriteId}
use Rattle.tuples.specs.Log.{same_id}
use Rattle.holds.proofs.Ids.{id_ties}
use Rattle.ledger.specs.Ledgers.{AreApart, HasRoomFor, IsDecided, id_cmp, known_ids, place_of}
use Rattle.ledger.proofs.Indexed.{place_dropped}
use Rattle.ledger.proofs.ledger.Ledger.forget_first.Goals as goal

known_first : (w : Entry) (log : List Entry) (awaited : Option WriteId) → known_ids (w ∷ log) awaited ≡ w.id ∷ known_ids log awaited
known_first w log None = refl
known_first w log (Some id) = refl

pub invariant_of-self : goal.invariant_of-self
invariant_of-self c =
    let s = c.self.inside in
    let w = c.in-Some.first in
    let rest = known_ids c.pop_front.new.self.items s.awaited in
    let known : known_ids s.decisions.items s.awaited ≡ w.id ∷ rest = ap (λ (l : List Entry). known_ids l s.awaited) c.in-Some.ensures.items ∙ known_first w c.pop_front.new.self.items s.awaited in
    let apart : AreApart (w.id ∷ rest) = subst AreApart known c.self.invariant.0.apart in (
      record {
        places = λ id. c.remove-place.ensures.updates.0 id
            ∙ ap (λ (b : Bool). if b then None else get id_cmp s.places id) (sym (id_ties w.id id))
            ∙ ap (λ (o : Option ℕ). if same_id w.id id then None else o) (c.self.invariant.0.places id ∙ ap (place_of id s.base) known)
            ∙ place_dropped id w.id s.base rest apart;
        apart = apart.1;
        fits = let was = c.self.invariant.0.fits in let len : length (known_ids s.decisions.items s.awaited) ≡ length (w.id ∷ rest) = ap length known in omega (arith, was, len);
      },
      room s.awaited c.self.invariant.1,
      All-rest IsDecided w c.pop_front.new.self.items s.decisions.items c.in-Some.ensures.items c.self.invariant.2,
    )
  where
    room : (o : Option WriteId) → HasRoomFor o (deque_len c.self.inside.decisions) (deque_capacity c.self.inside.decisions) → HasRoomFor o (deque_len c.pop_front.new.self) (deque_capacity c.pop_front.new.self)
    room None has = tt
    room (Some id) has = let len = c.in-Some.ensures.len in let cap = c.in-Some.ensures.capacity in omega (arith, has, len, cap)

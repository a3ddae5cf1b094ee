use Rattle.std.proofs.Common.{◌≡◌, ℕ, ◌+◌, ◌++◌, ◌∷◌, [], Bool, List, Option, Some, None, sym, ◌∙◌, ap, subst, if◌then◌else◌, map, length, length-append, arith}
use Rattle.std.proofs.lemmas.List.{length-map}
use Rattle.std.specs.BTreeMap.{get}
use Rattle.std.proofs.lemmas.List.Elements.{All-same}
use Rattle.tuples.specs.declared.entry.Entry.{Entry}
use Rattle.tuples.specs.Log.{same_id}
use Rattle.holds.proofs.Ids.{id_ties}
use Rattle.ledger.specs.Ledgers.{AreApart, IsDecided, IsOther, LedgerValue, id_cmp, id_of, known_ids, place_of}
use Rattle.ledger.proofs.Indexed.{apart_pushed, other_none, place_pushed}
use Rattle.ledger.proofs.ledger.Ledger.reserve.Goals as goal

pub invariant_of-self-2 : goal.invariant_of-self-2
invariant_of-self-2 c =
    let s = c.self.inside in
    let new = c.args.id in
    let ids = map id_of s.decisions.items in
    let was : s.awaited ≡ None = ap (λ (v : LedgerValue). v.awaited) c.self.view_is ∙ c.requires.settled in
    let known : known_ids s.decisions.items s.awaited ≡ ids = ap (known_ids s.decisions.items) was in
    let items : c.reserve.new.self.items ≡ s.decisions.items = c.in_ok-reserve.ensures.items in
    let none : (base : ℕ) → place_of new base ids ≡ None = other_none new s.decisions.items (subst (λ (v : LedgerValue). IsOther new v.log) (sym c.self.view_is) c.requires.new) in
    let apart : AreApart ids = subst AreApart known c.self.invariant.0.apart in
    let place : c.end-place.result ≡ s.base + length ids = c.end-place.ensures.value ∙ ap (λ (v : LedgerValue). v.base + length v.log) (sym c.self.view_is) ∙ ap (λ (n : ℕ). s.base + n) (sym (length-map s.decisions.items id_of)) in
    let log : map id_of c.reserve.new.self.items ++ new ∷ [] ≡ ids ++ new ∷ [] = ap (λ (l : List Entry). map id_of l ++ new ∷ []) items in (
      record {
        places = λ id. c.in-Ok.ensures.updates.0 id
            ∙ ap (λ (b : Bool). if b then Some (c.end-place.result + 1) else get id_cmp s.places id) (sym (id_ties new id))
            ∙ ap (λ (n : ℕ). if same_id new id then Some (n + 1) else get id_cmp s.places id) place
            ∙ ap (λ (o : Option ℕ). if same_id new id then Some (s.base + length ids + 1) else o) (c.self.invariant.0.places id ∙ ap (place_of id s.base) known)
            ∙ sym (place_pushed id new s.base ids (none s.base))
            ∙ ap (place_of id s.base) (sym log);
        apart = subst AreApart (sym log) (apart_pushed ids new apart none);
        fits =
            let few = c.requires.few in
            let same : c.args.self.now.base + length c.args.self.now.log ≡ s.base + length ids = ap (λ (v : LedgerValue). v.base + length v.log) (sym c.self.view_is) ∙ ap (λ (n : ℕ). s.base + n) (sym (length-map s.decisions.items id_of)) in
            let len : length (map id_of c.reserve.new.self.items ++ new ∷ []) ≡ length ids + 1 = ap length log ∙ length-append ids (new ∷ []) in
            omega (arith, few, same, len);
      },
      let room = c.in_ok-reserve.ensures.ok in let len = c.in_ok-reserve.ensures.len in omega (arith, room, len),
      All-same IsDecided c.reserve.new.self.items s.decisions.items items c.self.invariant.2,
    )

-- The steps of a coordinator's list keep it owned.
use Rattle.std.proofs.Common.{◌≡◌, ◌⊎◌, inl, inr, ⊎_elim, ℕ, ◌≤◌, ◌<◌, List, [], ◌∷◌, ◌++◌, length, Some, None, Contains, slice_get, refl, sym, ◌∙◌, ap, subst, arith}
use Rattle.std.proofs.lemmas.Option.{slice_get_within}
use Rattle.tuples.specs.declared.entry.Entry.{Entry}
use Rattle.tuples.specs.declared.entry.WriteId.{WriteId}
use Rattle.tuples.proofs.Lists.{contained_at, contained_from, first_or_later, slice_get_last, slice_get_longer, slice_get_push}
use Rattle.records.specs.Replays.{without}
use Rattle.laws.proofs.Lists.{slice_get_taken}
use Rattle.laws.proofs.Locks.{of_without, same_or_not}
use Rattle.accord.specs.declared.fact.DecidedWrite.{DecidedWrite}
use Rattle.accord.specs.declared.goods.Begun.{Begun}
use Rattle.accord.specs.declared.parts.ListPart.{ListPart}
use Rattle.accord.specs.OwnedLists.{AbortsKeepOwners, BeginningsKeepOwners, CallersBeginWithNothing, DecidedWritesStay, DecisionsKeepOwners, FoundListsAreOwned, Goods, IsOpen, IsOwned, IsPlaced, IsPut, NoListIsOwned, RestartsKeepOwners, WasGiven, next_of, no_list, undecided, with_listed, with_open}
use Rattle.accord.specs.Owning.{GivesUp, Owned, decided_of}
use Rattle.accord.proofs.BegunGoods.{gives_up, its_own, last_is, last_or_was, other_is, other_was, was_is}
use Rattle.accord.proofs.Owners.{owners_decide, undecided_is_unlisted}

pub no_list_is_owned : NoListIsOwned
no_list_is_owned = record {
  owners = record {
    once = λ k l i j b d own own' same. let none = own.has in absurd cc;
    opened = λ k i b w own has same. let none = own.has in absurd cc;
    listed = λ k i b j w own at same. let none = own.has in absurd cc;
    all_listed = λ j w at le. absurd cc;
    all_open = λ w has. absurd (omega (arith, has.1));
  };
  distinct = λ i j v w is_v is_w same. absurd cc;
  listed = λ j w at. absurd cc;
  begun = λ k i b own. let none = own.has in absurd cc;
}

-- before the store is opened nobody has begun anything
nobody : (goods : Goods) → IsOwned no_list goods → (k i : ℕ) (b : Begun) → Owned goods k i b → ⊥
nobody goods a k i b own = ⊎_elim (λ lt. omega (arith, lt)) (λ now. let low = now.1 in omega (arith, low)) (a.begun k i b own)

pub found_lists_are_owned : FoundListsAreOwned
found_lists_are_owned log epoch goods a found = record {
  owners = record {
    once = λ k l i j b d own own' same. absurd (nobody goods a k i b own);
    opened = λ k i b w own has same. absurd (nobody goods a k i b own);
    listed = λ k i b j w own at same. absurd (nobody goods a k i b own);
    all_listed = λ j w at le. absurd (outside log j w at le);
    all_open = λ w has. absurd (omega (arith, has.1));
  };
  distinct = found.distinct;
  listed = λ j w at. inl (found.earlier j w at);
  begun = λ k i b own. absurd (nobody goods a k i b own);
}
  where
    outside : (xs : List Entry) (j : ℕ) (w : Entry) → slice_get xs j ≡ Some w → length xs ≤ j → ⊥
    outside xs j w at le = omega (arith, slice_get_within xs j w at, le)

module _ (p : ListPart) (old new : Goods) (k : ℕ) (a : IsOwned p old) (none : old k ≡ None) (put : IsPut old new k []) where
  -- the new caller has nothing, and all others what they had
  others : (l j : ℕ) (d : Begun) → Owned new l j d → Owned old l j d
  others l j d own = ⊎_elim
      (λ (same : l ≡ k). let at = its_own old new k [] put j d (subst (λ (m : ℕ). Owned new m j d) same own) in absurd cc)
      (λ ne. other_was old new k [] put l j d ne own)
      (same_or_not l k)

  still : (l j : ℕ) (d : Begun) → Owned old l j d → Owned new l j d
  still l j d own = ⊎_elim
      (λ (same : l ≡ k). let has = (subst (λ (m : ℕ). Owned old m j d) same own).has in absurd cc)
      (λ ne. other_is old new k [] put l j d ne own)
      (same_or_not l k)

  newly : IsOwned p new
  newly = record {
    owners = record {
      once = λ l m i j b d own own' same. a.owners.once l m i j b d (others l i b own) (others m j d own') same;
      opened = λ l i b w own has same. a.owners.opened l i b w (others l i b own) has same;
      listed = λ l i b j w own at same. a.owners.listed l i b j w (others l i b own) at same;
      all_listed = λ j w at le. let x = a.owners.all_listed j w at le in (x.0, x.1, x.2, still x.0 x.1 x.2 x.3, x.4);
      all_open = λ w has. let x = a.owners.all_open w has in (x.0, x.1, x.2, still x.0 x.1 x.2 x.3, x.4);
    };
    distinct = a.distinct;
    listed = a.listed;
    begun = λ l i b own. a.begun l i b (others l i b own);
  }

pub callers_begin_with_nothing : CallersBeginWithNothing
callers_begin_with_nothing p old new k a none put = newly p old new k a none put

-- the next id was never given
never_given : (p : ListPart) (id : WriteId) → id ≡ next_of p → WasGiven p id → ⊥
never_given p id is given =
    let epoch = ap (λ (x : WriteId). x.epoch) is in
    let number = ap (λ (x : WriteId). x.number) is in
    ⊎_elim (λ lt. omega (arith, lt, epoch)) (λ now. let low = now.2 in omega (arith, low, number)) given

-- what was given stays so
one_more : (p : ListPart) (w : Entry) (id : WriteId) → WasGiven p id → WasGiven (with_open p w) id
one_more p w id given = ⊎_elim (λ lt. inl lt) (λ now. let low = now.2 in inr (now.0, now.1, omega (arith, low))) given

module _ (p : ListPart) (old new : Goods) (k : ℕ) (begun : List Begun) (w : Entry) (a : IsOwned p old) (is : old k ≡ Some begun) (next : w.id ≡ next_of p) (put : IsPut old new k (begun ++ undecided w ∷ [])) where
  back : (l j : ℕ) (d : Begun) → Owned new l j d → ((l ≡ k) × (j ≡ length begun) × (undecided w ≡ d)) ⊎ Owned old l j d
  back = last_or_was old new k begun (undecided w) is put

  stays : (l j : ℕ) (d : Begun) → Owned old l j d → Owned new l j d
  stays = was_is old new k begun (undecided w) is put

  -- an id that was given is not that of the write
  not_its : (id : WriteId) → WasGiven p id → id ≡ w.id → ⊥
  not_its id given same = never_given p id (same ∙ next) given

  id_of : (d : Begun) → undecided w ≡ d → w.id ≡ d.write.id
  id_of d same = ap (λ (b : Begun). b.write.id) same

  is_given : WasGiven (with_open p w) w.id
  is_given =
      let epoch = ap (λ (x : WriteId). x.epoch) next in
      let number = ap (λ (x : WriteId). x.number) next in
      inr (epoch, omega (arith, number), omega (arith, number))

  beginning : IsOwned (with_open p w) new
  beginning = record {
    owners = record {
      once = λ l m i j b d own own' same. ⊎_elim
          (λ one. ⊎_elim
          (λ other. (one.0 ∙ sym other.0, one.1 ∙ sym other.1))
          (λ was. absurd (not_its d.write.id (a.begun m j d was) (sym same ∙ sym (id_of b one.2))))
          (back m j d own'))
          (λ was. ⊎_elim
          (λ other. absurd (not_its b.write.id (a.begun l i b was) (same ∙ sym (id_of d other.2))))
          (λ was'. a.owners.once l m i j b d was was' same)
          (back m j d own'))
          (back l i b own);
      opened = λ l i b v own has same. ⊎_elim
          (λ first. ⊎_elim
          (λ one. (sym first ∙ ap (λ (x : Begun). x.write) one.2, ap (λ (x : Begun). x.is_decided) (sym one.2)))
          (λ was. absurd (not_its b.write.id (a.begun l i b was) (sym same ∙ ap (λ (x : Entry). x.id) (sym first))))
          (back l i b own))
          (λ later. ⊎_elim
          (λ one.
          let x = a.owners.all_open v later in
          absurd (not_its v.id (subst (WasGiven p) (ap (λ (y : Entry). y.id) x.4) (a.begun x.0 x.1 x.2 x.3)) (same ∙ sym (id_of b one.2))))
          (λ was. a.owners.opened l i b v was later same)
          (back l i b own))
          (first_or_later w v p.open_writes has);
      listed = λ l i b j v own at same. ⊎_elim
          (λ one. absurd (not_its v.id (a.listed j v at) (same ∙ sym (id_of b one.2))))
          (λ was. a.owners.listed l i b j v was at same)
          (back l i b own);
      all_listed = λ j v at le. let x = a.owners.all_listed j v at le in (x.0, x.1, x.2, stays x.0 x.1 x.2 x.3, x.4);
      all_open = λ v has. ⊎_elim
          (λ first. (k, length begun, undecided w, last_is old new k begun (undecided w) is put, first))
          (λ later. let x = a.owners.all_open v later in (x.0, x.1, x.2, stays x.0 x.1 x.2 x.3, x.4))
          (first_or_later w v p.open_writes has);
    };
    distinct = a.distinct;
    listed = λ j v at. one_more p w v.id (a.listed j v at);
    begun = λ l i b own. ⊎_elim
        (λ one. subst (WasGiven (with_open p w)) (id_of b one.2) is_given)
        (λ was. one_more p w b.write.id (a.begun l i b was))
        (back l i b own);
  }

pub beginnings_keep_owners : BeginningsKeepOwners
beginnings_keep_owners p old new k begun w a is next put = beginning p old new k begun w a is next put

module _ (p : ListPart) (old new : Goods) (k : ℕ) (before : List Begun) (w : Entry) (after : List Begun) (a : IsOwned p old) (is : old k ≡ Some (before ++ undecided w ∷ after)) (is_open : IsOpen p w.id) (put : IsPut old new k (before ++ decided_of (undecided w) ∷ after)) where
  gives : GivesUp old new k (length before) (undecided w)
  gives = gives_up old new k before w after is put

  -- no listed write has its id
  fresh : (j : ℕ) (v : Entry) → slice_get p.log j ≡ Some v → v.id ≡ w.id → ⊥
  fresh j v at same = undecided_is_unlisted p.found p.log p.open_writes old k (length before) (undecided w) a.owners gives.was refl j v at (sym same)

  decision : IsOwned (with_listed p w) new
  decision = record {
    owners = owners_decide p.found p.log p.open_writes old new k (length before) (undecided w) a.owners gives;
    distinct = λ i j u v at_i at_j same. ⊎_elim
        (λ i_was. ⊎_elim
        (λ j_was. a.distinct i j u v i_was j_was same)
        (λ j_last. absurd (fresh i u i_was (same ∙ ap (λ (e : Entry). e.id) (sym j_last.1))))
        (slice_get_push p.log w v j at_j))
        (λ i_last. ⊎_elim
        (λ j_was. absurd (fresh j v j_was (sym same ∙ ap (λ (e : Entry). e.id) (sym i_last.1))))
        (λ j_last. i_last.0 ∙ sym j_last.0)
        (slice_get_push p.log w v j at_j))
        (slice_get_push p.log w u i at_i);
    listed = λ j v at. ⊎_elim
        (λ was. a.listed j v was)
        (λ last. subst (λ (e : Entry). WasGiven p e.id) last.1 (a.begun k (length before) (undecided w) gives.was))
        (slice_get_push p.log w v j at);
    begun = λ l i b own. ⊎_elim
        (λ here. subst (WasGiven p) (ap (λ (x : Begun). x.write.id) (sym here.2)) (a.begun k (length before) (undecided w) gives.was))
        (λ other. a.begun l i b other.1)
        (gives.back l i b own);
  }

pub decisions_keep_owners : DecisionsKeepOwners
decisions_keep_owners p old new k before w after a is is_open put = decision p old new k before w after a is is_open put

-- what is open without one was open
was_open : (id : WriteId) (ws : List Entry) (v : Entry) → Contains (without id ws) v → Contains ws v
was_open id ws v has =
    let at = contained_at (without id ws) v has in
    let was = of_without id ws at.0 v at.1 in
    contained_from ws was.0 v was.1

pub aborts_keep_owners : AbortsKeepOwners
aborts_keep_owners p goods id a = record {
  owners = record {
    once = a.owners.once;
    opened = λ k i b w own has same. a.owners.opened k i b w own (was_open id p.open_writes w has) same;
    listed = a.owners.listed;
    all_listed = a.owners.all_listed;
    all_open = λ w has. a.owners.all_open w (was_open id p.open_writes w has);
  };
  distinct = a.distinct;
  listed = a.listed;
  begun = a.begun;
}

-- each id that was given is of an earlier epoch than a later one
past : (p : ListPart) (epoch : ℕ) (id : WriteId) → p.epoch < epoch → WasGiven p id → id.epoch < epoch
past p epoch id later given = ⊎_elim (λ lt. omega (arith, lt, later)) (λ now. let e = now.0 in omega (arith, e, later)) given

pub restarts_keep_owners : RestartsKeepOwners
restarts_keep_owners p goods count epoch a later = record {
  owners = record {
    once = a.owners.once;
    opened = λ k i b w own has same. absurd (omega (arith, has.1));
    listed = λ k i b j w own at same. a.owners.listed k i b j w own (slice_get_taken count p.log j w at) same;
    all_listed = λ j w at le. a.owners.all_listed j w (slice_get_taken count p.log j w at) le;
    all_open = λ w has. absurd (omega (arith, has.1));
  };
  distinct = λ i j v w at_i at_j same. a.distinct i j v w (slice_get_taken count p.log i v at_i) (slice_get_taken count p.log j w at_j) same;
  listed = λ j w at. inl (past p epoch w.id later (a.listed j w (slice_get_taken count p.log j w at)));
  begun = λ k i b own. inl (past p epoch b.write.id later (a.begun k i b own));
}

-- a fact of an earlier epoch
passed : (p : ListPart) (epoch : ℕ) (d : DecidedWrite) → p.epoch < epoch → IsPlaced p d → d.epoch < epoch
passed p epoch d later placed = ⊎_elim (λ lt. omega (arith, lt, later)) (λ now. let e = now.0 in omega (arith, e, later)) placed

pub decided_writes_stay : DecidedWritesStay
decided_writes_stay = record {
  new = λ p w. inr (refl, (length p.log, refl, slice_get_last p.log w));
  at_decisions = λ p w d placed. ⊎_elim (λ lt. inl lt) (λ now. inr (now.0, (now.1.0, now.1.1, slice_get_longer p.log (w ∷ []) now.1.0 d.write now.1.2))) placed;
  at_restarts = λ p count epoch d later placed. inl (passed p epoch d later placed);
  at_openings = λ log epoch d later placed. inl (passed no_list epoch d later placed);
}

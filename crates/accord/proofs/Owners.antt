-- Who began a write decides it.
use Rattle.std.proofs.Common.{◌≡◌, ◌≢◌, ⊎_elim, ℕ, List, [], ◌∷◌, ◌++◌, Option, Contains, slice_get, refl, sym, ◌∙◌, ap, subst}
use Rattle.std.proofs.lemmas.Bool.{both_ways}
use Rattle.std.proofs.lemmas.Option.{same_Some}
use Rattle.tuples.specs.declared.entry.Entry.{Entry}
use Rattle.tuples.proofs.Lists.{contained_at, contained_from, slice_get_push}
use Rattle.records.specs.Replays.{without}
use Rattle.laws.proofs.Locks.{of_without, same_or_not}
use Rattle.laws.proofs.Without.{other_without}
use Rattle.accord.specs.declared.goods.Begun.{Begun}
use Rattle.accord.specs.Owning.{GivesUp, Owned, OwnersAgree, OwnersDecide, UndecidedIsUnlisted, decided_of}

pub undecided_is_unlisted : UndecidedIsUnlisted
undecided_is_unlisted first log open_writes goods k i b a own none j w at same = both_ways _ none (a.listed k i b j w own at (sym same)).1

-- what a caller has as one number is one
one_of : (goods : ℕ → Option (List Begun)) (k i : ℕ) (b d : Begun) → Owned goods k i b → Owned goods k i d → b ≡ d
one_of goods k i b d x y =
    let same : x.begun ≡ y.begun = same_Some _ _ (sym x.has ∙ y.has) in
    same_Some _ _ (sym x.there ∙ ap (λ (l : List Begun). slice_get l i) same ∙ y.there)

module _ (first : ℕ) (log open_writes : List Entry) (old new : ℕ → Option (List Begun)) (k i : ℕ) (b : Begun) (a : OwnersAgree first log open_writes old) (g : GivesUp old new k i b) where
  -- what is begun now was begun before, as the same write
  before : (l j : ℕ) (d : Begun) → Owned new l j d → (e : Begun) × Owned old l j e × (e.write ≡ d.write)
  before l j d own = ⊎_elim
      (λ here. (b, subst (λ (m : ℕ). Owned old m j b) (sym here.0) (subst (λ (m : ℕ). Owned old k m b) (sym here.1) g.was), ap (λ (x : Begun). x.write) (sym here.2)))
      (λ other. (d, other.1, refl))
      (g.back l j d own)

  -- and what was begun before is still
  after : (l j : ℕ) (e : Begun) → Owned old l j e → (d : Begun) × Owned new l j d × (d.write ≡ e.write)
  after l j e own = ⊎_elim
      (λ (same_k : l ≡ k). ⊎_elim
      (λ (same_i : j ≡ i).
      let at : Owned old k i e = subst (λ (m : ℕ). Owned old k m e) same_i (subst (λ (m : ℕ). Owned old m j e) same_k own) in (
        decided_of b,
        subst (λ (m : ℕ). Owned new m j (decided_of b)) (sym same_k) (subst (λ (m : ℕ). Owned new k m (decided_of b)) (sym same_i) g.here),
        ap (λ (x : Begun). x.write) (one_of old k i b e g.was at),
      ))
      (λ ne. (e, g.stays l j e (λ is_k is_i. ne is_i) own, refl))
      (same_or_not j i))
      (λ ne. (e, g.stays l j e (λ is_k is_i. ne is_k) own, refl))
      (same_or_not l k)

  was_open : (w : Entry) → Contains (without b.write.id open_writes) w → Contains open_writes w × (w.id ≢ b.write.id)
  was_open w has =
      let at = contained_at (without b.write.id open_writes) w has in
      let was = of_without b.write.id open_writes at.0 w at.1 in
      (contained_from open_writes was.0 w was.1, other_without b.write.id open_writes w has)

  agree : OwnersAgree first (log ++ b.write ∷ []) (without b.write.id open_writes) new
  agree = record {
    once = λ l m j n d e own own' same.
        let x = before l j d own in
        let y = before m n e own' in
        a.once l m j n x.0 y.0 x.1 y.1 (ap (λ (v : Entry). v.id) x.2 ∙ same ∙ ap (λ (v : Entry). v.id) (sym y.2));
    opened = λ l j d w own has same.
        let is_open = was_open w has in
        ⊎_elim
        (λ here. absurd (is_open.1 (same ∙ ap (λ (x : Begun). x.write.id) here.2)))
        (λ other. a.opened l j d w other.1 is_open.0 same)
        (g.back l j d own);
    listed = λ l j d n w own at same. ⊎_elim
        (λ here.
        let is_b : d.write ≡ b.write = ap (λ (x : Begun). x.write) here.2 in (
          ⊎_elim
              (λ was. (a.listed k i b n w g.was was (same ∙ ap (λ (v : Entry). v.id) is_b)).0)
              (λ last. sym last.1)
              (slice_get_push log b.write w n at) ∙ sym is_b,
          ap (λ (x : Begun). x.is_decided) here.2,
        ))
        (λ other. ⊎_elim
        (λ was. a.listed l j d n w other.1 was same)
        (λ last.
        let both = a.once l k j i d b other.1 g.was (sym same ∙ ap (λ (v : Entry). v.id) (sym last.1)) in
        absurd (other.0 both.0 both.1))
        (slice_get_push log b.write w n at))
        (g.back l j d own);
    all_listed = λ n w at le. ⊎_elim
        (λ was.
        let x = a.all_listed n w was le in
        let y = after x.0 x.1 x.2 x.3 in
        (x.0, x.1, y.0, y.1, y.2 ∙ x.4))
        (λ last. (k, i, decided_of b, g.here, last.1))
        (slice_get_push log b.write w n at);
    all_open = λ w has.
        let x = a.all_open w (was_open w has).0 in
        let y = after x.0 x.1 x.2 x.3 in
        (x.0, x.1, y.0, y.1, y.2 ∙ x.4);
  }

pub owners_decide : OwnersDecide
owners_decide first log open_writes old new k i b a g = agree first log open_writes old new k i b a g

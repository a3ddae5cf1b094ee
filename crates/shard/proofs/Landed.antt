-- What a shard keeps in memory, while its devices are elsewhere and once they are back.
use Rattle.std.proofs.Common.{◌≡◌, ◌++◌, ◌||◌, ℕ, Bool, true, false, List, drop, length, take, append_assoc, true≢false, sym, ap, ◌∙◌, subst}
use Rattle.std.proofs.Math.Seq.{drop-append_seam}
use Rattle.std.proofs.lemmas.List.{take-append-drop}
use Rattle.std.proofs.lemmas.List.Elements.{Contains-append_left}
use Rattle.std.proofs.lemmas.Bool.{or_parts}
use Rattle.away.specs.Aways.{lent_honest, lent_state}
use Rattle.away.specs.declared.away.Away.{Away}
use Rattle.tuples.specs.declared.entry.WriteId.{WriteId}
use Rattle.records.specs.declared.record.Record.{Record}
use Rattle.records.specs.declared.record.Record.TheVariants.{Epoch}
use Rattle.records.specs.Replays.{Identity, IsShardImage, ShardState, shard_state}
use Rattle.device.specs.Device.{State}
use Rattle.journal.specs.Lending.{IsLent, landed}
use Rattle.journal.specs.Records.{HasRecords, View}
use Rattle.journal.proofs.Calls.{records_lent}
use Rattle.decisions.specs.Values.{NamesNode}
use Rattle.shard.specs.Keeping.{IsKept, prepared_ids}
use Rattle.shard.specs.Lending.{HasFlown, IsLentShard}
use Rattle.shard.specs.Shards.{IsUp, ShardView, memory}
use Rattle.shard.specs.declared.lending.Flying.{Flying}
use Rattle.shard.proofs.Kept.{prepared_append, view_of}

named_still : (rs more : List Record) (node : ℕ) → NamesNode rs node → NamesNode (rs ++ more) node
named_still rs more node named = (named.0, named.1, named.2, Contains-append_left rs more (Epoch named.0 named.1 named.2 node) named.3)

-- the ids that are left once the first of what is staged is durable
left_ids : (n prepares : ℕ) (staged : List Record) (ids : List WriteId) → ids ≡ prepared_ids staged → prepares ≡ length (prepared_ids (take n staged)) → drop prepares ids ≡ prepared_ids (drop n staged)
left_ids n prepares staged ids is count =
    ap (drop prepares) (is ∙ ap prepared_ids (sym (take-append-drop n staged)) ∙ prepared_append (take n staged) (drop n staged))
    ∙ ap (λ (k : ℕ). drop k (prepared_ids (take n staged) ++ prepared_ids (drop n staged))) count
    ∙ drop-append_seam (prepared_ids (take n staged)) (prepared_ids (drop n staged))

-- what is durable then, and what is staged still
all_of : (n : ℕ) (durable staged now : List Record) → now ≡ durable ++ take n staged → durable ++ staged ≡ now ++ drop n staged
all_of n durable staged now is =
    ap (λ (rs : List Record). durable ++ rs) (sym (take-append-drop n staged)) ∙ sym (append_assoc durable (take n staged) (drop n staged)) ∙ ap (λ (rs : List Record). rs ++ drop n staged) (sym is)

module _ {D : Type 0} (state : D → State) (honest : D → Type 0) where
  -- the same over what stands for the devices
  pub kept_lent : (j : View D) (k : View (Away D)) (me : Identity) (m : ShardState) (ids : List WriteId) (settled : ℕ) → IsLent state j k → IsKept state honest j me m ids settled
      → IsKept (lent_state state) (lent_honest honest) k me m ids settled
  kept_lent j k me m ids settled is was = record {
    rs = was.rs;
    replayed = was.replayed;
    image = was.image;
    opened = was.opened;
    some = was.some;
    few = was.few;
    node = was.node;
    backed = λ up ha hb.
        let b = was.backed (sym is.is_down ∙ up) (subst honest is.a.was ha) (subst honest is.b.was hb) in
        record {
          rest = subst (HasRecords (lent_state state k.a) (lent_state state k.b)) (sym is.durable) (records_lent state j.a j.b k.a k.b j.durable is.a.was is.b.was b.rest);
          whole = b.whole ∙ ap (λ (rs : List Record). rs ++ j.staged) (sym is.durable) ∙ ap (λ (rs : List Record). k.durable ++ rs) (sym is.staged);
        };
    named = λ up ha hb. subst (λ (rs : List Record). NamesNode rs me.node) (sym is.durable) (was.named (sym is.is_down ∙ up) (subst honest is.a.was ha) (subst honest is.b.was hb));
    unflushed_are = λ up. was.unflushed_are (sym is.is_down ∙ up) ∙ ap prepared_ids (sym is.staged);
    settled_is = λ up ha hb. was.settled_is (sym is.is_down ∙ up) (subst honest is.a.was ha) (subst honest is.b.was hb) ∙ ap (λ (rs : List Record). (shard_state rs).learned) (sym is.durable);
  }

  pub up_lent : (v : ShardView D) (u : ShardView (Away D)) → IsLentShard state v u → IsUp state honest v → IsUp (lent_state state) (lent_honest honest) u
  up_lent v u is up = record {
    honest_a = subst honest (sym is.a.was) up.honest_a;
    honest_b = subst honest (sym is.b.was) up.honest_b;
    up = is.is_down ∙ up.up;
    rest = subst (HasRecords (lent_state state u.a) (lent_state state u.b)) (sym is.durable) (records_lent state v.a v.b u.a u.b v.durable is.a.was is.b.was up.rest);
    image = subst (λ (rs : List Record). IsShardImage u.me (rs ++ u.staged)) (sym is.durable)
        (subst (λ (rs : List Record). IsShardImage u.me (v.durable ++ rs)) (sym is.staged) (subst (λ (me : Identity). IsShardImage me (v.durable ++ v.staged)) (sym is.me) up.image));
  }

  -- what it has learned with all that is staged
  pub learned_all : (j : View D) (me : Identity) (m : ShardState) (ids : List WriteId) (settled : ℕ) → IsKept state honest j me m ids settled → (v : ShardView D) → view_of j me ≡ v
      → v.is_down ≡ false → honest v.a → honest v.b → m.learned ≡ (memory v).learned
  learned_all j me m ids settled was v is =
      subst (λ (w : ShardView D). w.is_down ≡ false → honest w.a → honest w.b → m.learned ≡ (memory w).learned) is
      (λ up ha hb. was.replayed.learned ∙ ap (λ (rs : List Record). (shard_state rs).learned) (was.backed up ha hb).whole)

  same_kept : (j : View D) (me : Identity) (m : ShardState) (ids ids_too : List WriteId) (settled settled_too : ℕ) → ids_too ≡ ids → settled_too ≡ settled → IsKept state honest j me m ids settled → IsKept state honest j me m ids_too settled_too
  same_kept j me m ids ids_too settled settled_too same_ids same_place was =
      subst (λ (x : List WriteId). IsKept state honest j me m x settled_too) (sym same_ids) (subst (λ (x : ℕ). IsKept state honest j me m ids x) (sym same_place) was)

  -- The devices of a shard that its callers see as v are back.
  module _ (j : View (Away D)) (f k : View D) (me : Identity) (m : ShardState) (ids : List WriteId) (settled : ℕ) (flying : Flying) (v : ShardView (Away D))
      (was : IsKept (lent_state state) (lent_honest honest) j me m ids settled) (is : view_of j me ≡ v) (back : k ≡ landed j f flying.sent) where
    both_up : k.is_down ≡ false → (j.is_down ≡ false) × (f.is_down ≡ false)
    both_up up = or_parts j.is_down f.is_down (sym (ap (λ (x : View D). x.is_down) back) ∙ up)

    view_down : j.is_down ≡ v.is_down
    view_down = ap (λ (x : ShardView (Away D)). x.is_down) is

    module _ (prepares : v.is_down ≡ false → f.is_down ≡ false → flying.prepares ≡ length (prepared_ids (take flying.sent.count v.staged)))
        (flown : v.is_down ≡ false → f.is_down ≡ false → honest f.a → honest f.b → HasFlown state honest v f flying) where
      module _ (up : j.is_down ≡ false) (flew : f.is_down ≡ false) where
        inside : honest f.a → honest f.b → HasFlown state honest (view_of j me) f flying
        inside ha hb = subst (λ (x : ShardView (Away D)). HasFlown state honest x f flying) (sym is) (flown (sym view_down ∙ up) flew ha hb)

        counted : flying.prepares ≡ length (prepared_ids (take flying.sent.count j.staged))
        counted = prepares (sym view_down ∙ up) flew ∙ ap (λ (x : ShardView (Away D)). length (prepared_ids (take flying.sent.count x.staged))) (sym is)

        kept_landed : IsKept state honest (landed j f flying.sent) me m (drop flying.prepares ids) flying.learned
        kept_landed = record {
          rs = was.rs;
          replayed = was.replayed;
          image = was.image;
          opened = was.opened;
          some = was.some;
          few = was.few;
          node = was.node;
          backed = λ now ha hb.
              let h = inside ha hb in
              record { rest = h.rest; whole = (was.backed up h.honest_a h.honest_b).whole ∙ all_of flying.sent.count j.durable j.staged f.durable h.durable };
          named = λ now ha hb.
              let h = inside ha hb in
              subst (λ (rs : List Record). NamesNode rs me.node) (sym h.durable) (named_still j.durable (take flying.sent.count j.staged) me.node (was.named up h.honest_a h.honest_b));
          unflushed_are = λ now. left_ids flying.sent.count flying.prepares j.staged ids (was.unflushed_are up) counted;
          settled_is = λ now ha hb. (inside ha hb).learned;
        }

        -- it is up
        pub up_landed : honest f.a → honest f.b → IsUp state honest (view_of (landed j f flying.sent) me)
        up_landed ha hb =
            let h = inside ha hb in
            record {
              honest_a = ha;
              honest_b = hb;
              up = ap (λ (b : Bool). b || f.is_down) up ∙ flew;
              rest = h.rest;
              image = subst (IsShardImage me) ((was.backed up h.honest_a h.honest_b).whole ∙ all_of flying.sent.count j.durable j.staged f.durable h.durable) was.image;
            }

      pub kept_up : (ids_now : List WriteId) (settled_now : ℕ) → k.is_down ≡ false → ids_now ≡ drop flying.prepares ids → settled_now ≡ flying.learned → IsKept state honest k me m ids_now settled_now
      kept_up ids_now settled_now up same_ids same_place =
          let both = both_up up in
          subst (λ (x : View D). IsKept state honest x me m ids_now settled_now) (sym back) (same_kept (landed j f flying.sent) me m (drop flying.prepares ids) ids_now flying.learned settled_now same_ids same_place (kept_landed both.0 both.1))

      pub up_again : v.is_down ≡ false → f.is_down ≡ false → honest f.a → honest f.b → IsUp state honest (view_of k me)
      up_again up flew ha hb = subst (λ (x : View D). IsUp state honest (view_of x me)) (sym back) (up_landed (view_down ∙ up) flew ha hb)

    -- a flight that failed leaves the memory as it was, of no use
    pub kept_as_it_was : (ids_now : List WriteId) (settled_now : ℕ) → k.is_down ≡ true → ids_now ≡ ids → settled_now ≡ settled → IsKept state honest k me m ids_now settled_now
    kept_as_it_was ids_now settled_now down same_ids same_place = same_kept k me m ids ids_now settled settled_now same_ids same_place (record {
      rs = was.rs;
      replayed = was.replayed;
      image = was.image;
      opened = was.opened;
      some = was.some;
      few = was.few;
      node = was.node;
      backed = λ up. absurd (true≢false (sym down ∙ up));
      named = λ up. absurd (true≢false (sym down ∙ up));
      unflushed_are = λ up. absurd (true≢false (sym down ∙ up));
      settled_is = λ up. absurd (true≢false (sym down ∙ up));
    })

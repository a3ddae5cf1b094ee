-- What a dump tells is a snapshot.
use Rattle.std.proofs.Common.{◌≡◌, ◌≤◌, ℕ, List, Option, Some, None, MatchOption, All, sym, ◌∙◌, ap, subst, arith}
use Rattle.device.specs.Device.{State, left}
use Rattle.headline.proofs.Joined.{steps_keep}
use Rattle.headline.proofs.Whole.{openings_keep}
use Rattle.tuples.specs.declared.entry.Entry.{Entry}
use Rattle.tuples.specs.declared.entry.WriteId.{WriteId}
use Rattle.tuples.specs.declared.freshness.Freshness.TheVariants.{Exact, Latest}
use Rattle.tuples.specs.Changes.{tuple_of}
use Rattle.tuples.specs.Log.{is_at}
use Rattle.tuples.proofs.Named.{shard_below}
use Rattle.stores.specs.Stores.{IsToldOver}
use Rattle.turns.proofs.ClosedStoreRests.{closed_stores_rest}
use Rattle.dumping.specs.Dumped.{GoesOn}
use Rattle.dumping.specs.DumpLaws.{DumpsAreSnapshots}
use Rattle.dumping.specs.Dumps.{IsPlaceFor}
use Rattle.dumping.proofs.Covering.{tells_all}
use Rattle.dumping.proofs.Flows.{Standing}
use Rattle.dumping.proofs.Listing.{has_same, read_well, reads_all}
use Rattle.dumping.proofs.Machines.{goes_then}

module _ {D : Type 0} (state : D → State) (honest : D → Type 0) (moment : D → ℕ) (left_since : D → ℕ → List ℕ → Type 0)
    (counts_now : (d : D) (t : ℕ) (c : List ℕ) → honest d → t ≤ moment d → left (state d) c → left_since d t c) (only_now : (d : D) (c : List ℕ) → honest d → left_since d (moment d) c → left (state d) c) where
  -- the latest place was kept when it was read, and another one is that which was asked for
  placed : (asked : Option ℕ) (latest place from : ℕ) → from ≤ latest → IsPlaceFor asked latest place → MatchOption asked (from ≤ place) (λ p. place ≡ p)
  placed None latest place from le is = omega (arith, le, is)
  placed (Some p) latest place from le is = is

  pub dumps_are_snapshots : DumpsAreSnapshots state honest moment left_since
  dumps_are_snapshots store shards any devices asked opened place rows new m ids some few count rests told_all is_opened d =
      let keep = steps_keep state honest moment left_since counts_now only_now in
      let k = openings_keep state honest moment left_since counts_now only_now any devices store shards opened some few count is_opened in
      let reopened = (k.reopens m ids rests told_all).0 in
      let begun : Standing state honest moment left_since keep store shards ids opened = record {
        s = k.later;
        now = reopened.after;
        shows = k.shows;
        stands = reopened.stands;
        store_is = is_opened.store_is;
        shards_is = is_opened.shards_is;
        told_is = reopened.told_before;
      } in
      let first = (read_well state honest moment left_since keep store shards ids Latest d.finds.first.0 opened d.finds.mid d.finds.latest d.finds.first.1 begun d.finds.first.2).2 in
      let latest = first.agrees.place.wanted in
      let second = (read_well state honest moment left_since keep store shards ids (Exact place) d.finds.second.0 d.finds.mid d.mid d.finds.at d.finds.second.1 first.standing d.finds.second.2).2 in
      let is_kept : place ≤ second.standing.now.machine.kept = omega (arith, second.agrees.place.kept, second.agrees.place.wanted.0) in
      let tells = tells_all state honest moment left_since keep store shards ids shards place d.all.told d.mid d.all.gathered second.standing (omega arith) is_kept d.all.tells in
      let third = (read_well state honest moment left_since keep store shards ids (Exact place) d.all.again.0 d.all.gathered d.all.still d.all.at d.all.again.1 tells.after d.all.again.2).2 in
      let reads = reads_all state honest moment left_since keep store shards ids place d.all.keys rows d.all.still new third.standing d.all.reads in
      let a = reopened.after.machine in
      let to_second : GoesOn a second.standing.now.machine = goes_then a first.standing.now.machine second.standing.now.machine first.on second.on in
      let to_third : GoesOn a third.standing.now.machine =
      goes_then a tells.after.now.machine third.standing.now.machine (goes_then a second.standing.now.machine tells.after.now.machine to_second tells.on) third.on in
      let to_last = goes_then a third.standing.now.machine reads.after.now.machine to_third reads.on in
      let beneath : tells.after.now.machine.horizon ≤ place = omega (arith, third.from.horizon, third.agrees.place.above third.first third.saw, third.agrees.place.wanted.0) in
      let closed = closed_stores_rest state honest moment left_since store shards reads.after.s reads.after.now reads.after.stands in
      record {
        opened = a;
        from = reopened.opened;
        snapshot = record {
          ascending = reads.lists.ascending d.all.sorted;
          exact = λ t. (
            (λ has. sym (ap (λ (log : List Entry). is_at log place t) to_third.log) ∙ (reads.lists.there t has).0),
            (λ is.
                let it = tells.has beneath t (shard_below shards t.object some) (ap (λ (log : List Entry). is_at log place t) to_second.log ∙ is) in
                reads.lists.all t (ap (λ (log : List Entry). is_at log place t) to_third.log ∙ is) (has_same t (tuple_of it.0.change) d.all.keys it.2 (d.all.has it.0 it.1))),
          );
        };
        place_is = placed asked d.finds.latest place a.kept (let on = first.seen latest.0 latest.1 in omega (arith, on.kept, latest.2)) d.finds.place_is;
        last = reads.after.now.machine;
        goes_on = to_last;
        kept = omega (arith, is_kept, tells.on.kept, third.on.kept, reads.on.kept);
        above = omega (arith, beneath, to_second.horizon, tells.on.horizon);
        later = reads.after.s;
        shows = reads.after.shows;
        rests = closed.0;
        told_stays = subst (λ (l : List WriteId). All (IsToldOver state honest store shards reads.after.s.devices reads.after.now.machine) l) reads.after.told_is closed.1;
      }

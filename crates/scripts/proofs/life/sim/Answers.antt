use Rattle.std.proofs.Common.{inl, inr}
use Rattle.scripts.proofs.Living.{broke_as_life, ran_as_life}
use Rattle.scripts.proofs.life.sim.Goals as goal

pub returns-in-Ok-clause-ran : goal.returns-in-Ok-clause-ran
returns-in-Ok-clause-ran g c is =
    let empty = c.in-Ok.ensures.each in
    (c.in-Ok.disks.items, empty, ran_as_life c.args.store c.args.shards c.count-count.ensures.whole.some c.count-count.ensures.whole.few c.acted_headline.ensures c.what_is_carried_over_rests.ensures _ empty _ _ _ _ (c.run_over.ensures.ran is))

pub returns-in-Ok-clause-broke : goal.returns-in-Ok-clause-broke
returns-in-Ok-clause-broke g c is =
    let empty = c.in-Ok.ensures.each in
    let r = c.run_over.ensures.broke is in (
      r.0,
      elim r.1 [
        | inl b ↦ inl (c.in-Ok.disks.items, empty, broke_as_life c.args.store c.args.shards c.count-count.ensures.whole.some c.count-count.ensures.whole.few c.acted_headline.ensures c.what_is_carried_over_rests.ensures _ empty _ _ _ _ b)
        | inr none ↦ inr none
      ],
    )

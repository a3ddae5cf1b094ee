use Rattle.std.proofs.Common.{◌≡◌, Ok, rules}
use Rattle.std.proofs.lemmas.Result.{on_ok_weaker}
use Rattle.dumping.proofs.gathering.gather_one.Goals as goal

pub returns-clause-tells : goal.returns-clause-tells
returns-clause-tells g c =
    let same : c.in_ok-versions.versions.items ≡ c.deref.result.now = search rules in
    let shown : g.S.Store.shows c.learn.new.store c.args.shard (Ok c.in_ok-versions.versions) = search rules in
    on_ok_weaker c.put.result (λ all. (c.deref.result.now, record { listed = c.in_ok-versions.versions; listed_is = same; learns = c.in_ok-learn.ensures.ok; shown = shown }, all)) c.put.ensures.all

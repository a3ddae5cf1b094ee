use Rattle.std.proofs.Common.{◌≡◌, List, subst, arith, rules}
use Rattle.tuples.specs.Versions.{of_shard}
use Rattle.tuples.specs.declared.version.Version.{Version}
use Rattle.reshard.specs.Merging.{merged}
use Rattle.reshard.proofs.Owned.{all_own}
use Rattle.reshard.proofs.rows.Rows.own.Goals as goal

pub loop-index-init : goal.loop-index-init
loop-index-init c = search rules

pub returns : goal.returns
returns c = record {
  own = subst (λ (lists : List (List Version)). merged c.loop-index.owns.items ≡ of_shard c.args.me.shards c.args.me.node (merged lists)) c.self.view_is
      (all_own c.args.me c.self.inside.memories c.loop-index.index c.loop-index.owns c.loop-index.invariant (let n = c.loop-index-test.false in let m = c.self.inside.memories.ok.0 in omega (arith, n, m, c.len-index-end.ensures)) c.self.invariant);
}

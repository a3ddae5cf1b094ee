use Rattle.std.proofs.Common.{[], ◌∷◌, ◌++◌}
use Rattle.std.specs.Int.{w64, to_be_bytes}
use Rattle.records.proofs.Putting.{has_more, put_more}
use Rattle.records.proofs.encode.put_epoch.Goals as goal

pub returns : goal.returns
returns c =
    let epoch = to_be_bytes w64 c.args.epoch in
    let store = to_be_bytes w64 c.args.store in
    let kind = has_more c.args.out.now c.put_byte.new.out c.put_u64.new.out (4 ∷ []) epoch c.in_ok-put_byte.ensures c.in_ok-put_u64.ensures in
    let front = has_more c.args.out.now c.put_u64.new.out c.put_u64-2.new.out (4 ∷ epoch) store kind c.in_ok-put_u64-2.ensures in
    put_more c.args.out.now c.put_u64-2.new.out c.put_bytes.new.out (4 ∷ epoch ++ store) (c.args.shards ∷ c.args.node ∷ []) c.put_bytes.result front c.put_bytes.ensures

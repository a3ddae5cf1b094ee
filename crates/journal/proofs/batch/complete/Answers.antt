use Rattle.std.proofs.Common.{◌≡◌, List, ℕ, ◌++◌, ◌∷◌, [], length, take, drop, ap, ◌∙◌, arith}
use Rattle.std.specs.Int.{w16, to_be_bytes}
use Rattle.gated.specs.Gated.{body_of}
use Rattle.journal.proofs.Staged.{completed_is, lent}
use Rattle.journal.proofs.batch.complete.Goals as goal

pub returns-clause-body : goal.returns-clause-body
returns-clause-body c =
    let bytes = c.args.bytes.now in
    let same : length c.write_head.new.bytes ≡ length bytes.items = omega (arith, c.write_head.auto.bytes, ap length c.deref_mut.ensures.value) in
    let headed : take bytes.len (c.write_head.new.bytes ++ drop (length c.write_head.new.bytes) bytes.items) ≡ c.write_head.new.bytes = lent bytes.items c.write_head.new.bytes bytes.len same bytes.ok.0 in
    let head : c.write_head.new.bytes ≡ take 4 bytes.items ++ 2 ∷ to_be_bytes w16 c.args.count ++ drop 7 bytes.items =
    c.write_head.ensures ∙ ap (λ (l : List ℕ). take 4 l ++ 2 ∷ to_be_bytes w16 c.args.count ++ drop 7 l) c.deref_mut.ensures.value in
    ap body_of (c.push_reserved.ensures.items ∙ ap (λ (l : List ℕ). l ++ 0 ∷ []) (headed ∙ head)) ∙ completed_is _ _ _ c.requires

use Rattle.std.proofs.Common.{inl, Some, length, ap, arith, subst, sym}
use Rattle.commit_flow.specs.Flows.{seen_of}
use Rattle.commit_flow.specs.declared.end.WriteEnd.{WriteEnd}
use Rattle.flow_ties.proofs.SeenWrites.{writes_begin}
use Rattle.locked.proofs.Words.{IsKnownWriteOf, IsTried}
use Rattle.locked.proofs.WriteTurns.{not_refused_yet}
use Rattle.locked.proofs.store.Store.write.Goals as goal

pub run_write-end-requires-clause-asked : goal.run_write-end-requires-clause-asked
run_write-end-requires-clause-asked g c =
    let seen = c.args.caller.now.pass.seen in
    let tried = c.args.caller.now.tried.seen in
    (c.args.write, subst (IsKnownWriteOf tried c.args.write (length seen) seen) (sym (ap seen_of c.in-Ok.ensures.ok)) (writes_begin (IsTried tried) c.args.write (length seen) seen))

pub returns-clause-wrote : goal.returns-clause-wrote
returns-clause-wrote g c rests place is =
    let seen = c.args.caller.now.pass.seen in
    let above = length seen in
    let tried = c.args.caller.now.tried.seen in
    let begins = subst (IsKnownWriteOf tried c.args.write above seen) (sym (ap seen_of c.in-Ok.ensures.ok)) (writes_begin (IsTried tried) c.args.write above seen) in
    (c.run_write-end.ensures.held rests c.args.write above (omega arith) begins).written place (ap (λ (e : WriteEnd). Some e) is)

pub returns-clause-refused : goal.returns-clause-refused
returns-clause-refused g c e is = inl ((c.run_write-end.ensures.told (not_refused_yet g.B.Room.shards c.args.told.now c.args.write _ (ap seen_of c.in-Ok.ensures.ok))).ended e (ap (λ (e : WriteEnd). Some e) is))

pub returns-clause-uncancelled : goal.returns-clause-uncancelled
returns-clause-uncancelled g c is =
    (c.run_write-end.ensures.told (not_refused_yet g.B.Room.shards c.args.told.now c.args.write _ (ap seen_of c.in-Ok.ensures.ok))).ends_uncancelled (ap (λ (e : WriteEnd). Some e) is)

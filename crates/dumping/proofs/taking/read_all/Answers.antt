use Rattle.std.proofs.Common.{◌≡◌, ◌++◌, ◌∷◌, [], List, append_assoc, ap, ◌∙◌, sym, rules}
use Rattle.tuples.specs.declared.tuple.Tuple.{Tuple}
use Rattle.dumping.proofs.Looks.{all_read_look, looks_then}
use Rattle.dumping.proofs.OneMore.{reads_more}
use Rattle.dumping.proofs.taking.read_all.Goals as goal

pub loop-tuple-preserved : goal.loop-tuple-preserved
loop-tuple-preserved g c =
    let before = c.loop-tuple.invariant in
    let one = c.in_ok-read_one.ensures.ok in
    let t = c.in-Some.tuple.now in
    let step : c.loop-tuple.tuple-iterator ≡ t ∷ c.next.new.self = search rules in (
      before.0 ++ t ∷ [],
      before.1 ++ one.1,
      append_assoc before.0 (t ∷ []) c.next.new.self ∙ ap (λ (l : List Tuple). before.0 ++ l) (sym step) ∙ before.2,
      reads_more g.S.Store.takes g.S.Store.nexts c.args.place before.0 before.1 one.1 t one.0 c.args.store.now c.loop-tuple.store c.read_one.new.store before.3 one.2,
      one.3 ∙ ap (λ (l : List Tuple). l ++ one.1) before.4 ∙ append_assoc c.args.tuples.now.items before.1 one.1,
    )

pub returns-in_err-read_one-clause-looks : goal.returns-in_err-read_one-clause-looks
returns-in_err-read_one-clause-looks g c =
    let before = c.loop-tuple.invariant in
    looks_then g.S.Store.takes c.args.store.now c.loop-tuple.store c.read_one.new.store
    (all_read_look g.S.Store.takes g.S.Store.nexts c.args.place before.0 before.1 c.args.store.now c.loop-tuple.store before.3) c.read_one.ensures.looks

pub returns-clause-looks : goal.returns-clause-looks
returns-clause-looks g c =
    let all = c.loop-tuple.invariant in all_read_look g.S.Store.takes g.S.Store.nexts c.args.place all.0 all.1 c.args.store.now c.loop-tuple.store all.3

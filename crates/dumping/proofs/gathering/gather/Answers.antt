use Rattle.std.proofs.Common.{◌≡◌, ◌+◌, ◌++◌, ℕ, suc, ⊎_elim, refl, arith, subst}
use Rattle.std.proofs.lemmas.List.Elements.{Contains-append_cases}
use Rattle.tuples.specs.Changes.{tuple_of}
use Rattle.dumping.specs.Gathering.{AllTell}
use Rattle.dumping.proofs.Looks.{all_tell_look, looks_then}
use Rattle.dumping.proofs.gathering.gather.Goals as goal

pub loop-shard-preserved : goal.loop-shard-preserved
loop-shard-preserved g c =
    let before = c.loop-shard.invariant in
    let one = c.in_ok-gather_one.ensures.tells in
    let s = c.loop-shard.shard in
    let next : suc s ≡ s + 1 = omega arith in
    let all : AllTell g.S.Store.takes g.S.Store.nexts g.S.Store.shows (suc s) c.args.store.now (before.0 ++ one.0) c.gather_one.new.store = (c.loop-shard.store, before.0, one.0, before.1, one.1, refl) in (
      before.0 ++ one.0,
      subst (λ (n : ℕ). AllTell g.S.Store.takes g.S.Store.nexts g.S.Store.shows n c.args.store.now (before.0 ++ one.0) c.gather_one.new.store) next all,
      λ v has. ⊎_elim
          (λ old. c.in_ok-gather_one.ensures.keeps (tuple_of v.change) (before.2 v old))
          (λ new. one.2 v new)
          (Contains-append_cases before.0 one.0 v has),
    )

pub returns-in_err-gather_one-clause-looks : goal.returns-in_err-gather_one-clause-looks
returns-in_err-gather_one-clause-looks g c =
    let before = c.loop-shard.invariant in
    looks_then g.S.Store.takes c.args.store.now c.loop-shard.store c.gather_one.new.store
    (all_tell_look g.S.Store.takes g.S.Store.nexts g.S.Store.shows c.loop-shard.shard before.0 c.args.store.now c.loop-shard.store before.1) c.gather_one.ensures.looks

pub returns-clause-looks : goal.returns-clause-looks
returns-clause-looks g c =
    let all = c.loop-shard.invariant in all_tell_look g.S.Store.takes g.S.Store.nexts g.S.Store.shows c.loop-shard.shard all.0 c.args.store.now c.loop-shard.store all.1

use Rattle.std.proofs.Common.{◌≡◌, ◌&&◌, List, not, sym, ap, subst, ◌∙◌, rules}
use Rattle.tuples.specs.declared.entry.Entry.{Entry}
use Rattle.tuples.specs.Changes.{has_tuple}
use Rattle.records.specs.Replays.{is_held, named, put}
use Rattle.holds.specs.Holds.{AreApart, IsFree, is_in}
use Rattle.holds.proofs.Apart.{apart_taken, free_one}
use Rattle.holds.proofs.Named.{held_put}
use Rattle.holds.proofs.ById.{freed}
use Rattle.holds.proofs.holds.Holds.take.Goals as goal

pub invariant_of-self-in-Ok : goal.invariant_of-self-in-Ok
invariant_of-self-in-Ok c =
    let ws : List Entry = c.self.inside.writes in
    let w = c.args.write in
    let free : IsFree ws w = c.is_free.ensures.0 c.if-not-is_free.false in
    let more : c.put.new.self ≡ put w ws = search rules in
    record {
      apart = subst AreApart (sym more) (apart_taken ws w c.self.invariant.apart free);
      exact = λ t. c.in_ok-hold_free.ensures.ok t ∙ ap (is_held t) (sym more);
    }

pub invariant_of-self-in-Err : goal.invariant_of-self-in-Err
invariant_of-self-in-Err c =
    let ws : List Entry = c.self.inside.writes in
    let w = c.args.write in
    let free : IsFree ws w = c.is_free.ensures.0 c.if-not-is_free.false in
    let same : c.put.new.self ≡ ws = search rules in
    let back : c.in-Err.write ≡ w = search rules in
    record {
      apart = subst AreApart (sym same) c.self.invariant.apart;
      exact = λ t. freed (is_in c.let_go.new.held.keys t) (is_in c.hold_free.new.held.keys t) (has_tuple t (named w)) (is_held t ws)
          (c.let_go.ensures t ∙ ap (λ (x : Entry). not (has_tuple t (named x)) && is_in c.hold_free.new.held.keys t) back)
          (c.in_ok-hold_free.ensures.ok t ∙ held_put t ws w free.new)
          (λ has. free_one ws (named w) t free.tuples has)
          ∙ ap (is_held t) (sym same);
    }

use Rattle.std.proofs.Common.{◌≡◌, ◌∙◌, ◌&&◌, Bool, List, None, Some, not, sym, ap, subst, rules}
use Rattle.tuples.specs.declared.entry.Entry.{Entry}
use Rattle.tuples.specs.Changes.{has_tuple}
use Rattle.records.specs.Replays.{find_in_doubt, is_held, named}
use Rattle.holds.specs.Holds.{AreApart}
use Rattle.holds.proofs.Apart.{apart_without}
use Rattle.holds.proofs.Doubts.{find_without_other, find_without_same}
use Rattle.holds.proofs.Named.{held_without, without_none}
use Rattle.holds.proofs.holds.Holds.release.Goals as goal

pub invariant_of-self : goal.invariant_of-self
invariant_of-self c =
    let ws : List Entry = c.self.inside.writes in
    let none : find_in_doubt c.args.id ws ≡ None = search rules in
    record {
      apart = subst AreApart (sym c.take_out.ensures.left) (apart_without c.args.id ws c.self.invariant.apart);
      exact = λ t. c.self.invariant.exact t ∙ ap (is_held t) (sym (without_none c.args.id ws none) ∙ sym c.take_out.ensures.left);
    }

pub invariant_of-self-2 : goal.invariant_of-self-2
invariant_of-self-2 c =
    let ws : List Entry = c.self.inside.writes in
    let w = c.in-Some.write in
    let some : find_in_doubt c.args.id ws ≡ Some w = search rules in
    record {
      apart = subst AreApart (sym c.take_out.ensures.left) (apart_without c.args.id ws c.self.invariant.apart);
      exact = λ t. c.let_go.ensures t
          ∙ ap (λ (b : Bool). not (has_tuple t (named w)) && b) (c.self.invariant.exact t)
          ∙ sym (held_without t c.args.id ws w c.self.invariant.apart some)
          ∙ ap (is_held t) (sym c.take_out.ensures.left);
    }

pub returns-in_default-clause-gone : goal.returns-in_default-clause-gone
returns-in_default-clause-gone c = ap (find_in_doubt c.args.id) c.take_out.ensures.left ∙ find_without_same c.args.id c.self.inside.writes

pub returns-in_default-clause-others : goal.returns-in_default-clause-others
returns-in_default-clause-others c j ne =
    ap (find_in_doubt j) c.take_out.ensures.left ∙ find_without_other j c.args.id c.self.inside.writes ne ∙ ap (find_in_doubt j) c.self.view_is

pub returns-clause-gone : goal.returns-clause-gone
returns-clause-gone c = ap (find_in_doubt c.args.id) c.take_out.ensures.left ∙ find_without_same c.args.id c.self.inside.writes

pub returns-clause-others : goal.returns-clause-others
returns-clause-others c j ne =
    ap (find_in_doubt j) c.take_out.ensures.left ∙ find_without_other j c.args.id c.self.inside.writes ne ∙ ap (find_in_doubt j) c.self.view_is

use Rattle.std.proofs.Common.{sym, ap, ap₂, subst, ◌∙◌, arith}
use Rattle.std.specs.Cmp.Lexicographic.{slice_cmp}
use Rattle.std.specs.Ordering.{nat_cmp, ordering_then}
use Rattle.tuples.specs.Short.{IsSound, spelled}
use Rattle.tuples.proofs.Worded.{padded_cmp}
use Rattle.tuples.proofs.name.NameOrd.cmp.Goals as goal

pub returns-in-Short-Short : goal.returns-in-Short-Short
returns-in-Short-Short c =
    let short = c.in-Short-Short in
    let own = subst IsSound short.is-0 c.self.invariant in
    let others = subst IsSound short.is-1 c.other.invariant in
    let lengths = c.compare_padded.ensures.lengths in
    c.then.ensures ∙ ap₂ ordering_then c.compare_padded.ensures.order c.cmp.ensures
    ∙ sym (padded_cmp short.bytes short.other_bytes short.length short.other_length (lengths.0 ∙ sym lengths.1) (omega (arith, lengths.0, own.0)) (omega (arith, lengths.1, others.0)) own.1 others.1)
    ∙ ap₂ (slice_cmp nat_cmp) (sym (ap spelled short.is-0) ∙ c.self.view_is) (sym (ap spelled short.is-1) ∙ c.other.view_is)

use Rattle.std.proofs.Common.{◌≡◌, ◌-◌, ◌+◌, ◌++◌, List, take, get_or, sym, ap, subst, ◌∙◌, append_assoc, arith}
use Rattle.tuples.specs.Versions.{placed}
use Rattle.tuples.specs.declared.version.Version.{Version}
use Rattle.versions.specs.Alike.{AreAlike}
use Rattle.versions.specs.Placed.{all_placed}
use Rattle.versions.specs.Rows.{listed}
use Rattle.versions.specs.declared.decided.PlacedChanges.{PlacedChanges}
use Rattle.versions.proofs.Placed.{all_placed_more}
use Rattle.versions.proofs.applying.take_back_each.Goals as goal

pub loop-left-preserved : goal.loop-left-preserved
loop-left-preserved c = (
  c.take_back_changes.ensures.table,
  omega (arith, c.loop-left.invariant.1),
  λ front whole.
      let n = c.loop-left.left - 1 in
      let writes : List PlacedChanges = c.args.writes.now in
      let one : PlacedChanges = c.index-writes-left.result in
      let first : List Version = all_placed (take n writes) in
      let count : n + 1 ≡ c.loop-left.left = omega arith in
      let more : all_placed (take c.loop-left.left writes) ≡ first ++ placed one.place one.changes.now =
      ap (λ m. all_placed (take m writes)) (sym count) ∙ all_placed_more writes n one (omega (arith, c.loop-left.invariant.1)) c.index-writes-left.is
      in
      let at : PlacedChanges = get_or writes n one in
      let ends : front ++ all_placed (take c.loop-left.left writes) ≡ (front ++ first) ++ placed one.place at.changes.now =
      ap (λ (l : List Version). front ++ l) more ∙ sym (append_assoc front first (placed one.place one.changes.now))
      ∙ ap (λ (w : PlacedChanges). (front ++ first) ++ placed one.place w.changes.now) c.index-writes-left.is
      in
      c.take_back_changes.ensures.versions (front ++ first) one.place (subst (AreAlike (listed c.loop-left.table.entries)) ends (c.loop-left.invariant.2 front whole)),
  c.take_back_changes.ensures.index,
)

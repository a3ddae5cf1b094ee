use Rattle.std.proofs.Common.{◌≡◌, ◌-◌, ◌+◌, ◌++◌, ◌∷◌, [], List, take, refl, sym, ap, subst, ◌∙◌, append_assoc, arith}
use Rattle.tuples.specs.Versions.{placed}
use Rattle.tuples.specs.declared.change.Change.{Change}
use Rattle.tuples.specs.declared.tuple.Tuple.{Tuple}
use Rattle.tuples.specs.declared.version.Version.{Version}
use Rattle.versions.specs.Alike.{AreAlike}
use Rattle.versions.specs.Rows.{listed, versions_of}
use Rattle.versions.proofs.Placed.{placed_more, row_is, row_of}
use Rattle.versions.proofs.applying.take_back_changes.Goals as goal

pub loop-left-preserved : goal.loop-left-preserved
loop-left-preserved c = (
  c.take_back.ensures.table,
  omega (arith, c.loop-left.invariant.1),
  λ front place whole.
      let n = c.loop-left.left - 1 in
      let changes : List Change = c.args.changes.now in
      let one : Change = c.index-changes-left.result in
      let first : List Version = placed place (take n changes) in
      let count : n + 1 ≡ c.loop-left.left = omega arith in
      let more : placed place (take c.loop-left.left changes) ≡ first ++ placed place (one ∷ []) =
      ap (λ m. placed place (take m changes)) (sym count) ∙ placed_more place changes n one (omega (arith, c.loop-left.invariant.1)) c.index-changes-left.is
      in
      let last : versions_of c.tuple.result.now (row_of place one ∷ []) ≡ placed place (one ∷ []) =
      ap (λ (t : Tuple). versions_of t (row_of place one ∷ [])) c.tuple.ensures ∙ row_is place one
      in
      let ends : front ++ placed place (take c.loop-left.left changes) ≡ (front ++ first) ++ versions_of c.tuple.result.now (row_of place one ∷ []) =
      ap (λ (l : List Version). front ++ l) (more ∙ ap (λ (l : List Version). first ++ l) (sym last)) ∙ sym (append_assoc front first (versions_of c.tuple.result.now (row_of place one ∷ [])))
      in
      c.take_back.ensures.versions (front ++ first) (row_of place one) (subst (AreAlike (listed c.loop-left.table.entries)) ends (c.loop-left.invariant.2 front place whole)),
  c.take_back.ensures.index,
)

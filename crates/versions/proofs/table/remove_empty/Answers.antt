use Rattle.std.proofs.Common.{subst, ◌≡◌, [], refl, sym, ap, ◌∙◌, rules}
use Rattle.std.proofs.lemmas.List.{nil_from_length}
use Rattle.std.specs.List.{AllByRecursion}
use Rattle.std.specs.Map.{keys_of}
use Rattle.tuples.specs.declared.tuple.Tuple.{Tuple}
use Rattle.tuples.specs.Texts.{IsTuple}
use Rattle.std.specs.Prelude.{None}
use Rattle.versions.specs.Rows.{found, listed, rows_in}
use Rattle.versions.proofs.Index.{index_changed}
use Rattle.versions.proofs.Tables.{Entries, all_removed, same_removed}
use Rattle.versions.proofs.table.remove_empty.Goals as goal

pub returns-then-is_some-clause-table : goal.returns-then-is_some-clause-table
returns-then-is_some-clause-table c = record {
  in_order = c.remove.ensures.ordered;
  spelled = subst (λ (l : Entries). AllByRecursion IsTuple (keys_of l)) (sym c.remove.ensures.entries) (all_removed IsTuple _ c.args.table.now.entries c.requires.table.spelled);
}

pub returns-then-is_some-clause-versions : goal.returns-then-is_some-clause-versions
returns-then-is_some-clause-versions c =
    let none : rows_in (found c.args.key.now c.args.table.now.entries) ≡ [] = c.has_rows.ensures c.if-has_rows.false in
    ap listed c.remove.ensures.entries ∙ same_removed _ c.args.table.now.entries none

pub returns-then-is_some-clause-index : goal.returns-then-is_some-clause-index
returns-then-is_some-clause-index c =
    index_changed c.args.tuple.now c.args.key.now (sym c.requires.key) None c.args.users.now.keys c.forget.new.users.keys c.args.table.now.entries c.remove.new.self.entries c.requires.index
    c.forget.ensures (c.remove.ensures.updates).0

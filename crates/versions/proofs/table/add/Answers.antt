use Rattle.std.proofs.Common.{◌≡◌, ◌++◌, ◌∷◌, [], Some, ap, subst, ◌∙◌, rules}
use Rattle.std.specs.Prelude.{IsSome}
use Rattle.tuples.specs.declared.tuple.Tuple.{Tuple}
use Rattle.versions.specs.Alike.{AreAlike}
use Rattle.versions.specs.Rows.{found, listed, rows_in, versions_of}
use Rattle.versions.proofs.Index.{index_same, same_keys}
use Rattle.versions.proofs.Tables.{Entries, more_alike, same_set}
use Rattle.versions.proofs.table.add.Goals as goal
use Rattle.tuples.proofs.Options.{on_err}

pub returns-in_err-push-clause-err : goal.returns-in_err-push-clause-err
returns-in_err-push-clause-err c =
    let w = c.push.new.self in
    let same : rows_in (found c.in_ok-key.key c.args.table.now.entries) ≡ w = search rules in
    on_err c.from_residual-in_err-push.result (ap listed (c.get_mut.follows.holds w).0 ∙ same_set _ c.args.table.now.entries w same)

pub returns-in-Some-clause-ok : goal.returns-in-Some-clause-ok
returns-in-Some-clause-ok c =
    let k = c.in_ok-key.key in
    let es : Entries = c.args.table.now.entries in
    let w = c.push.new.self in
    let key : k ≡ c.args.tuple.now = search rules in
    let grown : w ≡ rows_in (found k es) ++ c.args.row ∷ [] = search rules in
    let some : IsSome (found k es) = search rules in
    let fs : Entries = (c.get_mut.follows.lender w).entries in
    subst (λ (t : Tuple). AreAlike (listed fs) (listed es ++ versions_of t (c.args.row ∷ []))) key
    (more_alike k (Some w) (c.args.row ∷ []) es fs c.get_mut.ensures.ordered (c.get_mut.follows.holds w).4 (λ q. ((c.get_mut.follows.holds w).3 some).0 q) grown)

pub returns-in_err-push-clause-index : goal.returns-in_err-push-clause-index
returns-in_err-push-clause-index c =
    let es : Entries = c.args.table.now.entries in
    index_same c.args.users.now.keys es (c.get_mut.follows.lender c.push.new.self).entries c.requires.index (same_keys es _ (c.get_mut.follows.holds c.push.new.self).1)

pub returns-in-Some-clause-index : goal.returns-in-Some-clause-index
returns-in-Some-clause-index c =
    let es : Entries = c.args.table.now.entries in
    index_same c.args.users.now.keys es (c.get_mut.follows.lender c.push.new.self).entries c.requires.index (same_keys es _ (c.get_mut.follows.holds c.push.new.self).1)

use Rattle.std.proofs.Common.{◌≡◌, ◌-◌, ◌++◌, ◌∷◌, [], None, Some, List, length, take, sym, ap, subst, ◌∙◌, rules}
use Rattle.std.specs.Prelude.{IsSome}
use Rattle.tuples.specs.declared.tuple.Tuple.{Tuple}
use Rattle.versions.specs.Alike.{AreAlike}
use Rattle.versions.specs.Rows.{found, listed, rows_in, versions_of}
use Rattle.versions.specs.declared.history.Row.{Row}
use Rattle.versions.proofs.Index.{same_entries, same_keys}
use Rattle.versions.proofs.Tables.{Entries, fewer_alike, still_none, take_none}
use Rattle.versions.proofs.table.shorten.Goals as goal

pub returns-in_default-clause-versions : goal.returns-in_default-clause-versions
returns-in_default-clause-versions c front row whole =
    let k = c.args.key.now in
    let es : Entries = c.args.table.now.entries in
    let same : c.get_mut.follows.lender-at-none.entries ≡ es = search rules in
    let none : found k es ≡ None = search rules in
    let cut : rows_in None ≡ take (length (rows_in (found k es)) - 1) (rows_in (found k es)) = sym (ap (λ o. take (length (rows_in o) - 1) (rows_in o)) none ∙ take_none (0 - 1)) in
    let ends = subst (λ (t : Tuple). AreAlike (listed es) (front ++ versions_of t (row ∷ []))) (sym c.requires.key) whole in
    subst (λ (l : Entries). AreAlike (listed l) front) (sym same) (fewer_alike k None (row ∷ []) front es es c.requires.table.in_order c.requires.table.in_order (still_none k es none) cut ends)

pub returns-clause-versions : goal.returns-clause-versions
returns-clause-versions c front row whole =
    let k = c.args.key.now in
    let es : Entries = c.args.table.now.entries in
    let w = c.pop.new.self in
    let some : IsSome (found k es) = search rules in
    let own : rows_in (found k es) ≡ c.in-Some.own.now = search rules in
    let cut : w ≡ take (length (rows_in (found k es)) - 1) (rows_in (found k es)) = c.pop.ensures ∙ sym (ap (λ (l : List Row). take (length l - 1) l) own) in
    let ends = subst (λ (t : Tuple). AreAlike (listed es) (front ++ versions_of t (row ∷ []))) (sym c.requires.key) whole in
    fewer_alike k (Some w) (row ∷ []) front es (c.get_mut.follows.lender w).entries c.get_mut.ensures.ordered (c.get_mut.follows.holds w).4 (λ q. ((c.get_mut.follows.holds w).3 some).0 q) cut ends

pub returns-in_default-clause-entries : goal.returns-in_default-clause-entries
returns-in_default-clause-entries c =
    let same : c.get_mut.follows.lender-at-none.entries ≡ c.args.table.now.entries = search rules in
    same_entries c.args.table.now.entries c.get_mut.follows.lender-at-none.entries same

pub returns-clause-entries : goal.returns-clause-entries
returns-clause-entries c = same_keys c.args.table.now.entries (c.get_mut.follows.lender c.pop.new.self).entries (c.get_mut.follows.holds c.pop.new.self).1

use Rattle.std.proofs.Common.{◌≡◌, None, true, false, not, sym, ap, ◌∙◌, rules}
use Rattle.std.specs.List.{list_any}
use Rattle.tuples.specs.Changes.{changed, conditioned}
use Rattle.records.specs.Replays.{find_in_doubt, is_held}
use Rattle.holds.specs.Holds.{is_in}
use Rattle.holds.proofs.Apart.{free_decides, not_free}
use Rattle.holds.proofs.Named.{any_same}
use Rattle.holds.proofs.holds.is_free.Goals as goal

pub returns-then-holds_change : goal.returns-then-holds_change
returns-then-holds_change c =
    let ws = c.args.writes.now in
    let w = c.args.write.now in
    let some : list_any (is_in c.args.held.now.keys) (changed w.changes) ≡ true = search rules in
    (λ is. absurd cc, λ free. absurd (not_free ws w (sym (any_same (is_in c.args.held.now.keys) (λ t. is_held t ws) c.requires.exact (changed w.changes)) ∙ some) free))

pub returns : goal.returns
returns c =
    let ws = c.args.writes.now in
    let w = c.args.write.now in
    let new : find_in_doubt w.id ws ≡ None = search rules in
    let none : list_any (is_in c.args.held.now.keys) (changed w.changes) ≡ false = search rules in
    let rest : c.holds_condition.result ≡ list_any (is_in c.args.held.now.keys) (conditioned w.conditions) = search rules in
    let tests = free_decides ws w new (sym (any_same (is_in c.args.held.now.keys) (λ t. is_held t ws) c.requires.exact (changed w.changes)) ∙ none) in
    let same : not c.holds_condition.result ≡ not (list_any (λ t. is_held t ws) (conditioned w.conditions)) = ap not (rest ∙ any_same (is_in c.args.held.now.keys) (λ t. is_held t ws) c.requires.exact (conditioned w.conditions)) in
    (λ is. tests.0 (sym same ∙ is), λ free. same ∙ tests.1 free)

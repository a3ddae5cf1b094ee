use Rattle.std.proofs.Common.{All, drop}
use Rattle.tuples.specs.Changes.{changed}
use Rattle.tuples.specs.Texts.{IsTuple}
use Rattle.tuples.proofs.write.keep_changes_grammar.Given as goal

-- all are in their grammar if those from here on are
abbrev pub invariant-loop-change : goal.invariant-loop-change
invariant-loop-change l = All IsTuple (changed (drop l.change-index l.changes)) → All IsTuple (changed l.changes)

use Rattle.std.proofs.Common.{sym}
use Rattle.std.proofs.lemmas.List.{take_rest}
use Rattle.script_text.proofs.Marks.{cut_behind, cut_whole, marked_all, marked_before}
use Rattle.script_text.proofs.shapes.split_changes.Goals as goal

pub returns-in-None-clause-marked : goal.returns-in-None-clause-marked
returns-in-None-clause-marked c = marked_all c.args.words.now (sym c.in-None.ensures)

pub returns-in-Some-clause-whole : goal.returns-in-Some-clause-whole
returns-in-Some-clause-whole c = rw take_rest (cut_whole c.args.words.now c.in-Some.at)

pub returns-in-Some-clause-marked : goal.returns-in-Some-clause-marked
returns-in-Some-clause-marked c = marked_before c.args.words.now c.in-Some.at (sym c.in-Some.ensures)

pub returns-in-Some-clause-behind : goal.returns-in-Some-clause-behind
returns-in-Some-clause-behind c = rw take_rest (cut_behind c.args.words.now c.in-Some.at (sym c.in-Some.ensures))

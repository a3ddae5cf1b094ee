use Rattle.script_text.proofs.Causing.{listed, some_words}
use Rattle.script_text.proofs.shapes.are_listed.Goals as goal

pub returns-then-not-is_empty : goal.returns-then-not-is_empty
returns-then-not-is_empty c = listed c.args.words.now c.has_empty.result (some_words c.args.words.now c.is_empty.result c.is_empty.ensures c.if-not-is_empty.true) c.has_empty.ensures

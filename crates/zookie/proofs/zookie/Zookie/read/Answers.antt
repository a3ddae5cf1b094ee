use Rattle.zookie.proofs.Pairs.{no_text, read_text}
use Rattle.zookie.proofs.zookie.Zookie.read.Goals as goal

pub returns-in_default : goal.returns-in_default
returns-in_default c = no_text c.args.text.now c.in_default.ensures

pub returns : goal.returns
returns c = read_text c.args.text.now c.in-Some.bytes c.in-Some.ensures.0 c.in-Some.ensures.1 c.zookie_of.result c.zookie_of.ensures

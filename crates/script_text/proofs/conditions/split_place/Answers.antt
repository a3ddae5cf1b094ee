use Rattle.script_text.proofs.Asking.{no_mark, no_place, placed_of}
use Rattle.script_text.proofs.conditions.split_place.Goals as goal

pub returns-in-None-parse_place : goal.returns-in-None-parse_place
returns-in-None-parse_place c = no_place c.args.word.now c.in-Some.tuple.now c.in-Some.place.now c.in-Some.ensures.0 c.in-Some.ensures.1 c.in-None-parse_place.ensures

pub returns-in-Some-parse_place : goal.returns-in-Some-parse_place
returns-in-Some-parse_place c = placed_of c.args.word.now c.in-Some.tuple.now c.in-Some.place.now c.in-Some-parse_place.place c.in-Some.ensures.0 c.in-Some.ensures.1 c.in-Some-parse_place.ensures.0 c.in-Some-parse_place.ensures.1

pub returns-in-None : goal.returns-in-None
returns-in-None c = no_mark c.args.word.now c.in-None.ensures

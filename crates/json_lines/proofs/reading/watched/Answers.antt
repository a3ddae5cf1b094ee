use Rattle.json_lines.proofs.reading.watched.Goals as goal

pub returns-in_default : goal.returns-in_default
returns-in_default c = λ d e. c.in_default.ensures d _ e

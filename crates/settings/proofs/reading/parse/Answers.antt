use Rattle.std.proofs.Common.{map, string_bytes}
use Rattle.settings.proofs.Told.{asks_below}
use Rattle.settings.proofs.reading.parse.Goals as goal

pub returns-in-Some : goal.returns-in-Some
returns-in-Some g c =
    asks_below g.S.Asked.command g.S.Asked.options g.S.Asked.asks (map string_bytes c.args.words.now) _ c.in_ok-matches.matches c.subcommand.result (c.in-Some.field-0-0, c.in-Some.given) c.in_ok-given-in-Some.field-0
    c.in_ok-program.ensures.ok c.in_ok-matches.ensures.kinds c.in_ok-matches.ensures.matches c.subcommand.ensures.rows c.in-Some.is c.in_ok-given-in-Some.ensures

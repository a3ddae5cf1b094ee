use Rattle.std.proofs.lemmas.Str.{IsUtf8-string_bytes}
use Rattle.client.proofs.Feeds.{line_fine, line_reads}
use Rattle.client.proofs.line.line_of.Goals as goal

pub returns-clause-ok : goal.returns-clause-ok
returns-clause-ok c =
    let s = c.in_ok-value.ensures in
    (s.0, s.1, (IsUtf8-string_bytes c.in_ok-to_string.field-0, line_reads s.0 _ _ s.1.1 s.2 c.in_ok-to_string.ensures.reads_back))

pub returns-clause-feed : goal.returns-clause-feed
returns-clause-feed c =
    let s = c.in_ok-value.ensures in
    line_fine s.0 _ _ s.1.1 s.2 c.in_ok-to_string.ensures.text

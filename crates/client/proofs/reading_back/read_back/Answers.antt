use Rattle.std.proofs.lemmas.Result.{IfErr-weaker, IfOk-weaker}
use Rattle.std.proofs.Common.{string_bytes}
use Rattle.client.proofs.Reread.{means, unread}
use Rattle.client.proofs.reading_back.read_back.Goals as goal

pub returns-in-Ok-clause-ok : goal.returns-in-Ok-clause-ok
returns-in-Ok-clause-ok c =
    IfOk-weaker c.parse_request.result _ _ (λ r found. means c.args.store c.args.text.now (string_bytes c.in-Ok.line) c.as_bytes.result.now r c.as_bytes.ensures.value c.in-Ok.ensures.short found) c.parse_request.ensures.ok

pub returns-in-Ok-clause-err : goal.returns-in-Ok-clause-err
returns-in-Ok-clause-err c =
    IfErr-weaker c.parse_request.result _ _ (λ e cause. unread c.args.store c.args.text.now (string_bytes c.in-Ok.line) c.as_bytes.result.now e c.ranges.store.fits c.no_line_is_spelled_and_refused.ensures c.as_bytes.ensures.value c.in-Ok.ensures.short cause)
    c.parse_request.ensures.err

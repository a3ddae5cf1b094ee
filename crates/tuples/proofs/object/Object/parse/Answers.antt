use Rattle.std.proofs.lemmas.Result.{err_from_is_err_and}
use Rattle.tuples.specs.Names.{IsName, IsId}
use Rattle.tuples.specs.Parsing.{own_text}
use Rattle.tuples.specs.Texts.{IsObject, object_text}
use Rattle.tuples.proofs.Spelling.{refuses_whole, object_by_namespace, object_by_id}
use Rattle.tuples.proofs.object.Object.parse.Goals as goal

pub returns-in_err-namespace : goal.returns-in_err-namespace
returns-in_err-namespace c =
    let text = c.args.text.now in
    let namespace = c.in-Some.namespace.now in
    let p = err_from_is_err_and c.from_residual.result c.from_residual.ensures.1 in
    rw (p.1, p.2) (refuses_whole IsName own_text namespace IsObject object_text text _ (object_by_namespace text namespace c.in-Some.id.now c.in-Some.ensures) c.in_err-namespace.ensures.value)

pub returns-in_err-id : goal.returns-in_err-id
returns-in_err-id c =
    let text = c.args.text.now in
    let id = c.in-Some.id.now in
    let p = err_from_is_err_and c.from_residual-in_err-id.result c.from_residual-in_err-id.ensures.1 in
    rw (p.1, p.2) (refuses_whole IsId own_text id IsObject object_text text _ (object_by_id text c.in-Some.namespace.now id c.in-Some.ensures) c.in_err-id.ensures.value)

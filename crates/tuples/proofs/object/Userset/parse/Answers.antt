use Rattle.std.proofs.lemmas.Result.{err_from_is_err_and}
use Rattle.tuples.specs.Names.{IsName}
use Rattle.tuples.specs.Parsing.{own_text}
use Rattle.tuples.specs.Texts.{IsObject, IsUserset, object_text, userset_text}
use Rattle.tuples.proofs.Spelling.{refuses_whole, userset_by_object, userset_by_relation}
use Rattle.tuples.proofs.object.Userset.parse.Goals as goal

pub returns-in_err-object : goal.returns-in_err-object
returns-in_err-object c =
    let text = c.args.text.now in
    let object = c.in-Some.object.now in
    let p = err_from_is_err_and c.from_residual.result c.from_residual.ensures.1 in
    rw (p.1, p.2) (refuses_whole IsObject object_text object IsUserset userset_text text _ (userset_by_object text object c.in-Some.relation.now c.in-Some.ensures) c.in_err-object.ensures)

pub returns-in_err-relation : goal.returns-in_err-relation
returns-in_err-relation c =
    let text = c.args.text.now in
    let relation = c.in-Some.relation.now in
    let p = err_from_is_err_and c.from_residual-in_err-relation.result c.from_residual-in_err-relation.ensures.1 in
    rw (p.1, p.2) (refuses_whole IsName own_text relation IsUserset userset_text text _ (userset_by_relation text c.in-Some.object.now relation c.in-Some.ensures) c.in_err-relation.ensures.value)

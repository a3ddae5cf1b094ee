use Rattle.std.proofs.Common.{option_map}
use Rattle.std.proofs.lemmas.Result.{err_from_is_err_and}
use Rattle.tuples.specs.Texts.{IsObject, IsRelation, IsTupleset, object_text, relation_text, tupleset_text}
use Rattle.tuples.proofs.Spelling.{refuses_whole}
use Rattle.tuples.proofs.Selecting.{of_object_by_object, of_object_by_relation}
use Rattle.tuples.proofs.tupleset.parse_of_object.Goals as goal

pub returns-in_err-object : goal.returns-in_err-object
returns-in_err-object c =
    let text = c.args.text.now in
    let object = c.split_relation.result.0.now in
    let relation = option_map (λ r. r.now) c.split_relation.result.1 in
    let p = err_from_is_err_and c.from_residual.result c.from_residual.ensures.1 in
    rw (p.1, p.2) (refuses_whole IsObject object_text object IsTupleset tupleset_text text _ (of_object_by_object text object relation c.requires c.split_relation.ensures.first c.split_relation.ensures.whole) c.in_err-object.ensures)

pub returns-in_err-relation : goal.returns-in_err-relation
returns-in_err-relation c =
    let text = c.args.text.now in
    let object = c.split_relation.result.0.now in
    let relation = option_map (λ r. r.now) c.split_relation.result.1 in
    let p = err_from_is_err_and c.from_residual-in_err-relation.result c.from_residual-in_err-relation.ensures.1 in
    rw (p.1, p.2) (refuses_whole IsRelation relation_text (relation_text relation) IsTupleset tupleset_text text _ (of_object_by_relation text object relation c.requires c.split_relation.ensures.first c.split_relation.ensures.whole) c.in_err-relation.ensures)

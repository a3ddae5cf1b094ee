use Rattle.std.proofs.Common.{option_map, ◌++◌, ◌∷◌}
use Rattle.std.proofs.lemmas.Result.{err_from_is_err_and}
use Rattle.tuples.specs.Names.{IsName}
use Rattle.tuples.specs.Parsing.{own_text}
use Rattle.tuples.specs.Texts.{IsUser, IsRelation, IsTupleset, user_text, relation_text, tupleset_text}
use Rattle.tuples.proofs.Spelling.{refuses_whole}
use Rattle.tuples.proofs.Selecting.{of_user_by_namespace, of_user_by_relation, of_user_by_user}
use Rattle.tuples.proofs.tupleset.parse_of_user.Goals as goal

pub returns-in_err-namespace : goal.returns-in_err-namespace
returns-in_err-namespace c =
    let front = c.args.front.now in
    let user = c.args.user.now in
    let namespace = c.split_relation.result.0.now in
    let relation = option_map (λ r. r.now) c.split_relation.result.1 in
    let p = err_from_is_err_and c.from_residual.result c.from_residual.ensures.1 in
    rw (p.1, p.2) (refuses_whole IsName own_text namespace IsTupleset tupleset_text (front ++ 64 ∷ user) _ (of_user_by_namespace front namespace user relation c.requires.no_user c.requires.no_object c.split_relation.ensures.first c.split_relation.ensures.whole) c.in_err-namespace.ensures.value)

pub returns-in_err-relation : goal.returns-in_err-relation
returns-in_err-relation c =
    let front = c.args.front.now in
    let user = c.args.user.now in
    let namespace = c.split_relation.result.0.now in
    let relation = option_map (λ r. r.now) c.split_relation.result.1 in
    let p = err_from_is_err_and c.from_residual-in_err-relation.result c.from_residual-in_err-relation.ensures.1 in
    rw (p.1, p.2) (refuses_whole IsRelation relation_text (relation_text relation) IsTupleset tupleset_text (front ++ 64 ∷ user) _ (of_user_by_relation front namespace user relation c.requires.no_user c.requires.no_object c.split_relation.ensures.first c.split_relation.ensures.whole) c.in_err-relation.ensures)

pub returns-in_err-user : goal.returns-in_err-user
returns-in_err-user c =
    let front = c.args.front.now in
    let user = c.args.user.now in
    let namespace = c.split_relation.result.0.now in
    let relation = option_map (λ r. r.now) c.split_relation.result.1 in
    let p = err_from_is_err_and c.from_residual-in_err-user.result c.from_residual-in_err-user.ensures.1 in
    rw (p.1, p.2) (refuses_whole IsUser user_text user IsTupleset tupleset_text (front ++ 64 ∷ user) _ (of_user_by_user front namespace user relation c.requires.no_user c.requires.no_object c.split_relation.ensures.first c.split_relation.ensures.whole) c.in_err-user.ensures)

use Rattle.std.proofs.Common.{[], ◌∷◌, refl}
use Rattle.std.proofs.lemmas.Result.{on_ok_weaker}
use Rattle.journal.proofs.Beginnings.{finished, finished_moments, still_begun}
use Rattle.journal.proofs.Checkpoints.{none_put}
use Rattle.journal.proofs.begun.finish_in.Goals as goal

pub returns-in_err-write_rest-clause-any_moment : goal.returns-in_err-write_rest-clause-any_moment
returns-in_err-write_rest-clause-any_moment g c = λ hon.
    let log = c.args.log.now in
    still_begun g.D.Device.state g.D.Device.moment g.D.Device.left_since (g.S.Source.records c.args.source.now) log.device c.write_rest.new.log.device log.end log.at (c.requires.begun hon) (c.write_rest.ensures.lists hon)

pub returns-clause-any_moment : goal.returns-clause-any_moment
returns-clause-any_moment g c = λ hon.
    let state = g.D.Device.state in
    let log = c.args.log.now in
    let last = c.write_rest.new.log in
    let begun = c.requires.begun hon in
    let writing = c.in_ok-write_rest.ensures.ok [] hon (none_put (state log.device) log.end log.at c.args.piece.now c.requires.empty begun.none) in
    finished_moments state g.D.Device.moment g.D.Device.left_since (g.S.Source.records c.args.source.now) log.device last.device log.end log.at begun (c.write_rest.ensures.lists hon) c.publish.new.self.device last.end last.at _ refl writing
    (c.publish.ensures.any_moment writing.ahead (begun.body ∷ []) (c.write_rest.ensures.honest.0 hon) writing.is ((c.write_rest.ensures.lists hon).list (begun.body ∷ []) begun.list))

pub returns-clause-ok : goal.returns-clause-ok
returns-clause-ok g c = λ hon.
    let state = g.D.Device.state in
    let log = c.args.log.now in
    let last = c.write_rest.new.log in
    let begun = c.requires.begun hon in
    let writing = c.in_ok-write_rest.ensures.ok [] hon (none_put (state log.device) log.end log.at c.args.piece.now c.requires.empty begun.none) in
    on_ok_weaker c.publish.result
    (λ list. finished state g.D.Device.moment g.D.Device.left_since (g.S.Source.records c.args.source.now) log.device last.device log.end log.at begun (c.write_rest.ensures.lists hon) c.publish.new.self.device last.end last.at _ refl writing list)
    (c.publish.ensures.ok writing.ahead (begun.body ∷ []) (c.write_rest.ensures.honest.0 hon) writing.is ((c.write_rest.ensures.lists hon).list (begun.body ∷ []) begun.list))

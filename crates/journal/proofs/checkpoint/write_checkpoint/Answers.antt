use Rattle.std.proofs.Common.{[]}
use Rattle.std.proofs.lemmas.Result.{on_ok_weaker}
use Rattle.journal.proofs.Checkpoints.{on_ok_two, published, published_moments, published_rest}
use Rattle.journal.proofs.checkpoint.write_checkpoint.Goals as goal

pub returns-clause-any_moment : goal.returns-clause-any_moment
returns-clause-any_moment g c = λ bodies hon list.
    let state = g.D.Device.state in
    let hon_one = c.clear.ensures.honest.0 hon in
    let cleared = c.in_ok-clear.ensures.ok hon (c.requires.up hon) in
    let hon_two = c.write_all.ensures.honest.0 hon_one in
    let writing = c.in_ok-write_all.ensures.ok hon_one in
    let log = c.write_all.new.log in
    published_moments g.D.Device.moment g.D.Device.left_since state c.args.log.now.device c.clear.new.self.device log.device c.publish.new.self.device log.end log.at bodies _ writing
    (c.clear.ensures.any_moment bodies hon list) ((c.write_all.ensures.lists hon_one).moments [] cleared)
    (c.publish.ensures.any_moment writing.ahead [] hon_two writing.is ((c.write_all.ensures.lists hon_one).list [] cleared))

pub returns-clause-ok : goal.returns-clause-ok
returns-clause-ok g c = λ hon.
    let state = g.D.Device.state in
    let hon_one = c.clear.ensures.honest.0 hon in
    let cleared = c.in_ok-clear.ensures.ok hon (c.requires.up hon) in
    let hon_two = c.write_all.ensures.honest.0 hon_one in
    let writing = c.in_ok-write_all.ensures.ok hon_one in
    let log = c.write_all.new.log in
    on_ok_weaker c.publish.result
    (λ list. published g.D.Device.moment g.D.Device.left_since state c.args.log.now.device c.clear.new.self.device log.device c.publish.new.self.device log.end log.at [] _ writing list)
    (c.publish.ensures.ok writing.ahead [] hon_two writing.is ((c.write_all.ensures.lists hon_one).list [] cleared))

pub returns-clause-rest : goal.returns-clause-rest
returns-clause-rest g c = λ hon.
    let state = g.D.Device.state in
    let hon_one = c.clear.ensures.honest.0 hon in
    let cleared = c.in_ok-clear.ensures.ok hon (c.requires.up hon) in
    let hon_two = c.write_all.ensures.honest.0 hon_one in
    let writing = c.in_ok-write_all.ensures.ok hon_one in
    let log = c.write_all.new.log in
    on_ok_two c.publish.result
    (λ list up. published_rest g.D.Device.moment g.D.Device.left_since state c.args.log.now.device c.clear.new.self.device log.device c.publish.new.self.device log.end log.at [] _ writing list up)
    (c.publish.ensures.ok writing.ahead [] hon_two writing.is ((c.write_all.ensures.lists hon_one).list [] cleared))
    (c.publish.ensures.up hon_two)

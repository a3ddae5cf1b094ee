use Rattle.std.proofs.Common.{map, ◌∙◌}
use Rattle.std.proofs.lemmas.Result.{IfOk-weaker}
use Rattle.gated.proofs.Opens.{found_list, found_ready, read_moments, synced_since}
use Rattle.gated.proofs.opening.find_list.Goals as goal

pub returns-clause-ok : goal.returns-clause-ok
returns-clause-ok g c = λ hon.
    let hon_one = c.len.ensures.honest.0 hon in
    let hon_mid = c.sync.ensures.honest.0 hon_one in
    let synced = synced_since (g.D.Device.state c.args.device.now) (g.D.Device.state c.len.new.self) (g.D.Device.state c.sync.new.self) (c.len.ensures.keeps hon) (c.in-Ok-sync.ensures.ok hon_one) in
    let content_is = c.deref.ensures.value ∙ c.in_ok-content.ensures.ok hon_mid synced.stopped in
    IfOk-weaker c.split.result _ _
    (λ r spelled. found_list (g.D.Device.state c.args.device.now) (g.D.Device.state c.sync.new.self) (g.D.Device.state c.read_whole.new.device) synced
    (c.in_ok-content.ensures.keeps hon_mid) c.deref.result.now content_is (map (λ b. b.items) r.0.items) r.1 spelled (c.in_ok-content.ensures.up hon_mid))
    c.split.ensures.ok

pub returns-clause-any_moment : goal.returns-clause-any_moment
returns-clause-any_moment g c = λ hon.
    let old = c.args.device.now in
    let one = c.len.new.self in
    let mid = c.sync.new.self in
    let hon_one = c.len.ensures.honest.0 hon in
    let hon_mid = c.sync.ensures.honest.0 hon_one in
    read_moments g.D.Device.moment g.D.Device.left_since g.D.Device.state old one mid c.read_whole.new.device (c.len.ensures.keeps hon) (c.in-Ok-sync.ensures.ok hon_one)
    (λ x is. g.met.D.Device.only_now old x hon is) (λ x is. g.met.D.Device.only_now one x hon_one is)
    (c.len.ensures.time hon) (c.sync.ensures.time hon_one) (c.read_whole.ensures.any_moment hon_mid)

pub returns-clause-ready : goal.returns-clause-ready
returns-clause-ready g c = λ hon.
    let hon_one = c.len.ensures.honest.0 hon in
    let hon_mid = c.sync.ensures.honest.0 hon_one in
    let synced = synced_since (g.D.Device.state c.args.device.now) (g.D.Device.state c.len.new.self) (g.D.Device.state c.sync.new.self) (c.len.ensures.keeps hon) (c.in-Ok-sync.ensures.ok hon_one) in
    let content_is = c.deref.ensures.value ∙ c.in_ok-content.ensures.ok hon_mid synced.stopped in
    IfOk-weaker c.split.result _ _
    (λ r spelled. found_ready (g.D.Device.state c.args.device.now) (g.D.Device.state c.sync.new.self) (g.D.Device.state c.read_whole.new.device) synced
    (c.in_ok-content.ensures.keeps hon_mid) c.deref.result.now content_is (map (λ b. b.items) r.0.items) r.1 spelled)
    c.split.ensures.ok

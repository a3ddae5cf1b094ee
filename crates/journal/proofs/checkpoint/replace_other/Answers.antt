use Rattle.std.proofs.Common.{◌≡◌, Bool, not, sym, subst}
use Rattle.std.specs.Result.{OnOk}
use Rattle.journal.specs.Ahead.{checkpoint_of}
use Rattle.journal.specs.Records.{durable_of}
use Rattle.journal.specs.Rest.{AreLed}
use Rattle.journal.proofs.Checkpoints.{on_ok_two}
use Rattle.journal.proofs.Replaced.{each_from_a, each_from_b, led_from_a, led_from_b, new_from_a, new_from_b}
use Rattle.journal.proofs.checkpoint.replace_other.Goals as goal

pub returns-then-is_b-clause-any_moment : goal.returns-then-is_b-clause-any_moment
returns-then-is_b-clause-any_moment g c = λ now next_is hon_a hon_b leads.
    let state = g.D.Device.state in
    let a = c.args.a.now.device in
    let b = c.args.b.now.device in
    let rest = c.requires.rest_a hon_a in
    let led = subst (λ (is_b : Bool). AreLed (state a) (state b) is_b now) c.if-is_b.true leads in
    each_from_b state g.D.Device.moment g.D.Device.left_since c.args.staged.now (g.S.Source.records c.args.source.now) c.requires.plain now c.args.generation next_is a b (c.replace.new.other.device) (c.replace.new.current.device) led rest (g.met.D.Device.reads_left a hon_a rest.up)
    (c.replace.ensures.any_moment led.other hon_b led.b) (c.replace.ensures.any_moment_other rest.bodies hon_a rest.has)

pub returns-then-is_b-clause-ok : goal.returns-then-is_b-clause-ok
returns-then-is_b-clause-ok g c = λ now next_is hon_a hon_b leads.
    let state = g.D.Device.state in
    let a = c.args.a.now.device in
    let b = c.args.b.now.device in
    let rest = c.requires.rest_a hon_a in
    let led = subst (λ (is_b : Bool). AreLed (state a) (state b) is_b now) c.if-is_b.true leads in
    subst (λ (is_b : Bool). OnOk c.replace.result (AreLed (state (c.replace.new.other.device)) (state (c.replace.new.current.device)) (not is_b) c.args.generation × (durable_of (state (c.replace.new.other.device)) (state (c.replace.new.current.device)) ≡ checkpoint_of c.args.generation (g.S.Source.records c.args.source.now)))) (sym c.if-is_b.true)
    (on_ok_two c.replace.result
    (λ has new. (led_from_b state g.D.Device.moment g.D.Device.left_since c.args.staged.now (g.S.Source.records c.args.source.now) c.requires.plain now c.args.generation next_is a b (c.replace.new.other.device) (c.replace.new.current.device) led rest (g.met.D.Device.reads_left a hon_a rest.up) has new.0, new_from_b state g.D.Device.moment g.D.Device.left_since c.args.staged.now (g.S.Source.records c.args.source.now) c.requires.plain now c.args.generation next_is a b (c.replace.new.other.device) (c.replace.new.current.device) led rest (g.met.D.Device.reads_left a hon_a rest.up) has new.0))
    (c.replace.ensures.has led.other hon_b led.b) (c.replace.ensures.ok hon_a))

pub returns-else-is_b-clause-any_moment : goal.returns-else-is_b-clause-any_moment
returns-else-is_b-clause-any_moment g c = λ now next_is hon_a hon_b leads.
    let state = g.D.Device.state in
    let a = c.args.a.now.device in
    let b = c.args.b.now.device in
    let rest = c.requires.rest_b hon_b in
    let led = subst (λ (is_b : Bool). AreLed (state a) (state b) is_b now) c.if-is_b.false leads in
    each_from_a state g.D.Device.moment g.D.Device.left_since c.args.staged.now (g.S.Source.records c.args.source.now) c.requires.plain now c.args.generation next_is a b (c.replace-else-is_b.new.current.device) (c.replace-else-is_b.new.other.device) led rest (g.met.D.Device.reads_left b hon_b rest.up)
    (c.replace-else-is_b.ensures.any_moment led.first hon_a led.a) (c.replace-else-is_b.ensures.any_moment_other rest.bodies hon_b rest.has)

pub returns-else-is_b-clause-ok : goal.returns-else-is_b-clause-ok
returns-else-is_b-clause-ok g c = λ now next_is hon_a hon_b leads.
    let state = g.D.Device.state in
    let a = c.args.a.now.device in
    let b = c.args.b.now.device in
    let rest = c.requires.rest_b hon_b in
    let led = subst (λ (is_b : Bool). AreLed (state a) (state b) is_b now) c.if-is_b.false leads in
    subst (λ (is_b : Bool). OnOk c.replace-else-is_b.result (AreLed (state (c.replace-else-is_b.new.current.device)) (state (c.replace-else-is_b.new.other.device)) (not is_b) c.args.generation × (durable_of (state (c.replace-else-is_b.new.current.device)) (state (c.replace-else-is_b.new.other.device)) ≡ checkpoint_of c.args.generation (g.S.Source.records c.args.source.now)))) (sym c.if-is_b.false)
    (on_ok_two c.replace-else-is_b.result
    (λ has new. (led_from_a state g.D.Device.moment g.D.Device.left_since c.args.staged.now (g.S.Source.records c.args.source.now) c.requires.plain now c.args.generation next_is a b (c.replace-else-is_b.new.current.device) (c.replace-else-is_b.new.other.device) led rest (g.met.D.Device.reads_left b hon_b rest.up) has new.0, new_from_a state g.D.Device.moment g.D.Device.left_since c.args.staged.now (g.S.Source.records c.args.source.now) c.requires.plain now c.args.generation next_is a b (c.replace-else-is_b.new.current.device) (c.replace-else-is_b.new.other.device) led rest (g.met.D.Device.reads_left b hon_b rest.up) has new.0))
    (c.replace-else-is_b.ensures.has led.first hon_a led.a) (c.replace-else-is_b.ensures.ok hon_b))

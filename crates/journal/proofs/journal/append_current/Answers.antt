use Rattle.std.proofs.Common.{Bool, sym, subst}
use Rattle.std.specs.Result.{OnOk}
use Rattle.std.proofs.lemmas.Result.{on_ok_weaker}
use Rattle.journal.specs.Rest.{AreLed}
use Rattle.journal.proofs.Flushes.{both_by_a, both_by_b, led_by_a, led_by_b, longer_by_a, longer_by_b}
use Rattle.journal.proofs.journal.append_current.Goals as goal

pub returns-then-is_b-clause-led : goal.returns-then-is_b-clause-led
returns-then-is_b-clause-led g c = λ generation hon_a hon_b leads.
    let a = c.args.a.now.device in
    let b = c.args.b.now.device in
    let led = subst (λ (is_b : Bool). AreLed (g.D.Device.state a) (g.D.Device.state b) is_b generation) c.if-is_b.true leads in
    let up = c.requires.rest_b hon_b in
    subst (λ (is_b : Bool). OnOk c.append_batch.result (AreLed (g.D.Device.state a) (g.D.Device.state c.append_batch.new.log.device) is_b generation)) (sym c.if-is_b.true)
    (on_ok_weaker c.append_batch.result
    (λ has. led_by_b g.D.Device.state g.D.Device.moment g.D.Device.left_since c.args.staged.now c.requires.plain c.requires.some generation a b c.append_batch.new.log.device led
    (c.append_batch.ensures.any_moment led.other hon_b led.b) (λ t le. g.met.D.Device.counts_now b t _ hon_b le (g.met.D.Device.reads_left b hon_b up.up)) (g.met.D.Device.reads_left b hon_b up.up) (λ x is. g.met.D.Device.only_now a x hon_a is) has)
    (c.append_batch.ensures.ok led.other hon_b led.b))

pub returns-then-is_b-clause-ok : goal.returns-then-is_b-clause-ok
returns-then-is_b-clause-ok g c = λ generation hon_a hon_b leads.
    let a = c.args.a.now.device in
    let b = c.args.b.now.device in
    let led = subst (λ (is_b : Bool). AreLed (g.D.Device.state a) (g.D.Device.state b) is_b generation) c.if-is_b.true leads in
    let up = c.requires.rest_b hon_b in
    on_ok_weaker c.append_batch.result
    (λ has. longer_by_b g.D.Device.state g.D.Device.moment g.D.Device.left_since c.args.staged.now c.requires.plain c.requires.some generation a b c.append_batch.new.log.device led
    (c.append_batch.ensures.any_moment led.other hon_b led.b) (λ t le. g.met.D.Device.counts_now b t _ hon_b le (g.met.D.Device.reads_left b hon_b up.up)) (g.met.D.Device.reads_left b hon_b up.up) (λ x is. g.met.D.Device.only_now a x hon_a is) has)
    (c.append_batch.ensures.ok led.other hon_b led.b)

pub returns-then-is_b-clause-any_moment : goal.returns-then-is_b-clause-any_moment
returns-then-is_b-clause-any_moment g c = λ generation hon_a hon_b leads.
    let a = c.args.a.now.device in
    let b = c.args.b.now.device in
    let led = subst (λ (is_b : Bool). AreLed (g.D.Device.state a) (g.D.Device.state b) is_b generation) c.if-is_b.true leads in
    let up = c.requires.rest_b hon_b in
    both_by_b g.D.Device.state g.D.Device.moment g.D.Device.left_since c.args.staged.now c.requires.plain c.requires.some generation a b c.append_batch.new.log.device led
    (c.append_batch.ensures.any_moment led.other hon_b led.b) (λ t le. g.met.D.Device.counts_now b t _ hon_b le (g.met.D.Device.reads_left b hon_b up.up)) (g.met.D.Device.reads_left b hon_b up.up) (λ x is. g.met.D.Device.only_now a x hon_a is)

pub returns-else-is_b-clause-led : goal.returns-else-is_b-clause-led
returns-else-is_b-clause-led g c = λ generation hon_a hon_b leads.
    let a = c.args.a.now.device in
    let b = c.args.b.now.device in
    let led = subst (λ (is_b : Bool). AreLed (g.D.Device.state a) (g.D.Device.state b) is_b generation) c.if-is_b.false leads in
    let up = c.requires.rest_a hon_a in
    subst (λ (is_b : Bool). OnOk c.append_batch-else-is_b.result (AreLed (g.D.Device.state c.append_batch-else-is_b.new.log.device) (g.D.Device.state b) is_b generation)) (sym c.if-is_b.false)
    (on_ok_weaker c.append_batch-else-is_b.result
    (λ has. led_by_a g.D.Device.state g.D.Device.moment g.D.Device.left_since c.args.staged.now c.requires.plain c.requires.some generation a c.append_batch-else-is_b.new.log.device b led
    (c.append_batch-else-is_b.ensures.any_moment led.first hon_a led.a) (λ t le. g.met.D.Device.counts_now a t _ hon_a le (g.met.D.Device.reads_left a hon_a up.up)) (g.met.D.Device.reads_left a hon_a up.up) (λ x is. g.met.D.Device.only_now b x hon_b is) has)
    (c.append_batch-else-is_b.ensures.ok led.first hon_a led.a))

pub returns-else-is_b-clause-ok : goal.returns-else-is_b-clause-ok
returns-else-is_b-clause-ok g c = λ generation hon_a hon_b leads.
    let a = c.args.a.now.device in
    let b = c.args.b.now.device in
    let led = subst (λ (is_b : Bool). AreLed (g.D.Device.state a) (g.D.Device.state b) is_b generation) c.if-is_b.false leads in
    let up = c.requires.rest_a hon_a in
    on_ok_weaker c.append_batch-else-is_b.result
    (λ has. longer_by_a g.D.Device.state g.D.Device.moment g.D.Device.left_since c.args.staged.now c.requires.plain c.requires.some generation a c.append_batch-else-is_b.new.log.device b led
    (c.append_batch-else-is_b.ensures.any_moment led.first hon_a led.a) (λ t le. g.met.D.Device.counts_now a t _ hon_a le (g.met.D.Device.reads_left a hon_a up.up)) (g.met.D.Device.reads_left a hon_a up.up) (λ x is. g.met.D.Device.only_now b x hon_b is) has)
    (c.append_batch-else-is_b.ensures.ok led.first hon_a led.a)

pub returns-else-is_b-clause-any_moment : goal.returns-else-is_b-clause-any_moment
returns-else-is_b-clause-any_moment g c = λ generation hon_a hon_b leads.
    let a = c.args.a.now.device in
    let b = c.args.b.now.device in
    let led = subst (λ (is_b : Bool). AreLed (g.D.Device.state a) (g.D.Device.state b) is_b generation) c.if-is_b.false leads in
    let up = c.requires.rest_a hon_a in
    both_by_a g.D.Device.state g.D.Device.moment g.D.Device.left_since c.args.staged.now c.requires.plain c.requires.some generation a c.append_batch-else-is_b.new.log.device b led
    (c.append_batch-else-is_b.ensures.any_moment led.first hon_a led.a) (λ t le. g.met.D.Device.counts_now a t _ hon_a le (g.met.D.Device.reads_left a hon_a up.up)) (g.met.D.Device.reads_left a hon_a up.up) (λ x is. g.met.D.Device.only_now b x hon_b is)

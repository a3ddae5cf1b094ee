use Rattle.std.proofs.Common.{Err, refl, sym, ◌∙◌, ap, subst, true≢false}
use Rattle.journal.specs.Records.{LeavesBoth, WasLeftOrFound}
use Rattle.journal.proofs.Flushes.{as_it_was, as_left, both_opened}
use Rattle.journal.proofs.Found.{found_bodies, found_durable, found_seen, none_in_a, none_in_b, opened_at}
use Rattle.journal.proofs.opening.Opening.find.Goals as goal

pub returns-in-Err-clause-damaged : goal.returns-in-Err-clause-damaged
returns-in-Err-clause-damaged g c = λ hon_a hon_b is. none_in_a (g.D.Device.state c.args.a).seen (g.D.Device.state c.args.b).seen (c.in-Err.ensures.damaged hon_a is)

pub returns-in-Err-open-clause-damaged : goal.returns-in-Err-open-clause-damaged
returns-in-Err-open-clause-damaged g c = λ hon_a hon_b is. none_in_b (g.D.Device.state c.args.a).seen (g.D.Device.state c.args.b).seen (c.in-Err-open.ensures.damaged hon_b is)

pub returns-in-Err-chosen-clause-damaged : goal.returns-in-Err-chosen-clause-damaged
returns-in-Err-chosen-clause-damaged g c = λ hon_a hon_b is.
    found_bodies (g.D.Device.state c.args.a).seen (g.D.Device.state c.args.b).seen _ _ (c.in-Ok.ensures.ok hon_a).was (c.in-Ok-open.ensures.ok hon_b).was ∙ c.in-Err-chosen.ensures.damaged (ap Err is)

pub returns-in-Err-clause-any_moment : goal.returns-in-Err-clause-any_moment
returns-in-Err-clause-any_moment g c = λ hon_a hon_b.
    let state = g.D.Device.state in
    both_opened state g.D.Device.moment g.D.Device.left_since c.args.a c.args.b c.in-Err.a c.args.b
    (λ t x le is. g.met.D.Device.counts_now c.args.a t x hon_a le is) (λ t x le is. g.met.D.Device.counts_now c.args.b t x hon_b le is)
    (as_left state g.D.Device.moment g.D.Device.left_since c.args.a c.in-Err.a (λ stopped. c.in-Err.ensures.still stopped hon_a) (λ up. g.met.D.Device.reads_left c.args.a hon_a up) (c.in-Err.ensures.any_moment hon_a))
    (as_it_was state g.D.Device.moment g.D.Device.left_since c.args.b (λ x is. g.met.D.Device.only_now c.args.b x hon_b is))

pub returns-in-Err-open-clause-any_moment : goal.returns-in-Err-open-clause-any_moment
returns-in-Err-open-clause-any_moment g c = λ hon_a hon_b.
    let state = g.D.Device.state in
    let P : g.row.D.Denot → Type 0 = λ d. LeavesBoth g.D.Device.moment g.D.Device.left_since c.args.a c.args.b d c.in-Err-open.b (WasLeftOrFound (state c.args.a) (state c.args.b)) in
    subst P (sym c.into_device.ensures)
    (both_opened state g.D.Device.moment g.D.Device.left_since c.args.a c.args.b c.in-Ok.opened.0.device c.in-Err-open.b
    (λ t x le is. g.met.D.Device.counts_now c.args.a t x hon_a le is) (λ t x le is. g.met.D.Device.counts_now c.args.b t x hon_b le is)
    (as_left state g.D.Device.moment g.D.Device.left_since c.args.a c.in-Ok.opened.0.device (λ stopped. absurd (true≢false (sym (c.in-Ok.ensures.stopped stopped)))) (λ up. g.met.D.Device.reads_left c.args.a hon_a up) (c.in-Ok.ensures.any_moment hon_a))
    (as_left state g.D.Device.moment g.D.Device.left_since c.args.b c.in-Err-open.b (λ stopped. c.in-Err-open.ensures.still stopped hon_b) (λ up. g.met.D.Device.reads_left c.args.b hon_b up) (c.in-Err-open.ensures.any_moment hon_b)))

pub returns-in-Ok-chosen-clause-any_moment : goal.returns-in-Ok-chosen-clause-any_moment
returns-in-Ok-chosen-clause-any_moment g c = λ hon_a hon_b.
    let state = g.D.Device.state in
    both_opened state g.D.Device.moment g.D.Device.left_since c.args.a c.args.b c.in-Ok.opened.0.device c.in-Ok-open.opened.0.device
    (λ t x le is. g.met.D.Device.counts_now c.args.a t x hon_a le is) (λ t x le is. g.met.D.Device.counts_now c.args.b t x hon_b le is)
    (as_left state g.D.Device.moment g.D.Device.left_since c.args.a c.in-Ok.opened.0.device (λ stopped. absurd (true≢false (sym (c.in-Ok.ensures.stopped stopped)))) (λ up. g.met.D.Device.reads_left c.args.a hon_a up) (c.in-Ok.ensures.any_moment hon_a))
    (as_left state g.D.Device.moment g.D.Device.left_since c.args.b c.in-Ok-open.opened.0.device (λ stopped. absurd (true≢false (sym (c.in-Ok-open.ensures.stopped stopped)))) (λ up. g.met.D.Device.reads_left c.args.b hon_b up) (c.in-Ok-open.ensures.any_moment hon_b))

pub returns-in-Err-chosen-clause-any_moment : goal.returns-in-Err-chosen-clause-any_moment
returns-in-Err-chosen-clause-any_moment g c = λ hon_a hon_b.
    let state = g.D.Device.state in
    rw (c.into_device-in-Err-chosen.ensures, c.into_device-in-Err-chosen-2.ensures)
    (both_opened state g.D.Device.moment g.D.Device.left_since c.args.a c.args.b c.in-Ok.opened.0.device c.in-Ok-open.opened.0.device
    (λ t x le is. g.met.D.Device.counts_now c.args.a t x hon_a le is) (λ t x le is. g.met.D.Device.counts_now c.args.b t x hon_b le is)
    (as_left state g.D.Device.moment g.D.Device.left_since c.args.a c.in-Ok.opened.0.device (λ stopped. absurd (true≢false (sym (c.in-Ok.ensures.stopped stopped)))) (λ up. g.met.D.Device.reads_left c.args.a hon_a up) (c.in-Ok.ensures.any_moment hon_a))
    (as_left state g.D.Device.moment g.D.Device.left_since c.args.b c.in-Ok-open.opened.0.device (λ stopped. absurd (true≢false (sym (c.in-Ok-open.ensures.stopped stopped)))) (λ up. g.met.D.Device.reads_left c.args.b hon_b up) (c.in-Ok-open.ensures.any_moment hon_b)))

pub returns-in-Ok-chosen-clause-ok : goal.returns-in-Ok-chosen-clause-ok
returns-in-Ok-chosen-clause-ok g c = λ hon_a hon_b.
    let state = g.D.Device.state in
    let list_a = c.in-Ok.ensures.ok hon_a in
    let list_b = c.in-Ok-open.ensures.ok hon_b in
    let is = c.in-Ok-chosen.ensures.ok.1 in (
      found_seen (state c.args.a) (state c.args.b) (state c.in-Ok.opened.0.device) (state c.in-Ok-open.opened.0.device) _ _ list_a list_b _ _ _ is,
      found_durable (state c.args.a) (state c.args.b) (state c.in-Ok.opened.0.device) (state c.in-Ok-open.opened.0.device) _ _ list_a list_b _ _ _ is,
    )

pub returns-in-Ok-chosen-clause-opened : goal.returns-in-Ok-chosen-clause-opened
returns-in-Ok-chosen-clause-opened g c = λ hon_a hon_b rs are.
    opened_at g.D.Device.state c.args.a c.args.b _ _ _ (c.in-Ok.ensures.ok hon_a) (c.in-Ok-open.ensures.ok hon_b) _ _ _ c.in-Ok-chosen.ensures.ok.1 refl rs are

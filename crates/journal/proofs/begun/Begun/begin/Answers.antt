use Rattle.std.proofs.Common.{◌≡◌, ◌∙◌, [], ℕ, List, Option, None, Some, sym, subst, true≢false}
use Rattle.device.proofs.Moments.{leaves_then}
use Rattle.gated.specs.Gated.{HasList}
use Rattle.journal.specs.Beginnings.{HasNoneOrBegins, HasNoneOrNeverOpens}
use Rattle.journal.specs.Records.{LeavesEach}
use Rattle.journal.proofs.Beginnings.{begun_stays, each_begun, is_up, none_first, opened_none, opens_none, stays_none}
use Rattle.journal.proofs.begun.Begun.begin.Goals as goal

pub returns-in-Err-clause-any_moment : goal.returns-in-Err-clause-any_moment
returns-in-Err-clause-any_moment g c = λ hon_a hon_b none_a none_b.
    let state = g.D.Device.state in
    each_begun state g.D.Device.moment g.D.Device.left_since c.args.a c.args.b c.in-Err.a c.args.b
    (none_first state g.D.Device.moment g.D.Device.left_since c.args.a c.in-Err.a
    (opens_none state g.D.Device.moment g.D.Device.left_since c.args.a c.in-Err.a none_a (g.met.D.Device.reads_left c.args.a hon_a) (λ stopped. c.in-Err.ensures.still stopped hon_a) (c.in-Err.ensures.any_moment hon_a)))
    (stays_none state g.D.Device.moment g.D.Device.left_since c.args.b none_b (λ x is. g.met.D.Device.only_now c.args.b x hon_b is))

pub returns-in-Err-open-clause-any_moment : goal.returns-in-Err-open-clause-any_moment
returns-in-Err-open-clause-any_moment g c = λ hon_a hon_b none_a none_b.
    let state = g.D.Device.state in
    let a = c.in-Ok.opened.0.device in
    subst (λ (d : g.row.D.Denot). LeavesEach g.D.Device.moment g.D.Device.left_since c.args.a c.args.b d c.in-Err-open.b HasNoneOrNeverOpens) (sym c.into_device.ensures)
    (each_begun state g.D.Device.moment g.D.Device.left_since c.args.a c.args.b a c.in-Err-open.b
    (none_first state g.D.Device.moment g.D.Device.left_since c.args.a a
    (opens_none state g.D.Device.moment g.D.Device.left_since c.args.a a none_a (g.met.D.Device.reads_left c.args.a hon_a) (λ stopped. absurd (true≢false (sym (c.in-Ok.ensures.stopped stopped)))) (c.in-Ok.ensures.any_moment hon_a)))
    (opens_none state g.D.Device.moment g.D.Device.left_since c.args.b c.in-Err-open.b none_b (g.met.D.Device.reads_left c.args.b hon_b) (λ stopped. c.in-Err-open.ensures.still stopped hon_b) (c.in-Err-open.ensures.any_moment hon_b)))

pub returns-in-Ok-begin_in-clause-ok : goal.returns-in-Ok-begin_in-clause-ok
returns-in-Ok-begin_in-clause-ok g c = λ hon_a hon_b.
    let state = g.D.Device.state in
    let found_a = c.in-Ok.ensures.ok hon_a in
    let found_b = c.in-Ok-open.ensures.ok hon_b in
    let empty = c.in-Ok-begin_in.ensures.empty in
    let log = c.begin_in.new.log in
    begun_stays (state log.device) (state c.in-Ok-open.opened.0.device) log.end log.at
    (c.in-Ok-begin_in.ensures.begun (c.in-Ok.ensures.honest.0 hon_a) (subst (HasList (state c.in-Ok.opened.0.device)) empty.1 found_a.has))
    (subst (HasList (state c.in-Ok-open.opened.0.device)) empty.2 found_b.has)

pub returns-in-Ok-begin_in-clause-any_moment : goal.returns-in-Ok-begin_in-clause-any_moment
returns-in-Ok-begin_in-clause-any_moment g c = λ hon_a hon_b none_a none_b.
    let state = g.D.Device.state in
    let a = c.in-Ok.opened.0.device in
    let b = c.in-Ok-open.opened.0.device in
    let up = is_up (state c.args.a) (λ stopped. true≢false (sym (c.in-Ok.ensures.stopped stopped))) in
    each_begun state g.D.Device.moment g.D.Device.left_since c.args.a c.args.b c.begin_in.new.log.device b
    (leaves_then g.D.Device.moment g.D.Device.left_since c.args.a a c.begin_in.new.log.device HasNoneOrBegins
    (none_first state g.D.Device.moment g.D.Device.left_since c.args.a a
    (opens_none state g.D.Device.moment g.D.Device.left_since c.args.a a none_a (g.met.D.Device.reads_left c.args.a hon_a) (λ stopped. absurd (true≢false (sym (c.in-Ok.ensures.stopped stopped)))) (c.in-Ok.ensures.any_moment hon_a)))
    (c.begin_in.ensures.any_moment (c.in-Ok.ensures.honest.0 hon_a)
    (opened_none state g.D.Device.moment g.D.Device.left_since c.args.a a none_a (g.met.D.Device.reads_left c.args.a hon_a) _ up (c.in-Ok.ensures.ok hon_a))))
    (opens_none state g.D.Device.moment g.D.Device.left_since c.args.b b none_b (g.met.D.Device.reads_left c.args.b hon_b) (λ stopped. absurd (true≢false (sym (c.in-Ok-open.ensures.stopped stopped)))) (c.in-Ok-open.ensures.any_moment hon_b))

pub returns-in-Err-begin_in-clause-any_moment : goal.returns-in-Err-begin_in-clause-any_moment
returns-in-Err-begin_in-clause-any_moment g c = λ hon_a hon_b none_a none_b.
    let state = g.D.Device.state in
    let a = c.in-Ok.opened.0.device in
    let b = c.in-Ok-open.opened.0.device in
    let up = is_up (state c.args.a) (λ stopped. true≢false (sym (c.in-Ok.ensures.stopped stopped))) in
    rw (c.into_device-in-Err-begin_in.ensures, c.into_device-in-Err-begin_in-2.ensures)
    (each_begun state g.D.Device.moment g.D.Device.left_since c.args.a c.args.b c.begin_in.new.log.device b
    (leaves_then g.D.Device.moment g.D.Device.left_since c.args.a a c.begin_in.new.log.device HasNoneOrBegins
    (none_first state g.D.Device.moment g.D.Device.left_since c.args.a a
    (opens_none state g.D.Device.moment g.D.Device.left_since c.args.a a none_a (g.met.D.Device.reads_left c.args.a hon_a) (λ stopped. absurd (true≢false (sym (c.in-Ok.ensures.stopped stopped)))) (c.in-Ok.ensures.any_moment hon_a)))
    (c.begin_in.ensures.any_moment (c.in-Ok.ensures.honest.0 hon_a)
    (opened_none state g.D.Device.moment g.D.Device.left_since c.args.a a none_a (g.met.D.Device.reads_left c.args.a hon_a) _ up (c.in-Ok.ensures.ok hon_a))))
    (opens_none state g.D.Device.moment g.D.Device.left_since c.args.b b none_b (g.met.D.Device.reads_left c.args.b hon_b) (λ stopped. absurd (true≢false (sym (c.in-Ok-open.ensures.stopped stopped)))) (c.in-Ok-open.ensures.any_moment hon_b)))

pub returns-in-Err-clause-moments : goal.returns-in-Err-clause-moments
returns-in-Err-clause-moments g c = λ hon_a hon_b none_a none_b.
    let state = g.D.Device.state in (
      none_first state g.D.Device.moment g.D.Device.left_since c.args.a c.in-Err.a
          (opens_none state g.D.Device.moment g.D.Device.left_since c.args.a c.in-Err.a none_a (g.met.D.Device.reads_left c.args.a hon_a) (λ stopped. c.in-Err.ensures.still stopped hon_a) (c.in-Err.ensures.any_moment hon_a)),
      stays_none state g.D.Device.moment g.D.Device.left_since c.args.b none_b (λ x is. g.met.D.Device.only_now c.args.b x hon_b is),
    )

pub returns-in-Err-open-clause-moments : goal.returns-in-Err-open-clause-moments
returns-in-Err-open-clause-moments g c =
    let state = g.D.Device.state in
    let a = c.in-Ok.opened.0.device in
    rw c.into_device.ensures
    (λ hon_a hon_b none_a none_b. (
      none_first state g.D.Device.moment g.D.Device.left_since c.args.a a
          (opens_none state g.D.Device.moment g.D.Device.left_since c.args.a a none_a (g.met.D.Device.reads_left c.args.a hon_a) (λ stopped. absurd (true≢false (sym (c.in-Ok.ensures.stopped stopped)))) (c.in-Ok.ensures.any_moment hon_a)),
      opens_none state g.D.Device.moment g.D.Device.left_since c.args.b c.in-Err-open.b none_b (g.met.D.Device.reads_left c.args.b hon_b) (λ stopped. c.in-Err-open.ensures.still stopped hon_b) (c.in-Err-open.ensures.any_moment hon_b),
    ))

pub returns-in-Ok-begin_in-clause-moments : goal.returns-in-Ok-begin_in-clause-moments
returns-in-Ok-begin_in-clause-moments g c =
    let state = g.D.Device.state in
    let a = c.in-Ok.opened.0.device in
    let b = c.in-Ok-open.opened.0.device in
    let up = is_up (state c.args.a) (λ stopped. true≢false (sym (c.in-Ok.ensures.stopped stopped))) in
    λ hon_a hon_b none_a none_b. (
      leaves_then g.D.Device.moment g.D.Device.left_since c.args.a a c.begin_in.new.log.device HasNoneOrBegins
          (none_first state g.D.Device.moment g.D.Device.left_since c.args.a a
          (opens_none state g.D.Device.moment g.D.Device.left_since c.args.a a none_a (g.met.D.Device.reads_left c.args.a hon_a) (λ stopped. absurd (true≢false (sym (c.in-Ok.ensures.stopped stopped)))) (c.in-Ok.ensures.any_moment hon_a)))
          (c.begin_in.ensures.any_moment (c.in-Ok.ensures.honest.0 hon_a)
          (opened_none state g.D.Device.moment g.D.Device.left_since c.args.a a none_a (g.met.D.Device.reads_left c.args.a hon_a) _ up (c.in-Ok.ensures.ok hon_a))),
      opens_none state g.D.Device.moment g.D.Device.left_since c.args.b b none_b (g.met.D.Device.reads_left c.args.b hon_b) (λ stopped. absurd (true≢false (sym (c.in-Ok-open.ensures.stopped stopped)))) (c.in-Ok-open.ensures.any_moment hon_b),
    )

pub returns-in-Err-begin_in-clause-moments : goal.returns-in-Err-begin_in-clause-moments
returns-in-Err-begin_in-clause-moments g c =
    let state = g.D.Device.state in
    let a = c.in-Ok.opened.0.device in
    let b = c.in-Ok-open.opened.0.device in
    let up = is_up (state c.args.a) (λ stopped. true≢false (sym (c.in-Ok.ensures.stopped stopped))) in
    rw (c.into_device-in-Err-begin_in.ensures, c.into_device-in-Err-begin_in-2.ensures)
    (λ hon_a hon_b none_a none_b. (
      leaves_then g.D.Device.moment g.D.Device.left_since c.args.a a c.begin_in.new.log.device HasNoneOrBegins
          (none_first state g.D.Device.moment g.D.Device.left_since c.args.a a
          (opens_none state g.D.Device.moment g.D.Device.left_since c.args.a a none_a (g.met.D.Device.reads_left c.args.a hon_a) (λ stopped. absurd (true≢false (sym (c.in-Ok.ensures.stopped stopped)))) (c.in-Ok.ensures.any_moment hon_a)))
          (c.begin_in.ensures.any_moment (c.in-Ok.ensures.honest.0 hon_a)
          (opened_none state g.D.Device.moment g.D.Device.left_since c.args.a a none_a (g.met.D.Device.reads_left c.args.a hon_a) _ up (c.in-Ok.ensures.ok hon_a))),
      opens_none state g.D.Device.moment g.D.Device.left_since c.args.b b none_b (g.met.D.Device.reads_left c.args.b hon_b) (λ stopped. absurd (true≢false (sym (c.in-Ok-open.ensures.stopped stopped)))) (c.in-Ok-open.ensures.any_moment hon_b),
    ))

no_list : (found : Option (List (List ℕ))) → found ≡ None → found ≡ Some [] → ⊥
no_list found none empty = let bad : None ≡ Some [] = sym none ∙ empty in absurd cc

none_of : (found : Option (List (List ℕ))) (bodies : List (List ℕ)) → found ≡ Some bodies → found ≡ Some [] → bodies ≡ []
none_of found bodies was empty = let same : Some bodies ≡ Some [] = sym was ∙ empty in cc

pub returns-in-Err-clause-damaged : goal.returns-in-Err-clause-damaged
returns-in-Err-clause-damaged g c = λ hon_a hon_b damaged empty_a empty_b. no_list _ (c.in-Err.ensures.damaged hon_a damaged) empty_a

pub returns-in-Err-open-clause-damaged : goal.returns-in-Err-open-clause-damaged
returns-in-Err-open-clause-damaged g c = λ hon_a hon_b damaged empty_a empty_b. no_list _ (c.in-Err-open.ensures.damaged hon_b damaged) empty_b

pub returns-in-Err-begin_in-clause-damaged : goal.returns-in-Err-begin_in-clause-damaged
returns-in-Err-begin_in-clause-damaged g c = λ hon_a hon_b damaged empty_a empty_b.
    c.in-Err-begin_in.ensures.damaged (cc) (none_of _ _ (c.in-Ok.ensures.ok hon_a).was empty_a) (none_of _ _ (c.in-Ok-open.ensures.ok hon_b).was empty_b)

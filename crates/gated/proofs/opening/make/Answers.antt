use Rattle.std.proofs.Common.{◌≡◌, ◌≤◌, ◌∷◌, [], List, ℕ, length, arith}
use Rattle.std.proofs.lemmas.Result.{on_ok_weaker}
use Rattle.device.specs.Device.{left, reach}
use Rattle.device.proofs.Moments.{leaves_then}
use Rattle.gated.specs.Gated.{closed_gate, gated}
use Rattle.gated.proofs.Calls.{put, tore_of, no_longer, sync_moments, one_call}
use Rattle.gated.proofs.Opens.{made_ready, made_list, short_leaves}
use Rattle.gated.proofs.opening.make.Goals as goal

pub returns-in_err-write_at-clause-any_moment : goal.returns-in_err-write_at-clause-any_moment
returns-in_err-write_at-clause-any_moment g c = λ hon.
    let old = c.args.device.now in
    let s = g.D.Device.state old in
    let asked = c.requires hon in
    let longest = g.met.D.Device.reads_longest old hon asked.0 in
    let most : reach s.written (length s.durable) ≤ 1 = omega (arith, longest, asked.1) in
    one_call g.D.Device.moment g.D.Device.left_since g.D.Device.state old c.write_at.new.self (λ x. gated x ≡ gated s.seen) (λ x is. g.met.D.Device.only_now old x hon is) (c.write_at.ensures.time hon)
    (λ x l. short_leaves s asked.1 x (omega (arith, l.no_longer, longest, asked.1)))
    (λ x l. short_leaves s asked.1 x (no_longer s 0 1 1 (g.D.Device.state c.write_at.new.self) (c.in_err-write_at.ensures.torn hon) most (omega arith) x l))

pub returns-clause-any_moment : goal.returns-clause-any_moment
returns-clause-any_moment g c = λ hon.
    let old = c.args.device.now in
    let one = c.write_at.new.self in
    let s = g.D.Device.state old in
    let asked = c.requires hon in
    let hon_one = c.write_at.ensures.honest.0 hon in
    let wrote = c.in_ok-write_at.ensures.ok hon in
    let longest = g.met.D.Device.reads_longest old hon asked.0 in
    let most : reach s.written (length s.durable) ≤ 1 = omega (arith, longest, asked.1) in
    let P : List ℕ → Type 0 = λ x. gated x ≡ gated s.seen in
    let short : (x : List ℕ) → left (g.D.Device.state one) x → P x = λ x l. short_leaves s asked.1 x (no_longer s 0 1 1 (g.D.Device.state one) (tore_of s 0 (closed_gate ∷ []) (g.D.Device.state one) wrote) most (omega arith) x l) in
    leaves_then g.D.Device.moment g.D.Device.left_since old one c.sync.new.self P
    (one_call g.D.Device.moment g.D.Device.left_since g.D.Device.state old one P (λ x is. g.met.D.Device.only_now old x hon is) (c.write_at.ensures.time hon) (λ x l. short_leaves s asked.1 x (omega (arith, l.no_longer, longest, asked.1))) short)
    (sync_moments g.D.Device.moment g.D.Device.left_since g.D.Device.state one c.sync.new.self P (λ x is. g.met.D.Device.only_now one x hon_one is) (c.sync.ensures.time hon_one) c.sync.result
    (g.met.D.Device.reads_left one hon_one wrote.stopped) (c.sync.ensures.ok hon_one) (c.sync.ensures.keeps hon_one) short)

pub returns-clause-ready : goal.returns-clause-ready
returns-clause-ready g c = λ hon.
    let asked = c.requires hon in
    let s = g.D.Device.state c.args.device.now in
    let one = g.D.Device.state c.write_at.new.self in
    let two = g.D.Device.state c.sync.new.self in
    on_ok_weaker c.sync.result (λ synced. made_ready s asked.1 two (put s _ _ one two (c.in_ok-write_at.ensures.ok hon) synced)) (c.sync.ensures.ok (c.write_at.ensures.honest.0 hon))

pub returns-clause-ok : goal.returns-clause-ok
returns-clause-ok g c = λ hon.
    let asked = c.requires hon in
    let s = g.D.Device.state c.args.device.now in
    let one = g.D.Device.state c.write_at.new.self in
    let two = g.D.Device.state c.sync.new.self in
    on_ok_weaker c.sync.result (λ synced. made_list s asked.1 two (put s _ _ one two (c.in_ok-write_at.ensures.ok hon) synced) synced.stopped) (c.sync.ensures.ok (c.write_at.ensures.honest.0 hon))

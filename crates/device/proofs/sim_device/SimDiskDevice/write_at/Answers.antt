use Rattle.std.proofs.Common.{rules, ap, inr, sym, ◌∙◌, ℕ, List}
use Rattle.std.proofs.lemmas.Bool.{false≢true}
use Rattle.device.specs.Sim.{Image, overwritten, replay}
use Rattle.device.specs.declared.call.Call.{Call}
use Rattle.device.proofs.History.{made_image, made_elapses}
use Rattle.device.proofs.sim_device.SimDiskDevice.write_at.Goals as goal

pub returns-then-is_some-clause-torn : goal.returns-then-is_some-clause-torn
returns-then-is_some-clause-torn c =
    let s = c.args.self.now in
    let n = c.store.new.self in
    let image = made_image n.first.items s.first.items s.history.items n.history.items (overwritten c.args.at c.args.bytes.now) c.in-Ok.ensures.first c.in-Ok.ensures.made in
    record { durable = ap (λ (m : Image). m.durable) image; written = inr (ap (λ (m : Image). m.written) image) }

pub returns-then-is_some-clause-time : goal.returns-then-is_some-clause-time
returns-then-is_some-clause-time c =
    let s = c.args.self.now in
    let n = c.store.new.self in
    made_elapses n.first.items s.first.items s.history.items n.history.items (overwritten c.args.at c.args.bytes.now) c.in-Ok.ensures.first c.in-Ok.ensures.made

pub returns-else-is_some-clause-ok : goal.returns-else-is_some-clause-ok
returns-else-is_some-clause-ok c =
    let s = c.args.self.now in
    let n = c.store.new.self in
    let image = made_image n.first.items s.first.items s.history.items n.history.items (overwritten c.args.at c.args.bytes.now) c.in-Ok.ensures.first c.in-Ok.ensures.made in
    record {
      seen = c.in-Ok.ensures.seen;
      durable = ap (λ (m : Image). m.durable) image;
      written = ap (λ (m : Image). m.written) image;
      stopped = search rules;
    }

pub returns-else-is_some-clause-time : goal.returns-else-is_some-clause-time
returns-else-is_some-clause-time c =
    let s = c.args.self.now in
    let n = c.store.new.self in
    made_elapses n.first.items s.first.items s.history.items n.history.items (overwritten c.args.at c.args.bytes.now) c.in-Ok.ensures.first c.in-Ok.ensures.made

pub returns-then-is_some-clause-struck : goal.returns-then-is_some-clause-struck
returns-then-is_some-clause-struck c = λ tear up due.
    let s = c.args.self.now in
    let n = c.store.new.self in
    record {
      kept = λ is. made_image n.first.items s.first.items s.history.items n.history.items (overwritten c.args.at c.args.bytes.now) c.in-Ok.ensures.first c.in-Ok.ensures.made;
      lost = λ is. absurd (false≢true (sym c.stop-then-is_some.ensures.lost ∙ is));
    }

pub returns-in-Err-clause-struck : goal.returns-in-Err-clause-struck
returns-in-Err-clause-struck c = λ tear up due.
    let s = c.args.self.now in
    let n = c.store.new.self in
    record {
      kept = λ is. absurd (false≢true (sym is ∙ c.stop-in-Err.ensures.lost));
      lost = λ is. ap (λ (calls : List Call). replay n.first.items calls) c.in-Err.ensures.err.0 ∙ ap (λ (l : List ℕ). replay l s.history.items) c.in-Err.ensures.first;
    }

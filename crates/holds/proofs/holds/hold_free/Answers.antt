use Rattle.std.proofs.Common.{◌≡◌, ◌||◌, Bool, sym, ap, ◌∙◌}
use Rattle.tuples.specs.Changes.{has_tuple}
use Rattle.records.specs.Replays.{is_held, named}
use Rattle.holds.specs.Holds.{is_in}
use Rattle.holds.proofs.Apart.{free_one}
use Rattle.holds.proofs.Named.{from_ok, held_put, let_go_again}
use Rattle.holds.proofs.holds.hold_free.Goals as goal

pub returns-then-is_err-clause-same : goal.returns-then-is_err-clause-same
returns-then-is_err-clause-same c t =
    let ws = c.args.writes.now in
    let w = c.args.write.now in
    let_go_again (is_in c.let_go.new.held.keys t) (is_in c.hold.new.held.keys t) (is_in c.args.held.now.keys t) (has_tuple t (named w)) (is_held t ws)
    (c.let_go.ensures t) (c.hold.ensures.others t) (c.requires.holding.exact t) (λ has. free_one ws (named w) t c.requires.free.tuples has)

pub returns-clause-ok : goal.returns-clause-ok
returns-clause-ok c t =
    let ws = c.args.writes.now in
    let w = c.args.write.now in
    let held : is_in c.hold.new.held.keys t ≡ (has_tuple t (named w) || is_in c.args.held.now.keys t) = from_ok c.hold.result (sym c.is_err.ensures.value ∙ c.if-is_err.false) c.hold.ensures.ok t in
    held ∙ ap (λ (b : Bool). has_tuple t (named w) || b) (c.requires.holding.exact t) ∙ sym (held_put t ws w c.requires.free.new)

use Rattle.std.proofs.Common.{◌≡◌, ◌++◌, ◌∷◌, [], string_bytes, sym, ◌∙◌}
use Rattle.client.proofs.Asking.{feed_popped, line_has_one, line_taken}
use Rattle.client.proofs.ask.receive.Goals as goal

pub returns-then-eq-clause-read : goal.returns-then-eq-clause-read
returns-then-eq-clause-read g c =
    let read = c.in-Ok.ensures in
    let none : string_bytes c.new-line.result ≡ [] = c.new-line.ensures.bytes in
    let is : string_bytes c.read_line.new.buf ≡ string_bytes c.pop.new.self ++ 10 ∷ [] = feed_popped c.pop.result (string_bytes c.read_line.new.buf) (string_bytes c.pop.new.self) (sym c.eq.ensures ∙ c.if-eq.true) c.pop.ensures.bytes in
    line_taken _ _ (string_bytes c.new-line.result) (string_bytes c.read_line.new.buf) (string_bytes c.pop.new.self) none is read.bytes read.rest

pub returns-then-eq-clause-no_feed : goal.returns-then-eq-clause-no_feed
returns-then-eq-clause-no_feed g c =
    let read = c.in-Ok.ensures in
    let none : string_bytes c.new-line.result ≡ [] = c.new-line.ensures.bytes in
    let is : string_bytes c.read_line.new.buf ≡ string_bytes c.pop.new.self ++ 10 ∷ [] = feed_popped c.pop.result (string_bytes c.read_line.new.buf) (string_bytes c.pop.new.self) (sym c.eq.ensures ∙ c.if-eq.true) c.pop.ensures.bytes in
    line_has_one (string_bytes c.new-line.result) (string_bytes c.read_line.new.buf) (string_bytes c.pop.new.self) none is read.stops

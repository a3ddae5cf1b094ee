-- What waits to be written.
use Rattle.std.specs.Prelude.{ℕ, List, drop}
use Rattle.sessions.specs.declared.waiting.Waiting.{Waiting}

abbrev pub unsent : Waiting → List ℕ
unsent w = drop w.sent w.bytes.items

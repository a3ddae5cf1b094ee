-- Two writes of the first epoch, for the tests.
use Rattle.std.specs.Prelude.{[]}
use Rattle.tuples.specs.declared.entry.Entry.{Entry}

abbrev pub first_write : Entry
first_write = record { id = record { epoch = 1; number = 1 }; changes = []; conditions = [] }

abbrev pub next_write : Entry
next_write = record { id = record { epoch = 1; number = 2 }; changes = []; conditions = [] }

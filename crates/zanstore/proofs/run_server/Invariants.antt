use Rattle.std.proofs.Common.{[]}
use Rattle.zanstore.proofs.run_server.Given as goal

-- The server's contract holds whichever list this is, and what it does is the same.
abbrev pub ghost-serve : goal.ghost-serve
ghost-serve g a = []

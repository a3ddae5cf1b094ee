-- The status of words that give no settings.
use Rattle.std.specs.Prelude.{ℕ}
use Rattle.clap.specs.declared.error.kind.ErrorKind.{ErrorKind}
use Rattle.clap.specs.declared.error.kind.ErrorKind.TheVariants.{DisplayHelp, DisplayVersion}

-- the status that goes with a kind of error: who asks what there is has been told
abbrev pub status_of : ErrorKind → ℕ
status_of DisplayHelp = 0
status_of DisplayVersion = 0
status_of _ = 2

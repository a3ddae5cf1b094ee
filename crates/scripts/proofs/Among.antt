-- A line that spells a command of a flow names one that runs.
use Rattle.std.proofs.Common.{ℕ, List, length}
use Rattle.std.proofs.lemmas.Option.{slice_get_within}
use Rattle.script_text.specs.declared.command.Command.{Command}
use Rattle.script_text.specs.declared.command.Command.TheVariants.{Pass, Ask, Start, Handle, Care, Rows, Restart, Fail, Reshard}
use Rattle.script_text.specs.Lines.{Spells}
use Rattle.scripts.specs.Scripts.{IsAmong}

pub among : (id shards : ℕ) (names : List (List ℕ)) (line : List ℕ) (c : Command) → Spells id shards names line c → IsAmong c (length names)
among id shards names line Pass spells = tt
among id shards names line (Ask r) spells = tt
among id shards names line (Start name r) spells = tt
among id shards names line (Handle flow h) spells = slice_get_within names flow spells.0 spells.1
among id shards names line (Care c) spells = tt
among id shards names line (Rows shard) spells = tt
among id shards names line (Restart node) spells = tt
among id shards names line (Fail f) spells = tt
among id shards names line (Reshard count) spells = tt

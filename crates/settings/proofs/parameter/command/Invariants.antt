use Rattle.std.proofs.Common.{◌≡◌, false, map, take}
use Rattle.clap.specs.Words.{app_of}
use Rattle.clap.specs.declared.builder.command.Command.TheViews.{out-Command}
use Rattle.settings.specs.Options.{command_with, rule_for}
use Rattle.settings.proofs.parameter.command.Given as goal

abbrev pub invariant-loop-parameter : goal.invariant-loop-parameter
invariant-loop-parameter l = record {
  app : app_of l.command ≡ command_with l.manual.name.now (map rule_for (take l.parameter-index l.parameters));
  local : (out-Command l.command).has_globals ≡ false;
}

use Rattle.std.proofs.Common.{◌≡◌, ◌∙◌, ◌||◌, ◌+◌, ◌++◌, ◌∷◌, [], List, ap, ap₂, map, sym, take, arith}
use Rattle.std.proofs.lemmas.List.{map_more}
use Rattle.clap.specs.Simple.{App, with_rule}
use Rattle.clap.specs.Walk.{Rule}
use Rattle.clap.specs.Words.{rule_of}
use Rattle.settings.specs.Options.{command_with, rule_for}
use Rattle.settings.proofs.parameter.command.Goals as goal

pub loop-parameter-preserved : goal.loop-parameter-preserved
loop-parameter-preserved c =
    let added = c.in_ok-command.ensures in
    let seen = map rule_for (take c.loop-parameter.parameter-index c.args.parameters.now) in
    let more : map rule_for (take (c.loop-parameter.parameter-index + 1) c.args.parameters.now) ≡ seen ++ rule_of c.argument.result ∷ [] =
    map_more rule_for c.args.parameters.now c.loop-parameter.parameter-index _ (omega arith) ∙ ap (λ (r : Rule). seen ++ r ∷ []) (sym c.argument.ensures.rule) in
    record {
      app =
          added.shape c.argument.ensures.local
          ∙ ap (λ (a : App). with_rule a (rule_of c.argument.result)) c.loop-parameter.invariant.app
          ∙ ap (command_with c.args.manual.name.now) (sym {A = List Rule} more);
      local = added.globals ∙ ap₂ (λ a b. a || b) c.loop-parameter.invariant.local c.argument.ensures.local;
    }

-- What a line without a fault gives `sim`, read as numbers.
use Rattle.std.proofs.Common.{rules, ◌≤◌, ◌∙◌, ℕ, sym, map, subst, string_bytes}
use Rattle.std.specs.Str.Parse.{ExplainsUnsignedError, HasUnsignedDigitsIfOk, ParsesUnsigned}
use Rattle.tuples.specs.Limits.{max_shards}
use Rattle.settings.specs.declared.limits.TheConstants.{MAX_STORE}
use Rattle.clap.specs.Words.{FailsBy, fault_of}
use Rattle.settings.specs.CommandLine.{program}
use Rattle.settings.proofs.Lines.{refused_for_memory}
use Rattle.settings.proofs.Asked.{asks_for, gives_below, shards_got, some_is, some_same, store_got}
use Rattle.settings.proofs.sim.Settings.parse.Goals as goal

pub unwrap-store-requires : goal.unwrap-store-requires
unwrap-store-requires c =
    let below = gives_below _ (map string_bytes c.args.words.now) c.in_ok-matches.matches c.subcommand.result c.unwrap.result c.in_ok-command.ensures.ok c.in_ok-matches.ensures.kinds c.in_ok-matches.ensures.matches c.subcommand.ensures.rows c.unwrap.ensures in
    let got = store_got _ (λ bs r. ParsesUnsigned 64 10 bs r × ExplainsUnsignedError 10 bs r × HasUnsignedDigitsIfOk bs r) _ _ c.get_one.result below c.get_one.ensures.value (λ u x g. g.0) in
    some_is c.get_one.result _ got.0

pub unwrap-shards-requires : goal.unwrap-shards-requires
unwrap-shards-requires c =
    let below = gives_below _ (map string_bytes c.args.words.now) c.in_ok-matches.matches c.subcommand.result c.unwrap.result c.in_ok-command.ensures.ok c.in_ok-matches.ensures.kinds c.in_ok-matches.ensures.matches c.subcommand.ensures.rows c.unwrap.ensures in
    let got = shards_got _ (λ bs r. ParsesUnsigned 8 10 bs r × ExplainsUnsignedError 10 bs r × HasUnsignedDigitsIfOk bs r) _ _ c.get_one-2.result below c.get_one-2.ensures.value (λ u x g. g.0) in
    some_is c.get_one-2.result _ got.0

pub invariant_of-result : goal.invariant_of-result
invariant_of-result c =
    let below = gives_below _ (map string_bytes c.args.words.now) c.in_ok-matches.matches c.subcommand.result c.unwrap.result c.in_ok-command.ensures.ok c.in_ok-matches.ensures.kinds c.in_ok-matches.ensures.matches c.subcommand.ensures.rows c.unwrap.ensures in
    let store = store_got _ (λ bs r. ParsesUnsigned 64 10 bs r × ExplainsUnsignedError 10 bs r × HasUnsignedDigitsIfOk bs r) _ _ c.get_one.result below c.get_one.ensures.value (λ u x g. g.0) in
    record { fits = subst (λ (n : ℕ). n ≤ MAX_STORE) (some_same c.get_one.result _ c.unwrap-store.result store.0 c.unwrap-store.ensures) store.1 }

pub of-requires-clause-some : goal.of-requires-clause-some
of-requires-clause-some c =
    let below = gives_below _ (map string_bytes c.args.words.now) c.in_ok-matches.matches c.subcommand.result c.unwrap.result c.in_ok-command.ensures.ok c.in_ok-matches.ensures.kinds c.in_ok-matches.ensures.matches c.subcommand.ensures.rows c.unwrap.ensures in
    let shards = shards_got _ (λ bs r. ParsesUnsigned 8 10 bs r × ExplainsUnsignedError 10 bs r × HasUnsignedDigitsIfOk bs r) _ _ c.get_one-2.result below c.get_one-2.ensures.value (λ u x g. g.0) in
    subst (λ (n : ℕ). 1 ≤ n) (some_same c.get_one-2.result _ c.unwrap-shards.result shards.0 c.unwrap-shards.ensures) shards.1

pub of-requires-clause-few : goal.of-requires-clause-few
of-requires-clause-few c =
    let below = gives_below _ (map string_bytes c.args.words.now) c.in_ok-matches.matches c.subcommand.result c.unwrap.result c.in_ok-command.ensures.ok c.in_ok-matches.ensures.kinds c.in_ok-matches.ensures.matches c.subcommand.ensures.rows c.unwrap.ensures in
    let shards = shards_got _ (λ bs r. ParsesUnsigned 8 10 bs r × ExplainsUnsignedError 10 bs r × HasUnsignedDigitsIfOk bs r) _ _ c.get_one-2.result below c.get_one-2.ensures.value (λ u x g. g.0) in
    subst (λ (n : ℕ). n ≤ max_shards) (some_same c.get_one-2.result _ c.unwrap-shards.result shards.0 c.unwrap-shards.ensures) shards.2

pub returns-clause-kinds : goal.returns-clause-kinds
returns-clause-kinds c =
    let below = gives_below _ (map string_bytes c.args.words.now) c.in_ok-matches.matches c.subcommand.result c.unwrap.result c.in_ok-command.ensures.ok c.in_ok-matches.ensures.kinds c.in_ok-matches.ensures.matches c.subcommand.ensures.rows c.unwrap.ensures in
    below.right

pub returns-clause-asked : goal.returns-clause-asked
returns-clause-asked c =
    let below = gives_below _ (map string_bytes c.args.words.now) c.in_ok-matches.matches c.subcommand.result c.unwrap.result c.in_ok-command.ensures.ok c.in_ok-matches.ensures.kinds c.in_ok-matches.ensures.matches c.subcommand.ensures.rows c.unwrap.ensures in
    let store = store_got _ (λ bs r. ParsesUnsigned 64 10 bs r × ExplainsUnsignedError 10 bs r × HasUnsignedDigitsIfOk bs r) _ _ c.get_one.result below c.get_one.ensures.value (λ u x g. g.0) in
    let shards = shards_got _ (λ bs r. ParsesUnsigned 8 10 bs r × ExplainsUnsignedError 10 bs r × HasUnsignedDigitsIfOk bs r) _ _ c.get_one-2.result below c.get_one-2.ensures.value (λ u x g. g.0) in
    asks_for (map string_bytes c.args.words.now) _ below c.unwrap-store.result c.of.result
    (sym (some_same c.get_one.result _ c.unwrap-store.result store.0 c.unwrap-store.ensures))
    (c.of.ensures ∙ sym (some_same c.get_one-2.result _ c.unwrap-shards.result shards.0 c.unwrap-shards.ensures))

pub returns-in_err-matches-clause-taken : goal.returns-in_err-matches-clause-taken
returns-in_err-matches-clause-taken c =
    let fails : FailsBy (fault_of program (map string_bytes c.args.words.now)) c.from_residual-in_err-matches.result = search rules in
    refused_for_memory c.from_residual-in_err-matches.result (map string_bytes c.args.words.now) fails

use Rattle.std.proofs.Common.{sym, ◌∙◌}
use Rattle.std.proofs.lemmas.Bool.{both_ways}
use Rattle.script_text.specs.Words.{texts}
use Rattle.script_text.proofs.Causing.{no_changes, no_conditions, no_parts, parts_words, shaped}
use Rattle.script_text.proofs.shapes.write_of.Goals.{then-is_empty-via-then-is_empty, then-is_empty-via-else-is_empty+then-not-are_asked}
use Rattle.script_text.proofs.shapes.write_of.Goals as goal

pub returns-in_default : goal.returns-in_default
returns-in_default c =
    let cut = c.split_changes.ensures in
    no_conditions (texts c.args.words.now) (texts c.split_changes.result.0.now) (texts c.split_changes.result.1.now) cut.whole cut.marked cut.behind c.in_default.ensures

pub returns-then-is_empty : goal.returns-then-is_empty
returns-then-is_empty c =
    let cut = c.split_changes.ensures in
    no_parts (texts c.args.words.now) (texts c.split_changes.result.0.now) (texts c.split_changes.result.1.now) (texts c.in-Some.conditions.now) cut.whole cut.marked cut.behind c.in-Some.ensures (
    elim c.then-is_empty.branch [
      | then-is_empty-via-then-is_empty w ↦ no_changes c.split_changes.result.0.now (texts c.in-Some.conditions.now) (sym c.is_empty.ensures ∙ w.if-is_empty.true)
      | then-is_empty-via-else-is_empty+then-not-are_asked w ↦ λ parts. both_ways w.are_asked.result w.if-not-are_asked.true (w.are_asked.ensures.1 parts.asked)
    ]
    )

pub returns : goal.returns
returns c =
    let cut = c.split_changes.ensures in (
      parts_words (texts c.args.words.now) (texts c.split_changes.result.0.now) (texts c.split_changes.result.1.now) (texts c.in-Some.conditions.now) cut.whole c.in-Some.ensures,
      shaped c.split_changes.result.0.now c.in-Some.conditions.now c.is_empty.result cut.marked c.is_empty.ensures c.if-is_empty.false (c.are_asked.ensures.0 c.if-not-are_asked.false),
    )

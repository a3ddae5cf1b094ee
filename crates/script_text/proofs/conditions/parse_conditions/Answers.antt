use Rattle.std.proofs.Common.{List, map, sym, subst, ap, ◌∙◌, arith}
use Rattle.std.specs.List.{All}
use Rattle.std.proofs.lemmas.Result.{err_from_is_err_and}
use Rattle.std.proofs.lemmas.List.Elements.{All-push}
use Rattle.tuples.specs.declared.change.Condition.{Condition}
use Rattle.tuples.specs.Changes.{conditioned}
use Rattle.tuples.specs.Texts.{IsTuple}
use Rattle.tuples.proofs.Kept.{valid_pushed}
use Rattle.script_text.specs.Texts.{IsWanted, condition_text}
use Rattle.script_text.specs.Words.{AreWanted}
use Rattle.script_text.proofs.Parts.{conditions_refused}
use Rattle.script_text.proofs.conditions.parse_conditions.Goals as goal
use Rattle.json_lines.proofs.Values.{map_more}

pub returns-in_err-parse_condition : goal.returns-in_err-parse_condition
returns-in_err-parse_condition c =
    let p = err_from_is_err_and c.from_residual-in_err-parse_condition.result c.from_residual-in_err-parse_condition.ensures.1 in
    rw (p.1, p.2) (conditions_refused c.args.words.now c.loop-word.word-index _ _ (omega arith) c.in_err-parse_condition.ensures)

pub loop-word-preserved : goal.loop-word-preserved
loop-word-preserved c =
    let conditions = c.loop-word.conditions.items in
    let condition = c.in_ok-parse_condition.field-0 in
    let items = c.push_reserved.ensures.items in
    let read = c.in_ok-parse_condition.ensures in (
      map_more (λ w. w.now) condition_text c.args.words.now conditions c.loop-word.word-index _ condition (omega arith) c.loop-word.invariant.0 read.2 ∙ ap (map condition_text) (sym {A = List Condition} items),
      subst (λ (x : List Condition). All IsTuple (conditioned x)) (sym {A = List Condition} items) (valid_pushed (λ (x : Condition). x.tuple) conditions condition c.loop-word.invariant.1 read.0),
      subst (λ (x : List Condition). AreWanted x) (sym {A = List Condition} items) (All-push (λ (x : Condition). IsWanted x.want) conditions condition c.loop-word.invariant.2 read.1),
      omega arith,
      omega arith,
    )

use Rattle.std.proofs.Common.{ap, map, sym, ◌∙◌, List, ℕ}
use Rattle.std.specs.List.{flat_map}
use Rattle.json_lines.proofs.Growing.{grown_as, grown_then}
use Rattle.script_text.specs.PrintedTexts.{answer_text, row_lines, told_line, version_line}
use Rattle.script_text.proofs.printed.push_answer.Goals as goal

pub returns-in-Written : goal.returns-in-Written
returns-in-Written c = grown_as (ap (answer_text c.args.store) (sym c.in-Written.is)) c.push_told.ensures

pub returns-in-Rows : goal.returns-in-Rows
returns-in-Rows c = grown_as (ap (answer_text c.args.store) (sym c.in-Rows.is)) (grown_then c.push_told-in-Rows.ensures (grown_as (ap (λ sets. row_lines 1 (map (λ set. set.items) sets)) c.deref.ensures.value) c.push_sets.ensures))

pub returns-in-Membership : goal.returns-in-Membership
returns-in-Membership c =
    grown_as (ap (λ (w : List ℕ). told_line w c.args.store c.in-Membership.membership.place) c.membership_word-word.ensures ∙ ap (answer_text c.args.store) (sym c.in-Membership.is)) c.push_told-in-Membership.ensures

pub returns-in-Events : goal.returns-in-Events
returns-in-Events c = grown_as (ap (answer_text c.args.store) (sym c.in-Events.is)) (grown_then (grown_as (ap (flat_map version_line) c.deref-in-Events.ensures.value) c.push_versions.ensures) c.push_told-in-Events.ensures)

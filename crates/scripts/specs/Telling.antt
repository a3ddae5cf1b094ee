-- What is printed of what a store tells.
use Rattle.std.specs.Prelude.{ℕ, List, [], ◌∷◌, ◌++◌, map, codes, Option, Some, None}
use Rattle.std.specs.List.{flat_map}
use Rattle.std.specs.Fmt.{decimal}
use Rattle.names.specs.declared.call_name.CallName.{CallName}
use Rattle.names.specs.Names.{call_text}
use Rattle.care_flow.specs.declared.end.Resolved.{Resolved}
use Rattle.care_flow.specs.declared.end.Resolved.TheVariants as resolved
use Rattle.cluster.specs.declared.event.Answer.{Answer}
use Rattle.cluster.specs.declared.event.Answer.TheVariants as ended
use Rattle.cluster.specs.declared.event.What.{What}
use Rattle.cluster.specs.declared.event.What.TheVariants.{Began, Next, Ended, Up, Refused}
use Rattle.script_text.specs.PrintedTexts.{id_text, membership_word, named_line, refusal_line, resolved_line, row_lines, told_line, version_line}

-- what became of a write that was in doubt
abbrev pub resolved_text : Resolved → List ℕ
resolved_text (resolved.Committed id place) = codes "commit " ++ id_text id ++ 32 ∷ decimal place ++ 10 ∷ []
resolved_text (resolved.Aborted id) = resolved_line (codes "abort ") id
resolved_text (resolved.Undecided id) = resolved_line (codes "undecided ") id

abbrev pub done_line : List ℕ
done_line = codes "done" ++ 10 ∷ []

abbrev pub up_line : List ℕ
up_line = codes "up" ++ 10 ∷ []

abbrev pub set_line : List ℕ
set_line = codes "set" ++ 10 ∷ []

-- how a flow that was not refused ended: places are written as the tokens of the store with this id
abbrev pub end_text : ℕ → Answer → List ℕ
end_text id (ended.Wrote place) = told_line (codes "ok") id place
end_text id (ended.Selected place sets) = told_line (codes "at") id place ++ row_lines 1 (map (λ set. set.items) sets.items)
end_text id (ended.Checked place is_member) = told_line (membership_word is_member) id place
end_text id (ended.Listed heartbeat events) = flat_map version_line events.items ++ told_line (codes "heartbeat") id heartbeat
end_text id (ended.Resolved found) = flat_map resolved_text found.items ++ done_line
end_text id ended.Done = done_line

abbrev pub next_line : CallName → List ℕ
next_line call = named_line (codes "next ") (call_text call)

-- what a step tells; a flow that has begun is told by its name, not its slot
abbrev pub told_text : ℕ → Option What → List ℕ
told_text id None = []
told_text id (Some (Began slot)) = []
told_text id (Some (Next call)) = next_line call
told_text id (Some (Ended end)) = end_text id end
told_text id (Some Up) = up_line
told_text id (Some (Refused e)) = refusal_line e

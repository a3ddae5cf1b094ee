-- What is printed, byte by byte.
use Rattle.std.specs.Prelude.{◌+◌, ℕ, Bool, true, false, List, [], ◌∷◌, ◌++◌, map, codes}
use Rattle.std.specs.List.{flat_map}
use Rattle.std.specs.Fmt.{decimal}
use Rattle.refusal.specs.declared.refusal.Refusal.{Refusal}
use Rattle.refusal.specs.Refusals.{name_of, number_of}
use Rattle.tuples.specs.declared.change.Change.{Change}
use Rattle.tuples.specs.declared.change.Change.TheVariants.{Touch, Delete}
use Rattle.tuples.specs.declared.entry.WriteId.{WriteId}
use Rattle.tuples.specs.declared.tuple.Tuple.{Tuple}
use Rattle.tuples.specs.declared.version.Version.{Version}
use Rattle.tuples.specs.Texts.{tuple_text}
use Rattle.zookie.specs.Zookies.{zookie_text}
use Rattle.json_lines.specs.declared.answer.Answer.{Answer}
use Rattle.json_lines.specs.declared.answer.Answer.TheVariants as answer
use Rattle.script_text.specs.declared.printed.Printed.{Printed}
use Rattle.script_text.specs.declared.printed.Printed.TheVariants as printed

-- a word and the token of a place
abbrev pub told_line : List ℕ → ℕ → ℕ → List ℕ
told_line word store place = word ++ 32 ∷ zookie_text store place ++ 10 ∷ []

-- the number of a tupleset, and a tuple of it
abbrev pub row_line : ℕ → Tuple → List ℕ
row_line number t = decimal number ++ 32 ∷ tuple_text t ++ 10 ∷ []

-- the tuples of each tupleset, the first of which has this number
abbrev pub row_lines : ℕ → List (List Tuple) → List ℕ
row_lines number [] = []
row_lines number (rows ∷ more) = flat_map (row_line number) rows ++ row_lines (number + 1) more

-- + or - and the tuple
abbrev pub change_text : Change → List ℕ
change_text (Touch t) = 43 ∷ tuple_text t
change_text (Delete t) = 45 ∷ tuple_text t

-- the place of a version, and what it makes of its tuple
abbrev pub version_line : Version → List ℕ
version_line v = decimal v.place ++ 32 ∷ change_text v.change ++ 10 ∷ []

-- the epoch and the number of a write
abbrev pub id_text : WriteId → List ℕ
id_text id = decimal id.epoch ++ 46 ∷ decimal id.number

abbrev pub membership_word : Bool → List ℕ
membership_word true = codes "yes"
membership_word false = codes "no"

-- places are written as the tokens of this store
abbrev pub answer_text : ℕ → Answer → List ℕ
answer_text store (answer.Written w) = told_line (codes "ok") store w.place
answer_text store (answer.Rows r) = told_line (codes "at") store r.place ++ row_lines 1 (map (λ set. set.items) r.sets.items)
answer_text store (answer.Membership m) = told_line (membership_word m.is_member) store m.place
answer_text store (answer.Events e) = flat_map version_line e.events.items ++ told_line (codes "heartbeat") store e.heartbeat

-- a word, with the space after it, and a name
abbrev pub named_line : List ℕ → List ℕ → List ℕ
named_line word name = word ++ name ++ 10 ∷ []

-- and the id of a write
abbrev pub resolved_line : List ℕ → WriteId → List ℕ
resolved_line word id = word ++ id_text id ++ 10 ∷ []

-- the number of a refusal, and its name
abbrev pub refusal_line : Refusal → List ℕ
refusal_line e = codes "refused " ++ decimal (number_of e) ++ 32 ∷ name_of e ++ 10 ∷ []

abbrev pub printed_text : ℕ → Printed → List ℕ
printed_text store (printed.Answer a) = answer_text store a.now
printed_text store (printed.Started name) = named_line (codes "started ") name.now
printed_text store (printed.Next call) = named_line (codes "next ") call.now
printed_text store (printed.Cancelled name) = named_line (codes "cancelled ") name.now
printed_text store printed.Done = codes "done" ++ 10 ∷ []
printed_text store (printed.Committed id place) = codes "commit " ++ id_text id ++ 32 ∷ decimal place ++ 10 ∷ []
printed_text store (printed.Aborted id) = resolved_line (codes "abort ") id
printed_text store (printed.Undecided id) = resolved_line (codes "undecided ") id
printed_text store (printed.Versions vs) = flat_map version_line vs.now
printed_text store printed.Up = codes "up" ++ 10 ∷ []
printed_text store printed.Set = codes "set" ++ 10 ∷ []
printed_text store (printed.Refused e) = refusal_line e

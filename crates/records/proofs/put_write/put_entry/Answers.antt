use Rattle.std.proofs.Common.{◌≡◌, ℕ, List, Result, ◌∷◌, ◌++◌, length, false}
use Rattle.std.specs.Global.{Vec}
use Rattle.std.specs.List.{flat_map}
use Rattle.tuples.specs.declared.change.Change.{Change}
use Rattle.tuples.specs.declared.change.Condition.{Condition}
use Rattle.tuples.specs.declared.entry.Entry.{Entry}
use Rattle.records.specs.Format.{id_bytes, change_bytes, condition_bytes, entry_bytes}
use Rattle.records.specs.Putting.{Puts}
use Rattle.records.proofs.Putting.{HasPut, has_more, put_more}
use Rattle.records.proofs.put_write.put_entry.Goals as goal

abbrev changes_bytes : List Change → List ℕ
changes_bytes cs = length cs ∷ flat_map change_bytes cs

abbrev conditions_bytes : List Condition → List ℕ
conditions_bytes ds = length ds ∷ flat_map (condition_bytes false) ds

entry_put : {T E : Type 0} (o a b n : Vec ℕ) (w : Entry) (cs : List Change) (ds : List Condition) (r : Result T E) → cs ≡ w.changes → ds ≡ w.conditions
    → HasPut o a (id_bytes w.id) → HasPut a b (changes_bytes cs) → Puts b n (conditions_bytes ds) r → Puts o n (entry_bytes false w) r
entry_put o a b n w cs ds r e f p q h =
    let changes = rw e at q in
    let conditions = rw f at h in
    put_more o b n (id_bytes w.id ++ changes_bytes w.changes) (conditions_bytes w.conditions) r (has_more o a b (id_bytes w.id) (changes_bytes w.changes) p changes) conditions

pub returns : goal.returns
returns c =
    entry_put c.args.out.now c.put_write_id.new.out c.put_changes.new.out c.put_conditions.new.out c.args.entry.now c.as_slice.result.now c.as_slice-2.result.now c.put_conditions.result c.as_slice.ensures c.as_slice-2.ensures c.in_ok-put_write_id.ensures c.in_ok-put_changes.ensures c.put_conditions.ensures

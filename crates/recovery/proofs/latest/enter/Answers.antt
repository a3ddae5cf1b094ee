use Rattle.std.proofs.Common.{◌≡◌, ◌++◌, ◌∷◌, [], Bool, List, Option, Some, take, sym, ◌∙◌, ap, if◌then◌else◌}
use Rattle.std.proofs.lemmas.List.{take_more}
use Rattle.std.specs.BTreeMap.{get}
use Rattle.tuples.specs.declared.tuple.Tuple.{Tuple}
use Rattle.tuples.specs.declared.change.Change.{Change}
use Rattle.tuples.specs.Changes.{tuple_of}
use Rattle.tuples.specs.Order.{tuple_cmp, tuple_eq}
use Rattle.recovery.specs.declared.latest.LastChange.{LastChange}
use Rattle.recovery.specs.Latest.{last_change}
use Rattle.recovery.proofs.LastChanges.{changed_by, index_more, last_change_more}
use Rattle.recovery.proofs.latest.enter.Goals as goal

pub loop-change-preserved : goal.loop-change-preserved
loop-change-preserved c = λ t.
    let place = c.args.place in
    let changes = c.args.changes.now in
    let i = c.loop-change.change-index in
    let d = c.change-item.result in
    let u = tuple_of d in
    let key : c.in_ok-copied.field-0 ≡ u = c.in_ok-copied.ensures ∙ c.tuple.ensures in
    let was = get tuple_cmp c.args.latest.now t in
    index_more c.loop-change.latest c.insert.new.self c.in_ok-copied.field-0 t (record { place = place; is_there = c.is_touch.result }) (c.in-Ok.ensures.updates.0 t)
    ∙ ap (λ (x : Tuple). if tuple_eq t x then Some (record { place = place; is_there = c.is_touch.result }) else get tuple_cmp c.loop-change.latest t) key
    ∙ ap (λ (b : Bool). if tuple_eq t u then Some (record { place = place; is_there = b }) else get tuple_cmp c.loop-change.latest t) c.is_touch.ensures
    ∙ ap (λ (o : Option LastChange). if tuple_eq t u then Some (changed_by place d) else o) (c.loop-change.invariant t)
    ∙ sym (last_change_more place t d (take i changes) was)
    ∙ ap (λ (l : List Change). last_change place l t was) (ap (λ (x : Change). take i changes ++ x ∷ []) c.change-item.is ∙ sym (take_more changes i d c.loop-change-test.true))

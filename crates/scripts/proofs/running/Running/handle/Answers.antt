use Rattle.std.proofs.Common.{◌≡◌, ◌<◌, ◌∙◌, ◌++◌, ℕ, List, OnErr, OnOk, Some, None, ap, arith, inr, length, refl, subst, sym}
use Rattle.std.proofs.lemmas.Option.{get_or_from_slice_get, slice_get_read}
use Rattle.std.proofs.lemmas.Result.{on_err_weaker}
use Rattle.script_text.specs.declared.flow.Handling.{Handling}
use Rattle.script_text.specs.declared.flow.Handling.TheVariants as handling
use Rattle.cluster.specs.declared.step.Step.TheVariants.{Turn}
use Rattle.scripts.specs.Going.{Goes}
use Rattle.scripts.specs.Refusing.{HandlesNot}
use Rattle.scripts.specs.Scripts.{Cancels, Handles, RunningView}
use Rattle.scripts.proofs.Within.{map_ok}
use Rattle.scripts.proofs.running.Running.handle.Goals as goal

pub returns-in_ok-cancel-in-Cancel-clause-ok : goal.returns-in_ok-cancel-in-Cancel-clause-ok
returns-in_ok-cancel-in-Cancel-clause-ok g c =
    let takes = g.S.Store.takes in
    let nexts = g.S.Store.nexts in
    let done = c.in_ok-cancel-in-Cancel.ensures in
    let new = c.tell_cancelled.new.self in
    let Told : RunningView g.row.S.Denot → Handling → Type 0 = λ old h. OnOk c.tell_cancelled.result ((text : List ℕ) × Handles takes nexts c.args.id c.args.flow h old text new × (c.tell_cancelled.new.out.items ≡ c.args.out.now.items ++ text)) in
    let Gone : g.row.S.Denot → Type 0 = λ s. Cancels takes nexts c.index-slot.result.now c.self.inside.store s in
    let named : length c.self.inside.names.items ≡ length c.args.self.now.names = ap (λ (v : RunningView g.row.S.Denot). length v.names) c.self.view_is in
    let within : c.args.flow < length c.self.inside.slots.items = omega (arith, c.requires.flow, named, c.self.invariant) in
    let at = slice_get_read c.self.inside.slots.items (length c.self.inside.slots.items) c.args.flow c.index-slot.result.now refl within c.index-slot.ensures in
    let is = get_or_from_slice_get c.self.inside.slots.items c.args.flow c.index-slot.result.now 0 at in
    let In : ℕ → Type 0 = λ slot. Cancels takes nexts slot c.self.inside.store c.tell_cancelled.new.self.store in
    let gone = subst In (sym is) (subst Gone (sym c.tell_cancelled.ensures.same) done.cancels) in
    subst (λ (h : Handling). Told c.args.self.now h) (sym c.in-Cancel.is) (subst (λ (old : RunningView g.row.S.Denot). Told old handling.Cancel) c.self.view_is
    (map_ok c.tell_cancelled.result _ _ c.tell_cancelled.ensures.ok (λ t. (t.0, (gone, t.1), t.2 ∙ ap (λ (b : List ℕ). b ++ t.0) done.same))))

pub returns-in_ok-told-in-Turn-clause-refused : goal.returns-in_ok-told-in-Turn-clause-refused
returns-in_ok-told-in-Turn-clause-refused g c =
    let takes = g.S.Store.takes in
    let nexts = g.S.Store.nexts in
    let new = c.tell.new.self in
    let Not : RunningView g.row.S.Denot → Handling → Type 0 = λ old h. OnErr c.tell.result (HandlesNot takes nexts c.args.id c.args.flow h old new) in
    let named : length c.self.inside.names.items ≡ length c.args.self.now.names = ap (λ (v : RunningView g.row.S.Denot). length v.names) c.self.view_is in
    let within : c.args.flow < length c.self.inside.slots.items = omega (arith, c.requires.flow, named, c.self.invariant) in
    let at = slice_get_read c.self.inside.slots.items (length c.self.inside.slots.items) c.args.flow c.index-slot.result.now refl within c.index-slot.ensures in
    let is = get_or_from_slice_get c.self.inside.slots.items c.args.flow c.index-slot.result.now 0 at in
    let Done : ℕ → g.row.S.Denot → Type 0 = λ slot s. takes c.self.inside.store (Turn slot) c.in_ok-told-in-Turn.told s in
    let done = subst (λ (slot : ℕ). Done slot new.store) (sym is) (subst (λ (s : g.row.S.Denot). Done c.index-slot.result.now s) (sym c.tell.ensures.same) c.in_ok-told-in-Turn.ensures.ok) in
    subst (λ (h : Handling). Not c.args.self.now h) (sym c.in-Turn.is) (subst (λ (old : RunningView g.row.S.Denot). Not old handling.Turn) c.self.view_is
    (on_err_weaker c.tell.result (λ t. inr (t.0, (c.in_ok-told-in-Turn.told, done, t.1), t.2)) c.tell.ensures.refused))

pub returns-in_ok-told-in-Until-clause-refused : goal.returns-in_ok-told-in-Until-clause-refused
returns-in_ok-told-in-Until-clause-refused g c =
    let takes = g.S.Store.takes in
    let nexts = g.S.Store.nexts in
    let new = c.tell-in-Until.new.self in
    let Not : RunningView g.row.S.Denot → Handling → Type 0 = λ old h. OnErr c.tell-in-Until.result (HandlesNot takes nexts c.args.id c.args.flow h old new) in
    let named : length c.self.inside.names.items ≡ length c.args.self.now.names = ap (λ (v : RunningView g.row.S.Denot). length v.names) c.self.view_is in
    let within : c.args.flow < length c.self.inside.slots.items = omega (arith, c.requires.flow, named, c.self.invariant) in
    let at = slice_get_read c.self.inside.slots.items (length c.self.inside.slots.items) c.args.flow c.index-slot.result.now refl within c.index-slot.ensures in
    let is = get_or_from_slice_get c.self.inside.slots.items c.args.flow c.index-slot.result.now 0 at in
    let Done : ℕ → g.row.S.Denot → Type 0 = λ slot s. Goes takes nexts slot (Some c.in-Until.call) c.self.inside.store c.in_ok-told-in-Until.told s in
    let done = subst (λ (slot : ℕ). Done slot new.store) (sym is) (subst (λ (s : g.row.S.Denot). Done c.index-slot.result.now s) (sym c.tell-in-Until.ensures.same) c.in_ok-told-in-Until.ensures.goes) in
    subst (λ (h : Handling). Not c.args.self.now h) (sym c.in-Until.is) (subst (λ (old : RunningView g.row.S.Denot). Not old (handling.Until c.in-Until.call)) c.self.view_is
    (on_err_weaker c.tell-in-Until.result (λ t. inr (t.0, (c.in_ok-told-in-Until.told, done, t.1), t.2)) c.tell-in-Until.ensures.refused))

pub returns-in_ok-told-in-Run-clause-refused : goal.returns-in_ok-told-in-Run-clause-refused
returns-in_ok-told-in-Run-clause-refused g c =
    let takes = g.S.Store.takes in
    let nexts = g.S.Store.nexts in
    let new = c.tell-in-Run.new.self in
    let Not : RunningView g.row.S.Denot → Handling → Type 0 = λ old h. OnErr c.tell-in-Run.result (HandlesNot takes nexts c.args.id c.args.flow h old new) in
    let named : length c.self.inside.names.items ≡ length c.args.self.now.names = ap (λ (v : RunningView g.row.S.Denot). length v.names) c.self.view_is in
    let within : c.args.flow < length c.self.inside.slots.items = omega (arith, c.requires.flow, named, c.self.invariant) in
    let at = slice_get_read c.self.inside.slots.items (length c.self.inside.slots.items) c.args.flow c.index-slot.result.now refl within c.index-slot.ensures in
    let is = get_or_from_slice_get c.self.inside.slots.items c.args.flow c.index-slot.result.now 0 at in
    let Done : ℕ → g.row.S.Denot → Type 0 = λ slot s. Goes takes nexts slot None c.self.inside.store c.in_ok-told-in-Run.told s in
    let done = subst (λ (slot : ℕ). Done slot new.store) (sym is) (subst (λ (s : g.row.S.Denot). Done c.index-slot.result.now s) (sym c.tell-in-Run.ensures.same) c.in_ok-told-in-Run.ensures.goes) in
    subst (λ (h : Handling). Not c.args.self.now h) (sym c.in-Run.is) (subst (λ (old : RunningView g.row.S.Denot). Not old handling.Run) c.self.view_is
    (on_err_weaker c.tell-in-Run.result (λ t. inr (t.0, (c.in_ok-told-in-Run.told, done, t.1), t.2)) c.tell-in-Run.ensures.refused))

pub returns-in_ok-cancel-in-Cancel-clause-refused : goal.returns-in_ok-cancel-in-Cancel-clause-refused
returns-in_ok-cancel-in-Cancel-clause-refused g c =
    let takes = g.S.Store.takes in
    let nexts = g.S.Store.nexts in
    let new = c.tell_cancelled.new.self in
    let Not : RunningView g.row.S.Denot → Handling → Type 0 = λ old h. OnErr c.tell_cancelled.result (HandlesNot takes nexts c.args.id c.args.flow h old new) in
    let named : length c.self.inside.names.items ≡ length c.args.self.now.names = ap (λ (v : RunningView g.row.S.Denot). length v.names) c.self.view_is in
    let within : c.args.flow < length c.self.inside.slots.items = omega (arith, c.requires.flow, named, c.self.invariant) in
    let at = slice_get_read c.self.inside.slots.items (length c.self.inside.slots.items) c.args.flow c.index-slot.result.now refl within c.index-slot.ensures in
    let is = get_or_from_slice_get c.self.inside.slots.items c.args.flow c.index-slot.result.now 0 at in
    let Done : ℕ → g.row.S.Denot → Type 0 = λ slot s. Cancels takes nexts slot c.self.inside.store s in
    let done = subst (λ (slot : ℕ). Done slot new.store) (sym is) (subst (λ (s : g.row.S.Denot). Done c.index-slot.result.now s) (sym c.tell_cancelled.ensures.same) c.in_ok-cancel-in-Cancel.ensures.cancels) in
    subst (λ (h : Handling). Not c.args.self.now h) (sym c.in-Cancel.is) (subst (λ (old : RunningView g.row.S.Denot). Not old handling.Cancel) c.self.view_is
    (on_err_weaker c.tell_cancelled.result (λ t. inr (t.0, (done, t.1), t.2)) c.tell_cancelled.ensures.refused))

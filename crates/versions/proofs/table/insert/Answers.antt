use Rattle.tuples.specs.Order.{tuple_cmp}
use Rattle.std.proofs.Common.{◌≡◌, ◌++◌, ◌∷◌, [], Some, cond, sym, subst, ap, ◌∙◌, rules}
use Rattle.std.specs.List.{AllByRecursion}
use Rattle.std.specs.Map.{keys_of}
use Rattle.tuples.specs.Texts.{IsTuple}
use Rattle.std.specs.BTreeMap.{is_at}
use Rattle.tuples.specs.declared.tuple.Tuple.{Tuple}
use Rattle.versions.specs.Rows.{found, rows_in}
use Rattle.versions.proofs.Index.{index_back, index_changed}
use Rattle.versions.proofs.Tables.{Entries, all_inserted, more_alike}
use Rattle.versions.proofs.table.insert.Goals as goal

pub returns-in-Ok-clause-table : goal.returns-in-Ok-clause-table
returns-in-Ok-clause-table c =
    let es : Entries = c.args.table.now.entries in
    let key : c.args.key ≡ c.args.tuple.now = c.requires.key in
    record {
      in_order = c.insert-2.ensures.ordered;
      spelled = subst (λ (l : Entries). AllByRecursion IsTuple (keys_of l)) (sym c.in-Ok.ensures.entries)
          (all_inserted IsTuple c.args.key c.of-own.result es (subst IsTuple (sym key) c.keeps_grammar.ensures) c.requires.table.spelled);
    }

pub returns-in-Ok-clause-index : goal.returns-in-Ok-clause-index
returns-in-Ok-clause-index c =
    let t = c.args.tuple.now in
    let es : Entries = c.args.table.now.entries in
    let key : c.args.key ≡ t = c.requires.key in
    let named : c.in_ok-named.named ≡ t = search rules in
    index_changed c.in_ok-named.named t named (Some c.of-own.result) c.args.users.now.keys c.insert.new.self.keys es c.insert-2.new.self.entries c.requires.index
    (c.in_ok-insert.ensures.updates).0
    (λ q. (c.in-Ok.ensures.updates).0 q ∙ ap (λ (k : Tuple). cond (is_at (tuple_cmp k) q) (Some c.of-own.result) (found q es)) key)

pub returns-in-Ok-clause-ok : goal.returns-in-Ok-clause-ok
returns-in-Ok-clause-ok c =
    let t = c.args.tuple.now in
    let es : Entries = c.args.table.now.entries in
    let new : Entries = c.insert-2.new.self.entries in
    let key : c.args.key ≡ t = c.requires.key in
    let own = c.of-own.result in
    let grown : own ≡ rows_in (found t es) ++ (c.args.row ∷ []) = c.of-own.ensures ∙ sym (ap (λ o. rows_in o ++ (c.args.row ∷ [])) c.requires.new) in
    let changed : (q : Tuple) → found q new ≡ cond (is_at (tuple_cmp t) q) (Some own) (found q es) = λ q. (c.in-Ok.ensures.updates).0 q ∙ ap (λ (k : Tuple). cond (is_at (tuple_cmp k) q) (Some own) (found q es)) key in
    more_alike t (Some own) (c.args.row ∷ []) es new c.insert-2.ensures.was_ordered c.insert-2.ensures.ordered changed grown

pub returns-clause-index : goal.returns-clause-index
returns-clause-index c =
    let t = c.args.tuple.now in
    let es : Entries = c.args.table.now.entries in
    let named : c.in_ok-named.named ≡ t = search rules in
    index_back c.in_ok-named.named t named c.args.users.now.keys c.insert.new.self.keys c.forget.new.users.keys es c.insert-2.new.self.entries c.requires.index c.requires.new (search rules)
    (c.in_ok-insert.ensures.updates).0 c.forget.ensures

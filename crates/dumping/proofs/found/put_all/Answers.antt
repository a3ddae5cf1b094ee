use Rattle.std.proofs.Common.{◌≡◌, ◌+◌, ◌++◌, ◌∷◌, [], List, Contains, take, ⊎_elim, ap, sym, ◌∙◌, subst, rules}
use Rattle.std.proofs.lemmas.List.{take_more}
use Rattle.std.proofs.lemmas.List.Elements.{Contains-push_cases}
use Rattle.std.proofs.lemmas.Bool.{or_left, or_right}
use Rattle.holds.specs.Holds.{is_in}
use Rattle.tuples.specs.declared.version.Version.{Version}
use Rattle.tuples.specs.Changes.{tuple_of}
use Rattle.tuples.specs.Order.{tuple_eq}
use Rattle.tuples.proofs.Ordered.{tuple_eq_from_same}
use Rattle.dumping.proofs.found.put_all.Goals as goal

pub loop-version-preserved : goal.loop-version-preserved
loop-version-preserved c =
    let before = c.loop-version.invariant in
    let xs = c.args.versions.now in
    let i = c.loop-version.version-index in
    let x = c.version-item.result in
    let more : take (i + 1) xs ≡ take i xs ++ x ∷ [] = take_more xs i x c.loop-version-test.true ∙ ap (λ (y : Version). take i xs ++ y ∷ []) (sym c.version-item.is) in
    let key : c.tuple.result.now ≡ tuple_of x.change = search rules in (
      (λ v has. ⊎_elim
          (λ old. c.in_ok-put.ensures (tuple_of v.change) ∙ or_right (tuple_eq (tuple_of v.change) c.tuple.result.now) (is_in c.loop-version.found.keys (tuple_of v.change)) (before.0 v old))
          (λ same. c.in_ok-put.ensures (tuple_of v.change) ∙ or_left (tuple_eq (tuple_of v.change) c.tuple.result.now) (is_in c.loop-version.found.keys (tuple_of v.change))
          (tuple_eq_from_same (tuple_of v.change) c.tuple.result.now (ap (λ (u : Version). tuple_of u.change) (sym same) ∙ sym key)))
          (Contains-push_cases (take i xs) x v (subst (λ (l : List Version). Contains l v) more has))),
      (λ t is. c.in_ok-put.ensures t ∙ or_right (tuple_eq t c.tuple.result.now) (is_in c.loop-version.found.keys t) (before.1 t is)),
    )

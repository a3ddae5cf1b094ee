-- What passes hold of the one state goes on to be by its law.
use Rattle.std.proofs.Common.{◌≡◌, ℕ, List, [], ◌∷◌, Some, None, Contains, sym, ◌∙◌, ap, subst}
use Rattle.std.proofs.lemmas.Option.{same_Some}
use Rattle.tuples.proofs.Lists.{contained_at}
use Rattle.records.specs.Identity.{coordinator_number}
use Rattle.joint.specs.Held.{AreApart, put, with_value}
use Rattle.joint.specs.Views.{Holding}
use Rattle.joint.specs.Whole.{Admits, GoesOn, Has, IsSeen, Keeps, Starts, with_put}
use Rattle.joint.proofs.Held.{found, none_has, only_here, value_else, value_here}
use Rattle.accord.specs.declared.fact.DecidedWrite.{DecidedWrite}
use Rattle.accord.specs.declared.goods.Begun.{Begun}
use Rattle.accord.specs.declared.parts.ListPart.{ListPart}
use Rattle.accord.specs.OwnedLists.{Goods, IsOwned, IsPlaced, IsPut, no_list}
use Rattle.accord.proofs.OwnedLists.{callers_begin_with_nothing, no_list_is_owned}
use Rattle.accord.proofs.Owners.{undecided_is_unlisted}
use Rattle.owners.specs.Owners.{GoesOnAlone, GoesOnWith, IsLawful, IsOwnedIn, IsPlacedIn, OwnersState}

abbrev Parts : Type 0
Parts = List (ℕ × ListPart)

abbrev AllGoods : Type 0
AllGoods = List (ℕ × List Begun)

abbrev Pass : Type 0
Pass = Holding ListPart (List Begun) DecidedWrite

abbrev first_parts : Parts
first_parts = (coordinator_number, no_list) ∷ []

-- before the store is opened
pub starts : Starts IsOwnedIn IsPlacedIn first_parts []
unfolding AreApart
starts = record {
  apart = apart;
  law = λ p at. subst (λ (q : ListPart). IsOwned q (λ n. None)) (same_Some _ _ (sym (found first_parts apart coordinator_number no_list (only_here (coordinator_number, no_list))) ∙ at)) no_list_is_owned;
  facts = λ d none. absurd (none_has d none);
}
  where
    apart : AreApart first_parts
    apart = ((λ a has. absurd (none_has (coordinator_number, a) has)), tt)

pub admits : (known : List DecidedWrite) → Admits IsOwnedIn IsPlacedIn known (Some []) []
admits known whole k has none = record {
  law = λ p at. callers_begin_with_nothing p whole.goods (with_value k (Some []) whole.goods) k (has.law p at) none (record {
    here = value_here k [] whole.goods;
    others = λ l ne. value_else k (Some []) whole.goods l ne;
  });
  stays = λ d right p at. right p at;
  new = λ d none. absurd (none_has d none);
}

module _ (pass : Pass) (p : ListPart) (parts : pass.parts ≡ (coordinator_number, p) ∷ []) (whole : OwnersState) (has : Has IsOwnedIn IsPlacedIn pass.parts pass.goods pass.facts whole) where
  -- the state has the list that the pass holds
  was : whole.parts coordinator_number ≡ Some p
  was = has.parts coordinator_number p (subst (λ (l : Parts). Contains l (coordinator_number, p)) (sym parts) (only_here (coordinator_number, p)))

  -- and what its caller began
  had : (k : ℕ) (begun : List Begun) → pass.goods ≡ (k, begun) ∷ [] → whole.goods k ≡ Some begun
  had k begun goods = has.goods k begun (subst (λ (l : AllGoods). Contains l (k, begun)) (sym goods) (only_here (k, begun)))

  -- what is put in place is the list then
  is_put : (q r : ListPart) → put pass.parts (Some q) whole.parts coordinator_number ≡ Some r → q ≡ r
  is_put q r at =
      let now = ap (λ (l : Parts). put l (Some q) whole.parts coordinator_number) parts ∙ value_here coordinator_number q whole.parts in
      same_Some _ _ (sym now ∙ at)

  alone : (q : ListPart) → pass.goods ≡ [] → GoesOnAlone p q → GoesOn IsOwnedIn IsPlacedIn [] whole (with_put pass.parts pass.goods (Some q) None whole)
  alone q none g = record {
    law = λ r at.
        let kept : IsOwned p (put pass.goods None whole.goods) = subst (λ (l : AllGoods). IsOwned p (put l None whole.goods)) (sym none) (has.law p was) in
        subst (λ (x : ListPart). IsOwned x (put pass.goods None whole.goods)) (is_put q r at) (g.owned (put pass.goods None whole.goods) kept);
    stays = λ d right r at. subst (λ (x : ListPart). IsPlaced x d) (is_put q r at) (g.placed d (right p was));
    new = λ d none. absurd (none_has d none);
  }

  with_caller : (q : ListPart) (k : ℕ) (begun begun_now : List Begun) (facts : List DecidedWrite) → pass.goods ≡ (k, begun) ∷ [] → GoesOnWith p begun q begun_now facts
      → GoesOn IsOwnedIn IsPlacedIn facts whole (with_put pass.parts pass.goods (Some q) (Some begun_now) whole)
  with_caller q k begun begun_now facts goods g = record {
    law = λ r at. subst (λ (x : ListPart). IsOwned x goods_now) (is_put q r at) (g.owned whole.goods goods_now k (has.law p was) (had k begun goods) is_put_there);
    stays = λ d right r at. subst (λ (x : ListPart). IsPlaced x d) (is_put q r at) (g.placed d (right p was));
    new = λ d known r at. subst (λ (x : ListPart). IsPlaced x d) (is_put q r at) (g.facts d known);
  }
    where
      goods_now : Goods
      goods_now = put pass.goods (Some begun_now) whole.goods

      is_put_there : IsPut whole.goods goods_now k begun_now
      is_put_there = record {
        here = ap (λ (l : AllGoods). put l (Some begun_now) whole.goods k) goods ∙ value_here k begun_now whole.goods;
        others = λ l ne. ap (λ (h : AllGoods). put h (Some begun_now) whole.goods l) goods ∙ value_else k (Some begun_now) whole.goods l ne;
      }

  lawful_in : (k : ℕ) (begun : List Begun) → pass.goods ≡ (k, begun) ∷ [] → IsLawful p begun pass.facts
  lawful_in k begun goods =
      let owned = has.law p was in
      record {
        distinct = owned.distinct;
        out = λ b is none. undecided_is_unlisted p.found p.log p.open_writes whole.goods k (contained_at begun b is).0 b owned.owners
            (record { begun = begun; has = had k begun goods; there = (contained_at begun b is).1 }) none;
        placed = λ d known. has.facts d known p was;
      }

-- a step of the list alone
pub keeps_alone : (pass : Pass) (p q : ListPart) → pass.parts ≡ (coordinator_number, p) ∷ [] → pass.goods ≡ [] → GoesOnAlone p q → Keeps IsOwnedIn IsPlacedIn pass (Some q) None []
keeps_alone pass p q parts none g whole has = alone pass p parts whole has q none g

-- a step of the list and of what a caller began
pub keeps_with : (pass : Pass) (p q : ListPart) (k : ℕ) (begun begun_now : List Begun) (facts : List DecidedWrite) → pass.parts ≡ (coordinator_number, p) ∷ [] → pass.goods ≡ (k, begun) ∷ [] → GoesOnWith p begun q begun_now facts
    → Keeps IsOwnedIn IsPlacedIn pass (Some q) (Some begun_now) facts
keeps_with pass p q k begun begun_now facts parts goods g whole has = with_caller pass p parts whole has q k begun begun_now facts goods g

-- what a look tells
pub lawful : (pass : Pass) (p : ListPart) (k : ℕ) (begun : List Begun) → pass.parts ≡ (coordinator_number, p) ∷ [] → pass.goods ≡ (k, begun) ∷ [] → IsSeen IsOwnedIn IsPlacedIn pass → IsLawful p begun pass.facts
lawful pass p k begun parts goods seen = lawful_in pass p parts seen.0 seen.1 k begun goods

-- Steps of the tests keep their law.
use Rattle.std.proofs.Common.{◌≡◌, ℕ, ◌≤◌, List, [], ◌∷◌, Some, None, Contains, refl, sym, ap, ◌∙◌, subst, arith}
use Rattle.std.proofs.lemmas.Option.{same_Some}
use Rattle.joint.specs.Examples.{HasReached, IsBehind}
use Rattle.joint.specs.Held.{AreApart, put, under}
use Rattle.joint.specs.Views.{Holding}
use Rattle.joint.specs.Whole.{IsSeen, Keeps, Starts}
use Rattle.joint.proofs.Held.{none_has, only_here, only_one, value_else, value_here}

abbrev Counts : Type 0
Counts = List (ℕ × ℕ)

abbrev zeros : Counts
zeros = (0, 0) ∷ (1, 0) ∷ []

pub starts : Starts IsBehind HasReached zeros []
unfolding AreApart under
starts = record {
  apart = ((λ a has. let is : 1 ≡ 0 = ap (λ (x : ℕ × ℕ). x.0) (only_one (1, 0) (0, a) has) in omega (arith, is)), ((λ a has. absurd (none_has (1, a) has)), tt));
  law = λ count follower at_0 at_1. let is : 0 ≡ follower = same_Some _ _ at_1 in omega (arith, is);
  facts = λ n has. absurd (none_has n has);
}

pub counts_keep : (pass : Holding ℕ ℕ ℕ) (from to : ℕ) → pass.parts ≡ (0, from) ∷ [] → from ≤ to → Keeps IsBehind HasReached pass (Some to) None (to ∷ [])
counts_keep pass from to part le whole has = record {
  law = λ count follower at_0 at_1.
      let old = has.law from follower was (sym else ∙ at_1) in
      let is : to ≡ count = same_Some _ _ (sym now ∙ at_0) in
      omega (arith, old, is, le);
  stays = λ n reached.
      let is : reached.0 ≡ from = same_Some _ _ (sym reached.1 ∙ was) in
      let old = reached.2 in
      (to, now, omega (arith, old, is, le));
  new = λ n one. let is = only_one to n one in (to, now, omega (arith, is));
}
  where
    was : whole.parts 0 ≡ Some from
    was = has.parts 0 from (subst (λ (l : Counts). Contains l (0, from)) (sym part) (only_here (0, from)))

    now : put pass.parts (Some to) whole.parts 0 ≡ Some to
    now = ap (λ (l : Counts). put l (Some to) whole.parts 0) part ∙ value_here 0 to whole.parts

    else : put pass.parts (Some to) whole.parts 1 ≡ whole.parts 1
    else = ap (λ (l : Counts). put l (Some to) whole.parts 1) part ∙ value_else 0 (Some to) whole.parts 1 (λ is. omega (arith, is))

pub follows_keep : (pass : Holding ℕ ℕ ℕ) (from to : ℕ) → pass.parts ≡ (1, from) ∷ [] → Contains pass.facts to → Keeps IsBehind HasReached pass (Some to) None []
follows_keep pass from to part known whole has = record {
  law = λ count follower at_0 at_1.
      let is_count : reached.0 ≡ count = same_Some _ _ (sym reached.1 ∙ sym else ∙ at_0) in
      let is_follower : to ≡ follower = same_Some _ _ (sym now ∙ at_1) in
      let le = reached.2 in
      omega (arith, is_count, is_follower, le);
  stays = λ n old. (old.0, else ∙ old.1, old.2);
  new = λ n none. absurd (none_has n none);
}
  where
    reached : HasReached whole to
    reached = has.facts to known

    now : put pass.parts (Some to) whole.parts 1 ≡ Some to
    now = ap (λ (l : Counts). put l (Some to) whole.parts 1) part ∙ value_here 1 to whole.parts

    else : put pass.parts (Some to) whole.parts 0 ≡ whole.parts 0
    else = ap (λ (l : Counts). put l (Some to) whole.parts 0) part ∙ value_else 1 (Some to) whole.parts 0 (λ is. omega (arith, is))

pub seen_behind : (pass : Holding ℕ ℕ ℕ) (count follower : ℕ) → pass.parts ≡ (0, count) ∷ (1, follower) ∷ [] → IsSeen IsBehind HasReached pass → follower ≤ count
seen_behind pass count follower parts seen =
    let both = λ (l : Counts). Contains l (0, count) × Contains l (1, follower) in
    let held : both pass.parts = subst both (sym parts) ((0, omega arith, refl), (1, omega arith, refl)) in
    seen.1.law count follower (seen.1.parts 0 count held.0) (seen.1.parts 1 follower held.1)

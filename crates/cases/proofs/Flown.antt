-- What flew is all that was staged.
use Rattle.std.proofs.Common.{◌≡◌, ◌++◌, ℕ, List, length, take, sym, ap, ◌∙◌, arith}
use Rattle.std.proofs.lemmas.List.{take_all}

-- what is durable then
pub all_durable : {X : Type 0} (durable staged flown lent_durable lent_staged : List X) (n : ℕ) → flown ≡ durable ++ staged → lent_durable ≡ durable → lent_staged ≡ staged → n ≡ length staged
    → flown ≡ lent_durable ++ take n lent_staged
all_durable durable staged flown lent_durable lent_staged n is same_durable same_staged all =
    is ∙ ap (λ rs. rs ++ staged) (sym same_durable) ∙ ap (λ rs. lent_durable ++ rs) (sym (take_all n staged (omega (arith, all))) ∙ ap (take n) (sym same_staged))

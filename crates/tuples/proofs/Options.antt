-- Tests, options and results, whatever is in them.
use Rattle.std.proofs.Common.{◌≡◌, ◌≢◌, ◌⊎◌, inl, inr, Bool, true, false, Option, Some, None, Result, Ok, Err, OnOk, OnErr, IfErr, refl, sym, ◌∙◌}
use Rattle.std.specs.Option.{is_some}
use Rattle.std.proofs.lemmas.Bool.{true≢false}

-- tests that follow from one another are one
pub same_tests : (x y : Bool) → (x ≡ true → y ≡ true) → (y ≡ true → x ≡ true) → x ≡ y
same_tests true y f g = sym (f refl)
same_tests false true f g = g refl
same_tests false false f g = refl

pub none_or_some : {X : Type 0} (o : Option X) → (o ≡ None) ⊎ (is_some o ≡ true)
none_or_some None = inl refl
none_or_some (Some x) = inr refl

pub some_value : {X : Type 0} (o : Option X) → is_some o ≡ true → (x : X) × (o ≡ Some x)
some_value None is = absurd cc
some_value (Some x) is = (x, refl)

pub some_not_none : {X : Type 0} (o : Option X) → is_some o ≡ true → o ≢ None
some_not_none None is none = true≢false (sym is)
some_not_none (Some x) is none = cc

-- a value is not none at all
pub never_none : {X P : Type 0} {x : X} → Some x ≡ None → P
never_none is = absurd cc

-- what holds whatever an error is
pub on_err : {T E P : Type 0} (r : Result T E) → P → OnErr r P
on_err (Ok x) p = tt
on_err (Err e) p = p

-- a call whose error takes down what it was made on went well if that is up
pub went_well : {T E P : Type 0} (Q : E → Type 0) (r : Result T E) (down : Bool) → IfErr r (λ e. Q e × (down ≡ true)) → down ≡ false → OnOk r P → P
went_well Q (Ok x) down err up ok = ok
went_well Q (Err e) down err up ok = absurd (true≢false (sym err.1 ∙ up))

-- A userset that is walked moves from those that wait to those that were walked.
use Rattle.std.proofs.Common.{◌≡◌, List, [], ◌∷◌, ◌++◌, ◌∙◌, length, drop, refl, sym, ap, subst, append_assoc, arith}
use Rattle.tuples.specs.declared.object.Userset.{Userset}
use Rattle.tuples.specs.declared.tuple.Tuple.{Tuple}
use Rattle.tuples.specs.Checking.{AreOnce}
use Rattle.answer_flow.specs.Walking.{IsWalk, IsWalked, LetsWait, WalkValue}

same_list : (walked rest more : List Userset) (y : Userset) → (walked ++ y ∷ rest) ++ more ≡ (walked ++ y ∷ []) ++ (rest ++ more)
same_list walked rest more y = append_assoc walked (y ∷ rest) more ∙ sym (append_assoc walked (y ∷ []) (rest ++ more))

pub still_walk : (y : Userset) (rest : List Userset) (rows : List Tuple) (walked keys waiting : List Userset) → LetsWait y rows (walked ++ y ∷ rest) keys waiting rest
    → IsWalk keys ((walked ++ y ∷ []) ++ waiting)
still_walk y rest rows walked keys waiting lets = subst (λ (ws : List Userset). IsWalk keys ((walked ++ y ∷ []) ++ ws)) (sym lets.waits)
    (subst (IsWalk keys) (same_list walked rest lets.more y) lets.walk)

is_walked : (y : Userset) (rest : List Userset) (rows : List Tuple) (walked keys waiting : List Userset) → LetsWait y rows (walked ++ y ∷ rest) keys waiting rest
    → IsWalked y rest rows (record { walked = walked; waiting = y ∷ rest }) (record { walked = walked ++ y ∷ []; waiting = waiting })
is_walked y rest rows walked keys waiting lets = record {
  walked = refl;
  more = lets.more;
  waiting = lets.waits;
  once = subst AreOnce (append_assoc walked (y ∷ rest) lets.more) lets.walk.once;
  held = lets.held;
  all = lets.all;
}

-- with the walks as they are seen
pub walked_first : (y : Userset) (rest : List Userset) (rows : List Tuple) (old : WalkValue) (walked waiting : List Userset) (first : Userset) (others keys waiting_now walked_now : List Userset)
    → old.waiting ≡ y ∷ rest → record { walked = walked; waiting = waiting } ≡ old → waiting ≡ first ∷ others → LetsWait first rows (walked ++ first ∷ others) keys waiting_now others
    → walked_now ≡ walked ++ first ∷ [] → IsWalked y rest rows old (record { walked = walked_now; waiting = waiting_now })
walked_first y rest rows old walked waiting first others keys waiting_now walked_now is same splits lets pushed =
    let whole : record { walked = walked; waiting = first ∷ others } ≡ old = ap (λ (ws : List Userset). record { walked = walked; waiting = ws }) (sym splits) ∙ same in
    let begins : first ∷ others ≡ y ∷ rest = ap (λ (v : WalkValue). v.waiting) whole ∙ is in
    let first_is : first ≡ y = cc in
    let others_are : others ≡ rest = cc in
    subst (λ (ws : List Userset). IsWalked y rest rows old (record { walked = ws; waiting = waiting_now })) (sym pushed)
    (subst (λ (r : List Userset). IsWalked y r rows old (record { walked = walked ++ first ∷ []; waiting = waiting_now })) others_are
    (subst (λ (x : Userset). IsWalked x others rows old (record { walked = walked ++ first ∷ []; waiting = waiting_now })) first_is
    (subst (λ (v : WalkValue). IsWalked first others rows v (record { walked = walked ++ first ∷ []; waiting = waiting_now })) whole
    (is_walked first others rows walked keys waiting_now lets))))

-- a list that is its own tail has no element
pub no_first : (y : Userset) (rest ws : List Userset) → ws ≡ y ∷ rest → ws ≡ drop 1 ws → ⊥
no_first y rest ws is tail =
    let a : length ws ≡ length (y ∷ rest) = ap (λ (l : List Userset). length l) is in
    let b : length ws ≡ length rest = ap (λ (l : List Userset). length l) tail ∙ ap (λ (l : List Userset). length (drop 1 l)) is in
    omega (arith, a, b)

-- What two appends make.
use Rattle.std.proofs.Common.{◌≡◌, ℕ, ◌≤◌, Bool, true, false, List, ◌++◌, length, take, refl, sym, ap, ◌∙◌, arith, subst}
use Rattle.std.proofs.lemmas.List.{append_assoc, length-append, take-take, take_at}
use Rattle.json_lines.specs.declared.text.Text.{Text}
use Rattle.json_lines.specs.Grown.{Grown}

-- what stood in front stays there after one more part
front_of : (o m n a : List ℕ) → m ≡ o ++ a → take (length m) n ≡ m → take (length o) n ≡ o
front_of o m n a e h =
    let longer : length o ≤ length m = omega (arith, ap length e, length-append o a) in
    sym (take-take (length o) (length m) n longer) ∙ ap (take (length o)) (h ∙ e) ∙ take_at o a (length o) refl

-- two parts, by whether there was room for the first
then_by : {o m n : Text} {a b : List ℕ} → (full : Bool) → m.is_full ≡ full → Grown o m a → Grown m n b → Grown o n (a ++ b)
then_by {o = o} {m = m} {n = n} {a = a} {b = b} false open_then p q = record {
  same_reference = q.same_reference ∙ p.same_reference;
  start = q.start ∙ p.start;
  appended = λ open_now. ((p.appended open_then).0, (q.appended open_now).1 ∙ ap (λ (l : List ℕ). l ++ b) (p.appended open_then).1 ∙ append_assoc o.out.now.items a b);
  front = λ full was. front_of o.out.now.items m.out.now.items n.out.now.items a (p.appended open_then).1 (q.front full open_then);
  lacked = λ full was. omega (arith, q.lacked full open_then, p.capacity, ap length (p.appended open_then).1, length-append o.out.now.items a, length-append a b);
  stays = λ full. absurd (cc (full, (p.appended open_then).0));
  capacity = omega (arith, p.capacity, q.capacity);
}
then_by {o = o} {m = m} {n = n} {a = a} {b = b} true full_then p q = record {
  same_reference = q.same_reference ∙ p.same_reference;
  start = q.start ∙ p.start;
  appended = λ open_now. absurd (cc (open_now, (q.stays full_then).0));
  front = λ full was. ap (take (length o.out.now.items)) (q.stays full_then).1 ∙ p.front full_then was;
  lacked = λ full was. omega (arith, p.lacked full_then was, length-append a b);
  stays = λ full. ((q.stays full_then).0, (q.stays full_then).1 ∙ (p.stays full).1);
  capacity = omega (arith, p.capacity, q.capacity);
}

-- two parts, one after another
pub grown_then : {o m n : Text} {a b : List ℕ} → Grown o m a → Grown m n b → Grown o n (a ++ b)
grown_then {m = m} p q = then_by m.is_full refl p q

-- the same bytes, told otherwise
pub grown_as : {o n : Text} {a b : List ℕ} → a ≡ b → Grown o n a → Grown o n b
grown_as {o} {n} e p = subst (λ (l : List ℕ). Grown o n l) e p

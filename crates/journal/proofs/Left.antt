-- What is left to read.
use Rattle.std.proofs.Common.{◌≡◌, ◌++◌, [], ◌∷◌, List, Option, Some, None, refl, sym, ap, ◌∙◌, append_assoc}
use Rattle.records.specs.declared.record.Record.{Record}
use Rattle.journal.specs.Records.{both}
use Rattle.journal.specs.Unread.{IsRead, Left}

pub both-nil : (o : Option (List Record)) → both (Some []) o ≡ o
both-nil None = refl
both-nil (Some rs) = refl

pub both-both : (rs more : List Record) (o : Option (List Record)) → both (Some rs) (both (Some more) o) ≡ both (Some (rs ++ more)) o
both-both rs more None = refl
both-both rs more (Some last) = ap (λ (l : List Record). Some l) (sym (append_assoc rs more last))

-- these records were read, and then there are those that are left: one more
pub read_more : (whole : Option (List Record)) (done : List Record) (old : Left) → whole ≡ both (Some done) old.records → (r : Record) (new : Left) → IsRead old r new → whole ≡ both (Some (done ++ r ∷ [])) new.records
read_more whole done old is r new read = is ∙ ap (both (Some done)) read.records ∙ both-both done (r ∷ []) new.records

-- if a record was read, all are those before it, the record, and some after it
behind : (done : List Record) (r : Record) (o : Option (List Record)) (rs : List Record) → both (Some (done ++ r ∷ [])) o ≡ Some rs → (rest : List Record) × (rs ≡ done ++ r ∷ rest)
behind done r None rs is = absurd cc
behind done r (Some rest) rs is = (rest, let e : (done ++ r ∷ []) ++ rest ≡ rs = cc in sym e ∙ append_assoc done (r ∷ []) rest)

pub read_among : (whole : Option (List Record)) (done : List Record) (old : Left) → whole ≡ both (Some done) old.records → (r : Record) (new : Left) → IsRead old r new
    → (rs : List Record) → whole ≡ Some rs → (rest : List Record) × (rs ≡ done ++ r ∷ rest)
read_among whole done old is r new read rs was = behind done r new.records rs (sym (read_more whole done old is r new read) ∙ was)

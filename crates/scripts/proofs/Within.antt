-- What follows of what holds on success.
use Rattle.std.proofs.Common.{Result, Ok, Err, OnOk}

pub map_ok : {T E : Type 0} (r : Result T E) (P Q : Type 0) → OnOk r P → (P → Q) → OnOk r Q
map_ok (Ok x) P Q p more = more p
map_ok (Err e) P Q p more = tt

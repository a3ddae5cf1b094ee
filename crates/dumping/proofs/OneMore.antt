-- One more tuple is read after others.
use Rattle.std.proofs.Common.{◌++◌, ℕ, List, [], ◌∷◌, Option, append_assoc, append-nil, refl, sym, ◌∙◌, ap, subst}
use Rattle.cluster.specs.declared.event.What.{What}
use Rattle.cluster.specs.declared.step.Step.{Step}
use Rattle.names.specs.declared.call_name.CallName.{CallName}
use Rattle.tuples.specs.declared.freshness.Freshness.TheVariants.{Exact}
use Rattle.tuples.specs.declared.tuple.Tuple.{Tuple}
use Rattle.tuples.specs.declared.tupleset.Tupleset.TheVariants.{Key}
use Rattle.dumping.specs.Gathering.{AllRead, Reads}

module _ {S : Type 0} (takes : S → Step → Option What → S → Type 0) (nexts : S → ℕ → Option CallName → Type 0) (place : ℕ) where
  pub reads_more : (keys rows row : List Tuple) (t : Tuple) (at : ℕ) (old mid new : S) → AllRead takes nexts place keys old rows mid → Reads takes nexts (Exact place) (Key t) mid at (row ∷ []) new
      → AllRead takes nexts place (keys ++ t ∷ []) old (rows ++ row) new
  reads_more [] rows row t at old mid new (none, is) one = (
    new,
    at,
    row,
    [],
    subst (λ (s : S). Reads takes nexts (Exact place) (Key t) s at (row ∷ []) new) is one,
    (refl, refl),
    ap (λ (l : List Tuple). l ++ row) none ∙ sym (append-nil row),
  )
  reads_more (k ∷ keys) rows row t at old mid new (next, first_at, first, rest, read, more, rows_is) one = (
    next,
    first_at,
    first,
    rest ++ row,
    read,
    reads_more keys rest row t at next mid new more one,
    ap (λ (l : List Tuple). l ++ row) rows_is ∙ append_assoc first rest row,
  )

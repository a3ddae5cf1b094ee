-- What other protocols begin with.
use Rattle.std.specs.Prelude.{◌≡◌, ◌++◌, ℕ, List, [], ◌∷◌, Any, codes, drop, Option}
use Rattle.std.specs.Io.KnownBytes.{prepend_known}
use Rattle.serving.specs.declared.guarded.Guarded.{Guarded}

-- what a request of HTTP begins with, and a hello of TLS
abbrev pub others : List (List ℕ)
others = codes "GET " ∷ codes "POST " ∷ codes "PUT " ∷ codes "HEAD " ∷ codes "DELETE " ∷ codes "OPTIONS " ∷ codes "PATCH " ∷ codes "CONNECT " ∷ codes "TRACE " ∷ codes "PRI " ∷ (22 ∷ 3 ∷ []) ∷ []

-- the bytes are these and then some
abbrev pub Begins : List ℕ → List ℕ → Type 0
Begins bytes mark = (rest : List ℕ) × (bytes ≡ mark ++ rest)

-- the bytes begin as those of HTTP or of TLS do
abbrev pub BeginsOther : List ℕ → Type 0
BeginsOther bytes = Any (λ mark. Begins bytes mark) others

-- bytes of HTTP or of TLS may begin with these
abbrev pub MayBegin : List ℕ → Type 0
MayBegin bytes = Any (λ mark. Begins mark bytes) others

-- what was looked at and is not handed on
abbrev pub unread : {R : Type 0} → Guarded R → List ℕ
unread guarded = drop guarded.given guarded.first.items

-- what will be handed on
abbrev pub left : {R : Type 0} → (R → Option (List ℕ)) → Guarded R → Option (List ℕ)
left remaining guarded = prepend_known (unread guarded) (remaining guarded.input)

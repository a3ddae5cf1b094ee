-- Which of several lists the merged one begins with.
use Rattle.std.specs.Prelude.{◌≡◌, ℕ, List, [], ◌∷◌, get_or, set}
use Rattle.tuples.specs.declared.version.Version.{Version}
use Rattle.reshard.specs.Merging.{merged}

-- the list at this index has these versions, and the merged list begins with the first of them, if there is any
abbrev pub BeginsWith : List (List Version) → ℕ → List Version → Type 0
BeginsWith lists i [] = merged lists ≡ []
BeginsWith lists i (v ∷ rest) = merged lists ≡ v ∷ merged (set lists i rest)

-- if there is no list at this index, none has any version
abbrev pub Picks : List (List Version) → ℕ → Type 0
Picks lists i = BeginsWith lists i (get_or lists i [])

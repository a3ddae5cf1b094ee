-- Which short form the words of a line are.
use Rattle.std.proofs.Common.{◌≡◌, ◌≤◌, ℕ, List, ◌∷◌, ◌++◌, length, map, codes, refl}
use Rattle.std.specs.List.{All}
use Rattle.client.specs.Forms.{Asked, Changed, IsAsked, IsOpened, asked_word, at_least, changed_word, checks, exact, if_words, latest, reads, unsaid, watches, writes}
use Rattle.client.specs.Reading.{SpellsNone}
use Rattle.tuples.proofs.Lists.{tails, other_first}

-- ---- freshness

pub unopened : (words : List (List ℕ)) → ((rest : List (List ℕ)) → words ≡ codes "latest" ∷ rest → ⊥) → ((z : List ℕ) (rest : List (List ℕ)) → words ≡ codes "at-least" ∷ z ∷ rest → ⊥)
    → ((z : List ℕ) (rest : List (List ℕ)) → words ≡ codes "exact" ∷ z ∷ rest → ⊥) → IsOpened unsaid words
unopened words no_latest no_least no_exact unsaid more e = refl
unopened words no_latest no_least no_exact latest more e = absurd (no_latest more e)
unopened words no_latest no_least no_exact (at_least z) more e = absurd (no_least z more e)
unopened words no_latest no_least no_exact (exact z) more e = absurd (no_exact z more e)

-- ---- one verb each

pub write_only : (ws : List (List ℕ)) → ((cs : List Changed) (asks : List Asked) → ws ≡ map changed_word cs ++ if_words (map asked_word asks) → 1 ≤ length cs → All IsAsked asks → ⊥) → SpellsNone (codes "write" ∷ ws)
write_only ws none (writes cs asks) h = none cs asks (tails (codes "write") (codes "write") ws _ h.0) h.1.0 h.1.1
write_only ws none (reads f sets) h = other_first 0 (codes "write") (codes "read") ws _ refl h.0
write_only ws none (checks f t) h = other_first 0 (codes "write") (codes "check") ws _ refl h.0
write_only ws none (watches from limit ns) h = other_first 1 (codes "write") (codes "watch") ws _ refl h.0

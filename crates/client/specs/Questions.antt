-- The questions that are no request of a server, by their texts.
use Rattle.std.specs.Prelude.{◌≡◌, ℕ, List, [], ◌∷◌, codes}
use Rattle.client.specs.declared.question.Question as of_words
use Rattle.client.specs.declared.question.Question.TheVariants as question

-- A question: which store and place a token names.
pub data Question : Type 0 where
  places : List ℕ → Question

-- its words
abbrev pub question_words : Question → List (List ℕ)
question_words (places token) = codes "place" ∷ token ∷ []

-- the words are those of the question
abbrev pub HasQuestion : List (List ℕ) → Question → Type 0
HasQuestion words q = words ≡ question_words q

-- no question has these words
abbrev pub SpellsNoQuestion : List (List ℕ) → Type 0
SpellsNoQuestion words = (q : Question) → HasQuestion words q → ⊥

abbrev pub question_view : of_words.Question → Question
question_view (question.Place token) = places token.now

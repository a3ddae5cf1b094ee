use Rattle.published.proofs.Keeping.{begins}
use Rattle.published.proofs.words.Published.new.Goals as goal

pub of_words-requires : goal.of_words-requires
of_words-requires g c = begins

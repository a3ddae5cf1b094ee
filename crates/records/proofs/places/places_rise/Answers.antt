use Rattle.std.proofs.Common.{◌∙◌, sym}
use Rattle.records.proofs.Meanings.{rising_of_test, test_of_rising}
use Rattle.records.proofs.places.places_rise.Goals as goal

pub returns : goal.returns
returns c =
    let to = c.args.to in
    let placed_ids = c.args.placed_ids.now in
    (λ is. rising_of_test to placed_ids (sym c.are_rising_to.ensures ∙ is), λ rises. c.are_rising_to.ensures ∙ test_of_rising to placed_ids rises)

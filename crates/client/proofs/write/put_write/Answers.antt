use Rattle.std.proofs.Common.{codes, ◌∷◌, ◌∙◌, ◌++◌, ap, List, ℕ, map}
use Rattle.client.specs.Forms.{changed_word, writes}
use Rattle.client.specs.Reading.{texts}
use Rattle.client.proofs.Cuts.{mistaken, no_changes, no_conditions}
use Rattle.client.proofs.Fine.{write_members}
use Rattle.client.proofs.write.put_write.Goals as goal

pub returns-in-Err : goal.returns-in-Err
returns-in-Err c = mistaken _ _ c.in-Err.mistake (no_changes (texts c.args.words.now)) c.in-Err.ensures

pub returns-in-Err-put_conditions : goal.returns-in-Err-put_conditions
returns-in-Err-put_conditions c =
    let put = c.in-Ok.ensures in
    mistaken _ _ c.in-Err-put_conditions.mistake (no_conditions (texts c.args.words.now) (texts c.in-Ok.rest.now) put.0 put.1 put.3) c.in-Err-put_conditions.ensures

pub returns-in_ok-put_text-in-Ok-put_conditions : goal.returns-in_ok-put_text-in-Ok-put_conditions
returns-in_ok-put_text-in-Ok-put_conditions c =
    let put = c.in-Ok.ensures in
    let asked = c.in-Ok-put_conditions.ensures in (
      writes put.0 asked.0,
      (ap (λ (l : List (List ℕ)). codes "write" ∷ l) (put.1 ∙ ap (λ (l : List (List ℕ)). map changed_word put.0 ++ l) asked.1), (put.2, asked.2)),
      λ empty. write_members put.0 asked.0 _ _ _ _ empty put.4 asked.3 c.in_ok-put_text-in-Ok-put_conditions.ensures,
    )

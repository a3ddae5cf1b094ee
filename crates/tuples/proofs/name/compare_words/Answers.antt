use Rattle.std.proofs.Common.{ap₂, ◌∙◌}
use Rattle.std.specs.Ordering.{nat_cmp}
use Rattle.tuples.proofs.Worded.{word_cmp}
use Rattle.tuples.proofs.name.compare_words.Goals as goal

pub returns : goal.returns
returns c =
    c.cmp.ensures ∙ ap₂ nat_cmp c.word.ensures c.word-2.ensures
    ∙ word_cmp c.args.a.now c.args.b.now c.requires.a_word c.requires.b_word (λ i. (c.type_inv.a i).fits) (λ i. (c.type_inv.b i).fits)

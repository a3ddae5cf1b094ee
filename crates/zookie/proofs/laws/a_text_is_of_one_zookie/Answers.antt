use Rattle.zookie.proofs.Pairs.{one_zookie}
use Rattle.zookie.proofs.laws.a_text_is_of_one_zookie.Goals as goal

pub returns : goal.returns
returns c = one_zookie

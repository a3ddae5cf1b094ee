use Rattle.std.proofs.Common.{ap, ◌∙◌}
use Rattle.base64.specs.Engines.{standard}
use Rattle.base64.specs.GeneralPurpose.{encode_of}
use Rattle.zookie.specs.Zookies.{zookie_text}
use Rattle.zookie.proofs.zookie.Zookie.encode.Goals as goal

pub returns : goal.returns
unfolding zookie_text
returns c = c.text_of_bytes.ensures ∙ ap (encode_of standard) c.bytes_of.ensures

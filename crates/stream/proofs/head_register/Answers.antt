use Rattle.crc.proofs.Steps.{crc_words_of_append}
use Rattle.stream.proofs.head_register.Goals as goal

pub returns : goal.returns
returns c =
    rw (c.step_words.ensures, c.part.ensures, c.step_words-after.ensures, c.trs.ensures, crc_words_of_append)

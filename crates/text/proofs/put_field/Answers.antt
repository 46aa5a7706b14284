-- The word is written, and then the number.
use Rattle.text.specs.Over.{written_then}
use Rattle.text.proofs.put_field.Goals as goal

pub returns-clause-written : goal.returns-clause-written
returns-clause-written c = written_then c.put_word-next.ensures c.put_decimal.ensures.written

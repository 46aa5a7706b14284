-- By recursion on the number of digits asked for: the front of the digits is written, and then the last one.
use Rattle.text.specs.Over.{written_none, written_one, written_then, written_as}
use Rattle.text.specs.Numerals.{digits_none, digits_one, digits_more}
use Rattle.text.proofs.+put_digits.Goals as goal

pub returns-then-n-eq0-clause-written : goal.returns-then-n-eq0-clause-written
returns-then-n-eq0-clause-written t c = written_as (digits_none _ _ c.if-n-eq0.true) (written_none _ _)

pub returns-then-x-lt10-clause-written : goal.returns-then-x-lt10-clause-written
returns-then-x-lt10-clause-written t c =
    written_as (digits_one _ _ c.if-n-eq0.false c.if-x-lt10.true) (written_one _ _ _)

pub returns-clause-written : goal.returns-clause-written
returns-clause-written t c =
    let all = digits_more _ _ c.if-n-eq0.false c.if-x-lt10.false in
    written_as all (written_then c.put_digits-last.ensures.written (written_one _ _ _))

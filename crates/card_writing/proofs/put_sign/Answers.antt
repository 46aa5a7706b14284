-- Each sign is that of the relation tested.
use borrow.Author.Rules.{rules}
use mathlib.Core.Path.{sym, ap}
use Rattle.text.specs.Over.{written_as}
use Rattle.card_writing.specs.Lines.{sign_word, sign_over}
use Rattle.card_writing.proofs.put_sign.Goals as goal

pub returns-then-relation-eq0 : goal.returns-then-relation-eq0
returns-then-relation-eq0 c =
    record { written = written_as {m = c.put_word.new.out} {r = c.put_word.result} (ap sign_word (sym c.if-relation-eq0.true)) c.put_word.ensures; upper_bound = search rules }

pub returns-then-relation-eq1 : goal.returns-then-relation-eq1
returns-then-relation-eq1 c =
    record { written = written_as {m = c.put_word-then-relation-eq1.new.out} {r = c.put_word-then-relation-eq1.result} (ap sign_word (sym c.if-relation-eq1.true)) c.put_word-then-relation-eq1.ensures; upper_bound = search rules }

pub returns-then-relation-eq2 : goal.returns-then-relation-eq2
returns-then-relation-eq2 c =
    record { written = written_as {m = c.put_word-then-relation-eq2.new.out} {r = c.put_word-then-relation-eq2.result} (ap sign_word (sym c.if-relation-eq2.true)) c.put_word-then-relation-eq2.ensures; upper_bound = search rules }

pub returns-then-relation-eq3 : goal.returns-then-relation-eq3
returns-then-relation-eq3 c =
    record { written = written_as {m = c.put_word-then-relation-eq3.new.out} {r = c.put_word-then-relation-eq3.result} (ap sign_word (sym c.if-relation-eq3.true)) c.put_word-then-relation-eq3.ensures; upper_bound = search rules }

pub returns : goal.returns
returns c =
    let none = sign_over _ c.if-relation-eq0.false c.if-relation-eq1.false c.if-relation-eq2.false c.if-relation-eq3.false in
    record { written = written_as none c.put_word-2.ensures; upper_bound = search rules }

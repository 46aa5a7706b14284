-- The line of each kind is that of the record at the place.
use borrow.Author.Rules.{rules}
use mathlib.Core.Path.{◌≡◌, sym, ◌∙◌, ap}
use mathlib.Core.List.{List}
use Prim.Native.Nat.{ℕ}
use lib.ListN.{get_or}
use Rattle.text.specs.Over.{written_as}
use Rattle.card_writing.specs.Lines.{line_at, head_line, reset_line, step_line, end_line}
use Rattle.card_writing.proofs.put_record.Goals as goal
use Rattle.card_writing.proofs.put_record.Goals.{After-byte_in-kind}

-- the kind is read
module _ (c : After-byte_in-kind) where
  abbrev bytes : List ℕ
  bytes = c.args.bytes.now

  abbrev at : ℕ
  at = c.args.at

  abbrev kind : ℕ
  kind = c.byte_in-kind.result

  known : line_at bytes at kind ≡ line_at bytes at (get_or bytes at 0)
  known = ap (line_at bytes at) c.byte_in-kind.ensures.0

pub returns-then-kind-eq1 : goal.returns-then-kind-eq1
returns-then-kind-eq1 c =
    written_as
    (head_line (bytes (goal.at.returns-then-kind-eq1 c).After-byte_in-kind) (at (goal.at.returns-then-kind-eq1 c).After-byte_in-kind) (kind (goal.at.returns-then-kind-eq1 c).After-byte_in-kind) c.byte_at.result c.if-kind-eq1.true c.byte_at.ensures.0 c.byte_at.ensures.1 ∙ known (goal.at.returns-then-kind-eq1 c).After-byte_in-kind)
    c.put_line1.ensures.written

pub returns-then-kind-eq2 : goal.returns-then-kind-eq2
returns-then-kind-eq2 c =
    written_as (ap (line_at (bytes (goal.at.returns-then-kind-eq2 c).After-byte_in-kind) (at (goal.at.returns-then-kind-eq2 c).After-byte_in-kind)) (sym c.if-kind-eq2.true) ∙ known (goal.at.returns-then-kind-eq2 c).After-byte_in-kind) c.put_guard.ensures

pub returns-then-kind-eq3 : goal.returns-then-kind-eq3
returns-then-kind-eq3 c =
    written_as
    (reset_line (bytes (goal.at.returns-then-kind-eq3 c).After-byte_in-kind) (at (goal.at.returns-then-kind-eq3 c).After-byte_in-kind) (kind (goal.at.returns-then-kind-eq3 c).After-byte_in-kind) c.byte_at-then-kind-eq3.result c.if-kind-eq3.true c.byte_at-then-kind-eq3.ensures.0 c.byte_at-then-kind-eq3.ensures.1 ∙ known (goal.at.returns-then-kind-eq3 c).After-byte_in-kind)
    c.put_line1-then-kind-eq3.ensures.written

pub returns-then-kind-eq4 : goal.returns-then-kind-eq4
returns-then-kind-eq4 c =
    written_as (step_line (bytes (goal.at.returns-then-kind-eq4 c).After-byte_in-kind) (at (goal.at.returns-then-kind-eq4 c).After-byte_in-kind) (kind (goal.at.returns-then-kind-eq4 c).After-byte_in-kind) c.if-kind-eq4.true ∙ known (goal.at.returns-then-kind-eq4 c).After-byte_in-kind) c.put_word.ensures

pub returns : goal.returns
returns c =
    written_as
    (end_line (bytes (goal.at.returns c).After-byte_in-kind) (at (goal.at.returns c).After-byte_in-kind) (kind (goal.at.returns c).After-byte_in-kind) c.if-kind-eq1.false c.if-kind-eq2.false c.if-kind-eq3.false c.if-kind-eq4.false ∙ known (goal.at.returns c).After-byte_in-kind)
    c.put_word-2.ensures

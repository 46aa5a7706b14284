-- `table::number` meets its contract: each arm knows the fault. Assumes nothing.
use borrow.Author.Rules.{rules}
use Rattle.table.proofs.number.Goals as goal

pub returns-in-Length : goal.returns-in-Length
returns-in-Length c = rw c.in-Length.is

pub returns-in-Cut : goal.returns-in-Cut
returns-in-Cut c = rw c.in-Cut.is

pub returns-in-Kind : goal.returns-in-Kind
returns-in-Kind c = rw c.in-Kind.is

pub returns-in-Head : goal.returns-in-Head
returns-in-Head c = rw c.in-Head.is

pub returns-in-Bounds : goal.returns-in-Bounds
returns-in-Bounds c = rw c.in-Bounds.is

pub returns-in-Timer : goal.returns-in-Timer
returns-in-Timer c = rw c.in-Timer.is

pub returns-in-Relation : goal.returns-in-Relation
returns-in-Relation c = rw c.in-Relation.is

pub returns-in-Constant : goal.returns-in-Constant
returns-in-Constant c = rw c.in-Constant.is

pub returns-in-Steps : goal.returns-in-Steps
returns-in-Steps c = rw c.in-Steps.is

pub returns-in-Tail : goal.returns-in-Tail
returns-in-Tail c = rw c.in-Tail.is

pub returns-in-Rounds : goal.returns-in-Rounds
returns-in-Rounds c = rw c.in-Rounds.is

pub returns-in-Times : goal.returns-in-Times
returns-in-Times c = rw c.in-Times.is

pub returns-in-Starts : goal.returns-in-Starts
returns-in-Starts c = rw c.in-Starts.is

pub returns-in-Loop : goal.returns-in-Loop
returns-in-Loop c = rw c.in-Loop.is

pub returns-in-List : goal.returns-in-List
returns-in-List c = rw c.in-List.is

pub returns-in-Twice : goal.returns-in-Twice
returns-in-Twice c = rw c.in-Twice.is

pub returns-in-Record : goal.returns-in-Record
returns-in-Record c = rw c.in-Record.is

pub returns-in-Tray : goal.returns-in-Tray
returns-in-Tray c = rw c.in-Tray.is

pub returns-in-Verdicts : goal.returns-in-Verdicts
returns-in-Verdicts c = rw c.in-Verdicts.is

pub returns-in-Card : goal.returns-in-Card
returns-in-Card c = rw c.in-Card.is

pub returns-in-Output : goal.returns-in-Output
returns-in-Output c = rw c.in-Output.is

pub returns-in-Stretch : goal.returns-in-Stretch
returns-in-Stretch c = rw c.in-Stretch.is

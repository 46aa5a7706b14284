-- A short room is kept; else four stores from the front.
use borrow.Author.Rules.{rules}
use lib.ListN.{get_or}
use Rattle.answers.specs.Answered.{answered_short, second_place, third_place, put_answered}
use Rattle.answers.proofs.put.Goals as goal

pub returns-then-room-lt4 : goal.returns-then-room-lt4
returns-then-room-lt4 c = answered_short _ _ c.if-room-lt4.true

pub bounds-room-1 : goal.bounds-room-1
bounds-room-1 c = let s = c in second_place c.args.room.now (get_or c.args.numbers 0 0) c.if-room-lt4.false

pub bounds-room-2 : goal.bounds-room-2
bounds-room-2 c =
    let s = c in
    third_place c.args.room.now (get_or c.args.numbers 0 0) (get_or c.args.numbers 1 0) c.if-room-lt4.false

pub returns : goal.returns
returns c = put_answered _ _ c.if-room-lt4.false (search rules)

-- The invariant: the first fields are written.
use Rattle.std.proofs.Common.{◌+◌, ◌≤◌, take, sum_by}
use Rattle.std.specs.List.{flat_map}
use Rattle.text.specs.Over.{Written}
use Rattle.lines.specs.Line.{field_of, most_of}
use Rattle.lines.proofs.put_line.Given as goal

abbrev pub invariant-loop-word : goal.invariant-loop-word
invariant-loop-word l =
    let done = take l.word-index l.fields in
    Written l.initial.out l.at (flat_map field_of done) l.out l.next × (l.next ≤ l.at + sum_by most_of done)

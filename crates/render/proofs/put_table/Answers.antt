-- The first line, the count, and the plan if rounds are planned.
use Rattle.std.proofs.Common.{arith}
use Rattle.text.specs.Over.{written_then}
use Rattle.plan_report.specs.Accepted.{tabled}
use Rattle.render.specs.Writes.{plannable, accepted_counts, writes_none, writes_plan}
use Rattle.render.proofs.put_table.Goals as goal

pub returns-then-k-eq0-clause-writes_table : goal.returns-then-k-eq0-clause-writes_table
returns-then-k-eq0-clause-writes_table c =
    writes_none _ _ _ _ c.requires.0 _ c.rounds-count.ensures _ c.planned-k.ensures c.if-k-eq0.true
    (written_then c.put_counted-a.ensures.written c.put_count-b.ensures.written)

pub put_rounds-requires : goal.put_rounds-requires
put_rounds-requires c =
    let table = tabled _ (λ i. omega (arith, c.type_inv.bytes i)) _ _ _ c.requires.0 in
    let counts = accepted_counts _ _ _ _ c.requires.0 _ c.rounds-count.ensures in
    (plannable _ _ _ table _ counts _ c.planned-k.ensures (omega arith), omega arith)

pub returns-clause-writes_table : goal.returns-clause-writes_table
returns-clause-writes_table c =
    writes_plan _ _ _ _ c.requires.0 _ c.rounds-count.ensures _ c.planned-k.ensures (omega arith)
    (written_then c.put_counted-a.ensures.written c.put_count-b.ensures.written) c.put_rounds.ensures.writes_plan

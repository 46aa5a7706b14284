use Rattle.climbing.specs.LeftPart.{Row, left_rows, parts_told, parts_differ}
use Rattle.std.proofs.lemmas.Iterator.{cases_from_all, YieldsList-from_range}
use Rattle.std.proofs.Common.{rules, refl, ◌+◌, ◌*◌, ◌<◌, arith}
use Rattle.climbing.proofs.same_left.Goals as goal

pub returns : goal.returns
returns c =
    let row = Row c.args.side (c.args.place * 196) c.args.row.now c.args.out.now in
    left_rows c.args.side c.args.side (c.args.place * 196) c.args.row.now c.args.out.now _
    (cases_from_all _ _ _ row (λ r. r < c.args.side → row r → ⊥) c.all.ensures.ran (YieldsList-from_range 0 c.args.side c.args.side refl (omega arith))
    (λ x q k. (search rules, parts_told _ _ _ _ _ (search rules)))
    (λ x q k h. parts_differ (c.args.place * 196 + x * 14) (x * 21) _ _ _ (omega arith) (omega arith) (search rules)))

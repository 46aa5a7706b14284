-- Both tests, one after the other.
use mathlib.Core.Path.{◌≡◌, sym, ap, ◌∙◌}
use mathlib.Core.Bool.{true, false, ◌&&◌}
use lib.Dec.{ltb}
use Rattle.records.specs.Rules.{within}
use Rattle.stretches.proofs.opens.Goals as goal

pub returns-then-not-between : goal.returns-then-not-between
returns-then-not-between c =
    let a = c.args in
    let out : within 2 a.times 16 ≡ false = sym c.between.ensures ∙ c.if-not-between.true in
    ap (λ b. b && ltb a.depth 4) (sym out)

pub returns : goal.returns
returns c =
    let a = c.args in
    let in_range_lem : within 2 a.times 16 ≡ true = sym c.between.ensures ∙ c.if-not-between.false in
    ap (λ b. b && ltb a.depth 4) (sym in_range_lem)

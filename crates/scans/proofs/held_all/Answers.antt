-- `scans::held_all` meets its contract: the first readings are tested one by one.
use Rattle.std.proofs.Common.{sym, ◌∙◌, take, leb, arith, rules, tests}
use Rattle.std.proofs.lemmas.Iterator.{YieldsList-from_slice}
use Rattle.std.proofs.lemmas.Iterator.Search.{all_from_yields_List}
use Rattle.scans.specs.Held.{held_list}
use Rattle.scans.proofs.held_all.Goals as goal

pub returns : goal.returns
returns c =
    let a = c.args in
    all_from_yields_List (λ x. leb x 4001) _ _ _ c.all.ensures.ran (YieldsList-from_slice (take a.clocks a.readings) cc) (λ x b q k. search (rules, tests))
    ∙ sym (held_list a.clocks a.readings (omega arith))

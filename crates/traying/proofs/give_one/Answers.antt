-- `traying::give_one` meets its contract: the step that is due is tested on the readings that have aged.
use Rattle.std.proofs.Common.{◌≡◌, arith, sym, ap, ◌∙◌, subst}
use Rattle.std.specs.Option.{unwrap_or}
use Rattle.scans.specs.Scan.{aged}
use Rattle.ranges.specs.Allowed.{Asked, first_outside}
use Rattle.traying.specs.Moved.{moved_on}
use Rattle.traying.specs.Scans.{due_places, due_part, old, failing, scan_asked, scan_number, scan_moved, scan_few}
use Rattle.traying.proofs.give_one.Goals as goal

pub overflow_sub-due : goal.overflow_sub-due
overflow_sub-due c = (due_places _ _ c.requires.0 c.requires.3).0

pub bounds-t-s : goal.bounds-t-s
bounds-t-s c = let p = due_places _ _ c.requires.0 c.requires.3 in omega arith

pub first_outside-requires : goal.first_outside-requires
first_outside-requires c =
    let t = c.args.t.now in
    let r = c.args.r in
    subst (λ rs. Asked (due_part t r rs)) (sym c.requires.2) (scan_asked t c.requires.0 c.requires.1 r c.requires.3 c.args.counter)

pub returns : goal.returns
returns c =
    let t = c.args.t.now in
    let r = c.args.r in
    let k = c.args.counter in
    let good = c.requires.0 in
    let own = c.requires.1 in
    let can = c.requires.3 in
    let aging : c.age-readings.result ≡ old t r k =
    c.age-readings.ensures ∙ ap (λ x. aged t.clocks x r.readings) c.elapsed.ensures.is in
    let is : c.unwrap_or-failing.result ≡ failing t r k =
    c.unwrap_or-failing.ensures
    ∙ ap (λ o. unwrap_or o 0) (c.first_outside.ensures ∙ (λ i. first_outside (aging i) (due_part t r (c.requires.2 i)))) in (
      c.move_on.ensures ∙ (λ i. moved_on t.steps t.resets r k (aging i) (is i)) ∙ scan_moved t good own r can k,
      is ∙ scan_number t good own r can k,
      omega (arith, is, scan_few t good own r can k),
    )

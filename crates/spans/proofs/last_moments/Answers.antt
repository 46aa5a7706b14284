-- The bounds begin as they must, and the rows are those of the table.
use mathlib.Core.Path.{refl, ◌∙◌}
use Rattle.spans.specs.Exact.{filled_size, filled_begins, rows_going, rows_leading, rows_bounded, rows_bounding, whole}
use borrow.Author.Rules.{rules}
use native.Mathlib.Omega.{arith}
use Rattle.spans.proofs.last_moments.Goals as goal

pub settle_all-requires : goal.settle_all-requires
settle_all-requires c =
    let g = rows_going _ _ c.requires.0 _ _ _ _ c.requires.2 in
    let f = filled_begins _ _ c.requires.0 _ _ _ _ c.requires.3 c.fill.ensures c.fill-2.ensures refl in
    (g.0, g.1, rows_leading _ _ c.requires.0 _ _ _ _ c.requires.2, whole _ _ c.requires.0, rows_bounded _ _ c.requires.0 _ _ _ _ c.requires.2 c.requires.1 _ f)

pub returns : goal.returns
returns c =
    let f = filled_begins _ _ c.requires.0 _ _ _ _ c.requires.3 c.fill.ensures c.fill-2.ensures refl in
    (refl, rows_bounding _ _ c.requires.0 _ _ _ _ c.requires.2 _ _ f c.settle_all.ensures)

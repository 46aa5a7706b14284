-- By cases on the verdict.
use borrow.Author.Rules.{rules}
use mathlib.Core.Path.{sym, ap, ◌∙◌}
use Rattle.records.specs.Rules.{within}
use Rattle.stretch_scan.specs.Scan.{at_stretch}
use Rattle.stretch_scan.proofs.at_stretch.Goals as goal

pub returns-in-Refused : goal.returns-in-Refused
returns-in-Refused c =
    c.between.ensures
    ∙ ap (λ k. within 7 k 8) c.byte_at.ensures.0
    ∙ sym (ap (at_stretch c.args.bytes.now) c.in-Refused.is)

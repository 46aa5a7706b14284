-- No window is the number 0 in each of its places.
use Rattle.std.proofs.Common.{◌≡◌, ◌*◌, ◌++◌, ℕ, zero, suc, List, refl, ap, ◌∙◌, arith, rules, replicate, drop, length-take-le, Float, ◌+◌}
use Rattle.std.proofs.lemmas.List.{length-replicate, get_or-replicate, replicate-append-replicate}
use lib.Ieee.{of_bits}
use Rattle.basics.specs.Tab.{is_tab}
use Rattle.window.specs.declared.Window.TheVariants.{Absent}
use Rattle.window.specs.Window.{none}
use Rattle.showing.specs.Shown.{pairs, marked, timed}
use Rattle.showing.proofs.show_absent.Goals as goal

absent_marks : (n : ℕ) (l : List ℕ) → replicate n 0 ++ drop n l ≡ marked (λ i. Absent) n l
unfolding marked
absent_marks n l =
    ap (λ t. t ++ drop n l) (is_tab n (λ i. 0) (replicate n 0) (length-replicate n 0) (λ k h. get_or-replicate n k 0 0 h))

absent_pairs : (n : ℕ) → replicate (n * 2) none ≡ pairs (λ i. Absent) n
unfolding pairs
absent_pairs zero = refl
absent_pairs (suc n) =
    let two : suc n * 2 ≡ n * 2 + 2 = omega arith in
    rw (two, ← replicate-append-replicate (n * 2) 2 none, absent_pairs n)

absent_times : (n : ℕ) (l : List Float) → replicate (n * 2) none ++ drop (n * 2) l ≡ timed (λ i. Absent) n l
unfolding timed
absent_times n l = ap (λ t. t ++ drop (n * 2) l) (absent_pairs n)

pub returns-clause-marks : goal.returns-clause-marks
returns-clause-marks c = ap (λ t. t ++ drop c.args.n c.args.marks.now) (c.fill.ensures.after (λ y h. search rules) ∙ ap (λ k. replicate k 0) (length-take-le c.args.n _ c.requires.for_marks)) ∙ absent_marks _ _

pub returns-clause-times : goal.returns-clause-times
unfolding of_bits
returns-clause-times c = ap (λ t. t ++ drop (c.args.n * 2) c.args.times.now) (c.fill-2.ensures.after (λ y h. search rules) ∙ ap (λ k. replicate k none) (length-take-le (c.args.n * 2) _ c.requires.for_times)) ∙ absent_times _ _

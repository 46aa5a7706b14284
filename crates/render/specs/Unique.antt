-- There is only one report on a table's bytes.
use Rattle.std.specs.Prelude.{◌≡◌, length, drop}
use Rattle.std.proofs.Math.Path.{refl, sym, ap}
use Rattle.std.proofs.Common.{◌∙◌, subst, arith}
use mathlib.Core.List.{List, ◌++◌}
use Prim.Native.Nat.{ℕ, zero, suc, ◌+◌, ◌*◌, ◌≤◌, ◌<◌}
use Rattle.std.proofs.Math.Decide.{dec_lt}
use Rattle.table.specs.declared.Read.{Read}
use Rattle.table.specs.declared.Read.TheVariants as read
use Rattle.wire.specs.Reading.{read_of}
use Rattle.wire.specs.Records.{Bytes}
use Rattle.asking.specs.Rounds.{clocks_of, rounds_in}
use Rattle.runs.specs.declared.Start.TheVariants.{LogIn}
use Rattle.runs.specs.Demand.{starts_of}
use Rattle.runs.specs.Start.{start_upper}
use Rattle.rounds.specs.declared.Count.{Count}
use Rattle.rounds.specs.One.{counts_unique}
use Rattle.plan.specs.Same.{planned_unique}
use Rattle.plan_lines.specs.PlanLines.{plan_lines}
use Rattle.plan_lines.specs.Same.{plan_lines_same}
use Rattle.plan_report.specs.Accepted.{Tabled, tabled}
use Rattle.plan_report.specs.Found.{PlannedIn}
use Rattle.count_lines.specs.Lines.{counted_line, count_line, planned_of}
use Rattle.render.specs.Reports.{rest_lines, report_of, Tells, TellsOf, Reports, Stands, Reported}

module _ (bytes : List ℕ) (n L : ℕ) (a : Tabled bytes n L) where
  plan_same : (k : ℕ) (t s u r : ℕ → ℕ) → PlannedIn bytes n L k t s → PlannedIn bytes n L k u r
      → plan_lines (k * L + n + 1) n L (k * L) t s ≡ plan_lines (k * L + n + 1) n L (k * L) u r
  plan_same k t s u r p q =
      plan_lines_same (k * L + n + 1) n L (k * L) t u s r (λ i h l. same.0 i (omega (arith, a.size k))) same.1
    where
      same : ((i : ℕ) → i ≤ length (rounds_in bytes k) → t i ≡ u i) × ((j : ℕ) → 0 < j → j ≤ n → s j ≡ r j)
      same = planned_unique (k * L + n + 1) n (rounds_in bytes k) (starts_of LogIn) (a.asked k) t s u r p q

  rest_same : (k : ℕ) (t s u r : ℕ → ℕ) → (1 ≤ k → PlannedIn bytes n L k t s) → (1 ≤ k → PlannedIn bytes n L k u r)
      → rest_lines n L k t s ≡ rest_lines n L k u r
  unfolding rest_lines
  rest_same zero t s u r p q = refl
  rest_same (suc k) t s u r p q = plan_same (suc k) t s u r (p (omega arith)) (q (omega arith))

  tells_unique : (g : ℕ) (text text' : List ℕ) → Tells bytes n L g text → Tells bytes n L g text' → text ≡ text'
  unfolding report_of
  tells_unique g text text' x y =
      x.lines
      ∙ ap (λ (z : List ℕ). counted_line n L g ++ count_line x.count ++ z) rest
      ∙ ap (λ (c : Count). report_of n L g c y.moments y.starts) one
      ∙ sym y.lines
    where
      one : x.count ≡ y.count
      one = counts_unique _ _ _ x.count y.count (start_upper LogIn (clocks_of bytes)) x.counts y.counts

      rest : rest_lines n L (planned_of x.count) x.moments x.starts
          ≡ rest_lines n L (planned_of x.count) y.moments y.starts
      rest =
          rest_same (planned_of x.count) _ _ _ _ x.planned
          (subst (λ (c : Count). 1 ≤ planned_of c → PlannedIn bytes n L (planned_of c) y.moments y.starts) (sym one)
          y.planned)

-- Two texts that are reports on the same bytes are equal.
pub report_unique : (bytes : List ℕ) → Bytes bytes → (text text' : List ℕ) → Reports bytes text → Reports bytes text'
    → text ≡ text'
report_unique bytes small text text' x y = go (read_of bytes) refl x.reports y.reports
  where
    go : (a : Read) → read_of bytes ≡ a → TellsOf a bytes text → TellsOf a bytes text' → text ≡ text'
    go (read.Refused f) e p q = p ∙ sym q
    go (read.Counted n L g) e p q = tells_unique bytes n L (tabled bytes small n L g e) g text text' p q

-- So the entry's answer and the room's contents after it are determined.
pub reported_unique : (bytes : List ℕ) → Bytes bytes → (before after after' : List ℕ) (end end' : ℕ)
    → Reported bytes before after end → Reported bytes before after' end' → (after ≡ after') × (end ≡ end')
reported_unique bytes small before after after' end end' x y = go (dec_lt (length before) 4096)
  where
    same : Stands bytes before after end → Stands bytes before after' end' → (after ≡ after') × (end ≡ end')
    same a b = (a.contents ∙ (λ i. text i ++ drop (size i) before) ∙ sym b.contents, size)
      where
        text : a.text ≡ b.text
        text = report_unique bytes small a.text b.text a.reports b.reports

        size : end ≡ end'
        size = a.size ∙ ap length text ∙ sym b.size

    go : Dec (length before < 4096) → (after ≡ after') × (end ≡ end')
    go (yes h) = ((x.short h).0 ∙ sym (y.short h).0, (x.short h).1 ∙ sym (y.short h).1)
    go (no h) = let room : 4096 ≤ length before = omega arith in same (x.stands room) (y.stands room)

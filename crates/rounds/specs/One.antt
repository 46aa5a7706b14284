-- There is only one count of a table from given starts, and only one answer to the question "rounds".
use Rattle.std.specs.Prelude.{◌≡◌, refl, List, ℕ, suc, ◌≤◌}
use Rattle.std.proofs.Common.{sym, ap, ◌∙◌, arith}
use Rattle.table.specs.Step.{Step}
use Rattle.table.specs.declared.Read.{Read}
use Rattle.table.specs.declared.Read.TheVariants as read
use Rattle.runs.specs.declared.Start.{Start}
use Rattle.runs.specs.Demand.{Starts, starts_of}
use Rattle.runs.specs.Start.{Upper, start_upper}
use Rattle.runs.specs.Copies.{exists_none}
use Rattle.rounds.specs.declared.Count.{Count}
use Rattle.rounds.specs.declared.Count.TheVariants.{Finite, Endless, Refused}
use Rattle.rounds.specs.Answer.{Allows, Counts, Answers}

-- a count allows 0 rounds, since they always run where readings of 0 are allowed: so it is no refusal
pub counts_nothing : (n : ℕ) (D : Starts) (τ : List Step) (r : Count) → Upper n D → Counts n D τ r → Allows r 0
counts_nothing n D τ r u c = (c.runs 0).0 (exists_none n D τ 1 (λ j. 0) (omega arith) (u.zero 1))

-- two counts that allow the same numbers of rounds, 0 among them
same_allowed : (r s : Count) → Allows r 0 → ((k : ℕ) → Allows r k → Allows s k) → ((k : ℕ) → Allows s k → Allows r k) → r ≡ s
same_allowed (Finite c) (Finite d) h f g =
    let low : c ≤ d = f c (omega arith) in
    let high : d ≤ c = g d (omega arith) in
    ap Finite (omega arith)
same_allowed (Finite c) Endless h f g = let over : suc c ≤ c = g (suc c) tt in absurd (omega arith)
same_allowed (Finite c) (Refused e) h f g = absurd (f 0 h)
same_allowed Endless (Finite d) h f g = let over : suc d ≤ d = f (suc d) tt in absurd (omega arith)
same_allowed Endless Endless h f g = refl
same_allowed Endless (Refused e) h f g = absurd (f 0 h)
same_allowed (Refused e) s h f g = absurd h

pub counts_unique : (n : ℕ) (D : Starts) (τ : List Step) (r s : Count) → Upper n D → Counts n D τ r → Counts n D τ s → r ≡ s
counts_unique n D τ r s u a b =
    same_allowed r s
    (counts_nothing n D τ r u a)
    (λ k h. (b.runs k).0 ((a.runs k).1 h))
    (λ k h. (a.runs k).0 ((b.runs k).1 h))

pub rounds_answer_one : (q : Read) (bytes : List ℕ) (v : Start) (r s : Count) → Answers q bytes v r → Answers q bytes v s
    → r ≡ s
rounds_answer_one (read.Refused f) bytes v r s a b = a ∙ sym b
rounds_answer_one (read.Counted n L g) bytes v r s a b = counts_unique _ (starts_of v) _ r s (start_upper v _) a b

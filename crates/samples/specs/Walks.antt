-- Steps in lines: a test that a list of steps leads on from a configuration, each at a given time, in every round.
use Rattle.std.specs.Prelude.{◌≡◌, Bool, true, false, cond, ◌&&◌}
use Rattle.std.proofs.Math.Path.{refl, ap}
use Rattle.std.proofs.Common.{subst, arith}
use Rattle.std.proofs.lemmas.Bool.{false≢true}
use mathlib.Core.List.{List, [], ◌∷◌}
use Prim.Native.Nat.{ℕ, zero, suc, ◌+◌, ◌*◌, ◌<◌}
use Rattle.table.specs.Step.{Step, resets, up_of, down_of, end_of}
use Rattle.table.specs.declared.Guard.{Guard}
use Rattle.table.specs.declared.Relation.{Relation}
use Rattle.table.specs.declared.Relation.TheVariants.{Under, AtMost, Exactly, AtLeast, Over}
use Rattle.runs.specs.Steps.{Config, Old, Met, MetBy, Move, Steps, stay, move, same_refl}
use Rattle.samples.specs.Checks.{both, all, all_every, below, below_each}
use Rattle.samples.specs.Lines.{Line, value, more, plus, times, at_most, same, at_most_lem, same_value}

-- A configuration in lines: place 0 is now, places 1 to 6 are the last resets of the clocks.
abbrev pub Lines : Type 0
Lines = ℕ → Line

-- the configuration in round r of k
abbrev pub config : ℕ → ℕ → Lines → Config
config r k u a = value r k (u a)

-- the time that a guard's clock is compared with: t, or that of the second clock's last reset
abbrev line_at_end : ℕ → Line → Lines → Line
line_at_end zero t u = t
line_at_end (suc j) t u = u (suc j)

-- the time from z, a clock's last reset, to t, compared with a constant of c parts
abbrev meets : Relation → Line → Line → Line → Bool
meets Under c z t = at_most (more t) (plus z c)
meets AtMost c z t = at_most t (plus z c)
meets Exactly c z t = same t (plus z c)
meets AtLeast c z t = at_most (plus z c) t
meets Over c z t = at_most (more (plus z c)) t

-- a guard is met at time t, in P parts to a tick: what its constant takes off stands on the other side
abbrev met : Line → Guard → Lines → Line → Bool
met P g u t = meets g.relation (times (up_of g) P) (u g.clock) (plus (line_at_end g.second t u) (times (down_of g) P))

-- no clock was last reset after now
unfoldable pub old : Lines → Bool
old u = below 7 (λ j. at_most (u j) (u 0))

-- a step may happen at time t, in P parts to a tick
unfoldable pub may : Line → Step → Line → Lines → Bool
may P s t u =
    at_most (u 0) t && old u && all (λ g. met P g u t) s.guards

-- the configuration after it
unfoldable pub after : Step → Line → Lines → Lines
after s t u zero = t
after s t u (suc j) = cond (resets s (suc j)) t (u (suc j))

-- the steps may happen one after the other, at the times ts
unfoldable pub walks : Line → List Step → List Line → Lines → Bool
walks P [] ts u = true
walks P (s ∷ σ) [] u = false
walks P (s ∷ σ) (t ∷ ts) u = may P s t u && walks P σ ts (after s t u)

-- the configuration after them
unfoldable pub end : List Step → List Line → Lines → Lines
end [] ts u = u
end (s ∷ σ) [] u = u
end (s ∷ σ) (t ∷ ts) u = end σ ts (after s t u)

-- a clock that the step resets, and one that it does not
after_reset : (s : Step) (t : Line) (u : Lines) (j : ℕ) → 0 < j → resets s j ≡ true → after s t u j ≡ t
unfolding after
after_reset s t u zero p e = refl
after_reset s t u (suc j) p e = rw e

after_kept : (s : Step) (t : Line) (u : Lines) (j : ℕ) → 0 < j → resets s j ≡ false → after s t u j ≡ u j
unfolding after
after_kept s t u zero p e = absurd (omega arith)
after_kept s t u (suc j) p e = rw e

-- ---- in round r of k
module _ (r k : ℕ) (b : r < k) where
  meets_met : (q : Relation) (c d : ℕ) (P z t : Line) → meets q (times c P) z (plus t (times d P)) ≡ true
      → Met q (c * value r k P) (value r k z) (value r k t + d * value r k P)
  meets_met Under c d P z t e = let h = at_most_lem r k b (more (plus t (times d P))) (plus z (times c P)) e in omega arith
  meets_met AtMost c d P z t e = let h = at_most_lem r k b (plus t (times d P)) (plus z (times c P)) e in omega arith
  meets_met Exactly c d P z t e = let h = same_value r k (plus t (times d P)) (plus z (times c P)) e in omega arith
  meets_met AtLeast c d P z t e = let h = at_most_lem r k b (plus z (times c P)) (plus t (times d P)) e in omega arith
  meets_met Over c d P z t e = let h = at_most_lem r k b (more (plus z (times c P))) (plus t (times d P)) e in omega arith

  end_value : (j : ℕ) (t : Line) (u : Lines) → value r k (line_at_end j t u) ≡ end_of j (value r k t) (config r k u)
  unfolding end_of
  end_value zero t u = refl
  end_value (suc j) t u = refl

  met_by : (P : Line) (g : Guard) (u : Lines) (t : Line) → met P g u t ≡ true → MetBy (value r k P) g (config r k u) (value r k t)
  met_by P g u t e =
      subst (λ n. Met g.relation (up_of g * value r k P) (value r k (u g.clock)) (n + down_of g * value r k P))
      (end_value g.second t u)
      (meets_met g.relation (up_of g) (down_of g) P (u g.clock) (line_at_end g.second t u) e)

  pub old_is : (u : Lines) → old u ≡ true → Old (config r k u)
  unfolding old
  old_is u e j l = at_most_lem r k b (u j) (u 0) (below_each 7 (λ j. at_most (u j) (u 0)) e j l)

  may_move : (P : Line) (s : Step) (t : Line) (u : Lines) → may P s t u ≡ true
      → Move (value r k P) s (config r k u) (config r k (after s t u))
  unfolding may after
  may_move P s t u e =
      let (h, guards) = both e in
      let (later, earlier) = both h in
      record {
        later = at_most_lem r k b (u 0) t later;
        old = old_is u earlier;
        guarded = λ g i. met_by P g u t (all_every _ s.guards guards g i);
        reset = λ j p l q. ap (value r k) (after_reset s t u j p q);
        kept = λ j p l q. ap (value r k) (after_kept s t u j p q);
      }

  -- The steps lead on.
  pub walks_steps : (P : Line) (σ : List Step) (ts : List Line) (u : Lines) → walks P σ ts u ≡ true
      → Steps (value r k P) σ (config r k u) (config r k (end σ ts u))
  unfolding walks end
  walks_steps P [] ts u e = stay (same_refl (config r k u))
  walks_steps P (s ∷ σ) [] u e = absurd (false≢true e)
  walks_steps P (s ∷ σ) (t ∷ ts) u e =
      let (h, rest) = both e in
      move (may_move P s t u h) (walks_steps P σ ts (after s t u) rest)

-- The partners and one way forth settle what they check.
use Rattle.std.specs.Prelude.{◌≡◌, ◌≢◌, ℕ, zero, suc, ◌+◌, ◌≤◌, ◌<◌}
use Rattle.std.proofs.Common.{sym, ap, subst, ◌∙◌, inl, inr, arith}
use mathlib.Core.List.Memᴰ
use mathlib.Core.List.{List, ◌++◌, Memᴰ, map-append}
use Rattle.runs.specs.declared.Demand.{Demand}
use Rattle.runs.specs.Demand.{Starts}
use Rattle.runs.specs.Start.{Upper}
use Rattle.sweeps.specs.Order.{forth_at, forth_of, forth_none, forth_more, partners_from}
use Rattle.sweeps.specs.Ends.{Earlier, forth_at_ends, forth_raises, ToStart, partners_ends}
use Rattle.paths.specs.Constraint.{Constraint}
use Rattle.paths.specs.Onward.{Onward, none, onward_all, onward_append}
use Rattle.checks.specs.InParts.{edge, edges}

-- no demand of ys raises the end of one of xs
abbrev pub Apart : List Demand → List Demand → Type 0
Apart xs ys = (c d : Demand) → Memᴰ c xs → Memᴰ d ys → d.from ≢ c.to

edges_apart : (xs ys : List Demand) → Apart xs ys
    → (c d : Constraint) → Memᴰ c (edges xs) → Memᴰ d (edges ys) → d.from ≢ c.to
edges_apart xs ys h c d k m = go (Memᴰ.of_map edge xs k) (Memᴰ.of_map edge ys m)
  where
    go : (a : Demand) × Memᴰ a xs × (edge a ≡ c) → (b : Demand) × Memᴰ b ys × (edge b ≡ d) → d.from ≢ c.to
    go a b e = h a.0 b.0 a.1 b.1 (ap (λ z. z.from) b.2 ∙ e ∙ sym (ap (λ z. z.to) a.2))

pub edges_onward : (xs : List Demand) → Apart xs xs → Onward (edges xs)
edges_onward xs h = onward_all (edges xs) (edges_apart xs xs h)

pub edges_append : (xs ys : List Demand) → Onward (edges xs) → Onward (edges ys) → Apart xs ys
    → Onward (edges (xs ++ ys))
edges_append xs ys a b h =
    subst Onward (sym (map-append edge xs ys))
    (onward_append (edges xs) (edges ys) a b (edges_apart xs ys h))

module _ (low far : List ℕ) (L n K : ℕ) where
  -- an earlier moment is none that is raised later
  apart : (i a b : ℕ) → Earlier K i a → i < b → b ≤ K → b ≢ a
  apart i a b (inl l) p q e = omega arith
  apart i a b (inr l) p q e = omega arith

  forth_onward : (i m : ℕ) → i + m ≤ K → Onward (edges (forth_of low far L n K i m))
  forth_onward i zero l = subst (λ ds. Onward (edges ds)) (sym (forth_none low far L n K i)) none
  forth_onward i (suc m) l =
      subst (λ ds. Onward (edges ds)) (sym (forth_more low far L n K i m))
      (edges_append (forth_at low far L n K i) (forth_of low far L n K (suc i) m)
      (edges_onward (forth_at low far L n K i) (λ c d k j.
      apart i c.to d.from (forth_at_ends low far L n K i c k).1
      (omega (arith, (forth_at_ends low far L n K i d j).0)) (omega (arith, (forth_at_ends low far L n K i d j).0))))
      (forth_onward (suc i) m (omega arith))
      (λ c d k j.
      apart i c.to d.from (forth_at_ends low far L n K i c k).1
      (omega (arith, (forth_raises low far L n K (suc i) m d j).0)) (omega (arith, (forth_raises low far L n K (suc i) m d j).1))))

  -- The partners raise the last resets before the start, and the way forth later moments: nothing raises the start, where they end.
  pub way_onward : (D : Starts) → Upper n D → Onward (edges (partners_from K D 1 n ++ forth_of low far L n K 0 K))
  way_onward D u =
      edges_append (partners_from K D 1 n) (forth_of low far L n K 0 K)
      (edges_onward (partners_from K D 1 n) (λ c d k j e. omega (arith, (ends c k).1, (ends d j).0)))
      (forth_onward 0 K (omega arith))
      (λ c d k j e. omega (arith, (ends c k).1, (forth_raises low far L n K 0 K d j).0))
    where
      ends : (d : Demand) → Memᴰ d (partners_from K D 1 n) → ToStart K d
      ends = partners_ends K n D u 1 n (omega arith) (omega arith)

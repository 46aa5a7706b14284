-- Times that no others can undercut: chains of tight demands.
use Rattle.std.specs.Prelude.{◌≡◌, ◌⊎◌, true, ◌&&◌, ◌||◌, leb}
use Rattle.std.proofs.Math.Path.{ap}
use Rattle.std.proofs.Common.{inl, inr, arith}
use Rattle.std.proofs.Math.Bool.{Bool}
use mathlib.Core.List.{List, Memᴰ}
use Prim.Native.Nat.{ℕ, zero, suc, ◌+◌, ◌≤◌}
use Rattle.std.proofs.Math.Dec.{eqb}
use borrow.Author.Tests.{eqb-true, leb-true}
use Rattle.runs.specs.declared.Demand.{Demand}
use Rattle.runs.specs.Parts.{gain, loss, holds_parts}
use Rattle.runs.specs.Satisfies.{Satisfies}
use Rattle.samples.specs.Checks.{both, either, all, all_every, some, some_member}

module _ (P : ℕ) (ds : List Demand) (x : ℕ → ℕ) where
  -- the times x satisfy all demands
  abbrev pub solves : Bool
  solves = all (λ d. leb (x d.to + gain P d) (x d.from + loss P d)) ds

  pub solves_satisfies : solves ≡ true → Satisfies P x ds
  solves_satisfies e d m = (holds_parts P x d).1 (leb-true _ _ (all_every _ ds e d m))

  -- a demand leaves no room between its two times
  abbrev pub tight : Demand → Bool
  tight d = leb (x d.from + loss P d) (x d.to + gain P d)

  -- what a tight demand says of other times that satisfy the demands
  pub tight_other : (y : ℕ → ℕ) → Satisfies P y ds → (d : Demand) → Memᴰ d ds → tight d ≡ true
      → y d.to + x d.from ≤ y d.from + x d.to
  tight_other y h d m e =
      let full : x d.from + loss P d ≤ x d.to + gain P d = leb-true _ _ e in
      omega (arith, (holds_parts P y d).0 (h d m))

  -- A moment that can't be earlier, counted from moment 0: tight demands, at most so many, lead from it to moment 0.
  unfoldable pub held : ℕ → ℕ → Bool
  held zero a = eqb a 0
  held (suc few) a = eqb a 0 || some (λ e. eqb e.from a && (tight e && held few e.to)) ds

  pub held_first : (few a : ℕ) → held few a ≡ true → (y : ℕ → ℕ) → Satisfies P y ds → x a + y 0 ≤ y a + x 0
  unfolding held
  held_first zero a e y h = let q : a ≡ 0 = eqb-true a 0 e in omega (arith, ap x q, ap y q)
  held_first (suc few) a e y h = go (held_first few) (either (eqb a 0) _ e)
    where
      through : Demand → Bool
      through d = eqb d.from a && (tight d && held few d.to)

      go : ((b : ℕ) → held few b ≡ true → (y : ℕ → ℕ) → Satisfies P y ds → x b + y 0 ≤ y b + x 0)
          → (eqb a 0 ≡ true) ⊎ (some through ds ≡ true) → x a + y 0 ≤ y a + x 0
      go k (inl i) = let q : a ≡ 0 = eqb-true a 0 i in omega (arith, ap x q, ap y q)
      go k (inr i) =
          let (d, m, j) = some_member through ds i in
          let (from, j1) = both {a = eqb d.from a} {b = tight d && held few d.to} j in
          let (full, later) = both {a = tight d} {b = held few d.to} j1 in
          let q : d.from ≡ a = eqb-true d.from a from in
          omega (arith, ap x q, ap y q, tight_other y h d m full, k d.to later y h)

  -- A moment that can't be later while moments 0 to K stay: tight demands, at most so many, lead to it from one of these.
  unfoldable pub pinned : ℕ → ℕ → ℕ → Bool
  pinned K zero b = leb b K
  pinned K (suc few) b = leb b K || some (λ e. eqb e.to b && (tight e && pinned K few e.from)) ds

  module _ (K : ℕ) (y : ℕ → ℕ) (h : Satisfies P y ds) (same : (a : ℕ) → a ≤ K → x a + y 0 ≡ y a + x 0) where
    pub pinned_last : (few b : ℕ) → pinned K few b ≡ true → y b + x 0 ≤ x b + y 0
    unfolding pinned
    pinned_last zero b e = omega (arith, same b (leb-true b K e))
    pinned_last (suc few) b e = go (pinned_last few) (either (leb b K) _ e)
      where
        through : Demand → Bool
        through d = eqb d.to b && (tight d && pinned K few d.from)

        go : ((a : ℕ) → pinned K few a ≡ true → y a + x 0 ≤ x a + y 0) → (leb b K ≡ true) ⊎ (some through ds ≡ true)
            → y b + x 0 ≤ x b + y 0
        go k (inl i) = omega (arith, same b (leb-true b K i))
        go k (inr i) =
            let (d, m, j) = some_member through ds i in
            let (to, j1) = both {a = eqb d.to b} {b = tight d && pinned K few d.from} j in
            let (full, before) = both {a = tight d} {b = pinned K few d.from} j1 in
            let q : d.to ≡ b = eqb-true d.to b to in
            omega (arith, ap x q, ap y q, tight_other y h d m full, k d.from before)

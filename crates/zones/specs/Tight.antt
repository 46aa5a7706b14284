-- A closed matrix says no more than its solutions: every entry is the tightest bound that all of them keep.
use Rattle.std.specs.Prelude.{◌≡◌, refl, ◌⊎◌, ◌≢◌, ℕ, ◌+◌, ◌*◌, ◌<◌}
use Rattle.std.proofs.Common.{sym, inl, inr, arith, mul-pos}
use Rattle.std.proofs.Math.Decide.{ℕ_discrete}
use Rattle.basics.specs.Choice.{choose, choose_yes, choose_no, either}
use Rattle.zones.specs.Bound.{Bound, none, some, half, strict, ◌⊕◌, ◌⊑◌, weak_zero, Sat, ⊑_trans, dec⊑, sum_split}
use Rattle.zones.specs.Values.{sat_self, self_sat, sat_unscale}
use Rattle.zones.specs.Matrix.{Matrix, Closed, Flat, Solves}
use Rattle.zones.specs.Extend.{Fits, Extension, extend, solve}

-- Two values that keep a one way and c the other, and not e.
record Apart (a c e : Bound) : Type 0 where
  u : ℕ
  v : ℕ
  there : Sat 2 a u v
  back : Sat 2 c v u
  not : ¬ Sat 2 e u v

-- Where a and c make no negative cycle and a is not as tight as e, there are such values.
apart : (a c e : Bound) → weak_zero ⊑ a ⊕ c → ¬ (a ⊑ e) → Apart a c e
apart a c none r n = absurd (n (record { le = tt }))
apart none none (some f y) r n = record {
  u = 0;
  v = 2 * half f + 2;
  there = record { holds = tt };
  back = record { holds = tt };
  not = λ s. omega (arith, s.holds);
}
apart none (some k w) (some f y) r n = record {
  u = 0;
  v = 2 * half f + 2 * w + 2;
  there = record { holds = tt };
  back = record { holds = omega arith };
  not = λ s. omega (arith, s.holds);
}
apart (some g z) none (some f y) r n = record {
  u = 2 * z + strict g;
  v = 2 * half g;
  there = record { holds = omega arith };
  back = record { holds = tt };
  not = λ s. n (record { le = omega (arith, s.holds) });
}
apart (some g z) (some k w) (some f y) r n = record {
  u = 2 * z + strict g;
  v = 2 * half g;
  there = record { holds = omega arith };
  back = record { holds = omega (arith, r.le, sum_split g k) };
  not = λ s. n (record { le = omega (arith, s.holds) });
}

module _ (N : ℕ) (M : Matrix) (cl : Closed N M) (a b : ℕ) (ha : a < N) (hb : b < N) (e : Bound) where
  -- Such values for two vertices extend to a solution that does not keep e.
  breaks : a ≢ b → Apart (M a b) (M b a) e
      → (P : ℕ) × (0 < P) × ((x : ℕ → ℕ) × Solves N P M x × (¬ Sat P e (x a) (x b)))
  breaks ne t =
      (r.0.parts, rw r.0.parts_is (mul-pos r.0.scale_pos (omega arith)), (r.0.value, r.1, fails))
    where
      S : ℕ → Type 0
      S c = (c ≡ a) ⊎ (c ≡ b)

      x : ℕ → ℕ
      x c = choose (ℕ_discrete c a) t.u t.v

      xa : x a ≡ t.u
      xa = choose_yes (ℕ_discrete a a) t.u t.v refl

      xb : x b ≡ t.v
      xb = choose_no (ℕ_discrete b a) t.u t.v (λ p. ne (sym p))

      fits : Fits N 2 M S x
      fits c d hc hd (inl p) (inl q) = rw (p, q) (sat_self 2 (x a) (M a a) (omega arith) (cl.diag a ha))
      fits c d hc hd (inl p) (inr q) = rw (p, q, xa, xb) t.there
      fits c d hc hd (inr p) (inl q) = rw (p, q, xa, xb) t.back
      fits c d hc hd (inr p) (inr q) = rw (p, q) (sat_self 2 (x b) (M b b) (omega arith) (cl.diag b hb))

      r : (r : Extension N 2 M S x N) × Solves N r.parts M r.value
      r = extend N 2 M cl S (λ c. either (ℕ_discrete c a) (ℕ_discrete c b)) x (omega arith) fits

      fails : ¬ Sat r.0.parts e (r.0.value a) (r.0.value b)
      fails s = t.not (sat_unscale r.0.scale r.0.shift 2 t.u t.v e r.0.scale_pos
          (rw (r.0.parts_is, r.0.value_is a ha (inl refl), r.0.value_is b hb (inr refl), xa, xb) at s))

  -- What every solution of a closed flat matrix keeps from a to b is no tighter than the entry.
  pub tight : Flat N M → ((P : ℕ) (x : ℕ → ℕ) → 0 < P → Solves N P M x → Sat P e (x a) (x b)) → M a b ⊑ e
  tight flat h = go (ℕ_discrete a b) (dec⊑ (M a b) e)
    where
      go : Dec (a ≡ b) → Dec (M a b ⊑ e) → M a b ⊑ e
      go p (yes k) = k
      go (yes p) (no n) =
          let (P, l, (x, s)) = solve N M cl in
          rw (← p) (⊑_trans (flat a ha) (self_sat P (x a) e l (rw (← p) at (h P x l s))))
      go (no p) (no n) =
          let cycle : weak_zero ⊑ M a b ⊕ M b a = ⊑_trans (cl.diag a ha) (cl.tri a a b ha ha hb) in
          let (P, l, (x, s, k)) = breaks p (apart (M a b) (M b a) e cycle n) in
          absurd (k (h P x l s))

-- Demands that stand for others: some of them, and as tight as all of them.
use Rattle.std.specs.Prelude.{◌≡◌, refl, ◌⊎◌, ◌↔◌, Bool, true, false, ℕ, ◌+◌, ◌*◌, ◌<◌}
use Rattle.std.proofs.Common.{◌∙◌, ap, inl, inr, ⊎_elim, arith, mul-le-mul_right}
use Rattle.std.proofs.lemmas.Bool.{false≢true}
use mathlib.Core.List.{List, ◌++◌, Memᴰ}
use mathlib.Core.List.Memᴰ
use Rattle.runs.specs.declared.Demand.{Demand}
use Rattle.runs.specs.Demand.{Within, Holds}
use Rattle.runs.specs.Loop.{Link, AsTight, Tightest, Along, last, then, Loop}
use Rattle.runs.specs.Satisfies.{Satisfies}
use Rattle.runs.specs.Tighten.{tight_refl, tight_trans}

-- e says at least what d says
pub record Stronger (e d : Demand) : Type 0 where
  pub from : e.from ≡ d.from
  pub to : e.to ≡ d.to
  pub tight : AsTight e d

-- es stands for ds
pub record Covers (es ds : List Demand) : Type 0 where
  pub among : (e : Demand) → Memᴰ e es → Memᴰ e ds
  pub covered : (d : Demand) → Memᴰ d ds → (e : Demand) × Memᴰ e es × Stronger e d

-- demands stand for themselves
pub covers_same : (ds : List Demand) → Covers ds ds
covers_same ds =
    record {
      among = λ e m. m;
      covered = λ d m. (d, m, record { from = refl; to = refl; tight = tight_refl d });
    }

pub covers_append : {ps qs cs ds : List Demand} → Covers ps qs → Covers cs ds → Covers (ps ++ cs) (qs ++ ds)
covers_append {ps} {qs} {cs} {ds} f g =
    record {
      among = λ e m.
          ⊎_elim (λ l. Memᴰ.append_left ds (f.among e l)) (λ l. Memᴰ.append_right qs (g.among e l))
          (Memᴰ.append_cases ps m);
      covered = λ d m. ⊎_elim (left d) (right d) (Memᴰ.append_cases qs m);
    }
  where
    left : (d : Demand) → Memᴰ d qs → (e : Demand) × Memᴰ e (ps ++ cs) × Stronger e d
    left d m = let c = f.covered d m in (c.0, Memᴰ.append_left cs c.1, c.2)

    right : (d : Demand) → Memᴰ d ds → (e : Demand) × Memᴰ e (ps ++ cs) × Stronger e d
    right d m = let c = g.covered d m in (c.0, Memᴰ.append_right ps c.1, c.2)

-- ---- the same solutions
within : (P a b u v p q : ℕ) (s r : Bool) → (u + q < v + p) ⊎ ((u + q ≡ v + p) × (r ≡ true → s ≡ true))
    → 0 < P → Within s (a + p * P) (b + u * P) → Within r (a + q * P) (b + v * P)
within P a b u v p q true true (inl l) pos h =
    omega (arith, mul-le-mul_right P l)
within P a b u v p q true false (inl l) pos h = omega (arith, mul-le-mul_right P l)
within P a b u v p q false true (inl l) pos h = omega (arith, mul-le-mul_right P l)
within P a b u v p q false false (inl l) pos h = omega (arith, mul-le-mul_right P l)
within P a b u v p q true true (inr e) pos h = omega (arith, ap (λ n. n * P) e.0)
within P a b u v p q true false (inr e) pos h = omega (arith, ap (λ n. n * P) e.0)
within P a b u v p q false true (inr e) pos h = absurd (false≢true (e.1 refl))
within P a b u v p q false false (inr e) pos h = omega (arith, ap (λ n. n * P) e.0)

pub stronger_holds : (P : ℕ) (x : ℕ → ℕ) (e d : Demand) → 0 < P → Stronger e d → Holds P x e → Holds P x d
stronger_holds P x e d p s h =
    record {
      holds =
          within P (x d.to) (x d.from) e.up d.up e.down d.down e.strict d.strict s.tight p
          (rw (ap x s.to, ap x s.from) at h.holds);
    }

pub covers_satisfies : {es ds : List Demand} → Covers es ds → (P : ℕ) (x : ℕ → ℕ) → 0 < P
    → Satisfies P x es ↔ Satisfies P x ds
covers_satisfies c P x p = (
  (λ h d m. let k = c.covered d m in stronger_holds P x k.0 d p k.2 (h k.0 k.1)),
  λ h e m. h e (c.among e m),
)

-- ---- the same loops
module _ {es ds : List Demand} (c : Covers es ds) where
  tightest_covers : (a b : ℕ) (e : Demand) → Tightest es a b e → Tightest ds a b e
  tightest_covers a b e t =
      record {
        link = record { among = c.among e t.link.among; from = t.link.from; to = t.link.to };
        least = least;
      }
    where
      least : (d : Demand) → Link ds a b d → AsTight e d
      least d l =
          let k = c.covered d l.among in
          tight_trans e k.0 d
          (t.least k.0 (record { among = k.1; from = k.2.from ∙ l.from; to = k.2.to ∙ l.to }))
          k.2.tight

  along_covers : {ms : List ℕ} {z : ℕ} {us : List Demand} → Along (Tightest es) ms z us → Along (Tightest ds) ms z us
  along_covers (last t) = last (tightest_covers _ _ _ t)
  along_covers (then t r) = then (tightest_covers _ _ _ t) (along_covers r)

  pub covers_loop : (ms : List ℕ) → Loop es ms → Loop ds ms
  covers_loop ms l =
      record {
        size = l.size;
        distinct = l.distinct;
        used = l.used;
        around = along_covers l.around;
        negative = l.negative;
      }

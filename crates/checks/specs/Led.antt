-- The demands of the guards between two clocks of one step, as the row tells them, guard by guard.
use Rattle.std.specs.Prelude.{◌≡◌, refl, Bool, true, false, cond, List, [], ◌∷◌, ◌++◌, ℕ, suc, ◌+◌, ◌/◌, ◌%◌, ◌≤◌, ◌<◌, eqb, length, get_or}
use Rattle.std.proofs.Common.{sym, ◌∙◌, append-nil, arith, mod-lt, eq-eqb, ne_eqb}
use Rattle.std.proofs.Math.Path.{ap}
use Rattle.std.proofs.Math.Numerals.{add-one}
use Rattle.std.proofs.Math.Seq.{slice, slice-cons, slice_empty}
use Rattle.table.specs.Step.{up_of, down_of, end_some, step_at}
use Rattle.table.specs.declared.Guard.{Guard}
use Rattle.runs.specs.declared.Demand.{Demand}
use Rattle.runs.specs.Demand.{guard_demands, guards_demands, demands_at}
use Rattle.scaling.specs.Constants.{with_constant}
use Rattle.sides.specs.Tight.{paired}
use Rattle.leads.specs.Codes.{guard_at, signed_is}
use Rattle.leads.specs.Leads.{unread, led_by, led_size, led_at, Leading, led_none}
use Rattle.last_resets.specs.Distance.{last_of}
use Rattle.sweeps.specs.Order.{cell, leads_at, back_of, upper_of, back_upper}

-- the last resets before step i of K, which is step s of its round
abbrev pub lasts_at : List ℕ → ℕ → ℕ → ℕ → ℕ → ℕ
lasts_at far K s i j = last_of (get_or far (cell s j) 0) K i j

-- the demands of one number
unfoldable pub lead_demands : ℕ → ℕ → (ℕ → ℕ) → List Demand
lead_demands c i z = guards_demands (paired (guard_at c ∷ [])) i z

pub lead_none : (c i : ℕ) (z : ℕ → ℕ) → c / 7 % 7 ≡ 0 → lead_demands c i z ≡ []
unfolding lead_demands guards_demands paired guard_at
lead_none c i z e = rw (eq-eqb (c / 7 % 7) 0 e)

some_is : (g : Guard) (i : ℕ) (z : ℕ → ℕ) → ¬ (g.second ≡ 0)
    → guards_demands (paired (g ∷ [])) i z ≡ guard_demands g.relation (up_of g) (down_of g) (z g.clock) (z g.second)
unfolding guards_demands paired
some_is g i z n =
    rw (ne_eqb g.second 0 n)
    (append-nil (demands_at g i z)
    ∙ ap (guard_demands g.relation (up_of g) (down_of g) (z g.clock)) (end_some g.second i z (omega arith)))

plain : (c i : ℕ) (z : ℕ → ℕ) → ¬ (c / 7 % 7 ≡ 0)
    → guards_demands (paired (guard_at c ∷ [])) i z
    ≡ guard_demands (guard_at c).relation (up_of (guard_at c)) (down_of (guard_at c)) (z (c % 7)) (z (c / 7 % 7))
unfolding guard_at
plain c i z n = some_is (guard_at c) i z n

pub lead_some : (c i : ℕ) (z : ℕ → ℕ) (g : Guard) → g ≡ with_constant 0 (guard_at c) → ¬ (c / 7 % 7 ≡ 0)
    → lead_demands c i z
    ≡ guard_demands g.relation (up_of (with_constant (c / 490) g)) (down_of (with_constant (c / 490) g)) (z (c % 7)) (z (c / 7 % 7))
unfolding lead_demands
lead_some c i z g e n =
    plain c i z n
    ∙ ap (λ (x : Guard). guard_demands x.relation (up_of x) (down_of x) (z (c % 7)) (z (c / 7 % 7))) (sym (signed_is c g e))

-- What is asked of the rows and of the step.
pub record Led (row far : List ℕ) (K s i : ℕ) : Type 0 where
  pub size : length row ≡ 82
  pub order : get_or row s 0 ≤ get_or row (s + 1) 0
  pub room : get_or row (s + 1) 0 ≤ 64
  pub reached : length far ≡ 112
  pub few : K ≤ 1024
  pub step : s < 16
  pub past : i ≤ 1024

-- from guard k on
unfoldable pub leads_from : List ℕ → List ℕ → ℕ → ℕ → ℕ → ℕ → List Demand
leads_from row far K s i k = guards_demands (paired (slice k (get_or row (s + 1) 0) (led_by row).guards)) (suc i) (lasts_at far K s i)

pub leads_first : (row far : List ℕ) (K s i : ℕ) → leads_at (led_by row) far K s i ≡ leads_from row far K s i (get_or row s 0)
unfolding leads_from step_at
leads_first row far K s i = refl

-- where the last step ends at 0 there are none
pub leads_none : (row : List ℕ) (L : ℕ) → Leading row L → get_or row L 0 ≡ 0 → (far : List ℕ) (K s i : ℕ) → s < L
    → leads_at (led_by row) far K s i ≡ []
unfolding guards_demands paired
leads_none row L a e far K s i l = ap (λ gs. guards_demands (paired gs) (suc i) (lasts_at far K s i)) (led_none row L a e s l)

-- and then what is checked back is guards from above alone
pub upper_all : (up row far : List ℕ) (L n K : ℕ) → 0 < L → Leading row L → get_or row L 0 ≡ 0
    → back_of up (led_by row) far L n K K ≡ upper_of up far L n K K
upper_all up row far L n K p a e = back_upper up far L n K (led_by row) K (λ s l. leads_none row L a e far K (s % L) s (mod-lt s p))

paired_split : (g : Guard) (gs : List Guard) (i : ℕ) (z : ℕ → ℕ)
    → guards_demands (paired (g ∷ gs)) i z ≡ guards_demands (paired (g ∷ [])) i z ++ guards_demands (paired gs) i z
unfolding paired guards_demands
paired_split g gs i z = go (eqb g.second 0)
  where
    go : (b : Bool)
        → guards_demands (cond b (paired gs) (g ∷ paired gs)) i z
        ≡ guards_demands (cond b [] (g ∷ [])) i z ++ guards_demands (paired gs) i z
    go true = refl
    go false = ap (λ ds. ds ++ guards_demands (paired gs) i z) (sym (append-nil (demands_at g i z)))

module _ (row far : List ℕ) (K s i : ℕ) (a : Led row far K s i) (k : ℕ) where
  pub leads_more : k < get_or row (s + 1) 0
      → leads_from row far K s i k ≡ lead_demands (get_or row (18 + k) 0) (i + 1) (lasts_at far K s i) ++ leads_from row far K s i (k + 1)
  unfolding leads_from lead_demands
  leads_more l =
      rw (add-one k, add-one i)
      (ap (λ gs. guards_demands (paired gs) (suc i) (lasts_at far K s i))
      (slice-cons k (get_or row (s + 1) 0) (led_by row).guards unread l (omega (arith, a.room, led_size row a.size)))
      ∙ ap (λ g. guards_demands (paired (g ∷ slice (suc k) (get_or row (s + 1) 0) (led_by row).guards)) (suc i) (lasts_at far K s i))
      (led_at row a.size k (omega (arith, a.room)))
      ∙ paired_split (guard_at (get_or row (18 + k) 0)) _ (suc i) (lasts_at far K s i))

  pub leads_done : k ≡ get_or row (s + 1) 0 → leads_from row far K s i k ≡ []
  unfolding leads_from paired guards_demands
  leads_done e = rw (e, slice_empty (get_or row (s + 1) 0) (led_by row).guards)

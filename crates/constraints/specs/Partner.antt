-- The demands of a variant of the start, clock by clock.
use Rattle.std.specs.Prelude.{◌≡◌, refl, false, List, [], ◌∷◌, map, ℕ, zero, suc, ◌+◌, ◌*◌, ◌≤◌, ◌<◌, length}
use Rattle.std.proofs.Common.{ap, arith, length-append}
use Rattle.std.proofs.lemmas.List.{length-map}
use Rattle.runs.specs.declared.Demand.{Demand}
use Rattle.runs.specs.declared.Start.{Start}
use Rattle.runs.specs.declared.Start.TheVariants.{LogIn, MidShift}
use Rattle.runs.specs.Demand.{plus, moment, moved, zero_starts, any_starts, starts_of, start_demands}
use Rattle.constraints.specs.declared.Partner.{Partner}
use Rattle.constraints.specs.declared.Partner.TheVariants.{One, None}

-- a partner as a list
abbrev pub partner_list : Partner → List Demand
partner_list (One d) = d ∷ []
partner_list None = []

-- the number of partners for each clock
abbrev pub partners_of : Start → ℕ
partners_of LogIn = 1
partners_of MidShift = 0

pub partners_are : (v : Start) (j : ℕ) → length (starts_of v j) ≡ partners_of v
unfolding zero_starts any_starts
partners_are LogIn j = refl
partners_are MidShift j = refl

pub partners_few : (v : Start) → partners_of v ≤ 1
partners_few LogIn = omega arith
partners_few MidShift = omega arith

-- ---- case by case, as moments of K steps

moment_clock : (K j : ℕ) → 0 < j → moment K j ≡ K + j
moment_clock K zero p = absurd (omega arith)
moment_clock K (suc j) p = refl

pub partner_log_in : (K j : ℕ) → 0 < j → map (moved K) (starts_of LogIn j) ≡ plus (K + j) 0 0 false ∷ []
unfolding zero_starts
partner_log_in K j p = ap (λ a. plus a 0 0 false ∷ []) (moment_clock K j p)

pub partner_mid_shift : (K j : ℕ) → map (moved K) (starts_of MidShift j) ≡ []
unfolding any_starts
partner_mid_shift K j = refl

-- The start demands of a clock are one, and its partners.
pub starts_number : (v : Start) (K j n : ℕ) → length (start_demands K (starts_of v) j n) ≡ n * (1 + partners_of v)
unfolding start_demands
starts_number v K j zero = omega arith
starts_number v K j (suc n) =
    omega (
      arith,
      length-append (map (moved K) (starts_of v j)) (start_demands K (starts_of v) (suc j) n),
      length-map (starts_of v j) (moved K),
      partners_are v j,
      starts_number v K (suc j) n,
    )

-- ---- what a partner is made of

pub partner_one : (v : Start) (K j : ℕ) (d : Demand) → 0 < j → v ≡ LogIn → d ≡ plus (K + j) 0 0 false
    → partner_list (One d) ≡ map (moved K) (starts_of v j)
partner_one v K j d p e f = rw (e, f, partner_log_in K j p)

pub partner_none : (v : Start) (K j : ℕ) → v ≡ MidShift → partner_list None ≡ map (moved K) (starts_of v j)
partner_none v K j e = rw (e, partner_mid_shift K j)

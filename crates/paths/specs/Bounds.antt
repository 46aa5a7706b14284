-- Sizes are kept, and times grow by at most the largest gain a check, so that sums do not wrap.
use Rattle.std.specs.Prelude.{◌≡◌, Bool, true, false, cond}
use Rattle.std.proofs.Math.Path.{refl}
use Rattle.std.proofs.Common.{◌∙◌, suc-mul, arith, length-set}
use mathlib.Core.List.{List, [], ◌∷◌, Memᴰ}
use Prim.Native.Nat.{ℕ, zero, suc, ◌+◌, ◌*◌, ◌≤◌, ◌<◌, ◌^◌}
use Rattle.std.proofs.Math.Nat.{zero-mul}
use Rattle.std.proofs.Math.ListN.{length}
use Rattle.basics.specs.Places.{at, set_under}
use Rattle.paths.specs.Constraint.{Constraint, Fits, fits_tail}
use Rattle.paths.specs.State.{State, low_of, raise_of, relax_of, pass_of, passes_of, Below}

-- ---- sizes
-- The three lists are as long as before.
pub record SameSize (s s' : State) : Type 0 where
  pub time : length s'.time ≡ length s.time
  pub parent : length s'.parent ≡ length s.parent
  pub stamp : length s'.stamp ≡ length s.stamp

-- There is room for the vertices below N; what the lists hold after them is of no concern.
pub record Room (N : ℕ) (s : State) : Type 0 where
  pub time : N ≤ length s.time
  pub parent : N ≤ length s.parent
  pub stamp : N ≤ length s.stamp

size_none : (s : State) → SameSize s s
size_none s = record { time = refl; parent = refl; stamp = refl }

size_trans : (s s' s'' : State) → SameSize s s' → SameSize s' s'' → SameSize s s''
size_trans s s' s'' a b =
    record { time = b.time ∙ a.time; parent = b.parent ∙ a.parent; stamp = b.stamp ∙ a.stamp }

pub relax_size : (c : Constraint) (q : ℕ) (s : State) → SameSize s (relax_of c q s)
unfolding relax_of
relax_size c q s = go (low_of c s.time)
  where
    go : (b : Bool) → SameSize s (cond b (raise_of c q s) s)
    go true = record { time = simp length-set; parent = simp length-set; stamp = simp length-set }
    go false = size_none s

pub pass_size : (cs : List Constraint) (q : ℕ) (s : State) → SameSize s (pass_of cs q s)
unfolding pass_of
pass_size [] q s = size_none s
pass_size (c ∷ cs) q s = size_trans s _ _ (relax_size c q s) (pass_size cs (suc q) (relax_of c q s))

pub passes_size : (cs : List Constraint) (n : ℕ) (s : State) → SameSize s (passes_of cs n s)
unfolding passes_of
passes_size cs zero s = size_none s
passes_size cs (suc n) s = size_trans s _ _ (passes_size cs n s) (pass_size cs _ (passes_of cs n s))

pub room_kept : (N : ℕ) (s s' : State) → SameSize s s' → Room N s → Room N s'
room_kept N s s' z r = record { time = omega arith; parent = omega arith; stamp = omega arith }

-- ---- the bound that keeps sums from wrapping
-- The times of the vertices below N are at most `top`.
abbrev pub Under : ℕ → ℕ → List ℕ → Type 0
Under N top t = Below N t (λ v. top)

-- No gain is above `unit`.
abbrev pub Gains : ℕ → List Constraint → Type 0
Gains unit cs = (c : Constraint) → Memᴰ c cs → c.gain ≤ unit

-- One check, a pass and n passes.
pub relax_under : (N top unit : ℕ) (c : Constraint) (q : ℕ) (s : State) → c.from < N → c.to < N → c.gain ≤ unit
    → Room N s → Under N top s.time → Under N (top + unit) (relax_of c q s).time
unfolding relax_of
relax_under N top unit c q s f t g r u = go (low_of c s.time)
  where
    go : (b : Bool) → Under N (top + unit) (cond b (raise_of c q s) s).time
    go true =
        set_under N (top + unit) s.time c.from _ (omega (arith, r.time)) (omega (arith, u c.to t))
        (λ v w. omega (arith, u v w))
    go false = λ v w. omega (arith, u v w)

module _ (N unit : ℕ) where
  pub pass_under : (cs : List Constraint) (top q : ℕ) (s : State) → Fits N cs → Gains unit cs → Room N s
      → Under N top s.time → Under N (top + length cs * unit) (pass_of cs q s).time
  unfolding pass_of
  pass_under [] top q s f g r u = λ v w. omega (arith, u v w, zero-mul unit)
  pass_under (c ∷ cs) top q s f g r u =
      more
      (pass_under cs (top + unit) (suc q) (relax_of c q s) (fits_tail N c cs f) (λ d m. g d (Memᴰ.tail m))
      (room_kept N s (relax_of c q s) (relax_size c q s) r)
      (relax_under N top unit c q s (f.from c here) (f.to c here) (g c here) r u))
    where
      here : Memᴰ c (c ∷ cs)
      here = Memᴰ.head refl

      more : Under N (top + unit + length cs * unit) (pass_of cs (suc q) (relax_of c q s)).time
          → Under N (top + suc (length cs) * unit) (pass_of cs (suc q) (relax_of c q s)).time
      more h v w = omega (arith, h v w, suc-mul (length cs) unit)

  pub passes_under : (cs : List Constraint) (top n : ℕ) (s : State) → Fits N cs → Gains unit cs → Room N s
      → Under N top s.time → Under N (top + n * length cs * unit) (passes_of cs n s).time
  unfolding passes_of
  passes_under cs top zero s f g r u = λ v w. omega (arith, u v w)
  passes_under cs top (suc n) s f g r u =
      more
      (pass_under cs (top + n * length cs * unit) (n * length cs + 1) (passes_of cs n s) f g
      (room_kept N s (passes_of cs n s) (passes_size cs n s) r)
      (passes_under cs top n s f g r u))
    where
      more : Under N (top + n * length cs * unit + length cs * unit) (passes_of cs (suc n) s).time
          → Under N (top + suc n * length cs * unit) (passes_of cs (suc n) s).time
      more h v w = omega (arith, h v w)

-- ---- what one check asks of the code: its places are there, and its two sums fit
pub record Relaxable (c : Constraint) (s : State) : Type 0 where
  pub time : c.from < length s.time
  pub parent : c.from < length s.parent
  pub stamp : c.from < length s.stamp
  pub end : c.to < length s.time
  pub loss_fits : at s.time c.from + c.loss < 2 ^ 64
  pub gain_fits : at s.time c.to + c.gain < 2 ^ 64

pub relaxable : (N top : ℕ) (c : Constraint) (s : State) → c.from < N → c.to < N → Room N s → Under N top s.time
    → top + c.loss < 2 ^ 64 → top + c.gain < 2 ^ 64 → Relaxable c s
relaxable N top c s f t r u l g = record {
  time = omega (arith, r.time);
  parent = omega (arith, r.parent);
  stamp = omega (arith, r.stamp);
  end = omega (arith, r.time);
  loss_fits = omega (arith, u c.from f);
  gain_fits = omega (arith, u c.to t);
}

-- Checks of a list of demands, part by part.
use Rattle.std.specs.Prelude.{◌≡◌, refl, Bool, List, [], ◌++◌, ℕ}
use Rattle.std.proofs.Common.{sym, ap, subst, ◌∙◌, append_assoc, append-nil}
use Rattle.runs.specs.declared.Demand.{Demand}
use Rattle.paths.specs.State.{State}
use Rattle.paths.specs.Bounds.{SameSize}
use Rattle.checks.specs.Checks.{Checkable, Checked, checked_none, checked_append, checked_size, checkable_left, checkable_right}

-- In checks of ds that began with h₀, q₀ and s₀: some of ds are checked, which gave h, q and s, and these are left.
pub record Turn (ds : List Demand) (h₀ : Bool) (q₀ : ℕ) (s₀ : State) (left : List Demand) (h : Bool) (q : ℕ)
    (s : State) : Type 0 where
  pub past : List Demand
  pub split : past ++ left ≡ ds
  pub checked : Checked past h₀ q₀ s₀ s h q
  pub able : Checkable left s q

module _ (ds : List Demand) (h₀ : Bool) (q₀ : ℕ) (s₀ : State) where
  -- before the first
  pub turn_first : Checkable ds s₀ q₀ → Turn ds h₀ q₀ s₀ ds h₀ q₀ s₀
  turn_first a = record { past = []; split = refl; checked = checked_none h₀ q₀ s₀; able = a }

  -- the lists are as long as before
  pub turn_size : (left : List Demand) (h : Bool) (q : ℕ) (s : State) → Turn ds h₀ q₀ s₀ left h q s → SameSize s₀ s
  turn_size left h q s u = checked_size u.past left h₀ q₀ s₀ s h q u.checked

  -- the checks of the next demands xs
  module _ (rest xs left : List Demand) (e : rest ≡ xs ++ left) (h : Bool) (q : ℕ) (s : State)
      (u : Turn ds h₀ q₀ s₀ rest h q s) where
    pub turn_able : Checkable xs s q
    turn_able = checkable_left xs left s q (rw e at u).able

    pub turn_more : (s' : State) (g : Bool) (r : ℕ) → Checked xs h q s s' g r → Turn ds h₀ q₀ s₀ left g r s'
    turn_more s' g r c =
        record {
          past = u.past ++ xs;
          split = append_assoc u.past xs left ∙ ap (λ l. u.past ++ l) (sym e) ∙ u.split;
          checked = checked_append u.past xs h₀ q₀ s₀ s h q u.checked s' g r c;
          able = checkable_right xs left h q s s' g r c (rw e at u).able;
        }

  -- after the last
  pub turn_last : (h : Bool) (q : ℕ) (s : State) → Turn ds h₀ q₀ s₀ [] h q s → Checked ds h₀ q₀ s₀ s h q
  turn_last h q s u =
      subst (λ l. Checked l h₀ q₀ s₀ s h q) (sym (append-nil u.past) ∙ u.split) u.checked

-- The checks of the demands of a guard between two clocks.
use Rattle.std.specs.Prelude.{◌≡◌, refl, Bool, true, false, [], ◌∷◌, ◌++◌, ℕ}
use Rattle.std.proofs.Common.{sym, ap, subst, ◌∙◌}
use Rattle.table.specs.Step.{up_of, down_of}
use Rattle.table.specs.declared.Guard.{Guard}
use Rattle.table.specs.declared.Relation.{Relation}
use Rattle.runs.specs.declared.Demand.{Demand}
use Rattle.runs.specs.Demand.{guard_demands}
use Rattle.constraints.specs.Pieces.{guard_demand, twice_of}
use Rattle.constraints.specs.Guards.{guard_once, guard_twice}
use Rattle.scaling.specs.Constants.{with_constant}
use Rattle.paths.specs.State.{State}
use Rattle.checks.specs.Checks.{Checkable, Checked, checked_append, checkable_left, checkable_right}

-- the demand made of the constant, by its sign
pub lead_plus : (g : Guard) (c z e : ℕ) (b : Bool) (a : Demand) → g.minus ≡ false → a ≡ guard_demand g.relation c 0 z e b
    → a ≡ guard_demand g.relation (up_of (with_constant c g)) (down_of (with_constant c g)) z e b
unfolding up_of down_of
lead_plus g c z e b a m h = rw m h

pub lead_minus : (g : Guard) (c z e : ℕ) (b : Bool) (a : Demand) → g.minus ≡ true → a ≡ guard_demand g.relation 0 c z e b
    → a ≡ guard_demand g.relation (up_of (with_constant c g)) (down_of (with_constant c g)) z e b
unfolding up_of down_of
lead_minus g c z e b a m h = rw m h

-- a guard with demand a, and b where it has two
module _ (r : Relation) (u d z e : ℕ) (a : Demand) (f : a ≡ guard_demand r u d z e false) where
  module _ (o : twice_of r ≡ false) where
    one : guard_demands r u d z e ≡ a ∷ []
    one = guard_once r u d z e o ∙ ap (λ x. x ∷ []) (sym f)

    pub once_checked : (h : Bool) (q : ℕ) (s s' : State) (h' : Bool) (q' : ℕ) → Checked (a ∷ []) h q s s' h' q'
        → Checked (guard_demands r u d z e) h q s s' h' q'
    once_checked h q s s' h' q' = subst (λ ds. Checked ds h q s s' h' q') (sym one)

  module _ (o : twice_of r ≡ true) where
    two : guard_demands r u d z e ≡ (a ∷ []) ++ (guard_demand r u d z e true ∷ [])
    two = guard_twice r u d z e o ∙ ap (λ x. x ∷ guard_demand r u d z e true ∷ []) (sym f)

    module _ (b : Demand) (g : b ≡ guard_demand r u d z e true) (h : Bool) (q : ℕ) (s s' : State) (h' : Bool) (q' : ℕ)
        (c : Checked (a ∷ []) h q s s' h' q') where
      both : guard_demands r u d z e ≡ (a ∷ []) ++ (b ∷ [])
      both = two ∙ ap (λ x. (a ∷ []) ++ (x ∷ [])) (sym g)

      pub second_able : Checkable (guard_demands r u d z e) s q → Checkable (b ∷ []) s' q'
      second_able k = checkable_right (a ∷ []) (b ∷ []) h q s s' h' q' c (subst (λ ds. Checkable ds s q) both k)

      pub twice_checked : (s'' : State) (h'' : Bool) (q'' : ℕ) → Checked (b ∷ []) h' q' s' s'' h'' q''
          → Checked (guard_demands r u d z e) h q s s'' h'' q''
      twice_checked s'' h'' q'' v =
          subst (λ ds. Checked ds h q s s'' h'' q'') (sym both) (checked_append (a ∷ []) (b ∷ []) h q s s' h' q' c s'' h'' q'' v)

  -- the first may be checked
  pub first_able : (s : State) (q : ℕ) → Checkable (guard_demands r u d z e) s q → Checkable (a ∷ []) s q
  first_able s q k = go (twice_of r) refl
    where
      go : (t : Bool) → twice_of r ≡ t → Checkable (a ∷ []) s q
      go false o = subst (λ ds. Checkable ds s q) (one o) k
      go true o = checkable_left (a ∷ []) (guard_demand r u d z e true ∷ []) s q (subst (λ ds. Checkable ds s q) (two o) k)

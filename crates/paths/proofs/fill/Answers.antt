-- A row of n times v is the list whose places are v.
use Rattle.std.proofs.Common.{◌≡◌, ◌∙◌, ap, List, ◌++◌, ℕ, drop, replicate, rules}
use Rattle.std.proofs.lemmas.List.{length-replicate, get_or-replicate}
use Rattle.basics.specs.Tab.{is_tab}
use Rattle.basics.specs.Places.{written, filled}
use Rattle.paths.proofs.fill.Goals as goal

filled_by : (v n : ℕ) (l r : List ℕ) → r ≡ replicate n v → r ++ drop n l ≡ filled v n l
unfolding written
filled_by v n l r e =
    ap (λ (x : List ℕ). x ++ drop n l) (e ∙ is_tab n (λ k. v) (replicate n v) (length-replicate n v) (λ k h. get_or-replicate n k v 0 h))

pub returns : goal.returns
returns c = filled_by _ _ _ _ (search rules)

-- `ranges::first_outside` meets its contract: the place that the search gives, counted from 1.
use Rattle.std.proofs.Common.{◌≡◌, ℕ, ◌+◌, rules, tests, not, ap, ◌∙◌, Option, Some, None}
use Rattle.std.proofs.lemmas.Iterator.{YieldsList-from_slice}
use Rattle.std.proofs.lemmas.Iterator.Search.{position_from_yields_List}
use Rattle.std.specs.List.{position}
use Rattle.std.specs.Option.{MatchOption, IsSomeAnd, option_map}
use Rattle.ranges.specs.Allowed.{inside}
use Rattle.ranges.proofs.first_outside.Goals as goal

mapped : (f : ℕ → ℕ) (P : ℕ → ℕ → Type 0) (says : (x y : ℕ) → P x y → y ≡ f x) (o r : Option ℕ)
    → MatchOption o (r ≡ None) (λ x. IsSomeAnd r (P x)) → r ≡ option_map f o
mapped f P says None r h = h
mapped f P says (Some x) None h = absurd h
mapped f P says (Some x) (Some y) h = ap Some (says x y h)

pub returns : goal.returns
returns c =
    let a = c.args in
    let e : c.position.result ≡ position (λ r. not (inside a.readings.now r)) a.ranges.now =
    position_from_yields_List _ _ _ _ c.position.ensures.ran (YieldsList-from_slice a.ranges.now cc) (λ x b q k. search (rules, tests)) in
    mapped (λ k. k + 1) _ (λ x y p. search rules) _ _ c.map.ensures.cases ∙ ap (option_map (λ k. k + 1)) e

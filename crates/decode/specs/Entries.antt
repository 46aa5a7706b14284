-- The guards and the flags of entries that stand one after the other.
use Rattle.std.specs.Prelude.{◌≡◌, refl, Bool, List, [], ◌∷◌, ◌++◌, ◌+◌, length}
use Rattle.std.proofs.Common.{ap, ◌∙◌, arith, length-append}
use Rattle.wire.specs.Listing.{Entry, guard, reset, guards_of, flagged}
use Rattle.format.specs.Encode.{guard_count}

pub guards_append : (a b : List Entry) → guards_of (a ++ b) ≡ guards_of a ++ guards_of b
unfolding guards_of
guards_append [] b = refl
guards_append (guard g ∷ a) b = ap (λ gs. g ∷ gs) (guards_append a b)
guards_append (reset j ∷ a) b = guards_append a b

pub guards_length : (a b : List Entry) → length (guards_of (a ++ b)) ≡ length (guards_of a) + length (guards_of b)
guards_length a b = ap length (guards_append a b) ∙ length-append (guards_of a) (guards_of b)

pub flagged_append : (flags : List Bool) (a b : List Entry) → flagged flags (a ++ b) ≡ flagged (flagged flags a) b
unfolding flagged
flagged_append flags [] b = refl
flagged_append flags (guard g ∷ a) b = flagged_append flags a b
flagged_append flags (reset j ∷ a) b = flagged_append _ a b

pub count_append : (a b : List (List Entry)) → guard_count (a ++ b) ≡ guard_count a + guard_count b
unfolding guard_count
count_append [] b = omega arith
count_append (s ∷ a) b = omega (arith, count_append a b)

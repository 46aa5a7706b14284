-- Slices of a list: after a store, and where all elements are the same.
use Rattle.std.specs.Prelude.{◌≡◌, refl, List, [], ◌∷◌, ◌++◌, ℕ, zero, suc, ◌+◌, ◌≤◌, ◌<◌, length, take, drop, get_or, set, replicate}
use Rattle.std.proofs.Common.{sym, ap, ◌∙◌, arith, add-one, take-suc-set, length-take-le, ext_get_or, get_or-take, get_or-drop}
use Rattle.std.proofs.lemmas.List.{length-replicate, take-set-le, drop-set-add, drop-append-le}
use Rattle.std.proofs.Math.Seq.{slice, take-set-lt, length-slice}

module _ {ℓ} {A : Type ℓ} where
  -- a store at or after the slice's end
  pub slice_set_after : (from to : ℕ) (l : List A) (i : ℕ) (a : A) → to ≤ i → slice from to (set l i a) ≡ slice from to l
  slice_set_after from to l i a h = ap (drop from) (take-set-le to l i a h)

  -- a store within the slice
  pub slice_set_within : (from to : ℕ) (l : List A) (i : ℕ) (a : A) → from + i < to
      → slice from to (set l (from + i) a) ≡ set (slice from to l) i a
  slice_set_within from to l i a h = ap (drop from) (take-set-lt to l (from + i) a h) ∙ drop-set-add from (take to l) i a

  -- a store at the slice's end makes it longer by one
  pub slice_set_at : (from to : ℕ) (l : List A) (a : A) → from ≤ to → to < length l
      → slice from (to + 1) (set l to a) ≡ slice from to l ++ (a ∷ [])
  slice_set_at from to l a h k =
      ap (λ n. slice from n (set l to a)) (add-one to)
      ∙ ap (drop from) (take-suc-set l to a k)
      ∙ drop-append-le from (take to l) (a ∷ []) (omega (arith, length-take-le to l (omega arith)))

  -- a list of one element alone has it everywhere
  pub get_d_all : (d : A) (n i : ℕ) → get_or (replicate n d) i d ≡ d
  get_d_all d zero i = refl
  get_d_all d (suc n) zero = refl
  get_d_all d (suc n) (suc i) = get_d_all d n i

  -- a slice from where on all elements are the same
  pub slice_clear : (d : A) (from size : ℕ) (l : List A) → from + size ≤ length l
      → ((i : ℕ) → from ≤ i → get_or l i d ≡ d) → slice from (from + size) l ≡ replicate size d
  slice_clear d from size l fits clear = ext_get_or d _ _ (long ∙ sym (length-replicate size d)) each
    where
      long : length (slice from (from + size) l) ≡ size
      long = omega (arith, length-slice from (from + size) l fits)

      each : (i : ℕ) → i < length (slice from (from + size) l)
          → get_or (slice from (from + size) l) i d ≡ get_or (replicate size d) i d
      each i h =
          get_or-drop from (take (from + size) l) i d ∙ get_or-take (from + size) l (from + i) d (omega (arith, long))
          ∙ clear (from + i) (omega arith) ∙ sym (get_d_all d size i)

-- A table with stretches as it is written: items, of which each is a step or a stretch (02); and what it means, the steps written out.
use Rattle.std.specs.Prelude.{◌≡◌, List, [], ◌∷◌, ◌++◌, ℕ, zero, suc, ◌*◌, ◌≤◌, ◌<◌, length}
use Rattle.std.proofs.Common.{arith, length-append}
use Rattle.wire.specs.Listing.{Entry}
use Rattle.format.specs.Encode.{step_bytes, LegalStep}

-- no item; a step, by its entries, and more; a stretch, by how often it comes and its own items, and more
pub data Items : Type 0 where
  none : Items
  step : List Entry → Items → Items
  stretch : ℕ → Items → Items → Items

-- their bytes, before others: a stretch has kind 7 with how often, and kind 8 after its last item
unfoldable pub items_on : Items → List ℕ → List ℕ
items_on none bs = bs
items_on (step es is) bs = step_bytes es ++ items_on is bs
items_on (stretch times js is) bs = 7 ∷ times ∷ items_on js (8 ∷ items_on is bs)

unfoldable pub encode_items : ℕ → Items → List ℕ
encode_items n is = 1 ∷ n ∷ items_on is (5 ∷ [])

-- a list so often as a number says
unfoldable pub copies : {A : Type 0} → ℕ → List A → List A
copies zero l = []
copies (suc k) l = l ++ copies k l

pub length_copies : {A : Type 0} (k : ℕ) (l : List A) → length (copies k l) ≡ k * length l
unfolding copies
length_copies zero l = omega arith
length_copies (suc k) l = omega (arith, length-append l (copies k l), length_copies k l)

pub at_least : (k x : ℕ) → 1 ≤ k → x ≤ k * x
at_least zero x h = absurd (omega arith)
at_least (suc k) x h = omega arith

-- the steps written out
unfoldable pub expand : Items → List (List Entry)
expand none = []
expand (step es is) = es ∷ expand is
expand (stretch times js is) = copies times (expand js) ++ expand is

-- Items of a table of n clocks, inside d stretches: legal steps, repeat numbers of 2 to 16 around a step at least, down to a depth of 4.
pub data Sound (n : ℕ) : ℕ → Items → Type 0 where
  sound_none : (d : ℕ) → Sound n d none
  sound_step : (d : ℕ) (es : List Entry) (is : Items) → LegalStep n es → Sound n d is → Sound n d (step es is)
  sound_stretch : (d times : ℕ) (js is : Items) → 2 ≤ times → times ≤ 16 → d < 4 → 1 ≤ length (expand js)
      → Sound n (suc d) js → Sound n d is → Sound n d (stretch times js is)

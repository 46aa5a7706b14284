-- Signs of relations that stand in a text.
use Rattle.std.specs.Prelude.{◌≡◌, Bool, cond, List, ◌++◌, ℕ, ◌+◌, length, drop}
use Rattle.std.proofs.Math.Path.{refl}
use Rattle.std.proofs.Math.Bool.{true, false}
use Rattle.table.specs.declared.Relation.{Relation}
use Rattle.table.specs.declared.Relation.TheVariants.{Under, AtMost, Exactly, AtLeast, Over}
use Rattle.format.specs.Encode.{relation_code}
use Rattle.card_lines.specs.declared.Numeral.{Numeral}
use Rattle.card_lines.specs.Front.{starts, number_at, sign_text, sign_else, sign_at, limit_at, related_at}
use Rattle.card_lines.specs.Standing.{Stands, starts_stands}

-- the sign of a relation, as it is found at a place
abbrev pub sign_on : ℕ → Relation → Numeral
sign_on at r = record { value = relation_code r; next = at + length (sign_text r) }

module _ (text : List ℕ) (at : ℕ) where
  -- what is found stands there
  pub data Signed : Numeral → Type 0 where
    no_sign : Signed (record { value = 5; next = at })
    a_sign : (r : Relation) → Stands text at (at + length (sign_text r)) (sign_text r) → Signed (sign_on at r)

  signed_else : (r : Relation) (other : Numeral) → Signed other → Signed (sign_else text at r other)
  unfolding sign_else
  signed_else r other s = go (starts (sign_text r) (drop at text)) refl
    where
      go : (b : Bool) → starts (sign_text r) (drop at text) ≡ b → Signed (cond b (sign_on at r) other)
      go true e = a_sign r (starts_stands text at (sign_text r) e)
      go false e = s

  pub signed : Signed (sign_at text at)
  unfolding sign_at
  signed = signed_else _ _ (signed_else _ _ (signed_else _ _ (signed_else _ _ (signed_else _ _ no_sign))))

  -- and what stands there is found
  pub sign_found : (r : Relation) (s : List ℕ) → drop at text ≡ sign_text r ++ s → sign_at text at ≡ sign_on at r
  unfolding sign_at sign_else starts
  sign_found Under s e = rw e
  sign_found AtMost s e = rw e
  sign_found Exactly s e = rw e
  sign_found AtLeast s e = rw e
  sign_found Over s e = rw e

-- a sign that is found is known
module _ (text : List ℕ) where
  pub sign_known : (n : Numeral) (p : ℕ) (r : Relation)
      → related_at text n (sign_on p r) ≡ limit_at text n (sign_on p r) (number_at text (sign_on p r).next)
  sign_known n p Under = refl
  sign_known n p AtMost = refl
  sign_known n p Exactly = refl
  sign_known n p AtLeast = refl
  sign_known n p Over = refl

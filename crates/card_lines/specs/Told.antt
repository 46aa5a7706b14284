-- Where a line is found, its text stands.
use Rattle.std.specs.Prelude.{◌≡◌, Bool, cond, length, drop}
use Rattle.std.proofs.Math.Path.{refl, subst}
use Rattle.std.proofs.Common.{sym, ◌∙◌, ap}
use Rattle.std.proofs.Math.Bool.{true, false}
use mathlib.Core.List.{List, [], ◌∷◌, ◌++◌, append_assoc}
use Prim.Native.Nat.{ℕ, ◌+◌}
use Rattle.std.proofs.Math.Dec.{eqb}
use Rattle.std.proofs.lemmas.Bool.{eqb-false}
use Rattle.table.specs.declared.Relation.{Relation}
use Rattle.wire.specs.Listing.{guard, reset, Content, head, entry, finish, close}
use Rattle.format.specs.Encode.{relation_code}
use Rattle.cards.specs.Words.{timers_word, zero_word, step_word, end_word}
use Rattle.cards.specs.Card.{bound, PlainContent}
use Rattle.cards.specs.Convert.{numeral, line_text}
use Rattle.card_lines.specs.declared.Numeral.{Numeral}
use Rattle.card_lines.specs.declared.Found.{Found}
use Rattle.card_lines.specs.Front.{held, starts, number_at, sign_text, sign_at, wrong_found, closed_at, numbered_at, limit_at, related_at, bound_at, line_at}
use Rattle.card_lines.specs.Standing.{Stands, stands_then, stands_as, starts_stands}
use Rattle.card_lines.specs.Numbers.{number_of, number_value, number_stands}
use Rattle.card_lines.specs.Signs.{Signed, no_sign, a_sign, signed, sign_known}

-- a content as the numbers of a line found, held
abbrev pub found_of : Content → ℕ → Found
found_of (head n) next = record { kind = 1; first = held n; relation = 0; second = 0; next = next }
found_of (entry (guard g)) next =
    record { kind = 2; first = held g.clock; relation = relation_code g.relation; second = held g.constant; next = next }
found_of (entry (reset j)) next = record { kind = 3; first = held j; relation = 0; second = 0; next = next }
found_of finish next = record { kind = 4; first = 0; relation = 0; second = 0; next = next }
found_of close next = record { kind = 5; first = 0; relation = 0; second = 0; next = next }

module _ (text : List ℕ) (at : ℕ) where
  -- what is found tells nothing, or of a line that stands there
  pub data Tells : Found → Type 0 where
    nothing : Tells wrong_found
    a_line : (c : Content) (next : ℕ) → PlainContent c → Stands text at next (line_text c ++ 10 ∷ []) → Tells (found_of c next)

  -- a content, and then the line feed
  closed_found : (c : Content) (p : ℕ) → closed_at text (found_of c p) ≡ cond (starts (10 ∷ []) (drop p text)) (found_of c (p + 1)) wrong_found
  unfolding closed_at
  closed_found (head n) p = refl
  closed_found (entry (guard g)) p = refl
  closed_found (entry (reset j)) p = refl
  closed_found finish p = refl
  closed_found close p = refl

  closed_told : (c : Content) (p : ℕ) → PlainContent c → Stands text at p (line_text c) → Tells (closed_at text (found_of c p))
  closed_told c p plain there = subst Tells (sym (closed_found c p)) (go (starts (10 ∷ []) (drop p text)) refl)
    where
      go : (b : Bool) → starts (10 ∷ []) (drop p text) ≡ b → Tells (cond b (found_of c (p + 1)) wrong_found)
      go true e = a_line c (p + 1) plain (stands_then there (starts_stands text p (10 ∷ []) e))
      go false e = nothing

  -- a word and a number
  numbered_told : (kind p : ℕ) (w : List ℕ) (make : ℕ → Content) → ((n : ℕ) → PlainContent (make n)) → ((n : ℕ) → w ++ numeral n ≡ line_text (make n))
      → ((n next : ℕ) → found_of (make n) next ≡ record { kind = kind; first = held n; relation = 0; second = 0; next = next })
      → Stands text at p w → Tells (numbered_at text p kind)
  unfolding numbered_at
  numbered_told kind p w make plain says is there = go (eqb (number_at text p).next p) refl
    where
      found : Found
      found = record { kind = kind; first = (number_at text p).value; relation = 0; second = 0; next = (number_at text p).next }

      same : found_of (make (number_of text p)) (number_at text p).next ≡ found
      same = is _ _ ∙ ap (λ v. record { kind = kind; first = v; relation = 0; second = 0; next = (number_at text p).next }) (number_value text p)

      go : (b : Bool) → eqb (number_at text p).next p ≡ b → Tells (cond b wrong_found (closed_at text found))
      go true e = nothing
      go false e =
          subst (λ f. Tells (closed_at text f)) same
          (closed_told (make (number_of text p)) (number_at text p).next (plain (number_of text p))
          (stands_as (says (number_of text p)) (stands_then there (number_stands text p (eqb-false _ _ e)))))

  -- a number, a sign and a number
  bound_text : (n : ℕ) (r : Relation) (m : ℕ) → (numeral n ++ sign_text r) ++ numeral m ≡ line_text (bound n r m)
  bound_text n r m = simp append_assoc

  limit_told : (n : ℕ) (r : Relation) (q : ℕ) → Stands text at q (numeral n ++ sign_text r)
      → Tells (limit_at text (record { value = held n; next = 0 }) (record { value = relation_code r; next = q }) (number_at text q))
  limit_told n r q there = go (eqb (number_at text q).next q) refl
    where
      go : (b : Bool) → eqb (number_at text q).next q ≡ b → Tells (cond b wrong_found (closed_at text
          (record { kind = 2; first = held n; relation = relation_code r; second = (number_at text q).value; next = (number_at text q).next })))
      go true e = nothing
      go false e =
          subst (λ v. Tells (closed_at text
          (record { kind = 2; first = held n; relation = relation_code r; second = v; next = (number_at text q).next })))
          (number_value text q)
          (closed_told (bound n r (number_of text q)) _ (record { second = refl; minus = refl })
          (stands_as (bound_text n r (number_of text q)) (stands_then there (number_stands text q (eqb-false _ _ e)))))

  related_told : (n p : ℕ) (sign : Numeral) → Stands text at p (numeral n) → Signed text p sign
      → Tells (related_at text (record { value = held n; next = p }) sign)
  related_told n p _ there no_sign = nothing
  related_told n p _ there (a_sign r then) = subst Tells (sym (sign_known text (record { value = held n; next = p }) p r)) (limit_told n r _ (stands_then there then))

  bound_told : Tells (bound_at text at)
  unfolding bound_at
  bound_told = go (eqb (number_at text at).next at) refl
    where
      go : (b : Bool) → eqb (number_at text at).next at ≡ b
          → Tells (cond b wrong_found (related_at text (number_at text at) (sign_at text (number_at text at).next)))
      go true e = nothing
      go false e =
          subst (λ v. Tells (related_at text (record { value = v; next = (number_at text at).next }) (sign_at text (number_at text at).next)))
          (number_value text at)
          (related_told (number_of text at) _ _ (number_stands text at (eqb-false _ _ e)) (signed text (number_at text at).next))

  -- a line: one of the words, or a bound
  pub told : Tells (line_at text at)
  unfolding line_at
  told =
      word timers (numbered_told 1 _ timers head (λ n. tt) (λ n. refl) (λ n next. refl))
      (word zeroed (numbered_told 3 _ zeroed (λ j. entry (reset j)) (λ n. tt) (λ n. refl) (λ n next. refl))
      (word (step_word ++ 10 ∷ []) (a_line finish _ tt)
      (word (end_word ++ 10 ∷ []) (a_line close _ tt)
      bound_told)))
    where
      timers : List ℕ
      timers = timers_word ++ 32 ∷ []

      zeroed : List ℕ
      zeroed = zero_word ++ 32 ∷ []

      word : {f g : Found} (w : List ℕ) → (Stands text at (at + length w) w → Tells f) → Tells g → Tells (cond (starts w (drop at text)) f g)
      word {f} {g} w there else = go (starts w (drop at text)) refl
        where
          go : (b : Bool) → starts w (drop at text) ≡ b → Tells (cond b f g)
          go true e = there (starts_stands text at w e)
          go false e = else

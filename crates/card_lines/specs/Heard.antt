-- Where the text of a line stands, a line is found.
use Rattle.std.specs.Prelude.{◌≡◌, false, ℕ, ◌+◌, ◌<◌}
use Rattle.std.proofs.Math.Path.{refl}
use Rattle.std.proofs.Common.{sym, ◌∙◌, ap, lit<, ne_eqb}
use mathlib.Core.List.{List, [], ◌∷◌, ◌++◌, append_assoc}
use Rattle.std.proofs.Math.ListN.{length, drop}
use Rattle.table.specs.declared.Relation.{Relation}
use Rattle.wire.specs.Listing.{guard, reset, Content, head, entry, finish, close}
use Rattle.cards.specs.Words.{timers_word, zero_word}
use Rattle.cards.specs.Convert.{numeral, line_text}
use Rattle.card_lines.specs.declared.Numeral.{Numeral}
use Rattle.card_lines.specs.declared.Found.{Found}
use Rattle.card_lines.specs.Front.{starts, number_at, sign_text, sign_at, closed_at, numbered_at, limit_at, related_at, bound_at, line_at}
use Rattle.card_lines.specs.Standing.{stands_front}
use Rattle.card_lines.specs.Numbers.{numeral_some, numeral_first, number_found}
use Rattle.card_lines.specs.Signs.{sign_on, sign_found, sign_known}
use Rattle.card_lines.specs.Told.{found_of}

module _ (text : List ℕ) where
  -- the line feed
  closed_heard : (f : Found) (rest : List ℕ) → drop f.next text ≡ 10 ∷ rest → (closed_at text f).kind ≡ f.kind
  unfolding closed_at starts
  closed_heard f rest e = rw e

  -- a number before a byte that is no digit: it is found, and the byte is next
  module _ (p n : ℕ) (rest : List ℕ) (e : drop p text ≡ numeral n ++ 10 ∷ rest) where
    ends : (number_at text p).next ≡ p + length (numeral n)
    ends = number_found text p n 10 rest e refl

    some : (number_at text p).next ≡ p → ⊥
    some q = numeral_some p n (sym ends ∙ q)

    next : drop (number_at text p).next text ≡ 10 ∷ rest
    next = ap (λ m. drop m text) ends ∙ stands_front text p (numeral n) (10 ∷ rest) e

    numbered_heard : (kind : ℕ) → (numbered_at text p kind).kind ≡ kind
    unfolding numbered_at
    numbered_heard kind = simp (ne_eqb (number_at text p).next p some) (closed_heard _ rest next)

    limit_heard : (m sign : Numeral) → sign.next ≡ p → (limit_at text m sign (number_at text p)).kind ≡ 2
    limit_heard m sign is =
        simp (ne_eqb (number_at text p).next sign.next (λ q. some (q ∙ is))) (closed_heard _ rest next)

  -- a number, a sign and a number
  related_heard : (n : Numeral) (r : Relation) (m : ℕ) (rest : List ℕ) → drop n.next text ≡ sign_text r ++ (numeral m ++ 10 ∷ rest)
      → (related_at text n (sign_at text n.next)).kind ≡ 2
  related_heard n r m rest e =
      ap (λ s. (related_at text n s).kind) (sign_found text n.next r _ e)
      ∙ ap (λ f. f.kind) (sign_known text n n.next r)
      ∙ limit_heard (sign_on n.next r).next m rest (stands_front text n.next (sign_text r) _ e) n (sign_on n.next r) refl

  module _ (at : ℕ) where
    bound_heard : (n : ℕ) (r : Relation) (m : ℕ) (rest : List ℕ) → drop at text ≡ numeral n ++ (sign_text r ++ (numeral m ++ 10 ∷ rest))
        → (bound_at text at).kind ≡ 2
    unfolding bound_at
    bound_heard n r m rest e =
        simp (ne_eqb (number_at text at).next at (λ q. numeral_some at n (sym ends_here ∙ q)))
        (related_heard (number_at text at) r m rest (ap (λ k. drop k text) ends_here ∙ stands_front text at (numeral n) _ e))
      where
        ends_here : (number_at text at).next ≡ at + length (numeral n)
        ends_here = number_found text at n 32 _ e refl

    -- a line of each content
    pub heard : (c : Content) (rest : List ℕ) → drop at text ≡ line_text c ++ 10 ∷ rest → (line_at text at).kind ≡ (found_of c 0).kind
    unfolding line_at starts
    heard (head n) rest e =
        rw e (numbered_heard (at + 7) n rest (stands_front text at (timers_word ++ 32 ∷ []) (numeral n ++ 10 ∷ rest) e) 1)
    heard (entry (guard g)) rest e =
        rw (other 116 _ (lit< tt), other 122 _ (lit< tt), other 115 _ (lit< tt), other 101 _ (lit< tt))
        (bound_heard g.clock g.relation g.constant rest parts)
      where
        parts : drop at text ≡ numeral g.clock ++ (sign_text g.relation ++ (numeral g.constant ++ 10 ∷ rest))
        parts = e ∙ simp append_assoc

        other : (b : ℕ) (w : List ℕ) → 57 < b → starts (b ∷ w) (drop at text) ≡ false
        other b w h = ap (starts (b ∷ w)) parts ∙ numeral_first b w g.clock _ h
    heard (entry (reset j)) rest e =
        rw e (numbered_heard (at + 5) j rest (stands_front text at (zero_word ++ 32 ∷ []) (numeral j ++ 10 ∷ rest) e) 3)
    heard finish rest e = rw e
    heard close rest e = rw e

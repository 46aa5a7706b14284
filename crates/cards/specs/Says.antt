-- What a line says, and its text: each is the other's (`says_text`, `text_says`). No line says a guard of two clocks (`says_plain`).
use Rattle.std.specs.Prelude.{◌≡◌, Bool, true, false, cond, ◌&&◌, List, [], ◌∷◌, ◌++◌, ℕ, ◌<◌, ◌≤◌, eqb, leb}
use Rattle.std.proofs.Math.Path.{refl}
use Rattle.std.proofs.Common.{sym, ◌∙◌, ap, subst, append_assoc, arith, eqb-true, eq-eqb, leb-true}
use Rattle.std.proofs.lemmas.Bool.{false≢true}
use mathlib.Core.List.Memᴰ
use Rattle.std.proofs.Math.Option.{Option, none, some, some-injective, none-ne-some}
use Rattle.table.specs.declared.Guard.{Guard}
use Rattle.table.specs.declared.Relation.{Relation}
use Rattle.table.specs.declared.Relation.TheVariants.{Under, AtMost, Exactly, AtLeast, Over}
use Rattle.table.specs.Step.{Plain}
use Rattle.records.specs.Tests.{both}
use Rattle.wire.specs.Listing.{guard, reset, Content, head, entry, finish, close}
use Rattle.cards.specs.Words.{
  same,
  pieces,
  timers_word,
  zero_word,
  step_word,
  end_word,
  under_sign,
  at_most_sign,
  exactly_sign,
  at_least_sign,
  over_sign,
  relation_in,
  is_number,
  value,
}
use Rattle.cards.specs.Card.{bound, PlainContent, says}
use Rattle.cards.specs.Convert.{numeral, sign_of, line_text}
use Rattle.cards.specs.Numbers.{numeral_number, numeral_value, number_numeral, numeral_bytes}
use Rattle.cards.specs.Pieces.{Free, free_append, free_cons, pieces_next, pieces_last, joined, joined_pieces}

-- words that are the same
pub same_refl : (w : List ℕ) → same w w ≡ true
unfolding same
same_refl [] = refl
same_refl (c ∷ cs) = simp (eq-eqb c c refl, same_refl cs)

pub same_true : (w v : List ℕ) → same w v ≡ true → w ≡ v
unfolding same
same_true [] [] t = refl
same_true [] (d ∷ ds) t = absurd (false≢true t)
same_true (c ∷ cs) [] t = absurd (false≢true t)
same_true (c ∷ cs) (d ∷ ds) t =
    let tests = both (eqb c d) (same cs ds) t in
    ap (λ (e : ℕ). e ∷ cs) (eqb-true c d tests.0) ∙ ap (λ (es : List ℕ). d ∷ es) (same_true cs ds tests.1)

-- which of the two a choice took
pick : {A C : Type 0} (t : Bool) (x : A) (o : Option A) (y : A) → cond t (some x) o ≡ some y
    → (t ≡ true → x ≡ y → C) → (o ≡ some y → C) → C
pick true x o y e this other = this refl (some-injective x y e)
pick false x o y e this other = other e

-- signs and relations
sign_relation : (r : Relation) → relation_in (sign_of r) ≡ some r
unfolding same
sign_relation Under = refl
sign_relation AtMost = refl
sign_relation Exactly = refl
sign_relation AtLeast = refl
sign_relation Over = refl

relation_sign : (w : List ℕ) (r : Relation) → relation_in w ≡ some r → w ≡ sign_of r
relation_sign w r e =
    pick (same w under_sign) Under _ r e (is Under)
    (λ e. pick (same w at_most_sign) AtMost _ r e (is AtMost)
    (λ e. pick (same w exactly_sign) Exactly _ r e (is Exactly)
    (λ e. pick (same w at_least_sign) AtLeast _ r e (is AtLeast)
    (λ e. pick (same w over_sign) Over _ r e (is Over)
    (λ e. absurd (none-ne-some r e))))))
  where
    is : (q : Relation) → same w (sign_of q) ≡ true → q ≡ r → w ≡ sign_of r
    is q t e = same_true w (sign_of q) t ∙ ap sign_of e

-- Words, signs and numbers have no byte below 48, so neither a blank nor a line feed.
unfoldable solid : List ℕ → Bool
solid [] = true
solid (c ∷ cs) = leb 48 c && solid cs

solid_free : (b : ℕ) (w : List ℕ) → b < 48 → solid w ≡ true → Free b w
unfolding solid
solid_free b [] low t = λ d in-it e. Memᴰ.not-nil in-it
solid_free b (c ∷ cs) low t = free_cons b c cs (λ e. omega (arith, high)) (solid_free b cs low tests.1)
  where
    tests : (leb 48 c ≡ true) × (solid cs ≡ true)
    tests = both (leb 48 c) (solid cs) t

    high : 48 ≤ c
    high = leb-true 48 c tests.0

sign_free : (b : ℕ) (r : Relation) → b < 48 → Free b (sign_of r)
sign_free b r low = solid_free b (sign_of r) low (all r)
  where
    all : (r : Relation) → solid (sign_of r) ≡ true
    all Under = unfold solid in refl
    all AtMost = unfold solid in refl
    all Exactly = unfold solid in refl
    all AtLeast = unfold solid in refl
    all Over = unfold solid in refl

timers_free : (b : ℕ) → b < 48 → Free b timers_word
timers_free b low = solid_free b timers_word low (unfold solid in refl)

zero_free : (b : ℕ) → b < 48 → Free b zero_word
zero_free b low = solid_free b zero_word low (unfold solid in refl)

step_free : (b : ℕ) → b < 48 → Free b step_word
step_free b low = solid_free b step_word low (unfold solid in refl)

end_free : (b : ℕ) → b < 48 → Free b end_word
end_free b low = solid_free b end_word low (unfold solid in refl)

numeral_free : (b x : ℕ) → b < 48 → Free b (numeral x)
numeral_free b x low d in-it e = omega (arith, (numeral_bytes x d in-it).0)

-- The text of a line says what it was written from.
two_pieces : (w : List ℕ) (x : ℕ) → Free 32 w → pieces 32 (w ++ 32 ∷ numeral x) ≡ w ∷ numeral x ∷ []
two_pieces w x free =
    pieces_next 32 w (numeral x) free
    ∙ ap (λ (ps : List (List ℕ)). w ∷ ps) (pieces_last 32 (numeral x) (numeral_free 32 x (omega arith)))

three_pieces : (g : Guard) → pieces 32 (line_text (entry (guard g))) ≡ numeral g.clock ∷ sign_of g.relation ∷ numeral g.constant ∷ []
three_pieces g =
    ap (pieces 32) (append_assoc (numeral g.clock) (32 ∷ sign_of g.relation) (32 ∷ numeral g.constant))
    ∙ pieces_next 32 (numeral g.clock) (sign_of g.relation ++ 32 ∷ numeral g.constant) (numeral_free 32 g.clock (omega arith))
    ∙ ap (λ (ps : List (List ℕ)). numeral g.clock ∷ ps)
    (two_pieces (sign_of g.relation) g.constant (sign_free 32 g.relation (omega arith)))

guard_same : (g : Guard) → Plain g → bound g.clock g.relation g.constant ≡ entry (guard g)
guard_same g plain =
    λ i. entry (guard (record {
      clock = g.clock;
      second = sym plain.second i;
      relation = g.relation;
      minus = sym plain.minus i;
      constant = g.constant;
    }))

pub says_text : (c : Content) → PlainContent c → says (pieces 32 (line_text c)) ≡ some c
unfolding says same
says_text (head n) plain = ap says (two_pieces timers_word n (timers_free 32 (omega arith))) ∙ simp (numeral_number n, numeral_value n)
says_text (entry (guard g)) plain =
    ap says (three_pieces g)
    ∙ simp (
      numeral_number g.clock,
      numeral_number g.constant,
      sign_relation g.relation,
      numeral_value g.clock,
      numeral_value g.constant,
    )
    (ap some (guard_same g plain))
says_text (entry (reset j)) plain = ap says (two_pieces zero_word j (zero_free 32 (omega arith))) ∙ simp (numeral_number j, numeral_value j)
says_text finish plain = ap says (pieces_last 32 step_word (step_free 32 (omega arith)))
says_text close plain = ap says (pieces_last 32 end_word (end_free 32 (omega arith)))

-- Only the text of a line says it.
bound_text : (n r k : List ℕ) (q : Relation) → (is_number n ≡ true) × (is_number k ≡ true) → relation_in r ≡ some q
    → n ++ 32 ∷ (r ++ 32 ∷ k) ≡ line_text (bound (value n) q (value k))
bound_text n r k q are is =
    sym (append_assoc n (32 ∷ r) (32 ∷ k))
    ∙ ap (λ (u : List ℕ). u ++ 32 ∷ r ++ 32 ∷ k) (number_numeral n are.0)
    ∙ ap (λ (u : List ℕ). numeral (value n) ++ 32 ∷ u ++ 32 ∷ k) (relation_sign r q is)
    ∙ ap (λ (u : List ℕ). numeral (value n) ++ 32 ∷ sign_of q ++ 32 ∷ u) (number_numeral k are.1)

abbrev Said : List ℕ → Content → Type 0
Said s c = (s ≡ line_text c) × PlainContent c

is_said : {s : List ℕ} (d c : Content) → d ≡ c → PlainContent d → s ≡ line_text d → Said s c
is_said d c is plain text = (text ∙ ap line_text is, subst PlainContent is plain)

said : (ps : List (List ℕ)) (c : Content) → says ps ≡ some c → Said (joined 32 ps) c
unfolding says joined
said [] c e = absurd (none-ne-some c e)
said (w ∷ []) c e =
    pick (same w step_word) finish _ c e (λ t is. is_said finish c is tt (same_true w step_word t))
    (λ e. pick (same w end_word) close _ c e (λ t is. is_said close c is tt (same_true w end_word t))
    (λ e. absurd (none-ne-some c e)))
said (w ∷ n ∷ []) c e =
    pick (is_number n && same w timers_word) (head (value n)) _ c e (λ t is. is_said (head (value n)) c is tt (word timers_word t))
    (λ e. pick (is_number n && same w zero_word) (entry (reset (value n))) _ c e (λ t is. is_said (entry (reset (value n))) c is tt (word zero_word t))
    (λ e. absurd (none-ne-some c e)))
  where
    word : (v : List ℕ) → (is_number n && same w v) ≡ true → w ++ 32 ∷ n ≡ v ++ 32 ∷ numeral (value n)
    word v t =
        let tests = both (is_number n) (same w v) t in
        ap (λ (u : List ℕ). u ++ 32 ∷ n) (same_true w v tests.1) ∙ ap (λ (ds : List ℕ). v ++ 32 ∷ ds) (number_numeral n tests.0)
said (n ∷ r ∷ k ∷ []) c e = go (is_number n && is_number k) (relation_in r) refl refl
  where
    go : (t : Bool) (o : Option Relation) → (is_number n && is_number k) ≡ t → relation_in r ≡ o → Said (n ++ 32 ∷ (r ++ 32 ∷ k)) c
    go false o t is = absurd (none-ne-some c (simp (t) at e))
    go true none t is = absurd (none-ne-some c (simp (t, is) at e))
    go true (some q) t is =
        is_said (bound (value n) q (value k)) c (some-injective _ c (simp (t, is) at e)) (record { second = refl; minus = refl })
        (bound_text n r k q (both (is_number n) (is_number k) t) is)
said (w ∷ x ∷ y ∷ z ∷ ws) c e = absurd (none-ne-some c e)

pub text_says : (s : List ℕ) (c : Content) → says (pieces 32 s) ≡ some c → s ≡ line_text c
text_says s c e = sym (joined_pieces 32 s) ∙ (said (pieces 32 s) c e).0

pub says_plain : (ps : List (List ℕ)) (c : Content) → says ps ≡ some c → PlainContent c
says_plain ps c e = (said ps c e).1

-- The text of a line has no line feed.
blank_free : (s t : List ℕ) → Free 10 s → Free 10 t → Free 10 (s ++ 32 ∷ t)
blank_free s t left right = free_append 10 s (32 ∷ t) left (free_cons 10 32 t (λ e. omega arith) right)

pub text_free : (c : Content) → Free 10 (line_text c)
text_free (head n) = blank_free timers_word (numeral n) (timers_free 10 (omega arith)) (numeral_free 10 n (omega arith))
text_free (entry (guard g)) =
    blank_free (numeral g.clock ++ 32 ∷ sign_of g.relation) (numeral g.constant)
    (blank_free (numeral g.clock) (sign_of g.relation) (numeral_free 10 g.clock (omega arith)) (sign_free 10 g.relation (omega arith)))
    (numeral_free 10 g.constant (omega arith))
text_free (entry (reset j)) = blank_free zero_word (numeral j) (zero_free 10 (omega arith)) (numeral_free 10 j (omega arith))
text_free finish = step_free 10 (omega arith)
text_free close = end_free 10 (omega arith)

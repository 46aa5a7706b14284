-- The contents of a table that is written down, and how long its card is: at most 1,405 bytes, and some are as long.
use Rattle.std.specs.Prelude.{◌≡◌, refl, ℕ, ◌+◌, ◌*◌, ◌≤◌, ◌<◌, length}
use Rattle.std.proofs.Common.{sym, ◌∙◌, ap, arith, length-append}
use mathlib.Core.List.Memᴰ
use mathlib.Core.List.{List, [], ◌∷◌, ◌++◌, append_assoc, Memᴰ}
use Rattle.table.specs.declared.Guard.{Guard}
use Rattle.table.specs.declared.Relation.{Relation}
use Rattle.table.specs.declared.Relation.TheVariants.{Under, AtMost, Exactly, AtLeast, Over}
use Rattle.wire.specs.Listing.{Entry, guard, reset, Listing, Content, head, entry, finish, close, guards_of, resets_of}
use Rattle.format.specs.Encode.{entry_bytes, step_bytes, steps_bytes, encode, guard_count, LegalEntry, LegalSteps, Legal}
use Rattle.format.proofs.Longest.{resets_few}
use Rattle.cards.specs.Words.{timers_word, zero_word}
use Rattle.cards.specs.Convert.{numeral, sign_of, line_text}
use Rattle.cards.specs.Numbers.{numeral_short}
use Rattle.cards.specs.Card.{PlainContent}
use Rattle.cards.specs.Contents.{PlainContents, bytes_for, text_for, plain_more}

-- the contents of a step's entries and its end, before others; of steps and the end of the table; of a table
unfoldable pub step_contents : List Entry → List Content → List Content
step_contents [] cs = finish ∷ cs
step_contents (e ∷ es) cs = entry e ∷ step_contents es cs

unfoldable pub steps_contents : List (List Entry) → List Content
steps_contents [] = close ∷ []
steps_contents (s ∷ ss) = step_contents s (steps_contents ss)

abbrev pub contents_of : Listing → List Content
contents_of l = head l.clocks ∷ steps_contents l.steps

-- their bytes are those of the table
step_bytes_lem : (es : List Entry) (cs : List Content) → bytes_for (step_contents es cs) ≡ step_bytes es ++ bytes_for cs
unfolding bytes_for step_contents step_bytes
step_bytes_lem [] cs = refl
step_bytes_lem (e ∷ es) cs =
    ap (λ bs. entry_bytes e ++ bs) (step_bytes_lem es cs) ∙ sym (append_assoc (entry_bytes e) (step_bytes es) (bytes_for cs))

steps_bytes_lem : (ss : List (List Entry)) → bytes_for (steps_contents ss) ≡ steps_bytes ss
unfolding bytes_for steps_contents steps_bytes
steps_bytes_lem [] = refl
steps_bytes_lem (s ∷ ss) = step_bytes_lem s (steps_contents ss) ∙ ap (λ bs. step_bytes s ++ bs) (steps_bytes_lem ss)

pub contents_bytes : (l : Listing) → bytes_for (contents_of l) ≡ encode l
unfolding bytes_for encode
contents_bytes l = ap (λ bs. 1 ∷ l.clocks ∷ bs) (steps_bytes_lem l.steps)

-- none of them is a guard of two clocks
entry_plain : (n : ℕ) (e : Entry) → LegalEntry n e → PlainContent (entry e)
entry_plain n (guard g) legal = legal.3
entry_plain n (reset j) legal = tt

step_plain : (n : ℕ) (es : List Entry) (cs : List Content) → ((e : Entry) → Memᴰ e es → LegalEntry n e) → PlainContents cs
    → PlainContents (step_contents es cs)
unfolding step_contents
step_plain n [] cs h rest = plain_more finish cs tt rest
step_plain n (e ∷ es) cs h rest =
    plain_more (entry e) (step_contents es cs) (entry_plain n e (h e (Memᴰ.head refl)))
    (step_plain n es cs (λ f m. h f (Memᴰ.tail m)) rest)

steps_plain : (n : ℕ) (ss : List (List Entry)) → LegalSteps n ss → PlainContents (steps_contents ss)
unfolding steps_contents
steps_plain n [] h = plain_more close [] tt (λ c m. absurd (Memᴰ.not-nil m))
steps_plain n (s ∷ ss) h =
    step_plain n s (steps_contents ss) (h s (Memᴰ.head refl)).entries (steps_plain n ss (λ x m. h x (Memᴰ.tail m)))

pub contents_plain : (l : Listing) → Legal l → PlainContents (contents_of l)
contents_plain l h = plain_more (head l.clocks) (steps_contents l.steps) tt (steps_plain l.clocks l.steps h.each)

-- the longest lines: "6 <= 4000", "zero 6", "step", "end", "timers 6", each with its line feed
sign_short : (r : Relation) → length (sign_of r) ≤ 2
sign_short Under = omega arith
sign_short AtMost = omega arith
sign_short Exactly = omega arith
sign_short AtLeast = omega arith
sign_short Over = omega arith

three : (a b c : List ℕ) → length (a ++ 32 ∷ b ++ 32 ∷ c) ≡ length a + length b + length c + 2
three a b c = omega (arith, length-append (a ++ 32 ∷ b) (32 ∷ c), length-append a (32 ∷ b))

guard_short : (n : ℕ) (g : Guard) → n ≤ 6 → LegalEntry n (guard g) → length (line_text (entry (guard g))) ≤ 9
guard_short n g few legal =
    let size : length (line_text (entry (guard g))) ≡ _ = three (numeral g.clock) (sign_of g.relation) (numeral g.constant) in
    omega (
      arith,
      sign_short g.relation,
      numeral_short g.clock 1 (omega arith) (omega (arith, legal.1)),
      numeral_short g.constant 4 (omega arith) (omega (arith, legal.2)),
    )

word_short : (word : List ℕ) (n x : ℕ) → n ≤ 6 → x ≤ n → length (word ++ 32 ∷ numeral x) ≤ length word + 2
word_short word n x few h =
    omega (arith, length-append word (32 ∷ numeral x), numeral_short x 1 (omega arith) (omega arith))

line_more : (c : Content) (cs : List Content) → length (text_for (c ∷ cs)) ≡ length (line_text c) + 1 + length (text_for cs)
unfolding text_for
line_more c cs = omega (arith, length-append (line_text c) (10 ∷ text_for cs))

step_text : (n : ℕ) (es : List Entry) (cs : List Content) → n ≤ 6 → ((e : Entry) → Memᴰ e es → LegalEntry n e)
    → length (text_for (step_contents es cs)) ≤ 10 * length (guards_of es) + 7 * length (resets_of es) + 5 + length (text_for cs)
unfolding step_contents guards_of resets_of
step_text n [] cs few h = omega (arith, line_more finish cs)
step_text n (guard g ∷ es) cs few h =
    omega (
      arith,
      line_more (entry (guard g)) (step_contents es cs),
      guard_short n g few (h (guard g) (Memᴰ.head refl)),
      step_text n es cs few (λ e m. h e (Memᴰ.tail m)),
    )
step_text n (reset j ∷ es) cs few h =
    omega (
      arith,
      line_more (entry (reset j)) (step_contents es cs),
      word_short zero_word n j few (h (reset j) (Memᴰ.head refl)).1,
      step_text n es cs few (λ e m. h e (Memᴰ.tail m)),
    )

steps_text : (n : ℕ) (ss : List (List Entry)) → n ≤ 6 → LegalSteps n ss
    → length (text_for (steps_contents ss)) ≤ 10 * guard_count ss + 47 * length ss + 4
unfolding steps_contents guard_count text_for
steps_text n [] few h = omega arith
steps_text n (s ∷ ss) few h =
    let legal = h s (Memᴰ.head refl) in
    omega (
      arith,
      step_text n s (steps_contents ss) few legal.entries,
      resets_few n s legal,
      steps_text n ss few (λ x m. h x (Memᴰ.tail m)),
    )

-- A table within the limits has a card of at most 1,405 bytes: "timers 6", 64 guards, sixteen steps with six resets each, and the end.
pub card_longest : (l : Listing) → Legal l → length (text_for (contents_of l)) ≤ 1405
card_longest l h =
    omega (
      arith,
      line_more (head l.clocks) (steps_contents l.steps),
      word_short timers_word l.clocks l.clocks h.clocks_few (omega arith),
      steps_text l.clocks l.steps h.clocks_few h.each,
      h.steps_few,
      h.guards_few,
    )

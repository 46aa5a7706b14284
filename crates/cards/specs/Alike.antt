-- The same tests judge a card's lines and a table's records: what contents say is counted alike, or refused for the same fault.
use Rattle.std.specs.Prelude.{◌≡◌, refl, Bool, ◌&&◌, ℕ, ◌+◌, ltb, leb}
use Rattle.std.proofs.Common.{sym, ◌∙◌, subst, arith, ne_eqb}
use Rattle.std.proofs.Math.Path.{subst₂}
use Rattle.std.proofs.Math.Bool.{true, false}
use mathlib.Core.List.{List, [], ◌∷◌}
use Rattle.std.proofs.Math.Dec.{eqb}
use Rattle.std.proofs.Math.ListN.{length}
use Rattle.table.specs.declared.Fault.{Fault}
use Rattle.table.specs.declared.Fault.TheVariants as fault
use Rattle.table.specs.declared.Read.{Read}
use Rattle.table.specs.declared.Read.TheVariants as read
use Rattle.records.specs.declared.Tally.{Tally}
use Rattle.records.specs.declared.Verdict.{Verdict}
use Rattle.records.specs.declared.Verdict.TheVariants.{Refused, Next, Last}
use Rattle.records.specs.Rules.{need, in_order, agree, within, is_free, headed, guarded, cleared, finished, ended}
use Rattle.records.specs.Checking.{tail_of, check_of, onward_of, check_judged}
use Rattle.wire.specs.Reading.{whole_of, judge_of, check, tail}
use Rattle.wire.specs.Laws.{onward}
use Rattle.wire.specs.Listing.{guard, reset, Content, head, entry, finish, close}
use Rattle.format.specs.Encode.{relation_code}
use Rattle.format.specs.Shapes.{constant_back}
use Rattle.cards.specs.Card.{tested, judge_line, check_lines}
use Rattle.cards.specs.Convert.{record_bytes, line_text}
use Rattle.cards.specs.Contents.{record_of, line_of, recorded, lined}

-- the record of a content is judged by the content's tests
pub judge_content : (t : Tally) (at : ℕ) (c : Content) → judge_of t (record_of at c) ≡ tested t at c
unfolding judge_of whole_of
judge_content t at (head n) = refl
judge_content t at (entry (guard g)) = simp constant_back
judge_content t at (entry (reset j)) = refl
judge_content t at finish = refl
judge_content t at close = refl

-- verdicts that are the same, or refusals for the same fault
pub data Alike : Verdict → Verdict → Type 0 where
  refused : (f : Fault) (p q : ℕ) → Alike (Refused (record { fault = f; place = p })) (Refused (record { fault = f; place = q }))
  next : (u : Tally) → Alike (Next u) (Next u)
  last : Alike Last Last

module _ (t : Tally) (p q : ℕ) (first : eqb p 0 ≡ eqb q 0) where
  test : (b : Bool) (f : Fault) {v w : Verdict} → Alike v w → Alike (need b f p v) (need b f q w)
  test true f a = a
  test false f a = refused f p q

  order_alike : (b : Bool) {v w : Verdict} → Alike v w → Alike (in_order b p v) (in_order b q w)
  order_alike b {v} {w} a =
      subst (λ x. Alike (need (agree x b) fault.Head p v) (in_order b q w)) (sym first)
      (test (agree (eqb q 0) b) fault.Head a)

  -- the tests of a content, at the start of both or of neither
  pub tested_alike : (c : Content) → Alike (tested t p c) (tested t q c)
  unfolding headed guarded cleared finished ended
  tested_alike (head n) = order_alike true (test (within 1 n 6) fault.Head (next _))
  tested_alike (entry (guard g)) =
      order_alike false
      (test (ltb t.guards 64) fault.Bounds
      (test (within 1 g.clock t.clocks) fault.Timer
      (test (leb (relation_code g.relation) 4) fault.Relation
      (test (leb g.constant 4000) fault.Constant (next _)))))
  tested_alike (entry (reset j)) =
      order_alike false
      (test (within 1 j t.clocks) fault.Timer (test (is_free t.pending j) fault.Twice (next _)))
  tested_alike finish = order_alike false (test (ltb t.steps 16) fault.Steps (next _))
  tested_alike close = order_alike false (test (leb 1 t.steps && eqb t.pending 0) fault.Steps last)

-- no place after the first record or line is a start
later : (c : Content) (p q : ℕ) → eqb (p + length (line_text c) + 1) 0 ≡ eqb (q + length (record_bytes c)) 0
later c p q = ne_eqb (p + length (line_text c) + 1) 0 (λ e. omega arith) ∙ sym (ne_eqb (q + length (record_bytes c)) 0 (λ e. some c e))
  where
    some : (c : Content) → q + length (record_bytes c) ≡ 0 → ⊥
    some (head n) e = omega arith
    some (entry (guard g)) e = omega arith
    some (entry (reset j)) e = omega arith
    some finish e = omega arith
    some close e = omega arith

-- answers that count the same, or refuse for the same fault
pub data SameRead : Read → Read → Type 0 where
  both_refuse : (f : Fault) (p q : ℕ)
      → SameRead (read.Refused (record { fault = f; place = p })) (read.Refused (record { fault = f; place = q }))
  both_count : (n l g : ℕ) → SameRead (read.Counted n l g) (read.Counted n l g)

-- Contents as the lines of a card and as the records of a table, the first of both at their start, or neither.
module _ (len size : ℕ) where
  abbrev Both : (cs : List Content) (t : Tally) (p q : ℕ) → Type 0
  Both cs t p q = SameRead (check_lines len t (lined p cs)) (check size t (recorded q cs))

  tail_alike : (cs : List Content) (t : Tally) (p q : ℕ) → SameRead (tail_of (λ l. l.place) t (lined p cs)) (tail t (recorded q cs))
  unfolding lined recorded
  tail_alike [] t p q = both_count t.clocks t.steps t.guards
  tail_alike (c ∷ cs) t p q = both_refuse fault.Tail p (record_of q c).place

  onward_alike : (cs : List Content) (t : Tally) (p q : ℕ) → ((u : Tally) → Both cs u p q) → {v w : Verdict} → Alike v w
      → SameRead (onward_of (λ l. l.place) judge_line len t (lined p cs) v) (onward size t (recorded q cs) w)
  onward_alike cs t p q rest (refused f a b) = both_refuse f a b
  onward_alike cs t p q rest (next u) = rest u
  onward_alike cs t p q rest last = tail_alike cs t p q

  pub check_alike : (cs : List Content) (t : Tally) (p q : ℕ) → eqb p 0 ≡ eqb q 0 → Both cs t p q
  unfolding check_of lined recorded
  check_alike [] t p q e = both_refuse fault.Cut len size
  check_alike (c ∷ cs) t p q e =
      let p' = p + length (line_text c) + 1 in
      let q' = q + length (record_bytes c) in
      subst₂ SameRead (sym (check_judged (λ l. l.place) judge_line len t (line_of p c) (lined p' cs) (tested t p c) refl))
      (sym (check_judged (λ r. r.place) judge_of size t (record_of q c) (recorded q' cs) (tested t q c) (judge_content t q c)))
      (onward_alike cs t p' q' (λ u. check_alike cs u p' q' (later c p q)) (tested_alike t p q e c))

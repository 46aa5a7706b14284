-- Every table within the limits is accepted, counted right, and read back as it was written.
use Rattle.std.specs.Prelude.{◌≡◌, refl, true, false, ℕ, suc, ◌+◌, ◌≤◌, ◌<◌, leb, get_or}
use Rattle.std.proofs.Common.{sym, ◌∙◌, ap₂, arith, add-zero}
use Rattle.std.proofs.Math.Path.{ap}
use mathlib.Core.List.{List, [], ◌∷◌, ◌++◌, append_assoc, append-nil, Memᴰ}
use Rattle.std.proofs.Math.ListN.{length}
use borrow.Author.Tests.{lt-ltb, le-leb, ne_eqb}
use Rattle.basics.specs.Distinct.{Each, distinct_rest}
use Rattle.table.specs.declared.Relation.{Relation}
use Rattle.table.specs.declared.Relation.TheVariants.{Under, AtMost, Exactly, AtLeast, Over}
use Rattle.table.specs.declared.Read.{Read}
use Rattle.table.specs.declared.Read.TheVariants as read
use Rattle.records.specs.declared.Tally.{Tally}
use Rattle.records.specs.declared.Verdict.TheVariants.{Next, Last}
use Rattle.records.specs.Rules.{is_free, marked, headed, guarded, cleared, finished, ended}
use Rattle.records.specs.Marks.{all_free, marked_other}
use Rattle.wire.specs.Records.{records_from}
use Rattle.records.specs.Checking.{start}
use Rattle.wire.specs.Reading.{whole_of, judge_of, check, read_of}
use Rattle.wire.specs.Laws.{read_short}
use Rattle.wire.specs.Listing.{Entry, guard, reset, Listing, steps_in, listing, guards_of, resets_of}
use Rattle.format.specs.Encode.{
  relation_code,
  entry_bytes,
  step_bytes,
  steps_bytes,
  encode,
  guard_count,
  LegalEntry,
  LegalStep,
  LegalSteps,
  Legal,
}
use Rattle.format.proofs.Longest.{resets_each, longest}
use Rattle.format.specs.Shapes.{
  head_with,
  entry_at,
  finish_at,
  end_at,
  weight,
  digit_of,
  fresh,
  head_tally,
  entered,
  stepped,
  constant_back,
  check_judged,
  steps_entry,
  guards_more,
}

pub relation_known : (r : Relation) → leb (relation_code r) 4 ≡ true
relation_known Under = refl
relation_known AtMost = refl
relation_known Exactly = refl
relation_known AtLeast = refl
relation_known Over = refl

-- the head is taken
pub judge_head : (n : ℕ) → 1 ≤ n → n ≤ 6 → judge_of start (head_with n) ≡ Next (head_tally n)
unfolding judge_of whole_of headed
judge_head n low high = simp (le-leb 1 n low, le-leb n 6 high)

-- after it a legal entry, a finished step and the end are taken, as far as their numbers are within the limits
module _ (t : Tally) (at : ℕ) (later : 0 < at) where
  pub judge_entry : (e : Entry) → LegalEntry t.clocks e → fresh t.pending e ≡ true → t.guards + weight e ≤ 64
      → judge_of t (entry_at at e) ≡ Next (entered t e)
  unfolding judge_of whole_of guarded cleared
  judge_entry (guard g) l new room =
      simp (
        ne_eqb at 0 (λ z. omega arith),
        lt-ltb t.guards 64 (omega arith),
        le-leb 1 g.clock l.0,
        le-leb g.clock t.clocks l.1,
        relation_known,
        constant_back,
        le-leb g.constant 4000 l.2,
      )
  judge_entry (reset j) l new room =
      simp (ne_eqb at 0 (λ z. omega arith), le-leb 1 j l.0, le-leb j t.clocks l.1, new, add-zero)

  pub judge_finish : t.steps < 16 → judge_of t (finish_at at) ≡ Next (stepped t t.guards)
  unfolding judge_of whole_of finished
  judge_finish few = simp (ne_eqb at 0 (λ z. omega arith), lt-ltb t.steps 16 few)

  pub judge_end : 1 ≤ t.steps → t.pending ≡ 0 → judge_of t (end_at at) ≡ Last
  unfolding judge_of whole_of ended
  judge_end some none = simp (ne_eqb at 0 (λ z. omega arith), le-leb 1 t.steps some, none)

-- the bytes of an entry are its record
records_entry : (at : ℕ) (e : Entry) (rest : List ℕ)
    → records_from 0 at (entry_bytes e ++ rest) ≡ entry_at at e ∷ records_from 0 (at + length (entry_bytes e)) rest
unfolding records_from
records_entry at (guard g) rest = ap (λ n. entry_at at (guard g) ∷ records_from 0 n rest) (omega arith)
records_entry at (reset j) rest = ap (λ n. entry_at at (reset j) ∷ records_from 0 n rest) (omega arith)

pub records_more : (at : ℕ) (e : Entry) (es : List Entry) (rest : List ℕ)
    → records_from 0 at (step_bytes (e ∷ es) ++ rest)
    ≡ entry_at at e ∷ records_from 0 (at + length (entry_bytes e)) (step_bytes es ++ rest)
unfolding step_bytes
records_more at e es rest =
    ap (records_from 0 at) (append_assoc (entry_bytes e) (step_bytes es) rest)
    ∙ records_entry at e (step_bytes es ++ rest)

-- all clocks that entries reset are free
abbrev pub Free : ℕ → List Entry → Type 0
Free m es = Each (λ j. is_free m j ≡ true) (resets_of es)

pub free_none : (m : ℕ) (es : List Entry) → m ≡ 0 → Free m es
free_none m es e k l = ap (λ n. is_free n (get_or (resets_of es) k 0)) e ∙ all_free (get_or (resets_of es) k 0)

-- the first of them is fresh, and with it marked the others stay free
pub free_first : (m : ℕ) (e : Entry) (es : List Entry) → Free m (e ∷ es) → fresh m e ≡ true
unfolding resets_of
free_first m (guard g) es free = refl
free_first m (reset j) es free = free 0 (omega arith)

pub free_rest : (n m : ℕ) (e : Entry) (es : List Entry) → n ≤ 6 → LegalStep n (e ∷ es) → Free m (e ∷ es)
    → Free (marked m (digit_of e)) es
unfolding resets_of
free_rest n m (guard g) es few legal free = λ k l.
    let j = get_or (resets_of es) k 0 in
    let b = resets_each n (guard g ∷ es) legal.entries k l in
    marked_other m j 0 (omega (arith, b.1)) (omega arith) (λ e. omega (arith, b.0)) ∙ free k l
free_rest n m (reset i) es few legal free = λ k l.
    let j = get_or (resets_of es) k 0 in
    let a = resets_each n (reset i ∷ es) legal.entries 0 (omega arith) in
    let b = resets_each n (reset i ∷ es) legal.entries (suc k) (omega arith) in
    marked_other m j i (omega (arith, b.1)) (omega (arith, a.1))
    (λ e. legal.once 0 (suc k) (omega arith) (omega arith) (sym e)) ∙ free (suc k) (omega arith)

pub legal_rest : (n : ℕ) (e : Entry) (es : List Entry) → LegalStep n (e ∷ es) → LegalStep n es
unfolding resets_of
legal_rest n (guard g) es h = record { entries = λ f m. h.entries f (Memᴰ.tail m); once = h.once }
legal_rest n (reset j) es h =
    record { entries = λ f m. h.entries f (Memᴰ.tail m); once = distinct_rest j (resets_of es) h.once }

-- Legal entries and the end of their step, wherever they stand after the head, are taken: the answer is that after them.
module _ (len : ℕ) (rest : List ℕ) (answer : Read) where
  check_step : (es : List Entry) (t : Tally) (at : ℕ) → 0 < at → t.clocks ≤ 6 → LegalStep t.clocks es
      → Free t.pending es
      → t.steps < 16 → t.guards + length (guards_of es) ≤ 64
      → ((p : ℕ) → 0 < p
      → check len (stepped t (t.guards + length (guards_of es))) (records_from 0 p rest) ≡ answer)
      → check len t (records_from 0 at (step_bytes es ++ rest)) ≡ answer
  unfolding records_from step_bytes guards_of
  check_step [] t at later clocks legal free few room then =
      check_judged len t _ _ _ (judge_finish t at later few)
      ∙ ap (λ c. check len (stepped t c) (records_from 0 (at + 1) rest)) (sym (add-zero t.guards))
      ∙ then (at + 1) (omega arith)
  check_step (e ∷ es) t at later clocks legal free few room then =
      let more = guards_more e es in
      ap (check len t) (records_more at e es rest)
      ∙ check_judged len t _ _ _
      (judge_entry t at later e (legal.entries e (Memᴰ.head refl)) (free_first t.pending e es free) (omega arith))
      ∙ check_step es (entered t e) (at + length (entry_bytes e)) (omega arith) clocks
      (legal_rest t.clocks e es legal) (free_rest t.clocks t.pending e es clocks legal free) few (omega arith)
      (λ p h. ap (λ c. check len (stepped t c) (records_from 0 p rest)) (omega (arith, more)) ∙ then p h)

-- Legal steps and the end, wherever they stand after the head, are taken and counted.
check_steps : (len : ℕ) (ss : List (List Entry)) (t : Tally) (at : ℕ) → 0 < at → t.clocks ≤ 6
    → LegalSteps t.clocks ss → t.pending ≡ 0 → 1 ≤ t.steps + length ss → t.steps + length ss ≤ 16 → t.guards + guard_count ss ≤ 64
    → check len t (records_from 0 at (steps_bytes ss))
    ≡ read.Counted t.clocks (t.steps + length ss) (t.guards + guard_count ss)
unfolding records_from steps_bytes guard_count
check_steps len [] t at later clocks legal none some few room =
    check_judged len t _ _ Last (judge_end t at later (omega arith) none)
    ∙ ap₂ (read.Counted t.clocks) (omega arith) (omega arith)
check_steps len (s ∷ ss) t at later clocks legal none some few room =
    let u = stepped t (t.guards + length (guards_of s)) in
    check_step len (steps_bytes ss) _ s t at later clocks (legal s (Memᴰ.head refl)) (free_none t.pending s none)
    (omega arith) (omega arith)
    (λ p h. check_steps len ss u p h clocks (λ x m. legal x (Memᴰ.tail m)) refl (omega arith) (omega arith) (omega arith)
    ∙ ap₂ (read.Counted t.clocks) (omega arith) (omega arith))

-- Steps are read back, after some entries of the first.
steps_step : (n : ℕ) (rest : List ℕ) (ss : List (List Entry)) → ((p : ℕ) → steps_in [] (records_from 0 p rest) ≡ ss)
    → (begun es : List Entry) (at : ℕ) → ((e : Entry) → Memᴰ e es → LegalEntry n e)
    → steps_in begun (records_from 0 at (step_bytes es ++ rest)) ≡ (begun ++ es) ∷ ss
unfolding records_from steps_in step_bytes
steps_step n rest ss then begun [] at legal = ap₂ ◌∷◌ (sym (append-nil begun)) (then (at + 1))
steps_step n rest ss then begun (e ∷ es) at legal =
    ap (steps_in begun) (records_more at e es rest)
    ∙ steps_entry begun n at e (records_from 0 (at + length (entry_bytes e)) (step_bytes es ++ rest)) (legal e (Memᴰ.head refl))
    ∙ steps_step n rest ss then (begun ++ (e ∷ [])) es (at + length (entry_bytes e)) (λ f m. legal f (Memᴰ.tail m))
    ∙ ap (λ s. s ∷ ss) (append_assoc begun (e ∷ []) es)

steps_back : (n : ℕ) (ss : List (List Entry)) → LegalSteps n ss → (at : ℕ) → steps_in [] (records_from 0 at (steps_bytes ss)) ≡ ss
unfolding records_from steps_in steps_bytes
steps_back n [] legal at = refl
steps_back n (s ∷ ss) legal at =
    steps_step n (steps_bytes ss) ss (steps_back n ss (λ x m. legal x (Memᴰ.tail m))) [] s at
    (legal s (Memᴰ.head refl)).entries

-- Every table within the limits is accepted, counted right, and read back as it was written.
pub read_encoded : (l : Listing) → Legal l
    → (read_of (encode l) ≡ read.Counted l.clocks (length l.steps) (guard_count l.steps))
    × (listing (encode l) ≡ l)
unfolding encode records_from listing steps_in
read_encoded l h = (
  read_short (encode l) (omega (arith, longest l h))
      ∙ check_judged _ start _ _ _ (judge_head l.clocks h.clocks_some h.clocks_few)
      ∙ check_steps _ l.steps (head_tally l.clocks) 2 (omega arith) h.clocks_few h.each refl
      (omega arith) (omega arith) (omega arith)
      ∙ ap₂ (read.Counted l.clocks) (omega arith) (omega arith),
  λ i. record { clocks = l.clocks; steps = steps_back l.clocks l.steps h.each 2 i },
)

-- A line that the program found, with its numbers held: it is judged as what the line says, and its record is what is written for it.
use Rattle.std.specs.Prelude.{◌≡◌, refl, Bool, true, false, cond, ◌&&◌, List, [], ◌∷◌, ℕ, ◌+◌, ◌/◌, ◌%◌, ◌≤◌, ◌<◌, eqb, ltb, leb}
use Rattle.std.proofs.Common.{sym, ◌∙◌, ap, arith, le-leb}
use Rattle.std.proofs.Math.Decide.{dec_le}
use Rattle.std.proofs.lemmas.Bool.{lt-leb}
use Rattle.table.specs.declared.Fault.{Fault}
use Rattle.table.specs.declared.Fault.TheVariants as fault
use Rattle.records.specs.declared.Tally.{Tally}
use Rattle.records.specs.declared.Verdict.{Verdict}
use Rattle.records.specs.declared.Verdict.TheVariants.{Refused, Next}
use Rattle.records.specs.Rules.{need, in_order, within, is_free, marked, headed, guarded, cleared, finished, ended}
use Rattle.wire.specs.Records.{Bytes}
use Rattle.wire.specs.Listing.{guard, reset, Content, head, entry, finish, close}
use Rattle.format.specs.Encode.{relation_code}
use Rattle.format.specs.Judged.{within_true}
use Rattle.cards.specs.Card.{tested}
use Rattle.cards.specs.Convert.{record_bytes}
use Rattle.card_lines.specs.declared.Found.{Found}
use Rattle.card_lines.specs.Front.{held}
use Rattle.card_lines.specs.Fronts.{found_of}

-- a line that says something, by its kind
unfoldable pub taken_of : Tally → ℕ → Found → Verdict
taken_of t at f =
    cond (eqb f.kind 1) (headed at f.first)
    (cond (eqb f.kind 2) (guarded t at f.first f.relation f.second)
    (cond (eqb f.kind 3) (cleared t at f.first)
    (cond (eqb f.kind 4) (finished t at)
    (ended t at))))

-- any line
unfoldable pub judge_found : Tally → ℕ → Found → Verdict
judge_found t at f =
    cond (eqb f.kind 0) (Refused (record { fault = fault.Card; place = at }))
    (in_order (eqb f.kind 1) at (taken_of t at f))

-- the bytes that are written for a line
unfoldable pub found_bytes : Found → List ℕ
found_bytes f =
    f.kind % 256
    ∷ cond (eqb f.kind 2) (f.first % 256 ∷ f.relation % 256 ∷ f.second % 256 ∷ f.second / 256 % 256 ∷ [])
    (cond (eqb f.kind 4) [] (cond (eqb f.kind 5) [] (f.first % 256 ∷ [])))

-- No test of a record tells a held number from the number itself.
held_low : (low x : ℕ) → low ≤ 65536 → leb low (held x) ≡ leb low x
held_low low x l = go (dec_le x 65536)
  where
    go : Dec (x ≤ 65536) → leb low (held x) ≡ leb low x
    go (yes h) = let e : held x ≡ x = omega arith in ap (leb low) e
    go (no h) = le-leb low (held x) (omega arith) ∙ sym (le-leb low x (omega arith))

held_high : (x high : ℕ) → high < 65536 → leb (held x) high ≡ leb x high
held_high x high l = go (dec_le x 65536)
  where
    go : Dec (x ≤ 65536) → leb (held x) high ≡ leb x high
    go (yes h) = let e : held x ≡ x = omega arith in ap (λ y. leb y high) e
    go (no h) = lt-leb (held x) high (omega arith) ∙ sym (lt-leb x high (omega arith))

held_within : (x high : ℕ) → high < 65536 → within 1 (held x) high ≡ within 1 x high
held_within x high l = λ i. held_low 1 x (omega arith) i && held_high x high l i

-- what follows a test that a number is small may take the number for the held one
held_then : (x high : ℕ) (f : Fault) (place : ℕ) (then : ℕ → Verdict) → high < 65536
    → need (within 1 (held x) high) f place (then (held x)) ≡ need (within 1 x high) f place (then x)
held_then x high f place then l = ap (λ b. need b f place (then (held x))) (held_within x high l) ∙ go (within 1 x high) refl
  where
    go : (b : Bool) → within 1 x high ≡ b → need b f place (then (held x)) ≡ need b f place (then x)
    go false e = refl
    go true e =
        let h = within_true 1 x high e in
        let same : held x ≡ x = omega (arith, h.1) in
        ap then same

-- a line is judged as what it says
pub judge_found_lem : (t : Tally) (at : ℕ) (c : Content) (next : ℕ) → t.clocks ≤ 6 → judge_found t at (found_of c next) ≡ tested t at c
unfolding judge_found taken_of headed guarded cleared
judge_found_lem t at (head n) next few =
    ap (in_order true at)
    (held_then n 6 fault.Head at (λ m. Next (record { clocks = m; steps = 0; guards = 0; pending = 0 })) (omega arith))
judge_found_lem t at (entry (guard g)) next few =
    (λ i. in_order false at
    (need (ltb t.guards 64) fault.Bounds at
    (need (held_within g.clock t.clocks (omega arith) i) fault.Timer at
    (need (leb (relation_code g.relation) 4) fault.Relation at
    (need (held_high g.constant 4000 (omega arith) i) fault.Constant at
    (Next (record { clocks = t.clocks; steps = t.steps; guards = t.guards + 1; pending = marked t.pending 0 })))))))
judge_found_lem t at (entry (reset j)) next few =
    ap (in_order false at)
    (held_then j t.clocks fault.Timer at
    (λ k. need (is_free t.pending k) fault.Twice at
    (Next (record { clocks = t.clocks; steps = t.steps; guards = t.guards; pending = marked t.pending k })))
    (omega arith))
judge_found_lem t at finish next few = refl
judge_found_lem t at close next few = refl

-- the record of an accepted line is what is written for it
pub found_bytes_lem : (c : Content) (next : ℕ) → Bytes (record_bytes c) → found_bytes (found_of c next) ≡ record_bytes c
unfolding found_bytes
found_bytes_lem (head n) next h =
    let a : held n % 256 ≡ n = omega (arith, h 1) in λ i. 1 ∷ a i ∷ []
found_bytes_lem (entry (guard g)) next h =
    let a : held g.clock % 256 ≡ g.clock = omega (arith, h 1) in
    let b : relation_code g.relation % 256 ≡ relation_code g.relation = omega (arith, h 2) in
    let whole : held g.constant ≡ g.constant = omega (arith, h 4) in
    let top : g.constant / 256 % 256 ≡ g.constant / 256 = omega (arith, h 4) in
    let low : held g.constant % 256 ≡ g.constant % 256 = ap (λ c. c % 256) whole in
    let high : held g.constant / 256 % 256 ≡ g.constant / 256 = ap (λ c. c / 256 % 256) whole ∙ top in
    λ i. 2 ∷ a i ∷ b i ∷ low i ∷ high i ∷ []
found_bytes_lem (entry (reset j)) next h =
    let a : held j % 256 ≡ j = omega (arith, h 1) in λ i. 3 ∷ a i ∷ []
found_bytes_lem finish next h = refl
found_bytes_lem close next h = refl

pub found_next : (c : Content) (next : ℕ) → (found_of c next).next ≡ next
found_next (head n) next = refl
found_next (entry (guard g)) next = refl
found_next (entry (reset j)) next = refl
found_next finish next = refl
found_next close next = refl

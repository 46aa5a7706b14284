use Rattle.std.proofs.Common.{◌≡◌, ℕ, ◌+◌, ◌-◌, ◌≤◌, List, ◌++◌, length, get_or, take, drop, ap, ◌∙◌, arith, rules, length-append, length-take, length-drop, get_or-take, get_or-drop}
use Rattle.std.proofs.lemmas.List.{get_or_append_left, get_or-append_right}
use Rattle.basics.specs.Mapped.{MappedTo, mapped_first}
use Rattle.scanning.specs.Progress.{settled}
use Rattle.scanning.proofs.settle.Invariants.{settling}
use Rattle.scanning.proofs.settle.Goals as goal

-- the first n are replaced, and put before the others
front : (f : ℕ → ℕ → ℕ) (was l : List ℕ) (n i : ℕ) → n ≤ length was → n ≤ i → MappedTo f (take n was) i l → MappedTo f was n (l ++ drop n was)
front f was l n i few h m =
    record {
      size = omega (arith, long, length-append l (drop n was), length-drop n was);
      done = λ j b.
          get_or_append_left l (drop n was) 0 j (omega (arith, long)) ∙ m.done j (omega arith) ∙ ap (f j) (get_or-take n was j 0 b);
      rest = λ j b.
          let e : n + (j - n) ≡ j = omega arith in
          get_or-append_right l (drop n was) n j 0 long b ∙ get_or-drop n was (j - n) 0 ∙ ap (λ k. get_or was k 0) e;
    }
  where
    long : length l ≡ n
    long = omega (arith, m.size, length-take n was)

pub returns : goal.returns
unfolding settled
returns c =
    let l = c.loop-i in
    let s = c.args in
    let six : length s.readings ≡ 6 = search rules in
    let f = settling s.ticks s.resets in
    mapped_first f s.readings 6 s.clocks _ six (front f s.readings l.reading-items s.clocks l.i (omega arith) (omega (arith, length-take s.clocks s.readings)) l.invariant)

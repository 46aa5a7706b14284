-- A guard as a number, and back.
use Rattle.std.specs.Prelude.{◌≡◌, refl, Bool, true, false, cond, ℕ, ◌+◌, ◌*◌, ◌/◌, ◌%◌, ◌<◌, eqb}
use Rattle.std.proofs.Common.{ap, ◌∙◌, arith}
use Rattle.table.specs.declared.Guard.{Guard}
use Rattle.scaling.specs.Constants.{with_constant}
use Rattle.table.specs.declared.Relation.{Relation}
use Rattle.table.specs.declared.Relation.TheVariants.{Under, AtMost, Exactly, AtLeast, Over}

abbrev pub relation_code : Relation → ℕ
relation_code Under = 0
relation_code AtMost = 1
relation_code Exactly = 2
relation_code AtLeast = 3
relation_code Over = 4

abbrev pub relation_at : ℕ → Relation
relation_at c = cond (eqb c 0) Under (cond (eqb c 1) AtMost (cond (eqb c 2) Exactly (cond (eqb c 3) AtLeast Over)))

-- the clock, the second clock, the relation, the sign and the constant
unfoldable pub code_of : Guard → ℕ
code_of g = g.clock + 7 * g.second + 49 * relation_code g.relation + 245 * cond g.minus 1 0 + 490 * g.constant

unfoldable pub guard_at : ℕ → Guard
guard_at c =
    record {
      clock = c % 7;
      second = c / 7 % 7;
      relation = relation_at (c / 49 % 5);
      minus = eqb (c / 245 % 2) 1;
      constant = c / 490;
    }

pub relation_few : (r : Relation) → relation_code r < 5
relation_few Under = omega arith
relation_few AtMost = omega arith
relation_few Exactly = omega arith
relation_few AtLeast = omega arith
relation_few Over = omega arith

relation_back : (r : Relation) → relation_at (relation_code r) ≡ r
relation_back Under = refl
relation_back AtMost = refl
relation_back Exactly = refl
relation_back AtLeast = refl
relation_back Over = refl

pub sign_few : (b : Bool) → cond b 1 0 < 2
sign_few true = omega arith
sign_few false = omega arith

sign_back : (b : Bool) → eqb (cond b 1 0) 1 ≡ b
sign_back true = refl
sign_back false = refl

-- five numbers are found again in the one that they make
module _ (a b c d e : ℕ) (p : a < 7) (q : b < 7) (r : c < 5) (s : d < 2) where
  digit_a : (a + 7 * b + 49 * c + 245 * d + 490 * e) % 7 ≡ a
  digit_a = omega arith

  digit_b : (a + 7 * b + 49 * c + 245 * d + 490 * e) / 7 % 7 ≡ b
  digit_b = omega arith

  digit_c : (a + 7 * b + 49 * c + 245 * d + 490 * e) / 49 % 5 ≡ c
  digit_c = omega arith

  digit_d : (a + 7 * b + 49 * c + 245 * d + 490 * e) / 245 % 2 ≡ d
  digit_d = omega arith

  digit_e : (a + 7 * b + 49 * c + 245 * d + 490 * e) / 490 ≡ e
  digit_e = omega arith

guard_is : (c a b e : ℕ) (r : Relation) (m : Bool) → c % 7 ≡ a → c / 7 % 7 ≡ b → relation_at (c / 49 % 5) ≡ r
    → eqb (c / 245 % 2) 1 ≡ m → c / 490 ≡ e
    → guard_at c ≡ record { clock = a; second = b; relation = r; minus = m; constant = e }
unfolding guard_at
guard_is c a b e r m f g h k l = λ i. record { clock = f i; second = g i; relation = h i; minus = k i; constant = l i }

-- A guard on clocks up to 6 is found again.
pub guard_back : (g : Guard) → g.clock < 7 → g.second < 7 → guard_at (code_of g) ≡ g
unfolding code_of
guard_back g p q =
    guard_is _ g.clock g.second g.constant g.relation g.minus
    (digit_a g.clock g.second (relation_code g.relation) (cond g.minus 1 0) g.constant p q r s)
    (digit_b g.clock g.second (relation_code g.relation) (cond g.minus 1 0) g.constant p q r s)
    (ap relation_at (digit_c g.clock g.second (relation_code g.relation) (cond g.minus 1 0) g.constant p q r s)
    ∙ relation_back g.relation)
    (ap (λ x. eqb x 1) (digit_d g.clock g.second (relation_code g.relation) (cond g.minus 1 0) g.constant p q r s)
    ∙ sign_back g.minus)
    (digit_e g.clock g.second (relation_code g.relation) (cond g.minus 1 0) g.constant p q r s)
  where
    r : relation_code g.relation < 5
    r = relation_few g.relation

    s : cond g.minus 1 0 < 2
    s = sign_few g.minus

-- the guard of a number, without its constant
pub unsigned_is : (c : ℕ) (r : Relation) → r ≡ relation_at (c / 49 % 5)
    → record { clock = c % 7; second = c / 7 % 7; relation = r; minus = eqb (c / 245 % 2) 1; constant = 0 } ≡ with_constant 0 (guard_at c)
unfolding guard_at
unsigned_is c r e = λ i. record { clock = c % 7; second = c / 7 % 7; relation = e i; minus = eqb (c / 245 % 2) 1; constant = 0 }

-- with its constant it is the guard
pub signed_is : (c : ℕ) (g : Guard) → g ≡ with_constant 0 (guard_at c) → with_constant (c / 490) g ≡ guard_at c
unfolding guard_at
signed_is c g e = ap (with_constant (c / 490)) e

-- The row of the leads, which are the guards with a second clock: places 0 to 17 say where the leads of each step begin and end, and
-- from place 18 on stand their numbers, in table order.
use Rattle.std.specs.Prelude.{◌≡◌, refl, Bool, true, false, cond, List, [], ◌∷◌, ◌++◌, map, ℕ, zero, suc, ◌+◌, ◌-◌, ◌≤◌, ◌<◌, ltb, eqb, drop, take}
use Rattle.std.proofs.Common.{sym, ◌∙◌, lt-ltb, le-ltb, take-append-drop, get_or-drop, get_or-take, length-take-le, take-take}
use Rattle.std.proofs.Math.Path.{ap}
use Rattle.std.proofs.lemmas.Bool.{false≢true}
use native.Mathlib.Omega.{arith}
use Rattle.std.proofs.Math.Decide.{dec_lt}
use Rattle.std.proofs.Math.ListN.{length, get_or, length-append, length-take, length-drop, get_or-append}
use Rattle.std.proofs.lemmas.List.{length-map, drop-append-le}
use Rattle.std.proofs.Math.Seq.{slice, ext_get_or, length-slice, drop-nil, get_or-append-add}
use Rattle.table.specs.Step.{step_at, Good, FairGuard}
use Rattle.table.specs.Steps.{guard_fair}
use Rattle.table.specs.declared.Guard.{Guard}
use Rattle.table.specs.declared.Relation.TheVariants.{Under}
use Rattle.table.specs.declared.Table.{Table}
use Rattle.basics.specs.Tab.{tab, length_tab, get_d_tab, is_tab}
use Rattle.scaling.specs.Scaled.{guards_in}
use Rattle.scaling.specs.Constants.{with_constant, with_length, with_at, table_with}
use Rattle.sides.specs.Tight.{paired, paired_append, paired_few}
use Rattle.leads.specs.Codes.{code_of, guard_at, guard_back}

abbrev pub unread : Guard
unread = record { clock = 0; second = 0; relation = Under; minus = false; constant = 0 }

-- the leads before guard i
abbrev pub leads_before : Table → ℕ → List Guard
leads_before T i = paired (slice (get_or T.ends 0 0) i T.guards)

-- how many there are before step s, and 0 past the last end
abbrev pub count_at : Table → ℕ → ℕ
count_at T s = cond (ltb T.steps s) 0 (length (leads_before T (get_or T.ends s 0)))

-- the number of lead m, and 0 past the last lead
abbrev pub number_at : Table → ℕ → ℕ
number_at T m = get_or (map code_of (leads_before T (guards_in T))) m 0

unfoldable pub leads_of : Table → List ℕ
leads_of T = tab (count_at T) 18 ++ tab (number_at T) 64

-- what a row tells: a table of which only the guards of the steps are read
abbrev pub led_by : List ℕ → Table
led_by row = record { clocks = 0; steps = 0; guards = map guard_at (drop 18 row); ends = row; resets = [] }

-- ---- the places of the row
module _ (T : Table) where
  pub leads_size : length (leads_of T) ≡ 82
  unfolding leads_of
  leads_size =
      omega (
        arith,
        length-append (tab (count_at T) 18) (tab (number_at T) 64),
        length_tab (count_at T) 18,
        length_tab (number_at T) 64,
      )

  leads_count : (s : ℕ) → s ≤ T.steps → s < 18 → get_or (leads_of T) s 0 ≡ length (leads_before T (get_or T.ends s 0))
  unfolding leads_of
  leads_count s l b =
      get_or-append (tab (count_at T) 18) (tab (number_at T) 64) 0 s (omega (arith, length_tab (count_at T) 18))
      ∙ get_d_tab (count_at T) 18 s b
      ∙ rw (le-ltb T.steps s l)

  leads_number : (m : ℕ) → m < 64 → get_or (leads_of T) (18 + m) 0 ≡ number_at T m
  unfolding leads_of
  leads_number m b =
      ap (λ n. get_or (tab (count_at T) 18 ++ tab (number_at T) 64) (n + m) 0) (sym (length_tab (count_at T) 18))
      ∙ get_or-append-add (tab (count_at T) 18) (tab (number_at T) 64) m 0
      ∙ get_d_tab (number_at T) 64 m b

length_rest : (row : List ℕ) → length row ≡ 82 → length (drop 18 row) ≡ 64
length_rest row e = omega (arith, length-drop 18 row)

-- a row with these numbers is this one
pub is_leads : (T : Table) (row : List ℕ) → length row ≡ 82 → ((s : ℕ) → s < 18 → get_or row s 0 ≡ count_at T s)
    → ((m : ℕ) → m < 64 → get_or row (18 + m) 0 ≡ number_at T m) → row ≡ leads_of T
unfolding leads_of
is_leads T row e f g = sym (take-append-drop 18 row) ∙ (λ i. counts i ++ numbers i)
  where
    counts : take 18 row ≡ tab (count_at T) 18
    counts = is_tab 18 (count_at T) (take 18 row) (length-take-le 18 row (omega arith)) (λ s b. get_or-take 18 row s 0 b ∙ f s b)

    numbers : drop 18 row ≡ tab (number_at T) 64
    numbers = is_tab 64 (number_at T) (drop 18 row) (length_rest row e) (λ m b. get_or-drop 18 row m 0 ∙ g m b)

-- ---- the guards that a row tells
get_d_map : {A B : Type 0} (f : A → B) (l : List A) (i : ℕ) (c : A) (d : B) → i < length l → get_or (map f l) i d ≡ f (get_or l i c)
get_d_map f [] i c d b = absurd (omega arith)
get_d_map f (x ∷ l) zero c d b = refl
get_d_map f (x ∷ l) (suc i) c d b = get_d_map f l i c d (omega arith)

module _ (row : List ℕ) (e : length row ≡ 82) where
  pub led_size : length (led_by row).guards ≡ 64
  led_size = length-map (drop 18 row) guard_at ∙ length_rest row e

  pub led_at : (g : ℕ) → g < 64 → get_or (led_by row).guards g unread ≡ guard_at (get_or row (18 + g) 0)
  led_at g l =
      get_d_map guard_at (drop 18 row) g 0 unread (omega (arith, length_rest row e))
      ∙ ap guard_at (get_or-drop 18 row g 0)

  -- no step has more than 64
  pub led_few : (s : ℕ) → length (step_at (led_by row) s).guards ≤ 64
  unfolding step_at
  led_few s =
      omega (
        arith,
        length-drop (get_or row s 0) (take (get_or row (s + 1) 0) (led_by row).guards),
        length-take (get_or row (s + 1) 0) (led_by row).guards,
        led_size,
      )

-- What is asked of a row when rounds have L steps.
pub record Leading (row : List ℕ) (L : ℕ) : Type 0 where
  pub size : length row ≡ 82
  pub order : (s : ℕ) → s < L → get_or row s 0 ≤ get_or row (s + 1) 0
  pub room : (s : ℕ) → s < L → get_or row (s + 1) 0 ≤ 64

-- where the last step ends at 0, no step has a lead
pub led_none : (row : List ℕ) (L : ℕ) → Leading row L → get_or row L 0 ≡ 0 → (s : ℕ) → s < L → (step_at (led_by row) s).guards ≡ []
unfolding step_at
led_none row L a e s l = rw (ends (L - (s + 1)) (s + 1) (omega arith)) (drop-nil (get_or row s 0))
  where
    -- n steps before the last end
    ends : (n i : ℕ) → i + n ≡ L → get_or row i 0 ≡ 0
    ends zero i f = let same : i ≡ L = omega arith in ap (λ k. get_or row k 0) same ∙ e
    ends (suc n) i f = omega (arith, a.order i (omega arith), ends n (i + 1) (omega arith))

-- ---- the leads of a table
slice_split : (f i j : ℕ) (gs : List Guard) → f ≤ i → i ≤ j → j ≤ length gs → slice f j gs ≡ slice f i gs ++ slice i j gs
slice_split f i j gs p q r =
    ap (drop f) (sym (take-append-drop i (take j gs)) ∙ ap (λ l. l ++ slice i j gs) (take-take i j gs q))
    ∙ drop-append-le f (take i gs) (slice i j gs) (omega (arith, length-take-le i gs (omega arith)))

module _ (T : Table) where
  pub before_more : (i j : ℕ) → get_or T.ends 0 0 ≤ i → i ≤ j → j ≤ length T.guards
      → leads_before T j ≡ leads_before T i ++ paired (slice i j T.guards)
  before_more i j p q r =
      ap paired (slice_split (get_or T.ends 0 0) i j T.guards p q r)
      ∙ paired_append (slice (get_or T.ends 0 0) i T.guards) (slice i j T.guards)

  pub before_few : (i : ℕ) → i ≤ length T.guards → length (leads_before T i) ≤ i
  before_few i r =
      omega (arith, paired_few (slice (get_or T.ends 0 0) i T.guards), length-slice (get_or T.ends 0 0) i T.guards r)

-- what holds of all guards holds of the leads
each_paired : (Q : Guard → Type 0) (gs : List Guard) → ((j : ℕ) → j < length gs → Q (get_or gs j unread))
    → (j : ℕ) → j < length (paired gs) → Q (get_or (paired gs) j unread)
unfolding paired
each_paired Q [] h = h
each_paired Q (g ∷ gs) h = go (eqb g.second 0) (each_paired Q gs (λ j l. h (suc j) (omega arith)))
  where
    go : (b : Bool) → ((j : ℕ) → j < length (paired gs) → Q (get_or (paired gs) j unread))
        → (j : ℕ) → j < length (cond b (paired gs) (g ∷ paired gs)) → Q (get_or (cond b (paired gs) (g ∷ paired gs)) j unread)
    go true k j l = k j l
    go false k zero l = h 0 (omega arith)
    go false k (suc j) l = k j (omega arith)

slice_at : (f e : ℕ) (gs : List Guard) (j : ℕ) → j < e - f → get_or (slice f e gs) j unread ≡ get_or gs (f + j) unread
slice_at f e gs j l = get_or-drop f (take e gs) j unread ∙ get_or-take e gs (f + j) unread (omega arith)

-- ---- the guards of a step are its leads in the table
module _ (t : Table) (good : Good t) (cs : List ℕ) where
  abbrev T : Table
  T = table_with cs t

  abbrev row : List ℕ
  row = leads_of T

  pub guards_size : length T.guards ≡ 64
  guards_size = with_length cs t.guards ∙ good.guards_size

  -- n steps before the last end
  ends_few : (n i : ℕ) → i + n ≡ t.steps → get_or t.ends i 0 ≤ guards_in t
  ends_few zero i e = let same : i ≡ t.steps = omega arith in omega (arith, ap (λ k. get_or t.ends k 0) same)
  ends_few (suc n) i e = omega (arith, good.order i (omega arith), ends_few n (i + 1) (omega arith))

  pub first_few : (i : ℕ) → i ≤ t.steps → get_or t.ends 0 0 ≤ get_or t.ends i 0
  first_few zero l = omega arith
  first_few (suc i) l =
      let e : i + 1 ≡ suc i = omega arith in
      omega (arith, first_few i (omega arith), good.order i (omega arith), ap (λ k. get_or t.ends k 0) e)

  -- the leads before step s are the first ones
  pub before_step : (s : ℕ) → s ≤ t.steps
      → leads_before T (guards_in t) ≡ leads_before T (get_or t.ends s 0) ++ paired (slice (get_or t.ends s 0) (guards_in t) T.guards)
  before_step s l =
      before_more T (get_or t.ends s 0) (guards_in t) (first_few s l) (ends_few (t.steps - s) s (omega arith))
      (omega (arith, guards_size, good.room t.steps (omega arith)))

  module _ (s : ℕ) (l : s < t.steps) where
    abbrev a : ℕ
    a = get_or t.ends s 0

    abbrev b : ℕ
    b = get_or t.ends (s + 1) 0

    abbrev past : List Guard
    past = leads_before T a

    abbrev own : List Guard
    own = paired (slice a b T.guards)

    inside : b ≤ 64
    inside = good.room (s + 1) (omega arith)

    next : leads_before T b ≡ past ++ own
    next = before_more T a b (first_few s (omega arith)) (good.order s l) (omega (arith, guards_size, inside))

    begin_is : get_or row s 0 ≡ length past
    begin_is = leads_count T s (omega arith) (omega (arith, good.steps_few))

    end_is : get_or row (s + 1) 0 ≡ length past + length own
    end_is = leads_count T (s + 1) (omega arith) (omega (arith, good.steps_few)) ∙ ap length next ∙ length-append past own

    room : length past + length own ≤ 64
    room = omega (arith, before_few T b (omega (arith, guards_size, inside)), ap length next, length-append past own, inside)

    leads_order : get_or row s 0 ≤ get_or row (s + 1) 0
    leads_order = omega (arith, begin_is, end_is)

    leads_room : get_or row (s + 1) 0 ≤ 64
    leads_room = omega (arith, end_is, room)

    fair : (j : ℕ) → j < length (slice a b T.guards)
        → ((get_or (slice a b T.guards) j unread).clock < 7) × ((get_or (slice a b T.guards) j unread).second < 7)
    fair j m = rw is (f.last, f.second)
      where
        short : j < b - a
        short = omega (arith, length-slice a b T.guards (omega (arith, guards_size, inside)))

        is : get_or (slice a b T.guards) j unread ≡ with_constant (get_or cs (a + j) 0) (get_or t.guards (a + j) unread)
        is =
            slice_at a b T.guards j short
            ∙ with_at cs t.guards (a + j) unread (omega (arith, short, good.guards_size, inside))

        f : FairGuard (get_or t.guards (a + j) unread)
        f = guard_fair t s (a + j) unread good l (omega arith) (omega (arith, short))

    -- lead j of the step
    each : (j : ℕ) → j < length own → get_or (led_by row).guards (length past + j) unread ≡ get_or own j unread
    each j m =
        led_at row (leads_size T) k (omega (arith, room))
        ∙ ap guard_at (leads_number T k (omega (arith, room)) ∙ get_d_map code_of (leads_before T (guards_in t)) k unread 0 few ∙ ap code_of is)
        ∙ guard_back (get_or own j unread) both.0 both.1
      where
        k : ℕ
        k = length past + j

        here : k < length (leads_before T b)
        here = omega (arith, ap length next, length-append past own)

        later : List Guard
        later = paired (slice b (guards_in t) T.guards)

        few : k < length (leads_before T (guards_in t))
        few = omega (arith, here, ap length (before_step (s + 1) (omega arith)), length-append (leads_before T b) later)

        is : get_or (leads_before T (guards_in t)) k unread ≡ get_or own j unread
        is =
            ap (λ gs. get_or gs k unread) (before_step (s + 1) (omega arith))
            ∙ get_or-append (leads_before T b) later unread k here
            ∙ ap (λ gs. get_or gs k unread) next
            ∙ get_or-append-add past own j unread

        both : ((get_or own j unread).clock < 7) × ((get_or own j unread).second < 7)
        both = each_paired (λ g. (g.clock < 7) × (g.second < 7)) (slice a b T.guards) fair j m

    pub leads_step : (step_at (led_by row) s).guards ≡ paired (step_at T s).guards
    unfolding step_at
    leads_step =
        ap (λ x. slice x (get_or row (s + 1) 0) (led_by row).guards) begin_is
        ∙ ap (λ x. slice (length past) x (led_by row).guards) end_is
        ∙ ext_get_or unread (slice (length past) (length past + length own) (led_by row).guards) own size (λ j m.
        slice_at (length past) (length past + length own) (led_by row).guards j (omega (arith, size)) ∙ each j (omega (arith, size)))
      where
        size : length (slice (length past) (length past + length own) (led_by row).guards) ≡ length own
        size =
            omega (
              arith,
              length-slice (length past) (length past + length own) (led_by row).guards (omega (arith, led_size row (leads_size T), room)),
            )

  pub leads_leading : Leading row t.steps
  leads_leading = record { size = leads_size T; order = leads_order; room = leads_room }

-- what is found of a row: where `led` is false it has no lead
pub none_led : (led : Bool) (row : List ℕ) (L : ℕ) → led ≡ ltb 0 (get_or row L 0) → led ≡ false → get_or row L 0 ≡ 0
none_led led row L e f = go (dec_lt 0 (get_or row L 0))
  where
    go : Dec (0 < get_or row L 0) → get_or row L 0 ≡ 0
    go (yes l) = absurd (false≢true (sym f ∙ e ∙ lt-ltb 0 (get_or row L 0) l))
    go (no l) = omega arith

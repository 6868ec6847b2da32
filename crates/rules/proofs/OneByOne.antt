-- Entries that leave one by one leave as they do in one list, and what each pass still has to take is then what is left of it.
use Rattle.std.proofs.Common.{◌≡◌, ℕ, zero, suc, ◌+◌, ◌-◌, ◌<◌, ◌≤◌, Bool, true, false, eqb, List, [], ◌∷◌, ◌++◌, map, length, take, sym, refl, ap, ◌∙◌, subst, inl, inr, arith}
use Rattle.std.proofs.lemmas.Bool.{cases_Bool, eq-eqb, ne_eqb}
use Rattle.std.proofs.lemmas.List.{length-append}
use Rattle.rules.specs.Fronts.{without, passing, freeing, among, In, tally}
use Rattle.sketch.specs.Sketches.{Sketch}
use Rattle.rules.specs.declared.choices.Choices.{Choices}
use Rattle.rules.specs.declared.departure.Cause.{Cause}
use Rattle.rules.specs.declared.departure.Cause.TheVariants.{LivedOut, IdledOut, Trimmed}
use Rattle.rules.specs.Entries.{Entry, State}
use Rattle.rules.specs.Limits.{excess}
use Rattle.rules.specs.Passes.{cells_of, leave, told, written, lived_out, idled_out, life_pass, idle_pass, trim_pass, after_life, after_idle, passed, passes_told}
use Rattle.rules.specs.Apart.{Apart}
use Rattle.rules.proofs.Fronts.{tally_without, in_tally, in_take, in_passing, in_freeing, in_looked, looked_without}
use Rattle.rules.proofs.Erasing.{in_stays}
use Rattle.rules.proofs.Settling.{without_twice}
use Rattle.rules.proofs.Telling.{tally_take, tally_passing, tally_freeing, tally_looked, in_among}

-- ---- plain lists

-- a list with a member in front is not the empty one
pub none_ahead : {A : Type 0} (x : A) (xs : List A) → ◌≡◌ {A = List A} [] (x ∷ xs) → ⊥
none_ahead x xs e = let z : ◌≡◌ {A = ℕ} 0 1 = cc in omega arith

module _ {A : Type 0} where
  -- ---- what a front does at its first member

  -- a member that passes is taken
  pub passing_goes : (p : A → Bool) (x : A) (xs : List A) → p x ≡ true → passing p (x ∷ xs) ≡ x ∷ passing p xs
  passing_goes p x xs e = rw e

  -- one that fails ends the front
  pub passing_ends : (p : A → Bool) (x : A) (xs : List A) → p x ≡ false → passing p (x ∷ xs) ≡ []
  passing_ends p x xs e = rw e

  -- while weight is wanted, the first member is taken
  pub freeing_goes : (weight : A → ℕ) (w : ℕ) (x : A) (xs : List A) → eqb w 0 ≡ false → freeing weight w (x ∷ xs) ≡ x ∷ freeing weight (w - weight x) xs
  freeing_goes weight w x xs e = rw e

  -- where none is wanted, nobody is
  pub freeing_ends : (weight : A → ℕ) (w : ℕ) (xs : List A) → eqb w 0 ≡ true → freeing weight w xs ≡ []
  freeing_ends weight w [] e = refl
  freeing_ends weight w (x ∷ xs) e = rw e

  -- while some may still be taken, the first member is
  pub take_goes : (n : ℕ) (x : A) (xs : List A) → 0 < n → take n (x ∷ xs) ≡ x ∷ take (n - 1) xs
  take_goes zero x xs h = absurd (omega arith)
  take_goes (suc n) x xs h = let e : suc n - 1 ≡ n = omega arith in rw e

  -- of nobody, nobody is taken
  pub take_nobody : (n : ℕ) → ◌≡◌ {A = List A} (take n []) []
  take_nobody zero = refl
  take_nobody (suc n) = refl

  -- ---- a front by its first member

  -- those that pass: the list begins with the first of them, and the others are the front of the rest
  pub passing_parts : (p : A → Bool) (xs : List A) (x : A) (rest : List A) → passing p xs ≡ x ∷ rest → (ys : List A) × (xs ≡ x ∷ ys) × (passing p ys ≡ rest)
  passing_parts p [] x rest h = absurd (none_ahead x rest h)
  passing_parts p (a ∷ xs) x rest h =
      elim (cases_Bool (p a)) [
        | inl e ↦ let g : a ∷ passing p xs ≡ x ∷ rest = rw e at h in (xs, cc, cc)
        | inr e ↦ let g : [] ≡ x ∷ rest = rw e at h in absurd (none_ahead x rest g)
      ]

  -- the same of those that free a weight
  pub freeing_parts : (weight : A → ℕ) (w : ℕ) (xs : List A) (x : A) (rest : List A) → freeing weight w xs ≡ x ∷ rest
      → (ys : List A) × (xs ≡ x ∷ ys) × (freeing weight (w - weight x) ys ≡ rest)
  freeing_parts weight w [] x rest h = absurd (none_ahead x rest h)
  freeing_parts weight w (a ∷ xs) x rest h =
      elim (cases_Bool (eqb w 0)) [
        | inl e ↦ let g : [] ≡ x ∷ rest = rw e at h in absurd (none_ahead x rest g)
        | inr e ↦
            let g : a ∷ freeing weight (w - weight a) xs ≡ x ∷ rest = rw e at h in
            let same : a ≡ x = cc in
            (xs, cc, ap (λ (y : A). freeing weight (w - weight y) xs) (sym same) ∙ cc)
      ]

  -- the same of the first n
  pub take_parts : (n : ℕ) (xs : List A) (x : A) (rest : List A) → take n xs ≡ x ∷ rest → (ys : List A) × (xs ≡ x ∷ ys) × (take (n - 1) ys ≡ rest)
  take_parts zero xs x rest h = absurd (none_ahead x rest h)
  take_parts (suc n) [] x rest h = absurd (none_ahead x rest h)
  take_parts (suc n) (a ∷ xs) x rest h = let e : suc n - 1 ≡ n = omega arith in (xs, cc, rw e (cc))

  -- ---- fronts have no more of anything than the list

  -- ---- a list without one number, and then without others

  -- numbers go one by one as they go at once
  pub without_more : (f : A → ℕ) (c : ℕ) (cs : List ℕ) (xs : List A)
      → without (λ (a : A). among (c ∷ cs) (f a)) xs ≡ without (λ (a : A). among cs (f a)) (without (λ (a : A). among (c ∷ []) (f a)) xs)
  without_more f c cs xs =
      without_twice (λ (a : A). among (c ∷ []) (f a)) (λ (a : A). among cs (f a)) (λ (a : A). among (c ∷ cs) (f a)) xs
      (λ a. elim (cases_Bool (eqb c (f a))) [ inl e ↦ rw e | inr e ↦ rw e ])

  -- where nobody goes, the list stays
  pub without_nobody : (q : A → Bool) (xs : List A) → ((a : A) → In a xs → q a ≡ false) → without q xs ≡ xs
  without_nobody q [] h = refl
  without_nobody q (x ∷ xs) h = rw (h x (inl refl)) (ap (λ (l : List A). x ∷ l) (without_nobody q xs (λ a i. h a (inr i))))

  -- where everybody goes, nobody stays
  pub without_all : (q : A → Bool) (xs : List A) → ((a : A) → In a xs → q a ≡ true) → without q xs ≡ []
  without_all q [] h = refl
  without_all q (x ∷ xs) h = rw (h x (inl refl)) (without_all q xs (λ a i. h a (inr i)))

  -- a number that a list hasn't is another than each member's
  pub apart_from : (f : A → ℕ) (n : ℕ) (xs : List A) → tally (λ (a : A). eqb (f a) n) xs ≡ 0 → (a : A) → In a xs → among (n ∷ []) (f a) ≡ false
  apart_from f n xs h a i =
      let other : n ≡ f a → ⊥ = λ e. omega (arith, in_tally (λ (b : A). eqb (f b) n) a xs i (eq-eqb (f a) n (sym e))) in
      rw (ne_eqb n (f a) other)

  -- where no number is there twice, nobody else has the first member's
  pub rest_apart : (f : A → ℕ) (x : A) (xs : List A) → tally (λ (a : A). eqb (f a) (f x)) (x ∷ xs) ≤ 1 → tally (λ (a : A). eqb (f a) (f x)) xs ≡ 0
  rest_apart f x xs h = let k : 1 + tally (λ (a : A). eqb (f a) (f x)) xs ≤ 1 = rw (eq-eqb (f x) (f x) refl) at h in omega arith

  -- a first member goes by its number, and the rest stays
  pub without_front : (f : A → ℕ) (x : A) (xs : List A) → tally (λ (a : A). eqb (f a) (f x)) (x ∷ xs) ≤ 1 → without (λ (a : A). among (f x ∷ []) (f a)) (x ∷ xs) ≡ xs
  without_front f x xs h =
      rw (eq-eqb (f x) (f x) refl) (without_nobody (λ (a : A). among (f x ∷ []) (f a)) xs (apart_from f (f x) xs (rest_apart f x xs h)))

  -- ---- how many are left

  -- nobody is added
  pub without_shorter : (q : A → Bool) (xs : List A) → length (without q xs) ≤ length xs
  without_shorter q [] = omega arith
  without_shorter q (x ∷ xs) = elim (cases_Bool (q x)) [ inl e ↦ rw e (omega (arith, without_shorter q xs)) | inr e ↦ rw e (omega (arith, without_shorter q xs)) ]

  -- a member that goes is one less
  pub one_less : (q : A → Bool) (a : A) (xs : List A) → In a xs → q a ≡ true → length (without q xs) + 1 ≤ length xs
  one_less q a [] i e = absurd i
  one_less q a (x ∷ xs) (inl h) e = let f : q x ≡ true = ap q (sym h) ∙ e in rw f (omega (arith, without_shorter q xs))
  one_less q a (x ∷ xs) (inr i) e = elim (cases_Bool (q x)) [ inl f ↦ rw f (omega (arith, one_less q a xs i e)) | inr f ↦ rw f (omega (arith, one_less q a xs i e)) ]

  -- members that go by their numbers, no two of them the same, are as many less
  pub all_less : (f : A → ℕ) (es xs : List A) → ((a : A) → In a es → In a xs) → ((n : ℕ) → tally (λ (a : A). eqb (f a) n) es ≤ 1)
      → length (without (λ (a : A). among (map f es) (f a)) xs) + length es ≤ length xs
  all_less f [] xs h d = omega (arith, without_shorter (λ (a : A). among [] (f a)) xs)
  all_less f (e ∷ es) xs h d =
      let others : (a : A) → In a es → among (f e ∷ []) (f a) ≡ false = apart_from f (f e) es (rest_apart f e es (d (f e))) in
      let rest : List A = without (λ (a : A). among (f e ∷ []) (f a)) xs in
      let there : (a : A) → In a es → In a rest = λ a i. in_stays (λ (b : A). among (f e ∷ []) (f b)) a xs (h a (inr i)) (others a i) in
      let one : length rest + 1 ≤ length xs = one_less (λ (a : A). among (f e ∷ []) (f a)) e xs (h e (inl refl)) (rw (eq-eqb (f e) (f e) refl)) in
      let more = all_less f es rest there (λ n. omega (arith, d n)) in
      rw (without_more f (f e) (map f es) xs) (omega arith)

  -- a list without its own numbers is empty
  pub without_own : (f : A → ℕ) (xs : List A) → without (λ (a : A). among (map f xs) (f a)) xs ≡ []
  without_own f xs = without_all (λ (a : A). among (map f xs) (f a)) xs (λ a i. in_among f a xs i)

-- ---- states

module _ {Key Value : Type 0} where
  -- states are the same part by part
  pub state_same : {t t' : List (Entry Key Value)} {w w' : List ℕ} {n n' r r' c c' : ℕ} {k k' : Sketch}
      → t ≡ t' → w ≡ w' → n ≡ n' → r ≡ r' → c ≡ c' → k ≡ k'
      → ◌≡◌ {A = State Key Value} (record { touch = t; write = w; next = n; recorded = r; count = c; sketch = k }) (record { touch = t'; write = w'; next = n'; recorded = r'; count = c'; sketch = k' })
  state_same a b c d e f = λ i. record { touch = a i; write = b i; next = c i; recorded = d i; count = e i; sketch = f i }

  -- nobody leaves: the state stays
  pub leave_none : (s : State Key Value) → leave [] s ≡ s
  unfolding leave
  leave_none s =
      state_same (without_nobody (λ (e : Entry Key Value). among [] e.cell) s.touch (λ a i. refl)) (without_nobody (among []) s.write (λ a i. refl)) refl (omega arith) (omega arith) refl

  -- one leaves, and then the others
  pub leave_more : (e : Entry Key Value) (es : List (Entry Key Value)) (s : State Key Value) → leave (e ∷ es) s ≡ leave es (leave (e ∷ []) s)
  unfolding leave
  leave_more e es s =
      state_same (without_more (λ (x : Entry Key Value). x.cell) e.cell (cells_of es) s.touch) (without_more (λ (n : ℕ). n) e.cell (cells_of es) s.write)
      refl (omega arith) (omega arith) refl

  -- who stays is told apart as before
  pub leave_apart : (es : List (Entry Key Value)) (s : State Key Value) → Apart s → Apart (leave es s)
  unfolding leave
  leave_apart es s a = record {
    cells = λ n. omega (arith, a.cells n, tally_without (λ (e : Entry Key Value). eqb e.cell n) (λ (e : Entry Key Value). among (cells_of es) e.cell) s.touch);
    once = λ n. omega (arith, a.once n, tally_without (λ m. eqb m n) (among (cells_of es)) s.write);
  }

  -- the longest untouched leaves: the rest of the touch order stays
  pub front_leaves : (s : State Key Value) (e : Entry Key Value) (es : List (Entry Key Value)) → Apart s → s.touch ≡ e ∷ es → (leave (e ∷ []) s).touch ≡ es
  unfolding leave
  front_leaves s e es a h =
      let one : tally (λ (x : Entry Key Value). eqb x.cell e.cell) (e ∷ es) ≤ 1 = subst (λ (l : List (Entry Key Value)). tally (λ (x : Entry Key Value). eqb x.cell e.cell) l ≤ 1) h (a.cells e.cell) in
      ap (without (λ (x : Entry Key Value). among (e.cell ∷ []) x.cell)) h ∙ without_front (λ (x : Entry Key Value). x.cell) e es one

  -- the longest unwritten leaves: the rest of the write order stays
  pub written_leaves : (s : State Key Value) (e : Entry Key Value) (es : List (Entry Key Value)) → Apart s → written s ≡ e ∷ es → written (leave (e ∷ []) s) ≡ es
  unfolding leave
  written_leaves s e es a h =
      let few = tally_looked (λ (x : Entry Key Value). x.cell) e.cell s.touch s.write in
      let all : tally (λ (x : Entry Key Value). eqb x.cell e.cell) (written s) ≤ 1 = omega (arith, a.once e.cell) in
      let one : tally (λ (x : Entry Key Value). eqb x.cell e.cell) (e ∷ es) ≤ 1 = subst (λ (l : List (Entry Key Value)). tally (λ (x : Entry Key Value). eqb x.cell e.cell) l ≤ 1) h all in
      looked_without (λ (x : Entry Key Value). x.cell) (e.cell ∷ []) s.touch s.write
      ∙ ap (without (λ (x : Entry Key Value). among (e.cell ∷ []) x.cell)) h
      ∙ without_front (λ (x : Entry Key Value). x.cell) e es one

  -- ---- what a pass still has to take, after its first

  -- life
  pub life_next : (choices : Choices) (now : ℕ) (s : State Key Value) (e : Entry Key Value) (es : List (Entry Key Value)) → Apart s
      → passing (lived_out choices now) (written s) ≡ e ∷ es → passing (lived_out choices now) (written (leave (e ∷ []) s)) ≡ es
  life_next choices now s e es a h =
      let r = passing_parts (lived_out choices now) (written s) e es h in
      ap (passing (lived_out choices now)) (written_leaves s e r.0 a r.1) ∙ r.2

  -- idle
  pub idle_next : (choices : Choices) (now : ℕ) (s : State Key Value) (e : Entry Key Value) (es : List (Entry Key Value)) → Apart s
      → passing (idled_out choices now) s.touch ≡ e ∷ es → passing (idled_out choices now) (leave (e ∷ []) s).touch ≡ es
  idle_next choices now s e es a h =
      let r = passing_parts (idled_out choices now) s.touch e es h in
      ap (passing (idled_out choices now)) (front_leaves s e r.0 a r.1) ∙ r.2

  -- trim, and the run that leaves for a newcomer
  pub trim_next : (w : ℕ) (s : State Key Value) (e : Entry Key Value) (es : List (Entry Key Value)) → Apart s
      → freeing (λ (x : Entry Key Value). x.weight) w s.touch ≡ e ∷ es → freeing (λ (x : Entry Key Value). x.weight) (w - e.weight) (leave (e ∷ []) s).touch ≡ es
  trim_next w s e es a h =
      let r = freeing_parts (λ (x : Entry Key Value). x.weight) w s.touch e es h in
      ap (freeing (λ (x : Entry Key Value). x.weight) (w - e.weight)) (front_leaves s e r.0 a r.1) ∙ r.2

  -- a front of so many
  pub run_next : (n : ℕ) (s : State Key Value) (e : Entry Key Value) (es : List (Entry Key Value)) → Apart s
      → take n s.touch ≡ e ∷ es → take (n - 1) (leave (e ∷ []) s).touch ≡ es
  run_next n s e es a h =
      let r = take_parts n s.touch e es h in
      ap (take (n - 1)) (front_leaves s e r.0 a r.1) ∙ r.2

  -- ---- how many leave

  -- entries held, no two in one cell, that leave: who is left and they are no more than there were
  pub leave_fits : (es : List (Entry Key Value)) (s : State Key Value) → ((e : Entry Key Value) → In e es → In e s.touch)
      → ((n : ℕ) → tally (λ (e : Entry Key Value). eqb e.cell n) es ≤ 1) → length (leave es s).touch + length es ≤ length s.touch
  unfolding leave
  leave_fits es s h d = all_less (λ (e : Entry Key Value). e.cell) es s.touch h d

  -- the same of a front of the touch order
  pub leave_room : (n : ℕ) (s : State Key Value) → Apart s → length (leave (take n s.touch) s).touch + length (take n s.touch) ≤ length s.touch
  leave_room n s a =
      leave_fits (take n s.touch) s (λ e i. in_take n e s.touch i) (λ m. omega (arith, a.cells m, tally_take (λ (e : Entry Key Value). eqb e.cell m) n s.touch))

  -- everybody leaves, and nobody is left
  pub sweep_all : (s : State Key Value) → without (λ (e : Entry Key Value). among (cells_of s.touch) e.cell) s.touch ≡ []
  sweep_all s = without_own (λ (e : Entry Key Value). e.cell) s.touch

  -- each that leaves is told once
  pub told_length : (why : Cause) (es : List (Entry Key Value)) → length (told why es) ≡ length es
  told_length why [] = refl
  told_length why (e ∷ es) = ap suc (told_length why es)

  module _ (choices : Choices) (now : ℕ) where
    -- life
    pub life_fits : (s : State Key Value) → Apart s → length (after_life choices now s).touch + length (life_pass choices now s) ≤ length s.touch
    unfolding life_pass
    life_fits s a =
        leave_fits (life_pass choices now s) s
        (λ e i. in_looked (λ (x : Entry Key Value). x.cell) e s.touch s.write (in_passing (lived_out choices now) e (written s) (in_take 100 e (passing (lived_out choices now) (written s)) i)))
        (λ n. omega (
          arith,
          a.once n,
          tally_looked (λ (x : Entry Key Value). x.cell) n s.touch s.write,
          tally_passing (λ (x : Entry Key Value). eqb x.cell n) (lived_out choices now) (written s),
          tally_take (λ (x : Entry Key Value). eqb x.cell n) 100 (passing (lived_out choices now) (written s)),
        ))

    -- idle
    pub idle_fits : (s : State Key Value) → Apart s → length (leave (idle_pass choices now s) s).touch + length (idle_pass choices now s) ≤ length s.touch
    unfolding idle_pass
    idle_fits s a =
        leave_fits (idle_pass choices now s) s
        (λ e i. in_passing (idled_out choices now) e s.touch (in_take 100 e (passing (idled_out choices now) s.touch) i))
        (λ n. omega (
          arith,
          a.cells n,
          tally_passing (λ (x : Entry Key Value). eqb x.cell n) (idled_out choices now) s.touch,
          tally_take (λ (x : Entry Key Value). eqb x.cell n) 100 (passing (idled_out choices now) s.touch),
        ))

    -- trim
    pub trim_fits : (s : State Key Value) → Apart s → length (leave (trim_pass choices now s) s).touch + length (trim_pass choices now s) ≤ length s.touch
    unfolding trim_pass
    trim_fits s a =
        let over = excess choices.capacity s.recorded in
        leave_fits (trim_pass choices now s) s
        (λ e i. in_freeing (λ (x : Entry Key Value). x.weight) over e s.touch (in_take 100 e (freeing (λ (x : Entry Key Value). x.weight) over s.touch) i))
        (λ n. omega (
          arith,
          a.cells n,
          tally_freeing (λ (x : Entry Key Value). eqb x.cell n) (λ (x : Entry Key Value). x.weight) over s.touch,
          tally_take (λ (x : Entry Key Value). eqb x.cell n) 100 (freeing (λ (x : Entry Key Value). x.weight) over s.touch),
        ))

    -- who is told by the three passes, and who is left, are no more than there were
    pub passes_fit : (s : State Key Value) → Apart s → length (passes_told choices now s) + length (passed choices now s).touch ≤ length s.touch
    unfolding passes_told passed
    passes_fit s a =
        let s1 = after_life choices now s in
        let s2 = after_idle choices now s in
        let l1 = life_pass choices now s in
        let l2 = idle_pass choices now s1 in
        let l3 = trim_pass choices now s2 in
        let a1 : Apart s1 = leave_apart l1 s a in
        let a2 : Apart s2 = leave_apart l2 s1 a1 in
        omega (
          arith,
          life_fits s a,
          idle_fits s1 a1,
          trim_fits s2 a2,
          length-append (told LivedOut l1) (told IdledOut l2 ++ told Trimmed l3),
          length-append (told IdledOut l2) (told Trimmed l3),
          told_length LivedOut l1,
          told_length IdledOut l2,
          told_length Trimmed l3,
        )

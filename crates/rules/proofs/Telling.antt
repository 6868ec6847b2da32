-- Tickets: each call moves them from those held to those told, and adds the one that it hands out.
use Rattle.std.proofs.Common.{◌≡◌, ℕ, zero, suc, ◌+◌, ◌≤◌, Bool, true, false, cond, eqb, ◌⊎◌, List, [], ◌∷◌, ◌++◌, map, length, take, Some, None, Option, sym, refl, ap, ◌∙◌, subst, inl, inr, arith}
use Rattle.std.proofs.lemmas.Bool.{cases_Bool, cases_lt, both_ways, eqb-true, eq-eqb}
use Rattle.std.proofs.lemmas.List.{map-append}
use Rattle.rules.specs.Fronts.{first, without, passing, freeing, among, ahead, looked, In, tally}
use Rattle.rules.specs.declared.choices.Choices.{Choices}
use Rattle.rules.specs.declared.departure.Cause.{Cause}
use Rattle.rules.specs.declared.departure.Cause.TheVariants.{LivedOut, IdledOut, Trimmed}
use Rattle.rules.specs.declared.departure.Departure.{Departure}
use Rattle.rules.specs.Kinds.{Kind}
use Rattle.rules.specs.Entries.{Entry, State}
use Rattle.rules.specs.Limits.{excess}
use Rattle.rules.specs.Passes.{leave, told, written, cells_of, lived_out, idled_out, life_pass, idle_pass, trim_pass, after_life, after_idle, passed, passes_told}
use Rattle.rules.specs.Calls.{to_back}
use Rattle.rules.specs.Account.{times, told_tickets}
use Rattle.rules.proofs.Fronts.{tally_append, tally_without, tally_mono, in_tally, tally_in, first_in, same_one, in_without, in_looked}
use Rattle.rules.specs.Agreement.{Coherent}
use Rattle.rules.proofs.Erasing.{From, in_stays, life_from, idle_from, trim_from, k1, k2}
use Rattle.rules.proofs.Voting.{freeing_take}
use Rattle.rules.proofs.Hitting.{tally_map}

module _ {A : Type 0} where
  pub in_fails : (q : A → Bool) (a : A) (xs : List A) → In a (without q xs) → q a ≡ false
  in_fails q a [] i = absurd i
  in_fails q a (x ∷ xs) i =
      elim (cases_Bool (q x)) [
        | inl e ↦ in_fails q a xs (rw e at i)
        | inr e ↦ let j : (a ≡ x) ⊎ In a (without q xs) = rw e at i in elim j [ inl h ↦ ap q h ∙ e | inr k ↦ in_fails q a xs k ]
      ]

  pub tally_take : (p : A → Bool) (n : ℕ) (xs : List A) → tally p (take n xs) ≤ tally p xs
  tally_take p zero xs = omega arith
  tally_take p (suc n) [] = omega arith
  tally_take p (suc n) (x ∷ xs) = omega (arith, tally_take p n xs)

  pub tally_passing : (p q : A → Bool) (xs : List A) → tally p (passing q xs) ≤ tally p xs
  tally_passing p q [] = omega arith
  tally_passing p q (x ∷ xs) = elim (cases_Bool (q x)) [ inl e ↦ rw e (omega (arith, tally_passing p q xs)) | inr e ↦ rw e (omega arith) ]

  pub tally_freeing : (p : A → Bool) (w : A → ℕ) (n : ℕ) (xs : List A) → tally p (freeing w n xs) ≤ tally p xs
  tally_freeing p w n xs = subst (λ (l : List A). tally p l ≤ tally p xs) (sym (freeing_take w n xs)) (tally_take p (length (freeing w n xs)) xs)

  pub tally_looked : (f : A → ℕ) (n : ℕ) (xs : List A) (ns : List ℕ) → tally (λ x. eqb (f x) n) (looked f xs ns) ≤ tally (λ m. eqb m n) ns
  tally_looked f n xs [] = omega arith
  tally_looked f n xs (m ∷ ns) = go (tally_looked f n xs ns) (first (λ x. eqb (f x) m) xs) refl
    where
      go : tally (λ x. eqb (f x) n) (looked f xs ns) ≤ tally (λ k. eqb k n) ns → (o : Option A) → first (λ x. eqb (f x) m) xs ≡ o
          → tally (λ x. eqb (f x) n) (ahead o (looked f xs ns)) ≤ tally (λ k. eqb k n) (m ∷ ns)
      go ih None e = omega arith
      go ih (Some a) e =
          let h : f a ≡ m = eqb-true (f a) m (first_in (λ x. eqb (f x) m) a xs e).1 in
          let g : ◌≡◌ {A = ℕ} (cond (eqb (f a) n) 1 0) (cond (eqb m n) 1 0) = ap {B = ℕ} (λ (c : ℕ). cond (eqb c n) 1 0) h in
          omega (arith, g)

  -- what goes and what stays are together what there was
  pub out_moves : (num : A → ℕ) (q : A → Bool) (xs es : List A)
      → ((a : A) → In a es → In a xs) → ((n : ℕ) → tally (λ a. eqb (num a) n) xs ≤ 1) → ((n : ℕ) → tally (λ a. eqb (num a) n) es ≤ 1)
      → ((a : A) → In a xs → q a ≡ true → In a es) → ((a : A) → In a es → q a ≡ true)
      → (n : ℕ) → tally (λ a. eqb (num a) n) es + tally (λ a. eqb (num a) n) (without q xs) ≡ tally (λ a. eqb (num a) n) xs
  out_moves num q xs es from one once goes gone n =
      elim (cases_lt 0 (tally p xs)) [
        | inl h ↦
            let r = tally_in p xs h in
            let x = r.0 in
            elim (cases_Bool (q x)) [
              | inl t ↦
                  let a = in_tally p x es (goes x r.1 t) r.2 in
                  let b : tally p (without q xs) ≤ 0 = elim (cases_lt 0 (tally p (without q xs))) [
                    | inl g ↦
                        let y = tally_in p (without q xs) g in
                        let same : x ≡ y.0 = same_one p x y.0 xs r.1 (in_without q y.0 xs y.1) r.2 y.2 (one n) in
                        absurd (both_ways (q x) (ap q same ∙ in_fails q y.0 xs y.1) t)
                    | inr g ↦ g
                  ] in
                  omega (arith, a, b, one n, once n)
              | inr t ↦
                  let a = in_tally p x (without q xs) (in_stays q x xs r.1 t) r.2 in
                  let b : tally p es ≤ 0 = elim (cases_lt 0 (tally p es)) [
                    | inl g ↦
                        let y = tally_in p es g in
                        let same : x ≡ y.0 = same_one p x y.0 xs r.1 (from y.0 y.1) r.2 y.2 (one n) in
                        absurd (both_ways (q x) t (ap q same ∙ gone y.0 y.1))
                    | inr g ↦ g
                  ] in
                  omega (arith, a, b, one n, tally_without p q xs)
            ]
        | inr h ↦
            let b : tally p es ≤ 0 = elim (cases_lt 0 (tally p es)) [
              | inl g ↦ let y = tally_in p es g in absurd (omega (arith, in_tally p y.0 xs (from y.0 y.1) y.2))
              | inr g ↦ g
            ] in
            omega (arith, b, tally_without p q xs)
      ]
    where
      p : A → Bool
      p a = eqb (num a) n

pub among_in : {A : Type 0} (f : A → ℕ) (n : ℕ) (es : List A) → among (map f es) n ≡ true → (a : A) × In a es × (f a ≡ n)
among_in f n [] e = absurd (both_ways false refl e)
among_in f n (x ∷ es) e =
    elim (cases_Bool (eqb (f x) n)) [
      | inl t ↦ (x, inl refl, eqb-true (f x) n t)
      | inr t ↦ let r = among_in f n es (rw t at e) in (r.0, inr r.1, r.2)
    ]

pub in_among : {A : Type 0} (f : A → ℕ) (a : A) (es : List A) → In a es → among (map f es) (f a) ≡ true
in_among f a [] i = absurd i
in_among f a (x ∷ es) (inl h) = rw (eq-eqb (f x) (f a) (ap f (sym h)))
in_among f a (x ∷ es) (inr i) = elim (cases_Bool (eqb (f x) (f a))) [ inl t ↦ rw t | inr t ↦ rw t (in_among f a es i) ]

pub told_append : (n : ℕ) (a b : List Departure) → times n (told_tickets (a ++ b)) ≡ times n (told_tickets a) + times n (told_tickets b)
told_append n a b = ap (times n) (map-append (λ (d : Departure). d.ticket) a b) ∙ tally_append (λ x. eqb x n) (told_tickets a) (told_tickets b)

module _ {Key Value : Type 0} where
  abbrev pub bears : ℕ → Entry Key Value → Bool
  bears n e = eqb e.ticket n

  pub told_times : (n : ℕ) (why : Cause) (es : List (Entry Key Value)) → times n (told_tickets (told why es)) ≡ tally (bears n) es
  told_times n why es =
      tally_map (λ (d : Departure). d.ticket) (λ x. eqb x n) (told why es)
      ∙ tally_map (λ (e : Entry Key Value). record { ticket = e.ticket; cause = why }) (λ (d : Departure). eqb d.ticket n) es

  module _ (kind : Kind Key Value) (s : State Key Value) (ok : Coherent kind s) where
    -- some that leave
    pub leave_moves : (why : Cause) (es : List (Entry Key Value)) → From es s → ((n : ℕ) → tally (bears n) es ≤ 1)
        → (n : ℕ) → times n (told_tickets (told why es)) + tally (bears n) (leave es s).touch ≡ tally (bears n) s.touch
    unfolding leave
    leave_moves why es from once n =
        let q : Entry Key Value → Bool = λ e. among (cells_of es) e.cell in
        let m = out_moves (λ (e : Entry Key Value). e.ticket) (λ (e : Entry Key Value). among (cells_of es) e.cell) s.touch es from ok.tickets once
        (λ a i t.
        let r = among_in (λ (e : Entry Key Value). e.cell) a.cell es t in
        let same : r.0 ≡ a = same_one (λ (x : Entry Key Value). eqb x.cell a.cell) r.0 a s.touch (from r.0 r.1) i (eq-eqb r.0.cell a.cell r.2) (eq-eqb a.cell a.cell refl) (ok.cells a.cell) in
        subst (λ (z : Entry Key Value). In z es) same r.1)
        (λ a i. in_among (λ (e : Entry Key Value). e.cell) a es i) n in
        omega (arith, told_times n why es, m)

    -- one that goes to the back
    pub back_moves : (e e' : Entry Key Value) → In e s.touch → e'.cell ≡ e.cell → e'.ticket ≡ e.ticket → (n : ℕ) → tally (bears n) (to_back e' s.touch) ≡ tally (bears n) s.touch
    back_moves e e' here cell ticket n =
        let m = out_moves (λ (x : Entry Key Value). x.ticket) (λ (x : Entry Key Value). eqb x.cell e'.cell) s.touch (e ∷ [])
        (λ a i. elim i [ inl h ↦ subst (λ (z : Entry Key Value). In z s.touch) (sym h) here | inr z ↦ absurd z ])
        ok.tickets single
        (λ a i t. inl (same_one (λ (x : Entry Key Value). eqb x.cell e'.cell) a e s.touch i here t (eq-eqb e.cell e'.cell (sym cell)) (ok.cells e'.cell)))
        (λ a i. elim i [ inl h ↦ eq-eqb a.cell e'.cell (ap (λ (x : Entry Key Value). x.cell) h ∙ sym cell) | inr z ↦ absurd z ])
        n in
        let c : ◌≡◌ {A = ℕ} (cond (bears n e') 1 0) (cond (bears n e) 1 0) = ap {B = ℕ} (λ (t : ℕ). cond (eqb t n) 1 0) ticket in
        omega (arith, m, c, tally_append (bears n) (without (λ (x : Entry Key Value). eqb x.cell e'.cell) s.touch) (e' ∷ []))
      where
        single : (j : ℕ) → tally (bears j) (e ∷ []) ≤ 1
        single j = elim (cases_Bool (bears j e)) [ inl t ↦ rw t (omega arith) | inr t ↦ rw t (omega arith) ]

    pub single_once : (e : Entry Key Value) (j : ℕ) → tally (bears j) (e ∷ []) ≤ 1
    single_once e j = elim (cases_Bool (bears j e)) [ inl t ↦ rw t (omega arith) | inr t ↦ rw t (omega arith) ]

    -- no ticket stands twice in the write order
    written_once : (n : ℕ) → tally (bears n) (written s) ≤ 1
    written_once n =
        elim (cases_lt 0 (tally (bears n) (written s))) [
          | inl h ↦
              let r = tally_in (bears n) (written s) h in
              let here = in_looked (λ (x : Entry Key Value). x.cell) r.0 s.touch s.write r.1 in
              let m = tally_mono (bears n) (λ (x : Entry Key Value). eqb x.cell r.0.cell) (written s) (λ a i t.
              let same : a ≡ r.0 = same_one (bears n) a r.0 s.touch (in_looked (λ (x : Entry Key Value). x.cell) a s.touch s.write i) here t r.2 (ok.tickets n) in
              eq-eqb a.cell r.0.cell (ap (λ (x : Entry Key Value). x.cell) same)) in
              omega (arith, m, tally_looked (λ (x : Entry Key Value). x.cell) r.0.cell s.touch s.write, ok.once r.0.cell)
          | inr h ↦ omega arith
        ]

  -- ---- the passes

  module _ (kind : Kind Key Value) (choices : Choices) (now : ℕ) where
    life_once : (s : State Key Value) → Coherent kind s → (n : ℕ) → tally (bears n) (life_pass choices now s) ≤ 1
    unfolding life_pass
    life_once s ok n =
        omega (arith, tally_take (bears n) 100 (passing (lived_out choices now) (written s)), tally_passing (bears n) (lived_out choices now) (written s), written_once kind s ok n)

    idle_once : (s : State Key Value) → Coherent kind s → (n : ℕ) → tally (bears n) (idle_pass choices now s) ≤ 1
    unfolding idle_pass
    idle_once s ok n =
        omega (arith, tally_take (bears n) 100 (passing (idled_out choices now) s.touch), tally_passing (bears n) (idled_out choices now) s.touch, ok.tickets n)

    trim_once : (s : State Key Value) → Coherent kind s → (n : ℕ) → tally (bears n) (trim_pass choices now s) ≤ 1
    unfolding trim_pass
    trim_once s ok n =
        let w : Entry Key Value → ℕ = λ x. x.weight in
        omega (arith, tally_take (bears n) 100 (freeing (λ (x : Entry Key Value). x.weight) (excess choices.capacity s.recorded) s.touch), tally_freeing (bears n) (λ (x : Entry Key Value). x.weight) (excess choices.capacity s.recorded) s.touch, ok.tickets n)

    pub passes_moves : (s : State Key Value) → Coherent kind s → (n : ℕ) → times n (told_tickets (passes_told choices now s)) + tally (bears n) (passed choices now s).touch ≡ tally (bears n) s.touch
    unfolding passes_told passed
    passes_moves s ok n =
        let a1 = after_life choices now s in
        let a2 = after_idle choices now s in
        let ok1 = k1 kind choices now s ok in
        let ok2 = k2 kind choices now s ok in
        let t1 = told LivedOut (life_pass choices now s) in
        let t2 = told IdledOut (idle_pass choices now a1) in
        let t3 = told Trimmed (trim_pass choices now a2) in
        omega (
          arith,
          leave_moves kind s ok LivedOut (life_pass choices now s) (life_from kind choices now s) (life_once s ok) n,
          leave_moves kind a1 ok1 IdledOut (idle_pass choices now a1) (idle_from kind choices now a1) (idle_once a1 ok1) n,
          leave_moves kind a2 ok2 Trimmed (trim_pass choices now a2) (trim_from kind choices now a2) (trim_once a2 ok2) n,
          told_append n t1 (t2 ++ t3),
          told_append n t2 t3,
        )

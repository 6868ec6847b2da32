-- Shows what stands first, last, before and after in a list of places once a place is pushed or removed, that distinct places below n
-- are n at most, and how many places pass a test.
use Rattle.std.proofs.Common.{◌≡◌, ℕ, zero, suc, ◌+◌, ◌<◌, ◌≤◌, Bool, true, false, cond, eqb, List, [], ◌∷◌, ◌++◌, length, Some, None, Option, sym, refl, ap, ◌∙◌, inl, inr, arith}
use base.Stored.{Coded-set, coded_ℕ, coded_list, coded_via}
use Rattle.std.proofs.lemmas.Bool.Decides.{nat_tests}
use Rattle.std.proofs.lemmas.Bool.{cases_eq, cases_Bool, eqb-true}
use Rattle.links.specs.Places.{is, pick, first, last_from, last, has, after, before_from, before, distinct, without, seek, count}

-- ---- options of numbers
listed : Option ℕ → List ℕ
listed None = []
listed (Some i) = i ∷ []

listed_inj : (x y : Option ℕ) → listed x ≡ listed y → x ≡ y
unfolding listed
listed_inj None None e = refl
listed_inj None (Some j) e = cc
listed_inj (Some i) None e = cc
listed_inj (Some i) (Some j) e = cc

-- two options of numbers are equal in one way at most
pub option_set : (x y : Option ℕ) → IsProp (x ≡ y)
option_set = Coded-set (coded_via (coded_list coded_ℕ) listed listed_inj)

pub is_some : {o : Option ℕ} {i : ℕ} → o ≡ Some i → is o i ≡ true
is_some {o} {i} e = ap (λ (o : Option ℕ). is o i) e ∙ grind (arith, nat_tests)

pub some_is : (o : Option ℕ) (i : ℕ) → is o i ≡ true → o ≡ Some i
some_is None i e = cc
some_is (Some j) i e = ap Some (sym (eqb-true i j e))

pub both_ways : {b : Bool} → b ≡ false → b ≡ true → ⊥
both_ways p q = let z : ◌≡◌ {A = ℕ} 0 1 = cc in omega arith

pub eqb_same : (i : ℕ) → eqb i i ≡ true
eqb_same i = grind (arith, nat_tests)

-- ---- the parts of a distinct list
pub head_apart : (x : ℕ) (xs : List ℕ) → distinct (x ∷ xs) ≡ true → has xs x ≡ false
head_apart x xs d = grind (arith, nat_tests)

pub tail_apart : (x : ℕ) (xs : List ℕ) → distinct (x ∷ xs) ≡ true → distinct xs ≡ true
tail_apart x xs d = grind (arith, nat_tests)

pub has_later : (x : ℕ) (xs : List ℕ) (i : ℕ) → (i ≡ x → ⊥) → has (x ∷ xs) i ≡ true → has xs i ≡ true
has_later x xs i n h = grind (arith, nat_tests)

pub has_not_later : (x : ℕ) (xs : List ℕ) (i : ℕ) → has (x ∷ xs) i ≡ false → has xs i ≡ false
has_not_later x xs i h = grind (arith, nat_tests)

-- ---- after a push
pub has_push : (xs : List ℕ) (i j : ℕ) → has (xs ++ i ∷ []) j ≡ cond (eqb j i) true (has xs j)
has_push [] i j = refl
has_push (x ∷ xs) i j = let h = has_push xs i j in grind (arith, nat_tests)

pub last_push : (p : Option ℕ) (xs : List ℕ) (i : ℕ) → last_from p (xs ++ i ∷ []) ≡ Some i
last_push p [] i = refl
last_push p (x ∷ xs) i = last_push (Some x) xs i

pub pick_last : {X : Type 0} (x : ℕ) (xs : List ℕ) (a b : X) → pick (last_from (Some x) xs) a b ≡ b
pick_last x [] a b = refl
pick_last x (y ∷ xs) a b = pick_last y xs a b

pub first_push : (xs : List ℕ) (i : ℕ) → first (xs ++ i ∷ []) ≡ pick (last xs) (Some i) (first xs)
first_push [] i = refl
first_push (x ∷ xs) i = sym (pick_last x xs (Some i) (Some x))

pub before_push : (p : Option ℕ) (xs : List ℕ) (i j : ℕ) → has xs i ≡ false → before_from p (xs ++ i ∷ []) j ≡ cond (eqb j i) (last_from p xs) (before_from p xs j)
before_push p [] i j h = refl
before_push p (x ∷ xs) i j h = let ih = before_push (Some x) xs i j in grind (arith, nat_tests)

pub last_in : (p : Option ℕ) (xs : List ℕ) (j : ℕ) → is p j ≡ false → has xs j ≡ false → is (last_from p xs) j ≡ false
last_in p [] j e h = e
last_in p (x ∷ xs) j e h = last_in (Some x) xs j (grind (arith, nat_tests)) (grind (arith, nat_tests))

after_step : (x y : ℕ) (l r : Option ℕ) (e v : Option ℕ) (j : ℕ) → l ≡ cond (is e j) v r → is e x ≡ false → cond (eqb j x) (Some y) l ≡ cond (is e j) v (cond (eqb j x) (Some y) r)
after_step x y l r e v j h k = elim (cases_eq j x) [ inl q ↦ let m : is e j ≡ false = ap (is e) q ∙ k in grind (arith, nat_tests) | inr n ↦ grind (arith, nat_tests) ]

pub after_push : (xs : List ℕ) (i j : ℕ) → distinct xs ≡ true → has xs i ≡ false → after (xs ++ i ∷ []) j ≡ cond (is (last xs) j) (Some i) (after xs j)
after_push [] i j d h = grind (arith, nat_tests)
after_push (x ∷ []) i j d h = grind (arith, nat_tests)
after_push (x ∷ y ∷ ys) i j d h =
    let a : has (y ∷ ys) x ≡ false = head_apart x (y ∷ ys) d in
    let ih : after (y ∷ ys ++ i ∷ []) j ≡ cond (is (last_from (Some y) ys) j) (Some i) (after (y ∷ ys) j) =
    after_push (y ∷ ys) i j (tail_apart x (y ∷ ys) d) (has_not_later x (y ∷ ys) i h) in
    let l : is (last_from None (y ∷ ys)) x ≡ false = last_in None (y ∷ ys) x refl a in
    after_step x y (after (y ∷ ys ++ i ∷ []) j) (after (y ∷ ys) j) (last_from (Some y) ys) (Some i) j ih l

pub distinct_push : (xs : List ℕ) (i : ℕ) → distinct xs ≡ true → has xs i ≡ false → distinct (xs ++ i ∷ []) ≡ true
distinct_push [] i d h = refl
distinct_push (x ∷ xs) i d h = let ih = distinct_push xs i in let p = has_push xs i x in grind (arith, nat_tests)

-- ---- after a removal
pub after_none : (xs : List ℕ) (j : ℕ) → has xs j ≡ false → after xs j ≡ None
after_none [] j h = refl
after_none (x ∷ xs) j h = let ih = after_none xs j in grind (arith, nat_tests)

pub before_none : (p : Option ℕ) (xs : List ℕ) (j : ℕ) → has xs j ≡ false → before_from p xs j ≡ None
before_none p [] j h = refl
before_none p (x ∷ xs) j h = let ih = before_none (Some x) xs j in grind (arith, nat_tests)

pub first_in : (xs : List ℕ) (j : ℕ) → has xs j ≡ false → is (first xs) j ≡ false
first_in [] j h = refl
first_in (x ∷ xs) j h = grind (arith, nat_tests)

pub after_in : (xs : List ℕ) (i j : ℕ) → has xs j ≡ false → is (after xs i) j ≡ false
after_in [] i j h = refl
after_in (x ∷ xs) i j h =
    let ih = after_in xs i j (has_not_later x xs j h) in let f = first_in xs j (has_not_later x xs j h) in
    elim (cases_Bool (eqb i x)) [ inl e ↦ rw e f | inr e ↦ rw e ih ]

pub before_in : (p : Option ℕ) (xs : List ℕ) (i j : ℕ) → is p j ≡ false → has xs j ≡ false → is (before_from p xs i) j ≡ false
before_in p [] i j e h = refl
before_in p (x ∷ xs) i j e h =
    let ih = before_in (Some x) xs i j (grind (arith, nat_tests)) (has_not_later x xs j h) in
    elim (cases_Bool (eqb i x)) [ inl q ↦ rw q e | inr q ↦ rw q ih ]

pub before_first : (p : Option ℕ) (xs : List ℕ) (i : ℕ) → before_from p xs i ≡ cond (is (first xs) i) p (before_from None xs i)
before_first p [] i = refl
before_first p (x ∷ xs) i = grind (arith, nat_tests)

pub pick_before : {X : Type 0} (x : ℕ) (xs : List ℕ) (i : ℕ) (a b : X) → has xs i ≡ true → pick (before_from (Some x) xs i) a b ≡ b
pick_before x [] i a b h = grind arith
pick_before x (y ∷ xs) i a b h =
    elim (cases_eq i y) [ inl e ↦ let t : eqb i y ≡ true = grind (arith, nat_tests) in rw t | inr n ↦ let t : eqb i y ≡ false = grind (arith, nat_tests) in rw t (pick_before y xs i a b (has_later y xs i n h)) ]

pub has_without : (i : ℕ) (xs : List ℕ) (j : ℕ) → distinct xs ≡ true → has (without i xs) j ≡ cond (eqb j i) false (has xs j)
has_without i [] j d = grind (arith, nat_tests)
has_without i (x ∷ xs) j d =
    let a = head_apart x xs d in let ih = has_without i xs j (tail_apart x xs d) in
    elim (cases_eq i x) [ inl e ↦ let t : eqb i x ≡ true = grind (arith, nat_tests) in rw t (grind (arith, nat_tests)) | inr n ↦ let t : eqb i x ≡ false = grind (arith, nat_tests) in rw t (grind (arith, nat_tests)) ]

pub length_without : (i : ℕ) (xs : List ℕ) → has xs i ≡ true → suc (length (without i xs)) ≡ length xs
length_without i [] h = grind arith
length_without i (x ∷ xs) h =
    elim (cases_eq i x) [ inl e ↦ let t : eqb i x ≡ true = grind (arith, nat_tests) in rw t | inr n ↦ let t : eqb i x ≡ false = grind (arith, nat_tests) in rw t (ap suc (length_without i xs (has_later x xs i n h))) ]

pub distinct_without : (i : ℕ) (xs : List ℕ) → distinct xs ≡ true → distinct (without i xs) ≡ true
distinct_without i [] d = refl
distinct_without i (x ∷ xs) d =
    let a = head_apart x xs d in let e = tail_apart x xs d in let ih = distinct_without i xs e in let w = has_without i xs x e in
    elim (cases_Bool (eqb i x)) [ inl t ↦ rw t e | inr t ↦ rw t (grind (arith, nat_tests)) ]

pub first_without : (i : ℕ) (xs : List ℕ) → has xs i ≡ true → first (without i xs) ≡ pick (before xs i) (after xs i) (first xs)
first_without i [] h = grind arith
first_without i (x ∷ xs) h =
    elim (cases_eq i x) [ inl e ↦ let t : eqb i x ≡ true = grind (arith, nat_tests) in rw t | inr n ↦ let t : eqb i x ≡ false = grind (arith, nat_tests) in rw t (sym (pick_before x xs i (after xs i) (Some x) (has_later x xs i n h))) ]

pub last_without : (i : ℕ) (p : Option ℕ) (xs : List ℕ) → has xs i ≡ true → last_from p (without i xs) ≡ pick (after xs i) (before_from p xs i) (last_from p xs)
last_without i p [] h = grind arith
last_without i p (x ∷ []) h = elim (cases_eq i x) [ inl e ↦ let t : eqb i x ≡ true = grind (arith, nat_tests) in rw t | inr n ↦ grind (arith, nat_tests) ]
last_without i p (x ∷ y ∷ ys) h =
    elim (cases_eq i x) [ inl e ↦ let t : eqb i x ≡ true = grind (arith, nat_tests) in rw t | inr n ↦ let t : eqb i x ≡ false = grind (arith, nat_tests) in rw t (last_without i (Some x) (y ∷ ys) (has_later x (y ∷ ys) i n h)) ]

-- i stands later than x, y the first after x
after_without_step : (i x y : ℕ) (ys : List ℕ) (j : ℕ) → (i ≡ x → ⊥) → has (y ∷ ys) x ≡ false → distinct (y ∷ ys) ≡ true
    → after (without i (y ∷ ys)) j ≡ cond (eqb j i) None (cond (is (before (y ∷ ys) i) j) (after (y ∷ ys) i) (after (y ∷ ys) j))
    → cond (eqb j x) (first (without i (y ∷ ys))) (after (without i (y ∷ ys)) j)
    ≡ cond (eqb j i) None (cond (is (before_from (Some x) (y ∷ ys) i) j) (after (y ∷ ys) i) (cond (eqb j x) (Some y) (after (y ∷ ys) j)))
after_without_step i x y ys j n a e ih =
    elim (cases_eq i y) [
      | inl q ↦
          let t : eqb i y ≡ true = grind (arith, nat_tests) in
          let z : after ys y ≡ None = after_none ys y (head_apart y ys e) in
          rw t (grind (arith, nat_tests))
      | inr m ↦
          let t : eqb i y ≡ false = grind (arith, nat_tests) in
          elim (cases_eq j x) [
            | inl r ↦
                let u : eqb j x ≡ true = grind (arith, nat_tests) in
                let v : eqb j i ≡ false = grind (arith, nat_tests) in
                let w : is (before_from (Some y) ys i) j ≡ false = before_in (Some y) ys i j (grind (arith, nat_tests)) (has_not_later y ys j (ap (has (y ∷ ys)) r ∙ a)) in
                rw (t, u, v, w)
            | inr o ↦ let u : eqb j x ≡ false = grind (arith, nat_tests) in rw (t, u) (rw t at ih)
          ]
    ]

pub after_without : (i : ℕ) (xs : List ℕ) (j : ℕ) → distinct xs ≡ true → has xs i ≡ true → after (without i xs) j ≡ cond (eqb j i) None (cond (is (before xs i) j) (after xs i) (after xs j))
after_without i [] j d h = grind arith
after_without i (x ∷ []) j d h = grind (arith, nat_tests)
after_without i (x ∷ y ∷ ys) j d h =
    let a = head_apart x (y ∷ ys) d in let e = tail_apart x (y ∷ ys) d in
    elim (cases_eq i x) [
      | inl q ↦
          let t : eqb i x ≡ true = grind (arith, nat_tests) in
          let z : after (y ∷ ys) x ≡ None = after_none (y ∷ ys) x a in
          rw t (elim (cases_eq j x) [ inl r ↦ rw (r, q, z) (grind (arith, nat_tests)) | inr n ↦ grind (arith, nat_tests) ])
      | inr n ↦
          let t : eqb i x ≡ false = grind (arith, nat_tests) in
          let ih = after_without i (y ∷ ys) j e (has_later x (y ∷ ys) i n h) in
          rw t (after_without_step i x y ys j n a e ih)
    ]

pub before_without : (i : ℕ) (p : Option ℕ) (xs : List ℕ) (j : ℕ) → distinct xs ≡ true → has xs i ≡ true → before_from p (without i xs) j ≡ cond (eqb j i) None (cond (is (after xs i) j) (before_from p xs i) (before_from p xs j))
before_without i p [] j d h = grind arith
before_without i p (x ∷ xs) j d h =
    let a = head_apart x xs d in let e = tail_apart x xs d in
    elim (cases_eq i x) [
      | inl q ↦
          let t : eqb i x ≡ true = grind (arith, nat_tests) in
          let z : before_from p xs x ≡ None = before_none p xs x a in
          let b : before_from p xs j ≡ cond (is (first xs) j) p (before_from None xs j) = before_first p xs j in
          let b' : before_from (Some x) xs j ≡ cond (is (first xs) j) (Some x) (before_from None xs j) = before_first (Some x) xs j in
          rw t (elim (cases_eq j x) [
            | inl r ↦ let u : eqb j i ≡ true = grind (arith, nat_tests) in rw (u, r, z)
            | inr n ↦ let u : eqb j i ≡ false = grind (arith, nat_tests) in let v : eqb j x ≡ false = grind (arith, nat_tests) in rw (u, v, b, b') (elim (cases_Bool (is (first xs) j)) [ inl w ↦ rw w | inr w ↦ rw w ])
          ])
      | inr n ↦
          let t : eqb i x ≡ false = grind (arith, nat_tests) in
          let ih = before_without i (Some x) xs j e (has_later x xs i n h) in
          rw t (elim (cases_eq j x) [
            | inl r ↦
                let u : eqb j x ≡ true = grind (arith, nat_tests) in
                let v : eqb j i ≡ false = grind (arith, nat_tests) in
                let w : is (after xs i) j ≡ false = after_in xs i j (ap (has xs) r ∙ a) in
                rw (u, v, w)
            | inr m ↦ let u : eqb j x ≡ false = grind (arith, nat_tests) in rw u ih
          ])
    ]

-- ---- the last
pub last_has : (xs : List ℕ) (i : ℕ) → last xs ≡ Some i → has xs i ≡ true
last_has xs i e =
    elim (cases_Bool (has xs i)) [
      | inl t ↦ t
      | inr f ↦ let a : is (last xs) i ≡ false = last_in None xs i refl f in let b : is (last xs) i ≡ true = ap (λ (o : Option ℕ). is o i) e ∙ grind (arith, nat_tests) in cc
    ]

-- the last is not the first of two and more
pub last_later : (x y : ℕ) (ys : List ℕ) (i : ℕ) → distinct (x ∷ y ∷ ys) ≡ true → last (x ∷ y ∷ ys) ≡ Some i → i ≡ x → ⊥
last_later x y ys i d e q =
    let a : has (y ∷ ys) x ≡ false = head_apart x (y ∷ ys) d in
    let b : has (y ∷ ys) i ≡ true = last_has (y ∷ ys) i e in
    let c : has (y ∷ ys) i ≡ false = ap (has (y ∷ ys)) q ∙ a in
    let z : ◌≡◌ {A = ℕ} 0 1 = cc in omega arith

pub after_last : (xs : List ℕ) (i : ℕ) → distinct xs ≡ true → last xs ≡ Some i → after xs i ≡ None
after_last [] i d e = refl
after_last (x ∷ []) i d e = elim (cases_Bool (eqb i x)) [ inl t ↦ rw t | inr t ↦ rw t ]
after_last (x ∷ y ∷ ys) i d e =
    let n = last_later x y ys i d e in
    let t : eqb i x ≡ false = grind (arith, nat_tests) in
    rw t (after_last (y ∷ ys) i (tail_apart x (y ∷ ys) d) e)

-- ---- the first
pub first_none : (xs : List ℕ) → first xs ≡ None → xs ≡ []
first_none [] e = refl
first_none (x ∷ xs) e = cc

pub first_has : (xs : List ℕ) (i : ℕ) → first xs ≡ Some i → has xs i ≡ true
first_has [] i e = cc
first_has (x ∷ xs) i e = let q : x ≡ i = cc in let t : eqb i x ≡ true = grind (arith, nat_tests) in rw t

pub before_head : (xs : List ℕ) (i : ℕ) → first xs ≡ Some i → before xs i ≡ None
before_head [] i e = refl
before_head (x ∷ xs) i e = let q : x ≡ i = cc in let t : eqb i x ≡ true = grind (arith, nat_tests) in rw t

-- at most n places lie below n
pub pigeon : (n : ℕ) (xs : List ℕ) → distinct xs ≡ true → ((j : ℕ) → has xs j ≡ true → j < n) → length xs ≤ n
pigeon zero [] d h = omega arith
pigeon zero (x ∷ xs) d h = let l = h x (grind (arith, nat_tests)) in omega arith
pigeon (suc n) xs d h =
    elim (cases_Bool (has xs n)) [
      | inl t ↦
          let a = length_without n xs t in
          let b = pigeon n (without n xs) (distinct_without n xs d) (λ j e. later j (has_without n xs j d) e) in
          omega arith
      | inr t ↦ let b = pigeon n xs d (λ j e. let l = h j e in elim (cases_eq j n) [ inl q ↦ absurd (both_ways t (ap (has xs) (sym q) ∙ e)) | inr m ↦ omega arith ]) in omega arith
    ]
  where
    later : (j : ℕ) → has (without n xs) j ≡ cond (eqb j n) false (has xs j) → has (without n xs) j ≡ true → j < n
    later j w e =
        elim (cases_eq j n) [
          | inl q ↦ let z : eqb j n ≡ true = grind (arith, nat_tests) in absurd (both_ways (rw z at w) e)
          | inr m ↦ let z : eqb j n ≡ false = grind (arith, nat_tests) in let y : has xs j ≡ true = sym (rw z at w) ∙ e in let l = h j y in omega arith
        ]

-- ---- counting
pub count_same : (f g : ℕ → Bool) (n : ℕ) → ((j : ℕ) → j < n → g j ≡ f j) → count g n ≡ count f n
count_same f g zero h = refl
count_same f g (suc n) h =
    let a = count_same f g n (λ j l. h j (omega arith)) in
    let b : g n ≡ f n = h n (omega arith) in
    rw b (omega arith)

pub count_more : (f g : ℕ → Bool) (i n : ℕ) → i < n → f i ≡ false → ((j : ℕ) → g j ≡ cond (eqb j i) true (f j)) → count g n ≡ count f n + 1
count_more f g i zero l e h = absurd (omega arith)
count_more f g i (suc n) l e h =
    elim (cases_eq n i) [
      | inl q ↦
          let a = count_same f g n (λ j m. let z : eqb j i ≡ false = grind (arith, nat_tests) in rw z at (h j)) in
          let z : eqb n i ≡ true = grind (arith, nat_tests) in
          let b : g n ≡ true = rw z at (h n) in
          let c : f n ≡ false = ap f q ∙ e in
          rw (b, c) (omega arith)
      | inr m ↦
          let a = count_more f g i n (omega arith) e h in
          let z : eqb n i ≡ false = grind (arith, nat_tests) in
          let b : g n ≡ f n = rw z at (h n) in
          rw b (omega arith)
    ]

pub count_some : (f : ℕ → Bool) (i n : ℕ) → i < n → f i ≡ true → 0 < count f n
count_some f i n l e =
    let z : eqb i i ≡ true = grind (arith, nat_tests) in
    let a = count_more (λ j. cond (eqb j i) false (f j)) f i n l (rw z) (λ j. elim (cases_eq j i) [
      | inl q ↦ let y : eqb j i ≡ true = grind (arith, nat_tests) in rw y (ap f q ∙ e)
      | inr m ↦ let y : eqb j i ≡ false = grind (arith, nat_tests) in rw y
    ]) in
    omega arith

pub count_all : (f : ℕ → Bool) (n : ℕ) → count f n ≤ n
count_all f zero = omega arith
count_all f (suc n) = let a = count_all f n in elim (cases_Bool (f n)) [ inl e ↦ rw e (omega arith) | inr e ↦ rw e (omega arith) ]

pub count_full : (f : ℕ → Bool) (n : ℕ) → ((j : ℕ) → j < n → f j ≡ true) → count f n ≡ n
count_full f zero h = refl
count_full f (suc n) h = let a = count_full f n (λ j l. h j (omega arith)) in let e = h n (omega arith) in rw e (omega arith)

-- where the count is full, each place passes
pub full_count : (f : ℕ → Bool) (n : ℕ) → n ≤ count f n → (j : ℕ) → j < n → f j ≡ true
full_count f zero h j l = absurd (omega arith)
full_count f (suc n) h j l =
    let a = count_all f n in
    elim (cases_Bool (f n)) [
      | inl e ↦ elim (cases_eq j n) [
        | inl q ↦ ap f q ∙ e
        | inr m ↦ full_count f n (let z : suc n ≤ count f n + 1 = rw e at h in omega arith) j (omega arith)
      ]
      | inr e ↦ let z : suc n ≤ count f n + 0 = rw e at h in absurd (omega arith)
    ]

pub count_none : (f : ℕ → Bool) (n : ℕ) → ((j : ℕ) → f j ≡ false) → count f n ≡ 0
count_none f zero h = refl
count_none f (suc n) h = let a = count_none f n h in let e = h n in rw e (omega arith)

-- ---- seeking
pub seek_hit : (hit : ℕ → Bool) (xs : List ℕ) (j : ℕ) → is (seek hit xs) j ≡ true → (has xs j ≡ true) × (hit j ≡ true)
seek_hit hit [] j e = absurd (both_ways refl e)
seek_hit hit (x ∷ xs) j e =
    elim (cases_Bool (hit x)) [
      | inl t ↦ let q : eqb j x ≡ true = rw t at e in let r = eqb-true j x q in (rw q, ap hit r ∙ t)
      | inr t ↦ let h = seek_hit hit xs j (rw t at e) in (elim (cases_Bool (eqb j x)) [ inl q ↦ rw q | inr q ↦ rw q h.0 ], h.1)
    ]

pub seek_some : (hit : ℕ → Bool) (xs : List ℕ) (j : ℕ) → has xs j ≡ true → hit j ≡ true → (i : ℕ) × (seek hit xs ≡ Some i)
seek_some hit [] j h e = absurd (both_ways refl h)
seek_some hit (x ∷ xs) j h e =
    elim (cases_Bool (hit x)) [
      | inl t ↦ (x, rw t)
      | inr t ↦
          more (seek_some hit xs j (has_later x xs j (λ q. both_ways t (ap hit (sym q) ∙ e)) h) e) t
    ]
  where
    more : (i : ℕ) × (seek hit xs ≡ Some i) → hit x ≡ false → (i : ℕ) × (seek hit (x ∷ xs) ≡ Some i)
    more r t = (r.0, rw t r.1)

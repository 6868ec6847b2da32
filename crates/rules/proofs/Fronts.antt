-- Members, fronts and counts of plain lists.
use Rattle.std.proofs.Common.{◌≡◌, ℕ, zero, suc, ◌+◌, ◌-◌, ◌<◌, ◌≤◌, Bool, true, false, cond, eqb, ◌⊎◌, List, [], ◌∷◌, ◌++◌, map, take, Some, None, Option, sym, refl, ap, ◌∙◌, subst, inl, inr, arith}
use Rattle.std.proofs.lemmas.Bool.{cases_Bool, eqb-true, eq-eqb, ne_eqb, both_ways}
use Rattle.rules.specs.Fronts.{total, without, passing, freeing, first, among, ahead, looked, In, tally}

-- two constructors are never equal
pub none_some : {A : Type 0} (a : A) → ◌≡◌ {A = Option A} None (Some a) → ⊥
none_some a e = let z : ◌≡◌ {A = ℕ} 0 1 = cc in omega arith

pub some_one : {A : Type 0} (a b : A) → ◌≡◌ {A = Option A} (Some a) (Some b) → a ≡ b
some_one a b e = cc

module _ {A : Type 0} where
  -- ---- counts

  pub tally_append : (p : A → Bool) (xs ys : List A) → tally p (xs ++ ys) ≡ tally p xs + tally p ys
  tally_append p [] ys = omega arith
  tally_append p (x ∷ xs) ys = omega (arith, tally_append p xs ys)

  pub tally_without : (p q : A → Bool) (xs : List A) → tally p (without q xs) ≤ tally p xs
  tally_without p q [] = omega arith
  tally_without p q (x ∷ xs) =
      elim (cases_Bool (q x)) [ inl e ↦ rw e (omega (arith, tally_without p q xs)) | inr e ↦ rw e (omega (arith, tally_without p q xs)) ]

  -- a member that goes is one less
  pub tally_less : (p q : A → Bool) (a : A) (xs : List A) → In a xs → q a ≡ true → tally p (without q xs) + cond (p a) 1 0 ≤ tally p xs
  tally_less p q a [] i e = absurd i
  tally_less p q a (x ∷ xs) (inl h) e =
      let f : q x ≡ true = ap q (sym h) ∙ e in
      let g : ◌≡◌ {A = ℕ} (cond (p a) 1 0) (cond (p x) 1 0) = ap {B = ℕ} (λ (z : A). cond (p z) 1 0) h in
      rw f (omega (arith, g, tally_without p q xs))
  tally_less p q a (x ∷ xs) (inr i) e =
      elim (cases_Bool (q x)) [ inl f ↦ rw f (omega (arith, tally_less p q a xs i e)) | inr f ↦ rw f (omega (arith, tally_less p q a xs i e)) ]

  pub in_tally : (p : A → Bool) (a : A) (xs : List A) → In a xs → p a ≡ true → 0 < tally p xs
  in_tally p a [] i e = absurd i
  in_tally p a (x ∷ xs) (inl h) e = let f : p x ≡ true = ap p (sym h) ∙ e in rw f (omega arith)
  in_tally p a (x ∷ xs) (inr i) e = omega (arith, in_tally p a xs i e)

  pub tally_in : (p : A → Bool) (xs : List A) → 0 < tally p xs → (a : A) × In a xs × (p a ≡ true)
  tally_in p [] h = absurd (omega arith)
  tally_in p (x ∷ xs) h =
      elim (cases_Bool (p x)) [
        | inl e ↦ (x, inl refl, e)
        | inr e ↦ let k : 0 < 0 + tally p xs = rw e at h in let r = tally_in p xs (omega (arith, k)) in (r.0, inr r.1, r.2)
      ]

  -- tests that fail wherever another fails
  pub tally_mono : (p q : A → Bool) (xs : List A) → ((a : A) → In a xs → p a ≡ true → q a ≡ true) → tally p xs ≤ tally q xs
  tally_mono p q [] h = omega arith
  tally_mono p q (x ∷ xs) h =
      elim (cases_Bool (p x)) [
        | inl e ↦ rw (e, h x (inl refl) e) (omega (arith, tally_mono p q xs (λ a i. h a (inr i))))
        | inr e ↦ rw e (omega (arith, tally_mono p q xs (λ a i. h a (inr i))))
      ]

  -- ---- the first that passes

  pub first_in : (p : A → Bool) (a : A) (xs : List A) → first p xs ≡ Some a → In a xs × (p a ≡ true)
  first_in p a [] e = absurd (none_some a e)
  first_in p a (x ∷ xs) e =
      elim (cases_Bool (p x)) [
        | inl f ↦ let g : x ≡ a = some_one x a (rw f at e) in (inl (sym g), ap p (sym g) ∙ f)
        | inr f ↦ let r = first_in p a xs (rw f at e) in (inr r.0, r.1)
      ]

  pub first_none : (p : A → Bool) (xs : List A) → first p xs ≡ None → tally p xs ≡ 0
  first_none p [] e = refl
  first_none p (x ∷ xs) e =
      elim (cases_Bool (p x)) [
        | inl f ↦ absurd (none_some x (sym (rw f at e)))
        | inr f ↦ rw f (omega (arith, first_none p xs (rw f at e)))
      ]

  -- where at most one passes, a member that passes is the first
  pub in_first : (p : A → Bool) (a : A) (xs : List A) → In a xs → p a ≡ true → tally p xs ≤ 1 → first p xs ≡ Some a
  in_first p a [] i e l = absurd i
  in_first p a (x ∷ xs) (inl h) e l = let f : p x ≡ true = ap p (sym h) ∙ e in rw f (ap Some (sym h))
  in_first p a (x ∷ xs) (inr i) e l =
      elim (cases_Bool (p x)) [
        | inl f ↦ let m : 1 + tally p xs ≤ 1 = rw f at l in absurd (omega (arith, in_tally p a xs i e))
        | inr f ↦ rw f (in_first p a xs i e (let m : 0 + tally p xs ≤ 1 = rw f at l in omega arith))
      ]

  pub same_one : (p : A → Bool) (a b : A) (xs : List A) → In a xs → In b xs → p a ≡ true → p b ≡ true → tally p xs ≤ 1 → a ≡ b
  same_one p a b xs i j e f l = some_one a b (sym (in_first p a xs i e l) ∙ in_first p b xs j f l)

  -- ---- members of parts

  pub in_without : (q : A → Bool) (a : A) (xs : List A) → In a (without q xs) → In a xs
  in_without q a [] i = i
  in_without q a (x ∷ xs) i =
      elim (cases_Bool (q x)) [
        | inl e ↦ inr (in_without q a xs (rw e at i))
        | inr e ↦ let j : (a ≡ x) ⊎ In a (without q xs) = rw e at i in elim j [ inl h ↦ inl h | inr k ↦ inr (in_without q a xs k) ]
      ]

  pub in_append : (a : A) (xs ys : List A) → In a (xs ++ ys) → In a xs ⊎ In a ys
  in_append a [] ys i = inr i
  in_append a (x ∷ xs) ys (inl h) = inl (inl h)
  in_append a (x ∷ xs) ys (inr i) = elim (in_append a xs ys i) [ inl j ↦ inl (inr j) | inr j ↦ inr j ]

  pub in_take : (n : ℕ) (a : A) (xs : List A) → In a (take n xs) → In a xs
  in_take zero a xs i = absurd i
  in_take (suc n) a [] i = i
  in_take (suc n) a (x ∷ xs) (inl h) = inl h
  in_take (suc n) a (x ∷ xs) (inr i) = inr (in_take n a xs i)

  pub in_passing : (p : A → Bool) (a : A) (xs : List A) → In a (passing p xs) → In a xs
  in_passing p a [] i = i
  in_passing p a (x ∷ xs) i =
      elim (cases_Bool (p x)) [
        | inl e ↦ let j : (a ≡ x) ⊎ In a (passing p xs) = rw e at i in elim j [ inl h ↦ inl h | inr k ↦ inr (in_passing p a xs k) ]
        | inr e ↦ let j : ⊥ = rw e at i in absurd j
      ]

  pub in_freeing : (w : A → ℕ) (n : ℕ) (a : A) (xs : List A) → In a (freeing w n xs) → In a xs
  in_freeing w n a [] i = i
  in_freeing w n a (x ∷ xs) i =
      elim (cases_Bool (eqb n 0)) [
        | inl e ↦ let j : ⊥ = rw e at i in absurd j
        | inr e ↦ let j : (a ≡ x) ⊎ In a (freeing w (n - w x) xs) = rw e at i in elim j [ inl h ↦ inl h | inr k ↦ inr (in_freeing w (n - w x) a xs k) ]
      ]

  pub in_looked : (f : A → ℕ) (a : A) (xs : List A) (ns : List ℕ) → In a (looked f xs ns) → In a xs
  in_looked f a xs [] i = absurd i
  in_looked f a xs (n ∷ ns) i = go (in_looked f a xs ns) (first (λ x. eqb (f x) n) xs) refl i
    where
      go : (In a (looked f xs ns) → In a xs) → (o : Option A) → first (λ x. eqb (f x) n) xs ≡ o → In a (ahead o (looked f xs ns)) → In a xs
      go rec None e j = rec j
      go rec (Some b) e (inl h) = subst (λ (z : A). In z xs) (sym h) (first_in (λ x. eqb (f x) n) b xs e).0
      go rec (Some b) e (inr j) = rec j

  -- ---- lists looked up by number, where some numbers go

  first_other : (f : A → ℕ) (cs : List ℕ) (n : ℕ) (xs : List A) → among cs n ≡ false
      → first (λ x. eqb (f x) n) (without (λ x. among cs (f x)) xs) ≡ first (λ x. eqb (f x) n) xs
  first_other f cs n [] e = refl
  first_other f cs n (x ∷ xs) e =
      elim (cases_Bool (among cs (f x))) [
        | inl g ↦
            let h : eqb (f x) n ≡ false = ne_eqb (f x) n (λ k. both_ways (among cs n) e (ap (among cs) (sym k) ∙ g)) in
            rw (g, h) (first_other f cs n xs e)
        | inr g ↦
            rw g (elim (cases_Bool (eqb (f x) n)) [ inl h ↦ rw h | inr h ↦ rw h (first_other f cs n xs e) ])
      ]

  pub looked_without : (f : A → ℕ) (cs : List ℕ) (xs : List A) (ns : List ℕ)
      → looked f (without (λ x. among cs (f x)) xs) (without (among cs) ns) ≡ without (λ x. among cs (f x)) (looked f xs ns)
  looked_without f cs xs [] = refl
  looked_without f cs xs (n ∷ ns) =
      let ih = looked_without f cs xs ns in
      elim (cases_Bool (among cs n)) [ inl e ↦ rw e (gone ih e (first (λ x. eqb (f x) n) xs) refl) | inr e ↦ rw (e, first_other f cs n xs e) (stays ih e (first (λ x. eqb (f x) n) xs) refl) ]
    where
      gone : (looked f (without (λ x. among cs (f x)) xs) (without (among cs) ns) ≡ without (λ x. among cs (f x)) (looked f xs ns)) → among cs n ≡ true → (o : Option A) → first (λ x. eqb (f x) n) xs ≡ o
          → looked f (without (λ x. among cs (f x)) xs) (without (among cs) ns) ≡ without (λ x. among cs (f x)) (ahead o (looked f xs ns))
      gone ih e None h = ih
      gone ih e (Some b) h =
          let k : among cs (f b) ≡ true = ap (among cs) (eqb-true (f b) n (first_in (λ x. eqb (f x) n) b xs h).1) ∙ e in
          rw k ih

      stays : (looked f (without (λ x. among cs (f x)) xs) (without (among cs) ns) ≡ without (λ x. among cs (f x)) (looked f xs ns)) → among cs n ≡ false → (o : Option A) → first (λ x. eqb (f x) n) xs ≡ o
          → ahead o (looked f (without (λ x. among cs (f x)) xs) (without (among cs) ns)) ≡ without (λ x. among cs (f x)) (ahead o (looked f xs ns))
      stays ih e None h = ih
      stays ih e (Some b) h =
          let k : among cs (f b) ≡ false = ap (among cs) (eqb-true (f b) n (first_in (λ x. eqb (f x) n) b xs h).1) ∙ e in
          rw k (ap (λ (l : List A). b ∷ l) ih)

-- ---- lists seen through a function

module _ {A B : Type 0} (f : A → B) where
  pub map_without : (p : A → Bool) (q : B → Bool) (xs : List A) → ((a : A) → In a xs → p a ≡ q (f a)) → map f (without p xs) ≡ without q (map f xs)
  map_without p q [] h = refl
  map_without p q (x ∷ xs) h =
      let ih = map_without p q xs (λ a i. h a (inr i)) in
      let e : p x ≡ q (f x) = h x (inl refl) in
      elim (cases_Bool (q (f x))) [
        | inl t ↦ rw (e, t) ih
        | inr t ↦ rw (e, t) (ap (λ (l : List B). f x ∷ l) ih)
      ]

  pub map_passing : (q : B → Bool) (xs : List A) → map f (passing (λ a. q (f a)) xs) ≡ passing q (map f xs)
  map_passing q [] = refl
  map_passing q (x ∷ xs) = elim (cases_Bool (q (f x))) [ inl e ↦ rw e (ap (λ (l : List B). f x ∷ l) (map_passing q xs)) | inr e ↦ rw e ]

  pub map_freeing : (w : B → ℕ) (n : ℕ) (xs : List A) → map f (freeing (λ a. w (f a)) n xs) ≡ freeing w n (map f xs)
  map_freeing w n [] = refl
  map_freeing w n (x ∷ xs) =
      elim (cases_Bool (eqb n 0)) [ inl e ↦ rw e | inr e ↦ rw e (ap (λ (l : List B). f x ∷ l) (map_freeing w (n - w (f x)) xs)) ]

  pub map_total : (w : B → ℕ) (xs : List A) → total w (map f xs) ≡ total (λ a. w (f a)) xs
  map_total w [] = refl
  map_total w (x ∷ xs) = ap (λ (n : ℕ). w (f x) + n) (map_total w xs)

  abbrev pub seen : Option A → Option B
  seen None = None
  seen (Some a) = Some (f a)

  pub map_first : (q : B → Bool) (xs : List A) → first q (map f xs) ≡ seen (first (λ a. q (f a)) xs)
  map_first q [] = refl
  map_first q (x ∷ xs) = elim (cases_Bool (q (f x))) [ inl e ↦ rw e | inr e ↦ rw e (map_first q xs) ]

  -- members found again by another number, where no two have the same
  pub looked_again : (g : B → ℕ) (xs es : List A) → ((n : ℕ) → tally (λ a. eqb (g (f a)) n) xs ≤ 1) → ((a : A) → In a es → In a xs)
      → looked g (map f xs) (map (λ a. g (f a)) es) ≡ map f es
  looked_again g xs [] l h = refl
  looked_again g xs (e ∷ es) l h =
      let one : first (λ a. eqb (g (f a)) (g (f e))) xs ≡ Some e = in_first (λ a. eqb (g (f a)) (g (f e))) e xs (h e (inl refl)) (eq-eqb (g (f e)) (g (f e)) refl) (l (g (f e))) in
      let found : first (λ b. eqb (g b) (g (f e))) (map f xs) ≡ Some (f e) = map_first (λ b. eqb (g b) (g (f e))) xs ∙ ap seen one in
      rw found (ap (λ (r : List B). f e ∷ r) (looked_again g xs es l (λ a i. h a (inr i))))

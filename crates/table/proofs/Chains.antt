-- Chains: after a cell joins one, after it leaves one, and as the walk finds them.
use Rattle.std.proofs.Common.{◌≡◌, ℕ, zero, suc, ◌<◌, ◌≤◌, Bool, true, false, not, cond, eqb, List, [], ◌∷◌, length, Some, None, Option, sym, refl, ap, ◌∙◌, subst, inl, inr, arith}
use Rattle.std.proofs.lemmas.Bool.Decides.{nat_tests}
use Rattle.std.specs.List.{last_or, take_while}
use Rattle.std.proofs.lemmas.Bool.{cases_eq, cases_Bool}
use Rattle.std.proofs.lemmas.List.Sums.{take_while-cons}
use Rattle.links.specs.Places.{is, pick, first, has, after, before_from, before, distinct, without}
use Rattle.table.specs.Chain.{walk, Chain}
use Rattle.links.proofs.Orders

-- some list is the chain
abbrev pub SomeChain : (ℕ → Option ℕ) → Option ℕ → (ℕ → Bool) → Type 0
SomeChain lk h mem = (xs : List ℕ) × Chain lk h mem xs

pub same : (lk lk' : ℕ → Option ℕ) (h h' : Option ℕ) (mem mem' : ℕ → Bool) (xs : List ℕ) → Chain lk h mem xs → ((j : ℕ) → mem' j ≡ mem j) → ((j : ℕ) → mem j ≡ true → lk' j ≡ lk j) → h' ≡ h → Chain lk' h' mem' xs
same lk lk' h h' mem mem' xs c m l e = record {
  holds = λ j. m j ∙ c.holds j;
  links = λ j t. l j (c.holds j ∙ t) ∙ c.links j t;
  apart = c.apart;
  starts = e ∙ c.starts;
}

pub pushed : (lk lk' : ℕ → Option ℕ) (h h' : Option ℕ) (mem mem' : ℕ → Bool) (xs : List ℕ) (i : ℕ) → Chain lk h mem xs → mem i ≡ false → ((j : ℕ) → mem' j ≡ cond (eqb j i) true (mem j)) → lk' i ≡ h → ((j : ℕ) → mem j ≡ true → lk' j ≡ lk j) → h' ≡ Some i → Chain lk' h' mem' (i ∷ xs)
pushed lk lk' h h' mem mem' xs i c o m a l e = record {
  holds = λ j. m j ∙ ap (λ (b : Bool). cond (eqb j i) true b) (c.holds j);
  links = λ j t. elim (cases_eq j i) [
    | inl q ↦ let z : eqb j i ≡ true = grind (arith, nat_tests) in rw z (ap lk' q ∙ a ∙ c.starts)
    | inr n ↦ let z : eqb j i ≡ false = grind (arith, nat_tests) in let t' : has xs j ≡ true = rw z at t in rw z (l j (c.holds j ∙ t') ∙ c.links j t')
  ];
  apart = let z : has xs i ≡ false = sym (c.holds i) ∙ o in rw z c.apart;
  starts = e;
}

pub cut : (lk lk' : ℕ → Option ℕ) (h h' : Option ℕ) (mem mem' : ℕ → Bool) (xs : List ℕ) (i : ℕ) (p : Option ℕ) → Chain lk h mem xs → mem i ≡ true → p ≡ before xs i → ((j : ℕ) → mem' j ≡ cond (eqb j i) false (mem j)) → ((j : ℕ) → mem' j ≡ true → lk' j ≡ cond (is p j) (lk i) (lk j)) → h' ≡ pick p (lk i) h → Chain lk' h' mem' (without i xs)
cut lk lk' h h' mem mem' xs i p c o b m l e = record {
  holds = holds';
  links = λ j t.
      l j (holds' j ∙ t)
      ∙ (elim (cases_eq j i) [
        | inl q ↦ let z : eqb j i ≡ true = grind (arith, nat_tests) in absurd (Orders.both_ways (Orders.has_without i xs j c.apart ∙ rw z) t)
        | inr n ↦
            let z : eqb j i ≡ false = grind (arith, nat_tests) in
            let t' : has xs j ≡ true = sym (rw z at (Orders.has_without i xs j c.apart)) ∙ t in
            let w : after (without i xs) j ≡ cond (is (before xs i) j) (after xs i) (after xs j) = rw z at (Orders.after_without i xs j c.apart here) in
            ap (λ (u : Option ℕ). cond (is u j) (lk i) (lk j)) b ∙ ap (λ (u : Option ℕ). cond (is (before xs i) j) u (lk j)) (c.links i here) ∙ ap (λ (u : Option ℕ). cond (is (before xs i) j) (after xs i) u) (c.links j t') ∙ sym w
      ]);
  apart = Orders.distinct_without i xs c.apart;
  starts = e ∙ ap (λ (u : Option ℕ). pick u (lk i) h) b ∙ ap (λ (u : Option ℕ). pick (before xs i) u h) (c.links i here) ∙ ap (λ (u : Option ℕ). pick (before xs i) (after xs i) u) c.starts ∙ sym (Orders.first_without i xs here);
}
  where
    here : has xs i ≡ true
    here = sym (c.holds i) ∙ o

    holds' : (j : ℕ) → mem' j ≡ has (without i xs) j
    holds' j = m j ∙ ap (λ (u : Bool). cond (eqb j i) false u) (c.holds j) ∙ sym (Orders.has_without i xs j c.apart)

-- ---- the walk finds the chain
pub walk_is : (lk : ℕ → Option ℕ) (n : ℕ) (xs : List ℕ) → length xs ≤ n → distinct xs ≡ true → ((j : ℕ) → has xs j ≡ true → lk j ≡ after xs j) → walk lk n (first xs) ≡ xs
walk_is lk zero [] l d h = refl
walk_is lk (suc n) [] l d h = refl
walk_is lk zero (x ∷ xs) l d h = absurd (omega arith)
walk_is lk (suc n) (x ∷ xs) l d h =
    let a = Orders.head_apart x xs d in
    let here : lk x ≡ first xs = h x (grind (arith, nat_tests)) ∙ grind (arith, nat_tests) in
    let later : (j : ℕ) → has xs j ≡ true → lk j ≡ after xs j =
    λ j k. elim (cases_eq j x) [
      | inl e ↦ absurd (Orders.both_ways a (ap (has xs) (sym e) ∙ k))
      | inr m ↦ let t : eqb j x ≡ false = grind (arith, nat_tests) in rw t at (h j (rw t k))
    ] in
    ap (λ (ys : List ℕ). x ∷ ys) (ap (λ (o : Option ℕ). walk lk n o) here ∙ walk_is lk n xs (omega arith) (Orders.tail_apart x xs d) later)

pub settled : (lk : ℕ → Option ℕ) (h : Option ℕ) (mem : ℕ → Bool) (n : ℕ) → ((j : ℕ) → mem j ≡ true → j < n) → SomeChain lk h mem → Chain lk h mem (walk lk n h)
settled lk h mem n w s =
    let c = s.1 in
    let l = Orders.pigeon n s.0 c.apart (λ j t. w j (c.holds j ∙ t)) in
    let e : walk lk n h ≡ s.0 = ap (walk lk n) c.starts ∙ walk_is lk n s.0 l c.apart c.links in
    subst (Chain lk h mem) (sym e) c

-- what the walk passes last before i is what stands before it
pub last_before : (p : Option ℕ) (xs : List ℕ) (i : ℕ) → has xs i ≡ true → last_or p (take_while (λ j. not (eqb j i)) xs) ≡ before_from p xs i
last_before p [] i t = absurd (Orders.both_ways refl t)
last_before p (x ∷ xs) i t = elim (cases_eq i x) [
  | inl e ↦ let z : eqb i x ≡ true = grind (arith, nat_tests) in let y : eqb x i ≡ true = grind (arith, nat_tests) in rw (take_while-cons, y, z)
  | inr n ↦ let z : eqb i x ≡ false = grind (arith, nat_tests) in let y : eqb x i ≡ false = grind (arith, nat_tests) in rw (take_while-cons, y, z) (last_before (Some x) xs i (rw z at t))
]

pub walk_none : (lk : ℕ → Option ℕ) (n : ℕ) → walk lk n None ≡ []
walk_none lk zero = refl
walk_none lk (suc n) = refl

-- ---- cell i goes from its chain, if it has one, to the front of chain b
pub moved : (lk lk' hd hd' sp sp' : ℕ → Option ℕ) (xs : ℕ → List ℕ) (i b : ℕ) (p : Option ℕ)
    → ((c : ℕ) → Chain lk (hd c) (λ j. is (sp j) c) (xs c))
    → is (sp i) b ≡ false
    → ((c : ℕ) → is (sp i) c ≡ true → p ≡ before (xs c) i)
    → ((j : ℕ) → is p j ≡ true → sp j ≡ sp i)
    → ((j : ℕ) → sp' j ≡ cond (eqb j i) (Some b) (sp j))
    → ((j : ℕ) → lk' j ≡ cond (eqb j i) (hd b) (cond (is p j) (lk i) (lk j)))
    → ((c : ℕ) → hd' c ≡ cond (eqb c b) (Some i) (cond (is (sp i) c) (pick p (lk i) (hd c)) (hd c)))
    → (c : ℕ) → SomeChain lk' (hd' c) (λ j. is (sp' j) c)
moved lk lk' hd hd' sp sp' xs i b p ch out pred peer spots links heads c =
    elim (cases_eq c b) [
      | inl q ↦
          let z : eqb c b ≡ true = grind (arith, nat_tests) in
          let o : is (sp i) c ≡ false = ap (is (sp i)) q ∙ out in
          (i ∷ xs c, pushed lk lk' (hd c) (hd' c) (λ j. is (sp j) c) (λ j. is (sp' j) c) (xs c) i (ch c) o (λ j. mem j ∙ ap (λ (t : Bool). cond (eqb j i) t (is (sp j) c)) z) (links i ∙ (let y : eqb i i ≡ true = grind (arith, nat_tests) in rw y (ap hd (sym q)))) (λ j t. stays j o t) (heads c ∙ rw z))
      | inr n ↦
          let z : eqb c b ≡ false = grind (arith, nat_tests) in
          elim (cases_Bool (is (sp i) c)) [
            | inl o ↦ (
              without i (xs c),
              cut lk lk' (hd c) (hd' c) (λ j. is (sp j) c) (λ j. is (sp' j) c) (xs c) i p (ch c) o (pred c o) (λ j. mem j ∙ ap (λ (t : Bool). cond (eqb j i) t (is (sp j) c)) z)
                  (λ j t. links j ∙ elim (cases_Bool (eqb j i)) [ inl y ↦ absurd (Orders.both_ways (mem j ∙ rw (y, z)) t) | inr y ↦ rw y ])
                  (heads c ∙ rw (z, o)),
            )
            | inr o ↦ (
              xs c,
              same lk lk' (hd c) (hd' c) (λ j. is (sp j) c) (λ j. is (sp' j) c) (xs c) (ch c) (λ j. mem j ∙ elim (cases_eq j i) [ inl y ↦ let w : eqb j i ≡ true = grind (arith, nat_tests) in rw (w, z) (sym (ap (λ (k : ℕ). is (sp k) c) y ∙ o)) | inr y ↦ let w : eqb j i ≡ false = grind (arith, nat_tests) in rw w ])
                  (λ j t. stays j o t) (heads c ∙ rw (z, o)),
            )
          ]
    ]
  where
    mem : (j : ℕ) → is (sp' j) c ≡ cond (eqb j i) (eqb c b) (is (sp j) c)
    mem j = ap (λ (o : Option ℕ). is o c) (spots j) ∙ elim (cases_Bool (eqb j i)) [ inl e ↦ rw e | inr e ↦ rw e ]

    stays : (j : ℕ) → is (sp i) c ≡ false → is (sp j) c ≡ true → lk' j ≡ lk j
    stays j o t =
        links j ∙ elim (cases_eq j i) [
          | inl y ↦ absurd (Orders.both_ways (ap (λ (k : ℕ). is (sp k) c) y ∙ o) t)
          | inr y ↦
              let w : eqb j i ≡ false = grind (arith, nat_tests) in
              rw w (elim (cases_Bool (is p j)) [
                | inl u ↦ absurd (Orders.both_ways (ap (λ (k : Option ℕ). is k c) (peer j u) ∙ o) t)
                | inr u ↦ rw u
              ])
        ]

-- An entry that is touched, replaced or admitted: the same happens to the ledger, and a state keeps what it keeps.
use Rattle.std.proofs.Common.{◌≡◌, ℕ, zero, suc, ◌+◌, ◌<◌, ◌≤◌, Bool, true, false, cond, eqb, ◌⊎◌, List, [], ◌∷◌, ◌++◌, map, Some, None, Option, sym, refl, ap, ◌∙◌, subst, inl, inr, arith}
use Rattle.std.proofs.lemmas.Bool.{cases_Bool, cases_lt, eqb-true, eqb-false, eq-eqb, ne_eqb, both_ways}
use Rattle.std.proofs.lemmas.List.{map-append}
use Rattle.rules.specs.Fronts.{without, first, among, ahead, looked, In, tally}
use Rattle.rules.specs.Kinds.{Kind, Lawful}
use Rattle.rules.specs.Entries.{Entry, State}
use Rattle.rules.specs.Limits.{top, kept}
use Rattle.rules.specs.Passes.{written}
use Rattle.rules.specs.Calls.{to_back, touched_at, rewritten, touch_entry, replace_entry, admit, newcomer, held}
use Rattle.rules.specs.Items.{Item, last, touch_item, replace_item, add_item}
use Rattle.rules.proofs.Fronts.{none_some, tally_append, tally_without, tally_less, tally_mono, in_tally, tally_in, first_in, first_none, in_first, in_without, in_append, in_looked, seen, map_without}
use Rattle.rules.specs.Agreement.{as_item, ticket_of, ledger_of, Coherent}
use Rattle.rules.proofs.Erasing.{ledger_same, same_ids, in_stays, among_without}

module _ {A : Type 0} where
  pub in_left : (a : A) (xs ys : List A) → In a xs → In a (xs ++ ys)
  in_left a [] ys i = absurd i
  in_left a (x ∷ xs) ys (inl h) = inl h
  in_left a (x ∷ xs) ys (inr i) = inr (in_left a xs ys i)

  pub in_right : (a : A) (xs ys : List A) → In a ys → In a (xs ++ ys)
  in_right a [] ys i = i
  in_right a (x ∷ xs) ys i = inr (in_right a xs ys i)

  pub tally_none : (p : A → Bool) (xs : List A) → tally p xs ≡ 0 → first p xs ≡ None
  tally_none p [] e = refl
  tally_none p (x ∷ xs) e =
      elim (cases_Bool (p x)) [
        | inl f ↦ let k : ◌≡◌ {A = ℕ} (1 + tally p xs) 0 = rw f at e in absurd (omega arith)
        | inr f ↦ rw f (tally_none p xs (let k : ◌≡◌ {A = ℕ} (0 + tally p xs) 0 = rw f at e in omega arith))
      ]

  pub first_past : (p : A → Bool) (xs ys : List A) → first p xs ≡ None → first p (xs ++ ys) ≡ first p ys
  first_past p [] ys e = refl
  first_past p (x ∷ xs) ys e =
      elim (cases_Bool (p x)) [ inl f ↦ absurd (none_some x (sym (rw f at e))) | inr f ↦ rw f (first_past p xs ys (rw f at e)) ]

  pub first_there : (p : A → Bool) (a : A) (xs ys : List A) → In a xs → p a ≡ true → first p (xs ++ ys) ≡ first p xs
  first_there p a [] ys i e = absurd i
  first_there p a (x ∷ xs) ys (inl h) e = let f : p x ≡ true = ap p (sym h) ∙ e in rw f
  first_there p a (x ∷ xs) ys (inr i) e = elim (cases_Bool (p x)) [ inl f ↦ rw f | inr f ↦ rw f (first_there p a xs ys i e) ]

  -- what another test takes out does not matter
  pub first_keeps : (p q : A → Bool) (y : A) (xs : List A) → ((x : A) → p x ≡ true → q x ≡ false) → p y ≡ false → first p (without q xs ++ (y ∷ [])) ≡ first p xs
  first_keeps p q y [] h e = rw e
  first_keeps p q y (x ∷ xs) h e =
      elim (cases_Bool (p x)) [
        | inl f ↦ rw (h x f, f)
        | inr f ↦ rw f (elim (cases_Bool (q x)) [ inl g ↦ rw g (first_keeps p q y xs h e) | inr g ↦ rw (g, f) (first_keeps p q y xs h e) ])
      ]

  pub first_gone : (p : A → Bool) (xs : List A) → first p (without p xs) ≡ None
  first_gone p [] = refl
  first_gone p (x ∷ xs) = elim (cases_Bool (p x)) [ inl f ↦ rw f (first_gone p xs) | inr f ↦ rw (f, f) (first_gone p xs) ]

  -- ---- lists looked up by number

  pub looked_append : (f : A → ℕ) (xs : List A) (ns ms : List ℕ) → looked f xs (ns ++ ms) ≡ looked f xs ns ++ looked f xs ms
  looked_append f xs [] ms = refl
  looked_append f xs (n ∷ ns) ms = go (looked_append f xs ns ms) (first (λ x. eqb (f x) n) xs)
    where
      go : looked f xs (ns ++ ms) ≡ looked f xs ns ++ looked f xs ms → (o : Option A) → ahead o (looked f xs (ns ++ ms)) ≡ ahead o (looked f xs ns) ++ looked f xs ms
      go ih None = ih
      go ih (Some a) = ap (λ (l : List A). a ∷ l) ih

  pub looked_drop : (f : A → ℕ) (q : ℕ → Bool) (xs : List A) (ns : List ℕ) → looked f xs (without q ns) ≡ without (λ x. q (f x)) (looked f xs ns)
  looked_drop f q xs [] = refl
  looked_drop f q xs (n ∷ ns) =
      elim (cases_Bool (q n)) [ inl e ↦ rw e (gone (looked_drop f q xs ns) e (first (λ x. eqb (f x) n) xs) refl) | inr e ↦ rw e (stays (looked_drop f q xs ns) e (first (λ x. eqb (f x) n) xs) refl) ]
    where
      gone : (looked f xs (without q ns) ≡ without (λ x. q (f x)) (looked f xs ns)) → q n ≡ true → (o : Option A) → first (λ x. eqb (f x) n) xs ≡ o
          → looked f xs (without q ns) ≡ without (λ x. q (f x)) (ahead o (looked f xs ns))
      gone ih e None h = ih
      gone ih e (Some b) h = let k : q (f b) ≡ true = ap q (eqb-true (f b) n (first_in (λ x. eqb (f x) n) b xs h).1) ∙ e in rw k ih

      stays : (looked f xs (without q ns) ≡ without (λ x. q (f x)) (looked f xs ns)) → q n ≡ false → (o : Option A) → first (λ x. eqb (f x) n) xs ≡ o
          → ahead o (looked f xs (without q ns)) ≡ without (λ x. q (f x)) (ahead o (looked f xs ns))
      stays ih e None h = ih
      stays ih e (Some b) h = let k : q (f b) ≡ false = ap q (eqb-true (f b) n (first_in (λ x. eqb (f x) n) b xs h).1) ∙ e in rw k (ap (λ (l : List A). b ∷ l) ih)

  map_ahead : (g : A → ℕ) (o : Option A) (xs : List A) → map g (ahead o xs) ≡ ahead (seen g o) (map g xs)
  map_ahead g None xs = refl
  map_ahead g (Some a) xs = refl

  -- two lists in which the numbers asked for find the same
  pub looked_ids : (f g : A → ℕ) (xs ys : List A) (ns : List ℕ)
      → ((n : ℕ) → among ns n ≡ true → seen g (first (λ x. eqb (f x) n) xs) ≡ seen g (first (λ x. eqb (f x) n) ys))
      → map g (looked f xs ns) ≡ map g (looked f ys ns)
  looked_ids f g xs ys [] h = refl
  looked_ids f g xs ys (n ∷ ns) h =
      let one : seen g (first (λ x. eqb (f x) n) xs) ≡ seen g (first (λ x. eqb (f x) n) ys) = h n (rw (eq-eqb n n refl)) in
      let rest : map g (looked f xs ns) ≡ map g (looked f ys ns) =
      looked_ids f g xs ys ns (λ m e. h m (elim (cases_Bool (eqb n m)) [ inl c ↦ rw c | inr c ↦ rw c e ])) in
      map_ahead g (first (λ x. eqb (f x) n) xs) (looked f xs ns)
      ∙ (λ i. ahead (one i) (rest i))
      ∙ sym (map_ahead g (first (λ x. eqb (f x) n) ys) (looked f ys ns))

pub among_append : (xs ys : List ℕ) (n : ℕ) → among (xs ++ ys) n ≡ true → (among xs n ≡ true) ⊎ (among ys n ≡ true)
among_append [] ys n e = inr e
among_append (x ∷ xs) ys n e =
    elim (cases_Bool (eqb x n)) [ inl f ↦ inl (rw f) | inr f ↦ elim (among_append xs ys n (rw f at e)) [ inl g ↦ inl (rw f g) | inr g ↦ inr g ] ]

pub tally_among : (n : ℕ) (ns : List ℕ) → 0 < tally (λ m. eqb m n) ns → among ns n ≡ true
tally_among n [] h = absurd (omega arith)
tally_among n (m ∷ ns) h =
    elim (cases_Bool (eqb m n)) [
      | inl e ↦ rw e
      | inr e ↦ let k : 0 < 0 + tally (λ m. eqb m n) ns = rw e at h in rw e (tally_among n ns (omega arith))
    ]

among_one : (m n : ℕ) → among (m ∷ []) n ≡ true → m ≡ n
among_one m n e = elim (cases_Bool (eqb m n)) [ inl f ↦ eqb-true m n f | inr f ↦ absurd (both_ways false refl (rw f at e)) ]

module _ {Key Value : Type 0} where
  abbrev cell_of : Entry Key Value → ℕ
  cell_of e = e.cell

  module _ (kind : Kind Key Value) (s : State Key Value) (ok : Coherent kind s) (e e' : Entry Key Value) (here : In e s.touch) (cell : e'.cell ≡ e.cell) (ticket : e'.ticket ≡ e.ticket) where
    abbrev leaves : Entry Key Value → Bool
    leaves x = eqb x.cell e'.cell

    e_leaves : leaves e ≡ true
    e_leaves = eq-eqb e.cell e'.cell (sym cell)

    -- the touch order
    pub back_erase : map as_item (to_back e' s.touch) ≡ last (as_item e') (map as_item s.touch)
    back_erase =
        map-append as_item (without leaves s.touch) (e' ∷ [])
        ∙ ap (λ (l : List (Item Key Value)). l ++ (as_item e' ∷ []))
        (map_without as_item leaves (λ (i : Item Key Value). eqb i.ticket e'.ticket) s.touch
        (λ x j. ap (λ n. eqb x.cell n) cell ∙ same_ids kind s ok x e j here ∙ ap (λ n. eqb x.ticket n) (sym ticket)))

    -- a cell finds the same ticket
    found_same : (n : ℕ) → seen ticket_of (first (λ (x : Entry Key Value). eqb x.cell n) (to_back e' s.touch)) ≡ seen ticket_of (first (λ (x : Entry Key Value). eqb x.cell n) s.touch)
    found_same n =
        elim (cases_Bool (eqb e'.cell n)) [
          | inl h ↦
              let c : e'.cell ≡ n = eqb-true e'.cell n h in
              let was : first (λ (x : Entry Key Value). eqb x.cell n) s.touch ≡ Some e =
              in_first (λ (x : Entry Key Value). eqb x.cell n) e s.touch here (eq-eqb e.cell n (sym cell ∙ c)) (ok.cells n) in
              let none : first (λ (x : Entry Key Value). eqb x.cell n) (without leaves s.touch) ≡ None =
              subst (λ (m : ℕ). first (λ (x : Entry Key Value). eqb x.cell m) (without leaves s.touch) ≡ None) c (first_gone leaves s.touch) in
              let is : first (λ (x : Entry Key Value). eqb x.cell n) (to_back e' s.touch) ≡ Some e' =
              first_past (λ (x : Entry Key Value). eqb x.cell n) (without leaves s.touch) (e' ∷ []) none ∙ rw h in
              ap (seen ticket_of) is ∙ ap Some ticket ∙ sym (ap (seen ticket_of) was)
          | inr h ↦
              ap (seen ticket_of) (first_keeps (λ (x : Entry Key Value). eqb x.cell n) leaves e' s.touch
              (λ x f. ne_eqb x.cell e'.cell (λ g. eqb-false e'.cell n h (sym g ∙ eqb-true x.cell n f))) h)
        ]

    pub order_same : (ns : List ℕ) → map ticket_of (looked cell_of (to_back e' s.touch) ns) ≡ map ticket_of (looked cell_of s.touch ns)
    order_same ns = looked_ids cell_of ticket_of (to_back e' s.touch) s.touch ns (λ n m. found_same n)

    -- the write order of a replaced entry
    pub rewritten_order : (life : Option ℕ)
        → map ticket_of (looked cell_of (to_back e' s.touch) (kept life (without (λ c. eqb c e'.cell) s.write ++ (e'.cell ∷ []))))
        ≡ kept life (without (λ t. eqb t e'.ticket) (map ticket_of (written s)) ++ (e'.ticket ∷ []))
    rewritten_order None = refl
    rewritten_order (Some d) =
        let c = e'.cell in
        let rest = without (λ n. eqb n c) s.write in
        order_same (rest ++ (c ∷ []))
        ∙ ap (map ticket_of) (looked_append cell_of s.touch rest (c ∷ []))
        ∙ map-append ticket_of (looked cell_of s.touch rest) (looked cell_of s.touch (c ∷ []))
        ∙ (λ i. front i ++ back i)
      where
        front : map ticket_of (looked cell_of s.touch (without (λ n. eqb n e'.cell) s.write)) ≡ without (λ t. eqb t e'.ticket) (map ticket_of (written s))
        front =
            ap (map ticket_of) (looked_drop cell_of (λ n. eqb n e'.cell) s.touch s.write)
            ∙ map_without ticket_of leaves (λ t. eqb t e'.ticket) (written s)
            (λ x j. ap (λ n. eqb x.cell n) cell ∙ same_ids kind s ok x e (in_looked cell_of x s.touch s.write j) here ∙ ap (λ n. eqb x.ticket n) (sym ticket))

        back : map ticket_of (looked cell_of s.touch (e'.cell ∷ [])) ≡ e'.ticket ∷ []
        back =
            let was : first (λ (x : Entry Key Value). eqb x.cell e'.cell) s.touch ≡ Some e = in_first leaves e s.touch here e_leaves (ok.cells e'.cell) in
            rw was (ap (λ (n : ℕ). n ∷ []) (sym ticket))

    -- what a state keeps
    module _ (key : e'.key ≡ e.key) (hash : e'.hash ≡ e.hash) where
      counts : (p : Entry Key Value → Bool) → p e' ≡ p e → tally p (to_back e' s.touch) ≤ tally p s.touch
      counts p same =
          let a = tally_append p (without leaves s.touch) (e' ∷ []) in
          let b = tally_less p leaves e s.touch here e_leaves in
          let c : ◌≡◌ {A = ℕ} (cond (p e') 1 0) (cond (p e) 1 0) = ap {B = ℕ} (λ (t : Bool). cond t 1 0) same in
          omega (arith, a, b, c)

      either_way : (x : Entry Key Value) → In x (to_back e' s.touch) → In x s.touch ⊎ (x ≡ e')
      either_way x i =
          elim (in_append x (without leaves s.touch) (e' ∷ []) i) [
            | inl j ↦ inl (in_without leaves x s.touch j)
            | inr j ↦ elim j [ inl h ↦ inr h | inr z ↦ absurd z ]
          ]

      still_listed : (n : ℕ) → (x : Entry Key Value) → In x s.touch → x.cell ≡ n → (y : Entry Key Value) × In y (to_back e' s.touch) × (y.cell ≡ n)
      still_listed n x i c =
          elim (cases_Bool (leaves x)) [
            | inl h ↦ (e', in_right e' (without leaves s.touch) (e' ∷ []) (inl refl), sym (eqb-true x.cell e'.cell h) ∙ c)
            | inr h ↦ (x, in_left x (without leaves s.touch) (e' ∷ []) (in_stays leaves x s.touch i h), c)
          ]

      pub moved_kept : (s' : State Key Value) → s'.touch ≡ to_back e' s.touch → s'.next ≡ s.next
          → ((n : ℕ) → among s'.write n ≡ true → (among s.write n ≡ true) ⊎ (n ≡ e.cell)) → ((n : ℕ) → tally (λ c. eqb c n) s'.write ≤ 1) → Coherent kind s'
      moved_kept s' t m w u = record {
        once = u;
        cells = λ n. rw t (omega (arith, ok.cells n, counts (λ (x : Entry Key Value). eqb x.cell n) (ap (λ c. eqb c n) cell)));
        tickets = λ n. rw t (omega (arith, ok.tickets n, counts (λ (x : Entry Key Value). eqb x.ticket n) (ap (λ c. eqb c n) ticket)));
        keys = λ k. rw t (omega (arith, ok.keys k, counts (λ (x : Entry Key Value). kind.alike x.key k) (ap (λ c. kind.alike c k) key)));
        hashes = λ x i. elim (either_way x (rw t at i)) [
          | inl j ↦ ok.hashes x j
          | inr h ↦ ap (λ (y : Entry Key Value). y.hash) h ∙ hash ∙ ok.hashes e here ∙ ap kind.hashed (sym key) ∙ ap (λ (y : Entry Key Value). kind.hashed y.key) (sym h)
        ];
        below = λ x i. elim (either_way x (rw t at i)) [
          | inl j ↦ omega (arith, ok.below x j, m)
          | inr h ↦ let g : x.ticket ≡ e.ticket = ap ticket_of h ∙ ticket in omega (arith, ok.below e here, m, g)
        ];
        listed = λ n a. elim (w n a) [
          | inl b ↦ let r = ok.listed n b in rw t (still_listed n r.0 r.1 r.2)
          | inr b ↦ rw t (still_listed n e here (sym b))
        ];
      }

  module _ (kind : Kind Key Value) (s : State Key Value) (ok : Coherent kind s) (e : Entry Key Value) (here : In e s.touch) where
    pub touch_erase : (now : ℕ) → ledger_of (touch_entry now e s) ≡ touch_item now (as_item e) (ledger_of s)
    unfolding ledger_of touch_entry touch_item
    touch_erase now =
        ledger_same (back_erase kind s ok e (touched_at now e) here refl refl) (order_same kind s ok e (touched_at now e) here refl refl s.write) refl refl refl refl

    pub touch_kept : (now : ℕ) → Coherent kind (touch_entry now e s)
    unfolding touch_entry
    touch_kept now = moved_kept kind s ok e (touched_at now e) here refl refl refl refl (touch_entry now e s) refl refl (λ n a. inl a) ok.once

    pub replace_erase : (life : Option ℕ) (v : Value) (w now : ℕ) → ledger_of (replace_entry life v w now e s) ≡ replace_item life v w now (as_item e) (ledger_of s)
    unfolding ledger_of replace_entry replace_item
    replace_erase life v w now =
        ledger_same (back_erase kind s ok e (rewritten v w now e) here refl refl) (rewritten_order kind s ok e (rewritten v w now e) here refl refl life) refl refl refl refl

    pub replace_kept : (life : Option ℕ) (v : Value) (w now : ℕ) → Coherent kind (replace_entry life v w now e s)
    unfolding replace_entry
    replace_kept life v w now = moved_kept kind s ok e (rewritten v w now e) here refl refl refl refl (replace_entry life v w now e s) refl refl (listed life) (once life)
      where
        once : (l : Option ℕ) (n : ℕ) → tally (λ m. eqb m n) (kept l (without (λ c. eqb c e.cell) s.write ++ (e.cell ∷ []))) ≤ 1
        once None n = omega arith
        once (Some d) n =
            elim (cases_Bool (eqb e.cell n)) [
              | inl t ↦
                  let a : tally (λ m. eqb m n) (without (λ c. eqb c e.cell) s.write ++ (e.cell ∷ [])) ≡ tally (λ m. eqb m n) (without (λ c. eqb c e.cell) s.write) + (1 + 0) =
                  rw t at (tally_append (λ m. eqb m n) (without (λ c. eqb c e.cell) s.write) (e.cell ∷ [])) in
                  let b : tally (λ m. eqb m n) (without (λ c. eqb c e.cell) s.write) ≡ 0 =
                  subst (λ (m : ℕ). tally (λ c. eqb c m) (without (λ c. eqb c e.cell) s.write) ≡ 0) (eqb-true e.cell n t)
                  (first_none (λ c. eqb c e.cell) (without (λ c. eqb c e.cell) s.write) (first_gone (λ c. eqb c e.cell) s.write)) in
                  omega (arith, a, b)
              | inr t ↦
                  let a : tally (λ m. eqb m n) (without (λ c. eqb c e.cell) s.write ++ (e.cell ∷ [])) ≡ tally (λ m. eqb m n) (without (λ c. eqb c e.cell) s.write) + (0 + 0) =
                  rw t at (tally_append (λ m. eqb m n) (without (λ c. eqb c e.cell) s.write) (e.cell ∷ [])) in
                  omega (arith, a, tally_without (λ m. eqb m n) (λ c. eqb c e.cell) s.write, ok.once n)
            ]

        listed : (l : Option ℕ) (n : ℕ) → among (kept l (without (λ c. eqb c e.cell) s.write ++ (e.cell ∷ []))) n ≡ true → (among s.write n ≡ true) ⊎ (n ≡ e.cell)
        listed None n a = absurd (both_ways false refl a)
        listed (Some d) n a =
            elim (among_append (without (λ c. eqb c e.cell) s.write) (e.cell ∷ []) n a) [
              | inl b ↦ inl (among_without (λ c. eqb c e.cell) s.write n b).0
              | inr b ↦ inr (sym (among_one e.cell n b))
            ]

  -- ---- a newcomer

  module _ (kind : Kind Key Value) (law : Lawful kind) (s : State Key Value) (ok : Coherent kind s) (free : ℕ) (k : Key) (v : Value) (now : ℕ)
      (alone : tally (λ (x : Entry Key Value). eqb x.cell free) s.touch ≡ 0) where
    abbrev new : Entry Key Value
    new = newcomer kind free k v now s.next

    admitted_order : (life : Option ℕ)
        → map ticket_of (looked cell_of (s.touch ++ (new ∷ [])) (kept life (s.write ++ (free ∷ [])))) ≡ kept life (map ticket_of (written s) ++ (s.next ∷ []))
    admitted_order None = refl
    admitted_order (Some d) =
        ap (map ticket_of) (looked_append cell_of (s.touch ++ (new ∷ [])) s.write (free ∷ []))
        ∙ map-append ticket_of (looked cell_of (s.touch ++ (new ∷ [])) s.write) (looked cell_of (s.touch ++ (new ∷ [])) (free ∷ []))
        ∙ (λ i. front i ++ back i)
      where
        front : map ticket_of (looked cell_of (s.touch ++ (new ∷ [])) s.write) ≡ map ticket_of (written s)
        front = looked_ids cell_of ticket_of (s.touch ++ (new ∷ [])) s.touch s.write (λ n a.
            let r = ok.listed n a in
            ap (seen ticket_of) (first_there (λ (x : Entry Key Value). eqb x.cell n) r.0 s.touch (new ∷ []) r.1 (eq-eqb r.0.cell n r.2)))

        back : map ticket_of (looked cell_of (s.touch ++ (new ∷ [])) (free ∷ [])) ≡ s.next ∷ []
        back =
            let p : Entry Key Value → Bool = λ x. eqb x.cell free in
            let is : first (λ (x : Entry Key Value). eqb x.cell free) (s.touch ++ (new ∷ [])) ≡ Some new =
            first_past (λ (x : Entry Key Value). eqb x.cell free) s.touch (new ∷ []) (tally_none (λ (x : Entry Key Value). eqb x.cell free) s.touch alone) ∙ rw (eq-eqb free free refl) in
            rw is

    pub admit_erase : (life : Option ℕ) → ledger_of (admit life new s) ≡ add_item life k v (kind.weighs k v) now (ledger_of s)
    unfolding ledger_of admit add_item
    admit_erase life = ledger_same (map-append as_item s.touch (new ∷ [])) (admitted_order life) refl refl refl refl

    module _ (lone : held kind k s ≡ None) (room : s.next < top) where
      one_more : (p : Entry Key Value → Bool) → tally p s.touch ≤ 1 → (p new ≡ true → tally p s.touch ≡ 0) → tally p (s.touch ++ (new ∷ [])) ≤ 1
      one_more p l h =
          elim (cases_Bool (p new)) [
            | inl e ↦ let a : tally p (s.touch ++ (new ∷ [])) ≡ tally p s.touch + (1 + 0) = rw e at (tally_append p s.touch (new ∷ [])) in omega (arith, a, h e)
            | inr e ↦ let a : tally p (s.touch ++ (new ∷ [])) ≡ tally p s.touch + (0 + 0) = rw e at (tally_append p s.touch (new ∷ [])) in omega (arith, a)
          ]

      no_ticket : (n : ℕ) → s.next ≡ n → tally (λ (x : Entry Key Value). eqb x.ticket n) s.touch ≡ 0
      no_ticket n e = go (tally (λ (x : Entry Key Value). eqb x.ticket n) s.touch) refl
        where
          go : (m : ℕ) → tally (λ (x : Entry Key Value). eqb x.ticket n) s.touch ≡ m → tally (λ (x : Entry Key Value). eqb x.ticket n) s.touch ≡ 0
          go zero h = h
          go (suc m) h =
              let r = tally_in (λ (x : Entry Key Value). eqb x.ticket n) s.touch (omega arith) in
              absurd (omega (arith, ok.below r.0 r.1, eqb-true r.0.ticket n r.2, e))

      no_key : (j : Key) → kind.alike k j ≡ true → tally (λ (x : Entry Key Value). kind.alike x.key j) s.touch ≡ 0
      no_key j e =
          let none = first_none (λ (x : Entry Key Value). kind.alike x.key k) s.touch lone in
          let le = tally_mono (λ (x : Entry Key Value). kind.alike x.key j) (λ (x : Entry Key Value). kind.alike x.key k) s.touch
          (λ x i f. law.transitive x.key j k f (law.symmetric k j e)) in
          omega (arith, none, le)

      pub admit_kept : (life : Option ℕ) → Coherent kind (admit life new s)
      unfolding admit
      admit_kept life = record {
        cells = λ n. one_more (λ (x : Entry Key Value). eqb x.cell n) (ok.cells n) (λ e. subst (λ (m : ℕ). tally (λ (x : Entry Key Value). eqb x.cell m) s.touch ≡ 0) (eqb-true free n e) alone);
        tickets = λ n. one_more (λ (x : Entry Key Value). eqb x.ticket n) (ok.tickets n) (λ e. no_ticket n (eqb-true s.next n e));
        keys = λ j. one_more (λ (x : Entry Key Value). kind.alike x.key j) (ok.keys j) (no_key j);
        hashes = λ x i. elim (in_append x s.touch (new ∷ []) i) [
          | inl h ↦ ok.hashes x h
          | inr h ↦ elim h [ inl g ↦ ap (λ (y : Entry Key Value). y.hash) g ∙ ap (λ (y : Entry Key Value). kind.hashed y.key) (sym g) | inr z ↦ absurd z ]
        ];
        below = λ x i. elim (in_append x s.touch (new ∷ []) i) [
          | inl h ↦ omega (arith, ok.below x h)
          | inr h ↦ elim h [ inl g ↦ let t : x.ticket ≡ s.next = ap ticket_of g in omega (arith, t) | inr z ↦ absurd z ]
        ];
        listed = listed life;
        once = once life;
      }
        where
          free_unlisted : tally (λ m. eqb m free) s.write ≡ 0
          free_unlisted =
              elim (cases_lt 0 (tally (λ m. eqb m free) s.write)) [
                | inl h ↦
                    let r = ok.listed free (tally_among free s.write h) in
                    absurd (omega (arith, alone, in_tally (λ (x : Entry Key Value). eqb x.cell free) r.0 s.touch r.1 (eq-eqb r.0.cell free r.2)))
                | inr h ↦ omega arith
              ]

          once : (l : Option ℕ) (n : ℕ) → tally (λ m. eqb m n) (kept l (s.write ++ (free ∷ []))) ≤ 1
          once None n = omega arith
          once (Some d) n =
              elim (cases_Bool (eqb free n)) [
                | inl t ↦
                    let a : tally (λ m. eqb m n) (s.write ++ (free ∷ [])) ≡ tally (λ m. eqb m n) s.write + (1 + 0) = rw t at (tally_append (λ m. eqb m n) s.write (free ∷ [])) in
                    let b : tally (λ m. eqb m n) s.write ≡ 0 = subst (λ (m : ℕ). tally (λ c. eqb c m) s.write ≡ 0) (eqb-true free n t) free_unlisted in
                    omega (arith, a, b)
                | inr t ↦
                    let a : tally (λ m. eqb m n) (s.write ++ (free ∷ [])) ≡ tally (λ m. eqb m n) s.write + (0 + 0) = rw t at (tally_append (λ m. eqb m n) s.write (free ∷ [])) in
                    omega (arith, a, ok.once n)
              ]

          listed : (l : Option ℕ) (n : ℕ) → among (kept l (s.write ++ (free ∷ []))) n ≡ true → (y : Entry Key Value) × In y (s.touch ++ (new ∷ [])) × (y.cell ≡ n)
          listed None n a = absurd (both_ways false refl a)
          listed (Some d) n a =
              elim (among_append s.write (free ∷ []) n a) [
                | inl b ↦ let r = ok.listed n b in (r.0, in_left r.0 s.touch (new ∷ []) r.1, r.2)
                | inr b ↦ (new, in_right new s.touch (new ∷ []) (inl refl), among_one free n b)
              ]

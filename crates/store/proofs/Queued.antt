-- Records of a queue: what is found after one was dropped, pushed, replaced or moved, and how a queue follows the cells.
use Rattle.std.proofs.Common.{◌≡◌, ℕ, ◌+◌, Bool, true, false, cond, eqb, List, [], ◌∷◌, ◌++◌, length, is_some, Some, None, Option, sym, refl, ap, ◌∙◌, inl, inr, arith}
use Rattle.std.proofs.lemmas.Bool.{cases_Bool, cases_eq, eq-eqb, ne_eqb}
use Rattle.std.proofs.lemmas.List.{length-append}
use Rattle.std.specs.Option.{option_map}
use Rattle.links.specs.Places.{has, distinct, without as cut}
use Rattle.links.proofs.Orders.{head_apart, tail_apart, both_ways, eqb_same}
use Rattle.deque.specs.Meaning.{places, dropped, pushed, found, replaced, entry, moved}
use Rattle.deque.proofs.Orderly.{found_absent, entry_found}
use Rattle.table.specs.declared.cell.Entry.{Entry as Stored}
use Rattle.store.specs.Holding.{Follows, with_life}

-- ---- options

pub none_of : {X : Type 0} (o : Option X) → is_some o ≡ false → o ≡ None
none_of None h = refl
none_of (Some x) h = cc

pub some_of : {X : Type 0} (o : Option X) → is_some o ≡ true → (x : X) × (o ≡ Some x)
some_of None h = absurd (both_ways refl h)
some_of (Some x) h = (x, refl)

some_mapped : {X Y : Type 0} (f : X → Y) (o : Option X) → is_some (option_map f o) ≡ is_some o
some_mapped f None = refl
some_mapped f (Some x) = refl

module _ {T : Type 0} where
  -- ---- what is found

  pub has_found : (i : ℕ) (ps : List (ℕ × T)) → has (places ps) i ≡ is_some (found i ps)
  has_found i [] = refl
  has_found i (p ∷ ps) = elim (cases_Bool (eqb i p.0)) [ inl t ↦ rw t | inr t ↦ rw t (has_found i ps) ]

  pub places_dropped : (i : ℕ) (ps : List (ℕ × T)) → places (dropped i ps) ≡ cut i (places ps)
  places_dropped i [] = refl
  places_dropped i (p ∷ ps) = elim (cases_Bool (eqb i p.0)) [ inl t ↦ rw t | inr t ↦ rw t (ap (λ (l : List ℕ). p.0 ∷ l) (places_dropped i ps)) ]

  pub places_append : (ps qs : List (ℕ × T)) → places (ps ++ qs) ≡ places ps ++ places qs
  places_append [] qs = refl
  places_append (p ∷ ps) qs = ap (λ (l : List ℕ). p.0 ∷ l) (places_append ps qs)

  pub places_replaced : (i : ℕ) (x : T) (ps : List (ℕ × T)) → places (replaced i x ps) ≡ places ps
  places_replaced i x [] = refl
  places_replaced i x (p ∷ ps) = ap (λ (l : List ℕ). p.0 ∷ l) (places_replaced i x ps)

  pub places_moved : (i : ℕ) (ps : List (ℕ × T)) → has (places ps) i ≡ true → places (moved i ps) ≡ cut i (places ps) ++ (i ∷ [])
  places_moved i ps h =
      let y = some_of (found i ps) (sym (has_found i ps) ∙ h) in
      let e : entry i ps ≡ (i, y.0) ∷ [] = entry_found i y.0 ps y.1 in
      places_append (dropped i ps) (entry i ps)
      ∙ ap (λ (l : List (ℕ × T)). places (dropped i ps) ++ places l) e
      ∙ ap (λ (l : List ℕ). l ++ (i ∷ [])) (places_dropped i ps)

  pub length_places : (ps : List (ℕ × T)) → length (places ps) ≡ length ps
  length_places [] = refl
  length_places (p ∷ ps) = omega (arith, length_places ps)

  pub length_dropped : (i : ℕ) (ps : List (ℕ × T)) → has (places ps) i ≡ true → length (dropped i ps) + 1 ≡ length ps
  length_dropped i [] h = absurd (both_ways refl h)
  length_dropped i (p ∷ ps) h =
      elim (cases_Bool (eqb i p.0)) [
        | inl t ↦ rw t (omega arith)
        | inr t ↦ let a : has (places ps) i ≡ true = rw t at h in rw t (omega (arith, length_dropped i ps a))
      ]

  pub length_replaced : (i : ℕ) (x : T) (ps : List (ℕ × T)) → length (replaced i x ps) ≡ length ps
  length_replaced i x [] = refl
  length_replaced i x (p ∷ ps) = omega (arith, length_replaced i x ps)

  pub length_moved : (i : ℕ) (ps : List (ℕ × T)) → has (places ps) i ≡ true → length (moved i ps) ≡ length ps
  length_moved i ps h =
      let y = some_of (found i ps) (sym (has_found i ps) ∙ h) in
      let e : entry i ps ≡ (i, y.0) ∷ [] = entry_found i y.0 ps y.1 in
      ap (λ (l : List (ℕ × T)). length (dropped i ps ++ l)) e ∙ length-append (dropped i ps) ((i, y.0) ∷ []) ∙ length_dropped i ps h

  pub found_dropped : (i : ℕ) (ps : List (ℕ × T)) (j : ℕ) → distinct (places ps) ≡ true → found j (dropped i ps) ≡ cond (eqb j i) None (found j ps)
  found_dropped i [] j d = elim (cases_Bool (eqb j i)) [ inl t ↦ rw t | inr t ↦ rw t ]
  found_dropped i (p ∷ ps) j d =
      elim (cases_eq i p.0) [
        | inl e ↦
            let t : eqb i p.0 ≡ true = eq-eqb i p.0 e in
            rw t (elim (cases_eq j i) [
              | inl q ↦
                  let u : eqb j i ≡ true = eq-eqb j i q in
                  let a : has (places ps) p.0 ≡ false = head_apart p.0 (places ps) d in
                  let b : has (places ps) j ≡ false = ap (has (places ps)) (q ∙ e) ∙ a in
                  rw u (found_absent j ps b)
              | inr n ↦
                  let u : eqb j i ≡ false = ne_eqb j i n in
                  let v : eqb j p.0 ≡ false = ne_eqb j p.0 (λ q. n (q ∙ sym e)) in
                  rw (u, v)
            ])
        | inr n ↦
            let t : eqb i p.0 ≡ false = ne_eqb i p.0 n in
            let ih = found_dropped i ps j (tail_apart p.0 (places ps) d) in
            rw t (elim (cases_eq j p.0) [
              | inl q ↦
                  let v : eqb j p.0 ≡ true = eq-eqb j p.0 q in
                  let u : eqb j i ≡ false = ne_eqb j i (λ r. n (sym r ∙ q)) in
                  rw (v, u)
              | inr m ↦ let v : eqb j p.0 ≡ false = ne_eqb j p.0 m in rw v ih
            ])
      ]

  found_append : (i : ℕ) (x : T) (ps : List (ℕ × T)) (j : ℕ) → found j (ps ++ (i, x) ∷ []) ≡ cond (is_some (found j ps)) (found j ps) (cond (eqb j i) (Some x) None)
  found_append i x [] j = refl
  found_append i x (p ∷ ps) j = elim (cases_Bool (eqb j p.0)) [ inl t ↦ rw t | inr t ↦ rw t (found_append i x ps j) ]

  pub found_pushed : (i : ℕ) (x : T) (ps : List (ℕ × T)) (j : ℕ) → found i ps ≡ None → found j (pushed ps i x) ≡ cond (eqb j i) (Some x) (found j ps)
  found_pushed i x ps j h =
      found_append i x ps j
      ∙ elim (cases_eq j i) [
        | inl q ↦ let u : eqb j i ≡ true = eq-eqb j i q in let n : found j ps ≡ None = ap (λ (m : ℕ). found m ps) q ∙ h in rw (n, u)
        | inr n ↦ let u : eqb j i ≡ false = ne_eqb j i n in rw u (by_none (found j ps))
      ]
    where
      by_none : (o : Option T) → cond (is_some o) o None ≡ o
      by_none None = refl
      by_none (Some y) = refl

  pub found_replaced : (i : ℕ) (x : T) (ps : List (ℕ × T)) (j : ℕ) → is_some (found i ps) ≡ true → found j (replaced i x ps) ≡ cond (eqb j i) (Some x) (found j ps)
  found_replaced i x [] j h = absurd (both_ways refl h)
  found_replaced i x (p ∷ ps) j h =
      elim (cases_eq i p.0) [
        | inl e ↦
            let t : eqb i p.0 ≡ true = eq-eqb i p.0 e in
            elim (cases_eq j p.0) [
              | inl q ↦
                  let v : eqb j p.0 ≡ true = eq-eqb j p.0 q in
                  let u : eqb j i ≡ true = eq-eqb j i (q ∙ sym e) in
                  rw (v, u, t)
              | inr m ↦
                  let v : eqb j p.0 ≡ false = ne_eqb j p.0 m in
                  let u : eqb j i ≡ false = ne_eqb j i (λ r. m (r ∙ e)) in
                  rw (v, u) (later j p.0 i x ps e m)
            ]
        | inr n ↦
            let t : eqb i p.0 ≡ false = ne_eqb i p.0 n in
            let a : is_some (found i ps) ≡ true = rw t at h in
            elim (cases_eq j p.0) [
              | inl q ↦
                  let v : eqb j p.0 ≡ true = eq-eqb j p.0 q in
                  let u : eqb j i ≡ false = ne_eqb j i (λ r. n (sym r ∙ q)) in
                  rw (v, u, t)
              | inr m ↦ let v : eqb j p.0 ≡ false = ne_eqb j p.0 m in rw v (found_replaced i x ps j a)
            ]
      ]
    where
      later : (j k i : ℕ) (x : T) (qs : List (ℕ × T)) → i ≡ k → (j ≡ k → ⊥) → found j (replaced i x qs) ≡ found j qs
      later j k i x [] e m = refl
      later j k i x (q ∷ qs) e m =
          elim (cases_eq j q.0) [
            | inl r ↦
                let v : eqb j q.0 ≡ true = eq-eqb j q.0 r in
                let u : eqb i q.0 ≡ false = ne_eqb i q.0 (λ z. m (r ∙ sym z ∙ e)) in
                rw (v, u)
            | inr r ↦ let v : eqb j q.0 ≡ false = ne_eqb j q.0 r in rw v (later j k i x qs e m)
          ]

  pub found_moved : (i : ℕ) (ps : List (ℕ × T)) (j : ℕ) → distinct (places ps) ≡ true → has (places ps) i ≡ true → found j (moved i ps) ≡ found j ps
  found_moved i ps j d h =
      let y = some_of (found i ps) (sym (has_found i ps) ∙ h) in
      let e : entry i ps ≡ (i, y.0) ∷ [] = entry_found i y.0 ps y.1 in
      let n : found i (dropped i ps) ≡ None = found_dropped i ps i d ∙ ap (λ (b : Bool). cond b None (found i ps)) (eqb_same i) in
      ap (λ (l : List (ℕ × T)). found j (dropped i ps ++ l)) e
      ∙ found_pushed i y.0 (dropped i ps) j n
      ∙ elim (cases_eq j i) [
        | inl q ↦ let u : eqb j i ≡ true = eq-eqb j i q in rw u (sym (ap (λ (m : ℕ). found m ps) q ∙ y.1))
        | inr m ↦ let u : eqb j i ≡ false = ne_eqb j i m in let f = found_dropped i ps j d in rw u (f ∙ ap (λ (b : Bool). cond b None (found j ps)) u)
      ]

-- ---- cells with other entries, and queues that follow them

module _ {Key Value : Type 0} where
  -- cell i without its entry
  abbrev pub Freed : (ℕ → Option (Stored Key Value)) → (ℕ → Option (Stored Key Value)) → ℕ → Type 0
  Freed at to i = (j : ℕ) → to j ≡ cond (eqb j i) None (at j)

  -- cell i with another entry
  abbrev pub Put : (ℕ → Option (Stored Key Value)) → (ℕ → Option (Stored Key Value)) → ℕ → Stored Key Value → Type 0
  Put at to i c = (j : ℕ) → to j ≡ cond (eqb j i) (Some c) (at j)

  pub freed_here : (at to : ℕ → Option (Stored Key Value)) (i : ℕ) → Freed at to i → to i ≡ None
  freed_here at to i f = f i ∙ ap (λ (b : Bool). cond b None (at i)) (eqb_same i)

  pub put_here : (at to : ℕ → Option (Stored Key Value)) (i : ℕ) (c : Stored Key Value) → Put at to i c → to i ≡ Some c
  put_here at to i c f = f i ∙ ap (λ (b : Bool). cond b (Some c) (at i)) (eqb_same i)

  -- with a life or without
  pub freed_life : (life : Option ℕ) (at to : ℕ → Option (Stored Key Value)) (i : ℕ) → Freed at to i → Freed (λ j. with_life life (at j)) (λ j. with_life life (to j)) i
  freed_life None at to i f j = elim (cases_Bool (eqb j i)) [ inl t ↦ rw t | inr t ↦ rw t ]
  freed_life (Some d) at to i f j = f j

  module _ {T : Type 0} (f : ℕ → Stored Key Value → T) (at to : ℕ → Option (Stored Key Value)) (ps : List (ℕ × T)) (i : ℕ) where
    pub follows_freed : distinct (places ps) ≡ true → Follows f at ps → Freed at to i → Follows f to (dropped i ps)
    follows_freed d h g j =
        found_dropped i ps j d
        ∙ elim (cases_Bool (eqb j i)) [
          | inl t ↦ let e : to j ≡ None = g j ∙ ap (λ (b : Bool). cond b None (at j)) t in rw (t, e)
          | inr t ↦ let e : to j ≡ at j = g j ∙ ap (λ (b : Bool). cond b None (at j)) t in rw (t, e) (h j)
        ]

    pub follows_pushed : (c : Stored Key Value) → Follows f at ps → at i ≡ None → Put at to i c → Follows f to (pushed ps i (f i c))
    follows_pushed c h n g j =
        found_pushed i (f i c) ps j (h i ∙ ap (option_map (f i)) n)
        ∙ elim (cases_eq j i) [
          | inl q ↦
              let t : eqb j i ≡ true = eq-eqb j i q in
              let e : to j ≡ Some c = g j ∙ ap (λ (b : Bool). cond b (Some c) (at j)) t in
              rw (t, e) (ap (λ (m : ℕ). Some (f m c)) (sym q))
          | inr m ↦
              let t : eqb j i ≡ false = ne_eqb j i m in
              let e : to j ≡ at j = g j ∙ ap (λ (b : Bool). cond b (Some c) (at j)) t in
              rw (t, e) (h j)
        ]

    pub follows_anew : (c : Stored Key Value) → distinct (places ps) ≡ true → Follows f at ps → is_some (at i) ≡ true → Put at to i c → Follows f to (moved i (replaced i (f i c) ps))
    follows_anew c d h s g j =
        let qs = replaced i (f i c) ps in
        let p : places qs ≡ places ps = places_replaced i (f i c) ps in
        let k : is_some (found i ps) ≡ true = ap is_some (h i) ∙ some_mapped (f i) (at i) ∙ s in
        found_moved i qs j (ap distinct p ∙ d) (ap (λ (l : List ℕ). has l i) p ∙ has_found i ps ∙ k)
        ∙ found_replaced i (f i c) ps j k
        ∙ elim (cases_eq j i) [
          | inl q ↦
              let t : eqb j i ≡ true = eq-eqb j i q in
              let e : to j ≡ Some c = g j ∙ ap (λ (b : Bool). cond b (Some c) (at j)) t in
              rw (t, e) (ap (λ (m : ℕ). Some (f m c)) (sym q))
          | inr m ↦
              let t : eqb j i ≡ false = ne_eqb j i m in
              let e : to j ≡ at j = g j ∙ ap (λ (b : Bool). cond b (Some c) (at j)) t in
              rw (t, e) (h j)
        ]

    -- where the record of cell i says the same as before, the queue stays
    pub follows_same : (b c : Stored Key Value) → Follows f at ps → at i ≡ Some b → f i b ≡ f i c → Put at to i c → Follows f to ps
    follows_same b c h a q g j =
        elim (cases_eq j i) [
          | inl r ↦
              let t : eqb j i ≡ true = eq-eqb j i r in
              let e : to j ≡ Some c = g j ∙ ap (λ (b : Bool). cond b (Some c) (at j)) t in
              h j ∙ ap (λ (m : ℕ). option_map (f m) (at m)) r ∙ ap (option_map (f i)) a ∙ ap (λ (y : T). Some y) q ∙ sym (ap (option_map (f j)) e ∙ ap (λ (m : ℕ). Some (f m c)) r)
          | inr m ↦
              let t : eqb j i ≡ false = ne_eqb j i m in
              let e : to j ≡ at j = g j ∙ ap (λ (b : Bool). cond b (Some c) (at j)) t in
              h j ∙ sym (ap (option_map (f j)) e)
        ]

-- Entries of cells, in the order of their places: what becomes of them where a cell is freed or gets another entry.
use Rattle.std.proofs.Common.{◌≡◌, ℕ, suc, ◌≤◌, Bool, true, false, cond, eqb, List, [], ◌∷◌, ◌++◌, length, is_some, Some, None, Option, sym, refl, ap, ◌∙◌, inl, inr, arith}
use Rattle.std.proofs.lemmas.Bool.{cases_Bool, cases_eq, eq-eqb, ne_eqb, eqb-true}
use Rattle.std.specs.Option.{option_map}
use Rattle.links.specs.Places.{has, distinct, without as cut}
use Rattle.links.proofs.Orders.{head_apart, tail_apart, has_not_later, both_ways, eqb_same}
use Rattle.table.specs.declared.cell.Entry.{Entry as Stored}
use Rattle.index.specs.Lawful.{hit, Finds}
use Rattle.rules.specs.Entries.{Entry}
use Rattle.rules.specs.Fronts.{ahead, without, first, among, tally}
use Rattle.store.specs.Holding.{entry_of, held_at}
use Rattle.store.proofs.Queued.{Freed, Put, freed_here, put_here}

-- a number stands at most once among those that differ
pub once : (n : ℕ) (ns : List ℕ) → distinct ns ≡ true → tally (λ m. eqb m n) ns ≤ 1
once n [] d = omega arith
once n (m ∷ ns) d =
    elim (cases_eq m n) [
      | inl e ↦
          let t : eqb m n ≡ true = eq-eqb m n e in
          let z : tally (λ k. eqb k n) ns ≡ 0 = absent n ns (ap (has ns) (sym e) ∙ head_apart m ns d) in
          rw t (omega arith)
      | inr x ↦ let t : eqb m n ≡ false = ne_eqb m n x in rw t (omega (arith, once n ns (tail_apart m ns d)))
    ]
  where
    absent : (n : ℕ) (ns : List ℕ) → has ns n ≡ false → tally (λ k. eqb k n) ns ≡ 0
    absent n [] h = refl
    absent n (m ∷ ns) h =
        elim (cases_eq m n) [
          | inl e ↦ let t : eqb n m ≡ true = eq-eqb n m (sym e) in let k : true ≡ false = rw t at h in absurd (both_ways k refl)
          | inr x ↦ let t : eqb m n ≡ false = ne_eqb m n x in rw t (omega (arith, absent n ns (has_not_later m ns n h)))
        ]

-- no number but i leaves a list cut by i
pub cut_is : (i : ℕ) (ns : List ℕ) → distinct ns ≡ true → cut i ns ≡ without (λ n. eqb n i) ns
cut_is i [] d = refl
cut_is i (n ∷ ns) d =
    elim (cases_eq i n) [
      | inl e ↦
          let t : eqb i n ≡ true = eq-eqb i n e in
          let u : eqb n i ≡ true = eq-eqb n i (sym e) in
          rw (t, u) (sym (stays i ns (ap (has ns) e ∙ head_apart n ns d)))
      | inr x ↦
          let t : eqb i n ≡ false = ne_eqb i n x in
          let u : eqb n i ≡ false = ne_eqb n i (λ q. x (sym q)) in
          rw (t, u) (ap (λ (l : List ℕ). n ∷ l) (cut_is i ns (tail_apart n ns d)))
    ]
  where
    stays : (i : ℕ) (ns : List ℕ) → has ns i ≡ false → without (λ n. eqb n i) ns ≡ ns
    stays i [] h = refl
    stays i (n ∷ ns) h =
        elim (cases_eq n i) [
          | inl e ↦ let t : eqb i n ≡ true = eq-eqb i n (sym e) in let k : true ≡ false = rw t at h in absurd (both_ways k refl)
          | inr x ↦ let t : eqb n i ≡ false = ne_eqb n i x in rw t (ap (λ (l : List ℕ). n ∷ l) (stays i ns (has_not_later n ns i h)))
        ]

-- the same, as leaving has it
pub cut_among : (i : ℕ) (ns : List ℕ) → distinct ns ≡ true → cut i ns ≡ without (among (i ∷ [])) ns
cut_among i ns d = cut_is i ns d ∙ turned ns
  where
    turned : (ns : List ℕ) → without (λ n. eqb n i) ns ≡ without (among (i ∷ [])) ns
    turned [] = refl
    turned (n ∷ ns) =
        elim (cases_eq n i) [
          | inl e ↦ let t : eqb n i ≡ true = eq-eqb n i e in let u : eqb i n ≡ true = eq-eqb i n (sym e) in rw (t, u) (turned ns)
          | inr x ↦
              let t : eqb n i ≡ false = ne_eqb n i x in
              let u : eqb i n ≡ false = ne_eqb i n (λ q. x (sym q)) in
              rw (t, u) (ap (λ (l : List ℕ). n ∷ l) (turned ns))
        ]

module _ {Key Value : Type 0} where
  -- ---- one entry in front, if there is one

  ahead_drops : (i j : ℕ) (o : Option (Stored Key Value)) (es : List (Entry Key Value)) → eqb i j ≡ true
      → without (λ (e : Entry Key Value). among (i ∷ []) e.cell) (ahead (option_map (entry_of j) o) es) ≡ without (λ (e : Entry Key Value). among (i ∷ []) e.cell) es
  ahead_drops i j None es t = refl
  ahead_drops i j (Some c) es t = rw t

  ahead_keeps : (i j : ℕ) (o : Option (Stored Key Value)) (es : List (Entry Key Value)) → eqb i j ≡ false
      → without (λ (e : Entry Key Value). among (i ∷ []) e.cell) (ahead (option_map (entry_of j) o) es) ≡ ahead (option_map (entry_of j) o) (without (λ (e : Entry Key Value). among (i ∷ []) e.cell) es)
  ahead_keeps i j None es t = refl
  ahead_keeps i j (Some c) es t = rw t

  first_past : (p : Entry Key Value → Bool) (j : ℕ) (o : Option (Stored Key Value)) (es : List (Entry Key Value)) → ((c : Stored Key Value) → o ≡ Some c → p (entry_of j c) ≡ false)
      → first p (ahead (option_map (entry_of j) o) es) ≡ first p es
  first_past p j None es h = refl
  first_past p j (Some c) es h = let t = h c refl in rw t

  ahead_append : (o : Option (Entry Key Value)) (xs ys : List (Entry Key Value)) → ahead o xs ++ ys ≡ ahead o (xs ++ ys)
  ahead_append None xs ys = refl
  ahead_append (Some e) xs ys = refl

  -- ---- entries of a list of places

  pub held_append : (at : ℕ → Option (Stored Key Value)) (ns ms : List ℕ) → held_at at (ns ++ ms) ≡ held_at at ns ++ held_at at ms
  held_append at [] ms = refl
  held_append at (n ∷ ns) ms =
      ap (ahead (option_map (entry_of n) (at n))) (held_append at ns ms) ∙ sym (ahead_append (option_map (entry_of n) (at n)) (held_at at ns) (held_at at ms))

  -- a cell is freed
  pub held_freed : (at to : ℕ → Option (Stored Key Value)) (i : ℕ) → Freed at to i → (ns : List ℕ)
      → held_at to ns ≡ without (λ (e : Entry Key Value). among (i ∷ []) e.cell) (held_at at ns)
  held_freed at to i f [] = refl
  held_freed at to i f (n ∷ ns) =
      let ih = held_freed at to i f ns in
      elim (cases_eq i n) [
        | inl e ↦
            let z : to n ≡ None = ap to (sym e) ∙ freed_here at to i f in
            ap (λ (o : Option (Stored Key Value)). ahead (option_map (entry_of n) o) (held_at to ns)) z ∙ ih ∙ sym (ahead_drops i n (at n) (held_at at ns) (eq-eqb i n e))
        | inr x ↦
            let u : eqb n i ≡ false = ne_eqb n i (λ q. x (sym q)) in
            let v : to n ≡ at n = f n ∙ ap (λ (b : Bool). cond b None (at n)) u in
            ap (λ (o : Option (Stored Key Value)). ahead (option_map (entry_of n) o) (held_at to ns)) v
            ∙ ap (ahead (option_map (entry_of n) (at n))) ih
            ∙ sym (ahead_keeps i n (at n) (held_at at ns) (ne_eqb i n x))
      ]

  -- the place of a cell without an entry goes
  pub held_dropped : (to : ℕ → Option (Stored Key Value)) (i : ℕ) → to i ≡ None → (ns : List ℕ) → held_at to (cut i ns) ≡ held_at to ns
  held_dropped to i z [] = refl
  held_dropped to i z (n ∷ ns) =
      elim (cases_Bool (eqb i n)) [
        | inl t ↦
            let y : to n ≡ None = ap to (sym (eqb-true i n t)) ∙ z in
            rw t (sym (ap (λ (o : Option (Stored Key Value)). ahead (option_map (entry_of n) o) (held_at to ns)) y))
        | inr t ↦ rw t (ap (ahead (option_map (entry_of n) (to n))) (held_dropped to i z ns))
      ]

  -- a cell elsewhere gets an entry
  pub held_put : (at to : ℕ → Option (Stored Key Value)) (i : ℕ) (c : Stored Key Value) → Put at to i c → (ns : List ℕ) → has ns i ≡ false → held_at to ns ≡ held_at at ns
  held_put at to i c f [] h = refl
  held_put at to i c f (n ∷ ns) h =
      elim (cases_eq i n) [
        | inl e ↦ let t : eqb i n ≡ true = eq-eqb i n e in let k : true ≡ false = rw t at h in absurd (both_ways k refl)
        | inr x ↦
            let u : eqb n i ≡ false = ne_eqb n i (λ q. x (sym q)) in
            let v : to n ≡ at n = f n ∙ ap (λ (b : Bool). cond b (Some c) (at n)) u in
            ap (λ (o : Option (Stored Key Value)). ahead (option_map (entry_of n) o) (held_at to ns)) v
            ∙ ap (ahead (option_map (entry_of n) (at n))) (held_put at to i c f ns (has_not_later n ns i h))
      ]

  -- a place goes, and so does its entry
  pub held_cut : (at : ℕ → Option (Stored Key Value)) (i : ℕ) (ns : List ℕ) → distinct ns ≡ true
      → held_at at (cut i ns) ≡ without (λ (e : Entry Key Value). eqb e.cell i) (held_at at ns)
  held_cut at i [] d = refl
  held_cut at i (n ∷ ns) d =
      elim (cases_eq i n) [
        | inl e ↦
            let t : eqb i n ≡ true = eq-eqb i n e in
            rw t (sym (gone (at n) (held_at at ns) (eq-eqb n i (sym e)) ∙ none_there ns (ap (has ns) e ∙ head_apart n ns d)))
        | inr x ↦
            let t : eqb i n ≡ false = ne_eqb i n x in
            rw t (ap (ahead (option_map (entry_of n) (at n))) (held_cut at i ns (tail_apart n ns d)) ∙ sym (stays (at n) (held_at at ns) (ne_eqb n i (λ q. x (sym q)))))
      ]
    where
      gone : (o : Option (Stored Key Value)) (es : List (Entry Key Value)) → eqb n i ≡ true
          → without (λ (e : Entry Key Value). eqb e.cell i) (ahead (option_map (entry_of n) o) es) ≡ without (λ (e : Entry Key Value). eqb e.cell i) es
      gone None es t = refl
      gone (Some c) es t = rw t

      stays : (o : Option (Stored Key Value)) (es : List (Entry Key Value)) → eqb n i ≡ false
          → without (λ (e : Entry Key Value). eqb e.cell i) (ahead (option_map (entry_of n) o) es) ≡ ahead (option_map (entry_of n) o) (without (λ (e : Entry Key Value). eqb e.cell i) es)
      stays None es t = refl
      stays (Some c) es t = rw t

      other : (m : ℕ) (o : Option (Stored Key Value)) (es : List (Entry Key Value)) → eqb m i ≡ false
          → without (λ (e : Entry Key Value). eqb e.cell i) (ahead (option_map (entry_of m) o) es) ≡ ahead (option_map (entry_of m) o) (without (λ (e : Entry Key Value). eqb e.cell i) es)
      other m None es t = refl
      other m (Some c) es t = rw t

      none_there : (ms : List ℕ) → has ms i ≡ false → without (λ (e : Entry Key Value). eqb e.cell i) (held_at at ms) ≡ held_at at ms
      none_there [] h = refl
      none_there (m ∷ ms) h =
          elim (cases_eq m i) [
            | inl e ↦ let t : eqb i m ≡ true = eq-eqb i m (sym e) in let k : true ≡ false = rw t at h in absurd (both_ways k refl)
            | inr x ↦ other m (at m) (held_at at ms) (ne_eqb m i x) ∙ ap (ahead (option_map (entry_of m) (at m))) (none_there ms (has_not_later m ms i h))
          ]

  -- the place of a cell with another entry goes to the back
  pub held_back : (at to : ℕ → Option (Stored Key Value)) (i : ℕ) (c : Stored Key Value) → Put at to i c → (ns : List ℕ) → distinct ns ≡ true
      → held_at to (cut i ns ++ (i ∷ [])) ≡ without (λ (e : Entry Key Value). eqb e.cell i) (held_at at ns) ++ (entry_of i c ∷ [])
  held_back at to i c f ns d =
      held_append to (cut i ns) (i ∷ [])
      ∙ ap (λ (l : List (Entry Key Value)). l ++ held_at to (i ∷ [])) (held_put at to i c f (cut i ns) (cut_out ns d) ∙ held_cut at i ns d)
      ∙ ap (λ (o : Option (Stored Key Value)). without (λ (e : Entry Key Value). eqb e.cell i) (held_at at ns) ++ ahead (option_map (entry_of i) o) []) (put_here at to i c f)
    where
      cut_out : (ns : List ℕ) → distinct ns ≡ true → has (cut i ns) i ≡ false
      cut_out [] d = refl
      cut_out (n ∷ ns) d =
          elim (cases_eq i n) [
            | inl e ↦ let t : eqb i n ≡ true = eq-eqb i n e in rw t (ap (has ns) e ∙ head_apart n ns d)
            | inr x ↦ let t : eqb i n ≡ false = ne_eqb i n x in rw t (rw t (cut_out ns (tail_apart n ns d)))
          ]

  -- the place of a cell with a new entry stands last
  pub held_last : (at to : ℕ → Option (Stored Key Value)) (i : ℕ) (c : Stored Key Value) → Put at to i c → (ns : List ℕ) → has ns i ≡ false
      → held_at to (ns ++ (i ∷ [])) ≡ held_at at ns ++ (entry_of i c ∷ [])
  held_last at to i c f ns h =
      held_append to ns (i ∷ [])
      ∙ ap (λ (l : List (Entry Key Value)). l ++ held_at to (i ∷ [])) (held_put at to i c f ns h)
      ∙ ap (λ (o : Option (Stored Key Value)). held_at at ns ++ ahead (option_map (entry_of i) o) []) (put_here at to i c f)

  -- the entry of a cell
  pub held_first : (at : ℕ → Option (Stored Key Value)) (i : ℕ) (c : Stored Key Value) → at i ≡ Some c → (ns : List ℕ) → has ns i ≡ true
      → first (λ (e : Entry Key Value). eqb e.cell i) (held_at at ns) ≡ Some (entry_of i c)
  held_first at i c a [] h = absurd (both_ways refl h)
  held_first at i c a (n ∷ ns) h =
      elim (cases_eq i n) [
        | inl e ↦
            let y : at n ≡ Some c = ap at (sym e) ∙ a in
            let t : eqb n i ≡ true = eq-eqb n i (sym e) in
            ap (λ (o : Option (Stored Key Value)). first (λ (e : Entry Key Value). eqb e.cell i) (ahead (option_map (entry_of n) o) (held_at at ns))) y
            ∙ rw t (ap (λ (m : ℕ). Some (entry_of m c)) (sym e))
        | inr x ↦
            let t : eqb i n ≡ false = ne_eqb i n x in
            let k : has ns i ≡ true = rw t at h in
            first_past (λ (e : Entry Key Value). eqb e.cell i) n (at n) (held_at at ns) (λ b q. ne_eqb n i (λ z. x (sym z))) ∙ held_first at i c a ns k
      ]

  -- a cell without an entry has none
  pub held_none : (at : ℕ → Option (Stored Key Value)) (i : ℕ) → at i ≡ None → (ns : List ℕ) → first (λ (e : Entry Key Value). eqb e.cell i) (held_at at ns) ≡ None
  held_none at i a [] = refl
  held_none at i a (n ∷ ns) =
      elim (cases_eq i n) [
        | inl e ↦
            let y : at n ≡ None = ap at (sym e) ∙ a in
            ap (λ (o : Option (Stored Key Value)). first (λ (e : Entry Key Value). eqb e.cell i) (ahead (option_map (entry_of n) o) (held_at at ns))) y ∙ held_none at i a ns
        | inr x ↦ first_past (λ (e : Entry Key Value). eqb e.cell i) n (at n) (held_at at ns) (λ b q. ne_eqb n i (λ z. x (sym z))) ∙ held_none at i a ns
      ]

  -- ---- by key, where a search for it answered r

  hit_some : (alike : Key → Key → Bool) (k : Key) (o : Option (Stored Key Value)) (c : Stored Key Value) (b : Bool) → hit alike o k ≡ b → o ≡ Some c → alike c.key k ≡ b
  hit_some alike k o c b h q = ap (λ (x : Option (Stored Key Value)). hit alike x k) (sym q) ∙ h

  pub held_missing : (alike : Key → Key → Bool) (at : ℕ → Option (Stored Key Value)) (k : Key) → Finds alike at k None → (ns : List ℕ)
      → first (λ (e : Entry Key Value). alike e.key k) (held_at at ns) ≡ None
  held_missing alike at k h [] = refl
  held_missing alike at k h (n ∷ ns) =
      first_past (λ (e : Entry Key Value). alike e.key k) n (at n) (held_at at ns) (λ c q. hit_some alike k (at n) c false (h.exactly n) q) ∙ held_missing alike at k h ns

  pub held_found : (alike : Key → Key → Bool) (at : ℕ → Option (Stored Key Value)) (k : Key) (i : ℕ) (c : Stored Key Value) → Finds alike at k (Some i) → at i ≡ Some c → (ns : List ℕ) → has ns i ≡ true
      → first (λ (e : Entry Key Value). alike e.key k) (held_at at ns) ≡ Some (entry_of i c)
  held_found alike at k i c h a [] m = absurd (both_ways refl m)
  held_found alike at k i c h a (n ∷ ns) m =
      elim (cases_eq i n) [
        | inl e ↦
            let y : at n ≡ Some c = ap at (sym e) ∙ a in
            let t : alike c.key k ≡ true = hit_some alike k (at n) c true (h.exactly n ∙ eq-eqb n i (sym e)) y in
            ap (λ (o : Option (Stored Key Value)). first (λ (e : Entry Key Value). alike e.key k) (ahead (option_map (entry_of n) o) (held_at at ns))) y
            ∙ rw t (ap (λ (m : ℕ). Some (entry_of m c)) (sym e))
        | inr x ↦
            let t : eqb i n ≡ false = ne_eqb i n x in
            let l : has ns i ≡ true = rw t at m in
            first_past (λ (e : Entry Key Value). alike e.key k) n (at n) (held_at at ns) (λ b q. hit_some alike k (at n) b false (h.exactly n ∙ ne_eqb n i (λ z. x (sym z))) q)
            ∙ held_found alike at k i c h a ns l
      ]

  -- ---- how many, and which

  pub held_length : (at : ℕ → Option (Stored Key Value)) (ns : List ℕ) → ((j : ℕ) → has ns j ≡ true → is_some (at j) ≡ true) → length (held_at at ns) ≡ length ns
  held_length at [] h = refl
  held_length at (n ∷ ns) h =
      one (at n) (held_at at ns) (h n (let t = eqb_same n in rw t)) ∙ ap suc (held_length at ns (λ j m. h j (later j m)))
    where
      one : (o : Option (Stored Key Value)) (es : List (Entry Key Value)) → is_some o ≡ true → length (ahead (option_map (entry_of n) o) es) ≡ suc (length es)
      one None es t = absurd (both_ways refl t)
      one (Some c) es t = refl

      later : (j : ℕ) → has ns j ≡ true → has (n ∷ ns) j ≡ true
      later j m = elim (cases_Bool (eqb j n)) [ inl t ↦ rw t | inr t ↦ rw t m ]

  pub held_once : (at : ℕ → Option (Stored Key Value)) (n : ℕ) (ns : List ℕ) → tally (λ (e : Entry Key Value). eqb e.cell n) (held_at at ns) ≤ tally (λ m. eqb m n) ns
  held_once at n [] = omega arith
  held_once at n (m ∷ ns) = one (at m) (held_at at ns) (held_once at n ns)
    where
      one : (o : Option (Stored Key Value)) (es : List (Entry Key Value)) → tally (λ (e : Entry Key Value). eqb e.cell n) es ≤ tally (λ k. eqb k n) ns
          → tally (λ (e : Entry Key Value). eqb e.cell n) (ahead (option_map (entry_of m) o) es) ≤ tally (λ k. eqb k n) (m ∷ ns)
      one None es l = omega arith
      one (Some c) es l = omega arith

  pub held_front : (at : ℕ → Option (Stored Key Value)) (i : ℕ) (c : Stored Key Value) (ns ms : List ℕ) → ns ≡ i ∷ ms → at i ≡ Some c → held_at at ns ≡ entry_of i c ∷ held_at at ms
  held_front at i c ns ms e a = ap (held_at at) e ∙ ap (λ (o : Option (Stored Key Value)). ahead (option_map (entry_of i) o) (held_at at ms)) a

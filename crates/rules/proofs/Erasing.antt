-- A state without its cells and hashes is a ledger, and each part of a call does the same to both.
use Rattle.std.proofs.Common.{◌≡◌, ℕ, ◌-◌, Bool, true, false, cond, eqb, List, [], ◌∷◌, ◌++◌, map, take, sym, refl, ap, ◌∙◌, inl, inr, arith}
use Rattle.std.proofs.lemmas.Bool.{cases_Bool, eqb-true, eqb-false, eq-eqb, ne_eqb, both_ways}
use Rattle.std.proofs.lemmas.List.{take-map, length-map}
use Rattle.rules.specs.Fronts.{without, passing, freeing, among, In}
use Rattle.sketch.specs.Sketches.{Sketch}
use Rattle.rules.specs.declared.choices.Choices.{Choices}
use Rattle.rules.specs.declared.departure.Cause.{Cause}
use Rattle.rules.specs.declared.departure.Cause.TheVariants.{LivedOut, IdledOut, Trimmed}
use Rattle.rules.specs.Kinds.{Kind}
use Rattle.rules.specs.Entries.{Entry, State}
use Rattle.rules.specs.Limits.{excess}
use Rattle.rules.specs.Passes.{cells_of, leave, told, written, lived_out, idled_out, life_pass, idle_pass, trim_pass, after_life, after_idle, passed, passes_told}
use Rattle.rules.specs.Items.{Item, Ledger, tickets_of, telling, remove, in_write_order, outlived, idle_over, by_life, by_idle, by_trim, past_life, past_idle, clearing}
use Rattle.rules.specs.Agreement.{as_item, ticket_of, ledger_of, Coherent}
use Rattle.rules.proofs.Fronts.{tally_without, same_one, in_without, in_take, in_passing, in_freeing, in_looked, looked_without, map_without, map_passing, map_freeing, map_total, looked_again}

pub map_again : {A B C : Type 0} (g : B → C) (f : A → B) (xs : List A) → map g (map f xs) ≡ map (λ a. g (f a)) xs
map_again g f [] = refl
map_again g f (x ∷ xs) = ap (λ l. g (f x) ∷ l) (map_again g f xs)

pub in_stays : {A : Type 0} (q : A → Bool) (a : A) (xs : List A) → In a xs → q a ≡ false → In a (without q xs)
in_stays q a [] i e = i
in_stays q a (x ∷ xs) (inl h) e = let f : q x ≡ false = ap q (sym h) ∙ e in rw f (inl h)
in_stays q a (x ∷ xs) (inr i) e =
    elim (cases_Bool (q x)) [ inl f ↦ rw f (in_stays q a xs i e) | inr f ↦ rw f (inr (in_stays q a xs i e)) ]

pub among_without : (q : ℕ → Bool) (ns : List ℕ) (n : ℕ) → among (without q ns) n ≡ true → (among ns n ≡ true) × (q n ≡ false)
among_without q [] n e = absurd (both_ways false refl e)
among_without q (m ∷ ns) n e =
    elim (cases_Bool (q m)) [
      | inl f ↦
          let r = among_without q ns n (rw f at e) in
          elim (cases_Bool (eqb m n)) [ inl g ↦ (rw g, r.1) | inr g ↦ (rw g r.0, r.1) ]
      | inr f ↦
          elim (cases_Bool (eqb m n)) [
            | inl g ↦ (rw g, ap q (sym (eqb-true m n g)) ∙ f)
            | inr g ↦
                let h : cond (eqb m n) true (among (without q ns) n) ≡ true = rw f at e in
                let r = among_without q ns n (rw g at h) in
                (rw g r.0, r.1)
          ]
    ]

module _ {Key Value : Type 0} where
  pub ledger_same : {t t' : List (Item Key Value)} {w w' : List ℕ} {n n' r r' c c' : ℕ} {k k' : Sketch}
      → t ≡ t' → w ≡ w' → n ≡ n' → r ≡ r' → c ≡ c' → k ≡ k'
      → ◌≡◌ {A = Ledger Key Value} (record { touch = t; write = w; next = n; recorded = r; count = c; sketch = k }) (record { touch = t'; write = w'; next = n'; recorded = r'; count = c'; sketch = k' })
  ledger_same a b c d e f = λ i. record { touch = a i; write = b i; next = c i; recorded = d i; count = e i; sketch = f i }

  abbrev pub From : List (Entry Key Value) → State Key Value → Type 0
  From es s = (e : Entry Key Value) → In e es → In e s.touch

  module _ (kind : Kind Key Value) (s : State Key Value) (kept : Coherent kind s) where
    -- two entries have one cell exactly when they have one ticket
    pub same_ids : (e x : Entry Key Value) → In e s.touch → In x s.touch → eqb e.cell x.cell ≡ eqb e.ticket x.ticket
    same_ids e x i j =
        elim (cases_Bool (eqb e.cell x.cell)) [
          | inl h ↦
              let same : e ≡ x = same_one (λ (y : Entry Key Value). eqb y.cell x.cell) e x s.touch i j h (eq-eqb x.cell x.cell refl) (kept.cells x.cell) in
              h ∙ sym (eq-eqb e.ticket x.ticket (ap ticket_of same))
          | inr h ↦
              h ∙ sym (ne_eqb e.ticket x.ticket (λ t.
              let same : e ≡ x = same_one (λ (y : Entry Key Value). eqb y.ticket x.ticket) e x s.touch i j (eq-eqb e.ticket x.ticket t) (eq-eqb x.ticket x.ticket refl) (kept.tickets x.ticket) in
              eqb-false e.cell x.cell h (ap (λ (y : Entry Key Value). y.cell) same)))
        ]

    pub among_same : (es : List (Entry Key Value)) → From es s → (x : Entry Key Value) → In x s.touch → among (cells_of es) x.cell ≡ among (map ticket_of es) x.ticket
    among_same [] f x j = refl
    among_same (e ∷ es) f x j = rw (same_ids e x (f e (inl refl)) j, among_same es (λ a i. f a (inr i)) x j)

    pub leave_erase : (es : List (Entry Key Value)) → From es s → ledger_of (leave es s) ≡ remove (map as_item es) (ledger_of s)
    unfolding ledger_of leave remove
    leave_erase es f =
        let t : tickets_of (map as_item es) ≡ map ticket_of es = map_again (λ (i : Item Key Value). i.ticket) as_item es in
        let same : (x : Entry Key Value) → In x s.touch → among (cells_of es) x.cell ≡ among (tickets_of (map as_item es)) x.ticket =
        λ x j. among_same es f x j ∙ ap (λ (ts : List ℕ). among ts x.ticket) (sym t) in
        ledger_same
        (map_without as_item (λ (e : Entry Key Value). among (cells_of es) e.cell) (λ (i : Item Key Value). among (tickets_of (map as_item es)) i.ticket) s.touch same)
        (ap (map ticket_of) (looked_without (λ (e : Entry Key Value). e.cell) (cells_of es) s.touch s.write)
        ∙ map_without ticket_of (λ (e : Entry Key Value). among (cells_of es) e.cell) (among (tickets_of (map as_item es))) (written s) (λ x j. same x (in_looked (λ (e : Entry Key Value). e.cell) x s.touch s.write j)))
        refl
        (ap (λ (n : ℕ). s.recorded - n) (sym (map_total as_item (λ (i : Item Key Value). i.weight) es)))
        (ap (λ (n : ℕ). s.count - n) (sym (length-map es as_item)))
        refl

    pub leave_kept : (es : List (Entry Key Value)) → Coherent kind (leave es s)
    unfolding leave
    leave_kept es =
        let q : Entry Key Value → Bool = λ e. among (cells_of es) e.cell in
        record {
          cells = λ n. omega (arith, kept.cells n, tally_without (λ (e : Entry Key Value). eqb e.cell n) q s.touch);
          tickets = λ n. omega (arith, kept.tickets n, tally_without (λ (e : Entry Key Value). eqb e.ticket n) q s.touch);
          keys = λ k. omega (arith, kept.keys k, tally_without (λ (e : Entry Key Value). kind.alike e.key k) q s.touch);
          hashes = λ e i. kept.hashes e (in_without q e s.touch i);
          below = λ e i. kept.below e (in_without q e s.touch i);
          listed = λ n h.
              let a = among_without (among (cells_of es)) s.write n h in
              let r = kept.listed n a.0 in
              (r.0, in_stays q r.0 s.touch r.1 (ap (among (cells_of es)) r.2 ∙ a.1), r.2);
          once = λ n. omega (arith, kept.once n, tally_without (λ m. eqb m n) (among (cells_of es)) s.write);
        }

    pub order_erase : in_write_order (ledger_of s) ≡ map as_item (written s)
    unfolding ledger_of
    order_erase = looked_again as_item (λ (i : Item Key Value). i.ticket) s.touch (written s) kept.tickets (λ e i. in_looked (λ (x : Entry Key Value). x.cell) e s.touch s.write i)

  -- ---- the passes

  told_erase : (why : Cause) (es : List (Entry Key Value)) → told why es ≡ telling why (map as_item es)
  told_erase why es = sym (map_again (λ (i : Item Key Value). record { ticket = i.ticket; cause = why }) as_item es)

  module _ (kind : Kind Key Value) (choices : Choices) (now : ℕ) where
    pub life_from : (s : State Key Value) → From (life_pass choices now s) s
    unfolding life_pass
    life_from s e i =
        in_looked (λ (x : Entry Key Value). x.cell) e s.touch s.write
        (in_passing (lived_out choices now) e (written s) (in_take 100 e (passing (lived_out choices now) (written s)) i))

    life_erase : (s : State Key Value) → Coherent kind s → map as_item (life_pass choices now s) ≡ by_life choices now (ledger_of s)
    unfolding life_pass by_life
    life_erase s k =
        sym (take-map as_item 100 (passing (lived_out choices now) (written s)))
        ∙ ap (take 100) (map_passing as_item (outlived choices now) (written s) ∙ ap (passing (outlived choices now)) (sym (order_erase kind s k)))

    pub idle_from : (s : State Key Value) → From (idle_pass choices now s) s
    unfolding idle_pass
    idle_from s e i = in_passing (idled_out choices now) e s.touch (in_take 100 e (passing (idled_out choices now) s.touch) i)

    idle_erase : (s : State Key Value) → map as_item (idle_pass choices now s) ≡ by_idle choices now (ledger_of s)
    unfolding idle_pass by_idle ledger_of
    idle_erase s =
        sym (take-map as_item 100 (passing (idled_out choices now) s.touch))
        ∙ ap (take 100) (map_passing as_item (idle_over choices now) s.touch)

    pub trim_from : (s : State Key Value) → From (trim_pass choices now s) s
    unfolding trim_pass
    trim_from s e i =
        let w : Entry Key Value → ℕ = λ x. x.weight in
        in_freeing w (excess choices.capacity s.recorded) e s.touch (in_take 100 e (freeing w (excess choices.capacity s.recorded) s.touch) i)

    trim_erase : (s : State Key Value) → map as_item (trim_pass choices now s) ≡ by_trim choices now (ledger_of s)
    unfolding trim_pass by_trim ledger_of
    trim_erase s =
        let w : Entry Key Value → ℕ = λ x. x.weight in
        sym (take-map as_item 100 (freeing w (excess choices.capacity s.recorded) s.touch))
        ∙ ap (take 100) (map_freeing as_item (λ (i : Item Key Value). i.weight) (excess choices.capacity s.recorded) s.touch)

    module _ (s : State Key Value) (k : Coherent kind s) where
      pub k1 : Coherent kind (after_life choices now s)
      k1 = leave_kept kind s k (life_pass choices now s)

      e1 : ledger_of (after_life choices now s) ≡ past_life choices now (ledger_of s)
      e1 = leave_erase kind s k (life_pass choices now s) (life_from s) ∙ ap (λ (is : List (Item Key Value)). remove is (ledger_of s)) (life_erase s k)

      pub k2 : Coherent kind (after_idle choices now s)
      k2 = leave_kept kind (after_life choices now s) k1 (idle_pass choices now (after_life choices now s))

      taken2 : map as_item (idle_pass choices now (after_life choices now s)) ≡ by_idle choices now (past_life choices now (ledger_of s))
      taken2 = idle_erase (after_life choices now s) ∙ ap (by_idle choices now) e1

      e2 : ledger_of (after_idle choices now s) ≡ past_idle choices now (ledger_of s)
      e2 =
          leave_erase kind (after_life choices now s) k1 (idle_pass choices now (after_life choices now s)) (idle_from (after_life choices now s))
          ∙ ap (λ (is : List (Item Key Value)). remove is (ledger_of (after_life choices now s))) taken2
          ∙ ap (remove (by_idle choices now (past_life choices now (ledger_of s)))) e1

      taken3 : map as_item (trim_pass choices now (after_idle choices now s)) ≡ by_trim choices now (past_idle choices now (ledger_of s))
      taken3 = trim_erase (after_idle choices now s) ∙ ap (by_trim choices now) e2

      pub passed_kept : Coherent kind (passed choices now s)
      unfolding passed
      passed_kept = leave_kept kind (after_idle choices now s) k2 (trim_pass choices now (after_idle choices now s))

      pub told_same : passes_told choices now s ≡ clearing choices now (ledger_of s)
      unfolding passes_told clearing
      told_same =
          let a : told LivedOut (life_pass choices now s) ≡ telling LivedOut (by_life choices now (ledger_of s)) = told_erase LivedOut (life_pass choices now s) ∙ ap (telling LivedOut) (life_erase s k) in
          let b : told IdledOut (idle_pass choices now (after_life choices now s)) ≡ telling IdledOut (by_idle choices now (past_life choices now (ledger_of s))) = told_erase IdledOut (idle_pass choices now (after_life choices now s)) ∙ ap (telling IdledOut) taken2 in
          let c : told Trimmed (trim_pass choices now (after_idle choices now s)) ≡ telling Trimmed (by_trim choices now (past_idle choices now (ledger_of s))) = told_erase Trimmed (trim_pass choices now (after_idle choices now s)) ∙ ap (telling Trimmed) taken3 in
          λ i. a i ++ (b i ++ c i)

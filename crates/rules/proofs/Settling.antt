-- Removing what the passes are told to have taken is what the passes do.
use Rattle.std.proofs.Common.{◌≡◌, ℕ, ◌+◌, ◌-◌, Bool, true, false, cond, eqb, List, [], ◌∷◌, ◌++◌, map, length, sym, refl, ap, ◌∙◌, inl, inr, arith}
use Rattle.std.proofs.lemmas.Bool.{cases_Bool}
use Rattle.std.proofs.lemmas.List.{map-append, length-append, append-nil}
use Rattle.rules.specs.Fronts.{total, without, among, In}
use Rattle.rules.specs.declared.choices.Choices.{Choices}
use Rattle.rules.specs.declared.departure.Cause.{Cause}
use Rattle.rules.specs.declared.departure.Cause.TheVariants.{LivedOut, IdledOut, Trimmed}
use Rattle.rules.specs.declared.departure.Departure.{Departure}
use Rattle.rules.specs.Kinds.{Kind}
use Rattle.rules.specs.Entries.{Entry, State}
use Rattle.rules.specs.Passes.{leave, told, life_pass, idle_pass, trim_pass, after_life, after_idle, passed, passes_told, cells_of}
use Rattle.rules.specs.Items.{Item, Ledger, tickets_of, weight_of, remove}
use Rattle.rules.specs.Ledger.{by_pass, told_by, items_with, settled}
use Rattle.rules.proofs.Fronts.{in_append, in_without, looked_again}
use Rattle.rules.specs.Agreement.{as_item, ticket_of, ledger_of, Coherent}
use Rattle.rules.proofs.Erasing.{ledger_same, From, leave_erase, life_from, idle_from, trim_from, k1, k2}

module _ {A : Type 0} where
  pub without_twice : (p q r : A → Bool) (xs : List A) → ((a : A) → r a ≡ cond (p a) true (q a)) → without r xs ≡ without q (without p xs)
  without_twice p q r [] h = refl
  without_twice p q r (x ∷ xs) h =
      let ih = without_twice p q r xs h in
      elim (cases_Bool (p x)) [
        | inl e ↦ let f : r x ≡ true = h x ∙ rw e in rw (f, e) ih
        | inr e ↦
            let f : r x ≡ q x = h x ∙ rw e in
            rw (f, e) (elim (cases_Bool (q x)) [ inl g ↦ rw g ih | inr g ↦ rw g (ap (λ (l : List A). x ∷ l) ih) ])
      ]

  pub sum_append : (f : A → ℕ) (xs ys : List A) → total f (xs ++ ys) ≡ total f xs + total f ys
  sum_append f [] ys = omega arith
  sum_append f (x ∷ xs) ys = omega (arith, sum_append f xs ys)

among_both : (xs ys : List ℕ) (n : ℕ) → among (xs ++ ys) n ≡ cond (among xs n) true (among ys n)
among_both [] ys n = refl
among_both (x ∷ xs) ys n = elim (cases_Bool (eqb x n)) [ inl e ↦ rw e | inr e ↦ rw e (among_both xs ys n) ]

pub told_by_append : (p : Cause → Bool) (a b : List Departure) → told_by p (a ++ b) ≡ told_by p a ++ told_by p b
told_by_append p [] b = refl
told_by_append p (d ∷ a) b =
    elim (cases_Bool (p d.cause)) [ inl e ↦ rw e (ap (λ (l : List ℕ). d.ticket ∷ l) (told_by_append p a b)) | inr e ↦ rw e (told_by_append p a b) ]

module _ {Key Value : Type 0} where
  pub told_yes : (p : Cause → Bool) (why : Cause) → p why ≡ true → (es : List (Entry Key Value)) → told_by p (told why es) ≡ map ticket_of es
  told_yes p why h [] = refl
  told_yes p why h (e ∷ es) = rw h (ap (λ (l : List ℕ). e.ticket ∷ l) (told_yes p why h es))

  pub told_no : (p : Cause → Bool) (why : Cause) → p why ≡ false → (es : List (Entry Key Value)) → told_by p (told why es) ≡ []
  told_no p why h [] = refl
  told_no p why h (e ∷ es) = rw h (told_no p why h es)

  remove_append : (a b : List (Item Key Value)) (l : Ledger Key Value) → remove (a ++ b) l ≡ remove b (remove a l)
  unfolding remove
  remove_append a b l =
      let t : tickets_of (a ++ b) ≡ tickets_of a ++ tickets_of b = map-append (λ (i : Item Key Value). i.ticket) a b in
      let both : (n : ℕ) → among (tickets_of (a ++ b)) n ≡ cond (among (tickets_of a) n) true (among (tickets_of b) n) =
      λ n. ap (λ (ts : List ℕ). among ts n) t ∙ among_both (tickets_of a) (tickets_of b) n in
      ledger_same
      (without_twice (λ (i : Item Key Value). among (tickets_of a) i.ticket) (λ (i : Item Key Value). among (tickets_of b) i.ticket) (λ (i : Item Key Value). among (tickets_of (a ++ b)) i.ticket) l.touch (λ i. both i.ticket))
      (without_twice (among (tickets_of a)) (among (tickets_of b)) (among (tickets_of (a ++ b))) l.write both)
      refl
      (let e = sum_append (λ (i : Item Key Value). i.weight) a b in let g : l.recorded - weight_of (a ++ b) ≡ l.recorded - weight_of a - weight_of b = omega arith in g)
      (let e = length-append a b in let g : l.count - length (a ++ b) ≡ l.count - length a - length b = omega arith in g)
      refl

  leave_from : (s : State Key Value) (es : List (Entry Key Value)) (e : Entry Key Value) → In e (leave es s).touch → In e s.touch
  unfolding leave
  leave_from s es e i = in_without (λ (x : Entry Key Value). among (cells_of es) x.cell) e s.touch i

  module _ (kind : Kind Key Value) (choices : Choices) (now : ℕ) (s : State Key Value) (k : Coherent kind s) where
    abbrev lived : List (Entry Key Value)
    lived = life_pass choices now s

    abbrev idled : List (Entry Key Value)
    idled = idle_pass choices now (after_life choices now s)

    abbrev trimmed : List (Entry Key Value)
    trimmed = trim_pass choices now (after_idle choices now s)

    all_from : From (lived ++ (idled ++ trimmed)) s
    all_from e i =
        elim (in_append e lived (idled ++ trimmed) i) [
          | inl a ↦ life_from kind choices now s e a
          | inr j ↦ elim (in_append e idled trimmed j) [
            | inl b ↦ leave_from s lived e (idle_from kind choices now (after_life choices now s) e b)
            | inr c ↦ leave_from s lived e (leave_from (after_life choices now s) idled e (trim_from kind choices now (after_idle choices now s) e c))
          ]
        ]

    tickets_told : told_by by_pass (passes_told choices now s) ≡ map ticket_of (lived ++ (idled ++ trimmed))
    unfolding passes_told
    tickets_told =
        told_by_append by_pass (told LivedOut lived) (told IdledOut idled ++ told Trimmed trimmed)
        ∙ (λ i. told_yes by_pass LivedOut refl lived i ++ told_by_append by_pass (told IdledOut idled) (told Trimmed trimmed) i)
        ∙ (λ i. map ticket_of lived ++ (told_yes by_pass IdledOut refl idled i ++ told_yes by_pass Trimmed refl trimmed i))
        ∙ ap (λ (l : List ℕ). map ticket_of lived ++ l) (sym (map-append ticket_of idled trimmed))
        ∙ sym (map-append ticket_of lived (idled ++ trimmed))

    removed : remove (map as_item (lived ++ (idled ++ trimmed))) (ledger_of s) ≡ ledger_of (passed choices now s)
    unfolding passed
    removed =
        ap (λ (is : List (Item Key Value)). remove is (ledger_of s)) (map-append as_item lived (idled ++ trimmed) ∙ ap (λ (is : List (Item Key Value)). map as_item lived ++ is) (map-append as_item idled trimmed))
        ∙ remove_append (map as_item lived) (map as_item idled ++ map as_item trimmed) (ledger_of s)
        ∙ ap (remove (map as_item idled ++ map as_item trimmed)) (sym (leave_erase kind s k lived (life_from kind choices now s)))
        ∙ remove_append (map as_item idled) (map as_item trimmed) (ledger_of (after_life choices now s))
        ∙ ap (remove (map as_item trimmed)) (sym (leave_erase kind (after_life choices now s) (k1 kind choices now s k) idled (idle_from kind choices now (after_life choices now s))))
        ∙ sym (leave_erase kind (after_idle choices now s) (k2 kind choices now s k) trimmed (trim_from kind choices now (after_idle choices now s)))

    pub settled_erase : (ds rest : List Departure) → ds ≡ passes_told choices now s ++ rest → told_by by_pass rest ≡ [] → settled ds (ledger_of s) ≡ ledger_of (passed choices now s)
    unfolding settled ledger_of
    settled_erase ds rest e q =
        let n : told_by by_pass ds ≡ map ticket_of (lived ++ (idled ++ trimmed)) =
        ap (told_by by_pass) e ∙ told_by_append by_pass (passes_told choices now s) rest ∙ (λ i. tickets_told i ++ q i) ∙ append-nil (map ticket_of (lived ++ (idled ++ trimmed))) in
        ap (λ (ts : List ℕ). remove (items_with ts (ledger_of s)) (ledger_of s)) n
        ∙ ap (λ (is : List (Item Key Value)). remove is (ledger_of s)) (looked_again as_item (λ (i : Item Key Value). i.ticket) s.touch (lived ++ (idled ++ trimmed)) k.tickets all_from)
        ∙ removed

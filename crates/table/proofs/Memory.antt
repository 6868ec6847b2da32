-- What a write to one place leaves of the others.
use Rattle.std.proofs.Common.{◌≡◌, ℕ, zero, suc, ◌<◌, true, false, cond, eqb, List, [], ◌∷◌, length, set, Some, None, Option, sym, refl, ap, ◌∙◌, inl, inr, arith}
use Rattle.std.specs.List.{slice_get}
use Rattle.std.proofs.lemmas.Bool.Decides.{nat_tests}
use Rattle.std.proofs.lemmas.Bool.{cases_Bool}
use Rattle.links.specs.Places.{is}
use Rattle.table.specs.Edits.{edited, edited_at}

abbrev pub mapped : {X : Type 0} → (X → X) → Option X → Option X
mapped f None = None
mapped f (Some n) = Some (f n)

module _ {X : Type 0} where
  pub nth_edited : (f : X → X) (ns : List X) (i j : ℕ) → slice_get (edited f ns i) j ≡ cond (eqb j i) (mapped f (slice_get ns j)) (slice_get ns j)
  nth_edited f [] i j = elim (cases_Bool (eqb j i)) [ inl e ↦ rw e | inr e ↦ rw e ]
  nth_edited f (n ∷ ns) zero zero = refl
  nth_edited f (n ∷ ns) zero (suc j) = let t : eqb (suc j) 0 ≡ false = grind (arith, nat_tests) in rw t
  nth_edited f (n ∷ ns) (suc i) zero = let t : eqb 0 (suc i) ≡ false = grind (arith, nat_tests) in rw t
  nth_edited f (n ∷ ns) (suc i) (suc j) = let t : eqb (suc j) (suc i) ≡ eqb j i = grind (arith, nat_tests) in rw t (nth_edited f ns i j)

  pub nth_edited_at : (f : X → X) (ns : List X) (o : Option ℕ) (j : ℕ) → slice_get (edited_at f ns o) j ≡ cond (is o j) (mapped f (slice_get ns j)) (slice_get ns j)
  nth_edited_at f ns None j = refl
  nth_edited_at f ns (Some i) j = nth_edited f ns i j

  pub nth_set : (ns : List X) (i : ℕ) (v : X) (j : ℕ) → i < length ns → slice_get (set ns i v) j ≡ cond (eqb j i) (Some v) (slice_get ns j)
  nth_set [] i v j l = absurd (omega arith)
  nth_set (n ∷ ns) zero v zero l = refl
  nth_set (n ∷ ns) zero v (suc j) l = let t : eqb (suc j) 0 ≡ false = grind (arith, nat_tests) in rw t
  nth_set (n ∷ ns) (suc i) v zero l = let t : eqb 0 (suc i) ≡ false = grind (arith, nat_tests) in rw t
  nth_set (n ∷ ns) (suc i) v (suc j) l = let t : eqb (suc j) (suc i) ≡ eqb j i = grind (arith, nat_tests) in rw t (nth_set ns i v j (omega arith))

  -- a write of f of what was read
  pub set_edited : (f : X → X) (ns : List X) (i : ℕ) (v : X) → slice_get ns i ≡ Some v → set ns i (f v) ≡ edited f ns i
  set_edited f [] i v e = refl
  set_edited f (n ∷ ns) zero v e = let q : n ≡ v = cc in ap (λ (x : X). f x ∷ ns) (sym q)
  set_edited f (n ∷ ns) (suc i) v e = ap (λ (l : List X). n ∷ l) (set_edited f ns i v e)

  -- an edit past the end changes nothing
  pub edited_past : (f : X → X) (ns : List X) (i : ℕ) → slice_get ns i ≡ None → edited f ns i ≡ ns
  edited_past f [] i e = refl
  edited_past f (n ∷ ns) zero e = cc
  edited_past f (n ∷ ns) (suc i) e = ap (λ (l : List X). n ∷ l) (edited_past f ns i e)

  pub length_edited : (f : X → X) (ns : List X) (i : ℕ) → length (edited f ns i) ≡ length ns
  length_edited f [] i = refl
  length_edited f (n ∷ ns) zero = refl
  length_edited f (n ∷ ns) (suc i) = ap suc (length_edited f ns i)

  pub length_edited_at : (f : X → X) (ns : List X) (o : Option ℕ) → length (edited_at f ns o) ≡ length ns
  length_edited_at f ns None = refl
  length_edited_at f ns (Some i) = length_edited f ns i

  pub nth_some : (ns : List X) (i : ℕ) → i < length ns → (x : X) × (slice_get ns i ≡ Some x)
  nth_some [] i l = absurd (omega arith)
  nth_some (n ∷ ns) zero l = (n, refl)
  nth_some (n ∷ ns) (suc i) l = nth_some ns i (omega arith)

  -- a part F that f leaves
  pub part_same : {Y : Type 0} (F : Option X → Y) (f : X → X) → ((n : X) → F (Some (f n)) ≡ F (Some n)) → (ns : List X) (o : Option ℕ) (j : ℕ) → F (slice_get (edited_at f ns o) j) ≡ F (slice_get ns j)
  part_same F f h ns o j = ap F (nth_edited_at f ns o j) ∙ elim (cases_Bool (is o j)) [ inl e ↦ rw e (at (slice_get ns j)) | inr e ↦ rw e ]
    where
      at : (o : Option X) → F (mapped f o) ≡ F o
      at None = refl
      at (Some n) = h n

  -- a part F of what stands at o, which f makes v
  pub part_here : {Y : Type 0} (F : Option X → Y) (f : X → X) (v : Y) → ((n : X) → F (Some (f n)) ≡ v) → (ns : List X) (j : ℕ) → j < length ns → F (mapped f (slice_get ns j)) ≡ v
  part_here F f v h [] j l = absurd (omega arith)
  part_here F f v h (n ∷ ns) zero l = h n
  part_here F f v h (n ∷ ns) (suc j) l = part_here F f v h ns j (omega arith)

  pub part_set : {Y : Type 0} (F : Option X → Y) (f : X → X) (v : Y) → ((n : X) → F (Some (f n)) ≡ v) → (ns : List X) (o : Option ℕ) (j : ℕ) → (is o j ≡ true → j < length ns) → F (slice_get (edited_at f ns o) j) ≡ cond (is o j) v (F (slice_get ns j))
  part_set F f v h ns o j l =
      ap F (nth_edited_at f ns o j) ∙ elim (cases_Bool (is o j)) [ inl e ↦ rw e (part_here F f v h ns j (l e)) | inr e ↦ rw e ]

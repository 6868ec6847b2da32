-- Each pass takes a front of its order, at most 100, and stops where it must; and the shortest run that frees a weight is the least popular one.
use Rattle.std.proofs.Common.{◌≡◌, ℕ, zero, suc, ◌-◌, ◌<◌, ◌≤◌, Bool, true, false, eqb, ◌⊎◌, List, [], ◌∷◌, length, take, drop, sym, refl, ap, ◌∙◌, subst, inl, inr, arith}
use Rattle.std.proofs.lemmas.Bool.{cases_Bool, eqb-true, eqb-false, cases_lt}
use Rattle.sketch.specs.Sketches.{Sketch, frequency}
use Rattle.rules.specs.Fronts.{total, passing, freeing, In}
use Rattle.rules.specs.declared.choices.Choices.{Choices}
use Rattle.rules.specs.Entries.{Entry, State}
use Rattle.rules.specs.Limits.{batch}
use Rattle.rules.specs.Passes.{written, lived_out, idled_out, life_pass, idle_pass, trim_pass}
use Rattle.rules.specs.Laws.{Clears, Trims, PassesClear, LeastRun}
use Rattle.rules.proofs.Fronts.{in_take}
use Rattle.rules.proofs.Voting.{freeing_take, freeing_enough, freeing_least, total_mono, total_take}

module _ {A : Type 0} where
  -- ---- a front that is cut

  -- a front of at most n
  cut_few : (n : ℕ) (xs : List A) → length (take n xs) ≤ n
  cut_few zero xs = omega arith
  cut_few (suc n) [] = omega arith
  cut_few (suc n) (x ∷ xs) = omega (arith, cut_few n xs)

  -- where a cut leaves fewer than it allows, it cuts nothing
  cut_nothing : (n : ℕ) (xs : List A) → length (take n xs) < n → take n xs ≡ xs
  cut_nothing zero xs h = absurd (omega arith)
  cut_nothing (suc n) [] h = refl
  cut_nothing (suc n) (x ∷ xs) h = ap (λ (l : List A). x ∷ l) (cut_nothing n xs (omega arith))

  -- a cut of a front is a front
  cut_front : (n m : ℕ) (xs : List A) → take n (take m xs) ≡ take (length (take n (take m xs))) xs
  cut_front zero m xs = refl
  cut_front (suc n) zero xs = refl
  cut_front (suc n) (suc m) [] = refl
  cut_front (suc n) (suc m) (x ∷ xs) = ap (λ (l : List A). x ∷ l) (cut_front n m xs)

  -- a front of a cut front is a front of the whole
  cut_again : (n m : ℕ) (xs : List A) → n ≤ length (take m xs) → take n xs ≡ take n (take m xs)
  cut_again zero m xs h = refl
  cut_again (suc n) zero xs h = absurd (omega arith)
  cut_again (suc n) (suc m) [] h = refl
  cut_again (suc n) (suc m) (x ∷ xs) h = ap (λ (l : List A). x ∷ l) (cut_again n m xs (omega arith))

  -- ---- those that pass

  passing_take : (p : A → Bool) (xs : List A) → passing p xs ≡ take (length (passing p xs)) xs
  passing_take p [] = refl
  passing_take p (x ∷ xs) = elim (cases_Bool (p x)) [ inl e ↦ rw e (ap (λ (l : List A). x ∷ l) (passing_take p xs)) | inr e ↦ rw e ]

  passing_each : (p : A → Bool) (xs : List A) (a : A) → In a (passing p xs) → p a ≡ true
  passing_each p [] a i = absurd i
  passing_each p (x ∷ xs) a i =
      elim (cases_Bool (p x)) [
        | inl e ↦ let j : (a ≡ x) ⊎ In a (passing p xs) = rw e at i in elim j [ inl h ↦ ap p h ∙ e | inr k ↦ passing_each p xs a k ]
        | inr e ↦ let j : ⊥ = rw e at i in absurd j
      ]

  passing_next : (p : A → Bool) (xs : List A) (a : A) (rest : List A) → drop (length (passing p xs)) xs ≡ a ∷ rest → p a ≡ false
  passing_next p [] a rest h = absurd (let z : ◌≡◌ {A = ℕ} 0 (suc (length rest)) = ap length h in omega arith)
  passing_next p (x ∷ xs) a rest h =
      elim (cases_Bool (p x)) [
        | inl e ↦ passing_next p xs a rest (rw e at h)
        | inr e ↦ let g : ◌≡◌ {A = List A} (x ∷ xs) (a ∷ rest) = rw e at h in let k : x ≡ a = cc in ap p (sym k) ∙ e
      ]

  pub clears : (p : A → Bool) (xs : List A) → Clears p xs (batch (passing p xs))
  clears p xs = record {
    few = cut_few 100 (passing p xs);
    front = subst (λ (l : List A). take 100 l ≡ take (length (take 100 l)) xs) (sym (passing_take p xs)) (cut_front 100 (length (passing p xs)) xs);
    each = λ a i. passing_each p xs a (in_take 100 a (passing p xs) i);
    stops = λ h a rest e. passing_next p xs a rest (subst (λ (l : List A). drop (length l) xs ≡ a ∷ rest) (cut_nothing 100 (passing p xs) h) e);
  }

  -- ---- those that free a weight

  freeing_needed : (w : A → ℕ) (asked : ℕ) (xs : List A) (n : ℕ) → n < length (freeing w asked xs) → total w (take n xs) < asked
  freeing_needed w asked [] n h = absurd (omega arith)
  freeing_needed w asked (x ∷ xs) zero h =
      elim (cases_Bool (eqb asked 0)) [
        | inl e ↦ let g : 0 < 0 = rw e at h in absurd (omega arith)
        | inr e ↦ elim (cases_lt 0 asked) [ inl k ↦ k | inr k ↦ absurd (eqb-false asked 0 e (omega arith)) ]
      ]
  freeing_needed w asked (x ∷ xs) (suc n) h =
      elim (cases_Bool (eqb asked 0)) [
        | inl e ↦ let g : suc n < 0 = rw e at h in absurd (omega arith)
        | inr e ↦ let g : suc n < suc (length (freeing w (asked - w x) xs)) = rw e at h in omega (arith, freeing_needed w (asked - w x) xs n (omega arith))
      ]

  freeing_stops : (w : A → ℕ) (asked : ℕ) (xs : List A) → (asked ≤ total w (freeing w asked xs)) ⊎ (freeing w asked xs ≡ xs)
  freeing_stops w asked [] = inr refl
  freeing_stops w asked (x ∷ xs) =
      elim (cases_Bool (eqb asked 0)) [
        | inl e ↦ inl (omega (arith, eqb-true asked 0 e))
        | inr e ↦ rw e (elim (freeing_stops w (asked - w x) xs) [ inl h ↦ inl (omega arith) | inr h ↦ inr (ap (λ (l : List A). x ∷ l) h) ])
      ]

  pub trims : (w : A → ℕ) (asked : ℕ) (xs : List A) → Trims w asked xs (batch (freeing w asked xs))
  trims w asked xs =
      let run = freeing w asked xs in
      record {
        few = cut_few 100 run;
        front = subst (λ (l : List A). take 100 l ≡ take (length (take 100 l)) xs) (sym (freeing_take w asked xs)) (cut_front 100 (length run) xs);
        needed = λ n h. freeing_needed w asked xs n (omega (arith, shorter 100 run));
        stops = λ h. subst (λ (l : List A). (asked ≤ total w l) ⊎ (l ≡ xs)) (sym (cut_nothing 100 run h)) (freeing_stops w asked xs);
      }
    where
      shorter : (n : ℕ) (ys : List A) → length (take n ys) ≤ length ys
      shorter zero ys = omega arith
      shorter (suc n) [] = omega arith
      shorter (suc n) (y ∷ ys) = omega (arith, shorter n ys)

module _ {Key Value : Type 0} where
  pub passes_clear : (choices : Choices) (now : ℕ) (s : State Key Value) → PassesClear choices now s
  unfolding life_pass idle_pass trim_pass
  passes_clear choices now s = record {
    life = clears (lived_out choices now) (written s);
    idle = clears (idled_out choices now) s.touch;
    trim = λ c h. rw h (trims (λ (e : Entry Key Value). e.weight) (s.recorded - c) s.touch);
    unbounded = λ h. rw h (nothing s.touch);
  }
    where
      nothing : (es : List (Entry Key Value)) → batch (freeing (λ (e : Entry Key Value). e.weight) 0 es) ≡ []
      nothing [] = refl
      nothing (e ∷ es) = refl

  pub least_run : (asked : ℕ) (k : Sketch) (order : List (Entry Key Value)) (n : ℕ) → asked ≤ total (λ (e : Entry Key Value). e.weight) (take n order)
      → LeastRun asked k order (freeing (λ (e : Entry Key Value). e.weight) asked order)
  least_run asked k order n h =
      let heavy : Entry Key Value → ℕ = λ e. e.weight in
      let pop : Entry Key Value → ℕ = λ e. frequency k e.hash in
      let run = freeing heavy asked order in
      record {
        front = freeing_take heavy asked order;
        frees = freeing_enough heavy asked order (omega (arith, h, total_take heavy n order));
        shortest = λ m g. freeing_least heavy asked m order g;
        least_popular = λ m g.
            subst (λ (r : List (Entry Key Value)). total pop r ≤ total pop (take m order)) (sym (freeing_take heavy asked order)) (total_mono pop (length run) m order (freeing_least heavy asked m order g));
      }

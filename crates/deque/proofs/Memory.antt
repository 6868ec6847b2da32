-- What a write to one node leaves of the others, how many are linked, and where the walk along the links leads.
use Rattle.std.proofs.Common.{◌≡◌, ℕ, zero, suc, ◌<◌, ◌≤◌, min, true, false, cond, eqb, List, [], ◌∷◌, ◌++◌, length, get_or, map, take, drop, set, Some, None, Option, sym, refl, ap, ◌∙◌, inl, inr, arith}
use Rattle.std.specs.List.{slice_get}
use Rattle.std.specs.Option.{option_map}
use Rattle.std.proofs.lemmas.List.{length-map, length-take-le, take-map}
use Rattle.std.proofs.lemmas.Bool.Decides.{nat_tests}
use Rattle.std.proofs.lemmas.Bool.{cases_eq, cases_Bool}
use Rattle.deque.specs.declared.node.Node.{Node}
use Rattle.links.specs.Places.{is, first, has, after, distinct}
use Rattle.links.specs.Links.{most}
use Rattle.deque.specs.Views.{View, view_of, views, next_of, linked_of, element_of, linked_count}
use Rattle.deque.specs.Chain.{walk}
use Rattle.deque.specs.Edits.{edited, edited_at, loose}
use Rattle.links.proofs.Orders.{head_apart, tail_apart, both_ways}

module _ {T : Type 0} where
  pub nth_edited : (f : View T → View T) (ns : List (View T)) (i j : ℕ) → slice_get (edited f ns i) j ≡ cond (eqb j i) (option_map f (slice_get ns j)) (slice_get ns j)
  nth_edited f [] i j = elim (cases_Bool (eqb j i)) [ inl e ↦ rw e | inr e ↦ rw e ]
  nth_edited f (n ∷ ns) zero zero = refl
  nth_edited f (n ∷ ns) zero (suc j) = let t : eqb (suc j) 0 ≡ false = grind (arith, nat_tests) in rw t
  nth_edited f (n ∷ ns) (suc i) zero = let t : eqb 0 (suc i) ≡ false = grind (arith, nat_tests) in rw t
  nth_edited f (n ∷ ns) (suc i) (suc j) = let t : eqb (suc j) (suc i) ≡ eqb j i = grind (arith, nat_tests) in rw t (nth_edited f ns i j)

  -- ---- nodes and what they say
  pub length_views : (ns : List (Node T)) → length (views ns) ≡ length ns
  length_views ns = length-map ns view_of

  pub nth_views : (ns : List (Node T)) (i : ℕ) (n : Node T) → slice_get ns i ≡ Some n → slice_get (views ns) i ≡ Some (view_of n)
  nth_views [] i n e = cc
  nth_views (m ∷ ns) zero n e = let q : m ≡ n = cc in ap (λ (k : Node T). Some (view_of k)) q
  nth_views (m ∷ ns) (suc i) n e = nth_views ns i n e

  -- the part that is lent: n of the nodes
  pub part_size : (n : ℕ) (ns : List (Node T)) → n ≡ min (length ns) most → length (views (take n ns)) ≡ n
  part_size n ns m = let l : n ≤ length ns = omega arith in length_views (take n ns) ∙ length-take-le n ns l

  pub part_element : (n k : ℕ) (ns : List (Node T)) (j : ℕ) → k ≡ n → element_of (views (take n ns)) j ≡ element_of (take k (views ns)) j
  part_element n k ns j e = ap (λ (l : List (View T)). element_of l j) (ap (λ (m : ℕ). views (take m ns)) (sym e) ∙ sym (take-map view_of k ns))

  -- a write of a node that says F of what stood there
  pub set_node : (F : View T → View T) (ns : List (Node T)) (i : ℕ) (m d : Node T) → view_of m ≡ F (view_of (get_or ns i d)) → views (set ns i m) ≡ edited F (views ns) i
  set_node F [] i m d h = refl
  set_node F (n ∷ ns) zero m d h = ap (λ (v : View T). v ∷ views ns) h
  set_node F (n ∷ ns) (suc i) m d h = ap (λ (l : List (View T)). view_of n ∷ l) (set_node F ns i m d h)

  pub length_edited : (f : View T → View T) (ns : List (View T)) (i : ℕ) → length (edited f ns i) ≡ length ns
  length_edited f [] i = refl
  length_edited f (n ∷ ns) zero = refl
  length_edited f (n ∷ ns) (suc i) = ap suc (length_edited f ns i)

  pub length_edited_at : (f : View T → View T) (ns : List (View T)) (o : Option ℕ) → length (edited_at f ns o) ≡ length ns
  length_edited_at f ns None = refl
  length_edited_at f ns (Some i) = length_edited f ns i

  pub linked_within : (ns : List (View T)) (j : ℕ) → linked_of ns j ≡ true → j < length ns
  linked_within [] j h = let z : ◌≡◌ {A = ℕ} 0 1 = cc in omega arith
  linked_within (n ∷ ns) zero h = omega arith
  linked_within (n ∷ ns) (suc j) h = let k = linked_within ns j h in omega arith

  -- a part F of a node that f makes v
  pub part_here : {X : Type 0} (F : Option (View T) → X) (f : View T → View T) (v : X) → ((n : View T) → F (Some (f n)) ≡ v) → (ns : List (View T)) (j : ℕ) → j < length ns → F (option_map f (slice_get ns j)) ≡ v
  part_here F f v h [] j l = absurd (omega arith)
  part_here F f v h (n ∷ ns) zero l = h n
  part_here F f v h (n ∷ ns) (suc j) l = part_here F f v h ns j (omega arith)

  pub part_set : {X : Type 0} (F : Option (View T) → X) (f : View T → View T) (v : X) → ((n : View T) → F (Some (f n)) ≡ v) → (ns : List (View T)) (o : Option ℕ) (j : ℕ) → (is o j ≡ true → j < length ns) → F (slice_get (edited_at f ns o) j) ≡ cond (is o j) v (F (slice_get ns j))
  part_set F f v h ns None j l = refl
  part_set F f v h ns (Some i) j l =
      ap F (nth_edited f ns i j) ∙ elim (cases_Bool (eqb j i)) [ inl e ↦ rw e (part_here F f v h ns j (l e)) | inr e ↦ rw e ]

  -- a part F that f leaves
  pub part_same : {X : Type 0} (F : Option (View T) → X) (f : View T → View T) → ((n : View T) → F (Some (f n)) ≡ F (Some n)) → (ns : List (View T)) (o : Option ℕ) (j : ℕ) → F (slice_get (edited_at f ns o) j) ≡ F (slice_get ns j)
  part_same F f h ns None j = refl
  part_same F f h ns (Some i) j = ap F (nth_edited f ns i j) ∙ elim (cases_Bool (eqb j i)) [ inl e ↦ rw e (at (slice_get ns j)) | inr e ↦ rw e ]
    where
      at : (o : Option (View T)) → F (option_map f o) ≡ F o
      at None = refl
      at (Some n) = h n

  -- ---- how many are linked
  pub count_le : (ns : List (View T)) → linked_count ns ≤ length ns
  count_le [] = omega arith
  count_le (n ∷ ns) = let h = count_le ns in elim (cases_Bool n.linked) [ inl e ↦ rw e (omega arith) | inr e ↦ rw e (omega arith) ]

  pub count_same : (f : View T → View T) → ((n : View T) → (f n).linked ≡ n.linked) → (ns : List (View T)) (o : Option ℕ) → linked_count (edited_at f ns o) ≡ linked_count ns
  count_same f h ns None = refl
  count_same f h ns (Some i) = go ns i
    where
      go : (ns : List (View T)) (i : ℕ) → linked_count (edited f ns i) ≡ linked_count ns
      go [] i = refl
      go (n ∷ ns) zero = rw (h n)
      go (n ∷ ns) (suc i) = rw (go ns i)

  pub count_more : (f : View T → View T) → ((n : View T) → (f n).linked ≡ true) → (ns : List (View T)) (i : ℕ) → i < length ns → linked_of ns i ≡ false → linked_count (edited f ns i) ≡ suc (linked_count ns)
  count_more f h [] i l m = absurd (omega arith)
  count_more f h (n ∷ ns) zero l m = rw (h n, m)
  count_more f h (n ∷ ns) (suc i) l m = rw (count_more f h ns i (omega arith) m) (elim (cases_Bool n.linked) [ inl e ↦ rw e | inr e ↦ rw e ])

  pub count_less : (f : View T → View T) → ((n : View T) → (f n).linked ≡ false) → (ns : List (View T)) (i : ℕ) → linked_of ns i ≡ true → suc (linked_count (edited f ns i)) ≡ linked_count ns
  count_less f h [] i m = let z : ◌≡◌ {A = ℕ} 0 1 = cc in absurd (omega arith)
  count_less f h (n ∷ ns) zero m = rw (h n, m)
  count_less f h (n ∷ ns) (suc i) m = let ih = count_less f h ns i m in elim (cases_Bool n.linked) [ inl e ↦ rw e (ap suc ih) | inr e ↦ rw e ih ]

  -- ---- the walk
  pub walk_is : (ns : List (View T)) (xs : List ℕ) → distinct xs ≡ true → ((j : ℕ) → has xs j ≡ true → next_of ns j ≡ after xs j) → walk ns (length xs) (first xs) ≡ xs
  walk_is ns [] d h = refl
  walk_is ns (x ∷ xs) d h =
      let a = head_apart x xs d in
      let here : next_of ns x ≡ first xs = h x (grind (arith, nat_tests)) ∙ grind (arith, nat_tests) in
      let later : (j : ℕ) → has xs j ≡ true → next_of ns j ≡ after xs j =
      λ j k. elim (cases_eq j x) [
        | inl e ↦ absurd (both_ways a (ap (has xs) (sym e) ∙ k))
        | inr n ↦ let t : eqb j x ≡ false = grind (arith, nat_tests) in rw t at (h j (rw t k))
      ] in
      ap (λ (ys : List ℕ). x ∷ ys) (ap (λ (o : Option ℕ). walk ns (length xs) o) here ∙ walk_is ns xs (tail_apart x xs d) later)

  -- ---- a loop that takes node after node out
  pub edited_more : (f : View T → View T) (vs : List (View T)) (k : ℕ) → k < length vs → edited f (map f (take k vs) ++ drop k vs) k ≡ map f (take (suc k) vs) ++ drop (suc k) vs
  edited_more f [] k l = absurd (omega arith)
  edited_more f (v ∷ vs) zero l = refl
  edited_more f (v ∷ vs) (suc k) l = ap (λ (w : List (View T)). f v ∷ w) (edited_more f vs k (omega arith))

  -- a part of a node that is out, where all are
  pub part_loose : {X : Type 0} (F : Option (View T) → X) (v : X) → F None ≡ v → ((n : View T) → F (Some (loose n)) ≡ v) → (ns : List (View T)) (j : ℕ) → F (slice_get (map loose ns) j) ≡ v
  part_loose F v a b [] j = a
  part_loose F v a b (n ∷ ns) zero = b n
  part_loose F v a b (n ∷ ns) (suc j) = part_loose F v a b ns j

  pub element_loose : (ns : List (View T)) (j : ℕ) → element_of (map loose ns) j ≡ element_of ns j
  element_loose [] j = refl
  element_loose (n ∷ ns) zero = refl
  element_loose (n ∷ ns) (suc j) = element_loose ns j

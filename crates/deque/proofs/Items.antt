-- What the state means: the list of items after a push, a removal or a replaced element, and what a node that was read tells of it.
use Rattle.std.proofs.Common.{◌≡◌, ℕ, zero, suc, ◌-◌, ◌<◌, Bool, true, false, cond, eqb, List, [], ◌∷◌, ◌++◌, length, Some, None, Option, sym, refl, ap, ◌∙◌, inl, inr, arith}
use Rattle.std.specs.List.{slice_get, flat_map}
use Rattle.std.proofs.lemmas.List.{flat_map_more, length-map}
use Rattle.std.proofs.lemmas.Bool.Decides.{nat_tests}
use Rattle.std.proofs.lemmas.Bool.{cases_eq, cases_Bool, eqb-true}
use Rattle.links.specs.Places.{first, has, after, before, distinct, without}
use Rattle.deque.specs.Views.{View, next_in, element_in, next_of, prev_of, linked_of, element_of}
use Rattle.deque.specs.Chain.{walk, State, order, item_in, item, meaning, Lies, Sound}
use Rattle.deque.specs.Edits.{edited, edited_at, next_to, prev_to, element_to, loose, fresh, push_state, cut_state, unlink_state, set_state}
use Rattle.deque.specs.Meaning.{places, dropped, rest, found, replaced}
use Rattle.links.proofs.Orders.{both_ways, eqb_same}
use Rattle.deque.proofs.Memory
use Rattle.deque.proofs.Soundness.{order_is, has_within, push_sound, unlink_sound, set_sound}

-- each number of x ∷ xs is lent, so each of xs
abbrev Lent : {T : Type 0} → List (View T) → List ℕ → Type 0
Lent ns xs = (j : ℕ) → has xs j ≡ true → j < length ns

has_head : (x : ℕ) (xs : List ℕ) → has (x ∷ xs) x ≡ true
has_head x xs = let t = eqb_same x in rw t

has_tail : (x : ℕ) (xs : List ℕ) (j : ℕ) → has xs j ≡ true → has (x ∷ xs) j ≡ true
has_tail x xs j e = elim (cases_Bool (eqb j x)) [ inl t ↦ rw t | inr t ↦ rw t e ]

module _ {T : Type 0} where
  lent_tail : (ns : List (View T)) (x : ℕ) (xs : List ℕ) → Lent ns (x ∷ xs) → Lent ns xs
  lent_tail ns x xs h j e = h j (has_tail x xs j e)

  item_some : (ns : List (View T)) (j : ℕ) → j < length ns → (x : T) × (element_of ns j ≡ Some x)
  item_some [] j l = absurd (omega arith)
  item_some (n ∷ ns) zero l = (n.element, refl)
  item_some (n ∷ ns) (suc j) l = item_some ns j (omega arith)

  -- ---- lists of numbers and the items that they stand for
  joined_same : (ns ms : List (View T)) (xs : List ℕ) → ((j : ℕ) → has xs j ≡ true → element_of ns j ≡ element_of ms j) → flat_map (item ns) xs ≡ flat_map (item ms) xs
  joined_same ns ms [] h = refl
  joined_same ns ms (x ∷ xs) h =
      ap (λ (o : Option T). item_in x o ++ flat_map (item ns) xs) (h x (has_head x xs))
      ∙ ap (λ (l : List (ℕ × T)). item ms x ++ l) (joined_same ns ms xs (λ j e. h j (has_tail x xs j e)))

  places_joined : (ns : List (View T)) (xs : List ℕ) → Lent ns xs → places (flat_map (item ns) xs) ≡ xs
  places_joined ns [] h = refl
  places_joined ns (x ∷ xs) h =
      let f = item_some ns x (h x (has_head x xs)) in
      let ih = places_joined ns xs (lent_tail ns x xs h) in
      ap (λ (o : Option T). places (item_in x o ++ flat_map (item ns) xs)) f.1 ∙ ap (λ (l : List ℕ). x ∷ l) ih

  dropped_joined : (ns : List (View T)) (i : ℕ) (xs : List ℕ) → Lent ns xs → flat_map (item ns) (without i xs) ≡ dropped i (flat_map (item ns) xs)
  dropped_joined ns i [] h = refl
  dropped_joined ns i (x ∷ xs) h =
      let f = item_some ns x (h x (has_head x xs)) in
      let ih = dropped_joined ns i xs (lent_tail ns x xs h) in
      let r : dropped i (item ns x ++ flat_map (item ns) xs) ≡ cond (eqb i x) (flat_map (item ns) xs) ((x, f.0) ∷ dropped i (flat_map (item ns) xs)) =
      ap (λ (o : Option T). dropped i (item_in x o ++ flat_map (item ns) xs)) f.1 in
      elim (cases_Bool (eqb i x)) [
        | inl t ↦ rw t (sym (rw t at r))
        | inr t ↦ rw t (ap (λ (o : Option T). item_in x o ++ flat_map (item ns) (without i xs)) f.1 ∙ ap (λ (l : List (ℕ × T)). (x, f.0) ∷ l) ih ∙ sym (rw t at r))
      ]

  found_joined : (ns : List (View T)) (i : ℕ) (xs : List ℕ) → Lent ns xs → found i (flat_map (item ns) xs) ≡ cond (has xs i) (element_of ns i) None
  found_joined ns i [] h = refl
  found_joined ns i (x ∷ xs) h =
      let f = item_some ns x (h x (has_head x xs)) in
      let ih = found_joined ns i xs (lent_tail ns x xs h) in
      ap (λ (o : Option T). found i (item_in x o ++ flat_map (item ns) xs)) f.1
      ∙ elim (cases_eq i x) [
        | inl e ↦ let t : eqb i x ≡ true = grind (arith, nat_tests) in rw t (sym (ap (element_of ns) e ∙ f.1))
        | inr n ↦ let t : eqb i x ≡ false = grind (arith, nat_tests) in rw t ih
      ]

  replaced_joined : (ns ms : List (View T)) (i : ℕ) (x : T) (xs : List ℕ) → Lent ns xs → ((j : ℕ) → element_of ms j ≡ cond (eqb j i) (Some x) (element_of ns j)) → flat_map (item ms) xs ≡ replaced i x (flat_map (item ns) xs)
  replaced_joined ns ms i x [] h v = refl
  replaced_joined ns ms i x (y ∷ ys) h v =
      let f = item_some ns y (h y (has_head y ys)) in
      let ih = replaced_joined ns ms i x ys (lent_tail ns y ys h) v in
      let w : element_of ms y ≡ Some (cond (eqb i y) x f.0) = v y ∙ ap (λ (o : Option T). cond (eqb y i) (Some x) o) f.1 ∙ swap f.0 in
      let r : replaced i x (item ns y ++ flat_map (item ns) ys) ≡ (y, cond (eqb i y) x f.0) ∷ replaced i x (flat_map (item ns) ys) =
      ap (λ (o : Option T). replaced i x (item_in y o ++ flat_map (item ns) ys)) f.1 in
      ap (λ (o : Option T). item_in y o ++ flat_map (item ms) ys) w ∙ ap (λ (l : List (ℕ × T)). (y, cond (eqb i y) x f.0) ∷ l) ih ∙ sym r
    where
      swap : (z : T) → cond (eqb y i) (Some x) (Some z) ≡ Some (cond (eqb i y) x z)
      swap z = elim (cases_eq y i) [
        | inl e ↦ let a : eqb y i ≡ true = grind (arith, nat_tests) in let b : eqb i y ≡ true = grind (arith, nat_tests) in rw (a, b)
        | inr n ↦ let a : eqb y i ≡ false = grind (arith, nat_tests) in let b : eqb i y ≡ false = grind (arith, nat_tests) in rw (a, b)
      ]

  -- ---- the items of a sound state
  pub meaning_is : (s : State T) (xs : List ℕ) → Sound s xs → meaning s ≡ flat_map (item s.ns) xs
  meaning_is s xs h = ap (flat_map (item s.ns)) (order_is s xs h)

  pub places_is : (s : State T) → Sound s (order s) → places (meaning s) ≡ order s
  places_is s h = places_joined s.ns (order s) (has_within s (order s) h)

  pub apart_is : (s : State T) → Sound s (order s) → distinct (places (meaning s)) ≡ true
  apart_is s h = ap distinct (places_is s h) ∙ h.apart

  pub length_is : (s : State T) → Sound s (order s) → s.len ≡ length (meaning s)
  length_is s h = h.counts ∙ ap length (sym (places_is s h)) ∙ length-map (meaning s) (λ p. p.0)

  -- a node's mark says whether it is among the items
  pub member : (s : State T) → Sound s (order s) → (i : ℕ) → has (places (meaning s)) i ≡ linked_of s.ns i
  member s h i = ap (λ (l : List ℕ). has l i) (places_is s h) ∙ sym (h.lies.marks i)

  pub lies_is : (s : State T) → Sound s (order s) → Lies s.ns (places (meaning s))
  lies_is s h =
      let e = sym (places_is s h) in
      record {
        nexts = λ j. h.lies.nexts j ∙ ap (λ (l : List ℕ). after l j) e;
        prevs = λ j. h.lies.prevs j ∙ ap (λ (l : List ℕ). before l j) e;
        marks = λ j. h.lies.marks j ∙ ap (λ (l : List ℕ). has l j) e;
      }

  -- ---- after a push
  pub push_elements : (s : State T) (i : ℕ) (x : T) → i < length s.ns → (j : ℕ) → element_of (push_state s i x).ns j ≡ cond (eqb j i) (Some x) (element_of s.ns j)
  push_elements s i x l j =
      Memory.part_same element_in (next_to (Some i)) (λ n. refl) (edited (fresh s.tail x) s.ns i) s.tail j
      ∙ Memory.part_set element_in (fresh s.tail x) (Some x) (λ n. refl) s.ns (Some i) j (λ q. let r = eqb-true j i q in omega arith)

  pub push_meaning : (s : State T) → Sound s (order s) → (i : ℕ) (x : T) → i < length s.ns → has (order s) i ≡ false → meaning (push_state s i x) ≡ meaning s ++ (i, x) ∷ []
  push_meaning s h i x l e =
      meaning_is (push_state s i x) (order s ++ i ∷ []) (push_sound s (order s) h i x l e)
      ∙ sym (flat_map_more (item (push_state s i x).ns) [] (order s) i)
      ∙ ap (λ (l : List (ℕ × T)). l ++ item (push_state s i x).ns i) (joined_same (push_state s i x).ns s.ns (order s) other)
      ∙ ap (λ (o : Option T). meaning s ++ item_in i o) (push_elements s i x l i ∙ same)
    where
      other : (j : ℕ) → has (order s) j ≡ true → element_of (push_state s i x).ns j ≡ element_of s.ns j
      other j k = push_elements s i x l j ∙ elim (cases_eq j i) [
        | inl q ↦ absurd (both_ways e (ap (has (order s)) (sym q) ∙ k))
        | inr n ↦ let t : eqb j i ≡ false = grind (arith, nat_tests) in rw t
      ]

      same : cond (eqb i i) (Some x) (element_of s.ns i) ≡ Some x
      same = let t = eqb_same i in rw t

  -- ---- after a removal
  pub cut_elements : (s : State T) (i : ℕ) (p q : Option ℕ) (j : ℕ) → element_of (cut_state s i p q).ns j ≡ element_of s.ns j
  cut_elements s i p q j =
      Memory.part_same element_in loose (λ n. refl) (edited_at (prev_to p) (edited_at (next_to q) s.ns p) q) (Some i) j
      ∙ Memory.part_same element_in (prev_to p) (λ n. refl) (edited_at (next_to q) s.ns p) q j
      ∙ Memory.part_same element_in (next_to q) (λ n. refl) s.ns p j

  pub unlink_meaning : (s : State T) → Sound s (order s) → (i : ℕ) → has (order s) i ≡ true → meaning (unlink_state s i) ≡ dropped i (meaning s)
  unlink_meaning s h i e =
      meaning_is (unlink_state s i) (without i (order s)) (unlink_sound s (order s) h i e)
      ∙ joined_same (unlink_state s i).ns s.ns (without i (order s)) (λ j _. cut_elements s i (prev_of s.ns i) (next_of s.ns i) j)
      ∙ dropped_joined s.ns i (order s) (has_within s (order s) h)

  -- ---- after an element was replaced
  pub set_elements : (s : State T) (i : ℕ) (x : T) → i < length s.ns → (j : ℕ) → element_of (set_state s i x).ns j ≡ cond (eqb j i) (Some x) (element_of s.ns j)
  set_elements s i x l j = Memory.part_set element_in (element_to x) (Some x) (λ n. refl) s.ns (Some i) j (λ q. let r = eqb-true j i q in omega arith)

  pub set_meaning : (s : State T) → Sound s (order s) → (i : ℕ) (x : T) → i < length s.ns → meaning (set_state s i x) ≡ replaced i x (meaning s)
  set_meaning s h i x l =
      meaning_is (set_state s i x) (order s) (set_sound s (order s) h i x)
      ∙ replaced_joined s.ns (set_state s i x).ns i x (order s) (has_within s (order s) h) (set_elements s i x l)

  -- ---- what a node that was read tells
  pub next_is : (s : State T) → Sound s (order s) → (i : ℕ) (n : View T) → slice_get s.ns i ≡ Some n → n.next ≡ after (places (meaning s)) i
  next_is s h i n e = sym (ap next_in e) ∙ (lies_is s h).nexts i

  -- the element of an item is the one that lies in its node
  pub found_value : (s : State T) → Sound s (order s) → (i : ℕ) → has (places (meaning s)) i ≡ true → found i (meaning s) ≡ element_of s.ns i
  found_value s h i e =
      found_joined s.ns i (order s) (has_within s (order s) h)
      ∙ ap (λ (b : Bool). cond b (element_of s.ns i) None) (ap (λ (l : List ℕ). has l i) (sym (places_is s h)) ∙ e)

  pub found_in : (s : State T) → Sound s (order s) → (i : ℕ) (n : View T) → has (places (meaning s)) i ≡ true → slice_get s.ns i ≡ Some n → found i (meaning s) ≡ Some n.element
  found_in s h i n e v = found_value s h i e ∙ ap element_in v

  -- ---- the front
  first_joined : (ns : List (View T)) (xs : List ℕ) (i : ℕ) (x : T) → first xs ≡ Some i → element_of ns i ≡ Some x → flat_map (item ns) xs ≡ (i, x) ∷ rest (flat_map (item ns) xs)
  first_joined ns [] i x e v = cc
  first_joined ns (y ∷ ys) i x e v =
      let q : y ≡ i = cc in
      let w : item ns y ≡ (i, x) ∷ [] = ap (item ns) q ∙ ap (item_in i) v in
      ap (λ (l : List (ℕ × T)). l ++ flat_map (item ns) ys) w ∙ ap (λ (l : List (ℕ × T)). (i, x) ∷ rest (l ++ flat_map (item ns) ys)) (sym w)

  pub front_there : (s : State T) → Sound s (order s) → (i : ℕ) (n : View T) → s.head ≡ Some i → slice_get s.ns i ≡ Some n → meaning s ≡ (i, n.element) ∷ rest (meaning s)
  front_there s h i n e v = first_joined s.ns (order s) i n.element (sym h.starts ∙ e) (ap element_in v)

  -- ---- a walk along the links, node by node
  -- from nowhere nothing comes
  nothing_comes : (ns : List (View T)) (f : ℕ) → walk ns f None ≡ []
  nothing_comes ns zero = refl
  nothing_comes ns (suc f) = refl

  -- from a node that is lent its item comes, and then what comes from the node behind it
  pub item_comes : (ns : List (View T)) (f i : ℕ) (n : View T) (o : Option ℕ) → 0 < f → Some i ≡ o → slice_get ns i ≡ Some n → flat_map (item ns) (walk ns f o) ≡ (i, n.element) ∷ flat_map (item ns) (walk ns (f - 1) n.next)
  item_comes ns zero i n o l e v = absurd (omega arith)
  item_comes ns (suc f) i n o l e v =
      let z : f ≡ suc f - 1 = omega arith in
      ap (λ (p : Option ℕ). flat_map (item ns) (walk ns (suc f) p)) (sym e)
      ∙ ap (λ (t : Option (View T)). item_in i (element_in t) ++ flat_map (item ns) (walk ns f (next_in t))) v
      ∙ ap (λ (m : ℕ). (i, n.element) ∷ flat_map (item ns) (walk ns m n.next)) z

  -- from a node that is not lent nothing comes
  pub none_comes : (ns : List (View T)) (f i : ℕ) (o : Option ℕ) → Some i ≡ o → slice_get ns i ≡ None → flat_map (item ns) (walk ns f o) ≡ []
  none_comes ns zero i o e v = refl
  none_comes ns (suc f) i o e v =
      ap (λ (p : Option ℕ). flat_map (item ns) (walk ns (suc f) p)) (sym e)
      ∙ ap (λ (t : Option (View T)). item_in i (element_in t) ++ flat_map (item ns) (walk ns f (next_in t))) v
      ∙ ap (flat_map (item ns)) (nothing_comes ns f)

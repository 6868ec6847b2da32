-- Whether the links lie as an order says: after a push, a removal, a move, a replaced element, and where all are out.
use Rattle.std.proofs.Common.{◌≡◌, ℕ, suc, ◌+◌, ◌<◌, ◌≤◌, Bool, true, false, cond, eqb, List, [], ◌∷◌, ◌++◌, length, Some, None, Option, sym, refl, ap, ◌∙◌, subst, subst₂, inl, inr, arith}
use mathlib.Core.Logic.{∥∥₁_elim}
use native.Mathlib.Bridge.{le_prop}
use base.Stored.{Coded-set, coded_ℕ, coded_bool}
use Rattle.std.proofs.lemmas.List.{length_push}
use Rattle.std.proofs.lemmas.Bool.Decides.{nat_tests}
use Rattle.std.proofs.lemmas.Bool.{cases_eq, cases_Bool, eqb-true}
use Rattle.links.specs.Places.{is, pick, last, has, after, before, without}
use Rattle.links.specs.Links.{most}
use Rattle.deque.specs.Views.{View, next_in, prev_in, linked_in, linked_of, linked_count}
use Rattle.deque.specs.Chain.{walk, State, order, Lies, Sound, Within}
use Rattle.deque.specs.Edits.{edited, edited_at, next_to, prev_to, element_to, loose, fresh, push_state, cut_state, unlink_state, set_state}
use Rattle.links.proofs.Orders
use Rattle.links.proofs.Orders.{option_set, both_ways}
use Rattle.deque.proofs.Memory

abbrev loosened : {T : Type 0} → View T → View T
loosened n = record { next = None; prev = None; linked = true; element = n.element }

abbrev push₁ : {T : Type 0} → State T → ℕ → T → List (View T)
push₁ s i x = edited (fresh s.tail x) s.ns i

abbrev cut₁ : {T : Type 0} → State T → Option ℕ → Option ℕ → List (View T)
cut₁ s p q = edited_at (next_to q) s.ns p

abbrev cut₂ : {T : Type 0} → State T → Option ℕ → Option ℕ → List (View T)
cut₂ s p q = edited_at (prev_to p) (cut₁ s p q) q

push_next : (A B C D : Option ℕ) (t : Bool) (i j : ℕ) → A ≡ cond t (Some i) B → B ≡ cond (eqb j i) None C → C ≡ D → (j ≡ i → D ≡ None) → A ≡ cond t (Some i) D
push_next A B C D t i j a b c d = elim (cases_eq j i) [ inl e ↦ let z = d e in grind (arith, nat_tests) | inr n ↦ grind (arith, nat_tests) ]

module _ {T : Type 0} where
  -- ---- one proof at most
  pub lies_prop : (ns : List (View T)) (xs : List ℕ) → IsProp (Lies ns xs)
  lies_prop ns xs a b = λ i. record {
    nexts = λ j. option_set _ _ (a.nexts j) (b.nexts j) i;
    prevs = λ j. option_set _ _ (a.prevs j) (b.prevs j) i;
    marks = λ j. Coded-set coded_bool _ _ (a.marks j) (b.marks j) i;
  }

  sound_prop : (s : State T) (xs : List ℕ) → IsProp (Sound s xs)
  sound_prop s xs a b = λ i. record {
    lies = lies_prop s.ns xs a.lies b.lies i;
    apart = Coded-set coded_bool _ _ a.apart b.apart i;
    starts = option_set _ _ a.starts b.starts i;
    ends = option_set _ _ a.ends b.ends i;
    counts = Coded-set coded_ℕ _ _ a.counts b.counts i;
    total = Coded-set coded_ℕ _ _ a.total b.total i;
    small = le_prop a.small b.small i;
  }

  -- the fact that every queue carries
  pub out : (s : State T) → ∥ Sound s (order s) ∥₁ → Sound s (order s)
  out s t = ∥∥₁_elim t (sound_prop s (order s)) (λ x. x)

  -- ---- the order is the one that the nodes hold
  pub order_is : (s : State T) (xs : List ℕ) → Sound s xs → order s ≡ xs
  order_is s xs h =
      ap (λ (n : ℕ). walk s.ns n s.head) h.counts ∙ ap (λ (o : Option ℕ). walk s.ns (length xs) o) h.starts ∙ Memory.walk_is s.ns xs h.apart (λ j _. h.lies.nexts j)

  pub kept : (s : State T) (xs : List ℕ) → Sound s xs → ∥ Sound s (order s) ∥₁
  kept s xs h = ∣ subst (Sound s) (sym (order_is s xs h)) h ∣₁

  -- ---- what the order has is lent
  pub held_within : (s : State T) (xs : List ℕ) → Sound s xs → (o : Option ℕ) → ((j : ℕ) → has xs j ≡ false → is o j ≡ false) → Within o s
  held_within s xs h o f j e =
      Memory.linked_within s.ns j (h.lies.marks j ∙ elim (cases_Bool (has xs j)) [ inl t ↦ t | inr t ↦ absurd (both_ways (f j t) e) ])

  pub has_within : (s : State T) (xs : List ℕ) → Sound s xs → (j : ℕ) → has xs j ≡ true → j < length s.ns
  has_within s xs h j e = Memory.linked_within s.ns j (h.lies.marks j ∙ e)

  pub tail_within : (s : State T) (xs : List ℕ) → Sound s xs → Within s.tail s
  tail_within s xs h = held_within s xs h s.tail (λ j e. ap (λ (o : Option ℕ). is o j) h.ends ∙ Orders.last_in None xs j refl e)

  -- while a lent node is out, not all are linked
  pub room : (s : State T) (xs : List ℕ) → Sound s xs → (i : ℕ) → i < length s.ns → has xs i ≡ false → s.len + 1 ≤ length s.ns
  room s xs h i l e =
      let m = Memory.count_more (loosened) (λ n. refl) s.ns i l (h.lies.marks i ∙ e) in
      let c = Memory.count_le (edited loosened s.ns i) in
      let k = Memory.length_edited loosened s.ns i in
      let t = h.total in
      omega arith

  -- ---- the nodes stay as many
  pub push_size : (s : State T) (i : ℕ) (x : T) → length (push_state s i x).ns ≡ length s.ns
  push_size s i x = Memory.length_edited_at (next_to (Some i)) (push₁ s i x) s.tail ∙ Memory.length_edited (fresh s.tail x) s.ns i

  pub cut_size : (s : State T) (i : ℕ) (p q : Option ℕ) → length (cut_state s i p q).ns ≡ length s.ns
  cut_size s i p q =
      Memory.length_edited loose (cut₂ s p q) i ∙ Memory.length_edited_at (prev_to p) (cut₁ s p q) q ∙ Memory.length_edited_at (next_to q) s.ns p

  pub set_size : (s : State T) (i : ℕ) (x : T) → length (set_state s i x).ns ≡ length s.ns
  set_size s i x = Memory.length_edited (element_to x) s.ns i

  -- ---- a push
  pub push_sound : (s : State T) (xs : List ℕ) → Sound s xs → (i : ℕ) (x : T) → i < length s.ns → has xs i ≡ false → Sound (push_state s i x) (xs ++ i ∷ [])
  push_sound s xs h i x l e = record {
    lies = record {
      nexts = λ j.
          push_next _ _ _ _ (is s.tail j) i j
          (Memory.part_set next_in (next_to (Some i)) (Some i) (λ n. refl) (push₁ s i x) s.tail j (within₁ s.tail (tail_within s xs h) j))
          (Memory.part_set next_in (fresh s.tail x) None (λ n. refl) s.ns (Some i) j (here j))
          (h.lies.nexts j)
          (λ q. ap (after xs) q ∙ Orders.after_none xs i e)
          ∙ ap (λ (o : Option ℕ). cond (is o j) (Some i) (after xs j)) h.ends
          ∙ sym (Orders.after_push xs i j h.apart e);
      prevs = λ j.
          Memory.part_same prev_in (next_to (Some i)) (λ n. refl) (push₁ s i x) s.tail j
          ∙ Memory.part_set prev_in (fresh s.tail x) s.tail (λ n. refl) s.ns (Some i) j (here j)
          ∙ ap (λ (o : Option ℕ). cond (eqb j i) s.tail o) (h.lies.prevs j)
          ∙ ap (λ (o : Option ℕ). cond (eqb j i) o (before xs j)) h.ends
          ∙ sym (Orders.before_push None xs i j e);
      marks = λ j.
          Memory.part_same linked_in (next_to (Some i)) (λ n. refl) (push₁ s i x) s.tail j
          ∙ Memory.part_set linked_in (fresh s.tail x) true (λ n. refl) s.ns (Some i) j (here j)
          ∙ ap (λ (b : Bool). cond (eqb j i) true b) (h.lies.marks j)
          ∙ sym (Orders.has_push xs i j);
    };
    apart = Orders.distinct_push xs i h.apart e;
    starts = ap (λ (o : Option ℕ). pick o (Some i) s.head) h.ends ∙ ap (λ (o : Option ℕ). pick (last xs) (Some i) o) h.starts ∙ sym (Orders.first_push xs i);
    ends = sym (Orders.last_push None xs i);
    counts = ap (λ (n : ℕ). n + 1) h.counts ∙ sym (length_push xs i);
    total =
        let a = Memory.count_same (next_to (Some i)) (λ n. refl) (push₁ s i x) s.tail in
        let b = Memory.count_more (fresh s.tail x) (λ n. refl) s.ns i l (h.lies.marks i ∙ e) in
        let t = h.total in
        omega arith;
    small = let k = push_size s i x in let m = h.small in omega arith;
  }
    where
      here : (j : ℕ) → eqb j i ≡ true → j < length s.ns
      here j q = let r = eqb-true j i q in omega arith

      within₁ : (o : Option ℕ) → Within o s → (j : ℕ) → is o j ≡ true → j < length (push₁ s i x)
      within₁ o w j q = let k = Memory.length_edited (fresh s.tail x) s.ns i in let r = w j q in omega arith

  -- ---- a removal
  pub cut_sound : (s : State T) (xs : List ℕ) → Sound s xs → (i : ℕ) → has xs i ≡ true → Sound (cut_state s i (before xs i) (after xs i)) (without i xs)
  cut_sound s xs h i e = record {
    lies = record {
      nexts = λ j.
          Memory.part_set next_in loose None (λ n. refl) (cut₂ s (before xs i) (after xs i)) (Some i) j (here j)
          ∙ ap (λ (o : Option ℕ). cond (eqb j i) None o)
          (Memory.part_same next_in (prev_to (before xs i)) (λ n. refl) (cut₁ s (before xs i) (after xs i)) (after xs i) j
          ∙ Memory.part_set next_in (next_to (after xs i)) (after xs i) (λ n. refl) s.ns (before xs i) j (p_within j)
          ∙ ap (λ (o : Option ℕ). cond (is (before xs i) j) (after xs i) o) (h.lies.nexts j))
          ∙ sym (Orders.after_without i xs j h.apart e);
      prevs = λ j.
          Memory.part_set prev_in loose None (λ n. refl) (cut₂ s (before xs i) (after xs i)) (Some i) j (here j)
          ∙ ap (λ (o : Option ℕ). cond (eqb j i) None o)
          (Memory.part_set prev_in (prev_to (before xs i)) (before xs i) (λ n. refl) (cut₁ s (before xs i) (after xs i)) (after xs i) j (λ t. let k = Memory.length_edited_at (next_to (after xs i)) s.ns (before xs i) in let r = q_within j t in omega arith)
          ∙ ap (λ (o : Option ℕ). cond (is (after xs i) j) (before xs i) o) (Memory.part_same prev_in (next_to (after xs i)) (λ n. refl) s.ns (before xs i) j ∙ h.lies.prevs j))
          ∙ sym (Orders.before_without i None xs j h.apart e);
      marks = λ j.
          Memory.part_set linked_in loose false (λ n. refl) (cut₂ s (before xs i) (after xs i)) (Some i) j (here j)
          ∙ ap (λ (b : Bool). cond (eqb j i) false b) (marks₂ j ∙ h.lies.marks j)
          ∙ sym (Orders.has_without i xs j h.apart);
    };
    apart = Orders.distinct_without i xs h.apart;
    starts = ap (λ (o : Option ℕ). pick (before xs i) (after xs i) o) h.starts ∙ sym (Orders.first_without i xs e);
    ends = ap (λ (o : Option ℕ). pick (after xs i) (before xs i) o) h.ends ∙ sym (Orders.last_without i None xs e);
    counts = let k = Orders.length_without i xs e in let t = h.counts in omega arith;
    total =
        let a = Memory.count_same (next_to (after xs i)) (λ n. refl) s.ns (before xs i) in
        let b = Memory.count_same (prev_to (before xs i)) (λ n. refl) (cut₁ s (before xs i) (after xs i)) (after xs i) in
        let c = Memory.count_less loose (λ n. refl) (cut₂ s (before xs i) (after xs i)) i (marks₂ i ∙ h.lies.marks i ∙ e) in
        let t = h.total in
        omega arith;
    small = let k = cut_size s i (before xs i) (after xs i) in let m = h.small in omega arith;
  }
    where
      p_within : Within (before xs i) s
      p_within = held_within s xs h (before xs i) (λ j t. Orders.before_in None xs i j refl t)

      q_within : Within (after xs i) s
      q_within = held_within s xs h (after xs i) (λ j t. Orders.after_in xs i j t)

      here : (j : ℕ) → eqb j i ≡ true → j < length (cut₂ s (before xs i) (after xs i))
      here j t =
          let r = eqb-true j i t in
          let k = Memory.length_edited_at (next_to (after xs i)) s.ns (before xs i) in
          let m = Memory.length_edited_at (prev_to (before xs i)) (cut₁ s (before xs i) (after xs i)) (after xs i) in
          let w = has_within s xs h i e in
          omega arith

      marks₂ : (j : ℕ) → linked_of (cut₂ s (before xs i) (after xs i)) j ≡ linked_of s.ns j
      marks₂ j = Memory.part_same linked_in (prev_to (before xs i)) (λ n. refl) (cut₁ s (before xs i) (after xs i)) (after xs i) j ∙ Memory.part_same linked_in (next_to (after xs i)) (λ n. refl) s.ns (before xs i) j

  pub unlink_sound : (s : State T) (xs : List ℕ) → Sound s xs → (i : ℕ) → has xs i ≡ true → Sound (unlink_state s i) (without i xs)
  unlink_sound s xs h i e =
      subst₂ (λ (p q : Option ℕ). Sound (cut_state s i p q) (without i xs)) (sym (h.lies.prevs i)) (sym (h.lies.nexts i)) (cut_sound s xs h i e)

  -- ---- an element replaced
  pub set_sound : (s : State T) (xs : List ℕ) → Sound s xs → (i : ℕ) (x : T) → Sound (set_state s i x) xs
  set_sound s xs h i x = record {
    lies = record {
      nexts = λ j. Memory.part_same next_in (element_to x) (λ n. refl) s.ns (Some i) j ∙ h.lies.nexts j;
      prevs = λ j. Memory.part_same prev_in (element_to x) (λ n. refl) s.ns (Some i) j ∙ h.lies.prevs j;
      marks = λ j. Memory.part_same linked_in (element_to x) (λ n. refl) s.ns (Some i) j ∙ h.lies.marks j;
    };
    apart = h.apart;
    starts = h.starts;
    ends = h.ends;
    counts = h.counts;
    total = h.total ∙ sym (Memory.count_same (element_to x) (λ n. refl) s.ns (Some i));
    small = let k = set_size s i x in let m = h.small in omega arith;
  }

  -- ---- all nodes out
  count_none : (ms : List (View T)) → ((j : ℕ) → linked_of ms j ≡ false) → 0 ≡ linked_count ms
  count_none [] h = refl
  count_none (n ∷ ms) h = let e = h 0 in count_none ms (λ j. h (suc j)) ∙ (let z : n.linked ≡ false = e in rw z)

  pub empty_sound : (t : State T) → t.head ≡ None → t.tail ≡ None → t.len ≡ 0 → Lies t.ns [] → length t.ns ≤ most → Sound t []
  empty_sound t a b n h l = record { lies = h; apart = refl; starts = a; ends = b; counts = n; total = n ∙ count_none t.ns h.marks; small = l }

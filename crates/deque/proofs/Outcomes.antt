-- From a sound state to what each call makes of it: the state after it is sound, with these items and these elements.
use Rattle.std.proofs.Common.{◌≡◌, ℕ, ◌+◌, ◌-◌, ◌^◌, ◌<◌, ◌≤◌, Bool, true, false, cond, eqb, eqb-true, ltb, ltb-true, lt-ltb, List, [], ◌∷◌, ◌++◌, length, map, get_or, set, Some, None, Option, sym, refl, ap, ◌∙◌, subst, inl, inr, arith}
use Rattle.std.specs.List.{slice_get}
use Rattle.std.specs.Option.{option_eq}
use Rattle.deque.specs.declared.Deque.{Deque}
use Rattle.deque.specs.declared.node.Node.{Node}
use Rattle.deque.specs.declared.refusal.Refusal.TheVariants.{NotLinked}
use Rattle.std.proofs.lemmas.Option.{slice_get_read, slice_get_past}
use Rattle.std.proofs.lemmas.List.{length-map}
use Rattle.std.proofs.lemmas.Bool.Decides.{nat_tests}
use Rattle.std.proofs.lemmas.Bool.{cases_Bool}
use Rattle.links.specs.Places.{is, pick, last, has, after, without}
use Rattle.links.specs.Links.{goes_to, to_place, most}
use Rattle.links.specs.declared.Link.{Link}
use Rattle.deque.specs.Views.{View, views, view_of, next_in, prev_in, linked_in, linked_of, next_of, prev_of, element_of}
use Rattle.deque.specs.Chain.{State, said, order, meaning, Lies, Sound}
use Rattle.deque.specs.Edits.{edited, edited_at, next_to, prev_to, element_to, loose, fresh, with_nodes, push_state, cut_state, unlink_state, set_state}
use Rattle.deque.specs.Meaning.{state, items, nodes, lent, lender, Linked, Unlinked, value_at, Becomes, places, dropped, pushed, moved, front, found, replaced, free}
use Rattle.deque.specs.Laws.{EachOnce}
use Rattle.links.proofs.Orders
use Rattle.links.proofs.Orders.{eqb_same, first_has}
use Rattle.deque.proofs.Memory
use Rattle.deque.proofs.Soundness
use Rattle.deque.proofs.Soundness.{out, kept, has_within, held_within, tail_within}
use Rattle.deque.proofs.Items
use Rattle.deque.proofs.Orderly.{dropped_out, entry_found}
use Rattle.deque.proofs.Items.{places_is, member}

-- what a call made of the state s: the state t, with these items and these elements
pub record Made {T : Type 0} (s t : State T) (ps : List (ℕ × T)) (vs : ℕ → Option T) : Type 0 where
  pub kept : ∥ Sound t (order t) ∥₁
  pub order : meaning t ≡ ps
  pub size : length t.ns ≡ length s.ns
  pub values : (j : ℕ) → element_of t.ns j ≡ vs j

-- a write F behind the link o, and the end h, which was b and is a where o leads nowhere
pub record Joined {T : Type 0} (F : View T → View T) (ns ms : List (Node T)) (o a b h : Option ℕ) : Type 0 where
  pub nodes : views ms ≡ edited_at F (views ns) o
  pub end : h ≡ pick o a b

module _ {T : Type 0} where
  pub joined_some : (F : View T → View T) (ns ms : List (Node T)) (i : ℕ) (m d : Node T) (o a b h : Option ℕ) → ms ≡ set ns i m → view_of m ≡ F (view_of (get_or ns i d)) → h ≡ b → Some i ≡ o → Joined F ns ms o a b h
  joined_some F ns ms i m d o a b h w v e s = record {
    nodes = ap views w ∙ Memory.set_node F ns i m d v ∙ ap (edited_at F (views ns)) s;
    end = e ∙ ap (λ (p : Option ℕ). pick p a b) s;
  }

  pub joined_none : (F : View T → View T) (ns ms : List (Node T)) (o a b h : Option ℕ) → ms ≡ ns → h ≡ a → None ≡ o → Joined F ns ms o a b h
  joined_none F ns ms o a b h w e s = record { nodes = ap views w ∙ ap (edited_at F (views ns)) s; end = e ∙ ap (λ (p : Option ℕ). pick p a b) s }

  pub became : (d e : Deque T) (ps : List (ℕ × T)) (vs : ℕ → Option T) → Made (state d) (state e) ps vs → lender e ≡ lender d → Becomes d e ps vs
  became d e ps vs m o = record { order = m.order; size = m.size; owner = o; values = m.values }

  -- ---- what is linked
  pub in_order : (s : State T) → ∥ Sound s (order s) ∥₁ → (i : ℕ) (b : Bool) → has (places (meaning s)) i ≡ b → has (order s) i ≡ b
  in_order s k i b e = ap (λ (l : List ℕ). has l i) (sym (places_is s (out s k))) ∙ e

  -- what is certain of an item's node: what its links name is lent too
  pub linked_there : (d : Deque T) (i : ℕ) (n : Node T) → slice_get (nodes d) i ≡ Some (view_of n) → has (places (items d)) i ≡ true → Linked d i n
  linked_there d i n v e = record {
    lies = v;
    among = e;
    here = within (has_within s (order s) h i (in_order s d.kept i true e));
    before = λ j t. within (held_within s (order s) h (goes_to n.prev) (λ j t. ap (λ (o : Option ℕ). is o j) (sym (ap prev_in v) ∙ h.lies.prevs i) ∙ Orders.before_in None (order s) i j refl t) j (Orders.is_some (sym t)));
    behind = λ j t. within (held_within s (order s) h (goes_to n.next) (λ j t. ap (λ (o : Option ℕ). is o j) (sym (ap next_in v) ∙ h.lies.nexts i) ∙ Orders.after_in (order s) i j t) j (Orders.is_some (sym t)));
  }
    where
      s : State T
      s = state d

      h : Sound s (order s)
      h = out s d.kept

      within : {j : ℕ} → j < length (nodes d) → j < length d.nodes.now
      within l = let m = Memory.length_views d.nodes.now in omega arith

  -- ---- a node that was read
  read : (ns : List (Node T)) (i : ℕ) (n : Node T) → i < length ns → n ≡ get_or ns i n → slice_get (views ns) i ≡ Some (view_of n)
  read ns i n l e = Memory.nth_views ns i n (slice_get_read _ _ _ _ refl l e)

  pub linked_is : (d : Deque T) (i : ℕ) (n : Node T) → i < length d.nodes.now → n ≡ get_or d.nodes.now i n → n.linked ≡ true → Linked d i n
  linked_is d i n l e h = linked_there d i n (read d.nodes.now i n l e) (member (state d) (out (state d) d.kept) i ∙ ap linked_in (read d.nodes.now i n l e) ∙ h)

  pub unlinked_is : (d : Deque T) (i : ℕ) (n : Node T) → i < length d.nodes.now → n ≡ get_or d.nodes.now i n → n.linked ≡ false → Unlinked d i NotLinked
  unlinked_is d i n l e h = record { refusal = refl; absent = member (state d) (out (state d) d.kept) i ∙ ap linked_in (read d.nodes.now i n l e) ∙ h }

  pub unlent_is : (d : Deque T) (i : ℕ) → length d.nodes.now ≤ i → Unlinked d i NotLinked
  unlent_is d i l =
      let m = Memory.length_views d.nodes.now in
      record { refusal = refl; absent = member (state d) (out (state d) d.kept) i ∙ ap linked_in (slice_get_past (nodes d) i (omega arith)) }

  -- the first and the last are lent
  pub head_here : (d : Deque T) (j : ℕ) → Some j ≡ goes_to d.head → j < length d.nodes.now
  head_here d j e =
      let l = has_within (state d) (order (state d)) (out (state d) d.kept) j (first_has (order (state d)) j (sym (out (state d) d.kept).starts ∙ sym e)) in
      let m = Memory.length_views d.nodes.now in
      omega arith

  pub last_here : (d : Deque T) (j : ℕ) → Some j ≡ goes_to d.tail → j < length d.nodes.now
  last_here d j e = let l = tail_within (state d) (order (state d)) (out (state d) d.kept) j (Orders.is_some (sym e)) in let m = Memory.length_views d.nodes.now in omega arith

  -- no item stands twice, and each is lent
  pub once : (s : State T) → ∥ Sound s (order s) ∥₁ → EachOnce (length s.ns) (meaning s)
  once s k = record {
    apart = Items.apart_is s (out s k);
    within = λ i e. has_within s (order s) (out s k) i (ap (λ (l : List ℕ). has l i) (sym (places_is s (out s k))) ∙ e);
  }

  -- a node that is free is lent and out
  pub free_is : (s : State T) → ∥ Sound s (order s) ∥₁ → (i : ℕ) → free (length s.ns) (meaning s) i ≡ true → (i < length s.ns) × (has (order s) i ≡ false)
  free_is s k i e = elim (cases_Bool (ltb i (length s.ns))) [
    | inl t ↦ (
      ltb-true i (length s.ns) t,
      elim (cases_Bool (has (places (meaning s)) i)) [
        | inl h ↦ let z : false ≡ true = rw (t, h) at e in cc
        | inr h ↦ in_order s k i false h
      ],
    )
    | inr t ↦ let z : false ≡ true = rw t at e in cc
  ]

  -- a link can name a free node
  pub free_to : (d : Deque T) (i : ℕ) (l : Link) → free (lent d) (items d) i ≡ true → (i < most → l ≡ to_place i) → goes_to l ≡ Some i
  free_to d i l e h =
      let f = free_is (state d) d.kept i e in
      let m = (out (state d) d.kept).small in
      let q : eqb i most ≡ false = grind (arith, nat_tests) in
      ap goes_to (h (omega arith)) ∙ rw q

  -- while a node is free, the count can be raised
  pub count_fits : (d : Deque T) (i : ℕ) → free (lent d) (items d) i ≡ true → d.len + 1 < 2 ^ 64
  count_fits d i e =
      let s = state d in
      let h = out s d.kept in
      let f = free_is s d.kept i e in
      let r = Soundness.room s (order s) h i f.0 f.1 in
      let m = h.small in
      omega arith

  -- ---- a push
  -- the writes of a push, one after another
  pub push_said : (s t : State T) (i : ℕ) (x : T) (u : List (View T)) → u ≡ edited (fresh s.tail x) s.ns i → t.ns ≡ edited_at (next_to (Some i)) u s.tail → t.head ≡ pick s.tail (Some i) s.head → t.tail ≡ Some i → t.len ≡ s.len + 1 → t ≡ push_state s i x
  push_said s t i x u a b h e l =
      let q = b ∙ ap (λ (w : List (View T)). edited_at (next_to (Some i)) w s.tail) a in
      λ k. record { ns = q k; head = h k; tail = e k; len = l k }

  pub push_made : (s t : State T) → ∥ Sound s (order s) ∥₁ → (i : ℕ) (x : T) → free (length s.ns) (meaning s) i ≡ true → t ≡ push_state s i x → Made s t (meaning s ++ (i, x) ∷ []) (λ j. cond (eqb j i) (Some x) (element_of s.ns j))
  push_made s t k i x f q = let h = out s k in let l = (free_is s k i f).0 in let e = (free_is s k i f).1 in record {
    kept = kept t (order s ++ i ∷ []) (subst (λ (u : State T). Sound u (order s ++ i ∷ [])) (sym q) (Soundness.push_sound s (order s) h i x l e));
    order = ap meaning q ∙ Items.push_meaning s h i x l e;
    size = ap (λ (u : State T). length u.ns) q ∙ Soundness.push_size s i x;
    values = λ j. ap (λ (u : State T). element_of u.ns j) q ∙ Items.push_elements s i x l j;
  }

  -- ---- a removal, at the links
  -- the writes of a removal, one after another
  pub cut_said : (s t : State T) (i : ℕ) (n : View T) (u v : List (View T)) → u ≡ edited_at (next_to n.next) s.ns n.prev → v ≡ edited_at (prev_to n.prev) u n.next → t.ns ≡ edited loose v i → t.head ≡ pick n.prev n.next s.head → t.tail ≡ pick n.next n.prev s.tail → t.len ≡ s.len - 1 → t ≡ cut_state s i n.prev n.next
  cut_said s t i n u v a b c h e l =
      let q = c ∙ ap (λ (w : List (View T)). edited loose w i) (b ∙ ap (λ (w : List (View T)). edited_at (prev_to n.prev) w n.next) a) in
      λ k. record { ns = q k; head = h k; tail = e k; len = l k }

  -- a removal, at the links that were read
  cut_is : (s t : State T) (i : ℕ) (n : View T) → slice_get s.ns i ≡ Some n → t ≡ cut_state s i n.prev n.next → t ≡ unlink_state s i
  cut_is s t i n e q = q ∙ ap (λ (o : Option (View T)). cut_state s i (prev_in o) (next_in o)) (sym e)

  pub cut_made : (s t : State T) → ∥ Sound s (order s) ∥₁ → (i : ℕ) (n : View T) → has (places (meaning s)) i ≡ true → slice_get s.ns i ≡ Some n → t ≡ cut_state s i n.prev n.next → Made s t (dropped i (meaning s)) (element_of s.ns)
  cut_made s t k i n m v c = record {
    kept = kept t (without i (order s)) (subst (λ (u : State T). Sound u (without i (order s))) (sym q) (Soundness.unlink_sound s (order s) h i e));
    order = ap meaning q ∙ Items.unlink_meaning s h i e;
    size = ap (λ (u : State T). length u.ns) q ∙ Soundness.cut_size s i (prev_of s.ns i) (next_of s.ns i);
    values = λ j. ap (λ (u : State T). element_of u.ns j) q ∙ Items.cut_elements s i (prev_of s.ns i) (next_of s.ns i) j;
  }
    where
      h : Sound s (order s)
      h = out s k

      e : has (order s) i ≡ true
      e = in_order s k i true m

      q : t ≡ unlink_state s i
      q = cut_is s t i n v c

  -- ---- all nodes out
  pub loose_size : (ms ns : List (View T)) → ms ≡ map loose ns → length ms ≡ length ns
  loose_size ms ns e = ap length e ∙ length-map ns loose

  pub loose_kept : (t : State T) (ns : List (View T)) → t.ns ≡ map loose ns → t.head ≡ None → t.tail ≡ None → t.len ≡ 0 → length ns ≤ most → ∥ Sound t (order t) ∥₁
  loose_kept t ns e a b n l = kept t [] (Soundness.empty_sound t a b n lies (let m = loose_size t.ns ns e in omega arith))
    where
      lies : Lies t.ns []
      lies = record {
        nexts = λ j. ap (λ (l : List (View T)). next_of l j) e ∙ Memory.part_loose next_in None refl (λ n. refl) ns j;
        prevs = λ j. ap (λ (l : List (View T)). prev_of l j) e ∙ Memory.part_loose prev_in None refl (λ n. refl) ns j;
        marks = λ j. ap (λ (l : List (View T)). linked_of l j) e ∙ Memory.part_loose linked_in false refl (λ n. refl) ns j;
      }

  pub loose_value : (ms ns : List (View T)) → ms ≡ map loose ns → (j : ℕ) → element_of ms j ≡ element_of ns j
  loose_value ms ns e j = ap (λ (l : List (View T)). element_of l j) e ∙ Memory.element_loose ns j

  -- ---- the front
  pub head_linked : (d : Deque T) (i : ℕ) → Some i ≡ goes_to d.head → (r : Node T) → r ≡ get_or d.nodes.now i r → Linked d i (get_or d.nodes.now i r)
  head_linked d i e r q =
      subst (Linked d i) q (linked_there d i r (read d.nodes.now i r (head_here d i e) q)
      (ap (λ (l : List ℕ). has l i) (places_is (state d) (out (state d) d.kept)) ∙ first_has (order (state d)) i (sym (out (state d) d.kept).starts ∙ sym e)))

  pub front_read : (d : Deque T) (i : ℕ) → Some i ≡ goes_to d.head → (r : Node T) → r ≡ get_or d.nodes.now i r → Some (i, (get_or d.nodes.now i r).element) ≡ front (items d)
  front_read d i e r q =
      let l = head_linked d i e r q in
      sym (ap front (Items.front_there (state d) (out (state d) d.kept) i (view_of (get_or d.nodes.now i r)) (sym e) l.lies))

  -- ---- what a linked node tells
  pub next_told : (d : Deque T) (i : ℕ) (n : Node T) → Linked d i n → goes_to n.next ≡ after (places (items d)) i
  next_told d i n l = Items.next_is (state d) (out (state d) d.kept) i (view_of n) l.lies

  pub element_told : (d : Deque T) (i : ℕ) (n : Node T) → Linked d i n → found i (items d) ≡ Some n.element
  element_told d i n l = Items.found_in (state d) (out (state d) d.kept) i (view_of n) l.among l.lies

  -- ---- a move is a removal and a push
  pub free_after : (d e : Deque T) (i : ℕ) (n : Node T) → Linked d i n → Becomes d e (dropped i (items d)) (value_at d) → free (lent e) (items e) i ≡ true
  free_after d e i n l b =
      let z = Memory.length_views d.nodes.now in
      let h = l.here in
      let q = b.size in
      let t = lt-ltb i (lent e) (omega arith) in
      let o : has (places (items e)) i ≡ false = ap (λ (ps : List (ℕ × T)). has (places ps) i) b.order ∙ dropped_out i (items d) (Items.apart_is (state d) (out (state d) d.kept)) in
      rw (t, o)

  pub moved_is : (d : Deque T) (i : ℕ) (n : Node T) (ps : List (ℕ × T)) → Linked d i n → ps ≡ dropped i (items d) → pushed ps i n.element ≡ moved i (items d)
  moved_is d i n ps l e =
      ap (λ (qs : List (ℕ × T)). qs ++ (i, n.element) ∷ []) e
      ∙ ap (λ (qs : List (ℕ × T)). dropped i (items d) ++ qs) (sym (entry_found i n.element (items d) (element_told d i n l)))

  tail_last : (d : Deque T) → goes_to d.tail ≡ last (places (items d))
  tail_last d = (out (state d) d.kept).ends ∙ ap last (sym (places_is (state d) (out (state d) d.kept)))

  -- where the tail is node i, it is the last, and where it is not, it is not
  pub last_is : (d : Deque T) (i : ℕ) (o : Option ℕ) → o ≡ goes_to d.tail → option_eq eqb o (Some i) ≡ true → last (places (items d)) ≡ Some i
  last_is d i o e t = sym (tail_last d) ∙ sym e ∙ go o t
    where
      go : (o : Option ℕ) → option_eq eqb o (Some i) ≡ true → o ≡ Some i
      go None t = cc
      go (Some j) t = ap Some (eqb-true j i t)

  pub not_last : (d : Deque T) (i : ℕ) (o : Option ℕ) → o ≡ goes_to d.tail → option_eq eqb o (Some i) ≡ false → last (places (items d)) ≡ Some i → ⊥
  not_last d i o e t l =
      let s = eqb_same i in
      let q : o ≡ Some i = e ∙ tail_last d ∙ l in
      let z : true ≡ false = sym s ∙ ap (λ (p : Option ℕ). option_eq eqb p (Some i)) (sym q) ∙ t in
      cc

  -- ---- an element replaced
  pub set_made : (d : Deque T) (i : ℕ) (x : T) (n m r : Node T) → Linked d i n → view_of m ≡ element_to x (view_of (get_or d.nodes.now i r)) → Made (state d) (said (set d.nodes.now i m) d.head d.tail d.len) (replaced i x (items d)) (λ j. cond (eqb j i) (Some x) (value_at d j))
  set_made d i x n m r l e = record {
    kept = kept t (order s) (subst (λ (u : State T). Sound u (order s)) (sym q) (Soundness.set_sound s (order s) h i x));
    order = ap meaning q ∙ Items.set_meaning s h i x here;
    size = ap (λ (u : State T). length u.ns) q ∙ Soundness.set_size s i x;
    values = λ j. ap (λ (u : State T). element_of u.ns j) q ∙ Items.set_elements s i x here j;
  }
    where
      s : State T
      s = state d

      t : State T
      t = said (set d.nodes.now i m) d.head d.tail d.len

      h : Sound s (order s)
      h = out s d.kept

      here : i < length s.ns
      here = let k = l.here in let z = Memory.length_views d.nodes.now in omega arith

      q : t ≡ set_state s i x
      q = ap (with_nodes s) (Memory.set_node (element_to x) d.nodes.now i m r e)

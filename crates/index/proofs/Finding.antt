-- The walk along the chain of a key's hash finds the held entry with that key, and it alone.
use Rattle.std.proofs.Common.{◌≡◌, ℕ, ◌%◌, ◌<◌, Bool, true, cond, ltb, List, [], ◌∷◌, find, length, Some, None, Option, sym, refl, ap, ◌∙◌, inl, inr, arith}
use Rattle.std.specs.List.{slice_get}
use Rattle.std.proofs.lemmas.Option.{slice_get_past}
use Rattle.std.proofs.lemmas.Bool.{cases_eq, cases_Bool}
use Rattle.table.specs.declared.cell.Cell.{Cell}
use Rattle.table.specs.declared.cell.Entry.{Entry}
use Rattle.links.specs.Places.{is, has, seek}
use Rattle.table.specs.Chain.{State, entry_in, link_of, spot, entry_at, head_in, first_of, key_in, key_of, walk, chain, Sound}
use Rattle.table.specs.Meaning.{chain_from}
use Rattle.links.proofs.Orders
use Rattle.table.proofs.Chains
use Rattle.table.proofs.Soundness as sound
use Rattle.table.proofs.Outcomes as outcomes
use Rattle.index.specs.Lawful.{hit, Lawful}

-- the library's search of a list is the one that the orders speak of
pub seek_is : (f : ℕ → Bool) (xs : List ℕ) → find f xs ≡ seek f xs
seek_is f [] = refl
seek_is f (x ∷ xs) = ap (cond (f x) (Some x)) (seek_is f xs)

module _ {A B : Type 0} where
  none_some : {X : Type 0} (x : Option (Entry A B)) (e : Entry A B) → x ≡ None → x ≡ Some e → X
  none_some x e p q = let z : ◌≡◌ {A = ℕ} 0 1 = cc in absurd (omega arith)

  -- the key that the walk asks for is the entry's
  key_entry : (alike : A → A → Bool) (s : State A B) (k : A) (j : ℕ) (e : Entry A B) → entry_at s j ≡ Some e → key_of alike s.cs k j ≡ alike e.key k
  key_entry alike s k j e h = elim (cases_Bool (ltb j s.used)) [
    | inl t ↦ go (slice_get s.cs j) (rw t at h)
    | inr t ↦ none_some (entry_at s j) e (rw t) h
  ]
    where
      go : (o : Option (Cell A B)) → entry_in o ≡ Some e → key_in alike k o ≡ alike e.key k
      go None h = none_some None e refl h
      go (Some c) h = elim (cases_Bool c.held) [
        | inl t ↦ let q : Some c.entry ≡ Some e = rw t at h in let r : c.entry ≡ e = cc in ap (λ (x : Entry A B). alike x.key k) r
        | inr t ↦ none_some (entry_in (Some c)) e (rw t) h
      ]

  -- what is found is held, with the key
  found_held : (alike : A → A → Bool) (s : State A B) → Sound s → (k : A) (b : ℕ) → b < length s.hs → (j : ℕ) → is (seek (key_of alike s.cs k) (chain s b)) j ≡ true → (e : Entry A B) × ((entry_at s j ≡ Some e) × (alike e.key k ≡ true))
  found_held alike s h k b l j t =
      let f = Orders.seek_hit (key_of alike s.cs k) (chain s b) j t in
      let e = sound.chain_entry s j b ((h.chains b).holds j ∙ f.0) l in
      (e.0, (e.1, sym (key_entry alike s k j e.0 e.1) ∙ f.1))

  found_hit : (alike : A → A → Bool) (s : State A B) → Sound s → (k : A) (b : ℕ) → b < length s.hs → (j : ℕ) → is (seek (key_of alike s.cs k) (chain s b)) j ≡ true → hit alike (entry_at s j) k ≡ true
  found_hit alike s h k b l j t =
      let f = found_held alike s h k b l j t in ap (λ (o : Option (Entry A B)). hit alike o k) f.1.0 ∙ f.1.1

  hit_some : (alike : A → A → Bool) (k : A) (o : Option (Entry A B)) → hit alike o k ≡ true → (e : Entry A B) × ((o ≡ Some e) × (alike e.key k ≡ true))
  hit_some alike k None h = absurd (Orders.both_ways refl h)
  hit_some alike k (Some e) h = (e, (refl, h))

  -- a held key that is the same is found, and it alone
  found_is : (alike : A → A → Bool) (hashed : A → ℕ) (weighs : A → B → ℕ)
      → ((k l : A) → alike k l ≡ true → alike l k ≡ true)
      → ((k l m : A) → alike k l ≡ true → alike l m ≡ true → alike k m ≡ true)
      → ((k l : A) → alike k l ≡ true → hashed k ≡ hashed l)
      → (s : State A B) → Sound s → 0 < length s.hs → Lawful alike hashed weighs (entry_at s) → (k : A) (j : ℕ)
      → hit alike (entry_at s j) k ≡ is (seek (key_of alike s.cs k) (chain s (hashed k % length s.hs))) j
  found_is alike hashed weighs symm trans hashes s h n w k j =
      elim (cases_Bool (hit alike (entry_at s j) k)) [
        | inl t ↦ t ∙ sym (yes_found (hit_some alike k (entry_at s j) t))
        | inr t ↦ t ∙ sym (elim (cases_Bool (is r j)) [ inl y ↦ absurd (Orders.both_ways t (found_hit alike s h k b l j y)) | inr y ↦ y ])
      ]
    where
      b : ℕ
      b = hashed k % length s.hs

      r : Option ℕ
      r = seek (key_of alike s.cs k) (chain s b)

      l : b < length s.hs
      l = sound.mod_below (hashed k) (length s.hs) n

      yes_found : (e : Entry A B) × ((entry_at s j ≡ Some e) × (alike e.key k ≡ true)) → is r j ≡ true
      yes_found f =
          let e = f.0 in
          let q : e.hash ≡ hashed k = w.hashes j e f.1.0 ∙ hashes e.key k f.1.1 in
          let sp : spot s j ≡ Some b = sound.held_spot s j e f.1.0 ∙ ap (λ (x : ℕ). Some (x % length s.hs)) q in
          let inn : has (chain s b) j ≡ true = sym ((h.chains b).holds j) ∙ Orders.is_some sp in
          let g = Orders.seek_some (key_of alike s.cs k) (chain s b) j inn (key_entry alike s k j e f.1.0 ∙ f.1.1) in
          let d = found_held alike s h k b l g.0 (Orders.is_some g.1) in
          let z : g.0 ≡ j = w.single g.0 j d.0 e d.1.0 f.1.0 (trans d.0.key k e.key d.1.1 (symm e.key k f.1.1)) in
          Orders.is_some (g.1 ∙ ap (λ (x : ℕ). Some x) z)

  -- what the walk says of its answer
  abbrev pub Walked : (A → A → Bool) → (A → ℕ) → State A B → A → Option ℕ → Type 0
  Walked alike hashed s k r = r ≡ seek (key_of alike s.cs k) (chain_from s (hashed k))

  -- without a head nothing is held, and nothing is found
  no_entry : (s : State A B) → Sound s → length s.hs ≡ 0 → (j : ℕ) → entry_at s j ≡ None
  no_entry s h z j =
      let u = h.size in
      outcomes.past_entry s j (elim (cases_eq s.used 0) [
        | inl e ↦ omega arith
        | inr n ↦ let w = sound.capacity_heads (length s.cs) (length s.hs) 0 (omega arith) in absurd (omega arith)
      ])

  no_walk : (alike : A → A → Bool) (hashed : A → ℕ) (s : State A B) (k : A) (r : Option ℕ) → length s.hs ≡ 0 → Walked alike hashed s k r → r ≡ None
  no_walk alike hashed s k r z w =
      let e : first_of s (hashed k) ≡ None = ap head_in (slice_get_past s.hs (hashed k % length s.hs) (omega arith)) in
      w ∙ ap (λ (x : Option ℕ). seek (key_of alike s.cs k) (walk (link_of s.cs) (length s.cs) x)) e ∙ ap (seek (key_of alike s.cs k)) (Chains.walk_none (link_of s.cs) (length s.cs))

  -- ---- what `find` promises
  pub find_held : (alike : A → A → Bool) (hashed : A → ℕ) (s : State A B) → Sound s → (k : A) (r : Option ℕ) → Walked alike hashed s k r → (i : ℕ) → r ≡ Some i → hit alike (entry_at s i) k ≡ true
  find_held alike hashed s h k r w i e =
      elim (cases_eq (length s.hs) 0) [
        | inl z ↦ let y : None ≡ Some i = sym (no_walk alike hashed s k r z w) ∙ e in let x : ◌≡◌ {A = ℕ} 0 1 = cc in absurd (omega arith)
        | inr n ↦
            let l : 0 < length s.hs = omega arith in
            let q = w ∙ ap (seek (key_of alike s.cs k)) (outcomes.chain_of s (hashed k) l) in
            found_hit alike s h k (hashed k % length s.hs) (sound.mod_below (hashed k) (length s.hs) l) i (Orders.is_some (sym q ∙ e))
      ]

  pub find_found : (alike : A → A → Bool) (hashed : A → ℕ) (weighs : A → B → ℕ)
      → ((k l : A) → alike k l ≡ true → alike l k ≡ true)
      → ((k l m : A) → alike k l ≡ true → alike l m ≡ true → alike k m ≡ true)
      → ((k l : A) → alike k l ≡ true → hashed k ≡ hashed l)
      → (s : State A B) → Sound s → (k : A) (r : Option ℕ) → Walked alike hashed s k r → Lawful alike hashed weighs (entry_at s) → (j : ℕ) → hit alike (entry_at s j) k ≡ is r j
  find_found alike hashed weighs symm trans hashes s h k r a w j =
      elim (cases_eq (length s.hs) 0) [
        | inl z ↦ ap (λ (o : Option (Entry A B)). hit alike o k) (no_entry s h z j) ∙ sym (ap (λ (o : Option ℕ). is o j) (no_walk alike hashed s k r z a))
        | inr n ↦
            let l : 0 < length s.hs = omega arith in
            let q = a ∙ ap (seek (key_of alike s.cs k)) (outcomes.chain_of s (hashed k) l) in
            found_is alike hashed weighs symm trans hashes s h l w k j ∙ sym (ap (λ (o : Option ℕ). is o j) q)
      ]

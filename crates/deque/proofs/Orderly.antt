-- The laws of the queue, over lists of items: plain lists, and no memory.
use Rattle.std.proofs.Common.{◌≡◌, ℕ, true, false, eqb, List, [], ◌∷◌, ◌++◌, Some, None, Option, sym, refl, ap, ◌∙◌, inl, inr, append_assoc, arith}
use Rattle.std.proofs.lemmas.List.{append-nil}
use Rattle.std.proofs.lemmas.Bool.Decides.{nat_tests}
use Rattle.std.proofs.lemmas.Bool.{cases_Bool, eqb-true}
use Rattle.links.specs.Places.{has, last_from, last, distinct}
use Rattle.deque.specs.Meaning.{places, dropped, front, rest, found, replaced, entry, moved, free}
use Rattle.deque.specs.Laws.{Turn, push, pop, turned, put_in, handed_out, all_in, all_out, left, LastHasNoNext, MovesToBack, UnlinkThenPushMoves, FirstInFirstOut}
use Rattle.links.proofs.Orders.{head_apart, tail_apart, last_later, after_last, eqb_same, both_ways}

module _ {T : Type 0} where
  -- ---- a node that is no item
  pub dropped_absent : (i : ℕ) (ps : List (ℕ × T)) → has (places ps) i ≡ false → dropped i ps ≡ ps
  dropped_absent i [] h = refl
  dropped_absent i (p ∷ ps) h = elim (cases_Bool (eqb i p.0)) [
    | inl t ↦ let a : true ≡ false = rw t at h in cc
    | inr t ↦ let a : has (places ps) i ≡ false = rw t at h in rw t (ap (λ (l : List (ℕ × T)). p ∷ l) (dropped_absent i ps a))
  ]

  pub found_absent : (i : ℕ) (ps : List (ℕ × T)) → has (places ps) i ≡ false → found i ps ≡ None
  found_absent i [] h = refl
  found_absent i (p ∷ ps) h = elim (cases_Bool (eqb i p.0)) [
    | inl t ↦ let a : true ≡ false = rw t at h in cc
    | inr t ↦ let a : has (places ps) i ≡ false = rw t at h in rw t (found_absent i ps a)
  ]

  entry_absent : (i : ℕ) (ps : List (ℕ × T)) → has (places ps) i ≡ false → entry i ps ≡ []
  entry_absent i [] h = refl
  entry_absent i (p ∷ ps) h = elim (cases_Bool (eqb i p.0)) [
    | inl t ↦ let a : true ≡ false = rw t at h in cc
    | inr t ↦ let a : has (places ps) i ≡ false = rw t at h in rw t (entry_absent i ps a)
  ]

  pub moved_absent : (i : ℕ) (ps : List (ℕ × T)) → has (places ps) i ≡ false → moved i ps ≡ ps
  moved_absent i ps h = ap (λ (l : List (ℕ × T)). dropped i ps ++ l) (entry_absent i ps h) ∙ append-nil (dropped i ps) ∙ dropped_absent i ps h

  pub replaced_absent : (i : ℕ) (x : T) (ps : List (ℕ × T)) → has (places ps) i ≡ false → replaced i x ps ≡ ps
  replaced_absent i x [] h = refl
  replaced_absent i x (p ∷ ps) h = elim (cases_Bool (eqb i p.0)) [
    | inl t ↦ let a : true ≡ false = rw t at h in cc
    | inr t ↦ let a : has (places ps) i ≡ false = rw t at h in rw t (ap (λ (l : List (ℕ × T)). p ∷ l) (replaced_absent i x ps a))
  ]

  -- ---- an item and its element
  pub entry_found : (i : ℕ) (x : T) (ps : List (ℕ × T)) → found i ps ≡ Some x → entry i ps ≡ (i, x) ∷ []
  entry_found i x [] e = cc
  entry_found i x (p ∷ ps) e = elim (cases_Bool (eqb i p.0)) [
    | inl t ↦
        let q : i ≡ p.0 = eqb-true i p.0 t in
        let v : Some p.1 ≡ Some x = rw t at e in
        let w : p.1 ≡ x = cc in
        rw t (λ k. (sym q k, w k) ∷ [])
    | inr t ↦ let a : found i ps ≡ Some x = rw t at e in rw t (entry_found i x ps a)
  ]

  pub front_dropped : (ps : List (ℕ × T)) (i : ℕ) (x : T) → Some (i, x) ≡ front ps → dropped i ps ≡ rest ps
  front_dropped [] i x e = refl
  front_dropped (p ∷ ps) i x e = let q : (i, x) ≡ p = cc in let r = eqb_same i in let t : eqb i p.0 ≡ true = ap (λ (o : ℕ × T). eqb i o.0) (sym q) ∙ r in rw t

  -- ---- unlink, then push
  pub unlink_then_push : (ps : List (ℕ × T)) → UnlinkThenPushMoves ps
  unlink_then_push ps = record { same = λ i x e. ap (λ (l : List (ℕ × T)). dropped i ps ++ l) (sym (entry_found i x ps e)) }

  -- ---- move to back
  moved_last : (ps : List (ℕ × T)) (i : ℕ) → distinct (places ps) ≡ true → last (places ps) ≡ Some i → moved i ps ≡ ps
  moved_last [] i d e = refl
  moved_last (p ∷ []) i d e = let q : p.0 ≡ i = cc in let t : eqb i p.0 ≡ true = grind (arith, nat_tests) in rw t
  moved_last (p ∷ r ∷ rs) i d e =
      let n = last_later p.0 r.0 (places rs) i d e in
      let t : eqb i p.0 ≡ false = grind (arith, nat_tests) in
      rw t (ap (λ (l : List (ℕ × T)). p ∷ l) (moved_last (r ∷ rs) i (tail_apart p.0 (places (r ∷ rs)) d) e))

  -- dropping node i from ps ++ qs, where ps has it not
  dropped_after : (i : ℕ) (ps qs : List (ℕ × T)) → has (places ps) i ≡ false → dropped i (ps ++ qs) ≡ ps ++ dropped i qs
  dropped_after i [] qs h = refl
  dropped_after i (p ∷ ps) qs h = elim (cases_Bool (eqb i p.0)) [
    | inl t ↦ let a : true ≡ false = rw t at h in cc
    | inr t ↦ let a : has (places ps) i ≡ false = rw t at h in rw t (ap (λ (l : List (ℕ × T)). p ∷ l) (dropped_after i ps qs a))
  ]

  -- no other node stands in for the one that was dropped
  pub dropped_out : (i : ℕ) (ps : List (ℕ × T)) → distinct (places ps) ≡ true → has (places (dropped i ps)) i ≡ false
  dropped_out i [] d = refl
  dropped_out i (p ∷ ps) d = elim (cases_Bool (eqb i p.0)) [
    | inl t ↦ rw t (ap (has (places ps)) (eqb-true i p.0 t) ∙ head_apart p.0 (places ps) d)
    | inr t ↦ rw (t, t) (dropped_out i ps (tail_apart p.0 (places ps) d))
  ]

  dropped_entry : (i : ℕ) (ps : List (ℕ × T)) → dropped i (entry i ps) ≡ []
  dropped_entry i [] = refl
  dropped_entry i (p ∷ ps) = elim (cases_Bool (eqb i p.0)) [ inl t ↦ rw (t, t) | inr t ↦ rw t (dropped_entry i ps) ]

  others_stay : (ps : List (ℕ × T)) → distinct (places ps) ≡ true → (i : ℕ) → dropped i (moved i ps) ≡ dropped i ps
  others_stay ps d i =
      dropped_after i (dropped i ps) (entry i ps) (dropped_out i ps d)
      ∙ ap (λ (l : List (ℕ × T)). dropped i ps ++ l) (dropped_entry i ps)
      ∙ append-nil (dropped i ps)

  found_some : (i : ℕ) (ps : List (ℕ × T)) → has (places ps) i ≡ true → (x : T) × (found i ps ≡ Some x)
  found_some i [] h = absurd (both_ways {b = false} refl h)
  found_some i (p ∷ ps) h = elim (cases_Bool (eqb i p.0)) [
    | inl t ↦ (p.1, rw t)
    | inr t ↦ let a : has (places ps) i ≡ true = rw t at h in let f = found_some i ps a in (f.0, rw t f.1)
  ]

  last_pushed : (o : Option ℕ) (ps : List (ℕ × T)) (i : ℕ) (x : T) → last_from o (places (ps ++ (i, x) ∷ [])) ≡ Some i
  last_pushed o [] i x = refl
  last_pushed o (p ∷ ps) i x = last_pushed (Some p.0) ps i x

  goes_last : (ps : List (ℕ × T)) (i : ℕ) → has (places ps) i ≡ true → last (places (moved i ps)) ≡ Some i
  goes_last ps i h =
      let f = found_some i ps h in
      ap (λ (l : List (ℕ × T)). last (places (dropped i ps ++ l))) (entry_found i f.0 ps f.1) ∙ last_pushed None (dropped i ps) i f.0

  pub moves_to_back : (ps : List (ℕ × T)) → distinct (places ps) ≡ true → MovesToBack ps
  moves_to_back ps d = record { back = goes_last ps; others = others_stay ps d; stays = λ i e. moved_last ps i d e }

  -- ---- the last has no next
  pub last_ends : (ps : List (ℕ × T)) → distinct (places ps) ≡ true → LastHasNoNext ps
  last_ends ps d = record { end = λ i e. after_last (places ps) i d e }

  -- ---- first in, first out
  one_turn : (n : ℕ) (ps : List (ℕ × T)) (t : Turn T) → handed_out ps t ++ turned n ps t ≡ ps ++ put_in n ps t
  one_turn n ps (push i x) = elim (cases_Bool (free n ps i)) [ inl t ↦ rw t | inr t ↦ rw t (sym (append-nil ps)) ]
  one_turn n [] pop = refl
  one_turn n (p ∷ ps) pop = sym (append-nil (p ∷ ps))

  pub first_in_first_out : (n : ℕ) (ps : List (ℕ × T)) → FirstInFirstOut n ps
  first_in_first_out n ps = record { runs = go ps }
    where
      go : (ps : List (ℕ × T)) (ts : List (Turn T)) → all_out n ps ts ++ left n ps ts ≡ ps ++ all_in n ps ts
      go ps [] = sym (append-nil ps)
      go ps (t ∷ ts) =
          append_assoc (handed_out ps t) (all_out n (turned n ps t) ts) (left n (turned n ps t) ts)
          ∙ ap (λ (l : List (ℕ × T)). handed_out ps t ++ l) (go (turned n ps t) ts)
          ∙ sym (append_assoc (handed_out ps t) (turned n ps t) (all_in n (turned n ps t) ts))
          ∙ ap (λ (l : List (ℕ × T)). l ++ all_in n (turned n ps t) ts) (one_turn n ps t)
          ∙ append_assoc ps (put_in n ps t) (all_in n (turned n ps t) ts)

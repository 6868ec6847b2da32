-- What each call makes of what is held: the records that the calls promise, from the states that the writes leave.
use Rattle.std.proofs.Common.{◌≡◌, ℕ, ◌+◌, ◌-◌, ◌%◌, ◌<◌, ◌≤◌, true, false, not, cond, eqb, ltb, List, [], ◌∷◌, length, set, is_some, Some, None, Option, sym, refl, ap, ◌∙◌, subst, inl, inr, arith, length-set}
use Rattle.std.specs.List.{slice_get, last_or, take_while}
use Rattle.std.proofs.lemmas.Bool.Decides.{nat_tests}
use Rattle.std.proofs.lemmas.Bool.{cases_eq, cases_Bool, lt-ltb, le-ltb, ltb-true}
use Rattle.table.specs.declared.cell.Cell.{Cell}
use Rattle.table.specs.declared.cell.Content.{Content}
use Rattle.table.specs.declared.cell.Entry.{Entry}
use Rattle.links.specs.declared.Link.{Link}
use Rattle.table.specs.declared.vacancy.Vacancy.{Vacancy}
use Rattle.links.specs.Links.{most, goes_to, to_place}
use Rattle.links.specs.Places.{is, pick, first, has, before}
use Rattle.table.specs.Chain.{State, capacity, chain_in, link_in, spot_in, entry_in, link_of, spot, entry_at, live, head_of, head_at, first_of, walk, chain, Sound}
use Rattle.table.specs.Meaning.{chain_from}
use Rattle.table.specs.Edits.{edited_at, anew, chain_to, filled, emptied, link_or, with_cells, join_state, freed, part_state, renew_state}
use Rattle.table.specs.Calls.{anew_in, Marked, vacancy_of, vacancy_in, Took, Parted, Renewed, Emptied}
use Rattle.links.proofs.Orders
use Rattle.table.proofs.Memory
use Rattle.table.proofs.Chains
use Rattle.table.proofs.Soundness as sound

no_first : (xs : List ℕ) (j : ℕ) → first xs ≡ None → has xs j ≡ false
no_first [] j e = refl
no_first (x ∷ xs) j e = cc

never : ◌≡◌ {A = ℕ} 0 1 → ⊥
never z = omega arith

module _ {A B : Type 0} where
  -- the chain of a hash is that of its number
  pub chain_of : (s : State A B) (h : ℕ) → 0 < length s.hs → chain_from s h ≡ chain s (h % length s.hs)
  chain_of s h n =
      let l = sound.mod_below h (length s.hs) n in
      let z : eqb (h % length s.hs) (length s.hs) ≡ false = grind (arith, nat_tests) in
      let q : head_at s (h % length s.hs) ≡ first_of s h = rw z in
      ap (walk (link_of s.cs) (length s.cs)) (sym q)

  -- ---- taking
  joined_took : (s t : State A B) (u : ℕ) (f : Link) (i : ℕ) (e : Entry A B) → t ≡ join_state (freed s u f) i e → i < u → u ≤ capacity s → ((j : ℕ) → (j ≡ i → ⊥) → ltb j u ≡ ltb j s.used) → entry_at s i ≡ None → Sound (join_state (freed s u f) i e) → Took s t e (Some i)
  joined_took s t u f i e q k m w o h = subst (λ (x : State A B). Took s x e (Some i)) (sym q) (record {
    sound = h;
    entries = sound.joined_entries s u f i e (let z = sound.capacity_cells (length s.cs) (length s.hs) in omega arith) k w;
    fresh = λ j r. let z : i ≡ j = cc in ap (entry_at s) (sym z) ∙ o;
    within = λ j r. let z : i ≡ j = cc in omega arith;
    full = λ r j _. let z : ◌≡◌ {A = ℕ} 0 1 = cc in absurd (never z);
    held = refl;
    cells = length-set s.cs i _;
    heads = length-set s.hs (e.hash % length s.hs) _;
  })

  -- nothing is taken where every cell is held
  none_took : (s : State A B) (e : Entry A B) → Sound s → ((j : ℕ) → j < capacity s → is_some (entry_at s j) ≡ true) → Took s s e None
  none_took s e h f = record {
    sound = h;
    entries = λ j. refl;
    fresh = λ j r. let z : ◌≡◌ {A = ℕ} 0 1 = cc in absurd (never z);
    within = λ j r. let z : ◌≡◌ {A = ℕ} 0 1 = cc in absurd (never z);
    full = λ _ j l. f j l;
    held = omega arith;
    cells = refl;
    heads = refl;
  }

  -- as many are held as can be
  pub full_took : (s : State A B) (e : Entry A B) → Sound s → capacity s ≤ s.held → Took s s e None
  full_took s e h l = none_took s e h (Orders.full_count (live s) (capacity s) (let z = h.total in omega arith))

  -- no cell was given up, and none is left that was never used
  all_held : (s : State A B) → Sound s → goes_to s.free ≡ None → capacity s ≤ s.used → (j : ℕ) → j < capacity s → is_some (entry_at s j) ≡ true
  all_held s h f u j l =
      let t : ltb j s.used ≡ true = lt-ltb j s.used (omega arith) in
      let n = sound.capacity_cells (length s.cs) (length s.hs) in
      let c = Memory.nth_some s.cs j (omega arith) in
      elim (cases_Bool c.0.held) [
        | inl y ↦ rw t (ap (λ (o : Option (Cell A B)). is_some (entry_in o)) c.1 ∙ rw y)
        | inr y ↦
            let z : eqb (length s.hs) (length s.hs) ≡ true = grind (arith, nat_tests) in
            let sp : spot s j ≡ Some (length s.hs) = rw t (ap (spot_in (length s.hs)) c.1 ∙ rw y) in
            let k = h.chains (length s.hs) in
            let e : first (chain s (length s.hs)) ≡ None = sym k.starts ∙ rw z f in
            absurd (Orders.both_ways (k.holds j ∙ no_first (chain s (length s.hs)) j e) (Orders.is_some sp))
      ]

  leads : (o : Option (Cell A B)) → goes_to (chain_in o) ≡ link_in o
  leads None = refl
  leads (Some c) = refl

  reuse_took : (s : State A B) (i : ℕ) (e : Entry A B) → Sound s → goes_to s.free ≡ Some i → Took s (join_state (freed s s.used (chain_in (slice_get s.cs i))) i e) e (Some i)
  reuse_took s i e h f =
      let u = sound.free_used s h i f in
      let z = h.size in
      let n = sound.capacity_heads (length s.cs) (length s.hs) i (omega arith) in
      joined_took s _ s.used (chain_in (slice_get s.cs i)) i e refl u h.size (λ j _. refl) (sound.free_entry s n i (sound.free_spot s h i f)) (sound.reuse_sound s i e (chain_in (slice_get s.cs i)) h n f (leads (slice_get s.cs i)))

  begin_took : (s : State A B) (e : Entry A B) → Sound s → s.used < capacity s → Took s (join_state (freed s (s.used + 1) s.free) s.used e) e (Some s.used)
  begin_took s e h l =
      joined_took s _ (s.used + 1) s.free s.used e refl (omega arith) (omega arith) (λ j d. sound.ltb_next j s.used d) (sound.new_entry s) (sound.begin_sound s e h l)

  -- the cell of a vacancy can be taken
  pub vacancy_within : (s : State A B) (v : Vacancy) → Some v ≡ vacancy_in s → v.place < capacity s
  vacancy_within s v q = go (goes_to s.free) q
    where
      go : (o : Option ℕ) → Some v ≡ vacancy_of s o → v.place < capacity s
      go (Some i) q = elim (cases_Bool (ltb i (capacity s))) [
        | inl t ↦ let z : Some v ≡ Some (record { place = i; used = s.used; rest = chain_in (slice_get s.cs i) }) = rw t at q in let y : v ≡ record { place = i; used = s.used; rest = chain_in (slice_get s.cs i) } = cc in let x = ap (λ (w : Vacancy). w.place) y in let l = ltb-true i (capacity s) t in omega arith
        | inr t ↦ let z : Some v ≡ None = rw t at q in let y : ◌≡◌ {A = ℕ} 0 1 = cc in absurd (never y)
      ]
      go None q = elim (cases_Bool (ltb s.used (capacity s))) [
        | inl t ↦ let z : Some v ≡ Some (record { place = s.used; used = s.used + 1; rest = s.free }) = rw t at q in let y : v ≡ record { place = s.used; used = s.used + 1; rest = s.free } = cc in let x = ap (λ (w : Vacancy). w.place) y in let l = ltb-true s.used (capacity s) t in omega arith
        | inr t ↦ let z : Some v ≡ None = rw t at q in let y : ◌≡◌ {A = ℕ} 0 1 = cc in absurd (never y)
      ]

  -- a vacancy taken
  pub vacancy_took : (s t : State A B) (v : Vacancy) (e : Entry A B) → Sound s → Some v ≡ vacancy_in s → t ≡ join_state (freed s v.used v.rest) v.place e → Took s t e (Some v.place)
  vacancy_took s t v e h q w = subst (λ (x : State A B). Took s x e (Some v.place)) (sym w) (go (goes_to s.free) refl q)
    where
      go : (o : Option ℕ) → goes_to s.free ≡ o → Some v ≡ vacancy_of s o → Took s (join_state (freed s v.used v.rest) v.place e) e (Some v.place)
      go (Some i) f q = elim (cases_Bool (ltb i (capacity s))) [
        | inl t ↦
            let z : Some v ≡ Some (record { place = i; used = s.used; rest = chain_in (slice_get s.cs i) }) = rw t at q in
            let y : v ≡ record { place = i; used = s.used; rest = chain_in (slice_get s.cs i) } = cc in
            subst (λ (x : Vacancy). Took s (join_state (freed s x.used x.rest) x.place e) e (Some x.place)) (sym y) (reuse_took s i e h f)
        | inr t ↦ let z : Some v ≡ None = rw t at q in let y : ◌≡◌ {A = ℕ} 0 1 = cc in absurd (never y)
      ]
      go None f q = elim (cases_Bool (ltb s.used (capacity s))) [
        | inl t ↦
            let z : Some v ≡ Some (record { place = s.used; used = s.used + 1; rest = s.free }) = rw t at q in
            let y : v ≡ record { place = s.used; used = s.used + 1; rest = s.free } = cc in
            subst (λ (x : Vacancy). Took s (join_state (freed s x.used x.rest) x.place e) e (Some x.place)) (sym y) (begin_took s e h (ltb-true s.used (capacity s) t))
        | inr t ↦ let z : Some v ≡ None = rw t at q in let y : ◌≡◌ {A = ℕ} 0 1 = cc in absurd (never y)
      ]

  pub taken : (s : State A B) (v : Vacancy) (e : Entry A B) (b : ℕ) (cs : List (Cell A B)) (hs : List Link) → Sound s → Some v ≡ vacancy_in s
      → b ≡ e.hash % length s.hs
      → cs ≡ set s.cs v.place (filled e (link_or (slice_get s.hs b)))
      → hs ≡ set s.hs b (to_place v.place)
      → Took s (record { cs = cs; hs = hs; used = v.used; free = v.rest; held = s.held + 1 }) e (Some v.place)
  taken s v e b cs hs h q n c l = vacancy_took s _ v e h q (rw (c, l, n))

  -- no vacancy
  pub no_vacancy_took : (s : State A B) (e : Entry A B) → Sound s → None ≡ vacancy_in s → Took s s e None
  no_vacancy_took s e h q = none_took s e h (go (goes_to s.free) refl q)
    where
      go : (o : Option ℕ) → goes_to s.free ≡ o → None ≡ vacancy_of s o → (j : ℕ) → j < capacity s → is_some (entry_at s j) ≡ true
      go (Some i) f q =
          let u = sound.free_used s h i f in
          let z = h.size in
          let t : ltb i (capacity s) ≡ true = lt-ltb i (capacity s) (omega arith) in
          let x : None ≡ Some (record { place = i; used = s.used; rest = chain_in (slice_get s.cs i) }) = rw t at q in
          let y : ◌≡◌ {A = ℕ} 0 1 = cc in absurd (never y)
      go None f q = elim (cases_Bool (ltb s.used (capacity s))) [
        | inl t ↦
            let x : None ≡ Some (record { place = s.used; used = s.used + 1; rest = s.free }) = rw t at q in
            let y : ◌≡◌ {A = ℕ} 0 1 = cc in absurd (never y)
        | inr t ↦ all_held s h f (let l : s.used < capacity s → ⊥ = λ k. Orders.both_ways t (lt-ltb s.used (capacity s) k) in omega arith)
      ]

  -- ---- what stands in a cell that was read
  pub past_entry : (s : State A B) (i : ℕ) → s.used ≤ i → entry_at s i ≡ None
  past_entry s i l = let t : ltb i s.used ≡ false = le-ltb i s.used l in rw t

  read_entry : (s : State A B) (i : ℕ) (c : Cell A B) → i < s.used → slice_get s.cs i ≡ Some c → entry_at s i ≡ cond c.held (Some c.entry) None
  read_entry s i c l e = let t : ltb i s.used ≡ true = lt-ltb i s.used l in rw t (ap entry_in e)

  pub marked_entry : (s : State A B) (i : ℕ) (c : Cell A B) → Marked s i c → entry_at s i ≡ Some c.entry
  marked_entry s i c m = let t = m.marked in read_entry s i c m.used m.here ∙ rw t

  -- ---- giving up
  pub none_parted : (s : State A B) (i : ℕ) → Sound s → entry_at s i ≡ None → Parted s s i None
  none_parted s i h o = record {
    sound = h;
    answer = sym o;
    entries = λ j. elim (cases_eq j i) [
      | inl q ↦ let z : eqb j i ≡ true = grind (arith, nat_tests) in rw z (ap (entry_at s) q ∙ o)
      | inr n ↦ let z : eqb j i ≡ false = grind (arith, nat_tests) in rw z
    ];
    held = omega arith;
    cells = refl;
    heads = refl;
  }

  -- a held cell is counted
  pub some_held : (s : State A B) (i : ℕ) (c : Cell A B) → Sound s → Marked s i c → 0 < s.held
  some_held s i c h m =
      let a = Orders.count_some (live s) i (capacity s) m.within (ap is_some (marked_entry s i c m)) in
      let z = h.total in
      omega arith

  pub part_parted : (s t : State A B) (i : ℕ) (c : Cell A B) (p : Option ℕ) → Sound s → Marked s i c
      → p ≡ last_or None (take_while (λ j. not (eqb j i)) (chain_from s c.entry.hash))
      → t ≡ part_state s i c.entry p (c.entry.hash % length s.hs) c.chain
      → Parted s t i (Some c.entry)
  part_parted s t i c p h m q w =
      subst (λ (x : State A B). Parted s x i (Some c.entry)) (sym w) (record {
        sound = sound.part_sound s i c.entry p c.chain h o (sym (ap link_in m.here)) (q ∙ before_last);
        answer = sym o;
        entries = sound.part_entries s i c.entry p b c.chain l m.used;
        held = let a = some_held s i c h m in omega arith;
        cells = length-set (edited_at (chain_to c.chain) s.cs p) i (emptied c.entry s.free) ∙ Memory.length_edited_at (chain_to c.chain) s.cs p;
        heads = hs_at p;
      })
    where
      b : ℕ
      b = c.entry.hash % length s.hs

      o : entry_at s i ≡ Some c.entry
      o = marked_entry s i c m

      n : 0 < length s.hs
      n = sound.capacity_heads (length s.cs) (length s.hs) i m.within

      l : i < length s.cs
      l = let z = sound.capacity_cells (length s.cs) (length s.hs) in let y = m.within in omega arith

      -- what the walk passes last before i is what stands before it in its chain
      before_last : last_or None (take_while (λ j. not (eqb j i)) (chain_from s c.entry.hash)) ≡ before (chain s b) i
      before_last =
          ap (λ (xs : List ℕ). last_or None (take_while (λ j. not (eqb j i)) xs)) (chain_of s c.entry.hash n)
          ∙ Chains.last_before None (chain s b) i (sym ((h.chains b).holds i) ∙ Orders.is_some (sound.held_spot s i c.entry o))

      hs_at : (r : Option ℕ) → length (pick r (set s.hs b c.chain) s.hs) ≡ length s.hs
      hs_at None = length-set s.hs b c.chain
      hs_at (Some x) = refl

  pub parted : (s : State A B) (i : ℕ) (c : Cell A B) (p : Option ℕ) (b : ℕ) (cs : List (Cell A B)) (hs : List Link) (f : Link) (n : ℕ) → Sound s → Marked s i c
      → b ≡ c.entry.hash % length s.hs
      → p ≡ last_or None (take_while (λ j. not (eqb j i)) (chain_from s c.entry.hash))
      → cs ≡ set (edited_at (chain_to c.chain) s.cs p) i (emptied c.entry s.free)
      → hs ≡ pick p (set s.hs b c.chain) s.hs
      → (i < most → f ≡ to_place i)
      → n ≡ s.held - 1
      → Parted s (record { cs = cs; hs = hs; used = s.used; free = f; held = n }) i (Some c.entry)
  parted s i c p b cs hs f n h m u q e l k d =
      let w = m.within in
      let z = sound.capacity_most (length s.cs) (length s.hs) in
      let y = k (omega arith) in
      part_parted s _ i c p h m q (rw (e, l, u, y, d))

  -- ---- renewing
  pub none_renewed : (s : State A B) (i : ℕ) (c : Content B) → Sound s → entry_at s i ≡ None → Renewed s s i c None
  none_renewed s i c h o = record {
    sound = h;
    answer = sym o;
    entries = λ j. elim (cases_eq j i) [
      | inl q ↦ let z : eqb j i ≡ true = grind (arith, nat_tests) in let y : entry_at s j ≡ None = ap (entry_at s) q ∙ o in rw z (y ∙ sym (ap (anew_in c) y))
      | inr n ↦ let z : eqb j i ≡ false = grind (arith, nat_tests) in rw z
    ];
    held = refl;
    cells = refl;
    heads = refl;
  }

  pub renew_renewed : (s t : State A B) (i : ℕ) (n : Content B) (c : Cell A B) → Sound s → Marked s i c → t ≡ renew_state s i (anew n c.entry) c.chain → Renewed s t i n (Some c.entry)
  renew_renewed s t i n c h m q = subst (λ (z : State A B). Renewed s z i n (Some c.entry)) (sym q) (record {
    sound = sound.renew_sound s i c.entry (anew n c.entry) c.chain h o refl (sym (ap link_in m.here));
    answer = sym o;
    entries = λ j.
        sound.renewed_entries s i (anew n c.entry) c.chain (let z = sound.capacity_cells (length s.cs) (length s.hs) in let y = m.within in omega arith) m.used j
        ∙ elim (cases_eq j i) [
          | inl r ↦ let z : eqb j i ≡ true = grind (arith, nat_tests) in rw z (sym (ap (anew_in n) (ap (entry_at s) r ∙ o)))
          | inr r ↦ let z : eqb j i ≡ false = grind (arith, nat_tests) in rw z
        ];
    held = refl;
    cells = length-set s.cs i _;
    heads = refl;
  })
    where
      o : entry_at s i ≡ Some c.entry
      o = marked_entry s i c m

  pub renewed : (s : State A B) (i : ℕ) (n : Content B) (c : Cell A B) (e : Entry A B) (cs : List (Cell A B)) → Sound s → Marked s i c
      → e ≡ anew n c.entry
      → cs ≡ set s.cs i (record { entry = e; held = c.held; chain = c.chain })
      → Renewed s (with_cells s cs) i n (Some c.entry)
  renewed s i n c e cs h m q l = let t = m.marked in renew_renewed s _ i n c h m (rw (l, q, t))

  -- ---- nothing held
  pub emptied_is : (cs : List (Cell A B)) (hs : List Link) (n : ℕ) (f : Link) (t : State A B) → t ≡ record { cs = cs; hs = hs; used = 0; free = f; held = 0 } → goes_to f ≡ None → length hs ≡ n → ((b : ℕ) → head_of hs b ≡ None) → Emptied cs n t
  emptied_is cs hs n f t q g l h = subst (λ (x : State A B). Emptied cs n x) (sym q) (record {
    sound = sound.sound_from s (omega arith) (sym (Orders.count_none (live s) (capacity s) (λ j. ap is_some (out j))))
        (λ b. ([], record { holds = λ j. ap (λ (o : Option ℕ). is o b) (nowhere' j); links = λ j e. absurd (Orders.both_ways refl e); apart = refl; starts = elim (cases_Bool (eqb b (length hs))) [ inl z ↦ rw z g | inr z ↦ rw z (h b) ] }));
    entries = out;
    cells = refl;
    heads = l;
  })
    where
      s : State A B
      s = record { cs = cs; hs = hs; used = 0; free = f; held = 0 }

      out : (j : ℕ) → entry_at s j ≡ None
      out j = past_entry s j (omega arith)

      nowhere' : (j : ℕ) → spot s j ≡ None
      nowhere' j = let t : ltb j 0 ≡ false = le-ltb j 0 (omega arith) in rw t

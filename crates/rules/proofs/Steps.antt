-- Each call, after its passes: what it answers is right by the ledger, and the ledger follows.
use Rattle.std.proofs.Common.{◌≡◌, ℕ, ◌+◌, ◌<◌, ◌≤◌, Bool, true, false, cond, ◌&&◌, eqb, List, [], ◌∷◌, ◌++◌, map, length, Some, None, Option, sym, refl, ap, ◌∙◌, subst, inl, inr, arith}
use Rattle.std.proofs.lemmas.Bool.{cases_Bool, both_ways, and_parts, and_cases, leb-true, leb-false, eq-eqb}
use Rattle.std.proofs.lemmas.List.{length-map, append-nil}
use Rattle.rules.specs.Fronts.{looked, among, without, In, tally}
use Rattle.sketch.specs.Sketches.{Sketch}
use Rattle.rules.specs.declared.choices.Choices.{Choices}
use Rattle.rules.specs.declared.answer.Answer.TheVariants.{Yes, No, New, Replaced, TurnedAway, Struck, Absent, Refused}
use Rattle.refusals.specs.declared.Refusal.TheVariants.{NoCell}
use Rattle.rules.specs.declared.departure.Cause.TheVariants.{Outvoted, StruckOut}
use Rattle.rules.specs.declared.departure.Departure.{Departure}
use Rattle.rules.specs.Kinds.{Kind, Lawful}
use Rattle.rules.specs.Entries.{Sizes, Entry, State}
use Rattle.rules.specs.Limits.{top}
use Rattle.rules.specs.Passes.{expired, leave, told, cells_of}
use Rattle.rules.specs.Votes.{verdict, fits_in, outvotes, loses, none}
use Rattle.rules.specs.Calls.{Outcome, with_sketch, held, got, asked, struck, inserted, came, counted, admit, joined, opened_sketch, newcomer, full}
use Rattle.rules.specs.Items.{Item, telling, touch_item, add_item, remove}
use Rattle.rules.specs.Ledger.{by_pass, told_by, outvoted, item_of, fitting, is_hit, takes_in, counting, opened_after, newly, upon_get, upon_insert, upon_invalidate}
use Rattle.rules.specs.Account.{times, Running, HitsRight, InsertRight, InvalidateRight}
use Rattle.rules.proofs.Fronts.{looked_again, tally_append, tally_without, first_in, first_none, in_freeing, seen, map_first}
use Rattle.rules.specs.Agreement.{as_item, ledger_of, Coherent}
use Rattle.rules.proofs.Erasing.{map_again, leave_erase, leave_kept}
use Rattle.rules.proofs.Settling.{told_no}
use Rattle.rules.proofs.Moving.{tally_none, touch_erase, touch_kept, replace_erase, replace_kept, admit_erase, admit_kept}
use Rattle.rules.proofs.Voting.{wins, leaving, run_of, run_erase, verdict_is, right_fits, right_full, right_wins, right_wins_full, right_loses}
use Rattle.rules.proofs.Hitting.{tally_map, none_running, lapsed_running, is_running, misses, hits}

outvoted_told : {Key Value : Type 0} (es : List (Entry Key Value)) → outvoted (told Outvoted es) ≡ map (λ (e : Entry Key Value). e.ticket) es
outvoted_told [] = refl
outvoted_told (e ∷ es) = ap (λ (l : List ℕ). e.ticket ∷ l) (outvoted_told es)

module _ {Key Value : Type 0} (kind : Kind Key Value) where
  pub sketch_kept : (p : State Key Value) → Coherent kind p → (k : Sketch) → Coherent kind (with_sketch k p)
  sketch_kept p ok k = record { cells = ok.cells; tickets = ok.tickets; keys = ok.keys; hashes = ok.hashes; below = ok.below; listed = ok.listed; once = ok.once }

module _ {Key Value : Type 0} (kind : Kind Key Value) (choices : Choices) (sizes : Sizes) (free : ℕ) where
  abbrev count_key : Key → State Key Value → State Key Value
  count_key k p = counted kind k p

  counted_erase : (k : Key) (p : State Key Value) → ledger_of (count_key k p) ≡ counting kind k (ledger_of p)
  unfolding ledger_of
  counted_erase k p = refl

  opened_erase : (p : State Key Value) → ledger_of (opened_sketch kind choices sizes p) ≡ opened_after kind choices sizes (ledger_of p)
  unfolding ledger_of
  opened_erase p = refl

  module _ (p : State Key Value) (ok : Coherent kind p) (ds : List Departure) where
    find_erase : (k : Key) → item_of kind k (ledger_of p) ≡ seen as_item (held kind k p)
    unfolding ledger_of
    find_erase k = map_first as_item (λ (i : Item Key Value). kind.alike i.key k) p.touch

    lone : (k : Key) → tally (λ (i : Item Key Value). kind.alike i.key k) (ledger_of p).touch ≤ 1
    unfolding ledger_of
    lone k = subst (λ (n : ℕ). n ≤ 1) (sym (tally_map as_item (λ (i : Item Key Value). kind.alike i.key k) p.touch)) (ok.keys k)

    there : (k : Key) (e : Entry Key Value) → held kind k p ≡ Some e → In e p.touch
    there k e h = (first_in (λ (x : Entry Key Value). kind.alike x.key k) e p.touch h).0

    -- ---- get

    pub record Got (k : Key) (now : ℕ) (o : Outcome Key Value) : Type 0 where
      pub right : HitsRight kind choices (ledger_of p) k now o.answer
      pub follows : ledger_of o.state ≡ upon_get now (is_hit o.answer) (item_of kind k (ledger_of p)) (counting kind k (ledger_of p))
      pub keeps : Coherent kind o.state
      pub tells : o.departures ≡ ds

    pub got_right : (k : Key) (now : ℕ) → Got k now (got choices now (held kind k p) (count_key k p) ds)
    got_right k now = go (held kind k p) refl
      where
        go : (x : Option (Entry Key Value)) → held kind k p ≡ x → Got k now (got choices now x (count_key k p) ds)
        go None h =
            let f : item_of kind k (ledger_of p) ≡ None = find_erase k ∙ ap (seen as_item) h in
            record {
              right = misses kind choices (ledger_of p) lone k now (none_running kind choices (ledger_of p) lone k now f);
              follows = counted_erase k p ∙ sym (ap (λ (o : Option (Item Key Value)). upon_get now false o (counting kind k (ledger_of p))) f);
              keeps = sketch_kept kind p ok (count_key k p).sketch;
              tells = refl;
            }
        go (Some e) h =
            let f : item_of kind k (ledger_of p) ≡ Some (as_item e) = find_erase k ∙ ap (seen as_item) h in
            elim (cases_Bool (expired choices now e)) [
              | inl t ↦ rw t (record {
                right = misses kind choices (ledger_of p) lone k now (lapsed_running kind choices (ledger_of p) lone k now (as_item e) f t);
                follows = counted_erase k p ∙ sym (ap (λ (o : Option (Item Key Value)). upon_get now false o (counting kind k (ledger_of p))) f);
                keeps = sketch_kept kind p ok (count_key k p).sketch;
                tells = refl;
              })
              | inr t ↦ rw t (record {
                right = hits kind choices (ledger_of p) lone k now (as_item e) f t;
                follows =
                    touch_erase kind (count_key k p) (sketch_kept kind p ok (count_key k p).sketch) e (there k e h) now
                    ∙ ap (touch_item now (as_item e)) (counted_erase k p)
                    ∙ sym (ap (λ (o : Option (Item Key Value)). upon_get now true o (counting kind k (ledger_of p))) f);
                keeps = touch_kept kind (count_key k p) (sketch_kept kind p ok (count_key k p).sketch) e (there k e h) now;
                tells = refl;
              })
            ]

    -- ---- contains_key

    pub record Asked (k : Key) (now : ℕ) (o : Outcome Key Value) : Type 0 where
      pub says_yes : (i : Item Key Value) → Running kind choices (ledger_of p) k now i → o.answer ≡ Yes
      pub says_no : ((i : Item Key Value) → Running kind choices (ledger_of p) k now i → ⊥) → o.answer ≡ No
      pub stays : o.state ≡ p
      pub tells : o.departures ≡ ds

    pub asked_right : (k : Key) (now : ℕ) → Asked k now (asked choices now (held kind k p) p ds)
    asked_right k now = go (held kind k p) refl
      where
        go : (x : Option (Entry Key Value)) → held kind k p ≡ x → Asked k now (asked choices now x p ds)
        go None h =
            let f : item_of kind k (ledger_of p) ≡ None = find_erase k ∙ ap (seen as_item) h in
            record { says_yes = λ i r. absurd (none_running kind choices (ledger_of p) lone k now f i r); says_no = λ g. refl; stays = refl; tells = refl }
        go (Some e) h =
            let f : item_of kind k (ledger_of p) ≡ Some (as_item e) = find_erase k ∙ ap (seen as_item) h in
            elim (cases_Bool (expired choices now e)) [
              | inl t ↦ rw t (record { says_yes = λ i r. absurd (lapsed_running kind choices (ledger_of p) lone k now (as_item e) f t i r); says_no = λ g. refl; stays = refl; tells = refl })
              | inr t ↦ rw t (record { says_yes = λ i r. refl; says_no = λ g. absurd (g (as_item e) (is_running kind choices (ledger_of p) lone k now (as_item e) f t)); stays = refl; tells = refl })
            ]

    -- ---- invalidate

    pub record Gone (k : Key) (o : Outcome Key Value) : Type 0 where
      pub rest : List Departure
      pub tells : o.departures ≡ ds ++ rest
      pub quiet : told_by by_pass rest ≡ []
      pub right : InvalidateRight (item_of kind k (ledger_of p)) o.answer rest
      pub follows : ledger_of o.state ≡ upon_invalidate (item_of kind k (ledger_of p)) (ledger_of p)
      pub keeps : Coherent kind o.state

    pub struck_right : (k : Key) → Gone k (struck (held kind k p) p ds)
    struck_right k = go (held kind k p) refl
      where
        go : (x : Option (Entry Key Value)) → held kind k p ≡ x → Gone k (struck x p ds)
        go None h =
            let f : item_of kind k (ledger_of p) ≡ None = find_erase k ∙ ap (seen as_item) h in
            record {
              rest = [];
              tells = sym (append-nil ds);
              quiet = refl;
              right = subst (λ (o : Option (Item Key Value)). InvalidateRight o Absent []) (sym f) (refl, refl);
              follows = sym (ap (λ (o : Option (Item Key Value)). upon_invalidate o (ledger_of p)) f);
              keeps = ok;
            }
        go (Some e) h =
            let f : item_of kind k (ledger_of p) ≡ Some (as_item e) = find_erase k ∙ ap (seen as_item) h in
            record {
              rest = told StruckOut (e ∷ []);
              tells = refl;
              quiet = refl;
              right = subst (λ (o : Option (Item Key Value)). InvalidateRight o Struck (told StruckOut (e ∷ []))) (sym f) (refl, refl);
              follows =
                  leave_erase kind p ok (e ∷ []) (λ a i. elim i [ inl g ↦ subst (λ (z : Entry Key Value). In z p.touch) (sym g) (there k e h) | inr z ↦ absurd z ])
                  ∙ sym (ap (λ (o : Option (Item Key Value)). upon_invalidate o (ledger_of p)) f);
              keeps = leave_kept kind p ok (e ∷ []);
            }

    -- ---- insert

    pub record Came (k : Key) (v : Value) (now : ℕ) (o : Outcome Key Value) : Type 0 where
      pub rest : List Departure
      pub tells : o.departures ≡ ds ++ rest
      pub quiet : told_by by_pass rest ≡ []
      pub right : InsertRight kind choices sizes (ledger_of p) k v (item_of kind k (ledger_of p)) o.answer rest
      pub follows : ledger_of o.state ≡ upon_insert kind choices sizes k v now (takes_in o.answer) (outvoted rest) (item_of kind k (ledger_of p)) (ledger_of p)
      pub keeps : Coherent kind o.state

    next_erase : (ledger_of p).next ≡ p.next
    unfolding ledger_of
    next_erase = refl

    fullness : full sizes p ≡ true → sizes.cells ≤ length (ledger_of p).touch
    unfolding ledger_of
    fullness h = omega (arith, leb-true sizes.cells (length p.touch) h, length-map p.touch as_item)

    roomy : full sizes p ≡ false → sizes.cells ≤ length (ledger_of p).touch → ⊥
    unfolding ledger_of
    roomy h c = omega (arith, leb-false sizes.cells (length p.touch) h, length-map p.touch as_item)

    -- the chosen cell was nobody's
    alone_in : (q : State Key Value) (k : Key) (v : Value) (now : ℕ) → times free (cells_of (joined kind choices sizes free k v now q).touch) ≤ 1 → tally (λ (x : Entry Key Value). eqb x.cell free) q.touch ≡ 0
    unfolding admit
    alone_in q k v now h =
        let new = newcomer kind free k v now q.next in
        let c : Entry Key Value → Bool = λ x. eqb x.cell free in
        let a : tally (λ n. eqb n free) (cells_of (q.touch ++ (new ∷ []))) ≡ tally (λ (x : Entry Key Value). eqb x.cell free) (q.touch ++ (new ∷ [])) = tally_map (λ (x : Entry Key Value). x.cell) (λ n. eqb n free) (q.touch ++ (new ∷ [])) in
        let b : tally (λ (x : Entry Key Value). eqb x.cell free) (q.touch ++ (new ∷ [])) ≡ tally (λ (x : Entry Key Value). eqb x.cell free) q.touch + (1 + 0) =
        rw (eq-eqb free free refl) at (tally_append (λ (x : Entry Key Value). eqb x.cell free) q.touch (new ∷ [])) in
        omega (arith, a, b, h)

    module _ (law : Lawful kind) (room : p.next < top) (k : Key) (v : Value) (now : ℕ) where
      module _ (h : held kind k p ≡ None) where
        f : item_of kind k (ledger_of p) ≡ None
        f = find_erase k ∙ ap (seen as_item) h

        by_none : (P : Option (Item Key Value) → Type 0) → P None → P (item_of kind k (ledger_of p))
        by_none P x = subst P (sym f) x

        upon : (taken : Bool) (n : List ℕ) → upon_insert kind choices sizes k v now taken n (item_of kind k (ledger_of p)) (ledger_of p) ≡ cond taken (newly kind choices sizes k v now n (ledger_of p)) (ledger_of p)
        upon taken n = ap (λ (o : Option (Item Key Value)). upon_insert kind choices sizes k v now taken n o (ledger_of p)) f

        fits_came : fitting kind choices (ledger_of p) k v ≡ true → times free (cells_of (came kind choices sizes free k v now fits_in p ds).state.touch) ≤ 1 → Came k v now (came kind choices sizes free k v now fits_in p ds)
        fits_came t fr =
            elim (cases_Bool (full sizes p)) [
              | inl u ↦ rw u (record {
                rest = [];
                tells = sym (append-nil ds);
                quiet = refl;
                right = by_none (λ o. InsertRight kind choices sizes (ledger_of p) k v o (Refused NoCell) []) (right_full kind choices sizes (ledger_of p) k v t (fullness u));
                follows = sym (upon false []);
                keeps = ok;
              })
              | inr u ↦
                  let alone = alone_in p k v now (rw u at fr) in
                  rw u (record {
                    rest = [];
                    tells = sym (append-nil ds);
                    quiet = refl;
                    right = by_none (λ o. InsertRight kind choices sizes (ledger_of p) k v o (New p.next) [])
                        (subst (λ (n : ℕ). InsertRight kind choices sizes (ledger_of p) k v None (New n) []) next_erase (right_fits kind choices sizes (ledger_of p) k v t (roomy u)));
                    follows =
                        opened_erase (joined kind choices sizes free k v now p)
                        ∙ ap (opened_after kind choices sizes) (admit_erase kind law p ok free k v now alone choices.life)
                        ∙ sym (upon true [] ∙ rw t);
                    keeps = sketch_kept kind (joined kind choices sizes free k v now p) (admit_kept kind law p ok free k v now alone h room choices.life) (opened_sketch kind choices sizes (joined kind choices sizes free k v now p)).sketch;
                  })
            ]

        abbrev run : List (Entry Key Value)
        run = run_of kind choices sizes p ok k v

        run_from : (a : Entry Key Value) → In a run → In a p.touch
        run_from a i = in_freeing (λ (x : Entry Key Value). x.weight) (kind.weighs k v) a p.touch i

        -- the run, as the ledger takes it
        run_taken : looked (λ (i : Item Key Value). i.ticket) (ledger_of p).touch (outvoted (told Outvoted run)) ≡ map as_item run
        unfolding ledger_of
        run_taken =
            ap (looked (λ (i : Item Key Value). i.ticket) (map as_item p.touch)) (outvoted_told run)
            ∙ looked_again as_item (λ (i : Item Key Value). i.ticket) p.touch run ok.tickets run_from

        told_run : told Outvoted run ≡ telling Outvoted (leaving kind choices sizes (ledger_of p) k v)
        told_run = sym (map_again (λ (i : Item Key Value). record { ticket = i.ticket; cause = Outvoted }) as_item run) ∙ ap (telling Outvoted) (run_erase kind choices sizes p ok k v)

        nil_none : {A : Type 0} (xs : List A) → length xs ≡ 0 → none xs ≡ true
        nil_none [] e = refl
        nil_none (x ∷ xs) e = absurd (omega arith)

        none_nil : {A : Type 0} (xs : List A) → none xs ≡ true → xs ≡ []
        none_nil [] e = refl
        none_nil (x ∷ xs) e = absurd (both_ways false refl e)

        still_none : held kind k (leave run p) ≡ None
        unfolding leave
        still_none =
            let mine : Entry Key Value → Bool = λ x. kind.alike x.key k in
            tally_none mine (without (λ (x : Entry Key Value). among (cells_of run) x.cell) p.touch) (omega (arith, first_none mine p.touch h, tally_without mine (λ (x : Entry Key Value). among (cells_of run) x.cell) p.touch))

        leave_next : (leave run p).next ≡ p.next
        unfolding leave
        leave_next = refl

        wins_came : fitting kind choices (ledger_of p) k v ≡ false → wins kind choices sizes (ledger_of p) k v ≡ true
            → times free (cells_of (came kind choices sizes free k v now (outvotes run) p ds).state.touch) ≤ 1 → Came k v now (came kind choices sizes free k v now (outvotes run) p ds)
        wins_came t w fr =
            elim (cases_Bool (none run && full sizes p)) [
              | inl u ↦
                  let us = and_parts (none run) (full sizes p) u in
                  let nil : leaving kind choices sizes (ledger_of p) k v ≡ [] = sym (run_erase kind choices sizes p ok k v) ∙ ap (map as_item) (none_nil run us.0) in
                  rw u (record {
                    rest = [];
                    tells = sym (append-nil ds);
                    quiet = refl;
                    right = by_none (λ o. InsertRight kind choices sizes (ledger_of p) k v o (Refused NoCell) []) (right_wins_full kind choices sizes (ledger_of p) k v t w nil (fullness us.1));
                    follows = sym (upon false []);
                    keeps = ok;
                  })
              | inr u ↦
                  let kept' = leave_kept kind p ok run in
                  let alone = alone_in (leave run p) k v now (rw u at fr) in
                  let no_cell : length (leaving kind choices sizes (ledger_of p) k v) ≡ 0 → sizes.cells ≤ length (ledger_of p).touch → ⊥ =
                  λ z c. elim (and_cases (none run) (full sizes p) u) [
                    | inl a ↦ both_ways (none run) a (nil_none run (sym (length-map run as_item) ∙ ap length (run_erase kind choices sizes p ok k v) ∙ z))
                    | inr a ↦ roomy a c
                  ] in
                  rw u (record {
                    rest = told Outvoted run;
                    tells = refl;
                    quiet = told_no by_pass Outvoted refl run;
                    right = by_none (λ o. InsertRight kind choices sizes (ledger_of p) k v o (New p.next) (told Outvoted run))
                        (subst (λ (r : List Departure). InsertRight kind choices sizes (ledger_of p) k v None (New p.next) r) (sym told_run)
                        (subst (λ (n : ℕ). InsertRight kind choices sizes (ledger_of p) k v None (New n) (telling Outvoted (leaving kind choices sizes (ledger_of p) k v))) next_erase (right_wins kind choices sizes (ledger_of p) k v t w no_cell)));
                    follows =
                        admit_erase kind law (leave run p) kept' free k v now alone choices.life
                        ∙ ap (add_item choices.life k v (kind.weighs k v) now) (leave_erase kind p ok run run_from ∙ ap (λ (is : List (Item Key Value)). remove is (ledger_of p)) (sym run_taken))
                        ∙ sym (upon true (outvoted (told Outvoted run)) ∙ rw t);
                    keeps = admit_kept kind law (leave run p) kept' free k v now alone still_none (rw leave_next room) choices.life;
                  })
            ]

        loses_came : fitting kind choices (ledger_of p) k v ≡ false → wins kind choices sizes (ledger_of p) k v ≡ false → Came k v now (came kind choices sizes free k v now loses p ds)
        loses_came t w = record {
          rest = [];
          tells = sym (append-nil ds);
          quiet = refl;
          right = by_none (λ o. InsertRight kind choices sizes (ledger_of p) k v o TurnedAway []) (right_loses kind choices sizes (ledger_of p) k v t w);
          follows = sym (upon false []);
          keeps = ok;
        }

        came_right : times free (cells_of (came kind choices sizes free k v now (verdict kind choices k v p) p ds).state.touch) ≤ 1 → Came k v now (came kind choices sizes free k v now (verdict kind choices k v p) p ds)
        came_right fr =
            let is = verdict_is kind choices sizes p ok k v in
            elim (cases_Bool (fitting kind choices (ledger_of p) k v)) [
              | inl t ↦ let e : verdict kind choices k v p ≡ fits_in = is ∙ rw t in rw e (fits_came t (rw e at fr))
              | inr t ↦ elim (cases_Bool (wins kind choices sizes (ledger_of p) k v)) [
                | inl w ↦ let e : verdict kind choices k v p ≡ outvotes run = is ∙ rw (t, w) in rw e (wins_came t w (rw e at fr))
                | inr w ↦ let e : verdict kind choices k v p ≡ loses = is ∙ rw (t, w) in rw e (loses_came t w)
              ]
            ]

      pub inserted_right : times free (cells_of (inserted kind choices sizes free k v now (held kind k p) p ds).state.touch) ≤ 1 → Came k v now (inserted kind choices sizes free k v now (held kind k p) p ds)
      inserted_right = go (held kind k p) refl
        where
          go : (x : Option (Entry Key Value)) → held kind k p ≡ x → times free (cells_of (inserted kind choices sizes free k v now x p ds).state.touch) ≤ 1 → Came k v now (inserted kind choices sizes free k v now x p ds)
          go None h fr = came_right h fr
          go (Some e) h fr =
              let g : item_of kind k (ledger_of p) ≡ Some (as_item e) = find_erase k ∙ ap (seen as_item) h in
              record {
                rest = [];
                tells = sym (append-nil ds);
                quiet = refl;
                right = subst (λ (o : Option (Item Key Value)). InsertRight kind choices sizes (ledger_of p) k v o (Replaced e.ticket) []) (sym g) (refl, refl);
                follows =
                    replace_erase kind p ok e (there k e h) choices.life v (kind.weighs k v) now
                    ∙ sym (ap (λ (o : Option (Item Key Value)). upon_insert kind choices sizes k v now false [] o (ledger_of p)) g);
                keeps = replace_kept kind p ok e (there k e h) choices.life v (kind.weighs k v) now;
              }

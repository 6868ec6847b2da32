-- A whole call is right by the ledger of the state before it, the ledger follows to that of the state after it, and the state stays coherent.
use Rattle.std.proofs.Common.{◌≡◌, ℕ, ◌<◌, ◌≤◌, false, leb, List, [], ◌++◌, sym, refl, ap, ◌∙◌, subst, inl, inr, arith}
use Rattle.std.proofs.lemmas.Bool.{cases_Bool, both_ways}
use Rattle.std.proofs.lemmas.List.{append-nil}
use Rattle.rules.specs.declared.choices.Choices.{Choices}
use Rattle.rules.specs.declared.call.Call.{Call}
use Rattle.rules.specs.declared.call.Call.TheVariants.{Get, Contains, Insert, Invalidate, InvalidateAll}
use Rattle.rules.specs.declared.answer.Answer.TheVariants.{Yes, No}
use Rattle.rules.specs.declared.departure.Cause.TheVariants.{LivedOut, IdledOut, Trimmed, SweptOut}
use Rattle.rules.specs.declared.departure.Departure.{Departure}
use Rattle.rules.specs.Kinds.{Kind, Lawful}
use Rattle.rules.specs.Entries.{Sizes, State}
use Rattle.rules.specs.Limits.{top, latest}
use Rattle.rules.specs.Passes.{life_pass, idle_pass, trim_pass, after_life, after_idle, told, cells_of, passed, passes_told, leave}
use Rattle.rules.specs.Calls.{Outcome, held, got, asked, struck, inserted, counted, step}
use Rattle.rules.specs.Items.{Item, Ledger, clearing, sweep_items}
use Rattle.rules.specs.Ledger.{is_outvoted, item_of, is_hit, takes_in, counting, settled, outvoted, upon_get, upon_insert, upon_invalidate, entered}
use Rattle.rules.specs.Account.{times, Running, HitsRight, InsertRight, InvalidateRight, Right}
use Rattle.rules.specs.Agreement.{as_item, ledger_of, Coherent}
use Rattle.rules.proofs.Erasing.{map_again, passed_kept, told_same}
use Rattle.rules.proofs.Settling.{told_by_append, told_no, settled_erase}
use Rattle.rules.proofs.Steps.{got_right, asked_right, struck_right, inserted_right}

module _ {Key Value : Type 0} (kind : Kind Key Value) (choices : Choices) (sizes : Sizes) (free : ℕ) where
  pub record Good (s : State Key Value) (c : Call Key Value) (o : Outcome Key Value) : Type 0 where
    pub right : Right kind choices sizes (ledger_of s) c o.answer o.departures
    pub follows : ledger_of o.state ≡ entered kind choices sizes (ledger_of s) c o.answer o.departures
    pub keeps : Coherent kind o.state

  passes_outvote : (now : ℕ) (s : State Key Value) → outvoted (passes_told choices now s) ≡ []
  unfolding passes_told
  passes_outvote now s =
      told_by_append is_outvoted (told LivedOut (life_pass choices now s)) (told IdledOut (idle_pass choices now (after_life choices now s)) ++ told Trimmed (trim_pass choices now (after_idle choices now s)))
      ∙ (λ i. told_no is_outvoted LivedOut refl (life_pass choices now s) i ++ outvoted (told IdledOut (idle_pass choices now (after_life choices now s)) ++ told Trimmed (trim_pass choices now (after_idle choices now s))))
      ∙ told_by_append is_outvoted (told IdledOut (idle_pass choices now (after_life choices now s))) (told Trimmed (trim_pass choices now (after_idle choices now s)))
      ∙ (λ i. told_no is_outvoted IdledOut refl (idle_pass choices now (after_life choices now s)) i ++ told_no is_outvoted Trimmed refl (trim_pass choices now (after_idle choices now s)) i)

  pub passed_next : (now : ℕ) (s : State Key Value) → (passed choices now s).next ≡ s.next
  unfolding passed leave
  passed_next now s = refl

  module _ (s : State Key Value) (ok : Coherent kind s) where
    get_good : (k : Key) (now : ℕ) → Good s (Get k now) (step kind choices sizes free s (Get k now))
    unfolding step Right entered
    get_good k now =
        elim (cases_Bool (leb now latest)) [
          | inl t ↦
              let p = passed choices now s in
              let ds = passes_told choices now s in
              let o = got choices now (held kind k p) (counted kind k p) ds in
              let g = got_right kind choices sizes free p (passed_kept kind choices now s ok) ds k now in
              let E = sym (settled_erase kind choices now s ok o.departures [] (g.tells ∙ sym (append-nil ds)) refl) in
              rw t (record {
                right = rw t (record {
                  tells = g.tells ∙ told_same kind choices now s ok ∙ sym (append-nil (clearing choices now (ledger_of s)));
                  hits = subst (λ (l : Ledger Key Value). HitsRight kind choices l k now o.answer) E g.right;
                });
                follows = rw t (g.follows ∙ ap (λ (l : Ledger Key Value). upon_get now (is_hit o.answer) (item_of kind k l) (counting kind k l)) E);
                keeps = g.keeps;
              })
          | inr t ↦ rw t (record { right = rw t (record { answer = refl; nobody = refl }); follows = rw t; keeps = ok })
        ]

    contains_good : (k : Key) (now : ℕ) → Good s (Contains k now) (step kind choices sizes free s (Contains k now))
    unfolding step Right entered
    contains_good k now =
        elim (cases_Bool (leb now latest)) [
          | inl t ↦
              let p = passed choices now s in
              let ds = passes_told choices now s in
              let o = asked choices now (held kind k p) p ds in
              let g = asked_right kind choices sizes free p (passed_kept kind choices now s ok) ds k now in
              let E = sym (settled_erase kind choices now s ok o.departures [] (g.tells ∙ sym (append-nil ds)) refl) in
              rw t (record {
                right = rw t (record {
                  tells = g.tells ∙ told_same kind choices now s ok ∙ sym (append-nil (clearing choices now (ledger_of s)));
                  says_yes = subst (λ (l : Ledger Key Value). (i : Item Key Value) → Running kind choices l k now i → o.answer ≡ Yes) E g.says_yes;
                  says_no = subst (λ (l : Ledger Key Value). ((i : Item Key Value) → Running kind choices l k now i → ⊥) → o.answer ≡ No) E g.says_no;
                });
                follows = rw t (ap ledger_of g.stays ∙ E);
                keeps = subst (λ (q : State Key Value). Coherent kind q) (sym g.stays) (passed_kept kind choices now s ok);
              })
          | inr t ↦ rw t (record { right = rw t (record { answer = refl; nobody = refl }); follows = rw t; keeps = ok })
        ]

    invalidate_good : (k : Key) (now : ℕ) → Good s (Invalidate k now) (step kind choices sizes free s (Invalidate k now))
    unfolding step Right entered
    invalidate_good k now =
        elim (cases_Bool (leb now latest)) [
          | inl t ↦
              let p = passed choices now s in
              let ds = passes_told choices now s in
              let o = struck (held kind k p) p ds in
              let g = struck_right kind choices sizes free p (passed_kept kind choices now s ok) ds k in
              let E = sym (settled_erase kind choices now s ok o.departures g.rest g.tells g.quiet) in
              rw t (record {
                right = rw t (
                  g.rest,
                  g.tells ∙ ap (λ (d : List Departure). d ++ g.rest) (told_same kind choices now s ok),
                  subst (λ (l : Ledger Key Value). InvalidateRight (item_of kind k l) o.answer g.rest) E g.right,
                );
                follows = rw t (g.follows ∙ ap (λ (l : Ledger Key Value). upon_invalidate (item_of kind k l) l) E);
                keeps = g.keeps;
              })
          | inr t ↦ rw t (record { right = rw t (record { answer = refl; nobody = refl }); follows = rw t; keeps = ok })
        ]

    insert_good : Lawful kind → s.next < top → (k : Key) (v : Value) (now : ℕ) → times free (cells_of (step kind choices sizes free s (Insert k v now)).state.touch) ≤ 1
        → Good s (Insert k v now) (step kind choices sizes free s (Insert k v now))
    unfolding step Right entered
    insert_good law room k v now fr =
        elim (cases_Bool (leb now latest)) [
          | inl t ↦
              let p = passed choices now s in
              let ds = passes_told choices now s in
              let o = inserted kind choices sizes free k v now (held kind k p) p ds in
              let D = told_same kind choices now s ok in
              let g = inserted_right kind choices sizes free p (passed_kept kind choices now s ok) ds law (subst (λ (n : ℕ). n < top) (sym (passed_next now s)) room) k v now (rw t at fr) in
              let n : outvoted g.rest ≡ outvoted o.departures =
              sym (ap outvoted g.tells ∙ told_by_append is_outvoted ds g.rest ∙ ap (λ (l : List ℕ). l ++ outvoted g.rest) (passes_outvote now s)) in
              let E = sym (settled_erase kind choices now s ok o.departures g.rest g.tells g.quiet) in
              rw t (record {
                right = rw t (
                  g.rest,
                  g.tells ∙ ap (λ (d : List Departure). d ++ g.rest) D,
                  subst (λ (l : Ledger Key Value). InsertRight kind choices sizes l k v (item_of kind k l) o.answer g.rest) E g.right,
                );
                follows = rw t
                    (g.follows
                    ∙ ap (λ (l : Ledger Key Value). upon_insert kind choices sizes k v now (takes_in o.answer) (outvoted g.rest) (item_of kind k l) l) E
                    ∙ ap (λ (m : List ℕ). upon_insert kind choices sizes k v now (takes_in o.answer) m (item_of kind k (settled o.departures (ledger_of s))) (settled o.departures (ledger_of s))) n);
                keeps = g.keeps;
              })
          | inr t ↦ rw t (record { right = rw t (record { answer = refl; nobody = refl }); follows = rw t; keeps = ok })
        ]

    sweep_good : Good s InvalidateAll (step kind choices sizes free s InvalidateAll)
    unfolding step Right entered ledger_of sweep_items
    sweep_good = record {
      right = (refl, sym (map_again (λ (i : Item Key Value). record { ticket = i.ticket; cause = SweptOut }) as_item s.touch));
      follows = refl;
      keeps = record {
        cells = λ n. omega arith;
        tickets = λ n. omega arith;
        keys = λ k. omega arith;
        hashes = λ e i. absurd i;
        below = λ e i. absurd i;
        listed = λ n a. absurd (both_ways false refl a);
        once = λ n. omega arith;
      };
    }

    pub good : Lawful kind → s.next < top → (c : Call Key Value) → times free (cells_of (step kind choices sizes free s c).state.touch) ≤ 1 → Good s c (step kind choices sizes free s c)
    good law room (Get k now) fr = get_good k now
    good law room (Contains k now) fr = contains_good k now
    good law room (Insert k v now) fr = insert_good law room k v now fr
    good law room (Invalidate k now) fr = invalidate_good k now
    good law room InvalidateAll fr = sweep_good

-- A run is built call by call from what each call promises, and its log is then one that the ledger goes through.
use Rattle.std.proofs.Common.{◌≡◌, ℕ, zero, suc, ◌+◌, ◌^◌, ◌<◌, ◌≤◌, eqb, List, [], ◌∷◌, ◌++◌, length, take, None, sym, refl, ap, ◌∙◌, subst, arith}
use Rattle.rules.specs.Fronts.{tally}
use Rattle.rules.specs.declared.choices.Choices.{Choices}
use Rattle.rules.specs.declared.call.Call.{Call}
use Rattle.rules.specs.Kinds.{Kind, Lawful}
use Rattle.rules.specs.Entries.{Sizes, State, fresh}
use Rattle.rules.specs.Limits.{top}
use Rattle.rules.specs.Passes.{cells_of}
use Rattle.rules.specs.Calls.{Outcome}
use Rattle.rules.specs.Runs.{Turn, Line, after, line, end, log}
use Rattle.rules.specs.Items.{Ledger, empty, tickets_of}
use Rattle.rules.specs.Ledger.{handing, follow}
use Rattle.rules.specs.Account.{Accounted, times, told_tickets, all_told, all_handed, held_tickets, Right, Free, AllFree}
use Rattle.rules.specs.Served.{Through, Served, Ran, Does, WentOn}
use Rattle.rules.specs.Agreement.{Agrees}
use Rattle.rules.proofs.Fronts.{tally_append}
use Rattle.rules.proofs.Rightness.{good}
use Rattle.rules.proofs.Telling.{bears}
use Rattle.rules.proofs.Standing.{Stands, restand, turn_stands, run_stands, ledger_on, fresh_stands, fresh_next, bears_held, in_turn_of, had_item, account}

module _ {Key Value : Type 0} (kind : Kind Key Value) (choices : Choices) (sizes : Sizes) where
  -- ---- one call more

  log_more : (s : State Key Value) (ts : List (Turn Key Value)) (t : Turn Key Value)
      → log kind choices sizes s (ts ++ (t ∷ [])) ≡ log kind choices sizes s ts ++ (line kind choices sizes (end kind choices sizes s ts) t ∷ [])
  unfolding log end
  log_more s [] t = refl
  log_more s (u ∷ ts) t = ap (λ (l : List (Line Key Value)). line kind choices sizes s u ∷ l) (log_more (after kind choices sizes s u) ts t)

  end_more : (s : State Key Value) (ts : List (Turn Key Value)) (t : Turn Key Value) → end kind choices sizes s (ts ++ (t ∷ [])) ≡ after kind choices sizes (end kind choices sizes s ts) t
  unfolding end
  end_more s [] t = refl
  end_more s (u ∷ ts) t = end_more (after kind choices sizes s u) ts t

  free_more : (s : State Key Value) (ts : List (Turn Key Value)) (t : Turn Key Value) → AllFree kind choices sizes s ts → Free kind choices sizes (end kind choices sizes s ts) t → AllFree kind choices sizes s (ts ++ (t ∷ []))
  unfolding AllFree end
  free_more s [] t fr f = (f, tt)
  free_more s (u ∷ ts) t fr f = (fr.0, free_more (after kind choices sizes s u) ts t fr.1 f)

  log_length : (s : State Key Value) (ts : List (Turn Key Value)) → length (log kind choices sizes s ts) ≡ length ts
  unfolding log
  log_length s [] = refl
  log_length s (u ∷ ts) = ap suc (log_length (after kind choices sizes s u) ts)

  pub ran_none : (s : State Key Value) → Ran kind choices sizes s [] s
  unfolding log end AllFree
  ran_none s = record { turns = []; told = refl; ends = refl; free = tt }

  pub ran_more : (start : State Key Value) (lines : List (Line Key Value)) (s : State Key Value) → Ran kind choices sizes start lines s → (t : Turn Key Value) → Free kind choices sizes s t
      → Ran kind choices sizes start (lines ++ (line kind choices sizes s t ∷ [])) (after kind choices sizes s t)
  ran_more start lines s r t f =
      let e = r.ends in
      record {
        turns = r.turns ++ (t ∷ []);
        told = log_more start r.turns t ∙ (λ i. r.told i ++ (line kind choices sizes (e i) t ∷ []));
        ends = end_more start r.turns t ∙ ap (λ (z : State Key Value). after kind choices sizes z t) e;
        free = free_more start r.turns t r.free (subst (λ (z : State Key Value). Free kind choices sizes z t) (sym e) f);
      }

  -- the same from what a call promises
  pub ran_does : (start : State Key Value) (lines : List (Line Key Value)) (s : State Key Value) → Ran kind choices sizes start lines s → (c : Call Key Value) (o : Outcome Key Value) → Does kind choices sizes s c o
      → Ran kind choices sizes start (lines ++ (record { call = c; answer = o.answer; departures = o.departures } ∷ [])) o.state
  ran_does start lines s r c o d =
      let t : Turn Key Value = record { free = d.free; call = c } in
      subst (λ (p : Outcome Key Value). Ran kind choices sizes start (lines ++ (record { call = c; answer = p.answer; departures = p.departures } ∷ [])) p.state) d.steps
      (ran_more start lines s r t (subst (λ (p : Outcome Key Value). times d.free (cells_of p.state.touch) ≤ 1) (sym d.steps) d.alone))

  -- ---- the theorem of a log

  accounted_of : (s : State Key Value) (l : Ledger Key Value) (told handed : List ℕ) → Stands kind choices sizes s l (λ n. times n told) (λ n. times n handed) → Accounted told handed (tickets_of l.touch)
  accounted_of s l told handed st =
      let h : (n : ℕ) → times n (tickets_of l.touch) ≡ tally (bears n) s.touch = λ n. ap (times n) (sym (in_turn_of kind choices sizes s l st.same)) ∙ bears_held kind choices sizes s n in
      record {
        only_handed = λ t e. omega (arith, st.sums t);
        once = λ t. omega (arith, st.sums t, st.one t);
        others_held = λ t e z. omega (arith, st.sums t, h t);
        held_others = λ t e. (omega (arith, st.sums t, h t), omega (arith, st.sums t, st.one t, h t));
      }

  goes_through : Lawful kind → (ts : List (Turn Key Value)) (s : State Key Value) (l : Ledger Key Value) (told handed : List ℕ)
      → Stands kind choices sizes s l (λ n. times n told) (λ n. times n handed) → s.next + length ts < top → AllFree kind choices sizes s ts
      → Through kind choices sizes l told handed (log kind choices sizes s ts)
  unfolding Through log AllFree
  goes_through law [] s l told handed st room fr = accounted_of s l told handed st
  goes_through law (t ∷ ts) s l told handed st room fr =
      let x = line kind choices sizes s t in
      let s' = after kind choices sizes s t in
      let l' = ledger_on kind choices sizes l x in
      let one = turn_stands kind choices sizes law s l (λ n. times n told) (λ n. times n handed) t st (omega arith) fr.0 in
      let g = good kind choices sizes t.free s st.ok law (omega arith) t.call fr.0 in
      let st' = restand kind choices sizes s' l' (λ n. times n told + times n (told_tickets x.departures)) (λ n. times n handed + times n (handing x.answer))
      (λ n. times n (told ++ told_tickets x.departures)) (λ n. times n (handed ++ handing x.answer)) one.0
      (λ n. sym (tally_append (λ y. eqb y n) told (told_tickets x.departures))) (λ n. sym (tally_append (λ y. eqb y n) handed (handing x.answer))) in (
        accounted_of s l told handed st,
        had_item kind choices sizes s l st.ok st.same t,
        subst (λ (k : Ledger Key Value). Right kind choices sizes k x.call x.answer x.departures) (sym st.same) g.right,
        goes_through law ts s' l' (told ++ told_tickets x.departures) (handed ++ handing x.answer) st' (omega (arith, one.1)) fr.1,
      )

  -- ---- the first calls of a list

  log_take : (n : ℕ) (s : State Key Value) (ts : List (Turn Key Value)) → log kind choices sizes s (take n ts) ≡ take n (log kind choices sizes s ts)
  unfolding log
  log_take zero s ts = refl
  log_take (suc n) s [] = refl
  log_take (suc n) s (t ∷ ts) = ap (λ (l : List (Line Key Value)). line kind choices sizes s t ∷ l) (log_take n (after kind choices sizes s t) ts)

  free_take : (n : ℕ) (s : State Key Value) (ts : List (Turn Key Value)) → AllFree kind choices sizes s ts → AllFree kind choices sizes s (take n ts)
  unfolding AllFree
  free_take zero s ts fr = tt
  free_take (suc n) s [] fr = tt
  free_take (suc n) s (t ∷ ts) fr = (fr.0, free_take n (after kind choices sizes s t) ts fr.1)

  take_few : (n : ℕ) (ts : List (Turn Key Value)) → length (take n ts) ≤ length ts
  take_few zero ts = omega arith
  take_few (suc n) [] = omega arith
  take_few (suc n) (t ∷ ts) = omega (arith, take_few n ts)

  pub served : Lawful kind → (lines : List (Line Key Value)) (s : State Key Value) → Ran kind choices sizes fresh lines s → length lines < 2 ^ 32 → Served kind choices sizes lines s
  served law lines s r few =
      let n : length r.turns < 2 ^ 32 = omega (arith, log_length fresh r.turns, ap length r.told) in
      record {
        through = subst (Through kind choices sizes empty [] []) r.told
            (goes_through law r.turns fresh empty [] [] (fresh_stands kind choices sizes) (omega (arith, fresh_next kind choices sizes)) r.free);
        in_turn =
            ap (held_tickets) (sym r.ends)
            ∙ (account kind choices sizes law r.turns n r.free).in_turn
            ∙ ap (λ (z : List (Line Key Value)). tickets_of (follow kind choices sizes empty z).touch) r.told;
        on_the_way = λ m.
            let ts = take m r.turns in
            let told : log kind choices sizes fresh ts ≡ take m lines = log_take m fresh r.turns ∙ ap (take m) r.told in
            let free = free_take m fresh r.turns r.free in (
              end kind choices sizes fresh ts,
              record { turns = ts; told = told; ends = refl; free = free },
              (account kind choices sizes law ts (omega (arith, take_few m r.turns)) free).in_turn
                  ∙ ap (λ (z : List (Line Key Value)). tickets_of (follow kind choices sizes empty z).touch) told,
            );
      }

  -- ---- going on

  stands_of : (s : State Key Value) (l : Ledger Key Value) (told handed : List ℕ) → Agrees kind s l told handed → Stands kind choices sizes s l (λ n. times n told) (λ n. times n handed)
  stands_of s l told handed a = record {
    ok = a.coherent;
    same = a.same;
    sums = λ n. omega (arith, a.told_or_held n, bears_held kind choices sizes s n);
    low = a.below;
    one = a.once;
  }

  agrees_of : (s : State Key Value) (l : Ledger Key Value) (told handed : List ℕ) → Stands kind choices sizes s l (λ n. times n told) (λ n. times n handed) → Agrees kind s l told handed
  agrees_of s l told handed st = record {
    coherent = st.ok;
    same = st.same;
    told_or_held = λ n. omega (arith, st.sums n, bears_held kind choices sizes s n);
    below = st.low;
    once = st.one;
  }

  pub went_on : Lawful kind → (start : State Key Value) (l : Ledger Key Value) (told handed : List ℕ) → Agrees kind start l told handed
      → (lines : List (Line Key Value)) (s : State Key Value) → Ran kind choices sizes start lines s → start.next + length lines < top → WentOn kind choices sizes l told handed lines s
  went_on law start l told handed a lines s r room =
      let st = stands_of start l told handed a in
      let few : start.next + length r.turns < top = omega (arith, log_length start r.turns, ap length r.told) in
      let z = (run_stands kind choices sizes law r.turns start l (λ n. times n told) (λ n. times n handed) st few r.free).0 in
      let lines' = log kind choices sizes start r.turns in
      let s' = end kind choices sizes start r.turns in
      let l' = follow kind choices sizes l lines' in
      let stands = restand kind choices sizes s' l' (λ n. times n told + times n (all_told lines')) (λ n. times n handed + times n (all_handed lines'))
      (λ n. times n (told ++ all_told lines')) (λ n. times n (handed ++ all_handed lines')) z
      (λ n. sym (tally_append (λ y. eqb y n) told (all_told lines'))) (λ n. sym (tally_append (λ y. eqb y n) handed (all_handed lines'))) in
      let all : WentOn kind choices sizes l told handed lines' s' = record {
        through = goes_through law r.turns start l told handed st few r.free;
        in_turn = in_turn_of kind choices sizes s' l' stands.same;
        agrees = agrees_of s' l' (told ++ all_told lines') (handed ++ all_handed lines') stands;
      } in
      subst (λ (x : List (Line Key Value)). WentOn kind choices sizes l told handed x s) r.told (subst (WentOn kind choices sizes l told handed lines') r.ends all)

-- a fresh cache agrees with the empty ledger, whatever was chosen and lent
pub fresh_agrees : {Key Value : Type 0} (kind : Kind Key Value) → Agrees kind fresh empty [] []
fresh_agrees kind =
    let choices : Choices = record { capacity = None; life = None; idle = None } in
    let sizes : Sizes = record { cells = 0; words = 0 } in
    agrees_of kind choices sizes fresh empty [] [] (fresh_stands kind choices sizes)

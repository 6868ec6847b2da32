-- Over every list of calls the ledger stays that of the state, and each ticket handed out is told or held: the account.
use Rattle.std.proofs.Common.{◌≡◌, ℕ, ◌+◌, ◌^◌, ◌<◌, ◌≤◌, false, cond, eqb, List, [], ◌∷◌, ◌++◌, length, sym, refl, ap, ◌∙◌, subst, inl, inr, arith}
use Rattle.std.proofs.lemmas.Bool.{cases_Bool, both_ways, eqb-true, ne_eqb}
use Rattle.rules.specs.Fronts.{tally}
use Rattle.rules.specs.declared.choices.Choices.{Choices}
use Rattle.rules.specs.Kinds.{Kind, Lawful}
use Rattle.rules.specs.Entries.{Sizes, Entry, State, fresh}
use Rattle.rules.specs.Limits.{top}
use Rattle.rules.specs.Runs.{Turn, Line, after, line, end, log}
use Rattle.rules.specs.Items.{Item, Ledger, empty, tickets_of}
use Rattle.rules.specs.Ledger.{handing, entered, follow}
use Rattle.rules.specs.Account.{times, told_tickets, all_told, all_handed, Right, Free, AllFree, held_tickets, EachHadItem, Account, state_after, ledger_after}
use Rattle.rules.proofs.Fronts.{tally_append}
use Rattle.rules.specs.Agreement.{as_item, ledger_of, Coherent}
use Rattle.rules.proofs.Erasing.{map_again}
use Rattle.rules.proofs.Hitting.{tally_map}
use Rattle.rules.proofs.Rightness.{good}
use Rattle.rules.proofs.Telling.{bears}
use Rattle.rules.proofs.Tickets.{moved}

module _ {Key Value : Type 0} (kind : Kind Key Value) (choices : Choices) (sizes : Sizes) where
  -- A state and a ledger beside it, where ticket n was told T n times and handed out H n times.
  pub record Stands (s : State Key Value) (l : Ledger Key Value) (T H : ℕ → ℕ) : Type 0 where
    pub ok : Coherent kind s
    pub same : l ≡ ledger_of s
    pub sums : (n : ℕ) → T n + tally (bears n) s.touch ≡ H n
    pub low : (n : ℕ) → s.next ≤ n → H n ≡ 0
    pub one : (n : ℕ) → H n ≤ 1

  pub restand : (s : State Key Value) (l : Ledger Key Value) (T H T' H' : ℕ → ℕ) → Stands s l T H → ((n : ℕ) → T n ≡ T' n) → ((n : ℕ) → H n ≡ H' n) → Stands s l T' H'
  restand s l T H T' H' st t h = record {
    ok = st.ok;
    same = st.same;
    sums = λ n. omega (arith, st.sums n, t n, h n);
    low = λ n e. omega (arith, st.low n e, h n);
    one = λ n. omega (arith, st.one n, h n);
  }

  abbrev pub ledger_on : Ledger Key Value → Line Key Value → Ledger Key Value
  ledger_on l x = entered kind choices sizes l x.call x.answer x.departures

  pub turn_stands : Lawful kind → (s : State Key Value) (l : Ledger Key Value) (T H : ℕ → ℕ) (t : Turn Key Value) → Stands s l T H → s.next < top → Free kind choices sizes s t
      → Stands (after kind choices sizes s t) (ledger_on l (line kind choices sizes s t))
      (λ n. T n + times n (told_tickets (line kind choices sizes s t).departures)) (λ n. H n + times n (handing (line kind choices sizes s t).answer))
      × ((after kind choices sizes s t).next ≤ s.next + 1)
  turn_stands law s l T H t st room fr =
      let g = good kind choices sizes t.free s st.ok law room t.call fr in
      let m = moved kind choices sizes t.free s st.ok t.call in
      let x = line kind choices sizes s t in
      let same : ledger_on l x ≡ ledger_of (after kind choices sizes s t) = ap (λ (k : Ledger Key Value). ledger_on k x) st.same ∙ sym g.follows in
      elim m.numbers [
        | inl h ↦
            let none : (n : ℕ) → times n (handing x.answer) ≡ 0 = λ n. ap (times n) h.0 in (
              record {
                ok = g.keeps;
                same = same;
                sums = λ n. omega (arith, st.sums n, m.counts n);
                low = λ n e. omega (arith, st.low n (omega (arith, h.1)), none n);
                one = λ n. omega (arith, st.one n, none n);
              },
              omega (arith, h.1),
            )
        | inr h ↦
            let is : (n : ℕ) → times n (handing x.answer) ≡ cond (eqb s.next n) 1 0 + 0 = λ n. ap (times n) h.0 in (
              record {
                ok = g.keeps;
                same = same;
                sums = λ n. omega (arith, st.sums n, m.counts n);
                low = λ n e.
                    let other : eqb s.next n ≡ false = ne_eqb s.next n (λ z. omega (arith, h.1, z)) in
                    let no : times n (handing x.answer) ≡ 0 + 0 = rw other at (is n) in
                    omega (arith, st.low n (omega (arith, h.1)), no);
                one = λ n. elim (cases_Bool (eqb s.next n)) [
                  | inl z ↦ let yes1 : times n (handing x.answer) ≡ 1 + 0 = rw z at (is n) in omega (arith, st.low n (omega (arith, eqb-true s.next n z)), yes1)
                  | inr z ↦ let no : times n (handing x.answer) ≡ 0 + 0 = rw z at (is n) in omega (arith, st.one n, no)
                ];
              },
              omega (arith, h.1),
            )
      ]

  pub run_stands : Lawful kind → (ts : List (Turn Key Value)) (s : State Key Value) (l : Ledger Key Value) (T H : ℕ → ℕ)
      → Stands s l T H → s.next + length ts < top → AllFree kind choices sizes s ts
      → Stands (end kind choices sizes s ts) (follow kind choices sizes l (log kind choices sizes s ts))
      (λ n. T n + times n (all_told (log kind choices sizes s ts))) (λ n. H n + times n (all_handed (log kind choices sizes s ts)))
      × ((end kind choices sizes s ts).next ≤ s.next + length ts)
  unfolding end log follow all_told all_handed AllFree
  run_stands law [] s l T H st room fr = (restand s l T H (λ n. T n + 0) (λ n. H n + 0) st (λ n. omega arith) (λ n. omega arith), omega arith)
  run_stands law (t ∷ ts) s l T H st room fr =
      let x = line kind choices sizes s t in
      let s' = after kind choices sizes s t in
      let more = log kind choices sizes s' ts in
      let one = turn_stands law s l T H t st (omega arith) fr.0 in
      let rest = run_stands law ts s' (ledger_on l x) (λ n. T n + times n (told_tickets x.departures)) (λ n. H n + times n (handing x.answer)) one.0 (omega (arith, one.1)) fr.1 in (
        restand (end kind choices sizes s' ts) (follow kind choices sizes (ledger_on l x) more)
            (λ n. T n + times n (told_tickets x.departures) + times n (all_told more)) (λ n. H n + times n (handing x.answer) + times n (all_handed more))
            (λ n. T n + times n (told_tickets x.departures ++ all_told more)) (λ n. H n + times n (handing x.answer ++ all_handed more))
            rest.0
            (λ n. omega (arith, tally_append (λ y. eqb y n) (told_tickets x.departures) (all_told more)))
            (λ n. omega (arith, tally_append (λ y. eqb y n) (handing x.answer) (all_handed more))),
        omega (arith, one.1, rest.1),
      )

  pub fresh_stands : Stands fresh empty (λ n. 0) (λ n. 0)
  unfolding fresh empty ledger_of
  fresh_stands = record {
    ok = record {
      cells = λ n. omega arith;
      tickets = λ n. omega arith;
      keys = λ k. omega arith;
      hashes = λ e i. absurd i;
      below = λ e i. absurd i;
      listed = λ n a. absurd (both_ways false refl a);
      once = λ n. omega arith;
    };
    same = refl;
    sums = λ n. omega arith;
    low = λ n e. refl;
    one = λ n. omega arith;
  }

  pub fresh_next : (fresh {Key = Key} {Value = Value}).next ≡ 1
  unfolding fresh
  fresh_next = refl

  pub bears_held : (s : State Key Value) (n : ℕ) → times n (held_tickets s) ≡ tally (bears n) s.touch
  bears_held s n = tally_map (λ (e : Entry Key Value). e.ticket) (λ x. eqb x n) s.touch

  pub in_turn_of : (s : State Key Value) (l : Ledger Key Value) → l ≡ ledger_of s → held_tickets s ≡ tickets_of l.touch
  unfolding ledger_of
  in_turn_of s l e = sym (ap (λ (k : Ledger Key Value). tickets_of k.touch) e ∙ map_again (λ (i : Item Key Value). i.ticket) as_item s.touch)

  -- each ticket told had an item
  pub had_item : (s : State Key Value) (l : Ledger Key Value) → Coherent kind s → l ≡ ledger_of s → (t : Turn Key Value) → EachHadItem l (line kind choices sizes s t).departures
  had_item s l ok same t n =
      let m = moved kind choices sizes t.free s ok t.call in
      let e : times n (held_tickets s) ≡ times n (tickets_of l.touch) = ap (times n) (in_turn_of s l same) in
      omega (arith, m.before n, bears_held s n, e)

  pub account : Lawful kind → (ts : List (Turn Key Value)) → length ts < 2 ^ 32 → AllFree kind choices sizes fresh ts → Account kind choices sizes ts
  account law ts few fr =
      let r = run_stands law ts fresh empty (λ n. 0) (λ n. 0) fresh_stands (omega (arith, fresh_next)) fr in
      let st = r.0 in
      let s = state_after kind choices sizes ts in
      record {
        accounted = record {
          only_handed = λ t h. omega (arith, st.sums t);
          once = λ t. omega (arith, st.sums t, st.one t);
          others_held = λ t h e. omega (arith, st.sums t, bears_held s t);
          held_others = λ t h. (omega (arith, st.sums t, bears_held s t), omega (arith, st.sums t, st.one t, bears_held s t));
        };
        in_turn = in_turn_of s (ledger_after kind choices sizes ts) st.same;
        next_right = λ t f.
            let g = good kind choices sizes t.free s st.ok law (omega (arith, r.1, fresh_next)) t.call f in
            subst (λ (l : Ledger Key Value). Right kind choices sizes l t.call (line kind choices sizes s t).answer (line kind choices sizes s t).departures) (sym st.same) g.right;
        told_held = λ t. had_item s (ledger_after kind choices sizes ts) st.ok st.same t;
      }

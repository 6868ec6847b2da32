-- The vote: the shortest run that frees a weight is the least popular of all that do.
use Rattle.std.proofs.Common.{◌≡◌, ℕ, zero, suc, ◌-◌, ◌<◌, ◌≤◌, Bool, true, false, cond, ◌&&◌, eqb, ltb, leb, List, [], ◌∷◌, map, length, take, sym, refl, ap, ◌∙◌, subst, inl, inr, arith}
use Rattle.std.proofs.lemmas.Bool.{cases_Bool, eqb-true, eq-eqb, both_ways, and_parts, and_from, leb-true, ltb-true, le-leb, lt-ltb}
use Rattle.rules.specs.Fronts.{total, freeing, In}
use Rattle.sketch.specs.Sketches.{frequency}
use Rattle.rules.specs.declared.choices.Choices.{Choices}
use Rattle.rules.specs.declared.answer.Answer.TheVariants.{New, TurnedAway, Refused}
use Rattle.refusals.specs.declared.Refusal.TheVariants.{NoCell}
use Rattle.rules.specs.declared.departure.Cause.TheVariants.{Outvoted}
use Rattle.rules.specs.Kinds.{Kind}
use Rattle.rules.specs.Entries.{Sizes, Entry, State}
use Rattle.rules.specs.Limits.{within}
use Rattle.rules.specs.Votes.{popularity, verdict, fits_in, outvotes, loses}
use Rattle.rules.specs.Items.{Item, Ledger, weight_of, telling}
use Rattle.rules.specs.Ledger.{popularity_of, fitting}
use Rattle.rules.specs.Account.{Run, Shortest, Within, NewcomerRight}
use Rattle.rules.proofs.Fronts.{in_freeing, map_freeing, map_total}
use Rattle.rules.specs.Agreement.{as_item, ledger_of, Coherent}

module _ {A : Type 0} where
  pub freeing_take : (w : A → ℕ) (n : ℕ) (xs : List A) → freeing w n xs ≡ take (length (freeing w n xs)) xs
  freeing_take w n [] = refl
  freeing_take w n (x ∷ xs) = elim (cases_Bool (eqb n 0)) [ inl e ↦ rw e | inr e ↦ rw e (ap (λ (l : List A). x ∷ l) (freeing_take w (n - w x) xs)) ]

  pub freeing_length : (w : A → ℕ) (n : ℕ) (xs : List A) → length (freeing w n xs) ≤ length xs
  freeing_length w n [] = omega arith
  freeing_length w n (x ∷ xs) = elim (cases_Bool (eqb n 0)) [ inl e ↦ rw e (omega arith) | inr e ↦ rw e (omega (arith, freeing_length w (n - w x) xs)) ]

  pub freeing_enough : (w : A → ℕ) (n : ℕ) (xs : List A) → n ≤ total w xs → n ≤ total w (freeing w n xs)
  freeing_enough w n [] h = h
  freeing_enough w n (x ∷ xs) h =
      elim (cases_Bool (eqb n 0)) [
        | inl e ↦ rw e (omega (arith, eqb-true n 0 e))
        | inr e ↦ rw e (omega (arith, freeing_enough w (n - w x) xs (omega arith)))
      ]

  pub freeing_least : (w : A → ℕ) (n m : ℕ) (xs : List A) → n ≤ total w (take m xs) → length (freeing w n xs) ≤ m
  freeing_least w n m [] h = omega arith
  freeing_least w n zero (x ∷ xs) h = let z : n ≡ 0 = omega arith in rw (eq-eqb n 0 z) (omega arith)
  freeing_least w n (suc m) (x ∷ xs) h =
      elim (cases_Bool (eqb n 0)) [
        | inl e ↦ rw e (omega arith)
        | inr e ↦ rw e (omega (arith, freeing_least w (n - w x) m xs (omega arith)))
      ]

  pub total_mono : (f : A → ℕ) (a b : ℕ) (xs : List A) → a ≤ b → total f (take a xs) ≤ total f (take b xs)
  total_mono f zero b xs h = omega arith
  total_mono f (suc a) zero xs h = absurd (omega arith)
  total_mono f (suc a) (suc b) [] h = omega arith
  total_mono f (suc a) (suc b) (x ∷ xs) h = omega (arith, total_mono f a b xs (omega arith))

  pub total_take : (f : A → ℕ) (a : ℕ) (xs : List A) → total f (take a xs) ≤ total f xs
  total_take f zero xs = omega arith
  total_take f (suc a) [] = omega arith
  total_take f (suc a) (x ∷ xs) = omega (arith, total_take f a xs)

  pub total_same : (f g : A → ℕ) (xs : List A) → ((a : A) → In a xs → f a ≡ g a) → total f xs ≡ total g xs
  total_same f g [] h = refl
  total_same f g (x ∷ xs) h = omega (arith, h x (inl refl), total_same f g xs (λ a i. h a (inr i)))

module _ {Key Value : Type 0} (kind : Kind Key Value) (choices : Choices) (sizes : Sizes) where
  abbrev heavy : Item Key Value → ℕ
  heavy i = i.weight

  -- ---- the vote in the ledger

  module _ (l : Ledger Key Value) (k : Key) (v : Value) where
    -- the shortest run that frees the weight
    abbrev pub leaving : List (Item Key Value)
    leaving = freeing heavy (kind.weighs k v) l.touch

    abbrev pub wins : Bool
    wins =
        (within choices.capacity (kind.weighs k v) && leb (kind.weighs k v) (weight_of leaving))
        && ltb (popularity_of kind l.sketch leaving) (frequency l.sketch (kind.hashed k))

    pub wins_shortest : wins ≡ true → (within choices.capacity (kind.weighs k v) ≡ true) × Shortest kind l k v (length leaving)
    wins_shortest e =
        let w = kind.weighs k v in
        let a = and_parts (within choices.capacity w && leb w (weight_of leaving)) (ltb (popularity_of kind l.sketch leaving) (frequency l.sketch (kind.hashed k))) e in
        let b = and_parts (within choices.capacity w) (leb w (weight_of leaving)) a.0 in
        let t = freeing_take heavy w l.touch in (
          b.0,
          record {
            run = record {
              there = freeing_length heavy w l.touch;
              frees = subst (λ (r : List (Item Key Value)). w ≤ weight_of r) t (leb-true w (weight_of leaving) b.1);
              less_popular = subst (λ (r : List (Item Key Value)). popularity_of kind l.sketch r < frequency l.sketch (kind.hashed k)) t (ltb-true (popularity_of kind l.sketch leaving) (frequency l.sketch (kind.hashed k)) a.1);
            };
            least = λ m r. freeing_least heavy w m l.touch r.frees;
          },
        )

    pub run_wins : within choices.capacity (kind.weighs k v) ≡ true → (n : ℕ) → Run kind l k v n → wins ≡ true
    run_wins c n r =
        let w = kind.weighs k v in
        let pop : Item Key Value → ℕ = λ i. frequency l.sketch (kind.hashed i.key) in
        let enough : w ≤ weight_of leaving = freeing_enough heavy w l.touch (omega (arith, r.frees, total_take heavy n l.touch)) in
        let less : total pop (take (length leaving) l.touch) ≤ total pop (take n l.touch) = total_mono pop (length leaving) n l.touch (freeing_least heavy w n l.touch r.frees) in
        let few : popularity_of kind l.sketch leaving ≤ popularity_of kind l.sketch (take n l.touch) =
        subst (λ (q : List (Item Key Value)). total pop q ≤ total pop (take n l.touch)) (sym (freeing_take heavy w l.touch)) less in
        and_from (within choices.capacity w && leb w (weight_of leaving)) (ltb (popularity_of kind l.sketch leaving) (frequency l.sketch (kind.hashed k)))
        (and_from (within choices.capacity w) (leb w (weight_of leaving)) c (le-leb w (weight_of leaving) enough))
        (lt-ltb (popularity_of kind l.sketch leaving) (frequency l.sketch (kind.hashed k)) (omega (arith, few, r.less_popular)))

    -- ---- each verdict, told

    yes_no : {P : Type 0} → (b : Bool) → b ≡ true → b ≡ false → P
    yes_no b e f = absurd (both_ways b f e)

    -- a run with nobody in it
    due_wins : Within kind choices sizes k v → Shortest kind l k v 0 → wins ≡ true
    due_wins c r = run_wins c 0 r.run

    -- where the vote is won, nobody leaves only if the run that leaves is empty
    due_none : Shortest kind l k v 0 → length leaving ≡ 0
    due_none r = omega (arith, freeing_least heavy (kind.weighs k v) 0 l.touch r.run.frees)

    pub right_fits : fitting kind choices l k v ≡ true → (sizes.cells ≤ length l.touch → ⊥) → NewcomerRight kind choices sizes l k v (New l.next) []
    right_fits f c = record {
      refused = λ n. absurd (c n.taken);
      refused_only = λ e. absurd (let z : ◌≡◌ {A = ℕ} 0 1 = cc in omega arith);
      fits_in = λ e n. (refl, refl);
      votes_in = λ e. yes_no (fitting kind choices l k v) f e;
      in_by_vote = λ e. yes_no (fitting kind choices l k v) f e;
      next_ticket = λ e. refl;
      turned_away = λ e. absurd (both_ways true e refl);
    }

    pub right_full : fitting kind choices l k v ≡ true → sizes.cells ≤ length l.touch → NewcomerRight kind choices sizes l k v (Refused NoCell) []
    right_full f c = record {
      refused = λ n. refl;
      refused_only = λ e. (record { taken = c; due = inl f }, refl);
      fits_in = λ e n. absurd (n refl);
      votes_in = λ e. yes_no (fitting kind choices l k v) f e;
      in_by_vote = λ e. yes_no (fitting kind choices l k v) f e;
      next_ticket = λ e. absurd (both_ways false refl e);
      turned_away = λ e n. absurd (n refl);
    }

    pub right_wins : fitting kind choices l k v ≡ false → wins ≡ true → (length leaving ≡ 0 → sizes.cells ≤ length l.touch → ⊥)
        → NewcomerRight kind choices sizes l k v (New l.next) (telling Outvoted leaving)
    right_wins f w c =
        let s = wins_shortest w in
        record {
          refused = λ n. elim n.due [ inl t ↦ yes_no (fitting kind choices l k v) t f | inr r ↦ absurd (c (due_none r.1) n.taken) ];
          refused_only = λ e. absurd (let z : ◌≡◌ {A = ℕ} 0 1 = cc in omega arith);
          fits_in = λ e n. yes_no (fitting kind choices l k v) e f;
          votes_in = λ e n c m r. refl;
          in_by_vote = λ e t. (s.0, (length leaving, s.1, ap (telling Outvoted) (freeing_take heavy (kind.weighs k v) l.touch)));
          next_ticket = λ e. refl;
          turned_away = λ e. absurd (both_ways true e refl);
        }

    pub right_wins_full : fitting kind choices l k v ≡ false → wins ≡ true → leaving ≡ [] → sizes.cells ≤ length l.touch → NewcomerRight kind choices sizes l k v (Refused NoCell) []
    right_wins_full f w n c =
        let s = wins_shortest w in
        record {
          refused = λ m. refl;
          refused_only = λ e. (record { taken = c; due = inr (s.0, subst (λ (r : List (Item Key Value)). Shortest kind l k v (length r)) n s.1) }, refl);
          fits_in = λ e m. yes_no (fitting kind choices l k v) e f;
          votes_in = λ e m. absurd (m refl);
          in_by_vote = λ e t. absurd (both_ways false refl t);
          next_ticket = λ e. absurd (both_ways false refl e);
          turned_away = λ e m. absurd (m refl);
        }

    pub right_loses : fitting kind choices l k v ≡ false → wins ≡ false → NewcomerRight kind choices sizes l k v TurnedAway []
    right_loses f w = record {
      refused = λ n. elim n.due [ inl t ↦ yes_no (fitting kind choices l k v) t f | inr r ↦ yes_no wins (due_wins r.0 r.1) w ];
      refused_only = λ e. absurd (let z : ◌≡◌ {A = ℕ} 0 1 = cc in omega arith);
      fits_in = λ e n. yes_no (fitting kind choices l k v) e f;
      votes_in = λ e m c n r. yes_no wins (run_wins c n r) w;
      in_by_vote = λ e t. absurd (both_ways false refl t);
      next_ticket = λ e. absurd (both_ways false refl e);
      turned_away = λ e n. (refl, refl);
    }

  -- ---- the verdict of a state

  module _ (s : State Key Value) (ok : Coherent kind s) (k : Key) (v : Value) where
    abbrev pub run_of : List (Entry Key Value)
    run_of = freeing (λ (e : Entry Key Value). e.weight) (kind.weighs k v) s.touch

    pub run_erase : map as_item run_of ≡ leaving (ledger_of s) k v
    unfolding ledger_of
    run_erase = map_freeing as_item heavy (kind.weighs k v) s.touch

    weight_same : total (λ (e : Entry Key Value). e.weight) run_of ≡ weight_of (leaving (ledger_of s) k v)
    weight_same = sym (map_total as_item heavy run_of) ∙ ap weight_of run_erase

    popularity_same : popularity kind s.sketch run_of ≡ popularity_of kind s.sketch (leaving (ledger_of s) k v)
    popularity_same =
        total_same (λ (e : Entry Key Value). frequency s.sketch e.hash) (λ (e : Entry Key Value). frequency s.sketch (kind.hashed e.key)) run_of
        (λ e i. ap (frequency s.sketch) (ok.hashes e (in_freeing (λ (x : Entry Key Value). x.weight) (kind.weighs k v) e s.touch i)))
        ∙ sym (map_total as_item (λ (i : Item Key Value). frequency s.sketch (kind.hashed i.key)) run_of)
        ∙ ap (popularity_of kind s.sketch) run_erase

    pub verdict_is : verdict kind choices k v s ≡ cond (fitting kind choices (ledger_of s) k v) fits_in (cond (wins (ledger_of s) k v) (outvotes run_of) loses)
    unfolding verdict ledger_of
    verdict_is = rw (weight_same, popularity_same)

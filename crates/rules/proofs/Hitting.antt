-- A get and a question for a key, by the item found.
use Rattle.std.proofs.Common.{◌≡◌, ℕ, ◌+◌, ◌≤◌, Bool, true, false, cond, List, [], ◌∷◌, map, Some, None, sym, refl, ap, ◌∙◌, arith}
use Rattle.std.proofs.lemmas.Bool.{both_ways}
use Rattle.rules.specs.Fronts.{tally}
use Rattle.rules.specs.declared.choices.Choices.{Choices}
use Rattle.rules.specs.declared.answer.Answer.TheVariants.{Hit, Miss}
use Rattle.rules.specs.Kinds.{Kind}
use Rattle.rules.specs.Items.{Item, Ledger, lapsed}
use Rattle.rules.specs.Ledger.{item_of}
use Rattle.rules.specs.Account.{Running, HitsRight}
use Rattle.rules.proofs.Fronts.{some_one, in_tally, first_in, first_none, in_first}

pub tally_map : {A B : Type 0} (f : A → B) (q : B → Bool) (xs : List A) → tally q (map f xs) ≡ tally (λ a. q (f a)) xs
tally_map f q [] = refl
tally_map f q (x ∷ xs) = ap (λ (n : ℕ). cond (q (f x)) 1 0 + n) (tally_map f q xs)

module _ {Key Value : Type 0} (kind : Kind Key Value) (choices : Choices) (l : Ledger Key Value)
    (lone : (k : Key) → tally (λ (i : Item Key Value). kind.alike i.key k) l.touch ≤ 1) (k : Key) (now : ℕ) where
  abbrev mine : Item Key Value → Bool
  mine i = kind.alike i.key k

  -- no item, none running
  pub none_running : item_of kind k l ≡ None → (i : Item Key Value) → Running kind choices l k now i → ⊥
  none_running e i r = omega (arith, first_none mine l.touch e, in_tally mine i l.touch r.0 r.1)

  -- the item found is the only one that can be running
  pub only_running : (i : Item Key Value) → item_of kind k l ≡ Some i → (j : Item Key Value) → Running kind choices l k now j → i ≡ j
  only_running i e j r = some_one i j (sym e ∙ in_first mine j l.touch r.0 r.1 (lone k))

  pub lapsed_running : (i : Item Key Value) → item_of kind k l ≡ Some i → lapsed choices now i ≡ true → (j : Item Key Value) → Running kind choices l k now j → ⊥
  lapsed_running i e t j r = both_ways (lapsed choices now j) r.2 (ap (lapsed choices now) (sym (only_running i e j r)) ∙ t)

  pub is_running : (i : Item Key Value) → item_of kind k l ≡ Some i → lapsed choices now i ≡ false → Running kind choices l k now i
  is_running i e f = let r = first_in mine i l.touch e in (r.0, r.1, f)

  pub misses : ((i : Item Key Value) → Running kind choices l k now i → ⊥) → HitsRight kind choices l k now Miss
  misses h = record {
    hit = λ i r. absurd (h i r);
    hit_only = λ v e. absurd (let z : ◌≡◌ {A = ℕ} 0 1 = cc in omega arith);
    miss_otherwise = λ g. refl;
  }

  pub hits : (i : Item Key Value) → item_of kind k l ≡ Some i → lapsed choices now i ≡ false → HitsRight kind choices l k now (Hit i.value)
  hits i e f = record {
    hit = λ j r. ap (λ (x : Item Key Value). Hit x.value) (only_running i e j r);
    hit_only = λ v g. (i, is_running i e f, let h : v ≡ i.value = cc in h);
    miss_otherwise = λ g. absurd (g i (is_running i e f));
  }

-- What depends on the kind of key: which entries belong to a key, and when a map from cells to entries is lawful.
use Rattle.std.specs.Prelude.{◌≡◌, ℕ, Bool, true, false, Some, None, Option}
use Rattle.table.specs.declared.cell.Entry.{Entry}
use Rattle.links.specs.Places.{is}

-- whether there is an entry, with a key that is the same as k
abbrev pub hit : {A B : Type 0} → (A → A → Bool) → Option (Entry A B) → A → Bool
hit alike None k = false
hit alike (Some e) k = alike e.key k

-- each held entry has its key's hash and its kind's weight, and no two held keys are the same
pub record Lawful {A B : Type 0} (alike : A → A → Bool) (hashed : A → ℕ) (weighs : A → B → ℕ) (f : ℕ → Option (Entry A B)) : Type 0 where
  pub hashes : (j : ℕ) (e : Entry A B) → f j ≡ Some e → e.hash ≡ hashed e.key
  pub weights : (j : ℕ) (e : Entry A B) → f j ≡ Some e → e.weight ≡ weighs e.key e.value
  pub single : (i j : ℕ) (d e : Entry A B) → f i ≡ Some d → f j ≡ Some e → alike d.key e.key ≡ true → i ≡ j

-- r is the answer to a search for k: the cell of a held entry with the same key is r, and there is none where r
-- is none
pub record Finds {A B : Type 0} (alike : A → A → Bool) (f : ℕ → Option (Entry A B)) (k : A) (r : Option ℕ) : Type 0 where
  pub exactly : (j : ℕ) → hit alike (f j) k ≡ is r j

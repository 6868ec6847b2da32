-- A kind of key and value, as the rules see it.
use Rattle.std.specs.Prelude.{◌≡◌, ℕ, ◌^◌, ◌<◌, Bool, true, false}

-- Which keys are the same, a key's hash, what a key with a value weighs, and whether entries are weighed at all.
pub record Kind (Key Value : Type 0) : Type 0 where
  pub alike : Key → Key → Bool
  pub hashed : Key → ℕ
  pub weighs : Key → Value → ℕ
  pub weighed : Bool

-- a kind that is given by its parts, as a bound gives it
abbrev pub kind_of : {Key Value : Type 0} → (Key → Key → Bool) → (Key → ℕ) → (Key → Value → ℕ) → Bool → Kind Key Value
kind_of alike hashed weighs weighed = record { alike = alike; hashed = hashed; weighs = weighs; weighed = weighed }

-- the laws that every kind keeps
pub record Lawful {Key Value : Type 0} (kind : Kind Key Value) : Type 0 where
  pub reflexive : (a : Key) → kind.alike a a ≡ true
  pub symmetric : (a b : Key) → kind.alike a b ≡ true → kind.alike b a ≡ true
  pub transitive : (a b c : Key) → kind.alike a b ≡ true → kind.alike b c ≡ true → kind.alike a c ≡ true
  pub same_hash : (a b : Key) → kind.alike a b ≡ true → kind.hashed a ≡ kind.hashed b
  pub same_weight : (a b : Key) (v : Value) → kind.alike a b ≡ true → kind.weighs a v ≡ kind.weighs b v
  pub weighs_one : (a : Key) (v : Value) → kind.weighed ≡ false → kind.weighs a v ≡ 1
  pub narrow : (a : Key) (v : Value) → kind.weighs a v < 2 ^ 32

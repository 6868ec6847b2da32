-- The laws that a bound on a kind gives, one by one, are the laws of the kind.
use Rattle.std.proofs.Common.{◌≡◌, ◌^◌, ◌<◌, true, false}
use Rattle.rules.specs.Kinds.{Kind, Lawful}

pub lawful : {Key Value : Type 0} (kind : Kind Key Value)
    → ((a : Key) → kind.alike a a ≡ true)
    → ((a b : Key) → kind.alike a b ≡ true → kind.alike b a ≡ true)
    → ((a b c : Key) → kind.alike a b ≡ true → kind.alike b c ≡ true → kind.alike a c ≡ true)
    → ((a b : Key) → kind.alike a b ≡ true → kind.hashed a ≡ kind.hashed b)
    → ((a b : Key) (v : Value) → kind.alike a b ≡ true → kind.weighs a v ≡ kind.weighs b v)
    → ((a : Key) (v : Value) → kind.weighed ≡ false → kind.weighs a v ≡ 1)
    → ((a : Key) (v : Value) → kind.weighs a v < 2 ^ 32)
    → Lawful kind
lawful kind same back on hashes weights light bounded = record {
  reflexive = same;
  symmetric = back;
  transitive = on;
  same_hash = hashes;
  same_weight = weights;
  weighs_one = light;
  narrow = bounded;
}

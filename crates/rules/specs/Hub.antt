-- The hub's two kinds: readings by serial, and logs by tag.
use Rattle.std.specs.Prelude.{ℕ, true, false, nat_eq}
use Rattle.kinds.specs.declared.by_serial.Reading.{Reading}
use Rattle.kinds.specs.declared.by_tag.Log.{Log}
use Rattle.kinds.specs.Tags.{folded_tag, same_tag}
use Rattle.kinds.specs.Weights.{tag_weight}
use Rattle.rules.specs.Kinds.{Kind}

-- a serial is its own hash, and nothing is weighed
unfoldable pub serials : Kind ℕ Reading
serials = record { alike = nat_eq; hashed = λ k. k; weighs = λ k v. 1; weighed = false }

-- capitals and small letters make one tag, and a log weighs its length and its tag's
unfoldable pub tags : Kind ℕ Log
tags = record { alike = same_tag; hashed = folded_tag; weighs = λ k v. tag_weight k v.length; weighed = true }

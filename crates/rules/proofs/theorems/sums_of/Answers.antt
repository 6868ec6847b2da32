use Rattle.rules.specs.Kinds.{kind_of}
use Rattle.rules.proofs.Bound.{lawful}
use Rattle.rules.proofs.Sums.{sums_of}
use Rattle.rules.proofs.theorems.sums_of.Goals as goal

pub returns : goal.returns
returns g c =
    let k = g.K.EntryKind in
    let law = g.met.K.EntryKind in
    let kind = kind_of k.alike k.hashed k.weighs k.WEIGHED in
    let laws = lawful kind law.refl law.symm law.trans law.hashes law.weights law.light law.bounded in
    sums_of kind laws

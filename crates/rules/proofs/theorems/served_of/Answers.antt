use Rattle.rules.specs.Kinds.{kind_of}
use Rattle.rules.proofs.Bound.{lawful}
use Rattle.rules.proofs.Served.{served}
use Rattle.rules.proofs.theorems.served_of.Goals as goal

pub returns : goal.returns
returns g c =
    let k = g.K.EntryKind in
    let law = g.met.K.EntryKind in
    let kind = kind_of k.alike k.hashed k.weighs k.WEIGHED in
    let laws = lawful kind law.refl law.symm law.trans law.hashes law.weights law.light law.bounded in
    λ choices sizes lines s r few. served kind choices sizes laws lines s r few

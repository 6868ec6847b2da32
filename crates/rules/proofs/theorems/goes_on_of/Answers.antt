use Rattle.rules.specs.Kinds.{kind_of}
use Rattle.rules.proofs.Bound.{lawful}
use Rattle.rules.proofs.Served.{went_on, fresh_agrees}
use Rattle.rules.proofs.theorems.goes_on_of.Goals as goal

pub returns : goal.returns
returns g c =
    let k = g.K.EntryKind in
    let law = g.met.K.EntryKind in
    let kind = kind_of k.alike k.hashed k.weighs k.WEIGHED in
    let laws = lawful kind law.refl law.symm law.trans law.hashes law.weights law.light law.bounded in
    record {
      goes_on = λ choices sizes start l told handed a lines s r room. went_on kind choices sizes laws start l told handed a lines s r room;
      fresh = fresh_agrees kind;
    }

use Rattle.std.proofs.Common.{rules, sym, ap, ◌∙◌}
use borrow.Author.Tests.{tests}
use Rattle.std.proofs.lemmas.Iterator.Consumers.{YieldsList-from_first}
use Rattle.std.proofs.lemmas.Iterator.Search.{find_from_yields_List}
use Rattle.std.proofs.lemmas.Iterator.Adapters.{option_map_id}
use Rattle.table.specs.Chain.{key_of}
use Rattle.table.specs.Meaning.{state, chain_from, to_come}
use Rattle.index.specs.Meaning.{entries}
use Rattle.index.proofs.Promises.{whole}
use Rattle.index.proofs.Finding.{seek_is, find_held, find_found, Walked}
use Rattle.index.proofs.kept.Index.find.Goals as goal

pub returns : goal.returns
unfolding entries
returns g c =
    let s = state c.args.self.now.table in
    let h = whole c.args.self.now in
    let m = g.K.EntryKind in
    let w = g.met.K.EntryKind in
    let f = key_of m.alike s.cs c.args.key.now in
    let r : Walked m.alike m.hashed s c.args.key.now c.find.result =
    sym (option_map_id c.find.result) ∙ find_from_yields_List f c.find.new.self _ c.find.result c.find.ensures.ran (YieldsList-from_first (λ x. x) to_come _ (c.chain-chain.ensures ∙ ap (chain_from s) c.hash.ensures)) (λ x b q k. search (rules, tests)) ∙ seek_is f _ in
    record {
      held = find_held m.alike m.hashed s h c.args.key.now c.find.result r;
      found = λ l. record { exactly = find_found m.alike m.hashed m.weighs w.symm w.trans w.hashes s h c.args.key.now c.find.result r l };
    }

use Rattle.std.proofs.Common.{◌<◌, ◌^◌, rules}
use Rattle.tuple_text.specs.Refs.{set_value}
use Rattle.judgement.proofs.StoredLemmas.{have_stored, some_weaker}
use Rattle.judgement.proofs.absent.stored_in.Goals as goal

pub returns : goal.returns
returns c =
    let small : c.args.snapshot.now.at < 2 ^ 64 = search rules in
    some_weaker c.namespaces.result
    (λ numbers. have_stored c.args.snapshot.now (set_value c.args.set.set) c.usersets.result.now numbers small c.usersets.ensures)
    c.namespaces.ensures

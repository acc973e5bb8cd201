use Rattle.std.proofs.Common.{arith}
use Rattle.std.proofs.lemmas.Option.{slice_get_within}
use Rattle.version_chains.proofs.node.next_links.Goals as goal

pub returns-in_default-clause-later : goal.returns-in_default-clause-later
returns-in_default-clause-later c jumps i n place here =
    let past = c.in_default.ensures.stands i place in
    let within = slice_get_within c.args.nodes.now i n here in
    absurd (omega (arith, past, within))

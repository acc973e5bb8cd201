use Rattle.std.proofs.Common.{◌++◌, ◌∷◌, []}
use Rattle.windows.proofs.GrowthLemmas.{begins}
use Rattle.windows.proofs.GrownLemmas.{stands}
use Rattle.windows.proofs.laws.grown_log.Goals as goal

pub returns : goal.returns
returns c = λ a b t says.
    let first = begins a b t says in
    let u = first.0 in
    (u, first.1, first.2, stands u t first.2 (c.commits_of_bytes.ensures (a ++ 10 ∷ []) u first.1) (c.entries_of_bytes_rise.ensures (a ++ 10 ∷ []) u first.1))

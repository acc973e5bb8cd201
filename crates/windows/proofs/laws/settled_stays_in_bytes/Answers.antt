use Rattle.std.proofs.Common.{◌++◌, ◌∷◌, [], length}
use Rattle.json_lines.specs.Reading.{parts}
use Rattle.windows.specs.Growth.{HasRisingLines}
use Rattle.windows.proofs.GrowthLemmas.{begins}
use Rattle.windows.proofs.SettledLemmas.{settled_law, still_recorded}
use Rattle.windows.proofs.laws.settled_stays_in_bytes.Goals as goal

pub returns : goal.returns
returns c = λ a b u says.
    let begun = begins a b u says in
    let t = begun.0 in
    let first : HasRisingLines t = record {
      commits = c.commits_of_bytes.ensures (a ++ 10 ∷ []) t begun.1;
      entries = c.entries_of_bytes_rise.ensures (a ++ 10 ∷ []) t begun.1;
    } in
    let whole : HasRisingLines u = record {
      commits = c.commits_of_bytes.ensures ((a ++ 10 ∷ []) ++ b) u says;
      entries = c.entries_of_bytes_rise.ensures ((a ++ 10 ∷ []) ++ b) u says;
    } in (
      t,
      begun.1,
      λ i e at settled evidence more same. (
        still_recorded t u begun.2 i e at,
        settled_law (length (parts a)) t u begun.2 first whole i e at settled evidence more same,
      ),
    )

use Rattle.std.proofs.Common.{◌∙◌, sym}
use Rattle.findings.specs.Findings.{findings_of}
use Rattle.findings.specs.Headline.{IsRightAndFresh}
use Rattle.findings.proofs.EachEntryLemmas.{right_and_fresh, speaks_of_each}
use Rattle.findings.proofs.NewEnemyLemmas.{new_enemy}
use Rattle.windows.proofs.ShownLemmas.{together}
use Rattle.windows.proofs.laws.right_and_fresh_of_windows.Goals as goal

pub returns : goal.returns
returns c = λ t is rising evidence ws show none.
    let clean : IsRightAndFresh t =
    right_and_fresh t (findings_of t evidence) (speaks_of_each t is evidence) (sym (together t evidence rising ws show) ∙ none) in
    (clean, new_enemy t is.versions clean.fresh)

-- The last lines of a run in which nothing was found, and not all was audited.
use Rattle.std.proofs.Common.{◌≡◌, ℕ, Bool, false, List, [], refl}
use Rattle.findings.specs.declared.finding.Finding.{Finding}
use Rattle.follow.specs.Handing.{incomplete_lines, run_report}

pub incomplete : (whole : Bool) (told : List Finding) (entries : ℕ) → whole ≡ false → told ≡ []
    → run_report whole told entries ≡ incomplete_lines entries
incomplete whole told entries less none = rw (less, none) refl

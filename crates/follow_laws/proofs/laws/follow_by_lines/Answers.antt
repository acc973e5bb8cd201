use Rattle.follow_laws.proofs.LineLemmas.{lines_law}
use Rattle.follow_laws.proofs.laws.follow_by_lines.Goals as goal

pub returns : goal.returns
returns c = lines_law (λ bytes t says. record {
  rising = record { commits = c.commits_of_bytes.ensures bytes t says; entries = c.entries_of_bytes_rise.ensures bytes t says };
  formed = c.well_formed_of_bytes.ensures bytes t says;
})

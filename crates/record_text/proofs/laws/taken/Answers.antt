use Rattle.record_text.proofs.Taken.{is_taken}
use Rattle.record_text.proofs.laws.taken.Goals as goal

pub returns : goal.returns
returns c = is_taken

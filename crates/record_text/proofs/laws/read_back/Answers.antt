use Rattle.record_text.proofs.Taken.{is_read_back}
use Rattle.record_text.proofs.laws.read_back.Goals as goal

pub returns : goal.returns
returns c = is_read_back

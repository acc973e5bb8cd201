use Rattle.std.proofs.Common.{rules}
use Rattle.std.proofs.lemmas.Result.{IfOk-weaker}
use Rattle.userset_index.proofs.index.linked.Goals as goal

pub returns : goal.returns
returns c = IfOk-weaker c.of.result _ _ (λ spans is. rw is (search rules)) c.of.ensures

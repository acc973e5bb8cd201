use Rattle.std.proofs.lemmas.Result.{on_ok_weaker}
use Rattle.follow.proofs.FollowerLemmas.{joined}
use Rattle.follow.proofs.heartbeat.push_line.Goals as goal

pub returns : goal.returns
returns c = on_ok_weaker c.push_number-4.result (λ last.
    joined _ _ _ _ _ _ _ _ _ _ _ c.in_ok-push_str.ensures.bytes c.in_ok-push_number.ensures c.in_ok-push_number-2.ensures
    c.in_ok-push_number-3.ensures last) c.push_number-4.ensures

use Rattle.std.proofs.Common.{codes}
use Rattle.new_enemy.proofs.RunLemmas.{says_of_files, says_of_joined}
use Rattle.new_enemy.proofs.run.run_request.Goals as goal

pub returns-in-Joined-clause-says : goal.returns-in-Joined-clause-says
returns-in-Joined-clause-says g c = says_of_joined _ _ c.run_joined.result c.run_joined.ensures

pub returns-in-Audit-clause-says : goal.returns-in-Audit-clause-says
returns-in-Audit-clause-says g c =
    says_of_files _ (codes "audit") _ c.audit_paths.result.status c.audit_paths.result.read c.audit_paths.ensures.runs

pub returns-in-Make-clause-says : goal.returns-in-Make-clause-says
returns-in-Make-clause-says g c =
    says_of_files _ (codes "make") _ c.make_for_path.result.status c.make_for_path.result.read c.make_for_path.ensures.runs

pub returns-in-History-clause-says : goal.returns-in-History-clause-says
returns-in-History-clause-says g c =
    says_of_files _ (codes "history") _ c.history_in_path.result.status c.history_in_path.result.read
    c.history_in_path.ensures.runs

pub returns-in-Follow-clause-says : goal.returns-in-Follow-clause-says
returns-in-Follow-clause-says g c =
    says_of_files _ (codes "follow") _ c.follow_paths.result.status c.follow_paths.result.read c.follow_paths.ensures.runs

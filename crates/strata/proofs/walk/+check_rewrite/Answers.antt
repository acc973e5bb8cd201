use Rattle.std.proofs.Common.{rules}
use Rattle.rewrites.specs.declared.rewrite.Rewrite.{the_lemmas}
use Rattle.strata.proofs.Walks.{places_joined}
use Rattle.strata.proofs.walk.+check_rewrite.Goals as goal

pub check_rewrite-returns-in_err-check_rewrite-in-Minus : goal.check_rewrite-returns-in_err-check_rewrite-in-Minus
check_rewrite-returns-in_err-check_rewrite-in-Minus t c = search (rules, the_lemmas, places_joined)

pub check_rewrite-returns-in_ok-check_rewrite-in-Minus : goal.check_rewrite-returns-in_ok-check_rewrite-in-Minus
check_rewrite-returns-in_ok-check_rewrite-in-Minus t c = search (rules, the_lemmas, places_joined)

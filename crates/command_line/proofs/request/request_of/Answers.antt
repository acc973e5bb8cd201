use Rattle.std.proofs.Common.{◌≡◌, ◌∙◌, ap, subst, option_map, List, Some}
use Rattle.clap.specs.Words.{Row, found_of, rows_of}
use Rattle.command_line.specs.Asked.{IsAuditFound, IsFollowFound}
use Rattle.command_line.proofs.request.request_of.Goals as goal

pub returns-in-audit-default-clause-audit : goal.returns-in-audit-default-clause-audit
returns-in-audit-default-clause-audit c rows t e w n early is found =
    let both : Some (rows_of (found_of c.in_ok-found.field-0.1.now)) ≡ Some rows = c.in_ok-found.ensures.rows ∙ ap (option_map (λ p. p.1)) is in
    let same : rows ≡ rows_of (found_of c.in_ok-found.field-0.1.now) = cc in
    c.audit_of.ensures.asked t e w n early (subst (λ (r : List Row). IsAuditFound r t e w n early) same found)

pub returns-in-follow-default-clause-follow : goal.returns-in-follow-default-clause-follow
returns-in-follow-default-clause-follow c rows t from carry oldest versions heartbeat is found =
    let both : Some (rows_of (found_of c.in_ok-found.field-0.1.now)) ≡ Some rows = c.in_ok-found.ensures.rows ∙ ap (option_map (λ p. p.1)) is in
    let same : rows ≡ rows_of (found_of c.in_ok-found.field-0.1.now) = cc in
    c.follow_of.ensures.asked t from carry oldest versions heartbeat
    (subst (λ (r : List Row). IsFollowFound r t from carry oldest versions heartbeat) same found)

use Rattle.std.proofs.Common.{◌≡◌, ◌∙◌, ℕ, List, length}
use Rattle.audit.specs.Made.{MakesRecords, BreaksMaking}
use Rattle.audit.proofs.Answering.{tells-map}
use Rattle.audit.proofs.made.make_records.Goals as goal

pub returns-clause-told : goal.returns-clause-told
returns-clause-told g c =
    let given_up = c.in_ok-given_up.given_up in
    tells-map (λ a old new v. MakesRecords a old new v.items)
    (λ a old new n. (lines : List ℕ) × MakesRecords a old new lines × (n ≡ length lines)) BreaksMaking _ _ given_up
    c.len.result (λ a old new h. (given_up.items, h, c.len.ensures ∙ given_up.ok.0)) c.in_ok-given_up.ensures.told

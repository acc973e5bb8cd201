use Rattle.std.proofs.Common.{◌≡◌, ◌∙◌, ap, sym, Some, length, ◌-◌, ℕ, Option, List}
use Rattle.std.specs.Prelude.{slice_get}
use Rattle.version_chains.specs.Appends.{last_at, late_fault}
use Rattle.version_chains.proofs.AppendLemmas.{late_is, late_from, not_late_from}
use Rattle.version_chains.proofs.chains.Chains.late_fault.Goals.{In_ok-last}
use Rattle.version_chains.proofs.chains.Chains.late_fault.Goals as goal

-- the fault goes by the last timestamp
by_last : (c : In_ok-last) → late_fault (Some c.in_ok-last.field-0.now) c.args.at ≡ late_fault
    (last_at c.args.self.now.commits) c.args.at
by_last c =
    let last : slice_get c.self.inside.times.items (length c.self.inside.times.items - 1) ≡ Some c.in_ok-last.field-0.now =
    ap (λ (ts : List ℕ). slice_get ts (length ts - 1)) (sym c.deref.ensures.value) ∙ sym c.in_ok-last.ensures.value in
    ap (λ (o : Option ℕ). late_fault o c.args.at) (sym last)
    ∙ late_is c.args.self.now c.self.inside.times.items c.self.inside.arena.touches c.self.inside.limit c.args.at c.self.view_is

pub returns-then-at-last : goal.returns-then-at-last
returns-then-at-last c =
    late_from c.args.at c.in_ok-last.field-0.now c.if-at-last.true ∙ by_last (goal.at.returns-then-at-last c).In_ok-last

pub returns-else-at-last : goal.returns-else-at-last
returns-else-at-last c =
    not_late_from c.args.at c.in_ok-last.field-0.now c.if-at-last.false ∙ by_last
    (goal.at.returns-else-at-last c).In_ok-last

use Rattle.std.proofs.Common.{◌≡◌, ◌-◌, ◌∙◌, length, rules, take}
use Rattle.std.specs.Prelude.{string_bytes}
use Rattle.trace_lines.proofs.EntryLemmas.{entries-less, recorded-less, recorded-none}
use Rattle.trace_lines.proofs.entries.Entries.pop.Goals as goal

pub invariant_of-self : goal.invariant_of-self
invariant_of-self c =
    let kept = c.self.inside.kept.items in
    let less : c.pop.new.self.items ≡ take (length kept - 1) kept = search rules in
    entries-less (string_bytes c.self.inside.text) kept c.pop.new.self.items less c.self.invariant

pub returns-clause-last : goal.returns-clause-last
returns-clause-last c rs r is =
    let kept = c.self.inside.kept.items in
    let less : c.pop.new.self.items ≡ take (length kept - 1) kept = search rules in
    recorded-less (string_bytes c.self.inside.text) kept c.pop.new.self.items less rs r (c.self.view_is ∙ is)

pub returns-clause-none : goal.returns-clause-none
returns-clause-none c none =
    let kept = c.self.inside.kept.items in
    let less : c.pop.new.self.items ≡ take (length kept - 1) kept = search rules in
    recorded-none (string_bytes c.self.inside.text) kept c.pop.new.self.items less (c.self.view_is ∙ none)

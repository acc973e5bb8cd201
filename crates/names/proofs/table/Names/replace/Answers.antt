use Rattle.std.proofs.Common.{rules, ◌≡◌, ◌<◌, ◌∙◌, Some, length, slice_get, slice_set, option_map, ap, sym}
use Rattle.names.specs.Names.{with_value}
use Rattle.names.proofs.NamesLemmas.{set_there, there_at, places_kept, once_kept}
use Rattle.names.proofs.table.Names.replace.Goals as goal

pub invariant_of-self : goal.invariant_of-self
invariant_of-self g c =
    let within : c.args.place < length c.self.inside.entries.items = search rules in
    let es = c.self.inside.entries.items in
    rw (set_there es c.args.place c.index_mut.result.now c.replace.new.dest within c.index_mut.ensures.value) (
      places_kept c.self.inside.places c.args.place c.replace.new.dest es c.self.invariant.0,
      once_kept c.args.place c.replace.new.dest es c.self.invariant.1,
    )

pub returns-clause-was : goal.returns-clause-was
returns-clause-was g c =
    let within : c.args.place < length c.self.inside.entries.items = search rules in
    let same : c.self.inside.entries.items ≡ c.args.self.now.entries = search rules in
    let there : slice_get c.args.self.now.entries c.args.place ≡ Some c.index_mut.result.now =
    rw (← same) (there_at c.self.inside.entries.items c.args.place c.index_mut.result.now within c.index_mut.ensures.value) in
    ap (option_map (λ e. e.1)) there ∙ ap Some (sym c.replace.ensures.value)

pub returns-clause-new : goal.returns-clause-new
returns-clause-new g c =
    let within : c.args.place < length c.self.inside.entries.items = search rules in
    let same : c.self.inside.entries.items ≡ c.args.self.now.entries = search rules in
    ap (λ w. slice_set c.self.inside.entries.items c.args.place (c.index_mut.result.now.0, w)) c.replace.ensures.after
    ∙ set_there c.self.inside.entries.items c.args.place c.index_mut.result.now c.args.value within c.index_mut.ensures.value
    ∙ ap (with_value c.args.place c.args.value) same

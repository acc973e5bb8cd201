use Rattle.std.proofs.Common.{◌∙◌, option_map, ap, sym}
use Rattle.names.proofs.NamesLemmas.{stands, stands_nowhere}
use Rattle.names.proofs.table.Names.get.Goals as goal

pub returns-in_err-place : goal.returns-in_err-place
returns-in_err-place g c = record { value = rw c.from_residual.ensures (sym (stands_nowhere c.args.name.now c.args.self.now.entries (sym c.in_err-place.ensures.index))) }

pub returns : goal.returns
returns g c =
    let s = stands c.args.name.now c.args.self.now.entries c.in_ok-place.field-0 (sym c.in_ok-place.ensures.index) in
    record { value = ap (λ o. option_map (λ e. e.1) o) (c.in_ok-value.ensures.entry ∙ s.there) ∙ sym s.value }

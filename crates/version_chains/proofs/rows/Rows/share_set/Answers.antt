use Rattle.std.proofs.Common.{◌≡◌, ◌∙◌, List, Some, ap, sym}
use Rattle.std.specs.Prelude.{slice_get, string_bytes}
use Rattle.version_chains.specs.Rows.{Kept, kept_in}
use Rattle.version_chains.specs.Texts.{set_in}
use Rattle.version_chains.proofs.KeptLemmas.{row-there}
use Rattle.version_chains.proofs.rows.Rows.share_set.Goals as goal

pub returns : goal.returns
returns c same a at =
    let text = string_bytes c.self.inside.text in
    let rows = c.self.inside.rows.items in
    let first = row-there text rows c.deref.result.now c.args.one c.deref.ensures.value c.in-Some.first.now
    c.in-Some.ensures.lookup.3.0 c.in-Some.ensures.lookup.1 c.self.invariant in
    let second = row-there text rows c.deref-2.result.now c.args.other c.deref-2.ensures.value c.in-Some-get.second.now
    c.in-Some-get.ensures.lookup.3.0 c.in-Some-get.ensures.lookup.1 c.self.invariant in
    let both : Some (kept_in text c.in-Some.first.now) ≡ Some a =
    first.1 ∙ ap (λ (ks : List Kept). slice_get ks c.args.one) c.self.view_is ∙ at in
    let is : kept_in text c.in-Some.first.now ≡ a = cc in (
      kept_in text c.in-Some-get.second.now,
      sym (second.1 ∙ ap (λ (ks : List Kept). slice_get ks c.args.other) c.self.view_is),
      ap (λ (k : Kept). k.tuple.set) (sym is) ∙ ap (set_in text) (c.is_same_span.ensures same),
    )

use Rattle.std.proofs.Common.{rules, ◌≡◌, ◌∙◌, ap, sym}
use Rattle.std.specs.Prelude.{option_map, slice_get}
use Rattle.std.proofs.lemmas.Option.{gets}
use Rattle.marks.proofs.SlotLemmas.{tag-slots_of}
use Rattle.marks.proofs.slots.Slots.tag.Goals as goal

pub returns : goal.returns
returns c =
    let tag : c.copied.result ≡ slice_get c.self.inside.tags.items c.args.at = search (rules, gets) in
    tag
    ∙ sym (tag-slots_of c.self.inside.tags.items c.self.inside.places.items c.args.at c.self.invariant)
    ∙ ap (λ slots. option_map (λ s. s.tag) (slice_get slots c.args.at)) c.self.view_is

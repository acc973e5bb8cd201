use Rattle.std.proofs.Common.{rules, ◌≡◌, ◌∙◌, ap, length, sym}
use Rattle.marks.proofs.SlotLemmas.{length-slots_of}
use Rattle.marks.proofs.slots.Slots.len.Goals as goal

pub returns : goal.returns
returns c =
    let tags : c.len.result ≡ length c.self.inside.tags.items = search rules in
    tags ∙ sym (length-slots_of c.self.inside.tags.items c.self.inside.places.items c.self.invariant) ∙ ap length c.self.view_is

use Rattle.std.proofs.Common.{rules, arith, ◌≡◌, ◌∙◌, ◌<◌, ap, length, slice_set, sym}
use Rattle.marks.proofs.SlotLemmas.{length-slots_of, slots_of-set}
use Rattle.marks.proofs.slots.Slots.set.Goals as goal

pub index_mut-requires : goal.index_mut-requires
index_mut-requires c =
    let long : length c.args.self.now ≡ length c.self.inside.tags.items =
    ap length (sym c.self.view_is) ∙ length-slots_of c.self.inside.tags.items c.self.inside.places.items c.self.invariant in
    let within : c.args.at < length c.self.inside.tags.items = omega (arith, long, c.requires) in
    search rules

pub index_mut-requires-2 : goal.index_mut-requires-2
index_mut-requires-2 c =
    let long : length c.args.self.now ≡ length c.self.inside.tags.items =
    ap length (sym c.self.view_is) ∙ length-slots_of c.self.inside.tags.items c.self.inside.places.items c.self.invariant in
    let within : c.args.at < length c.self.inside.places.items = omega (arith, long, c.requires, c.self.invariant) in
    search rules

pub returns : goal.returns
returns c =
    slots_of-set c.self.inside.tags.items c.self.inside.places.items c.args.at c.args.slot c.self.invariant
    ∙ ap (λ slots. slice_set slots c.args.at c.args.slot) c.self.view_is

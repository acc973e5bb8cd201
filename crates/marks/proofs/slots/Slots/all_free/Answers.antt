use Rattle.std.proofs.Common.{rules, ◌≡◌, replicate}
use Rattle.marks.proofs.SlotLemmas.{slots_of-replicate}
use Rattle.marks.proofs.slots.Slots.all_free.Goals as goal

pub returns : goal.returns
returns c =
    let tags : c.in_ok-vec.field-0.items ≡ replicate c.args.count 0 = search rules in
    let places : c.in_ok-vec-2.field-0.items ≡ replicate c.args.count 0 = search rules in
    rw (tags, places) (slots_of-replicate c.args.count)

use Rattle.std.proofs.Common.{rules, ◌≡◌, ◌∙◌, ap, sym}
use Rattle.std.specs.Prelude.{slice_get, unwrap_or}
use Rattle.std.proofs.lemmas.Option.{gets}
use Rattle.marks.specs.Slots.{place_of}
use Rattle.marks.proofs.SlotLemmas.{place-slots_of}
use Rattle.marks.proofs.slots.Slots.place.Goals as goal

pub returns : goal.returns
returns c =
    let place : c.unwrap_or.result ≡ unwrap_or (slice_get c.self.inside.places.items c.args.at) 0 = search (rules, gets) in
    place
    ∙ sym (place-slots_of c.self.inside.tags.items c.self.inside.places.items c.args.at c.self.invariant)
    ∙ ap (λ slots. place_of (slice_get slots c.args.at)) c.self.view_is

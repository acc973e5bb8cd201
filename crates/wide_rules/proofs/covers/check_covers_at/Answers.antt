use Rattle.std.proofs.Common.{length, refl, sym, ltb-true}
use Rattle.std.proofs.lemmas.Option.{slice_get_read}
use Rattle.wide_rules.proofs.PartLemmas.{part_there}
use Rattle.wide_rules.proofs.covers.check_covers_at.Goals as goal

pub returns : goal.returns
returns c =
    let parts = c.args.parts.now in
    let lookup = c.in-Some.ensures.lookup in
    let at = slice_get_read parts (length parts) c.args.k c.in-Some.part.now refl (ltb-true c.args.k (length parts) (sym lookup.0)) lookup.1 in
    rw (part_there parts c.args.k c.in-Some.part.now at) c.check_covers.ensures

use Rattle.std.proofs.Common.{length, refl, sym, ltb-true}
use Rattle.std.proofs.lemmas.Option.{slice_get_read}
use Rattle.wide_rules.proofs.PartLemmas.{part_there}
use Rattle.wide_rules.proofs.covers.is_cover_at.Goals as goal

pub returns-in-Some : goal.returns-in-Some
returns-in-Some c is =
    let covers = c.args.covers.now in
    let lookup = c.in-Some.ensures.lookup in
    let at = slice_get_read covers (length covers) c.args.number c.in-Some.cover.now refl (ltb-true c.args.number (length covers) (sym lookup.0)) lookup.1 in
    rw (part_there covers c.args.number c.in-Some.cover.now at) (c.is_cover.ensures is)

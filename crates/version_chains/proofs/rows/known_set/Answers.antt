use Rattle.std.proofs.Common.{◌∙◌, refl, sym}
use Rattle.tuple_text.specs.Refs.{set_value}
use Rattle.tuple_text.proofs.ValueLemmas.{set_eq-same}
use Rattle.marks.proofs.PlacedLemmas.{read_item}
use Rattle.version_chains.proofs.rows.known_set.Goals as goal

pub set_at-requires : goal.set_at-requires
set_at-requires c =
    let row = c.in_ok-row.row.now in
    let at = read_item c.args.rows.now c.args.rows.now _ row refl c.in_ok-row.ensures.lookup.3.0 c.in_ok-row.ensures.lookup.1 in
    (c.requires _ row at).set

pub returns-then-eq : goal.returns-then-eq
returns-then-eq c =
    let row = c.in_ok-row.row.now in
    let at = read_item c.args.rows.now c.args.rows.now _ row refl c.in_ok-row.ensures.lookup.3.0 c.in_ok-row.ensures.lookup.1 in
    record {
      is = (c.requires _ row at).set;
      set = sym c.set_at.ensures ∙ set_eq-same (set_value c.set_at.result) (set_value c.args.set) (sym c.eq.ensures ∙ c.if-eq.true);
    }

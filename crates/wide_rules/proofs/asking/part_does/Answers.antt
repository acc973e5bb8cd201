use Rattle.std.proofs.Common.{◌≡◌, ◌≤◌, ◌<◌, ◌∙◌, Some, length, refl, sym, ap, arith, ltb-true, ltb-false}
use Rattle.std.proofs.lemmas.Option.{slice_get_read}
use Rattle.std.specs.Prelude.{slice_get}
use Rattle.rewrites.specs.Expression.{union, no_child}
use Rattle.rewrites.specs.Parts.{part_at, part_expression, parts_shown}
use Rattle.rewrites.specs.declared.parts.Part.{Part}
use Rattle.wide_rules.proofs.PartLemmas.{part_there, no_part_there, one_kept, none_does}
use Rattle.wide_rules.proofs.asking.part_does.Goals as goal

pub through_bars-requires : goal.through_bars-requires
through_bars-requires g c =
    let parts = c.args.parts.now in
    let lookup = c.in-Some-Through.ensures.lookup in
    let within : c.args.part < length parts = ltb-true c.args.part (length parts) (sym lookup.0) in
    let at : slice_get parts c.args.part ≡ Some (Part.Through c.in-Some-Through.through) =
    slice_get_read parts (length parts) c.args.part c.in-Some-Through.field-0.now refl within lookup.1
    ∙ ap (λ (p : Part). Some p) c.in-Some-Through.field-0-is in
    let kept = slice_get_read c.args.kept.now.items (length c.args.kept.now.items) c.args.part c.index_mut.result.now refl (omega (arith, within, c.requires.room)) c.index_mut.ensures.value in
    c.requires.each c.args.part c.in-Some-Through.through c.index_mut.result.now at kept

pub returns-else-is_given-clause-kept : goal.returns-else-is_given-clause-kept
returns-else-is_given-clause-kept g c =
    let parts = c.args.parts.now in
    let lookup = c.in-Some-Through.ensures.lookup in
    let at : slice_get parts c.args.part ≡ Some (Part.Through c.in-Some-Through.through) =
    slice_get_read parts (length parts) c.args.part c.in-Some-Through.field-0.now refl (ltb-true c.args.part (length parts) (sym lookup.0)) lookup.1
    ∙ ap (λ (p : Part). Some p) c.in-Some-Through.field-0-is in
    one_kept c.args.fact.now.snapshot.now.timeline parts c.args.kept.now.items c.args.part c.in-Some-Through.through c.through_bars.new.kept c.requires at c.through_bars.ensures.kept

pub returns-in-Some-Leaf-clause-does : goal.returns-in-Some-Leaf-clause-does
returns-in-Some-Leaf-clause-does g c =
    let parts = c.args.parts.now in
    let lookup = c.in-Some-Leaf.ensures.lookup in
    let at = slice_get_read parts (length parts) c.args.part c.in-Some-Leaf.field-0.now refl (ltb-true c.args.part (length parts) (sym lookup.0)) lookup.1 in
    let is : part_at (parts_shown parts) c.args.part ≡ part_expression c.in-Some-Leaf.field-0.now = part_there parts c.args.part c.in-Some-Leaf.field-0.now at in
    rw (is, c.in-Some-Leaf.field-0-is) c.leaf_does.ensures

pub returns-else-is_given-clause-does : goal.returns-else-is_given-clause-does
returns-else-is_given-clause-does g c =
    let parts = c.args.parts.now in
    let lookup = c.in-Some-Through.ensures.lookup in
    let at = slice_get_read parts (length parts) c.args.part c.in-Some-Through.field-0.now refl (ltb-true c.args.part (length parts) (sym lookup.0)) lookup.1 in
    let is : part_at (parts_shown parts) c.args.part ≡ part_expression c.in-Some-Through.field-0.now = part_there parts c.args.part c.in-Some-Through.field-0.now at in
    rw (is, c.in-Some-Through.field-0-is, c.if-is_given.false) c.through_bars.ensures.bars

pub returns-in-None-clause-does : goal.returns-in-None-clause-does
returns-in-None-clause-does g c =
    let parts = c.args.parts.now in
    let past : length parts ≤ c.args.part = ltb-false c.args.part (length parts) (sym c.in-None.ensures.lookup.0) in
    let is : part_at (parts_shown parts) c.args.part ≡ union no_child = no_part_there parts c.args.part past in
    rw is (none_does c.args.fact.now c.args.is_given)

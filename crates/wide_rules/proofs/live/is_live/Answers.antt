use Rattle.std.proofs.Common.{rules, ◌≡◌, ◌∙◌, [], Some, sym, ◌<◌, ◌^◌}
use Rattle.tuple_text.specs.Refs.{set_value}
use Rattle.namespaces.specs.Lookup.{namespace_numbered}
use Rattle.rewrites.specs.Parts.{computed_names}
use Rattle.marks.specs.Marks.{set_mark}
use Rattle.marks.proofs.PlacedLemmas.{and-left, and-right}
use Rattle.userset_index.specs.Index.{is_crowded}
use Rattle.judgement.proofs.IndexLemmas.{none_through}
use Rattle.wide_rules.proofs.LiveLemmas.{none_absent, none_of_number}
use Rattle.wide_rules.proofs.live.is_live.Goals as goal

pub returns-then-is_none : goal.returns-then-is_none
returns-then-is_none c _ g stored place =
    let small : c.args.snapshot.now.at < 2 ^ 64 = search rules in
    let s = c.args.snapshot.now in
    let set = set_value c.args.set.set in
    let v = c.args.index.now in
    let none : c.through-touches.result ≡ [] = search rules in
    absurd (none_through s small v
    (c.requires.index (and-left v.is_whole (is_crowded v.crowds (set_mark set)) c.requires.crowded)) set
    (and-right v.is_whole (is_crowded v.crowds (set_mark set)) c.requires.crowded) g c.args.number place (sym c.through-touches.ensures ∙ none) stored)

pub returns-in-Some : goal.returns-in-Some
returns-in-Some c absent g stored place =
    let ds = c.args.snapshot.now.timeline.declarations in
    let is : namespace_numbered c.args.number ds ≡ Some c.in-Some.namespace.now =
    rw c.rules.ensures at (sym c.in-Some.ensures.value) in
    none_of_number ds c.args.snapshot.now.at (computed_names c.args.through.now) c.args.number c.in-Some.namespace.now g.namespace c.requires.few is
    (rw c.rules-in-Some.ensures at (c.declares_some.ensures absent)) place

pub returns-then-is_absent : goal.returns-then-is_absent
returns-then-is_absent c _ g stored place =
    let s = c.args.snapshot.now in
    absurd (none_absent s (set_value c.args.set.set) c.args.stored c.args.number g c.requires.stored
    (c.is_absent.ensures c.if-is_absent.true) stored place)

use Rattle.std.proofs.Common.{[], ◌≡◌, ◌∙◌, ◌+◌, length, sym, rules}
use Rattle.namespaces.specs.Declaration.{declared}
use Rattle.namespaces.specs.Shown.{show_line, show_namespace, show_relation}
use Rattle.namespaces.specs.declared.rules.Line.{Line}
use Rattle.namespaces.specs.declared.index.Revision.{Revision}
use Rattle.namespaces.proofs.Indexes.{length-mapped}
use Rattle.namespaces.proofs.Declarers.{declarers_put}
use Rattle.namespaces.proofs.Fields.{consistent_put, shown_put}
use Rattle.namespaces.proofs.Growth.{names_after-push}
use Rattle.namespaces.proofs.rules.Rules.push.Goals as goal

pub number_for-number-requires : goal.number_for-number-requires
number_for-number-requires c =
    let d = declared c.args.at c.args.is_change (show_namespace c.args.namespace) in
    rw c.as_str.ensures.value (rw (names_after-push [] c.args.self.now d) at c.requires.namespaces)

pub invariant_of-self-2 : goal.invariant_of-self-2
invariant_of-self-2 c =
    let s = c.self.inside in
    let l : Line = record { at = c.args.at; is_change = c.args.is_change; namespace = c.args.namespace } in
    let v : Revision = record { at = c.args.at; relations = c.len.result; line = c.len-2.result } in
    let few : c.len.result ≡ length (show_line l).relations = c.len.ensures.len ∙ sym (length-mapped show_relation c.args.namespace.relations.entries) in
    let last : c.len-2.result ≡ length s.lines.items = search rules in
    let noted = c.in_ok-note.ensures.ok in
    let put = rw c.in_ok-reserve.ensures.items at c.push_reserved.ensures.items in
    let placed = rw c.as_str.ensures.value at c.number_for-number.ensures in
    let were = rw c.self.view_is at c.self.invariant.1 in
    let same = c.in_ok-make_places.ensures.same in
    let noted_of = c.note_declarers.ensures in
    let declarers = declarers_put c.args.self.now (show_line l) c.requires c.number_for-number.result placed s.declaring.entries c.make_places.new.table.entries
    c.note_declarers.new.table.entries were same noted_of.has noted_of.kept noted_of.only in (
      consistent_put s.lines.items c.push_reserved.new.self.items s.namespaces.entries c.note.new.namespaces.entries l v s.changes (s.changes + c.from.result) c.args.self.now c.self.view_is c.self.invariant.0 c.requires (record {
        lines_put = put;
        noted = search rules;
        place = λ i. record { at = c.args.at; relations = few i; line = last i };
        counted = search rules;
        timestamp = c.ranges.at.fits;
      }),
      rw (shown_put s.lines.items c.push_reserved.new.self.items l c.args.self.now c.self.view_is put) declarers,
    )

use Rattle.std.proofs.Common.{◌≡◌, length, Some, slice_get, string_bytes, refl, sym, ◌∙◌, subst, inl, inr}
use Rattle.std.proofs.lemmas.Option.{slice_get_read}
use Rattle.namespaces.specs.Declaring.{HasUnder}
use Rattle.namespaces.specs.Lookup.{relation_names}
use Rattle.namespaces.specs.Shown.{show_relations}
use Rattle.std.specs.Prelude.{Contains}
use Rattle.namespaces.proofs.Declarers.{each_name, named_at, next_entry}
use Rattle.namespaces.proofs.declaring.note_declarers.Goals.{After-note_declarer}
use Rattle.namespaces.proofs.declaring.note_declarers.Goals as goal

there : (c : After-note_declarer) → slice_get c.args.relations.now.entries c.loop-name.name-index ≡ Some c.loop-name-item.result
there c =
    let es = c.entries-name-items.result.now in
    rw c.entries-name-items.ensures at (slice_get_read es (length es) c.loop-name.name-index c.loop-name-item.result refl c.loop-name-test.true c.loop-name-item.is)

named : (c : After-note_declarer) → Contains (relation_names (show_relations c.args.relations.now.entries)) (string_bytes c.loop-name-item.result.0)
named c = named_at c.args.relations.now.entries c.loop-name.name-index c.loop-name-item.result (there c)

pub loop-name-preserved : goal.loop-name-preserved
loop-name-preserved c =
    let a = (goal.at.loop-name-preserved c).After-note_declarer in
    let before = c.loop-name.invariant in
    let now = c.note_declarer.ensures in
    let text = c.as_str.ensures.value in
    record {
      has = rw c.entries-name-items.ensures (next_entry (λ e. HasUnder c.note_declarer.new.table.entries (string_bytes e.0) c.args.number)
          c.args.relations.now.entries c.loop-name.name-index c.loop-name-item.result (there a)
          (rw text at (now.has (rw text (before.there (string_bytes c.loop-name-item.result.0) (c.requires (string_bytes c.loop-name-item.result.0) (named a))))))
          (λ k e less at. now.kept (string_bytes e.0) c.args.number (before.has k e less (rw c.entries-name-items.ensures at))));
      kept = λ q n h. now.kept q n (before.kept q n h);
      only = λ q n h. elim (now.only q n h) [
        | inl was ↦ before.only q n was
        | inr new ↦ inr (subst (Contains (relation_names (show_relations c.args.relations.now.entries))) (sym text ∙ sym new.0) (named a), new.1)
      ];
      there = λ q h. now.there q (before.there q h);
    }

pub returns-clause-has : goal.returns-clause-has
returns-clause-has c =
    each_name (λ q. HasUnder c.loop-name.table.entries q c.args.number) c.args.relations.now.entries c.loop-name.name-index
    (rw c.entries-name-items.ensures at c.loop-name-test.false) (rw c.entries-name-items.ensures at c.loop-name.invariant.has)

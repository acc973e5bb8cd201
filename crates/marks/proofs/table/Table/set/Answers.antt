use Rattle.std.proofs.Common.{rules, ◌≡◌, ◌∙◌, ◌-◌, ◌<◌, ◌++◌, ℕ, sym, ap, cond, length, nat_eq}
use Rattle.std.specs.Prelude.{slice_get, slice_set}
use Rattle.marks.specs.Links.{longest, probe_in}
use Rattle.marks.specs.Slots.{place_of}
use Rattle.marks.proofs.TableLemmas.{end_less, newest-in_tree, newest-more, newest-same_tree, newest-written, on_err, place_at_end, probe-more, probed-in_tree, probed-more, probed-same_tree, probed-written}
use Rattle.marks.proofs.table.Table.set.Goals as goal

pub returns-in_err-older-clause-err : goal.returns-in_err-older-clause-err
returns-in_err-older-clause-err c =
    on_err c.from_residual.result (newest-same_tree longest c.args.marks.now c.args.self.now.slots c.args.self.now.rest c.put_in_tree.new.tree c.in_err-older.ensures.err)

pub returns-in_err-older-clause-table : goal.returns-in_err-older-clause-table
returns-in_err-older-clause-table c =
    on_err c.from_residual.result (probed-same_tree longest c.args.marks.now c.args.self.now.slots c.args.self.now.rest c.put_in_tree.new.tree c.in_err-older.ensures.err c.requires)

pub returns-then-end-eq0-clause-ok : goal.returns-then-end-eq0-clause-ok
returns-then-end-eq0-clause-ok c = λ more is_place.
    let none : c.probe-end.result ≡ 0 = search rules in
    let none_more : probe_in longest (c.args.marks.now ++ more) c.args.self.now.slots c.args.mark ≡ 0 =
    sym (probe-more longest c.args.marks.now more c.args.self.now.slots c.args.self.now.rest c.requires c.args.mark) ∙ sym c.probe-end.ensures ∙ none in
    record {
      table = probed-in_tree longest (c.args.marks.now ++ more) c.args.self.now.slots c.args.self.now.rest c.put_in_tree.new.tree c.args.mark c.args.place none_more (search rules)
          (probed-more longest c.args.marks.now more c.args.self.now.slots c.args.self.now.rest c.requires);
      newest = λ m.
          newest-in_tree longest (c.args.marks.now ++ more) c.args.self.now.slots c.args.self.now.rest c.put_in_tree.new.tree c.args.mark c.args.place none_more (search rules) m
          ∙ ap (λ (n : ℕ). cond (nat_eq m c.args.mark) c.args.place n) (sym (newest-more longest c.args.marks.now more c.args.self.now.slots c.args.self.now.rest c.requires m));
    }

pub place_at-older-requires : goal.place_at-older-requires
place_at-older-requires c =
    let same : c.if-eq.self.slots ≡ c.args.self.now.slots = search rules in
    λ s is. c.requires.free (c.probe-end.result - 1) s (rw same at is)

pub set-requires : goal.set-requires
set-requires c =
    let some : 0 < c.probe-end.result = search rules in
    let less : c.probe-end.result - 1 < length c.args.self.now.slots =
    end_less longest c.args.marks.now c.args.self.now.slots c.args.self.now.rest c.args.mark c.probe-end.result c.probe-end.ensures some in
    search rules

pub returns-clause-older : goal.returns-clause-older
returns-clause-older c =
    let some : 0 < c.probe-end.result = search rules in
    let same : c.if-eq.self.slots ≡ c.args.self.now.slots = search rules in
    c.place_at-older.ensures ∙ ap (λ slots. place_of (slice_get slots (c.probe-end.result - 1))) same
    ∙ place_at_end longest c.args.marks.now c.args.self.now.slots c.args.self.now.rest c.args.mark c.probe-end.result c.probe-end.ensures some

pub returns-clause-ok : goal.returns-clause-ok
returns-clause-ok c = λ more is_place.
    let some : 0 < c.probe-end.result = search rules in
    let same : c.if-eq.self.slots ≡ c.args.self.now.slots = search rules in
    let rest_same : c.if-eq.self.rest ≡ c.args.self.now.rest = search rules in
    let slots_set : c.set.new.self ≡ slice_set c.args.self.now.slots (c.probe-end.result - 1) (record { tag = c.tag_of.result; place = c.args.place }) =
    c.set.ensures ∙ ap (λ slots. slice_set slots (c.probe-end.result - 1) (record { tag = c.tag_of.result; place = c.args.place })) same in
    rw (slots_set, rest_same) (record {
      table = probed-written longest c.args.marks.now c.args.self.now.slots c.args.self.now.rest c.args.mark c.probe-end.result c.probe-end.ensures some more c.requires c.args.place c.tag_of.result c.tag_of.ensures is_place;
      newest = newest-written longest c.args.marks.now c.args.self.now.slots c.args.self.now.rest c.args.mark c.probe-end.result c.probe-end.ensures some more c.requires c.args.place c.tag_of.result c.tag_of.ensures is_place;
    })

use Rattle.std.proofs.Common.{◌≡◌, ◌*◌, ap, ◌∙◌, refl, rules, arith}
use Rattle.std.specs.Prelude.{min}
use Rattle.std.specs.List.{range_with_len}
use Rattle.std.proofs.lemmas.Grind.{common_steps}
use Rattle.slice_yard.specs.Cut.{slice_count}
use Rattle.slice_yard.proofs.CutLemmas.{entries_more, all_entries}
use Rattle.slice_yard.proofs.slices.cut.Goals as goal

pub loop-number-preserved : goal.loop-number-preserved
loop-number-preserved c = record {
  count = first_of (search rules, grind (arith, common_steps));
  each = first_of (search rules, grind (arith, common_steps));
  entries = entries_more c.loop-number.slices.items c.push.new.self.items record { number = c.loop-number.number; from = c.loop-number.number * c.args.size; count = c.min-count.result } c.args.entries c.args.size c.loop-number.number
      c.in_ok-push.ensures.items c.loop-number.invariant.entries refl c.min-count.ensures (c.count_of-number-end.ensures.inside c.loop-number.number c.loop-number-test.true);
}

pub returns-clause-entries : goal.returns-clause-entries
returns-clause-entries c =
    let e : c.loop-number.number ≡ slice_count c.args.entries c.args.size = (let a = c.loop-number.auto.number-end in let b = c.loop-number-test.false in let d = c.count_of-number-end.ensures.is in omega arith) in
    c.loop-number.invariant.entries ∙ ap (λ k. range_with_len 0 (min c.args.entries (k * c.args.size))) e ∙ ap (range_with_len 0) (all_entries c.args.entries c.args.size c.requires)

use Rattle.std.proofs.Common.{◌≡◌, ◌+◌, ◌-◌, ◌/◌, inl, inr, sym, ◌∙◌, ap, arith}
use Rattle.std.specs.Prelude.{slice_get}
use Rattle.std.proofs.lemmas.Bool.{cases_lt}
use Rattle.token_order.proofs.Lines.{line_before}
use Rattle.trace_lines.specs.EntryViews.{entry_value}
use Rattle.trace_lines.specs.Values.{EntryValue}
use Rattle.follow.proofs.asking.entries_before.Goals as goal

pub loop-low-preserved-then-entry-line : goal.loop-low-preserved-then-entry-line
loop-low-preserved-then-entry-line c =
    let t = c.args.trace.now in
    let so_far = c.loop-low.invariant in
    let middle = c.loop-low.low + (c.loop-low.high - c.loop-low.low) / 2 in
    let x = entry_value c.entry.result in
    let below = c.if-entry-line.true in
    let test = c.loop-low-test.true in
    record {
      order = omega (arith, test);
      within = so_far.within;
      before = λ i e at lt. elim (cases_lt i middle) [
        | inl less ↦
            let up = line_before t c.len-high.ensures.rising middle i x e c.entry.ensures.value at less in
            omega (arith, up, below)
        | inr ge ↦
            let here : i ≡ middle = omega (arith, lt, ge) in
            let same : x ≡ e = let h = sym c.entry.ensures.value ∙ ap (slice_get t.entries) (sym here) ∙ at in cc in
            let line = ap (λ (y : EntryValue). y.line) same in
            omega (arith, line, below)
      ];
      behind = so_far.behind;
    }

pub loop-low-preserved : goal.loop-low-preserved
loop-low-preserved c =
    let t = c.args.trace.now in
    let so_far = c.loop-low.invariant in
    let middle = c.loop-low.low + (c.loop-low.high - c.loop-low.low) / 2 in
    let x = entry_value c.entry.result in
    let above = c.if-entry-line.false in
    let test = c.loop-low-test.true in
    let within = so_far.within in
    record {
      order = omega arith;
      within = omega (arith, test, within);
      before = so_far.before;
      behind = λ i e at le. elim (cases_lt middle i) [
        | inl less ↦
            let up = line_before t c.len-high.ensures.rising i middle e x at c.entry.ensures.value less in
            omega (arith, up, above)
        | inr ge ↦
            let here : i ≡ middle = omega (arith, le, ge) in
            let same : x ≡ e = let h = sym c.entry.ensures.value ∙ ap (slice_get t.entries) (sym here) ∙ at in cc in
            let line = ap (λ (y : EntryValue). y.line) same in
            omega (arith, line, above)
      ];
    }

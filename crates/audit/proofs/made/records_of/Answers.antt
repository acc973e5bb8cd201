use Rattle.std.proofs.Common.{◌≡◌, ◌∙◌, List, length, Option, Some, None, Bor, refl, arith}
use Rattle.std.specs.Prelude.{IfSome, option_map, string_bytes}
use Rattle.std.specs.Option.{option_copied}
use Rattle.trace_lines.specs.EntryViews.{entry_value}
use Rattle.evidence_check.specs.Steps.{StepValue, step_values}
use Rattle.evidence_maker.specs.declared.maker.Made.{Made}
use Rattle.record_text.specs.ReadBack.{IsTaken}
use Rattle.audit.proofs.MadeRecords.{one_more, all_so_far}
use Rattle.audit.proofs.MadeReadBack.{are_records}
use Rattle.audit.proofs.made.records_of.Goals as goal

abbrev shown : Option Made → Option (List StepValue)
shown o = option_map (λ m. step_values m.steps.items) o

-- what was lent is what is shown
of_lent : (P : List StepValue → Type 0) (o : Option (Bor Made))
    → IfSome o (λ m. P (step_values m.now.steps.items)) → IfSome (shown (option_copied o)) P
of_lent P (Some m) h = h
of_lent P None h = tt

lent_shown : (o : Option (Bor Made))
    → option_map (λ m. step_values m.now.steps.items) o ≡ shown (option_copied o)
lent_shown (Some m) = refl
lent_shown None = refl

pub loop-i-preserved : goal.loop-i-preserved
loop-i-preserved c =
    let e = entry_value c.entry-entry.result in
    let lent = c.as_ref.result in
    let same : option_copied lent ≡ c.in_ok-made.made = c.as_ref.ensures.value in
    let made = rw c.loop-i.invariant.maker at c.in_ok-made.ensures.made in
    record {
      maker = c.in_ok-made.ensures.maker ∙ c.loop-i.invariant.maker;
      made =
          one_more c.args.trace.now (string_bytes c.loop-i.text) c.loop-i.given_up.items c.loop-i.i e
          (shown c.in_ok-made.made) (string_bytes c.push_record.new.text) c.push_record.new.given_up.items
          c.entry-entry.ensures.value c.loop-i.invariant.made (made e c.entry-entry.ensures.value) c.push_record.ensures.fits
          (rw same at (of_lent (IsTaken e.line) lent c.in_ok-push_record.ensures.taken))
          (rw (lent_shown lent, same) at c.in_ok-push_record.ensures.text)
          (rw (lent_shown lent, same) at c.in_ok-push_record.ensures.given_up);
    }

pub returns : goal.returns
returns c =
    let t = c.args.trace.now in
    let ends : c.loop-i.i ≡ length t.entries =
    (let a = c.loop-i-test.false in let b = c.loop-i.auto.i-end in let n = c.len-i-end.ensures.count in omega
    (arith, a, b, n)) in
    are_records t (string_bytes c.loop-i.text) c.loop-i.given_up.items c.len-i-end.ensures.rising
    (all_so_far t (string_bytes c.loop-i.text) c.loop-i.given_up.items c.loop-i.i ends c.loop-i.invariant.made)

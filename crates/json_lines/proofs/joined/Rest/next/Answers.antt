use Rattle.std.proofs.Common.{ℕ, ◌≡◌, ◌+◌, ◌-◌, ◌≤◌, ◌^◌, not, true, false, Err, ap, arith, refl, sym, ◌∙◌, length}
use denote.Enum.Bare.{sameb}
use Rattle.json_lines.specs.contracts.lines.InputFault.{the_type}
use Rattle.json_lines.specs.declared.lines.InputFault.{InputFault}
use Rattle.json_lines.specs.declared.lines.InputFault.TheVariants.{Read, TooLong, OutOfMemory}
use Rattle.json_lines.proofs.Exits.{no_error, same_error, long_is_not_read, ended_by}
use Rattle.devices.proofs.Given.{next-trans}
use Rattle.json_lines.proofs.NextLines.{most_behind, passed_line, passed_long, passed_on, passed_over, room_after}
use Rattle.json_lines.proofs.joined.Rest.next.Goals as goal
use Rattle.json_lines.proofs.joined.Rest.next.Goals.{then-ne-via-then-ne, then-ne-via-else-ne+then-self-lt-MAX_LINE}

is_too_long : (fault : InputFault) → not (sameb the_type fault TooLong) ≡ false → fault ≡ TooLong
is_too_long Read e = absurd cc
is_too_long TooLong e = refl
is_too_long OutOfMemory e = absurd cc

other_fault : (fault : InputFault) → fault ≡ TooLong → not (sameb the_type fault TooLong) ≡ true → ⊥
other_fault fault is e =
    let same : not (sameb the_type fault TooLong) ≡ false = rw is refl in
    cc (e, same)

pub returns-then-is_over-clause-line : goal.returns-then-is_over-clause-line
returns-then-is_over-clause-line g c = tt

pub returns-then-is_over-clause-ended : goal.returns-then-is_over-clause-ended
returns-then-is_over-clause-ended g c = tt

pub returns-in-Ok-clause-line : goal.returns-in-Ok-clause-line
returns-in-Ok-clause-line g c =
    let len : length c.next.new.line.items ≡ c.len.result = omega (arith, c.len.ensures, c.next.new.line.ok.0) in
    let size : length c.next.new.line.items ≡ c.len-in-Ok.result = omega (arith, c.len-in-Ok.ensures, c.next.new.line.ok.0) in
    let bound : length c.next.new.line.items ≤ c.min.result = omega (arith, c.in-Ok.ensures.bound, c.next.new.line.ok.0) in
    let after = room_after (length c.next.new.line.items) c.pieces.self-inside.room c.in-Ok.more c.from.result (omega (arith, bound, c.min.ensures)) (rw len (sym c.is_over.ensures ∙ c.if-is_over.false)) c.from.ensures in
    passed_line _ _ _ _ _ c.pieces.self-inside.lines c.next.new.self c.next.new.line.items c.pieces.self-inside.room c.pieces.whole c.in-Ok.more (c.pieces.self-inside.room - (c.len-in-Ok.result + c.from.result)) c.pieces.invariant.passed c.in-Ok.ensures.line.1 c.in-Ok.ensures.line.0
    (omega (arith, c.in-Ok.ensures.reached, c.next.new.line.ok.0)) (omega (arith, bound, c.min.ensures)) (omega (arith, after.0, after.1, size)) c.args.self.now refl refl

pub returns-in-Ok-clause-ended : goal.returns-in-Ok-clause-ended
returns-in-Ok-clause-ended g c = ended_by c.in-Ok.more _ _ _ c.in-Ok.ensures.ends c.pieces.invariant.going

pub returns-then-is_over-clause-asked : goal.returns-then-is_over-clause-asked
returns-then-is_over-clause-asked g c =
    record {
      long = λ _.
          let len : length c.next.new.line.items ≡ c.len.result = omega (arith, c.len.ensures, c.next.new.line.ok.0) in
          passed_over _ _ _ _ _ c.pieces.self-inside.lines c.next.new.self c.next.new.line.items c.pieces.self-inside.room c.pieces.whole c.in-Ok.more c.pieces.invariant.passed c.in-Ok.ensures.line.1
          (rw len (sym c.is_over.ensures ∙ c.if-is_over.true));
      most = most_behind _ _ _ _ c.pieces.self-inside.lines c.pieces.invariant.passed.bytes _ c.pieces.self-inside.room c.min.result 65536 c.pieces.invariant.passed.takes c.pieces.invariant.passed.size (omega (arith, c.min.ensures)) c.next.ensures.most;
      known = next-trans g.R.Source.given g.R.Source.ends g.R.Read.remaining c.args.reader.now c.pieces.reader c.next.new.reader c.pieces.invariant.known c.next.ensures.known;
      failed = λ e. absurd (long_is_not_read _ refl e);
      kept = λ _. c.next.ensures.kept (λ e. no_error _ _ _ c.in-Ok.is e) ∙ c.pieces.invariant.kept;
    }

pub returns-in-Ok-clause-asked : goal.returns-in-Ok-clause-asked
returns-in-Ok-clause-asked g c =
    record {
      long = λ e. absurd (no_error _ _ _ refl e);
      most = most_behind _ _ _ _ c.pieces.self-inside.lines c.pieces.invariant.passed.bytes _ c.pieces.self-inside.room c.min.result 65536 c.pieces.invariant.passed.takes c.pieces.invariant.passed.size (omega (arith, c.min.ensures)) c.next.ensures.most;
      known = next-trans g.R.Source.given g.R.Source.ends g.R.Read.remaining c.args.reader.now c.pieces.reader c.next.new.reader c.pieces.invariant.known c.next.ensures.known;
      failed = λ e. absurd (no_error _ _ _ refl e);
      kept = λ _. c.next.ensures.kept (λ e. no_error _ _ _ c.in-Ok.is e) ∙ c.pieces.invariant.kept;
    }

pub returns-then-ne-clause-asked : goal.returns-then-ne-clause-asked
returns-then-ne-clause-asked g c =
    record {
      long = λ e.
          let is : c.in-Err.fault ≡ TooLong = same_error _ _ _ refl e in
          let low : c.pieces.self-inside.room ≤ c.min.result =
          elim c.then-ne.branch [
            | then-ne-via-then-ne w ↦ absurd (other_fault c.in-Err.fault is (sym c.ne.ensures ∙ w.if-ne.true))
            | then-ne-via-else-ne+then-self-lt-MAX_LINE w ↦ omega (arith, c.min.ensures, w.if-self-lt-MAX_LINE.true)
          ]
          in
          passed_long _ _ _ _ _ c.pieces.self-inside.lines c.pieces.self-inside.room c.min.result c.pieces.whole c.pieces.invariant.passed (c.next.ensures.long (c.in-Err.is ∙ ap Err is)) low;
      most = most_behind _ _ _ _ c.pieces.self-inside.lines c.pieces.invariant.passed.bytes _ c.pieces.self-inside.room c.min.result 65536 c.pieces.invariant.passed.takes c.pieces.invariant.passed.size (omega (arith, c.min.ensures)) c.next.ensures.most;
      known = next-trans g.R.Source.given g.R.Source.ends g.R.Read.remaining c.args.reader.now c.pieces.reader c.next.new.reader c.pieces.invariant.known c.next.ensures.known;
      failed = λ e. c.next.ensures.failed (c.in-Err.is ∙ e) ∙ ap (λ (n : ℕ). n + 1) c.pieces.invariant.kept;
      kept = λ other. c.next.ensures.kept (λ e. other (sym c.in-Err.is ∙ e)) ∙ c.pieces.invariant.kept;
    }

pub pieces-preserved : goal.pieces-preserved
pieces-preserved g c =
    let long : c.next.result ≡ Err TooLong = c.in-Err.is ∙ ap Err (is_too_long c.in-Err.fault (sym c.ne.ensures ∙ c.if-ne.false)) in
    let stuck = c.next.ensures.stuck long in
    let size : length c.next.new.line.items ≡ c.len-in-Err.result = omega (arith, c.len-in-Err.ensures, c.next.new.line.ok.0) in
    let whole_line : c.min.result ≡ 2 ^ 20 = omega (arith, c.min.ensures, c.if-self-lt-MAX_LINE.false) in
    record {
      passed = rw (← size) (passed_on _ _ _ _ _ c.pieces.self-inside.lines c.next.new.self c.next.new.line.items c.pieces.self-inside.room c.pieces.whole c.pieces.invariant.passed stuck.0 stuck.1
          (omega (arith, stuck.2, c.next.new.line.ok.0, c.min.ensures)) (omega (arith, stuck.3, whole_line, c.next.new.line.ok.0)));
      within = omega (arith, c.pieces.invariant.within);
      unended = c.pieces.invariant.unended;
      known = next-trans g.R.Source.given g.R.Source.ends g.R.Read.remaining c.args.reader.now c.pieces.reader c.next.new.reader c.pieces.invariant.known c.next.ensures.known;
      going = omega (arith, c.in-Err.ensures.ends, c.pieces.invariant.going);
      kept = c.next.ensures.kept (λ e. long_is_not_read _ long e) ∙ c.pieces.invariant.kept;
    }

pub returns-then-ne-clause-line : goal.returns-then-ne-clause-line
returns-then-ne-clause-line g c = tt

pub returns-then-ne-clause-ended : goal.returns-then-ne-clause-ended
returns-then-ne-clause-ended g c = tt

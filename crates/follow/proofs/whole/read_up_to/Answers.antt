use Rattle.std.proofs.Common.{◌∙◌, ◌+◌, ℕ, Ok, ap, append-nil, arith, length, refl, rules, sym}
use Rattle.json_lines.specs.declared.lines.TheConstants.{CHUNK}
use Rattle.devices.proofs.Given.{next-refl, next-trans}
use Rattle.follow.proofs.MoreBytes.{behind_bytes, came_at_most, more_bytes}
use Rattle.follow.proofs.whole.read_up_to.Goals as goal

pub loop-turn-init : goal.loop-turn-init
loop-turn-init g c = record {
  came = rw c.new-bytes.ensures.items (sym (append-nil (g.R.Source.given c.args.reader.now)));
  turns = omega arith;
  few = omega (arith, ap length c.new-bytes.ensures.items);
  chunk = search rules;
  known = next-refl g.R.Source.given g.R.Source.ends g.R.Read.remaining c.args.reader.now;
  going = refl;
  kept = refl;
}

pub returns-then-len-max-clause-few : goal.returns-then-len-max-clause-few
returns-then-len-max-clause-few g c = (c.loop-turn.bytes.items, c.loop-turn.invariant.came, c.loop-turn.invariant.few)

pub returns-in-Err-clause-few : goal.returns-in-Err-clause-few
returns-in-Err-clause-few g c =
    more_bytes g.R.Source.given c.args.reader.now c.loop-turn.reader c.read_more.new.reader c.loop-turn.bytes.items
    c.loop-turn.invariant.came c.args.max CHUNK
    (omega (arith, c.if-len-max.false, c.len.ensures, c.loop-turn.bytes.ok.0))
    (came_at_most g.R.Source.given c.loop-turn.reader c.read_more.new.reader (length c.deref_mut.result.now) CHUNK
    (omega (arith, c.deref_mut.ensures.len, c.loop-turn.chunk.ok.0, c.loop-turn.invariant.chunk)) c.in-Err.ensures.came)

pub returns-in-Err-clause-known : goal.returns-in-Err-clause-known
returns-in-Err-clause-known g c = next-trans g.R.Source.given g.R.Source.ends g.R.Read.remaining c.args.reader.now c.loop-turn.reader c.read_more.new.reader c.loop-turn.invariant.known c.in-Err.ensures.known

pub returns-in-Err-clause-kept : goal.returns-in-Err-clause-kept
returns-in-Err-clause-kept g c = λ other. c.in-Err.ensures.kept (λ is. other (cc (is))) ∙ c.loop-turn.invariant.kept

pub returns-in-Err-clause-failed : goal.returns-in-Err-clause-failed
returns-in-Err-clause-failed g c = λ is. c.in-Err.ensures.failed (cc (is)) ∙ ap (λ (n : ℕ). n + 1) c.loop-turn.invariant.kept

pub returns-in-Ok-false-clause-few : goal.returns-in-Ok-false-clause-few
returns-in-Ok-false-clause-few g c =
    more_bytes g.R.Source.given c.args.reader.now c.loop-turn.reader c.read_more.new.reader c.loop-turn.bytes.items
    c.loop-turn.invariant.came c.args.max CHUNK
    (omega (arith, c.if-len-max.false, c.len.ensures, c.loop-turn.bytes.ok.0))
    (came_at_most g.R.Source.given c.loop-turn.reader c.read_more.new.reader (length c.deref_mut.result.now) CHUNK
    (omega (arith, c.deref_mut.ensures.len, c.loop-turn.chunk.ok.0, c.loop-turn.invariant.chunk)) c.in-Ok-false.ensures.came)

pub returns-in-Ok-false-clause-known : goal.returns-in-Ok-false-clause-known
returns-in-Ok-false-clause-known g c = next-trans g.R.Source.given g.R.Source.ends g.R.Read.remaining c.args.reader.now c.loop-turn.reader c.read_more.new.reader c.loop-turn.invariant.known c.in-Ok-false.ensures.known

pub returns-in-Ok-false-clause-whole : goal.returns-in-Ok-false-clause-whole
returns-in-Ok-false-clause-whole g c = (
  rw c.in-Ok-false.field-0-test at c.in-Ok-false.ensures.ends ∙ ap (λ (n : ℕ). n + 1) c.loop-turn.invariant.going,
  (
    c.read_more.new.bytes.items,
    behind_bytes g.R.Source.given c.args.reader.now c.loop-turn.reader c.read_more.new.reader c.loop-turn.bytes.items
        c.loop-turn.invariant.came c.read_more.new.bytes.items c.in-Ok-false.ensures.behind,
    refl,
  ),
)

pub loop-turn-preserved : goal.loop-turn-preserved
loop-turn-preserved g c =
    let e = c.in-Ok-true.ensures in record {
      came = behind_bytes g.R.Source.given c.args.reader.now c.loop-turn.reader c.read_more.new.reader
          c.loop-turn.bytes.items c.loop-turn.invariant.came c.read_more.new.bytes.items e.behind;
      turns = omega (arith, c.loop-turn.invariant.turns, e.some (ap Ok c.in-Ok-true.field-0-test));
      few = omega (
        arith,
        c.if-len-max.false,
        c.len.ensures,
        c.loop-turn.bytes.ok.0,
        e.few,
        c.deref_mut.ensures.len,
        c.loop-turn.chunk.ok.0,
        c.loop-turn.invariant.chunk,
      );
      chunk = c.loop-turn.invariant.chunk;
      known = next-trans g.R.Source.given g.R.Source.ends g.R.Read.remaining c.args.reader.now c.loop-turn.reader
          c.read_more.new.reader c.loop-turn.invariant.known e.known;
      going = omega (arith, rw c.in-Ok-true.field-0-test at e.ends, c.loop-turn.invariant.going);
      kept = e.kept (λ is. cc) ∙ c.loop-turn.invariant.kept;
    }

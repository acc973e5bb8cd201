use Rattle.std.proofs.Common.{◌≡◌, ◌∙◌, ◌++◌, ℕ, List, [], Ok, false, refl, sym, ap, arith, append-nil}
use Rattle.devices.proofs.Given.{next-refl}
use Rattle.json_lines.specs.Json.{taken_line}
use Rattle.json_lines.specs.Reading.{IsReadFault}
use Rattle.json_lines.proofs.Exits.{no_memory_fault}
use Rattle.json_lines.proofs.Folds.{goes_first}
use Rattle.json_lines.proofs.InputReads.{answered, refused, unread}
use Rattle.json_lines.proofs.reading.read_lines.Goals as goal

pub returns-in-Err-clause-read : goal.returns-in-Err-clause-read
returns-in-Err-clause-read g c =
    unread IsReadFault (λ e. e.line) _ _ g.R.Source.given g.R.Source.ends g.R.Source.failures g.R.Read.remaining
    c.args.reader.now _ refl (no_memory_fault _ refl) (λ input. tt)

pub loop-lines-init : goal.loop-lines-init
loop-lines-init g c =
    let made = c.in-Ok.ensures in record {
      so_far = record {
        used = [];
        none = λ _. refl;
        whole = λ later. absurd (omega (arith, later, made.1));
        gave = sym (ap (λ (l : List ℕ). (g.R.Source.given c.args.reader.now ++ []) ++ l) made.0 ∙ append-nil (g.R.Source.given c.args.reader.now ++ [])
            ∙ append-nil (g.R.Source.given c.args.reader.now));
        fits = omega (arith, made.2);
        follows = rw (made.1, made.2) (goes_first (taken_line g.T.Cause.LineCause.not_json g.T.TakeJson.taken) c.args.value.now);
        known = next-refl g.R.Source.given g.R.Source.ends g.R.Read.remaining c.args.reader.now;
        going = refl;
        kept = refl;
      };
      next = let first = c.requires in omega (arith, first, made.1);
      room = omega (arith, made.1, made.2);
    }

pub returns-in-Ok-false-clause-read : goal.returns-in-Ok-false-clause-read
returns-in-Ok-false-clause-read g c =
    let same : c.take_next.result ≡ Ok false = c.in-Ok-false.is ∙ ap Ok c.in-Ok-false.field-0-test in
    answered IsReadFault (λ e. e.line) _ _ IsReadFault (λ e. e.line) _ _ g.R.Source.given g.R.Source.ends
    g.R.Source.failures g.R.Read.remaining c.args.reader.now c.take_next.new.reader false (tt {0}) (λ input is. is)
    (rw same at c.take_next.ensures.read (λ no. cc) c.args.reader.now c.args.value.now c.loop-lines.invariant.so_far)

pub returns-in-Err-take_next-clause-read : goal.returns-in-Err-take_next-clause-read
returns-in-Err-take_next-clause-read g c =
    refused IsReadFault (λ e. e.line) _ _ IsReadFault (λ e. e.line) _ _ g.R.Source.given g.R.Source.ends
    g.R.Source.failures g.R.Read.remaining c.args.reader.now c.take_next.new.reader c.in-Err-take_next.fault
    c.in-Err-take_next.fault refl (λ is. is) (λ is. is) (λ input is. is) (λ came is. is)
    (c.in-Err-take_next.ensures.read (λ no. cc) c.args.reader.now c.args.value.now c.loop-lines.invariant.so_far)

use Rattle.std.proofs.Common.{◌≡◌, length, ap, sym, subst, ◌∙◌, ℕ, List, Err, arith, rules, true}
use Rattle.std.proofs.lemmas.Result.{err_from_is_err_and}
use Rattle.json_lines.specs.Lines.{Takes}
use Rattle.json_lines.specs.declared.lines.InputFault.TheVariants.{TooLong}
use Rattle.json_lines.proofs.Cuts.{line_len_le}
use Rattle.json_lines.proofs.Exits.{exit_is, same_count}
use Rattle.devices.proofs.Given.{next-trans}
use Rattle.json_lines.proofs.Steps.{takes_then, takes_line, goes_on, lacks_line, too_long, come_at_most}
use Rattle.json_lines.proofs.lines.Lines.next.Goals as goal

pub returns-in-Ok-false-clause-most : goal.returns-in-Ok-false-clause-most
returns-in-Ok-false-clause-most g c =
    come_at_most c.args.max _ _ _ _ _ c.loop-turn.self c.ready.new.self c.loop-turn.line.items c.loop-turn.invariant.taken c.in-Ok-false.ensures.came (omega (arith, c.loop-turn.invariant.within, c.loop-turn.line.ok.0)) c.in-Ok-false.ensures.few

pub returns-in-Ok-false-clause-known : goal.returns-in-Ok-false-clause-known
returns-in-Ok-false-clause-known g c = next-trans g.R.Source.given g.R.Source.ends g.R.Read.remaining c.args.reader.now c.loop-turn.reader c.ready.new.reader c.loop-turn.invariant.known c.in-Ok-false.ensures.known

pub returns-in-Err-clause-cut : goal.returns-in-Err-clause-cut
returns-in-Err-clause-cut g c = λ e.
    let none = c.ready.ensures.none (search rules) in (
      subst (λ (left : List ℕ). Takes (g.R.Source.given c.args.reader.now) (g.R.Source.given c.ready.new.reader) c.args.self.now left c.loop-turn.line.items) none (takes_then _ _ _ _ c.loop-turn.self c.ready.new.self c.loop-turn.line.items c.loop-turn.invariant.taken c.in-Err.ensures.came),
      c.loop-turn.invariant.no_newline,
      c.loop-turn.invariant.within,
    )

pub returns-in-Err-clause-most : goal.returns-in-Err-clause-most
returns-in-Err-clause-most g c =
    come_at_most c.args.max _ _ _ _ _ c.loop-turn.self c.ready.new.self c.loop-turn.line.items c.loop-turn.invariant.taken c.in-Err.ensures.came (omega (arith, c.loop-turn.invariant.within, c.loop-turn.line.ok.0)) c.in-Err.ensures.few

pub returns-in_err-take_piece-clause-long : goal.returns-in_err-take_piece-clause-long
returns-in_err-take_piece-clause-long g c =
    let p = err_from_is_err_and c.from_residual.result c.from_residual.ensures.1 in λ e.
    let same : c.take_piece.result ≡ Err TooLong = exit_is c.from_residual.result c.take_piece.result p.0 c.in_err-take_piece.field-0.0 TooLong p.1 p.2 c.in_err-take_piece.was e in
    let long = c.take_piece.ensures.long same in
    too_long _ _ _ _ _ c.loop-turn.self c.ready.new.self c.loop-turn.line.items c.loop-turn.invariant.taken c.in-Ok-true.ensures.came c.loop-turn.invariant.no_newline (omega (arith, long.0, c.loop-turn.line.ok.0))

pub returns-in_err-take_piece-clause-stuck : goal.returns-in_err-take_piece-clause-stuck
returns-in_err-take_piece-clause-stuck g c =
    let p = err_from_is_err_and c.from_residual.result c.from_residual.ensures.1 in λ e.
    let same : c.take_piece.result ≡ Err TooLong = exit_is c.from_residual.result c.take_piece.result p.0 c.in_err-take_piece.field-0.0 TooLong p.1 p.2 c.in_err-take_piece.was e in
    let long = c.take_piece.ensures.long same in
    rw (long.1, long.2) (
      takes_then _ _ _ _ c.loop-turn.self c.ready.new.self c.loop-turn.line.items c.loop-turn.invariant.taken c.in-Ok-true.ensures.came,
      c.loop-turn.invariant.no_newline,
      omega (arith, ap length long.1, c.take_piece.new.line.ok.0, c.loop-turn.line.ok.0, c.loop-turn.invariant.within),
      omega (arith, ap length long.1, c.take_piece.new.line.ok.0, c.loop-turn.line.ok.0, long.0),
      omega (arith, ap length long.1, c.take_piece.new.line.ok.0, c.loop-turn.line.ok.0, long.0, line_len_le c.ready.new.self, c.in-Ok-true.ensures.few),
    )

pub returns-in_err-take_piece-clause-most : goal.returns-in_err-take_piece-clause-most
returns-in_err-take_piece-clause-most g c =
    come_at_most c.args.max _ _ _ _ _ c.loop-turn.self c.ready.new.self c.loop-turn.line.items c.loop-turn.invariant.taken c.in-Ok-true.ensures.came (omega (arith, c.loop-turn.invariant.within, c.loop-turn.line.ok.0)) c.in-Ok-true.ensures.few

pub returns-then-branch-clause-line : goal.returns-then-branch-clause-line
returns-then-branch-clause-line g c =
    rw (c.in_ok-take_piece.ensures.ok.0, c.in_ok-take_piece.ensures.ok.2) (
      lacks_line c.loop-turn.line.items c.ready.new.self c.loop-turn.invariant.no_newline,
      takes_line _ _ _ _ c.loop-turn.self c.ready.new.self c.loop-turn.line.items true c.loop-turn.invariant.taken c.in-Ok-true.ensures.came (sym c.if-branch.true ∙ c.in_ok-take_piece.ensures.ok.1),
    )

pub returns-then-branch-clause-most : goal.returns-then-branch-clause-most
returns-then-branch-clause-most g c =
    come_at_most c.args.max _ _ _ _ _ c.loop-turn.self c.ready.new.self c.loop-turn.line.items c.loop-turn.invariant.taken c.in-Ok-true.ensures.came (omega (arith, c.loop-turn.invariant.within, c.loop-turn.line.ok.0)) c.in-Ok-true.ensures.few

pub loop-turn-preserved : goal.loop-turn-preserved
loop-turn-preserved g c =
    let step = goes_on _ _ _ _ c.loop-turn.self c.ready.new.self c.loop-turn.line.items c.loop-turn.invariant.taken c.in-Ok-true.ensures.came (sym c.if-branch.false ∙ c.in_ok-take_piece.ensures.ok.1) in
    record {
      taken = rw (c.in_ok-take_piece.ensures.ok.0, c.in_ok-take_piece.ensures.ok.2) step;
      no_newline = rw c.in_ok-take_piece.ensures.ok.0 (lacks_line c.loop-turn.line.items c.ready.new.self c.loop-turn.invariant.no_newline);
      ahead = omega (arith, c.loop-turn.invariant.ahead, c.ready.ensures.held, line_len_le c.ready.new.self, c.take_piece.ensures.whole (search rules));
      within = search rules;
      turns = omega (arith, c.take_piece.ensures.whole (search rules), c.ready.ensures.some (search rules));
      known = next-trans g.R.Source.given g.R.Source.ends g.R.Read.remaining c.args.reader.now c.loop-turn.reader c.ready.new.reader c.loop-turn.invariant.known c.in-Ok-true.ensures.known;
      going = search rules;
      kept = same_count _ _ _ c.in-Ok-true.ensures.failures c.loop-turn.invariant.kept;
    }

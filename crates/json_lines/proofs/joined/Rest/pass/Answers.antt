use Rattle.std.proofs.Common.{◌≡◌, ◌∙◌, ap, sym}
use Rattle.std.proofs.lemmas.Bool.{true≢false}
use Rattle.std.proofs.lemmas.Result.{err_from_is_err_and}
use Rattle.json_lines.specs.Joined.{RestValue}
use Rattle.json_lines.proofs.Exits.{exit_done}
use Rattle.json_lines.proofs.RestLines.{used_on}
use Rattle.json_lines.proofs.RestReads.{asked_behind, handed_on, read_further}
use Rattle.json_lines.proofs.joined.Rest.pass.Goals as goal

pub loop-self-preserved : goal.loop-self-preserved
loop-self-preserved g c = record {
  used = used_on _ _ _ _ _ _ _ _ c.loop-self.invariant.used c.in_ok-next.ensures.line;
  over = λ e. let still = (c.loop-self.invariant.over e).0 in let going : c.self.inside.ended ≡ c.loop-self.self.ended = ap (λ (r : RestValue). r.ended) c.self.view_is in absurd (true≢false (sym still ∙ sym going ∙ c.loop-self-test.true));
  so_far =
      read_further c.loop-self.invariant.so_far
      (sym (ap (λ (r : RestValue). r.ended) c.self.view_is) ∙ c.loop-self-test.true) c.in_ok-next.was
      c.in_ok-next.ensures.ended c.next.ensures.asked;
}

pub returns-in_err-next-clause-read : goal.returns-in_err-next-clause-read
returns-in_err-next-clause-read g c =
    let p = err_from_is_err_and c.from_residual.result c.from_residual.ensures.1 in
    let asked =
    asked_behind g.R.Source.given g.R.Source.ends g.R.Source.failures g.R.Read.remaining c.args.self
    c.args.reader.now c.next.new.reader _ c.loop-self.reader c.loop-self.self c.next.result
    c.loop-self.invariant.used c.loop-self.invariant.so_far c.next.ensures.asked in
    record {
      asked =
          handed_on g.R.Source.given g.R.Source.ends g.R.Source.failures g.R.Read.remaining c.args.self
          c.args.reader.now c.next.new.reader c.from_residual.result c.next.result asked p.0
          c.in_err-next.field-0.0 p.1 p.2 c.in_err-next.was;
      ended = exit_done c.from_residual.result _ _ c.from_residual.ensures.1;
      over = λ e. let still = (c.loop-self.invariant.over e).0 in let going : c.self.inside.ended ≡ c.loop-self.self.ended = ap (λ (r : RestValue). r.ended) c.self.view_is in absurd (true≢false (sym still ∙ sym going ∙ c.loop-self-test.true));
    }

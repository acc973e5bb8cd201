use Rattle.std.proofs.Common.{◌≡◌, ◌<◌, ◌++◌, ℕ, true, false, List, [], Option, Some, None, refl, sym, ◌∙◌, ap, subst, append_assoc, append-nil}
use Rattle.std.specs.Prelude.{IfSome, is_some}
use Rattle.std.proofs.lemmas.List.Elements.{All-append, All-nil}
use Rattle.findings.specs.declared.finding.Finding.{Finding}
use Rattle.monitor.specs.SoFar.{IsTold, TellsMore}
use Rattle.follow_laws.specs.Told.{is_at, told_from}
use Rattle.monitor.specs.Standing.{Takes}
use Rattle.monitor.specs.Telling.{Tells}
use Rattle.monitor.specs.declared.monitor.Monitor.{Monitor}
use Rattle.monitor.proofs.PastLemmas.{behind_taken, past_taken}
use Rattle.monitor.proofs.RunLemmas.{told_further}
use Rattle.monitor.proofs.whole.tell_further.Goals as goal

there : (o : Option ℕ) → is_some o ≡ true → (k : ℕ) × (o ≡ Some k)
there None h = cc
there (Some k) h = (k, refl)

gone : (o : Option ℕ) → is_some o ≡ false → o ≡ None
gone None h = refl
gone (Some k) h = cc

pub loop-init : goal.loop-init
loop-init g c = (
  c.requires.stands,
  refl,
  record {
    more = [];
    behind = sym (append-nil c.args.told.now.items);
    told = λ first start before told.
        subst (λ (fs : List Finding). IsTold g.J.Judge.allows first c.args.trace.now c.args.monitor.now start fs)
        (sym (append-nil before)) told;
    silent = λ n past. All-nil (λ (f : Finding). n < f.line);
    past = λ n past. past;
  },
)

pub loop-preserved : goal.loop-preserved
loop-preserved g c =
    let t = c.args.trace.now in
    let so_far = c.loop.invariant.2 in
    let line = there c.in_ok-take.field-0 (sym c.if-is_some.ensures) in
    let takes : Takes t c.loop.monitor c.take.new.self line.0 =
    subst (λ (o : Option ℕ). IfSome o (Takes t c.loop.monitor c.take.new.self)) line.1 c.in_ok-take.ensures.takes in
    let tells : Tells g.J.Judge.allows t line.0 c.loop.told.items c.take.new.told.items =
    subst (λ (o : Option ℕ). IfSome o (λ k. Tells g.J.Judge.allows t k c.loop.told.items c.take.new.told.items)) line.1
    c.in_ok-take.ensures.told in
    let here = told_from (is_at line.0) t tells.0 0 t.entries in (
      c.in_ok-take.ensures.stands,
      c.in_ok-take.ensures.judge ∙ c.loop.invariant.1,
      record {
        more = so_far.more ++ here;
        behind = tells.2 ∙ ap (λ (fs : List Finding). fs ++ here) so_far.behind
            ∙ append_assoc c.args.told.now.items so_far.more here;
        told = λ first start before told.
            subst (λ (fs : List Finding). IsTold g.J.Judge.allows first t c.take.new.self start fs)
            (append_assoc before so_far.more here)
            (told_further t c.stand_in_order.ensures c.entries_rise.ensures g.J.Judge.allows first c.loop.monitor
            c.take.new.self line.0 start (before ++ so_far.more) (so_far.told first start before told) takes tells.0 tells.1);
        silent = λ n past. All-append (λ (f : Finding). n < f.line) so_far.more here (so_far.silent n past)
            (behind_taken t c.stand_in_order.ensures c.entries_rise.ensures c.loop.monitor c.loop.invariant.0 n
            (so_far.past n past) c.take.new.self line.0 takes tells.0);
        past = λ n past. past_taken t c.loop.monitor c.take.new.self line.0 n takes (so_far.past n past);
      },
    )

pub returns-clause-stands : goal.returns-clause-stands
returns-clause-stands g c = c.in_ok-take.ensures.stands

pub returns-clause-all : goal.returns-clause-all
returns-clause-all g c = (c.in_ok-take.ensures.all (gone c.in_ok-take.field-0 (sym c.if-is_some.ensures))).0

pub returns-clause-told : goal.returns-clause-told
returns-clause-told g c =
    let t = c.args.trace.now in
    let ended = c.in_ok-take.ensures.all (gone c.in_ok-take.field-0 (sym c.if-is_some.ensures)) in
    subst (λ (m : Monitor). TellsMore g.J.Judge.allows t c.args.monitor.now m c.args.told.now.items c.take.new.told.items)
    (sym ended.1)
    (subst (λ (fs : List Finding). TellsMore g.J.Judge.allows t c.args.monitor.now c.loop.monitor c.args.told.now.items fs)
    (sym ended.2) c.loop.invariant.2)

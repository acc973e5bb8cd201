use Rattle.std.proofs.Common.{◌≡◌, ◌∙◌, ◌+◌, ℕ, List, [], ◌∷◌, length, ap, arith, refl, sym, subst, append-nil, length-append}
use Rattle.std.specs.Prelude.{IfErr}
use Rattle.trace_lines.specs.Placed.{AreInPlace}
use Rattle.trace_lines.specs.Values.{EntryValue, TraceValue}
use Rattle.windows.specs.Growth.{GoesOn}
use Rattle.follow_laws.specs.Begun.{IsOfBytes}
use Rattle.runs.specs.Kept.{KeptValue, log_behind}
use Rattle.runs.proofs.KeptReadLemmas.{goes_behind}
use Rattle.audit.specs.Devices.{reader, reads, writer}
use Rattle.audit.specs.Kinds.{IsOneOf}
use Rattle.audit.specs.Kinds as kind
use Rattle.audit.specs.Parts.{Told}
use Rattle.audit.specs.declared.plain.AuditFault.TheVariants as faults
use Rattle.audit.proofs.KindLemmas.{handed_on, kinds-more}
use Rattle.audit.proofs.Readers.{behind_at_rest, few_at_rest, next_at_rest}
use Rattle.follow.specs.Handing.{IsRunEnd, RunEnds, RunWentOut}
use Rattle.follow.specs.Reading.{IsSaidBehind}
use Rattle.follow.specs.Running.{Run}
use Rattle.follow.specs.Lines.{TellsLines}
use Rattle.follow.specs.SoFar.{IsFollowed}
use Rattle.follow.proofs.HandLemmas.{run_ended, run_stopped, went_on}
use Rattle.follow.proofs.RunLemmas.{nothing_at_all, stopped}
use Rattle.follow.proofs.handing.follow_run.Goals as goal

same_log : (k l : KeptValue) → k ≡ l → IsSaidBehind k (log_behind l)
same_log k l is whole a = ap (λ (x : KeptValue). log_behind x whole a) (sym is)

pub returns-in_err-log-clause-run : goal.returns-in_err-log-clause-run
returns-in_err-log-clause-run g c =
    let k = c.args.log in
    let r = reader g.A.Source.given g.A.Source.ends g.A.Source.failures g.A.Read.remaining c.args.trace.now in
    let w = writer g.W.Sink.taken g.W.Sink.flushes g.W.Sink.failures g.W.Sink.idle g.W.Write.contents c.args.out.now in
    handed_on (Run (log_behind k) (RunEnds k c.args.known) (RunWentOut k c.args.known) _ _) _ c.from_residual.ensures.1
    (stopped (log_behind k) (RunEnds k c.args.known) (RunWentOut k c.args.known) (record { before = r; after = r })
    (record { before = w; after = w }) faults.OutOfMemory (refl, tt)
    (record { most = few_at_rest r; known = next_at_rest r; kept = refl }) (
      [],
      sym (append-nil r.given),
      went_on k c.args.known [] w.taken w.taken
          (nothing_at_all (log_behind k) k (λ whole a. refl) (k.lines + 1) c.args.known w.taken),
    )
    (behind_at_rest w) (λ is. absurd is) (λ _. (refl, refl)))

pub follow_lines-requires-clause-followed : goal.follow_lines-requires-clause-followed
follow_lines-requires-clause-followed g c =
    subst (λ (k : KeptValue). (u : TraceValue) → GoesOn k.lines k.log u → AreInPlace u → IsOfBytes u
    → IsFollowed u c.in_ok-log.follower) (sym c.in_ok-log.ensures.log) c.in_ok-log.ensures.followed

pub returns-in_err-log-2-clause-run : goal.returns-in_err-log-2-clause-run
returns-in_err-log-2-clause-run g c =
    let k = c.args.log in
    handed_on (Run (log_behind k) (RunEnds k c.args.known) (RunWentOut k c.args.known) _ _) _
    c.from_residual-in_err-log-2.ensures.1
    (run_stopped k c.args.known c.in_ok-log.follower.first c.in_ok-log.follower.known c.in_ok-log.ensures.from.0
    c.in_ok-log.ensures.from.1 (reads g.A.Source.given g.A.Source.ends g.A.Source.failures g.A.Read.remaining c.args.trace.now c.follow_lines.new.trace) (writer g.W.Sink.taken g.W.Sink.flushes g.W.Sink.failures g.W.Sink.idle g.W.Write.contents c.args.out.now)
    (writer g.W.Sink.taken g.W.Sink.flushes g.W.Sink.failures g.W.Sink.idle g.W.Write.contents c.follow_lines.new.out) _ (TellsLines (log_behind k) _)
    (c.in_err-log-2.ensures.run (log_behind k) (same_log c.in_ok-log.log k c.in_ok-log.ensures.log)))

pub end_run-requires-clause-begun : goal.end_run-requires-clause-begun
end_run-requires-clause-begun g c =
    let k = c.args.log in
    let run = c.in_ok-log-2.ensures.run (log_behind k) (same_log c.in_ok-log.log k c.in_ok-log.ensures.log) in
    let t = c.in_ok-log-2.log.log in
    let goes = goes_behind k c.requires run.follows.1.0 t run.follows.1.2.said in
    let more = ap (λ (es : List EntryValue). length es) goes.recorded in
    let long = length-append k.log.entries goes.entries in
    let begun = c.in_ok-log.ensures.start.1 in
    omega (arith, more, long, begun)

pub end_run-requires-clause-followed : goal.end_run-requires-clause-followed
end_run-requires-clause-followed g c =
    (c.in_ok-log-2.ensures.run (log_behind c.args.log) (same_log c.in_ok-log.log c.args.log c.in_ok-log.ensures.log)).follows.1.2.followed

pub end_run-requires-clause-all : goal.end_run-requires-clause-all
end_run-requires-clause-all g c =
    (c.in_ok-log-2.ensures.run (log_behind c.args.log) (same_log c.in_ok-log.log c.args.log c.in_ok-log.ensures.log)).follows.1.2.all

pub end_run-requires-clause-indexed : goal.end_run-requires-clause-indexed
end_run-requires-clause-indexed g c =
    (c.in_ok-log-2.ensures.run (log_behind c.args.log) (same_log c.in_ok-log.log c.args.log c.in_ok-log.ensures.log)).follows.1.2.indexed

pub returns-clause-run : goal.returns-clause-run
returns-clause-run g c =
    let k = c.args.log in
    let run = c.in_ok-log-2.ensures.run (log_behind k) (same_log c.in_ok-log.log k c.in_ok-log.ensures.log) in
    let f = c.follow_lines.new.follower in
    let from = c.in_ok-log-2.ensures.from in
    let began = c.in_ok-log.ensures.from in
    run_ended k c.args.known (reads g.A.Source.given g.A.Source.ends g.A.Source.failures g.A.Read.remaining c.args.trace.now c.follow_lines.new.trace) (writer g.W.Sink.taken g.W.Sink.flushes g.W.Sink.failures g.W.Sink.idle g.W.Write.contents c.args.out.now)
    (writer g.W.Sink.taken g.W.Sink.flushes g.W.Sink.failures g.W.Sink.idle g.W.Write.contents c.follow_lines.new.out) (writer g.W.Sink.taken g.W.Sink.flushes g.W.Sink.failures g.W.Sink.idle g.W.Write.contents c.end_run.new.out) f c.in_ok-log-2.log c.in_ok-log-2.usersets c.in_ok-log-2.read c.requires
    (from.0 ∙ began.0) (from.1 ∙ began.1) run c.end_run.result
    (subst (λ (n : ℕ). Told (IsRunEnd c.in_ok-log-2.log.log f n (k.lines + c.in_ok-log-2.read)) (record {
      before = writer g.W.Sink.taken g.W.Sink.flushes g.W.Sink.failures g.W.Sink.idle g.W.Write.contents c.follow_lines.new.out;
      after = writer g.W.Sink.taken g.W.Sink.flushes g.W.Sink.failures g.W.Sink.idle g.W.Write.contents c.end_run.new.out;
    }) c.end_run.result) c.in_ok-log.ensures.start.1
    (subst (λ (n : ℕ). Told (IsRunEnd c.in_ok-log-2.log.log f c.in_ok-log.start.entries (n + c.in_ok-log-2.read)) (record {
      before = writer g.W.Sink.taken g.W.Sink.flushes g.W.Sink.failures g.W.Sink.idle g.W.Write.contents c.follow_lines.new.out;
      after = writer g.W.Sink.taken g.W.Sink.flushes g.W.Sink.failures g.W.Sink.idle g.W.Write.contents c.end_run.new.out;
    }) c.end_run.result) c.in_ok-log.ensures.start.0 c.end_run.ensures))

pub returns-clause-kinds : goal.returns-clause-kinds
returns-clause-kinds g c =
    kinds-more (kind.write ∷ kind.memory ∷ []) (kind.trace ∷ kind.write ∷ kind.memory ∷ []) refl c.end_run.result
    c.end_run.ensures.kinds

pub returns-in_err-log-2-clause-kinds : goal.returns-in_err-log-2-clause-kinds
returns-in_err-log-2-clause-kinds g c =
    handed_on (λ r. IfErr r (IsOneOf (kind.trace ∷ kind.write ∷ kind.memory ∷ []))) _ c.from_residual-in_err-log-2.ensures.1
    c.in_err-log-2.ensures.kinds

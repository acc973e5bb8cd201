use Rattle.std.proofs.Common.{◌≡◌, ◌∙◌, List, [], ◌∷◌, Option, ap, refl, sym, subst}
use Rattle.std.specs.Prelude.{IfErr}
use Rattle.userset_index.specs.Growth.{IsGrowing}
use Rattle.trace_lines.specs.Traces.{trace_of}
use Rattle.trace_lines.specs.Values.{TraceValue}
use Rattle.evidence_check.specs.Steps.{StepValue}
use Rattle.findings.specs.Findings.{findings_of}
use Rattle.findings.specs.Headline.{IsRightAndFresh}
use Rattle.monitor.specs.Standing.{IsAtEnd}
use Rattle.audit.specs.Audit.{verdict_of}
use Rattle.audit.specs.Devices.{reads, writer}
use Rattle.audit.specs.Kinds.{IsOneOf}
use Rattle.audit.specs.Kinds as kind
use Rattle.audit.specs.Parts.{Told}
use Rattle.audit.proofs.KindLemmas.{handed_on, kinds-more}
use Rattle.runs.specs.Kept.{KeptValue, log_behind, nothing_kept}
use Rattle.runs.proofs.KeptReadLemmas.{trace_behind_nothing}
use Rattle.follow.specs.Following.{Followed}
use Rattle.follow.specs.Reading.{IsSaidBehind}
use Rattle.follow.specs.Lines.{TellsLines}
use Rattle.follow.specs.SoFar.{IsFollowed, TellsRest}
use Rattle.follow.proofs.WholeLemmas.{ended, not_followed}
use Rattle.follow.proofs.following.follow.Goals as goal

said_behind : (k : KeptValue) → k ≡ nothing_kept → IsSaidBehind k trace_of
said_behind k is whole a = sym (trace_behind_nothing whole a) ∙ ap (λ (x : KeptValue). log_behind x whole a) (sym is)

pub follow_lines-requires-clause-followed : goal.follow_lines-requires-clause-followed
follow_lines-requires-clause-followed g c u goes placed good = c.new-follower.ensures.followed u

pub returns-in_err-log-clause-followed : goal.returns-in_err-log-clause-followed
returns-in_err-log-clause-followed g c =
    handed_on (Followed _ _) _ c.from_residual.ensures.1
    (not_followed (reads g.A.Source.given g.A.Source.ends g.A.Source.failures g.A.Read.remaining c.args.trace.now c.follow_lines.new.trace) (writer g.W.Sink.taken g.W.Sink.flushes g.W.Sink.failures g.W.Sink.idle g.W.Write.contents c.args.out.now) (writer g.W.Sink.taken g.W.Sink.flushes g.W.Sink.failures g.W.Sink.idle g.W.Write.contents c.follow_lines.new.out) _
    c.new-follower.result c.new-follower.ensures.all.0 c.new-follower.ensures.all.1 (TellsLines trace_of _)
    (c.in_err-log.ensures.run trace_of (said_behind c.new.result c.new.ensures)))

pub tell_end-requires-clause-followed : goal.tell_end-requires-clause-followed
tell_end-requires-clause-followed g c =
    let run = c.in_ok-log.ensures.run trace_of (said_behind c.new.result c.new.ensures) in
    subst (λ (t : TraceValue). IsFollowed t c.follow_lines.new.follower) (sym c.into_parts-log.ensures.log)
    run.follows.1.2.followed

pub tell_end-requires-clause-all : goal.tell_end-requires-clause-all
tell_end-requires-clause-all g c =
    let run = c.in_ok-log.ensures.run trace_of (said_behind c.new.result c.new.ensures) in
    subst (λ (t : TraceValue). IsAtEnd t c.follow_lines.new.follower.monitor) (sym c.into_parts-log.ensures.log)
    run.follows.1.2.all

pub tell_end-requires-clause-indexed : goal.tell_end-requires-clause-indexed
tell_end-requires-clause-indexed g c =
    let run = c.in_ok-log.ensures.run trace_of (said_behind c.new.result c.new.ensures) in
    subst (λ (t : TraceValue). IsGrowing t.declarations t.commits c.in_ok-log.usersets) (sym c.into_parts-log.ensures.log)
    run.follows.1.2.indexed

pub returns-clause-followed : goal.returns-clause-followed
returns-clause-followed g c =
    let run = c.in_ok-log.ensures.run trace_of (said_behind c.new.result c.new.ensures) in
    let from = c.in_ok-log.ensures.from in
    let all = c.new-follower.ensures.all in
    let is = c.into_parts-log.ensures.log in
    ended (reads g.A.Source.given g.A.Source.ends g.A.Source.failures g.A.Read.remaining c.args.trace.now c.follow_lines.new.trace) (writer g.W.Sink.taken g.W.Sink.flushes g.W.Sink.failures g.W.Sink.idle g.W.Write.contents c.args.out.now) (writer g.W.Sink.taken g.W.Sink.flushes g.W.Sink.failures g.W.Sink.idle g.W.Write.contents c.follow_lines.new.out)
    (writer g.W.Sink.taken g.W.Sink.flushes g.W.Sink.failures g.W.Sink.idle g.W.Write.contents c.tell_end.new.out) c.follow_lines.new.follower c.tell_end.new.follower c.in_ok-log.log c.in_ok-log.usersets _
    (from.0 ∙ all.0) (from.1 ∙ all.1) run c.tell_end.result
    (subst (λ (t : TraceValue). (evidence : List (Option (List StepValue))) → findings_of t evidence ≡ [] → IsRightAndFresh t)
    is c.tell_end.ensures.right)
    (subst (λ (t : TraceValue). Told (λ text w. TellsRest t c.follow_lines.new.follower c.tell_end.new.follower text
    × (w ≡ verdict_of c.tell_end.new.follower.told.items)) (record {
      before = writer g.W.Sink.taken g.W.Sink.flushes g.W.Sink.failures g.W.Sink.idle g.W.Write.contents c.follow_lines.new.out;
      after = writer g.W.Sink.taken g.W.Sink.flushes g.W.Sink.failures g.W.Sink.idle g.W.Write.contents c.tell_end.new.out;
    }) c.tell_end.result) is c.tell_end.ensures.told)

pub returns-clause-kinds : goal.returns-clause-kinds
returns-clause-kinds g c =
    kinds-more (kind.write ∷ kind.memory ∷ []) (kind.trace ∷ kind.write ∷ kind.memory ∷ []) refl c.tell_end.result
    c.tell_end.ensures.told.kinds

pub returns-in_err-log-clause-kinds : goal.returns-in_err-log-clause-kinds
returns-in_err-log-clause-kinds g c =
    handed_on (λ r. IfErr r (IsOneOf (kind.trace ∷ kind.write ∷ kind.memory ∷ []))) _ c.from_residual.ensures.1
    c.in_err-log.ensures.kinds

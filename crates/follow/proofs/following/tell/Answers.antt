use Rattle.std.proofs.Common.{◌≡◌, ◌∙◌, ℕ, Result, Ok, Err, ap, sym, subst}
use Rattle.std.specs.Prelude.{OnOk}
use Rattle.userset_index.specs.Growth.{IsGrowing}
use Rattle.trace_lines.specs.Placed.{AreInPlace}
use Rattle.trace_lines.specs.Values.{TraceValue}
use Rattle.follow_laws.specs.Begun.{IsOfBytes}
use Rattle.runs.specs.Kept.{KeptValue}
use Rattle.audit.specs.Parts.{Told}
use Rattle.audit.proofs.Answering.{told-map, told_no_memory}
use Rattle.audit.proofs.KindLemmas.{handed_on}
use Rattle.follow.specs.SoFar.{IsFollowed, TellsPiece}
use Rattle.follow.proofs.following.tell.Goals as goal

pub tell-requires : goal.tell-requires
tell-requires g c =
    let t = c.trace-trace.result.now in
    let same : t ≡ c.args.log.log = c.trace-trace.ensures ∙ c.pause-paused.ensures ∙ c.into_parts-lines.ensures.log in
    let placed = c.stand_in_order.ensures in
    let rising = c.entries_rise.ensures in
    let good : IsOfBytes t = record {
      rising = record { commits = placed.commits; entries = rising };
      formed = record { lines = rising; versions = c.versions_issued_once.ensures; strata = c.valid_strata.ensures };
    } in
    subst (λ (u : TraceValue). AreInPlace u → IsOfBytes u → IsFollowed u c.args.follower.now) (sym same) c.requires.followed
    placed good

pub returns-in_err-text-clause-told : goal.returns-in_err-text-clause-told
returns-in_err-text-clause-told g c = handed_on (Told _ _) _ c.from_residual.ensures.1 (told_no_memory _ _)

same_kept : (k l : KeptValue) → k.lines ≡ l.lines → k.log ≡ l.log → k ≡ l
same_kept k l lines log =
    ap (λ (n : ℕ). record { lines = n; log = k.log }) lines ∙ ap (λ (t : TraceValue). record { lines = l.lines; log = t }) log

pub returns-clause-told : goal.returns-clause-told
returns-clause-told g c =
    let parts = c.into_parts-lines.ensures in
    let same : c.trace-trace.result.now ≡ c.args.log.log = c.trace-trace.ensures ∙ c.pause-paused.ensures ∙ parts.log in
    told-map _ _ _ c.tell-2.result (λ text k says. (
      says.1 ∙ same_kept c.from_parts-log.result c.args.log (c.from_parts-log.ensures.lines ∙ parts.lines)
          (c.from_parts-log.ensures.log ∙ c.resume-log.ensures.log ∙ c.pause-paused.ensures ∙ parts.log),
      subst (λ (t : TraceValue). TellsPiece t c.args.line c.args.follower.now c.tell.new.self text) same
          (subst (TellsPiece c.trace-trace.result.now c.args.line c.args.follower.now c.tell.new.self)
          (sym (says.0 ∙ c.as_str.ensures.value)) c.in_ok-text.ensures),
    )) c.tell-2.ensures

given : {A E : Type 0} (r : Result A E) (P : Type 0) → P → OnOk r P
given (Ok x) P p = p
given (Err e) P p = tt

pub returns-clause-indexed : goal.returns-clause-indexed
returns-clause-indexed g c =
    given c.tell-2.result (IsGrowing c.args.log.log.declarations c.args.log.log.commits c.resume-log.result.1)
    (subst (λ (t : TraceValue). IsGrowing t.declarations t.commits c.resume-log.result.1)
    (c.pause-paused.ensures ∙ c.into_parts-lines.ensures.log) c.resume-log.ensures.usersets)

use Rattle.std.proofs.Common.{◌≡◌, ◌∙◌, ◌+◌, ◌-◌, ◌≤◌, ℕ, Bool, List, [], ◌∷◌, ◌++◌, true, Result, None, Ok, Err, append_assoc, arith, refl, sym, ap, subst, append-nil}
use Rattle.std.specs.Prelude.{IfErr}
use Rattle.std.proofs.lemmas.Bool.{true≢false}
use Rattle.std.proofs.lemmas.List.{append_cancel_left}
use Rattle.audit.specs.Devices.{reader, reads, writer}
use Rattle.audit.specs.Kinds.{IsOneOf}
use Rattle.audit.specs.Kinds as kind
use Rattle.audit.specs.declared.plain.AuditFault.TheVariants as faults
use Rattle.audit.proofs.KindLemmas.{handed_on, kinds-more}
use Rattle.audit.proofs.Readers.{behind_at_rest, few_at_rest, next_at_rest}
use Rattle.json_lines.specs.Reading.{line_count}
use Rattle.runs.specs.Kept.{KeptValue, log_behind, next_kept}
use Rattle.follow.specs.Reading.{IsKeptSoFar, IsSaidBehind}
use Rattle.follow.specs.Running.{Run}
use Rattle.follow.specs.Lines.{IsSoFar, TellsLines}
use Rattle.audit.specs.Audit.{Says}
use Rattle.follow.proofs.GrownLemmas.{first_lines, said_lines}
use Rattle.follow.proofs.IndexLemmas.{IsIndexSoFar, index_first, index_line, index_now, index_told}
use Rattle.follow.proofs.RunLemmas.{IsRunSoFar, came_since, fine_so_far, fine_whole, followed_now, held_on, lines_followed, never_failed, no_lines, nothing_at_all, nothing_went, refused, run_first, run_line, run_told, stopped, taken_further, tell_stopped, whole_lines}
use Rattle.follow.proofs.following.follow_lines.Goals as goal

pub returns-in_err-lines-clause-run : goal.returns-in_err-lines-clause-run
returns-in_err-lines-clause-run g c says means =
    let r = reader g.A.Source.given g.A.Source.ends g.A.Source.failures g.A.Read.remaining c.args.trace.now in
    let w = writer g.W.Sink.taken g.W.Sink.flushes g.W.Sink.failures g.W.Sink.idle g.W.Write.contents c.args.out.now in
    handed_on (Run says (TellsLines says _) (IsSoFar says _ _) _ _) _ c.from_residual.ensures.1
    (stopped says (TellsLines says _) (IsSoFar says _ _) (record { before = r; after = r }) (record { before = w; after = w })
    faults.OutOfMemory (refl, tt) (record { most = few_at_rest r; known = next_at_rest r; kept = refl })
    ([], sym (append-nil r.given), nothing_at_all says c.args.log means _ _ w.taken) (behind_at_rest w) (λ is. absurd is) (λ _. (refl, refl)))

pub loop-usersets-init : goal.loop-usersets-init
loop-usersets-init g c =
    let made = c.in_ok-lines.ensures in
    let start = g.W.Sink.taken c.args.out.now in
    let first = first_lines g.A.Source.given g.A.Source.ends g.A.Source.failures g.A.Read.remaining c.args.trace.now c.args.log c.in_ok-lines.lines made.0 made.1 made.2 in
    record {
      run = (
        first.0,
        λ says means. (
          subst (λ (used : List ℕ). IsRunSoFar says c.args.follower.now.first c.args.follower.now.known used start start
              c.args.follower.now) (sym first.1)
              (run_first says c.args.log means c.args.follower.now.first c.args.follower.now.known c.args.follower.now start
              c.requires.none (refl, refl) c.requires.followed c.requires.fits),
          subst (λ (used : List ℕ). IsIndexSoFar says used c.usersets-usersets.result) (sym first.1)
              (index_first says c.args.log means c.requires.fits c.usersets-usersets.result c.usersets-usersets.ensures),
        ),
      );
      from = (refl, refl);
      next = let fits = c.requires.fits in omega (arith, made.1, fits);
      room = omega (arith, made.1, made.2);
      number = omega (arith, made.1);
      kept = (refl, refl);
      held = behind_at_rest (writer g.W.Sink.taken g.W.Sink.flushes g.W.Sink.failures g.W.Sink.idle g.W.Write.contents c.args.out.now);
    }

err_apart : {E : Type 0} (e : E) (b : Bool) → ◌≡◌ {A = Result Bool E} (Err e) (Ok b) → ⊥
err_apart e b is = cc

pub returns-in_err-take_line-clause-run : goal.returns-in_err-take_line-clause-run
returns-in_err-take_line-clause-run g c says means =
    let l = c.loop-usersets in
    let so_far = l.invariant.run.0 in
    let known = c.take_line.ensures.known in
    let rest = l.lines.lines ++ known.0 in
    handed_on (Run says (TellsLines says _) (IsSoFar says _ _) _ _) _ c.from_residual-in_err-take_line.ensures.1
    (refused says (TellsLines says _) (IsSoFar says _ _) _ _ _
    (c.in_err-take_line.ensures.read (λ no. err_apart _ true no) c.args.trace.now c.args.log so_far says means) (
      so_far.used ++ rest,
      came_since g.A.Source.given g.A.Source.ends g.A.Source.failures g.A.Read.remaining c.args.trace.now c.args.log l.trace c.take_line.new.reader l.log l.lines so_far known,
      nothing_went says _ _ so_far.used (g.W.Sink.taken c.args.out.now) (g.W.Sink.taken l.out) l.follower (l.invariant.run.1 says means).0.text
          (so_far.used ++ rest) rest refl,
    )
    l.invariant.held l.invariant.kept)

pub tell-requires-clause-followed : goal.tell-requires-clause-followed
tell-requires-clause-followed g c placed good =
    let l = c.loop-usersets in
    let so_far = l.invariant.run.0 in
    let more = ap Ok c.if-branch.true in
    let taken = taken_further g.A.Source.given g.A.Source.ends g.A.Source.failures g.A.Read.remaining c.args.trace.now c.args.log l.trace c.take_line.new.reader l.log c.take_line.new.log l.lines
    c.take_line.new.lines so_far c.in_ok-take_line.ensures more in
    let further = taken.0 in
    let run = (l.invariant.run.1 (log_behind c.args.log) (λ whole a. refl)).0 in
    followed_now (log_behind c.args.log) _ _ further.used (g.W.Sink.taken c.args.out.now) (g.W.Sink.taken l.out) l.follower c.take_line.new.log.log
    (run_line (log_behind c.args.log) _ _ so_far.used further.used taken.1 (g.W.Sink.taken c.args.out.now) (g.W.Sink.taken l.out) l.follower taken.2 run)
    (said_lines g.A.Source.given g.A.Source.ends g.A.Source.failures g.A.Read.remaining c.args.trace.now c.take_line.new.reader c.args.log c.take_line.new.log c.take_line.new.lines further)
    placed good

pub tell-requires-clause-indexed : goal.tell-requires-clause-indexed
tell-requires-clause-indexed g c =
    let l = c.loop-usersets in
    let so_far = l.invariant.run.0 in
    let more = ap Ok c.if-branch.true in
    let taken = taken_further g.A.Source.given g.A.Source.ends g.A.Source.failures g.A.Read.remaining c.args.trace.now c.args.log l.trace c.take_line.new.reader l.log c.take_line.new.log l.lines
    c.take_line.new.lines so_far c.in_ok-take_line.ensures more in
    let further = taken.0 in
    let index = (l.invariant.run.1 (log_behind c.args.log) (λ whole a. refl)).1 in
    index_now (log_behind c.args.log) further.used c.take_line.new.log.log l.usersets
    (index_line (log_behind c.args.log) so_far.used further.used taken.1 l.usersets taken.2 index)
    (said_lines g.A.Source.given g.A.Source.ends g.A.Source.failures g.A.Read.remaining c.args.trace.now c.take_line.new.reader c.args.log c.take_line.new.log c.take_line.new.lines further)

pub returns-in_err-log-clause-run : goal.returns-in_err-log-clause-run
returns-in_err-log-clause-run g c says means =
    let l = c.loop-usersets in
    let so_far = l.invariant.run.0 in
    let more = ap Ok c.if-branch.true in
    let taken = taken_further g.A.Source.given g.A.Source.ends g.A.Source.failures g.A.Read.remaining c.args.trace.now c.args.log l.trace c.take_line.new.reader l.log c.take_line.new.log l.lines
    c.take_line.new.lines so_far c.in_ok-take_line.ensures more in
    let further = taken.0 in
    let run = (l.invariant.run.1 says means).0 in
    let now = run_line says _ _ so_far.used further.used taken.1 (g.W.Sink.taken c.args.out.now) (g.W.Sink.taken l.out) l.follower taken.2 run in
    let said = means true further.used
    ∙ said_lines g.A.Source.given g.A.Source.ends g.A.Source.failures g.A.Read.remaining c.args.trace.now c.take_line.new.reader c.args.log c.take_line.new.log c.take_line.new.lines further in
    handed_on (Run says (TellsLines says _) (IsSoFar says _ _) _ _) _ c.from_residual-in_err-log.ensures.1
    (tell_stopped (reads g.A.Source.given g.A.Source.ends g.A.Source.failures g.A.Read.remaining c.args.trace.now c.take_line.new.reader) (writer g.W.Sink.taken g.W.Sink.flushes g.W.Sink.failures g.W.Sink.idle g.W.Write.contents c.args.out.now) (writer g.W.Sink.taken g.W.Sink.flushes g.W.Sink.failures g.W.Sink.idle g.W.Write.contents l.out) (writer g.W.Sink.taken g.W.Sink.flushes g.W.Sink.failures g.W.Sink.idle g.W.Write.contents c.tell.new.out)
    l.invariant.kept l.invariant.held says c.args.log means c.requires.fits _ _ c.requires.first l.follower c.tell.new.follower
    c.take_line.new.log _ further.used
    (fine_so_far g.A.Source.given g.A.Source.ends g.A.Source.failures g.A.Read.remaining c.args.trace.now c.take_line.new.reader c.args.log c.take_line.new.log c.take_line.new.lines further
    c.holds_line.ensures.few) said c.last_line-line.result
    (whole_lines g.A.Source.given g.A.Source.ends g.A.Source.failures g.A.Read.remaining c.args.trace.now c.take_line.new.reader c.args.log c.take_line.new.log c.take_line.new.lines further
    (let one = l.invariant.number in omega (arith, one, (c.in_ok-take_line.ensures.next more).0)) c.args.log.lines
    c.last_line-line.result (λ n is. c.last_line-line.ensures n is
    ∙ ap (λ (b : ℕ). b + (c.take_line.new.lines.number - 1)) c.lines-before.ensures)) now c.in_err-log.ensures.told
    (further.used ++ c.take_line.new.lines.lines) c.take_line.new.lines.lines
    (further.gave ∙ append_assoc (g.A.Source.given c.args.trace.now) further.used c.take_line.new.lines.lines) refl
    (TellsLines says _))

pub loop-usersets-preserved : goal.loop-usersets-preserved
loop-usersets-preserved g c =
    let l = c.loop-usersets in
    let so_far = l.invariant.run.0 in
    let more = ap Ok c.if-branch.true in
    let taken = taken_further g.A.Source.given g.A.Source.ends g.A.Source.failures g.A.Read.remaining c.args.trace.now c.args.log l.trace c.take_line.new.reader l.log c.take_line.new.log l.lines
    c.take_line.new.lines so_far c.in_ok-take_line.ensures more in
    let further = taken.0 in
    let next = c.in_ok-take_line.ensures.next more in
    let room = c.in_ok-take_line.ensures.room more in
    let number = l.invariant.number in
    record {
      run = (
        further,
        λ says means.
            let run = l.invariant.run.1 says means in (
              run_line says _ _ so_far.used further.used taken.1 (g.W.Sink.taken c.args.out.now) (g.W.Sink.taken l.out) l.follower taken.2 run.0,
              index_line says so_far.used further.used taken.1 l.usersets taken.2 run.1,
            ),
      );
      from = l.invariant.from;
      next = next.1;
      room = room.0;
      number = omega (arith, next.0, number);
      kept = l.invariant.kept;
      held = l.invariant.held;
    }

pub loop-usersets-preserved-then-not-holds_line : goal.loop-usersets-preserved-then-not-holds_line
loop-usersets-preserved-then-not-holds_line g c =
    let l = c.loop-usersets in
    let so_far = l.invariant.run.0 in
    let more = ap Ok c.if-branch.true in
    let taken = taken_further g.A.Source.given g.A.Source.ends g.A.Source.failures g.A.Read.remaining c.args.trace.now c.args.log l.trace c.take_line.new.reader l.log c.take_line.new.log l.lines
    c.take_line.new.lines so_far c.in_ok-take_line.ensures more in
    let further = taken.0 in
    let next = c.in_ok-take_line.ensures.next more in
    let room = c.in_ok-take_line.ensures.room more in
    let number = l.invariant.number in
    let told = c.in_ok-log.ensures.told in
    let same = told.text.1.0 in
    let tells = told.text.1.1 in
    let whole = further.whole (let one = number in omega (arith, one, next.0)) in
    let lines = whole_lines g.A.Source.given g.A.Source.ends g.A.Source.failures g.A.Read.remaining c.args.trace.now c.take_line.new.reader c.args.log c.take_line.new.log c.take_line.new.lines further
    (let one = number in omega (arith, one, next.0)) c.args.log.lines c.last_line-line.result (λ n is. c.last_line-line.ensures n is
    ∙ ap (λ (b : ℕ). b + (c.take_line.new.lines.number - 1)) c.lines-before.ensures) in
    record {
      run = subst (λ (k : KeptValue). (so_far : IsKeptSoFar g.A.Source.given g.A.Source.ends g.A.Source.failures g.A.Read.remaining
          c.args.trace.now c.take_line.new.reader c.args.log k c.take_line.new.lines) × ((says : Says)
          → IsSaidBehind c.args.log says → IsRunSoFar says c.args.follower.now.first c.args.follower.now.known so_far.used
          (g.W.Sink.taken c.args.out.now) (g.W.Sink.taken c.tell.new.out) c.tell.new.follower
          × IsIndexSoFar says so_far.used c.tell.new.usersets)) (sym same) (
            further,
            λ says means.
                let run = l.invariant.run.1 says means in
                let now = run_line says _ _ so_far.used further.used taken.1 (g.W.Sink.taken c.args.out.now) (g.W.Sink.taken l.out)
                l.follower taken.2 run.0 in
                let said = means true further.used ∙ said_lines g.A.Source.given g.A.Source.ends g.A.Source.failures g.A.Read.remaining
                c.args.trace.now c.take_line.new.reader c.args.log c.take_line.new.log c.take_line.new.lines further in (
                  run_told says c.args.log means c.requires.fits _ _ c.requires.first further.used (g.W.Sink.taken c.args.out.now)
                      (g.W.Sink.taken l.out) l.follower c.tell.new.follower now c.take_line.new.log.log said told.text.0
                      c.last_line-line.result lines tells whole.0 whole.1 (g.W.Sink.taken c.tell.new.out) told.text.2,
                  index_told says c.args.log means c.requires.fits further.used whole.0 c.take_line.new.log.log c.tell.new.usersets
                      whole.1 said c.in_ok-log.ensures.indexed,
                ),
          );
      from = (tells.same.0 ∙ l.invariant.from.0, tells.same.1 ∙ l.invariant.from.1);
      next = subst (λ (k : KeptValue). next_kept k ≤ c.take_line.new.lines.number) (sym same) next.1;
      room = room.0;
      number = omega (arith, next.0, number);
      kept = never_failed (writer g.W.Sink.taken g.W.Sink.flushes g.W.Sink.failures g.W.Sink.idle g.W.Write.contents c.args.out.now) (writer g.W.Sink.taken g.W.Sink.flushes g.W.Sink.failures g.W.Sink.idle g.W.Write.contents l.out) (writer g.W.Sink.taken g.W.Sink.flushes g.W.Sink.failures g.W.Sink.idle g.W.Write.contents c.tell.new.out) l.invariant.kept told.kept;
      held = held_on (writer g.W.Sink.taken g.W.Sink.flushes g.W.Sink.failures g.W.Sink.idle g.W.Write.contents c.args.out.now) (writer g.W.Sink.taken g.W.Sink.flushes g.W.Sink.failures g.W.Sink.idle g.W.Write.contents l.out) (writer g.W.Sink.taken g.W.Sink.flushes g.W.Sink.failures g.W.Sink.idle g.W.Write.contents c.tell.new.out) l.invariant.held told.held;
    }

ok_same : {E : Type 0} {b : Bool} → ◌≡◌ {A = Result Bool E} (Ok b) (Ok true) → b ≡ true
ok_same is = cc (is)

pub tell-requires-2-clause-followed : goal.tell-requires-2-clause-followed
tell-requires-2-clause-followed g c placed good =
    let says : Says = log_behind c.args.log in
    let means : IsSaidBehind c.args.log says = λ whole a. refl in
    let l = c.loop-usersets in
    let so_far = l.invariant.run.0 in
    let known = c.take_line.ensures.known in
    let read = c.in_ok-take_line.ensures.read (λ more. true≢false (sym (ok_same more) ∙ c.if-branch.false)) c.args.trace.now
    c.args.log so_far says means in
    let came = read.given.1.0 in
    let rest = l.lines.lines ++ known.0 in
    let is : came ≡ so_far.used ++ rest = append_cancel_left (g.A.Source.given c.args.trace.now) came (so_far.used ++ rest)
    (sym read.given.1.1 ∙ came_since g.A.Source.given g.A.Source.ends g.A.Source.failures g.A.Read.remaining c.args.trace.now c.args.log l.trace c.take_line.new.reader l.log l.lines so_far known) in
    let run = l.invariant.run.1 says means in
    let now = run_line says _ _ so_far.used came rest (g.W.Sink.taken c.args.out.now) (g.W.Sink.taken l.out) l.follower is run.0 in
    followed_now says _ _ came (g.W.Sink.taken c.args.out.now) (g.W.Sink.taken l.out) l.follower c.take_line.new.log.log now read.given.1.2 placed good

pub tell-requires-2-clause-indexed : goal.tell-requires-2-clause-indexed
tell-requires-2-clause-indexed g c =
    let says : Says = log_behind c.args.log in
    let means : IsSaidBehind c.args.log says = λ whole a. refl in
    let l = c.loop-usersets in
    let so_far = l.invariant.run.0 in
    let known = c.take_line.ensures.known in
    let read = c.in_ok-take_line.ensures.read (λ more. true≢false (sym (ok_same more) ∙ c.if-branch.false)) c.args.trace.now
    c.args.log so_far says means in
    let came = read.given.1.0 in
    let rest = l.lines.lines ++ known.0 in
    let is : came ≡ so_far.used ++ rest = append_cancel_left (g.A.Source.given c.args.trace.now) came (so_far.used ++ rest)
    (sym read.given.1.1 ∙ came_since g.A.Source.given g.A.Source.ends g.A.Source.failures g.A.Read.remaining c.args.trace.now c.args.log l.trace c.take_line.new.reader l.log l.lines so_far known) in
    let run = l.invariant.run.1 says means in
    let now = run_line says _ _ so_far.used came rest (g.W.Sink.taken c.args.out.now) (g.W.Sink.taken l.out) l.follower is run.0 in
    index_now says came c.take_line.new.log.log l.usersets (index_line says so_far.used came rest l.usersets is run.1) read.given.1.2

pub returns-in_err-log-2-clause-run : goal.returns-in_err-log-2-clause-run
returns-in_err-log-2-clause-run g c says means =
    let l = c.loop-usersets in
    let so_far = l.invariant.run.0 in
    let known = c.take_line.ensures.known in
    let read = c.in_ok-take_line.ensures.read (λ more. true≢false (sym (ok_same more) ∙ c.if-branch.false)) c.args.trace.now
    c.args.log so_far says means in
    let came = read.given.1.0 in
    let rest = l.lines.lines ++ known.0 in
    let is : came ≡ so_far.used ++ rest = append_cancel_left (g.A.Source.given c.args.trace.now) came (so_far.used ++ rest)
    (sym read.given.1.1 ∙ came_since g.A.Source.given g.A.Source.ends g.A.Source.failures g.A.Read.remaining c.args.trace.now c.args.log l.trace c.take_line.new.reader l.log l.lines so_far known) in
    let run = l.invariant.run.1 says means in
    let now = run_line says _ _ so_far.used came rest (g.W.Sink.taken c.args.out.now) (g.W.Sink.taken l.out) l.follower is run.0 in
    handed_on (Run says (TellsLines says _) (IsSoFar says _ _) _ _) _ c.from_residual-in_err-log-2.ensures.1
    (tell_stopped (reads g.A.Source.given g.A.Source.ends g.A.Source.failures g.A.Read.remaining c.args.trace.now c.take_line.new.reader) (writer g.W.Sink.taken g.W.Sink.flushes g.W.Sink.failures g.W.Sink.idle g.W.Write.contents c.args.out.now) (writer g.W.Sink.taken g.W.Sink.flushes g.W.Sink.failures g.W.Sink.idle g.W.Write.contents l.out) (writer g.W.Sink.taken g.W.Sink.flushes g.W.Sink.failures g.W.Sink.idle g.W.Write.contents c.tell-2.new.out)
    l.invariant.kept l.invariant.held says c.args.log means c.requires.fits _ _ c.requires.first l.follower c.tell-2.new.follower
    c.take_line.new.log _ came (fine_whole says _ c.take_line.new.log.log read) read.given.1.2 None (no_lines c.args.log.lines came) now
    c.in_err-log-2.ensures.told came [] read.given.1.1 (sym (append-nil came)) (TellsLines says _))

pub returns-clause-run : goal.returns-clause-run
returns-clause-run g c says means =
    let l = c.loop-usersets in
    let so_far = l.invariant.run.0 in
    let known = c.take_line.ensures.known in
    let read = c.in_ok-take_line.ensures.read (λ more. true≢false (sym (ok_same more) ∙ c.if-branch.false)) c.args.trace.now
    c.args.log so_far says means in
    let came = read.given.1.0 in
    let rest = l.lines.lines ++ known.0 in
    let is : came ≡ so_far.used ++ rest = append_cancel_left (g.A.Source.given c.args.trace.now) came (so_far.used ++ rest)
    (sym read.given.1.1 ∙ came_since g.A.Source.given g.A.Source.ends g.A.Source.failures g.A.Read.remaining c.args.trace.now c.args.log l.trace c.take_line.new.reader l.log l.lines so_far known) in
    let run = l.invariant.run.1 says means in
    let now = run_line says _ _ so_far.used came rest (g.W.Sink.taken c.args.out.now) (g.W.Sink.taken l.out) l.follower is run.0 in
    let last = c.in_ok-take_line.ensures.counted (ap Ok c.if-branch.false) c.args.trace.now c.args.log so_far in
    let counted = c.count.ensures ∙ last.2 ∙ ap line_count (append_cancel_left (g.A.Source.given c.args.trace.now) last.0 came
    (sym last.1 ∙ read.given.1.1)) in
    lines_followed (reads g.A.Source.given g.A.Source.ends g.A.Source.failures g.A.Read.remaining c.args.trace.now c.take_line.new.reader) (writer g.W.Sink.taken g.W.Sink.flushes g.W.Sink.failures g.W.Sink.idle g.W.Write.contents c.args.out.now) (writer g.W.Sink.taken g.W.Sink.flushes g.W.Sink.failures g.W.Sink.idle g.W.Write.contents l.out) (writer g.W.Sink.taken g.W.Sink.flushes g.W.Sink.failures g.W.Sink.idle g.W.Write.contents c.tell-2.new.out)
    l.invariant.kept l.invariant.held says c.args.log means c.requires.fits _ _ c.requires.first l.follower c.tell-2.new.follower
    c.take_line.new.log came c.tell-2.new.usersets _ c.in_ok-log-2.log counted (fine_whole says _ c.take_line.new.log.log read)
    read.given.1.2 (read.given.0, (came, read.given.1.1, refl)) now c.in_ok-log-2.ensures.told c.in_ok-log-2.ensures.indexed

pub returns-clause-from : goal.returns-clause-from
returns-clause-from g c =
    let l = c.loop-usersets in
    let same = c.in_ok-log-2.ensures.told.text.1.1.same in
    (same.0 ∙ l.invariant.from.0, same.1 ∙ l.invariant.from.1)

pub returns-in_err-take_line-clause-kinds : goal.returns-in_err-take_line-clause-kinds
returns-in_err-take_line-clause-kinds g c =
    handed_on (λ r. IfErr r (IsOneOf (kind.trace ∷ kind.write ∷ kind.memory ∷ []))) _
    c.from_residual-in_err-take_line.ensures.1 (kinds-more {V = KeptValue} (kind.trace ∷ kind.memory ∷ [])
    (kind.trace ∷ kind.write ∷ kind.memory ∷ []) refl (Err _)
    (c.in_err-take_line.ensures.read (λ no. err_apart _ true no) c.args.trace.now c.args.log
    c.loop-usersets.invariant.run.0 (log_behind c.args.log) (λ whole a. refl)).kinds)

pub returns-in_err-log-clause-kinds : goal.returns-in_err-log-clause-kinds
returns-in_err-log-clause-kinds g c =
    handed_on (λ r. IfErr r (IsOneOf (kind.trace ∷ kind.write ∷ kind.memory ∷ []))) _
    c.from_residual-in_err-log.ensures.1 (kinds-more {V = KeptValue} (kind.write ∷ kind.memory ∷ [])
    (kind.trace ∷ kind.write ∷ kind.memory ∷ []) refl (Err _) c.in_err-log.ensures.told.kinds)

pub returns-in_err-log-2-clause-kinds : goal.returns-in_err-log-2-clause-kinds
returns-in_err-log-2-clause-kinds g c =
    handed_on (λ r. IfErr r (IsOneOf (kind.trace ∷ kind.write ∷ kind.memory ∷ []))) _
    c.from_residual-in_err-log-2.ensures.1 (kinds-more {V = KeptValue} (kind.write ∷ kind.memory ∷ [])
    (kind.trace ∷ kind.write ∷ kind.memory ∷ []) refl (Err _) c.in_err-log-2.ensures.told.kinds)

-- What a run says that begins with a carry, or hands one on, from what its call answered.
use Rattle.std.proofs.Common.{◌≡◌, ◌≢◌, ◌⊎◌, inl, inr, ℕ, ◌+◌, ◌<◌, ◌≤◌, true, List, [], ◌∷◌, Option, Some, None, Result, Ok, Err, codes, refl, sym, ap, subst, ◌∙◌, arith, length}
use Rattle.std.specs.Prelude.{IfErr}
use Rattle.std.proofs.lemmas.Bool.{true≢false}
use Rattle.devices.specs.Devices.{moved_by, failures_of, stops_of}
use Rattle.devices.specs.Given as given
use Rattle.devices.specs.declared.counted.Counted.{Counted}
use Rattle.devices.proofs.Given.{of_input-map, of_input-whole, of_whole-map}
use Rattle.json_lines.specs.declared.lines.TheConstants.{CHUNK}
use Rattle.json_lines.specs.declared.reading.TheConstants.{MAX_INPUT}
use Rattle.trace_lines.specs.Results.{FailsBy}
use Rattle.trace_lines.specs.declared.cause.TraceFault.{TraceFault}
use Rattle.audit.specs.Devices.{Reader, Reading, Writer, Writing, GivesFew, StandsBehind, WriterFailed, WriterNeverFailed, reads}
use Rattle.audit.specs.Kinds.{IsOneOf}
use Rattle.audit.specs.Kinds as kind
use Rattle.audit.specs.declared.plain.AuditFault.{AuditFault}
use Rattle.audit.specs.declared.plain.AuditFault.TheVariants as faults
use Rattle.audit.proofs.KindLemmas.{never_answered}
use Rattle.audit.proofs.Readers.{behind_at_rest, few_at_rest}
use Rattle.runs.specs.Kept.{KeptValue, log_behind, nothing_kept}
use Rattle.carry_laws.specs.Asked.{all_known}
use Rattle.carry_laws.specs.declared.known.Known.{Known}
use Rattle.follow.specs.Carried.{IsBegunBy, Refuses, RunsBehind, SayNoFirstRun, SayNoLines, SayNoRunFrom, answered}
use Rattle.follow.specs.Handing.{RunEnds, RunWentOut}
use Rattle.follow.specs.Running.{Run}
use Rattle.follow.specs.declared.carried.CarryRefusal.{CarryRefusal}
use Rattle.follow.specs.declared.carried.RunFault.{RunFault}
use Rattle.follow.specs.declared.carried.RunFault.TheVariants as fault
use Rattle.follow.specs.declared.handing.RunEnd.{RunEnd}
use Rattle.new_enemy.specs.Carrying.{HandsOn, IsHanded, IsHandedOn, IsNoRun, IsStatusOfRefusal, RunsOn, status_of_end}
use Rattle.new_enemy.specs.Files.{OfFiles, failures_from, failures_to}
use Rattle.new_enemy.specs.Opened.{IsUnused, file_of}
use Rattle.new_enemy.specs.Outcomes.{is_opened}
use Rattle.new_enemy.specs.Run.{IsStatus, OfEveryInput}
use Rattle.new_enemy.specs.Runs.{RunsFiles}
use Rattle.new_enemy.specs.Words.{IsHandedTo}
use Rattle.new_enemy.specs.declared.carrying.Handed.{Handed}
use Rattle.new_enemy.specs.declared.carrying.Handed.TheVariants as handed
use Rattle.new_enemy.specs.declared.opened.Opened.{Opened}
use Rattle.new_enemy.specs.declared.run.Ran.TheVariants as ran
use Rattle.new_enemy.proofs.CarryStatuses.{clean_end, dirty_end, left_end, no_fault, no_fault_is, refusal_few, refusal_of_bytes, refusal_of_no_reader, refusal_of_reader}
use Rattle.new_enemy.proofs.DeviceStatuses.{few_in_all}
use Rattle.new_enemy.proofs.FileRuns.{whole}
use Rattle.new_enemy.proofs.FileStatuses.{of_every_input}
use Rattle.new_enemy.proofs.Statuses.{failed_by, of_no_device, said_by_trace, status_few, three_is_limits, two_or_five}

-- what was handed on went out whole, or why it did not
hands_on : {F : Type 0} (path : List ℕ) (end : RunEnd) (s : ℕ) (to : Handed F) → HandsOn path end s to
    → (IsHanded end to × (failures_to to ≡ 0) × (s ≡ status_of_end end.verdict end.whole))
    ⊎ ((s ≡ 2) × (end.carry ≡ None) × (to ≡ handed.Nothing) ⊎ (s ≡ 5) × ((to ≡ handed.NotMade) ⊎ (0 < failures_to to)))
hands_on path end s handed.Nothing h = inr (inl (h.1, h.0, refl))
hands_on path end s handed.NotMade h = inr (inr (h, inl refl))
hands_on path end s (handed.Made made) (is, inl h) = inl (h.1, omega (arith, h.1.3, h.1.4), h.0)
hands_on path end s (handed.Made made) (is, inr h) = inr (inr (h.0, inr h.1))

-- which file it went to
pub handed_to : {F : Type 0} (path : Option (List ℕ)) (answer : Result RunEnd RunFault) (s : ℕ) (to : Handed F)
    → IsHandedOn path answer s to → IsHandedTo path s to
handed_to (Some path) (Ok end) s handed.Nothing h = inr (omega (arith, h.1), omega (arith, h.1))
handed_to (Some path) (Ok end) s handed.NotMade h = h
handed_to (Some path) (Ok end) s (handed.Made made) h = ap (λ (p : List ℕ). Some p) (sym h.0)
handed_to None (Ok end) s to h = subst (IsHandedTo None s) (sym h.0) (inl refl)
handed_to (Some path) (Err (fault.Carry f)) s to h =
    let few = refusal_few f s h.1 in subst (IsHandedTo (Some path) s) (sym h.0) (inr (few.0, few.1))
handed_to None (Err (fault.Carry f)) s to h = subst (IsHandedTo None s) (sym h.0) (inl refl)
handed_to (Some path) (Err (fault.Run f)) s to h =
    subst (IsHandedTo (Some path) s) (sym h.0) (inr (h.1, status_few f s h.2))
handed_to None (Err (fault.Run f)) s to h = subst (IsHandedTo None s) (sym h.0) (inl refl)

module _ {F : Type 0} (from : Option (Opened F)) (x : Opened F) (out : Writing) (s : ℕ) (to : Handed F)
    (most : OfFiles (ran.WentOn x from to) (λ file. length (moved_by file) ≤ MAX_INPUT + CHUNK)) (held : StandsBehind out)
  where
    -- ---- the run ended

    module _ (end : RunEnd) (ran_on : RunsOn from x out.before.taken out.after.taken end)
        (unfailed : failures_of (file_of x) + failures_from from ≡ 0) (sent : WriterNeverFailed out) where
      -- and its carry went to its file whole, or none was asked for
      ended_well : IsHanded end to → failures_to to ≡ 0 → s ≡ status_of_end end.verdict end.whole
          → RunsFiles (codes "follow") out s (ran.WentOn x from to)
      ended_well whole none is = record {
        command = refl;
        clean = λ zero. let c = clean_end end.verdict end.whole s is zero in (end, ran_on, c.0, c.1, whole);
        dirty = λ one. (end, ran_on, dirty_end end.verdict end.whole s is one, tt, whole);
        refused = λ two. no_fault_is end.verdict end.whole s is (omega (arith, two)) (omega (arith, two));
        used = λ three. no_fault_is end.verdict end.whole s is (omega (arith, three)) (omega (arith, three));
        left_out = λ six. let l = left_end end.verdict end.whole s is six in (end, ran_on, l.0, l.1, whole);
        devices = record {
          flushed = λ one not. absurd (true≢false not);
          device = λ five _. no_fault_is end.verdict end.whole s is (omega (arith, five)) (omega (arith, five));
          kept = λ other. (omega (arith, unfailed, none), sent);
          unwritten = λ two four not. absurd (true≢false not);
          most = most;
          held = held;
        };
        statuses = elim (no_fault end.verdict end.whole s is) [
          | inl few ↦ omega (arith, few)
          | inr six ↦ omega (arith, six)
        ];
      }

      -- or it could not be handed on
      ended_badly : (s ≡ 2) × (end.carry ≡ None) × (to ≡ handed.Nothing) ⊎ (s ≡ 5) × ((to ≡ handed.NotMade) ⊎ (0 < failures_to to))
          → RunsFiles (codes "follow") out s (ran.WentOn x from to)
      ended_badly (inl h) = record {
        command = refl;
        clean = λ zero. absurd (omega (arith, zero, h.0));
        dirty = λ one. absurd (omega (arith, one, h.0));
        refused = λ two. inr (out.before.taken, out.after.taken, end, ran_on, h.1);
        used = λ three. absurd (omega (arith, three, h.0));
        left_out = λ six. absurd (omega (arith, six, h.0));
        devices = record {
          flushed = λ one not. absurd (true≢false not);
          device = λ five _. absurd (omega (arith, five, h.0));
          kept = λ other. (omega (arith, unfailed, ap failures_to h.2), sent);
          unwritten = λ two four not. absurd (true≢false not);
          most = most;
          held = held;
        };
        statuses = omega (arith, h.0);
      }
      ended_badly (inr h) = record {
        command = refl;
        clean = λ zero. absurd (omega (arith, zero, h.0));
        dirty = λ one. absurd (omega (arith, one, h.0));
        refused = λ two. absurd (omega (arith, two, h.0));
        used = λ three. absurd (omega (arith, three, h.0));
        left_out = λ six. absurd (omega (arith, six, h.0));
        devices = record {
          flushed = λ one not. absurd (true≢false not);
          device = λ five opened. inl (by_file h.1 opened);
          kept = λ other. absurd (other h.0);
          unwritten = λ two four not. absurd (true≢false not);
          most = most;
          held = held;
        };
        statuses = omega (arith, h.0);
      }
        where
          by_file : (to ≡ handed.NotMade) ⊎ (0 < failures_to to) → is_opened (ran.WentOn x from to) ≡ true
              → 0 < (failures_of (file_of x) + failures_from from) + failures_to to
          by_file (inl is) opened = absurd (true≢false (sym opened ∙ ap (λ (h : Handed F). is_opened (ran.WentOn x from h)) is))
          by_file (inr failed) opened = omega (arith, failed)

      run_ended : (path : Option (List ℕ)) → IsHandedOn path (Ok end) s to → RunsFiles (codes "follow") out s (ran.WentOn x from to)
      run_ended None h = ended_well (subst (IsHanded end) (sym h.0) tt) (ap failures_to h.0) h.1
      run_ended (Some path) h = elim (hands_on path end s to h) [
        | inl well ↦ ended_well well.0 well.1 well.2
        | inr badly ↦ ended_badly badly
      ]

    -- ---- or it was stopped
    stopped_run : 2 ≤ s → s ≤ 5 → s ≢ 3 → to ≡ handed.Nothing → (s ≡ 2 → IsNoRun from x)
        → (s ≡ 5 → (0 < failures_of (file_of x) + failures_from from) ⊎ WriterFailed out)
        → (s ≢ 5 → (failures_of (file_of x) + failures_from from ≡ 0) × WriterNeverFailed out)
        → RunsFiles (codes "follow") out s (ran.WentOn x from to)
    stopped_run two five other none refused failed kept = record {
      command = refl;
      clean = λ zero. absurd (omega (arith, zero, two));
      dirty = λ one. absurd (omega (arith, one, two));
      refused = λ is. inl (refused is);
      used = λ three. absurd (other three);
      left_out = λ six. absurd (omega (arith, six, five));
      devices = record {
        flushed = λ one not. absurd (true≢false not);
        device = λ is _. elim (failed is) [
          | inl file ↦ inl (omega (arith, file))
          | inr writer ↦ inr writer
        ];
        kept = λ no. let never = kept no in (omega (arith, never.0, ap failures_to none), never.1);
        unwritten = λ least most not. absurd (true≢false not);
        most = most;
        held = held;
      };
      statuses = omega (arith, five);
    }

-- ---- from what the call answered

fault_handed : {F : Type 0} (path : Option (List ℕ)) (e : AuditFault) (s : ℕ) (to : Handed F)
    → IsHandedOn path (Err (fault.Run e)) s to → (to ≡ handed.Nothing) × (2 ≤ s) × IsStatus e s
fault_handed None e s to h = h
fault_handed (Some p) e s to h = h

refusal_handed : {F : Type 0} (path : Option (List ℕ)) (f : CarryRefusal) (s : ℕ) (to : Handed F)
    → IsHandedOn path (Err (fault.Carry f)) s to → (to ≡ handed.Nothing) × IsStatusOfRefusal f s
refusal_handed None f s to h = h
refusal_handed (Some p) f s to h = h

-- a call without limits answers none
no_limits : (e : AuditFault) (s : ℕ) → IsStatus e s → IsOneOf (kind.trace ∷ kind.write ∷ kind.memory ∷ []) e → s ≢ 3
no_limits e s is of = λ three.
    let same : ◌≡◌ {A = Result RunEnd AuditFault} (Err e) (Err faults.Limits) =
    ap (λ (y : AuditFault). Err y) (three_is_limits e s is three) in
    never_answered (kind.trace ∷ kind.write ∷ kind.memory ∷ []) e faults.Limits refl of same

module _ {F : Type 0} (left : Counted F → Option (List ℕ)) (a0 : Counted F) (x : Opened F) (unused : IsUnused a0) where
  -- what a run refuses of its lines
  no_lines : (k : KeptValue) (e : AuditFault) (s : ℕ) → IsStatus e s → IsOneOf (kind.trace ∷ kind.write ∷ kind.memory ∷ []) e
      → ((f : TraceFault) → e ≡ faults.Trace f
      → given.OfInput moved_by stops_of a0 (file_of x) (λ a. FailsBy f.cause f (log_behind k true a))) → s ≡ 2
      → given.OfInput moved_by stops_of a0 (file_of x) (SayNoLines k)
  no_lines k (faults.Trace f) s (inl p) of t two = two_or_five s two p.1
  no_lines k (faults.Trace f) s (inr p) of t two =
      of_input-map moved_by stops_of a0 (file_of x) (λ a. FailsBy f.cause f (log_behind k true a)) (SayNoLines k)
      (λ a by. (f, said_by_trace f.cause f (log_behind k true a) p.0 of.1 by)) (t f refl)
  no_lines k (faults.Write n) s five of t two = two_or_five s two five
  no_lines k faults.OutOfMemory s four of t two = absurd (omega (arith, four, two))
  no_lines k _ s st of t two = absurd (cc (of.0))

  module _ (out : Writing) (s : ℕ) (to : Handed F) (path : Option (List ℕ)) where
    abbrev trace : Reading
    trace = reads moved_by stops_of failures_of left a0 (file_of x)

    of_trace : (e : AuditFault) → (f : TraceFault) → e ≡ faults.Trace f
        → ◌≡◌ {A = Result RunEnd AuditFault} (Err e) (Err (faults.Trace f))
    of_trace e f is = ap (λ (y : AuditFault). Err y) is

    -- of the first run of a log
    pub runs_first : (r : Result RunEnd AuditFault)
        → Run (log_behind nothing_kept) (RunEnds nothing_kept all_known) (RunWentOut nothing_kept all_known) trace out r
        → IfErr r (IsOneOf (kind.trace ∷ kind.write ∷ kind.memory ∷ [])) → IsHandedOn path (answered r) s to
        → RunsFiles (codes "follow") out s (ran.WentOn x None to)
    runs_first (Ok end) h kinds hands =
        run_ended None x out s to (few_in_all left a0 (file_of x) unused.0 h.most) h.held end
        (whole a0 (file_of x) (λ a. RunEnds nothing_kept all_known a out.before.taken out.after.taken end) unused h.follows)
        (omega (arith, h.kept.0, unused.2)) h.kept.1 path hands
    runs_first (Err e) h kinds hands =
        let st = fault_handed path e s to hands in
        stopped_run None x out s to (few_in_all left a0 (file_of x) unused.0 h.most) h.held st.1 (status_few e s st.2)
        (no_limits e s st.2 kinds) st.0
        (λ two. of_every_input a0 (file_of x) SayNoFirstRun unused.0 unused.1
        (no_lines nothing_kept e s st.2 kinds (λ f is. h.trace_refused f (of_trace e f is)) two))
        (λ five. failed_by e s _ _ _ _ st.2 five h.devices (λ none. absurd none)
        (λ risen. inl (omega (arith, risen))) (λ none. absurd none) (λ failed. inr failed))
        (λ other. let none = h.unfailed (of_no_device e s st.2 other) in (omega (arith, none.0, unused.2), none.1))

    -- ---- of one that begins with a carry

    module _ (b0 : Counted F) (y : Opened F) (unused_yet : IsUnused b0) where
      abbrev carry : Reading
      carry = reads moved_by stops_of failures_of left b0 (file_of y)

      abbrev RunOf : Result RunEnd AuditFault → List ℕ → Type 0
      RunOf r b = (k : KeptValue) × (known : Known) × IsBegunBy b k known
          × Run (log_behind k) (RunEnds k known) (RunWentOut k known) trace out r

      module _ (most_read : GivesFew carry) where
        few : GivesFew trace → OfFiles (ran.WentOn x (Some y) to) (λ file. length (moved_by file) ≤ MAX_INPUT + CHUNK)
        few h = (few_in_all left a0 (file_of x) unused.0 h, few_in_all left b0 (file_of y) unused_yet.0 most_read)

        ran_behind : (end : RunEnd) → given.OfWhole moved_by stops_of b0 (file_of y) (RunOf (Ok end))
            → failures_of (file_of y) ≡ 0 → IsHandedOn path (Ok end) s to
            → RunsFiles (codes "follow") out s (ran.WentOn x (Some y) to)
        ran_behind end h unread hands =
            let all = whole b0 (file_of y) (RunOf (Ok end)) unused_yet h in
            let run = all.1.3 in
            let told = whole a0 (file_of x) (λ a. RunEnds all.1.0 all.1.1 a out.before.taken out.after.taken end) unused run.follows in
            run_ended (Some y) x out s to (few run.most) run.held end
            (all.0, told.0, (all.1.0, all.1.1, all.1.2, told.1)) (omega (arith, run.kept.0, unused.2, unread)) run.kept.1 path hands

        stopped_behind : (e : AuditFault) → given.OfWhole moved_by stops_of b0 (file_of y) (RunOf (Err e))
            → IsOneOf (kind.trace ∷ kind.write ∷ kind.memory ∷ []) e → failures_of (file_of y) ≡ 0
            → IsHandedOn path (Err (fault.Run e)) s to → RunsFiles (codes "follow") out s (ran.WentOn x (Some y) to)
        stopped_behind e h kinds unread hands =
            let st = fault_handed path e s to hands in
            let run = (whole b0 (file_of y) (RunOf (Err e)) unused_yet h).1.3 in
            stopped_run (Some y) x out s to (few run.most) run.held st.1 (status_few e s st.2) (no_limits e s st.2 kinds) st.0
            (λ two. of_every_input b0 (file_of y) (λ b. OfEveryInput (file_of x) (λ a. SayNoRunFrom b a)) unused_yet.0
            unused_yet.1 (of_input-whole moved_by stops_of b0 (file_of y) (λ b. OfEveryInput (file_of x) (λ a. SayNoRunFrom b a))
            (of_whole-map moved_by stops_of b0 (file_of y) (RunOf (Err e)) (λ b. OfEveryInput (file_of x) (λ a. SayNoRunFrom b a))
            (λ b r. of_every_input a0 (file_of x) (λ a. SayNoRunFrom b a) unused.0 unused.1
            (of_input-map moved_by stops_of a0 (file_of x) (SayNoLines r.0) (λ a. SayNoRunFrom b a)
            (λ a none. inr (r.0, r.1, r.2, none))
            (no_lines r.0 e s st.2 kinds (λ f is. r.3.trace_refused f (of_trace e f is)) two))) h)))
            (λ five. failed_by e s _ _ _ _ st.2 five run.devices (λ none. absurd none)
            (λ risen. inl (omega (arith, risen))) (λ none. absurd none) (λ failed. inr failed))
            (λ other. let none = run.unfailed (of_no_device e s st.2 other) in (omega (arith, none.0, unused.2, unread), none.1))

        refused_behind : (f : CarryRefusal) → given.OfInput moved_by stops_of b0 (file_of y) (λ b. Refuses b f)
            → trace.after ≡ trace.before → out.after ≡ out.before
            → (s ≡ 5 → 0 < failures_of (file_of y)) → (s ≢ 5 → failures_of (file_of y) ≡ 0)
            → IsHandedOn path (Err (fault.Carry f)) s to → RunsFiles (codes "follow") out s (ran.WentOn x (Some y) to)
        refused_behind f h untouched unsent failed kept hands =
            let st = refusal_handed path f s to hands in
            let small = refusal_few f s st.1 in
            let at_rest : GivesFew trace = subst (λ (r : Reader). GivesFew (record { before = trace.before; after = r })) (sym untouched)
            (few_at_rest trace.before) in
            let held : StandsBehind out = subst (λ (w : Writer). StandsBehind (record { before = out.before; after = w }))
            (sym unsent) (behind_at_rest out.before) in
            let same : failures_of (file_of x) ≡ failures_of a0 = ap (λ (r : Reader). r.failures) untouched in
            stopped_run (Some y) x out s to (few at_rest) held small.0 small.1 small.2 st.0
            (λ two. of_every_input b0 (file_of y) (λ b. OfEveryInput (file_of x) (λ a. SayNoRunFrom b a)) unused_yet.0
            unused_yet.1 (of_input-map moved_by stops_of b0 (file_of y) (λ b. Refuses b f)
            (λ b. OfEveryInput (file_of x) (λ a. SayNoRunFrom b a))
            (λ b by. λ rest ended. inl (f, refusal_of_bytes f s st.1 two, by)) h))
            (λ five. inl (omega (arith, failed five)))
            (λ other. (omega (arith, same, unused.2, kept other), (ap (λ (w : Writer). w.failures) unsent, ap (λ (w : Writer). w.idle) unsent)))

      -- whatever it answered
      pub runs_behind : (answer : Result RunEnd RunFault) → RunsBehind carry trace out answer → IsHandedOn path answer s to
          → RunsFiles (codes "follow") out s (ran.WentOn x (Some y) to)
      runs_behind (Ok end) h hands =
          ran_behind h.most end (h.run (Ok end) refl) (omega (arith, h.kept (λ is. absurd (cc (is))), unused_yet.2)) hands
      runs_behind (Err (fault.Run e)) h hands =
          stopped_behind h.most e (h.run (Err e) refl) (h.kinds e refl)
          (omega (arith, h.kept (λ is. absurd (cc (is))), unused_yet.2)) hands
      runs_behind (Err (fault.Carry f)) h hands =
          let st = refusal_handed path f s to hands in
          let at = h.refused f refl in
          refused_behind h.most f at.0 at.1 at.2
          (λ five. omega (arith, h.failed (ap (λ (g : CarryRefusal). Err (fault.Carry g)) (refusal_of_reader f s st.1 five))))
          (λ other. omega (arith, h.kept (λ is. refusal_of_no_reader f s st.1 other (cc (is))), unused_yet.2)) hands

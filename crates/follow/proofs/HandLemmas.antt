-- The end of a run that hands on.
use Rattle.std.proofs.Common.{is_some, ◌≡◌, inl, inr, ℕ, ◌+◌, List, [], ◌++◌, length, take, Result, Ok, Err, refl, sym, ◌∙◌, ap, subst, append_assoc, append-nil, ◌≤◌, arith}
use Rattle.std.proofs.Math.Seq.{take-append_seam, take-append-add}
use Rattle.std.specs.Prelude.{IfSome, string_bytes}
use Rattle.json_lines.specs.Reading.{line_count}
use Rattle.userset_index.specs.Index.{IndexValue}
use Rattle.trace_lines.specs.Values.{TraceValue, next_line}
use Rattle.findings.specs.declared.finding.Finding.{Finding}
use Rattle.follow_laws.specs.Told.{told_between}
use Rattle.follow_laws.proofs.OnceLemmas.{own_line}
use Rattle.std.proofs.lemmas.Bool.{cases_lt}
use Rattle.std.proofs.lemmas.Option.{slice_get_within}
use Rattle.carry_laws.specs.Asked.{asked}
use Rattle.monitor.specs.SoFar.{AreAllowedBetween, IsTold, IsUpTo}
use Rattle.monitor.proofs.GrowthLemmas.{below_last}
use Rattle.monitor.proofs.RunLemmas.{quiet, settled_apart}
use Rattle.runs.specs.Kept.{KeptValue, log_behind}
use Rattle.runs.proofs.SoundLemmas.{fits_behind}
use Rattle.audit.specs.Made.{IsMade}
use Rattle.audit.specs.Audit.{verdict_of}
use Rattle.audit.specs.Devices.{Reading, Writer}
use Rattle.audit.specs.Parts.{Told}
use Rattle.audit.specs.Audit.{Says}
use Rattle.audit.specs.declared.plain.AuditFault.{AuditFault}
use Rattle.audit.specs.declared.plain.AuditFault.TheVariants as faults
use Rattle.carry_laws.specs.declared.known.Known.{Known}
use Rattle.follow.specs.Handing.{IsHandedOn, IsRunEnd, RunEnds, RunWentOut, is_whole, run_lines}
use Rattle.follow.specs.Heartbeats.{AreTrue}
use Rattle.follow.specs.Pieces.{text_of, told_in}
use Rattle.follow.specs.Running.{GoesOnAs, Run}
use Rattle.follow.specs.Lines.{IsSoFar, TellsLines}
use Rattle.follow.specs.Told.{IsToldFrom}
use Rattle.follow.specs.declared.follower.Follower.{Follower}
use Rattle.follow.specs.declared.handing.RunEnd.{RunEnd}
use Rattle.follow.proofs.BeatLemmas.{are_true_so_far}
use Rattle.follow.proofs.GrownLemmas.{told_of_lines}
use Rattle.follow.proofs.RunLemmas.{failed_at_last, held_on, never_failed, stopped, stopped_alike, IsFine}

-- what went out of the lines alone went out of the run
pub went_on : (k : KeptValue) (known : Known) (came old new : List ℕ) → IsSoFar (log_behind k) (k.lines + 1) known came old new
    → RunWentOut k known came old new
went_on k known came old new h = record {
  pieces = h.pieces;
  ending = h.ending;
  bytes = h.bytes;
  went = h.went;
  lines = h.lines;
  rest = h.rest;
  among = h.among;
  told = h.told;
  beats = h.beats;
  ends = elim h.ends [
    | inl none ↦ inl none
    | inr some ↦ absurd some.1
  ];
}

pub run_stopped : (k : KeptValue) (known : Known) (first : ℕ) (low : Known) → first ≡ k.lines + 1 → low ≡ known → (trace : Reading)
    (one two : Writer) (e : AuditFault) → {V : Type 0} (Lines : List ℕ → List ℕ → List ℕ → V → Type 0)
    → Run (log_behind k) Lines (IsSoFar (log_behind k) first low) trace (record { before = one; after = two }) (Err e)
    → Run (log_behind k) (RunEnds k known) (RunWentOut k known) trace (record { before = one; after = two }) (Err e)
run_stopped k known first low is same trace one two e Lines run =
    stopped_alike (log_behind k) Lines (RunEnds k known) (IsSoFar (log_behind k) first low) (RunWentOut k known)
    (λ came old new h. went_on k known came old new (subst (λ (n : ℕ). IsSoFar (log_behind k) n known came old new) is
    (subst (λ (b : Known). IsSoFar (log_behind k) first b came old new) same h)))
    trace (record { before = one; after = two }) e run

module _ (k : KeptValue) (known : Known) (trace : Reading) (one two three : Writer) (f : Follower) (l : KeptValue) (v : IndexValue)
    (n : ℕ) (fits : next_line k.log ≤ k.lines + 1) (first : f.first ≡ k.lines + 1) (low : f.known ≡ known) {Stands : List ℕ → List ℕ → List ℕ → Type 0}
    (run : Run (log_behind k) (TellsLines (log_behind k) f) Stands trace (record { before = one; after = two }) (Ok (l, v, n))) where
  abbrev says : Says
  says = log_behind k

  abbrev came : List ℕ
  came = run.follows.1.0

  lines : TellsLines says f came one.taken two.taken (l, v, n)
  lines = run.follows.1.2

  fine : IsFine trace
  fine = record { most = run.most; known = run.known; kept = run.kept.0 }

  told : IsToldFrom says (k.lines + 1) known came (told_in lines.pieces)
  told = subst (λ (m : ℕ). IsToldFrom says m known came (told_in lines.pieces)) first
      (subst (λ (b : Known). IsToldFrom says f.first b came (told_in lines.pieces)) low
      (subst (IsToldFrom says f.first f.known came) lines.same (told_of_lines says came l.log f lines.said lines.followed)))

  beats : (u : TraceValue) → GoesOnAs says came u → AreTrue u lines.pieces []
  beats u goes = are_true_so_far u lines.pieces (lines.longer u goes) lines.silent

  abbrev begun : ℕ
  begun = length k.log.entries

  abbrev counted : ℕ
  counted = k.lines + n

  same_count : counted ≡ k.lines + line_count came
  same_count = ap (λ (m : ℕ). k.lines + m) lines.counted

  abbrev behind : ℕ
  behind = k.lines + line_count came + 1

  fits_end : next_line l.log ≤ behind
  fits_end = fits_behind k fits came l.log lines.said

  -- all that stands in the log was taken
  up_to_end : IsUpTo l.log f.monitor behind
  up_to_end = record {
    entries_before = λ i e at taken. let own = own_line l.log lines.good i e at in let low = fits_end in omega (arith, own, low);
    entries_from = λ i e at left.
        let lt = slice_get_within l.log.entries i e at in let all = lines.all.entries in absurd (omega (arith, lt, left, all));
    commits_before = λ c inside taken.
        let count = lines.placed.commits.counted in
        let last_line = below_last l.log.commit_lines lines.placed.commits.lines c (omega (arith, inside, count)) in
        let low = fits_end in
        omega (arith, last_line, low);
    commits_from = λ c inside left. let all = lines.all.commits in absurd (omega (arith, inside, left, all));
  }

  abbrev told_all : IsTold IsMade f.first l.log f.monitor [] lines.followed.all
  told_all = lines.followed.told

  -- all that the lines let tell
  told_last : (lines.followed.all ≡ told_between l.log told_all.given f.first behind)
      × AreAllowedBetween IsMade l.log f.first behind told_all.given
  told_last = (
    told_all.told ∙ elim (cases_lt told_all.line behind) [
      | inl lt ↦ sym (quiet l.log lines.placed lines.good.rising.entries f.first f.monitor told_all.line behind told_all.up_to up_to_end
          (omega (arith, lt)) told_all.given)
      | inr ge ↦ quiet l.log lines.placed lines.good.rising.entries f.first f.monitor behind told_all.line up_to_end told_all.up_to ge
          told_all.given
    ],
    λ i e at s is from lt. told_all.allowed i e at s is from (settled_apart l.log lines.placed lines.good.rising.entries f.monitor
        told_all.line behind told_all.up_to up_to_end i e at s is lt),
  )

  last : (text : List ℕ) (end : RunEnd) → IsRunEnd l.log f begun counted text end
      → text ≡ run_lines end.whole known begun l.log (told_in lines.pieces)
  last text end ends = ends.last ∙ ap (λ (b : Known). run_lines end.whole b begun l.log f.told.items) low
      ∙ ap (λ (fs : List Finding). run_lines end.whole known begun l.log fs) lines.same

  nothing_more : three.taken ≡ two.taken → RunWentOut k known came one.taken three.taken
  nothing_more same = record {
    pieces = lines.pieces;
    ending = [];
    bytes = length (text_of lines.pieces);
    went = same ∙ lines.went ∙ ap (λ (t : List ℕ). one.taken ++ t) (sym (take-append_seam (text_of lines.pieces) []));
    lines = came;
    rest = [];
    among = sym (append-nil came);
    told = told;
    beats = beats;
    ends = inl refl;
  }

  part_more : (text : List ℕ) (end : RunEnd) → IsRunEnd l.log f begun counted text end → (bytes : ℕ)
      → three.taken ≡ two.taken ++ take bytes text → RunWentOut k known came one.taken three.taken
  part_more text end ends bytes went = record {
    pieces = lines.pieces;
    ending = text;
    bytes = length (text_of lines.pieces) + bytes;
    went = went ∙ ap (λ (t : List ℕ). t ++ take bytes text) lines.went
        ∙ append_assoc one.taken (text_of lines.pieces) (take bytes text)
        ∙ ap (λ (t : List ℕ). one.taken ++ t) (sym (take-append-add (text_of lines.pieces) text bytes));
    lines = came;
    rest = [];
    among = sym (append-nil came);
    told = told;
    beats = beats;
    ends = inr (
      end.verdict,
      record {
        trace = l.log;
        said = lines.said;
        whole = end.whole;
        lines = last text end ends;
        verdict = ends.verdict ∙ ap verdict_of lines.same;
      },
    );
  }

  -- the end was written, or that was stopped
  pub run_ended : (result : Result RunEnd AuditFault)
      → Told (IsRunEnd l.log f begun counted) (record { before = two; after = three }) result
      → Run (log_behind k) (RunEnds k known) (RunWentOut k known) trace (record { before = one; after = three }) result
  run_ended (Ok end) ends =
      let text = ends.text.0 in
      let is = ends.text.1 in record {
        follows = (
          run.follows.0,
          (
            came,
            run.follows.1.1,
            record {
              trace = l.log;
              said = lines.said;
              given = told_all.given;
              made = subst (λ (m : ℕ). AreAllowedBetween IsMade l.log m behind told_all.given) first told_last.1;
              pieces = lines.pieces;
              told = sym lines.same ∙ lines.followed.asked_alone ∙ ap (λ (b : Known). asked b l.log lines.followed.all) low
                  ∙ ap (asked known l.log) (told_last.0 ∙ ap (λ (m : ℕ). told_between l.log told_all.given m behind) first);
              beats = are_true_so_far l.log lines.pieces lines.through lines.silent;
              went = ends.text.2 ∙ ap (λ (t : List ℕ). t ++ text) lines.went
                  ∙ append_assoc one.taken (text_of lines.pieces) text
                  ∙ ap (λ (t : List ℕ). one.taken ++ (text_of lines.pieces ++ t)) (last text end is);
              verdict = is.verdict ∙ ap verdict_of lines.same;
              whole = is.whole ∙ ap (λ (b : Known). is_whole (is_some end.carry) b begun l.log) low;
              carry = subst (λ (b : Known). IfSome end.carry (λ s. IsHandedOn b (k.lines + line_count came) l.log (string_bytes s))) low
                  (subst (λ (m : ℕ). IfSome end.carry (λ s. IsHandedOn f.known m l.log (string_bytes s))) same_count is.carry);
            },
          ),
        );
        stands = tt;
        trace_refused = λ x h. absurd (cc (h));
        trace_cut = λ x h. absurd (cc (h));
        most = fine.most;
        known = fine.known;
        held = held_on one two three run.held ends.held;
        devices = tt;
        kept = (fine.kept, never_failed one two three run.kept.1 ends.kept);
        unfailed = tt;
      }
  run_ended (Err e) ends =
      stopped (log_behind k) (RunEnds k known) (RunWentOut k known) trace (record { before = one; after = three }) e ends.kinds
      fine (came, run.follows.1.1, by_fault e ends) (held_on one two three run.held ends.held)
      (λ writes. failed_at_last one two three run.kept.1 (ends.failed writes))
      (λ others. never_failed one two three run.kept.1 (ends.unfailed others))
    where
      by_fault : (e : AuditFault) → Told (IsRunEnd l.log f begun counted) (record { before = two; after = three }) (Err e)
          → RunWentOut k known came one.taken three.taken
      by_fault (faults.Write bytes) ends =
          let h = ends.write bytes refl in part_more h.1 h.0 h.2 bytes h.3.1
      by_fault (faults.Trace x) ends = nothing_more (ends.unwritten tt)
      by_fault (faults.Evidence x) ends = nothing_more (ends.unwritten tt)
      by_fault faults.OutOfMemory ends = nothing_more (ends.unwritten tt)
      by_fault faults.Limits ends = nothing_more (ends.unwritten tt)
      by_fault faults.Joined ends = nothing_more (ends.unwritten tt)
      by_fault faults.Input ends = nothing_more (ends.unwritten tt)

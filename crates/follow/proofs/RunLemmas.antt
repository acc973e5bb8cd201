-- A run that follows a trace, from its first line to its end.
use Rattle.std.proofs.Common.{◌≡◌, ◌⊎◌, inl, inr, ℕ, ◌+◌, ◌-◌, ◌<◌, ◌≤◌, Bool, true, eqb, List, [], ◌∷◌, ◌++◌, length, take, Option, None, Some, Result, Ok, Err, refl, sym, ◌∙◌, ap, subst, arith, append_assoc, append-nil, length-append}
use Rattle.std.specs.Prelude.{All}
use Rattle.std.proofs.lemmas.List.Elements.{All-append, All-nil}
use Rattle.std.proofs.Math.Seq.{take-append_seam, take-append-add}
use Rattle.std.proofs.lemmas.Grind.{flat_map-append}
use Rattle.std.proofs.lemmas.List.{append_cancel_left}
use Rattle.std.proofs.lemmas.List.Splits.{length-slice_split}
use Rattle.devices.specs.Given.{AreNext}
use Rattle.devices.proofs.Given.{behind-trans, of_whole-map}
use Rattle.userset_index.specs.Growth.{IsGrowing}
use Rattle.userset_index.specs.Index.{IndexValue}
use Rattle.json_lines.specs.Reading.{line_count, parts, read_all}
use Rattle.json_lines.specs.declared.lines.TheConstants.{CHUNK}
use Rattle.json_lines.specs.declared.next.LineReader.{LineReader}
use Rattle.trace_lines.specs.Placed.{AreInPlace}
use Rattle.trace_lines.specs.Values.{TraceValue, next_line}
use Rattle.trace_lines.specs.declared.cause.Cause.TheVariants as causes
use Rattle.trace_lines.specs.declared.cause.TraceFault.{TraceFault}
use Rattle.findings.specs.declared.finding.Finding.{Finding}
use Rattle.windows.specs.Growth.{GoesOn}
use Rattle.follow_laws.specs.Begun.{IsOfBytes}
use Rattle.monitor.specs.Standing.{IsAtEnd, IsPast}
use Rattle.monitor.proofs.PastLemmas.{past_on}
use Rattle.runs.specs.Kept.{KeptValue, log_behind}
use Rattle.runs.proofs.KeptReadLemmas.{goes_behind}
use Rattle.audit.specs.Audit.{BlamesNoDevice, BlamesOnly, IsNotWrite, IsWrite}
use Rattle.audit.specs.Devices.{Reader, Reading, Writing, Writer, reads, OfBytes, OfWhole, GivesFew, GivesNext, ReaderFailed, ReaderNeverFailed, WriterFailed, WriterNeverFailed, StandsBehind}
use Rattle.audit.specs.Kinds.{IsOneOf}
use Rattle.audit.specs.Kinds as kind
use Rattle.audit.specs.Parts.{Told}
use Rattle.audit.specs.declared.plain.AuditFault.{AuditFault}
use Rattle.audit.specs.declared.plain.AuditFault.TheVariants as faults
use Rattle.carry_laws.specs.declared.known.Known.{Known}
use Rattle.follow.specs.Heartbeats.{ArePast, AreSilent, AreThrough, Beats, IsThrough}
use Rattle.follow.specs.Pieces.{Piece, piece_text, text_of, told_in}
use Rattle.follow.specs.Reading.{IsKeptSoFar, IsSaidBehind, TakesLine}
use Rattle.audit.specs.Parts.{LogRead}
use Rattle.follow.specs.Running.{GoesOnAs, Run, WentOut}
use Rattle.follow.specs.Lines.{TellsLines}
use Rattle.follow.specs.SoFar.{IsFollowed, TellsPiece}
use Rattle.follow.specs.Told.{IsToldFrom}
use Rattle.audit.specs.Audit.{Says}
use Rattle.follow.specs.declared.follower.Follower.{Follower}
use Rattle.follow.specs.declared.heartbeat.Heartbeat.{Heartbeat}
use Rattle.follow.proofs.BeatLemmas.{are_true_so_far, beats_of, each_more, each_of_none, parts_more, past_longer, past_now, through_longer}
use Rattle.follow.proofs.GrownLemmas.{followed_longer, goes_whole, told_of_lines}

-- ---- the lines so far grow

-- of two lists with which one begins, one begins with the other
prefix : (xs ys us vs : List ℕ) → xs ++ ys ≡ us ++ vs → ((d : List ℕ) × (us ≡ xs ++ d)) ⊎ ((d : List ℕ) × (xs ≡ us ++ d))
prefix [] ys us vs h = inl (us, refl)
prefix (x ∷ xs) ys [] vs h = inr (x ∷ xs, refl)
prefix (x ∷ xs) ys (u ∷ us) vs h =
    let head : x ≡ u = cc in
    let tail : xs ++ ys ≡ us ++ vs = cc in
    elim (prefix xs ys us vs tail) [
      | inl (d, is) ↦ inl (d, rw (head, is) refl)
      | inr (d, is) ↦ inr (d, rw (head, is) refl)
    ]

module _ {R : Type 0} (given : R → List ℕ) (ends failures : R → ℕ) (remaining : R → Option (List ℕ)) (first : R)
    (start : KeptValue) where
  -- what was used grows by a line
  pub used_grows : (old new : R) (t u : KeptValue) (r s : LineReader)
      → (so_far : IsKeptSoFar given ends failures remaining first old start t r)
      → (further : IsKeptSoFar given ends failures remaining first new start u s) → s.number ≡ r.number + 1
      → AreNext given ends remaining old new → (line : List ℕ) × (further.used ≡ so_far.used ++ line)
  used_grows old new t u r s so_far further next known =
      let came = known.0 in
      let same : so_far.used ++ (r.lines ++ came) ≡ further.used ++ s.lines =
      append_cancel_left (given first) (so_far.used ++ (r.lines ++ came)) (further.used ++ s.lines)
      (sym (append_assoc (given first) so_far.used (r.lines ++ came))
      ∙ sym (append_assoc (given first ++ so_far.used) r.lines came)
      ∙ ap (λ (l : List ℕ). l ++ came) (sym so_far.gave) ∙ sym known.1 ∙ further.gave
      ∙ append_assoc (given first) further.used s.lines) in
      elim (prefix so_far.used (r.lines ++ came) further.used s.lines same) [
        | inl longer ↦ longer
        | inr (d, is) ↦
            let one = so_far.follows.counted [] in
            let two = further.follows.counted d in
            let alike = ap (λ (l : List ℕ). length (parts l)) (append-nil so_far.used ∙ is) in
            let none : length (parts []) ≡ 1 = refl in
            let some = length-slice_split (λ b. eqb b 10) d in
            absurd (omega (arith, one, two, alike, next, none, some))
      ]

  -- all that came, beside the lines that were used
  pub came_since : (old new : R) (t : KeptValue) (r : LineReader)
      → (so_far : IsKeptSoFar given ends failures remaining first old start t r) → (known : AreNext given ends remaining old new)
      → given new ≡ given first ++ (so_far.used ++ (r.lines ++ known.0))
  came_since old new t r so_far known =
      known.1 ∙ ap (λ (l : List ℕ). l ++ known.0) so_far.gave
      ∙ append_assoc (given first ++ so_far.used) r.lines known.0
      ∙ append_assoc (given first) so_far.used (r.lines ++ known.0)

  -- a further line was taken
  pub taken_further : (old new : R) (k l : KeptValue) (r s : LineReader)
      → (so_far : IsKeptSoFar given ends failures remaining first old start k r) → {result : Result Bool AuditFault}
      → TakesLine given ends failures remaining old new k l r s result → result ≡ Ok true
      → (further : IsKeptSoFar given ends failures remaining first new start l s) × (line : List ℕ)
      × (further.used ≡ so_far.used ++ line)
  taken_further old new k l r s so_far takes more =
      let further = takes.goes more first start so_far in
      let grows = used_grows old new k l r s so_far further (takes.next more).0 takes.known in
      (further, grows.0, grows.1)

-- ---- what was told and written of the lines so far

pub record IsTextSoFar (says : Says) (first : ℕ) (known : Known) (used start taken : List ℕ) (f : Follower) : Type 0 where
  pub pieces : List Piece
  pub same : f.told.items ≡ told_in pieces
  pub went : taken ≡ start ++ text_of pieces
  pub lines : List ℕ
  pub rest : List ℕ
  pub among : used ≡ lines ++ rest
  pub told : IsToldFrom says first known lines (told_in pieces)
  pub silent : AreSilent pieces
  pub through : (u : TraceValue) → GoesOnAs says lines u → AreThrough u pieces

-- and of each longer log it is told, too
pub record IsRunSoFar (says : Says) (first : ℕ) (known : Known) (used start taken : List ℕ) (f : Follower) : Type 0 where
  pub text : IsTextSoFar says first known used start taken f
  pub from : (f.first ≡ first) × (f.known ≡ known)
  pub longer : (u : TraceValue) (more : List ℕ) → says true (used ++ more) ≡ Ok u → AreInPlace u → IsOfBytes u
      → IsFollowed u f
  pub through : (u : TraceValue) (more : List ℕ) → says true (used ++ more) ≡ Ok u → AreThrough u text.pieces
  pub past : (u : TraceValue) (more : List ℕ) → says true (used ++ more) ≡ Ok u → AreInPlace u
      → ArePast u f.monitor text.pieces

told_nothing : (says : Says) (first : ℕ) (known : Known) (t : TraceValue) → says true [] ≡ Ok t → IsToldFrom says first known [] []
told_nothing says first known t said = record {
  trace = t;
  said = said;
  given = [];
  line = 0;
  made = λ i e at l is from lt. absurd (omega (arith, lt));
  is = refl;
}

-- no bytes say the log that stands
said_nothing : (s : KeptValue) → log_behind s true [] ≡ Ok s.log
unfolding read_all
said_nothing s = refl

module _ (says : Says) (s : KeptValue) (means : IsSaidBehind s says) where
  none_said : says true [] ≡ Ok s.log
  none_said = means true [] ∙ said_nothing s

  pub run_first : (first : ℕ) (known : Known) (f : Follower) (start : List ℕ) → f.told.items ≡ [] → (f.first ≡ first) × (f.known ≡ known)
      → ((u : TraceValue) → GoesOn s.lines s.log u → AreInPlace u → IsOfBytes u → IsFollowed u f)
      → next_line s.log ≤ s.lines + 1 → IsRunSoFar says first known [] start start f
  run_first first known f start none from followed fits = record {
    text = record {
      pieces = [];
      same = none;
      went = sym (append-nil start);
      lines = [];
      rest = [];
      among = refl;
      told = told_nothing says first known s.log none_said;
      silent = each_of_none _;
      through = λ u goes. each_of_none _;
    };
    from = from;
    longer = λ u more is placed good. followed u (goes_behind s fits more u (sym (means true more) ∙ is)) placed good;
    through = λ u more is. each_of_none _;
    past = λ u more is placed. each_of_none _;
  }

  pub nothing_at_all : (first : ℕ) (known : Known) (start : List ℕ) → WentOut says (IsToldFrom says first known) (λ a p e v. ⊥) [] start start
  nothing_at_all first known start = record {
    pieces = [];
    ending = [];
    bytes = 0;
    went = sym (append-nil start);
    lines = [];
    rest = [];
    among = refl;
    told = told_nothing says first known s.log none_said;
    beats = λ u goes. each_of_none _;
    ends = inl refl;
  }

module _ (says : Says) (first : ℕ) (known : Known) where
  -- lines were taken
  pub run_line : (used further line start taken : List ℕ) (f : Follower) → further ≡ used ++ line
      → IsRunSoFar says first known used start taken f → IsRunSoFar says first known further start taken f
  run_line used further line start taken f is run = record {
    text = record {
      pieces = run.text.pieces;
      same = run.text.same;
      went = run.text.went;
      lines = run.text.lines;
      rest = run.text.rest ++ line;
      among = is ∙ ap (λ (l : List ℕ). l ++ line) run.text.among ∙ append_assoc run.text.lines run.text.rest line;
      told = run.text.told;
      silent = run.text.silent;
      through = run.text.through;
    };
    from = run.from;
    longer = λ u more said placed good. run.longer u (line ++ more) (shorter u more said) placed good;
    through = λ u more said. run.through u (line ++ more) (shorter u more said);
    past = λ u more said placed. run.past u (line ++ more) (shorter u more said) placed;
  }
    where
      shorter : (u : TraceValue) (more : List ℕ) → says true (further ++ more) ≡ Ok u
          → says true (used ++ (line ++ more)) ≡ Ok u
      shorter u more said =
          ap (says true) (sym (append_assoc used line more) ∙ ap (λ (l : List ℕ). l ++ more) (sym is)) ∙ said

  pub followed_now : (used start taken : List ℕ) (f : Follower) (t : TraceValue) → IsRunSoFar says first known used start taken f
      → says true used ≡ Ok t → AreInPlace t → IsOfBytes t → IsFollowed t f
  followed_now used start taken f t run said placed good =
      run.longer t [] (ap (says true) (append-nil used) ∙ said) placed good

  -- nothing further went out
  pub nothing_went : (used start taken : List ℕ) (f : Follower) → IsTextSoFar says first known used start taken f
      → (came rest : List ℕ) → came ≡ used ++ rest → WentOut says (IsToldFrom says first known) (λ a p e v. ⊥) came start taken
  nothing_went used start taken f so_far came rest is = record {
    pieces = so_far.pieces;
    ending = [];
    bytes = length (text_of so_far.pieces);
    went = so_far.went ∙ ap (λ (l : List ℕ). start ++ l) (sym (take-append_seam (text_of so_far.pieces) []));
    lines = so_far.lines;
    rest = so_far.rest ++ rest;
    among = is ∙ ap (λ (l : List ℕ). l ++ rest) so_far.among ∙ append_assoc so_far.lines so_far.rest rest;
    told = so_far.told;
    beats = λ u goes. are_true_so_far u so_far.pieces (so_far.through u goes) so_far.silent;
    ends = inl refl;
  }

told_more : (pieces : List Piece) (p : Piece) → told_in (pieces ++ p ∷ []) ≡ told_in pieces ++ p.told
told_more pieces p = flat_map-append (λ (q : Piece). q.told) pieces (p ∷ [])
    ∙ ap (λ (fs : List Finding). told_in pieces ++ fs) (append-nil p.told)

text_more : (pieces : List Piece) (p : Piece) → text_of (pieces ++ p ∷ []) ≡ text_of pieces ++ piece_text p
text_more pieces p = flat_map-append piece_text pieces (p ∷ [])
    ∙ ap (λ (l : List ℕ). text_of pieces ++ l) (append-nil (piece_text p))

-- so many whole lines behind others, where the number of the last is given
abbrev pub AreLines : ℕ → List ℕ → Option ℕ → Type 0
AreLines before used line =
    (n : ℕ) → line ≡ Some n → (a : List ℕ) × (used ≡ a ++ 10 ∷ []) × (n ≡ before + length (parts a))

pub whole_lines : {R : Type 0} (given : R → List ℕ) (ends failures : R → ℕ) (remaining : R → Option (List ℕ)) (first now : R)
    (start t : KeptValue) (r : LineReader) → (so_far : IsKeptSoFar given ends failures remaining first now start t r)
    → 1 < r.number → (before : ℕ) (line : Option ℕ) → ((n : ℕ) → line ≡ Some n → n ≡ before + (r.number - 1))
    → AreLines before so_far.used line
whole_lines given ends failures remaining first now start t r so_far later before line is n here =
    let whole = so_far.whole later in
    let number = so_far.follows.counted [] in
    let used = ap (λ (l : List ℕ). length (parts l)) (append-nil so_far.used ∙ whole.1) in
    let more = parts_more whole.0 in
    let one : length (parts []) ≡ 1 = refl in
    let last : n ≡ before + (r.number - 1) = is n here in
    (whole.0, whole.1, omega (arith, number, used, more, one, last))

pub no_lines : (before : ℕ) (used : List ℕ) → AreLines before used None
no_lines before used n here = absurd cc

-- what the lines let tell is told
module _ (says : Says) (s : KeptValue) (means : IsSaidBehind s says)
    (fits : next_line s.log ≤ s.lines + 1) (first : ℕ) (known : Known) (low : first ≤ s.lines + 1) (used start taken : List ℕ)
    (f g : Follower) (run : IsRunSoFar says first known used start taken f) (t : TraceValue) (said : says true used ≡ Ok t)
    (text : List ℕ) (line : Option ℕ) (lines : AreLines s.lines used line) (tells : TellsPiece t line f g text) where
  abbrev pieces : List Piece
  pieces = run.text.pieces ++ tells.piece ∷ []

  said_itself : says true (used ++ []) ≡ Ok t
  said_itself = ap (says true) (append-nil used) ∙ said

  from_now : (g.first ≡ first) × (g.known ≡ known)
  from_now = (tells.same.0 ∙ run.from.0, tells.same.1 ∙ run.from.1)

  told_behind : g.told.items ≡ told_in run.text.pieces ++ tells.piece.told
  told_behind = tells.behind ∙ ap (λ (fs : List Finding). fs ++ tells.piece.told) run.text.same

  told_now : g.told.items ≡ told_in pieces
  told_now = told_behind ∙ sym (told_more run.text.pieces tells.piece)

  told_here : IsToldFrom says first known used (told_in pieces)
  told_here = subst (λ (n : ℕ). IsToldFrom says n known used (told_in pieces)) from_now.0
      (subst (λ (b : Known). IsToldFrom says g.first b used (told_in pieces)) from_now.1
      (subst (IsToldFrom says g.first g.known used) told_now (told_of_lines says used t g said tells.followed)))

  beat : (h : Heartbeat) → tells.piece.heartbeat ≡ Some h → Beats t g.told.items line h
  beat = beats_of tells.piece.heartbeat (Beats t g.told.items line) tells.beats

  silent_now : AreSilent pieces
  silent_now = each_more (λ earlier later p h. (h.findings ≡ length (told_in earlier ++ p.told))
      × All (λ f. h.line < f.line) (told_in later)) run.text.pieces tells.piece (λ earlier later p h is here.
      let before = run.text.silent earlier later p h is here in (
        before.0,
        subst (λ (fs : List Finding). All (λ f. h.line < f.line) fs) (sym (told_more later tells.piece))
            (All-append (λ (f : Finding). h.line < f.line) (told_in later) tells.piece.told before.1
            (tells.silent h.line (run.past t [] said_itself tells.placed earlier later p h is here))),
      )) (λ h here. (
        (beat h here).findings ∙ ap (λ (fs : List Finding). length fs) told_behind,
        All-nil (λ (f : Finding). h.line < f.line),
      ))

  -- in a longer log
  module _ (u : TraceValue) (more : List ℕ) (reads : says true (used ++ more) ≡ Ok u) (h : Heartbeat)
      (here : tells.piece.heartbeat ≡ Some h) where
    whole : (a : List ℕ) × (used ≡ a ++ 10 ∷ []) × ((beat h here).last ≡ s.lines + length (parts a))
    whole = lines (beat h here).last (beat h here).given

    goes : GoesOn (s.lines + length (parts whole.0)) t u
    goes = goes_whole s fits says means whole.0 more t u (ap (says true) (sym whole.1) ∙ said)
        (ap (λ (l : List ℕ). says true (l ++ more)) (sym whole.1) ∙ reads)

    within : h.line ≤ s.lines + length (parts whole.0)
    within = let le = (beat h here).within in let same = whole.2 in omega (arith, le, same)

    through_beat : IsThrough u h.line h.entries
    through_beat = through_longer t u goes h.line within h.entries (beat h here).through

    past_beat : AreInPlace u → IsPast u g.monitor h.line
    past_beat placed =
        past_longer t u goes h.line within g.monitor tells.placed placed (let all = tells.all.commits in omega (arith, all))
        (past_now t g.monitor h.line h.entries tells.all (beat h here).through)

  through_now : (u : TraceValue) → GoesOnAs says used u → AreThrough u pieces
  through_now u (inl reads) = each_more (λ earlier later p h. IsThrough u h.line h.entries) run.text.pieces tells.piece
      (run.through u [] (ap (says true) (append-nil used) ∙ reads))
      (λ h here. let same : t ≡ u = cc (said, reads) in
      subst (λ (x : TraceValue). IsThrough x h.line h.entries) same (beat h here).through)
  through_now u (inr (a, more, is, reads)) = each_more (λ earlier later p h. IsThrough u h.line h.entries) run.text.pieces
      tells.piece (run.through u more reads) (through_beat u more reads)

  -- the follower took all that stands there
  goes_on : (u : TraceValue) (n : ℕ) → IsPast u f.monitor n → IsPast u g.monitor n
  goes_on u n past =
      let stands = (followed_now says first known used start taken f t run said tells.placed tells.good).stands in
      let entries = stands.entries in
      let commits = stands.commits in
      let all = tells.all in
      let every = all.entries in
      let each = all.commits in
      past_on u f.monitor g.monitor n (omega (arith, entries, every)) (omega (arith, commits, each)) past

  past_here : ArePast t g.monitor pieces
  past_here = each_more (λ earlier later p h. IsPast t g.monitor h.line) run.text.pieces tells.piece
      (λ earlier later p h is here. goes_on t h.line (run.past t [] said_itself tells.placed earlier later p h is here))
      (λ h here. past_now t g.monitor h.line h.entries tells.all (beat h here).through)

  text_told : (now : List ℕ) → now ≡ taken ++ text → IsTextSoFar says first known used start now g
  text_told now went = record {
    pieces = pieces;
    same = told_now;
    went = went ∙ ap (λ (l : List ℕ). l ++ text) run.text.went ∙ append_assoc start (text_of run.text.pieces) text
        ∙ ap (λ (l : List ℕ). start ++ (text_of run.text.pieces ++ l)) tells.is
        ∙ ap (λ (l : List ℕ). start ++ l) (sym (text_more run.text.pieces tells.piece));
    lines = used;
    rest = [];
    among = sym (append-nil used);
    told = told_here;
    silent = silent_now;
    through = through_now;
  }

  -- at the end of the lines
  pub lines_told : (k : KeptValue) (v : IndexValue) (n : ℕ) → n ≡ line_count used → k.log ≡ t → IsGrowing k.log.declarations k.log.commits v
      → (now : List ℕ) → now ≡ taken ++ text → TellsLines says g used start now (k, v, n)
  unfolding text_told
  lines_told k v n counted is growing now went = record {
    said = said ∙ ap (λ (x : TraceValue). Ok x) (sym is);
    counted = counted;
    pieces = pieces;
    went = (text_told now went).went;
    same = told_now;
    followed = subst (λ (x : TraceValue). IsFollowed x g) (sym is) tells.followed;
    all = subst (λ (x : TraceValue). IsAtEnd x g.monitor) (sym is) tells.all;
    placed = subst AreInPlace (sym is) tells.placed;
    good = subst IsOfBytes (sym is) tells.good;
    silent = silent_now;
    through = subst (λ (x : TraceValue). AreThrough x pieces) (sym is) (through_now t (inl said));
    longer = through_now;
    past = subst (λ (x : TraceValue). ArePast x g.monitor pieces) (sym is) past_here;
    indexed = growing;
  }

  pub run_told : (a : List ℕ) → used ≡ a ++ 10 ∷ [] → (now : List ℕ) → now ≡ taken ++ text
      → IsRunSoFar says first known used start now g
  unfolding text_told
  run_told a is now went = record {
    text = text_told now went;
    from = from_now;
    longer = λ u more reads placed good. followed_longer t u (goes_whole s fits says means a more t u
        (ap (says true) (sym is) ∙ said) (ap (λ (l : List ℕ). says true (l ++ more)) (sym is) ∙ reads))
        tells.placed placed tells.good good g
        (let same = from_now.0 in omega (arith, low, same)) tells.followed tells.all;
    through = λ u more reads. through_now u (inr (a, more, is, reads));
    past = λ u more reads placed. each_more (λ earlier later p h. IsPast u g.monitor h.line) run.text.pieces tells.piece
        (λ earlier later p h is here. goes_on u h.line (run.past u more reads placed earlier later p h is here))
        (λ h here. past_beat u more reads h here placed);
  }

  -- a part of the text went out
  pub part_went : (came rest now : List ℕ) (n : ℕ) → came ≡ used ++ rest → now ≡ taken ++ take n text
      → WentOut says (IsToldFrom says first known) (λ a p e v. ⊥) came start now
  part_went came rest now n among went = record {
    pieces = pieces;
    ending = [];
    bytes = length (text_of run.text.pieces) + n;
    went = went ∙ ap (λ (l : List ℕ). l ++ take n text) run.text.went
        ∙ append_assoc start (text_of run.text.pieces) (take n text)
        ∙ ap (λ (l : List ℕ). start ++ l) (sym (take-append-add (text_of run.text.pieces) text n)
        ∙ ap (take (length (text_of run.text.pieces) + n)) (ap (λ (l : List ℕ). text_of run.text.pieces ++ l) tells.is
        ∙ sym (text_more run.text.pieces tells.piece) ∙ sym (append-nil (text_of pieces))));
    lines = used;
    rest = rest;
    among = among;
    told = told_here;
    beats = λ u goes. are_true_so_far u pieces (through_now u goes) silent_now;
    ends = inl refl;
  }

-- where telling failed
module _ (says : Says) (s : KeptValue) (means : IsSaidBehind s says)
    (fits : next_line s.log ≤ s.lines + 1) (first : ℕ) (known : Known) (low : first ≤ s.lines + 1) (used start : List ℕ) (f g : Follower)
    (k : KeptValue) (said : says true used ≡ Ok k.log) (line : Option ℕ) (lines : AreLines s.lines used line) (out : Writing)
    (run : IsRunSoFar says first known used start out.before.taken f) (came rest : List ℕ) (is : came ≡ used ++ rest) where
  abbrev WentSoFar : List ℕ → Type 0
  WentSoFar = WentOut says (IsToldFrom says first known) (λ a p e v. ⊥) came start

  unwritten : out.after.taken ≡ out.before.taken → WentSoFar out.after.taken
  unwritten same = subst WentSoFar (sym same) (nothing_went says first known used start out.before.taken f run.text came rest is)

  pub tell_went : (e : AuditFault)
      → Told (λ text (l : KeptValue). (l ≡ k) × TellsPiece k.log line f g text) out (Err e) → WentSoFar out.after.taken
  tell_went (faults.Write n) told =
      let h = told.write n refl in
      part_went says s means fits first known low used start out.before.taken f g run k.log said h.1 line lines h.2.1 came rest
      out.after.taken n is h.3.1
  tell_went (faults.Trace x) told = unwritten (told.unwritten tt)
  tell_went (faults.Evidence x) told = unwritten (told.unwritten tt)
  tell_went faults.OutOfMemory told = unwritten (told.unwritten tt)
  tell_went faults.Limits told = unwritten (told.unwritten tt)
  tell_went faults.Joined told = unwritten (told.unwritten tt)
  tell_went faults.Input told = unwritten (told.unwritten tt)

-- ---- what is answered

-- a reader that gave few bytes, and never failed
pub record IsFine (trace : Reading) : Type 0 where
  pub most : GivesFew trace
  pub known : GivesNext trace
  pub kept : ReaderNeverFailed trace

pub fine_so_far : {R : Type 0} (given : R → List ℕ) (ends failures : R → ℕ) (remaining : R → Option (List ℕ)) (first now : R)
    (start k : KeptValue) (r : LineReader) → IsKeptSoFar given ends failures remaining first now start k r → length r.lines ≤ CHUNK
    → IsFine (reads given ends failures remaining first now)
fine_so_far given ends failures remaining first now start k r so_far few = record {
  most = (
    so_far.used ++ r.lines,
    so_far.gave ∙ append_assoc (given first) so_far.used r.lines,
    let fits = so_far.fits in omega (arith, length-append so_far.used r.lines, fits, few),
  );
  known = so_far.known;
  kept = so_far.kept;
}

pub fine_whole : (says : Says) (trace : Reading) (t : TraceValue) → LogRead says trace (Ok t) → IsFine trace
fine_whole says trace t read = record { most = read.most; known = read.known; kept = read.kept }

module _ {V : Type 0} (says : Says) (Follows : List ℕ → List ℕ → List ℕ → V → Type 0)
    (Stands : List ℕ → List ℕ → List ℕ → Type 0) (trace : Reading) (out : Writing) (e : AuditFault) where
  -- the writer stopped the run, or there was no memory
  pub stopped : IsOneOf (kind.write ∷ kind.memory ∷ []) e → IsFine trace
      → OfBytes trace (λ came. Stands came out.before.taken out.after.taken) → StandsBehind out
      → (IsWrite e → WriterFailed out) → (IsNotWrite e → WriterNeverFailed out) → Run says Follows Stands trace out (Err e)
  stopped kinds fine stands held failed unfailed = record {
    follows = tt;
    stands = stands;
    trace_refused = λ f is. absurd (no_trace e f kinds (cc (is)));
    trace_cut = λ f is _. absurd (no_trace e f kinds (cc (is)));
    most = fine.most;
    known = fine.known;
    held = held;
    devices = blames e kinds failed;
    kept = tt;
    unfailed = λ none. (fine.kept, unfailed (not_write e none));
  }
    where
      no_trace : (e : AuditFault) (f : TraceFault) → IsOneOf (kind.write ∷ kind.memory ∷ []) e → e ≡ faults.Trace f → ⊥
      no_trace (faults.Trace g) f is same = absurd (cc (is.0))
      no_trace (faults.Evidence g) f is same = cc
      no_trace (faults.Write n) f is same = cc
      no_trace faults.OutOfMemory f is same = cc
      no_trace faults.Limits f is same = cc
      no_trace faults.Joined f is same = cc
      no_trace faults.Input f is same = cc

      not_write : (e : AuditFault) → BlamesNoDevice e → IsNotWrite e
      not_write (faults.Trace f) none = tt
      not_write (faults.Evidence f) none = tt
      not_write (faults.Write n) none = none
      not_write faults.OutOfMemory none = tt
      not_write faults.Limits none = tt
      not_write faults.Joined none = tt
      not_write faults.Input none = tt

      blames : (e : AuditFault) → IsOneOf (kind.write ∷ kind.memory ∷ []) e → (IsWrite e → WriterFailed out)
          → BlamesOnly ⊥ (ReaderFailed trace) ⊥ (WriterFailed out) e
      blames (faults.Trace f) is failed = absurd (cc (is.0))
      blames (faults.Evidence f) is failed = absurd (cc (is.0))
      blames (faults.Write n) is failed = failed tt
      blames faults.OutOfMemory is failed = tt
      blames faults.Limits is failed = tt
      blames faults.Joined is failed = tt
      blames faults.Input is failed = absurd (cc (is.0))

  -- a line was refused, or the reader failed
  pub refused : LogRead says trace (Err e) → OfBytes trace (λ came. Stands came out.before.taken out.after.taken)
      → StandsBehind out → WriterNeverFailed out → Run says Follows Stands trace out (Err e)
  refused read stands held kept = record {
    follows = tt;
    stands = stands;
    trace_refused = λ f is. read.refused f (cc (is));
    trace_cut = λ f is by. read.cut f (cc (is)) by;
    most = read.most;
    known = read.known;
    held = held;
    devices = blames e read.kinds (λ f is by. read.failed f (ap (λ (x : AuditFault). Err x) is) by);
    kept = tt;
    unfailed = λ none. (read.unfailed none, kept);
  }
    where
      blames : (e : AuditFault) → IsOneOf (kind.trace ∷ kind.memory ∷ []) e
          → ((f : TraceFault) → e ≡ faults.Trace f → f.cause ≡ causes.Read → ReaderFailed trace)
          → BlamesOnly ⊥ (ReaderFailed trace) ⊥ (WriterFailed out) e
      blames (faults.Trace f) is failed = failed f refl
      blames (faults.Evidence f) is failed = absurd (cc (is.0))
      blames (faults.Write n) is failed = absurd (cc (is.0))
      blames faults.OutOfMemory is failed = tt
      blames faults.Limits is failed = tt
      blames faults.Joined is failed = tt
      blames faults.Input is failed = absurd (cc (is.0))

-- a run that a fault stopped, told of another answer
pub stopped_alike : {V W : Type 0} (says : Says) (Follows : List ℕ → List ℕ → List ℕ → V → Type 0)
    (Others : List ℕ → List ℕ → List ℕ → W → Type 0) (Stands Stays : List ℕ → List ℕ → List ℕ → Type 0)
    → ((came old new : List ℕ) → Stands came old new → Stays came old new) → (trace : Reading) (out : Writing) (e : AuditFault)
    → Run says Follows Stands trace out (Err e) → Run says Others Stays trace out (Err e)
stopped_alike says Follows Others Stands Stays map trace out e run = record {
  follows = tt;
  stands = (run.stands.0, run.stands.1, map run.stands.0 out.before.taken out.after.taken run.stands.2);
  trace_refused = λ f is. run.trace_refused f (cc (is));
  trace_cut = λ f is by. run.trace_cut f (cc (is)) by;
  most = run.most;
  known = run.known;
  held = run.held;
  devices = run.devices;
  kept = tt;
  unfailed = run.unfailed;
}

-- a writer that never failed before the last text
pub failed_at_last : (one two three : Writer) → WriterNeverFailed (record { before = one; after = two })
    → WriterFailed (record { before = two; after = three }) → WriterFailed (record { before = one; after = three })
failed_at_last one two three kept (inl risen) = inl (risen ∙ ap (λ (n : ℕ). n + 1) kept.0)
failed_at_last one two three kept (inr risen) = inr (risen ∙ ap (λ (n : ℕ). n + 1) kept.1)

pub never_failed : (one two three : Writer) → WriterNeverFailed (record { before = one; after = two })
    → WriterNeverFailed (record { before = two; after = three }) → WriterNeverFailed (record { before = one; after = three })
never_failed one two three before then = (then.0 ∙ before.0, then.1 ∙ before.1)

pub held_on : (one two three : Writer) → StandsBehind (record { before = one; after = two })
    → StandsBehind (record { before = two; after = three }) → StandsBehind (record { before = one; after = three })
held_on one two three before then =
    behind-trans (λ (w : Writer). w.taken) (λ (w : Writer). w.held) one two three before then

-- ---- the lines' ends

module _ (trace : Reading) (one two three : Writer) (kept : WriterNeverFailed (record { before = one; after = two }))
    (held : StandsBehind (record { before = one; after = two })) (says : Says) (s : KeptValue)
    (means : IsSaidBehind s says) (fits : next_line s.log ≤ s.lines + 1)
    (first : ℕ) (known : Known) (low : first ≤ s.lines + 1) (f g : Follower) (k : KeptValue) where
  -- telling was stopped
  pub tell_stopped : (e : AuditFault) (used : List ℕ) → IsFine trace → says true used ≡ Ok k.log → (line : Option ℕ)
      → AreLines s.lines used line → IsRunSoFar says first known used one.taken two.taken f
      → Told (λ text (l : KeptValue). (l ≡ k) × TellsPiece k.log line f g text) (record { before = two; after = three }) (Err e)
      → (came rest : List ℕ) → trace.after.given ≡ trace.before.given ++ came → came ≡ used ++ rest
      → {V : Type 0} (Follows : List ℕ → List ℕ → List ℕ → V → Type 0)
      → Run says Follows (WentOut says (IsToldFrom says first known) (λ a p e v. ⊥)) trace (record { before = one; after = three }) (Err e)
  tell_stopped e used fine said line lines run told came rest gave is Follows =
      stopped says Follows (WentOut says (IsToldFrom says first known) (λ a p e v. ⊥)) trace (record { before = one; after = three })
      e told.kinds fine (
        came,
        gave,
        tell_went says s means fits first known low used one.taken f g k said line lines
            (record { before = two; after = three }) run came rest is e told,
      )
      (held_on one two three held told.held)
      (λ writes. failed_at_last one two three kept (told.failed writes))
      (λ others. never_failed one two three kept (told.unfailed others))

  -- all lines were taken and told
  pub lines_followed : (used : List ℕ) (v : IndexValue) (n : ℕ) (l : KeptValue) → n ≡ line_count used → IsFine trace → says true used ≡ Ok k.log
      → OfWhole trace (λ a. a ≡ used) → IsRunSoFar says first known used one.taken two.taken f
      → Told (λ text (l : KeptValue). (l ≡ k) × TellsPiece k.log None f g text) (record { before = two; after = three }) (Ok l)
      → IsGrowing k.log.declarations k.log.commits v
      → Run says (TellsLines says g) (WentOut says (IsToldFrom says first known) (λ a p e v. ⊥)) trace
      (record { before = one; after = three }) (Ok (l, v, n))
  lines_followed used v n l counted fine said whole run told growing =
      let same : l ≡ k = told.text.1.0 in record {
        follows = of_whole-map (λ (r : Reader). r.given) (λ (r : Reader). r.ends) trace.before trace.after (λ a. a ≡ used)
            (λ a. TellsLines says g a one.taken three.taken (l, v, n)) (λ a is.
            subst (λ (x : List ℕ). TellsLines says g x one.taken three.taken (l, v, n)) (sym is)
            (lines_told says s means fits first known low used one.taken two.taken f g run k.log said told.text.0 None
            (no_lines s.lines used) told.text.1.1 l v n counted (ap (λ (x : KeptValue). x.log) same)
            (subst (λ (x : KeptValue). IsGrowing x.log.declarations x.log.commits v) (sym same) growing)
            three.taken told.text.2)) whole;
        stands = tt;
        trace_refused = λ x is. absurd (cc (is));
        trace_cut = λ x is. absurd (cc (is));
        most = fine.most;
        known = fine.known;
        held = held_on one two three held told.held;
        devices = tt;
        kept = (fine.kept, never_failed one two three kept told.kept);
        unfailed = tt;
      }

-- Joined input, line by line.
use Rattle.std.proofs.Common.{◌≡◌, ℕ, ◌+◌, ◌-◌, ◌^◌, ◌<◌, ◌≤◌, min, Bool, true, false, ltb, not, ◌&&◌, List, [], ◌∷◌, ◌++◌, length, Option, Some, None, option_map, Result, Ok, Err, arith, inl, inr, refl, sym, ap, ◌∙◌, append_assoc, append-nil, length-append}
use Rattle.std.specs.Prelude.{IfErr, codes}
use Rattle.std.specs.Result.{is_ok}
use Rattle.std.proofs.lemmas.Bool.{cases_Bool, and_parts, lt-ltb, not-false, or_left, ne_eqb, true≢false}
use Rattle.std.proofs.lemmas.List.Splits.{join_with_byte-slice_split}
use Rattle.std.proofs.lemmas.Slice.Eq.{bytes_eq-Decides}
use Rattle.refusals.specs.Refusals.{◌>>=◌}
use Rattle.json_lines.specs.Joined.{RestValue, IsHeld, IsNextLine, IsPart, ComesPast, is_marker, lines_joined, bytes_of, joined_of, line_taken, ends_left}
use Rattle.json_lines.specs.Lines.{lacks, line_ending, Takes, ComeAtMost}
use Rattle.json_lines.specs.Reading.{passes_limit, parts, at_line, read_from, read_all, Fails, Reads, IsOfLine}
use Rattle.json_lines.specs.declared.lines.InputFault.TheVariants.{TooLong, Read, OutOfMemory}
use Rattle.json_lines.specs.declared.reading.Stop.{Stop}
use Rattle.json_lines.specs.declared.reading.Stop.TheVariants.{Input, Line}
use Rattle.json_lines.specs.declared.reading.LineFault.{LineFault}
use Rattle.json_lines.proofs.Folds.{parts_of_line, reads_line, told, within_from, Within}
use Rattle.json_lines.proofs.NextLines.{most_behind, takes_both}

-- ---- the bytes that were taken

pub record Used (given now : List ℕ) (old rest : RestValue) : Type 0 where
  pub bytes : List ℕ
  pub takes : Takes given now old.at_hand rest.at_hand bytes
  pub size : length bytes + rest.room ≡ old.room

pub used_start : (given : List ℕ) (old : RestValue) → Used given given old old
used_start given old = record { bytes = []; takes = λ before is. is; size = omega arith }

pub used_on : (a b c : List ℕ) (old mid new : RestValue) (whole : Bool) (items : List ℕ) → Used a b old mid → IsNextLine b c mid new whole items → Used a c old new
used_on a b c old mid new whole items u line =
    let taken = line.bytes ++ line_ending (not new.ended) in
    record {
      bytes = u.bytes ++ taken;
      takes = takes_both a b c old.at_hand mid.at_hand new.at_hand u.bytes taken u.takes line.takes;
      size = omega (arith, length-append u.bytes taken, u.size, line.size);
    }

pub used_most : (a b c : List ℕ) (old mid : RestValue) (few : ℕ) → Used a b old mid → ComeAtMost (mid.room + few) b c mid.at_hand → ComeAtMost (old.room + few) a c old.at_hand
used_most a b c old mid few u most = most_behind a b c old.at_hand mid.at_hand u.bytes old.room mid.room mid.room few u.takes u.size (omega arith) most

pub used_past : (a b c : List ℕ) (old mid : RestValue) → Used a b old mid → ComesPast mid.room b c mid.at_hand → ComesPast old.room a c old.at_hand
used_past a b c old mid u past before is =
    let l = past (before ++ u.bytes) (u.takes before is ∙ sym (append_assoc before u.bytes mid.at_hand)) in
    (u.bytes ++ l.0, l.1 ∙ append_assoc before u.bytes l.0, omega (arith, length-append u.bytes l.0, u.size, l.2))

-- a line takes its newline off the room, or it is the last
left_after : (bytes : List ℕ) (ended : Bool) (after room : ℕ) → length (bytes ++ line_ending (not ended)) + after ≡ room → after + ends_left ended ≤ room
left_after bytes true after room size = omega (arith, length-append bytes [], size)
left_after bytes false after room size = omega (arith, length-append bytes (10 ∷ []), size)

pub one_less : (b c : List ℕ) (mid new : RestValue) (whole : Bool) (items : List ℕ) (n limit : ℕ) → IsNextLine b c mid new whole items → mid.ended ≡ false
    → n + (mid.room + ends_left mid.ended) ≤ limit → n + 1 + (new.room + ends_left new.ended) ≤ limit
one_less b c mid new whole items n limit line unended le =
    let less = left_after line.bytes new.ended new.room mid.room line.size in
    omega (arith, less, rw unended at le)

-- ---- the marker

-- lines in front of what may be joined input
abbrev pub behind : List ℕ → Option (List ℕ × List ℕ) → Option (List ℕ × List ℕ)
behind front o = option_map (λ p. (front ++ p.0, p.1)) o

twice_behind : (one two : List ℕ) (o : Option (List ℕ × List ℕ)) → behind one (behind two o) ≡ behind (one ++ two) o
twice_behind one two None = refl
twice_behind one two (Some p) = ap (λ (f : List ℕ). Some (f, p.1)) (sym (append_assoc one two p.0))

behind_nothing : (o : Option (List ℕ × List ℕ)) → o ≡ behind [] o
behind_nothing None = refl
behind_nothing (Some p) = refl

one_more : (line : List ℕ) (o : Option (List (List ℕ) × List (List ℕ))) → option_map bytes_of (option_map (λ p. (line ∷ p.0, p.1)) o) ≡ behind (line ++ 10 ∷ []) (option_map bytes_of o)
one_more line None = refl
one_more line (Some p) = refl

-- none of the lines so far is the marker
pub record Unmarked (used : List ℕ) (ended : Bool) : Type 0 where
  pub same : (ys : List ℕ) → (ended ≡ true → ys ≡ []) → joined_of (used ++ ys) ≡ behind used (joined_of ys)

pub unmarked_start : (ended : Bool) → Unmarked [] ended
unmarked_start ended = record { same = λ ys none. behind_nothing (joined_of ys) }

joined_line : (bytes : List ℕ) (more : Bool) (ys : List ℕ) → lacks bytes ≡ true → is_marker bytes ≡ false → (more ≡ false → ys ≡ [])
    → joined_of ((bytes ++ line_ending more) ++ ys) ≡ behind (bytes ++ line_ending more) (joined_of ys)
joined_line bytes true ys h other none = rw (parts_of_line bytes true ys h none, other) (one_more bytes (lines_joined (parts ys)))
joined_line bytes false ys h other none = rw (parts_of_line bytes false ys h none, other, none refl) refl

joined_marker : (bytes : List ℕ) (more : Bool) (ys : List ℕ) → lacks bytes ≡ true → is_marker bytes ≡ true → (more ≡ false → ys ≡ [])
    → joined_of ((bytes ++ line_ending more) ++ ys) ≡ Some ([], ys)
joined_marker bytes true ys h is none = rw (parts_of_line bytes true ys h none, is) (ap (λ (l : List ℕ). Some ([], l)) (join_with_byte-slice_split 10 ys))
joined_marker bytes false ys h is none = rw (parts_of_line bytes false ys h none, is, none refl) refl

unmarked_on : (used bytes : List ℕ) (ended : Bool) → Unmarked used false → lacks bytes ≡ true → is_marker bytes ≡ false → Unmarked (used ++ (bytes ++ line_ending (not ended))) ended
unmarked_on used bytes ended u h other = record {
  same = λ ys none.
      let line = bytes ++ line_ending (not ended) in
      ap joined_of (append_assoc used line ys)
      ∙ u.same (line ++ ys) (λ no. absurd (true≢false (sym no)))
      ∙ ap (behind used) (joined_line bytes (not ended) ys h other (λ no. none (not-false ended no)))
      ∙ twice_behind used line (joined_of ys);
}

marked_on : (used bytes : List ℕ) (ended : Bool) (ys : List ℕ) → Unmarked used false → lacks bytes ≡ true → is_marker bytes ≡ true → (ended ≡ true → ys ≡ [])
    → joined_of ((used ++ (bytes ++ line_ending (not ended))) ++ ys) ≡ Some (used, ys)
marked_on used bytes ended ys u h is none =
    let line = bytes ++ line_ending (not ended) in
    ap joined_of (append_assoc used line ys)
    ∙ u.same (line ++ ys) (λ no. absurd (true≢false (sym no)))
    ∙ ap (behind used) (joined_marker bytes (not ended) ys h is (λ no. none (not-false ended no)))
    ∙ ap (λ (l : List ℕ). Some (l, ys)) (append-nil used)

-- a line that is too long is not the marker
not_marker : (whole : Bool) (bytes items : List ℕ) → IsHeld whole bytes items → (whole && is_marker items) ≡ false → is_marker bytes ≡ false
not_marker true bytes items held other = ap is_marker (sym held.0) ∙ other
not_marker false bytes items long other =
    elim (cases_Bool (is_marker bytes)) [
      | inl is ↦
          let same : bytes ≡ codes "---" = (bytes_eq-Decides bytes (codes "---")).0 is in
          absurd (omega (arith, long, ap length same))
      | inr unlike ↦ unlike
    ]

-- the test of a line, where the marker is sought
pub sought_is : (marked whole : Bool) (line items : List ℕ) (result b : Bool) → line ≡ items
    → result ≡ (marked && (whole && is_marker line)) → result ≡ b → (marked && (whole && is_marker items)) ≡ b
sought_is marked whole line items result b same tells is = rw (← same) (sym tells ∙ is)

is_whole_marker : (whole : Bool) (bytes items : List ℕ) → IsHeld whole bytes items → (whole && is_marker items) ≡ true → is_marker bytes ≡ true
is_whole_marker true bytes items held is = ap is_marker (sym held.0) ∙ is
is_whole_marker false bytes items held is = absurd cc

-- ---- what the lines make of a value

-- what those behind these say, where none was refused
abbrev pub goes : {T S C : Type 0} → Result T (LineFault C) → Result S (LineFault C) → Result S (LineFault C)
goes (Ok u) later = later
goes (Err e) later = Err e

-- a fault that a line gives is the one that was answered
fault_is : {S C : Type 0} (stop : Stop C) (e : LineFault C) (r : Result S (LineFault C)) → Fails stop e r → IsOfLine stop → r ≡ Err e
fault_is (Line c) e r fails h = fails
fault_is (Input TooLong) e r fails h = fails
fault_is (Input Read) e r fails h = absurd h
fault_is (Input OutOfMemory) e r fails h = absurd h

pub of_line_alone : {T C : Type 0} (read : Result T (LineFault C)) (P : LineFault C → Type 0) → IfErr read (λ e. IsOfLine e.stop × P e) → IfErr read (λ e. IsOfLine e.stop)
of_line_alone (Ok u) P h = tt
of_line_alone (Err e) P h = h.0

fails_from : {S C : Type 0} (stop : Stop C) (e : LineFault C) (r : Result S (LineFault C)) → r ≡ Err e → Fails stop e r
fails_from (Line c) e r is = is
fails_from (Input TooLong) e r is = is
fails_from (Input Read) e r is = tt
fails_from (Input OutOfMemory) e r is = tt

settled : {T S C : Type 0} (read : Result T (LineFault C)) (s : S) (r : Result S (LineFault C)) → Reads read s r → IfErr read (λ e. IsOfLine e.stop) → r ≡ goes read (Ok s)
settled (Ok u) s r is h = is
settled (Err e) s r fails h = fault_is e.stop e r fails h

told_from : {T S C : Type 0} (read : Result T (LineFault C)) (s : S) (r : Result S (LineFault C)) → r ≡ goes read (Ok s) → Reads read s r
told_from (Ok u) s r is = is
told_from (Err e) s r is = fails_from e.stop e r is

goes-bind : {T S C : Type 0} (read : Result T (LineFault C)) (s : S) (k : S → Result S (LineFault C)) → (goes read (Ok s) >>= k) ≡ goes read (k s)
goes-bind (Ok u) s k = refl
goes-bind (Err e) s k = refl

-- after a refusal nothing more is said
refused : {T S C : Type 0} (read : Result T (LineFault C)) (s : S) (fault : LineFault C) (later : Result S (LineFault C)) → Err fault ≡ goes read (Ok s) → goes read (Ok s) ≡ goes read later
refused (Ok u) s fault later is = absurd cc
refused (Err e) s fault later is = refl

too_long : (room : ℕ) (bytes : List ℕ) (more : Bool) → 2 ^ 20 < length bytes → passes_limit room bytes more ≡ true
too_long room bytes more lt = or_left (ltb (min room (2 ^ 20)) (length bytes)) _ (lt-ltb _ _ (omega (arith, lt)))

-- what fits the room is within the limits
fits : (room after : ℕ) (bytes : List ℕ) (more : Bool) → length bytes ≤ 2 ^ 20 → length (bytes ++ line_ending more) + after ≤ room → Within room bytes more
fits room after bytes true le size =
    let all = length-append bytes (10 ∷ []) in
    within_from room bytes true (omega (arith, all, size, le)) (ne_eqb (length bytes) room (λ e. omega (arith, all, size, e)))
fits room after bytes false le size = let all = length-append bytes [] in within_from room bytes false (omega (arith, all, size, le)) refl

module _ {S C : Type 0} (taken : ℕ → S → List ℕ → Result S C) (start : S) (blank : (n : ℕ) (s : S) → taken n s [] ≡ Ok s) where
  -- the bytes so far say nothing more than the value, the line number and the first refusal do
  pub record ReadsOn {T : Type 0} (n : ℕ) (s : S) (read : Result T (LineFault C)) (used : List ℕ) (ended : Bool) : Type 0 where
    pub same : (ys : List ℕ) → (ended ≡ true → ys ≡ []) → read_all taken true start (used ++ ys) ≡ goes read (read_from taken true n (2 ^ 30 - length used) s (parts ys))

  pub reads_first : {T : Type 0} (u : T) (ended : Bool) → ReadsOn 1 start (Ok u) [] ended
  unfolding read_all
  reads_first u ended = record { same = λ ys none. refl }

  -- a last line that is empty changes nothing
  ends_blank : (n room : ℕ) (s : S) → read_from taken true n room s (parts []) ≡ Ok s
  ends_blank n room s = let within : Within room [] false = within_from room [] false (omega arith) refl in rw (within, blank n s) refl

  pub reads_all : {T : Type 0} (n : ℕ) (s : S) (read : Result T (LineFault C)) (used : List ℕ) (ended : Bool) → ReadsOn n s read used ended → Reads read s (read_all taken true start used)
  reads_all n s read used ended on =
      told_from read s (read_all taken true start used)
      (ap (read_all taken true start) (sym (append-nil used)) ∙ on.same [] (λ e. refl) ∙ ap (goes read) (ends_blank n (2 ^ 30 - length used) s))

  -- what no bytes say
  pub reads_nothing : read_all taken true start [] ≡ Ok start
  reads_nothing = reads_all 1 start (Ok (tt {0})) [] true (reads_first (tt {0}) true)

  pub reads_past : {T : Type 0} (n : ℕ) (s : S) (e : LineFault C) (used line : List ℕ) (ended : Bool) → ReadsOn {T = T} n s (Err e) used false → ReadsOn {T = T} n s (Err e) (used ++ line) ended
  reads_past {T} n s e used line ended on = record {
    same = λ ys none. ap (read_all taken true start) (append_assoc used line ys) ∙ on.same (line ++ ys) (λ no. absurd (true≢false (sym no)));
  }

  -- one line more
  says_line : {T : Type 0} (n room : ℕ) (s now : S) (read : Result T (LineFault C)) (bytes items : List ℕ) (whole more : Bool) (after : ℕ) (ys : List ℕ) → IsHeld whole bytes items
      → length (bytes ++ line_ending more) + after ≡ room → line_taken taken whole n s items ≡ goes read (Ok now) → (more ≡ false → ys ≡ [])
      → told taken start true n room s bytes more ys ≡ goes read (read_from taken true (n + 1) after now (parts ys))
  says_line n room s now read bytes items false more after ys held size is none = rw (too_long room bytes more held) (is ∙ refused read now _ _ is)
  says_line n room s now read bytes items true true after ys held size is none =
      let within : Within room bytes true = fits room after bytes true held.1 (omega (arith, size)) in
      let rest : ℕ → S → Result S (LineFault C) = λ m t. read_from taken true (n + 1) m t (parts ys) in
      let left : room - (length bytes + 1) ≡ after = omega (arith, size, length-append bytes (10 ∷ [])) in
      rw within (
      ap (λ (l : List ℕ). at_line n (taken n s l) >>= rest (room - (length bytes + 1))) (sym held.0)
      ∙ ap (λ (r : Result S (LineFault C)). r >>= rest (room - (length bytes + 1))) is
      ∙ goes-bind read now (rest (room - (length bytes + 1)))
      ∙ ap (λ (m : ℕ). goes read (rest m now)) left
      )
  says_line n room s now read bytes items true false after ys held size is none =
      let within : Within room bytes false = fits room after bytes false held.1 (omega (arith, size)) in
      let nothing : ys ≡ [] = none refl in
      rw (within, nothing) (
      ap (λ (l : List ℕ). at_line n (taken n s l) >>= (λ (t : S). Ok t)) (sym held.0)
      ∙ ap (λ (r : Result S (LineFault C)). r >>= (λ (t : S). Ok t)) is
      ∙ goes-bind read now (λ (t : S). Ok t)
      ∙ ap (goes read) (sym (ends_blank (n + 1) after now))
      )

  pub reads_line_on : {T : Type 0} (n room : ℕ) (s now : S) (u : T) (read : Result T (LineFault C)) (used bytes items : List ℕ) (whole ended : Bool) (after : ℕ)
      → ReadsOn n s (Ok u) used false → lacks bytes ≡ true → IsHeld whole bytes items → length (bytes ++ line_ending (not ended)) + after ≡ room → length used + room ≤ 2 ^ 30
      → Reads read now (line_taken taken whole n s items) → IfErr read (λ e. IsOfLine e.stop) → ReadsOn (n + 1) now read (used ++ (bytes ++ line_ending (not ended))) ended
  reads_line_on n room s now u read used bytes items whole ended after on h held size within reads of_line = record {
    same = λ ys none.
        let line = bytes ++ line_ending (not ended) in
        let nothing : not ended ≡ false → ys ≡ [] = λ no. none (not-false ended no) in
        let left : 2 ^ 30 - length (used ++ line) + length line ≡ 2 ^ 30 - length used = omega (arith, length-append used line, size, within) in
        ap (read_all taken true start) (append_assoc used line ys)
        ∙ on.same (line ++ ys) (λ no. absurd (true≢false (sym no)))
        ∙ reads_line taken start true n (2 ^ 30 - length used) s bytes (not ended) ys h nothing
        ∙ says_line n (2 ^ 30 - length used) s now read bytes items whole (not ended) (2 ^ 30 - length (used ++ line)) ys held (omega (arith, left)) (settled read now (line_taken taken whole n s items) reads of_line) nothing;
  }

  -- ---- both

  -- the lines so far
  pub record Going {T : Type 0} (given now : List ℕ) (old rest : RestValue) (marked : Bool) (n : ℕ) (s : S) (read : Result T (LineFault C)) : Type 0 where
    pub used : Used given now old rest
    pub reads : ReadsOn n s read used.bytes rest.ended
    pub unmarked : marked ≡ true → Unmarked used.bytes rest.ended

  pub going_first : {T : Type 0} (given : List ℕ) (old : RestValue) (marked : Bool) (u : T) → Going given given old old marked 1 start (Ok u)
  unfolding used_start
  going_first given old marked u = record { used = used_start given old; reads = reads_first u old.ended; unmarked = λ is. unmarked_start old.ended }

  unmarked_after : (marked whole : Bool) (used bytes items : List ℕ) (ended : Bool) → (marked ≡ true → Unmarked used false) → lacks bytes ≡ true → IsHeld whole bytes items
      → (marked && (whole && is_marker items)) ≡ false → marked ≡ true → Unmarked (used ++ (bytes ++ line_ending (not ended))) ended
  unmarked_after true whole used bytes items ended u h held other is = unmarked_on used bytes ended (u refl) h (not_marker whole bytes items held other)
  unmarked_after false whole used bytes items ended u h held other is = absurd (true≢false (sym is))

  -- a line was read
  pub going_on : {T : Type 0} (a b c : List ℕ) (old mid new : RestValue) (marked : Bool) (n : ℕ) (s now : S) (before read : Result T (LineFault C)) (whole : Bool) (items : List ℕ)
      → is_ok before ≡ true → Going a b old mid marked n s before → IsNextLine b c mid new whole items → mid.ended ≡ false → old.room ≤ 2 ^ 30 → (marked && (whole && is_marker items)) ≡ false
      → Reads read now (line_taken taken whole n s items) → IfErr read (λ e. IsOfLine e.stop) → Going a c old new marked (n + 1) now read
  unfolding used_on
  going_on a b c old mid new marked n s now (Ok u) read whole items is go line unended room other reads of_line = record {
    used = used_on a b c old mid new whole items go.used line;
    reads = reads_line_on n mid.room s now u read go.used.bytes line.bytes items whole new.ended new.room (rw unended at go.reads) line.lacking line.held line.size (omega (arith, go.used.size, room)) reads of_line;
    unmarked = unmarked_after marked whole go.used.bytes line.bytes items new.ended (rw unended at go.unmarked) line.lacking line.held other;
  }
  going_on a b c old mid new marked n s now (Err e) read whole items is go line unended room other reads of_line = absurd (true≢false (sym is))

  -- a line was passed over, behind a refusal
  pub going_past : {T : Type 0} (a b c : List ℕ) (old mid new : RestValue) (marked : Bool) (n : ℕ) (s : S) (read : Result T (LineFault C)) (whole : Bool) (items : List ℕ)
      → is_ok read ≡ false → Going a b old mid marked n s read → IsNextLine b c mid new whole items → mid.ended ≡ false → (marked && (whole && is_marker items)) ≡ false
      → Going a c old new marked n s read
  unfolding used_on
  going_past a b c old mid new marked n s (Ok u) whole items is go line unended other = absurd (true≢false is)
  going_past a b c old mid new marked n s (Err e) whole items is go line unended other = record {
    used = used_on a b c old mid new whole items go.used line;
    reads = reads_past n s e go.used.bytes (line.bytes ++ line_ending (not new.ended)) new.ended (rw unended at go.reads);
    unmarked = unmarked_after marked whole go.used.bytes line.bytes items new.ended (rw unended at go.unmarked) line.lacking line.held other;
  }

  -- the marker was found
  pub part_found : {T : Type 0} (a b c : List ℕ) (old mid new : RestValue) (marked : Bool) (n : ℕ) (s : S) (read : Result T (LineFault C)) (whole : Bool) (items : List ℕ)
      → Going a b old mid marked n s read → IsNextLine b c mid new whole items → mid.ended ≡ false → (marked && (whole && is_marker items)) ≡ true
      → IsPart taken a c old new start s marked read true
  unfolding used_on
  part_found a b c old mid new marked n s read whole items go line unended is =
      let u = used_on a b c old mid new whole items go.used line in
      let sought = and_parts marked (whole && is_marker items) is in
      record {
        passed = u.bytes;
        front = go.used.bytes;
        takes = u.takes;
        size = u.size;
        reads = reads_all n s read go.used.bytes mid.ended go.reads;
        at_marker = λ found more none. marked_on go.used.bytes line.bytes new.ended more (rw unended at (go.unmarked sought.0)) line.lacking (is_whole_marker whole line.bytes items line.held sought.1) none;
        at_end = λ none. absurd (true≢false none);
        sought = λ found. sought.0;
      }

  -- the end came first
  pub part_ended : {T : Type 0} (a b : List ℕ) (old rest : RestValue) (marked : Bool) (n : ℕ) (s : S) (read : Result T (LineFault C))
      → Going a b old rest marked n s read → rest.ended ≡ true → rest.at_hand ≡ [] → IsPart taken a b old rest start s marked read false
  part_ended a b old rest marked n s read go ended none = record {
    passed = go.used.bytes;
    front = go.used.bytes;
    takes = go.used.takes;
    size = go.used.size;
    reads = reads_all n s read go.used.bytes rest.ended go.reads;
    at_marker = λ found. absurd (true≢false (sym found));
    at_end = λ not_found. (refl, ended, none, λ is. ap joined_of (sym (append-nil go.used.bytes)) ∙ (go.unmarked is).same [] (λ e. refl));
    sought = λ found. absurd (true≢false (sym found));
  }

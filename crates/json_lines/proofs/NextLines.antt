-- A line that is taken piece by piece, where it is longer than a line may be.
use Rattle.std.proofs.Common.{◌≡◌, ℕ, ◌+◌, ◌-◌, ◌^◌, ◌<◌, ◌≤◌, Bool, true, false, not, ◌&&◌, eqb, List, [], ◌∷◌, ◌++◌, length, arith, refl, sym, ap, ◌∙◌, append_assoc, length-append}
use Rattle.std.specs.Int.{from_bool}
use Rattle.std.proofs.lemmas.Bool.{eqb-true, eqb-false}
use Rattle.json_lines.specs.Joined.{RestValue, IsHeld, IsNextLine, ComesPast}
use Rattle.json_lines.specs.Lines.{lacks, line_len, line_ending, Takes, BeginsTooLong, ComeAtMost}
use Rattle.json_lines.proofs.Steps.{lacks_more}

-- nothing of the line was passed over, or so much of it that with what is at hand it is too long
abbrev pub IsStarted : (whole : Bool) → (bytes lines : List ℕ) → Type 0
IsStarted true bytes lines = bytes ≡ []
IsStarted false bytes lines = 2 ^ 20 < length bytes + line_len lines

-- the bytes of the line so far
pub record Passed (given now : List ℕ) (at_hand : List ℕ) (all : ℕ) (lines : List ℕ) (room : ℕ) (whole : Bool) : Type 0 where
  pub bytes : List ℕ
  pub lacking : lacks bytes ≡ true
  pub takes : Takes given now at_hand lines bytes
  pub size : length bytes + room ≡ all
  pub started : IsStarted whole bytes lines

-- what is taken behind the bytes so far
pub takes_both : (a b c at_hand mid left one two : List ℕ) → Takes a b at_hand mid one → Takes b c mid left two → Takes a c at_hand left (one ++ two)
takes_both a b c at_hand mid left one two t u before is =
    u (before ++ one) (t before is ∙ sym (append_assoc before one mid)) ∙ append_assoc before one (two ++ left) ∙ ap (λ (l : List ℕ). before ++ l) (sym (append_assoc one two left))

pub passed_on : (a b c at_hand : List ℕ) (all : ℕ) (lines left line : List ℕ) (room : ℕ) (whole : Bool) → Passed a b at_hand all lines room whole
    → Takes b c lines left line → lacks line ≡ true → length line ≤ room → 2 ^ 20 < length line + line_len left → Passed a c at_hand all left (room - length line) false
passed_on a b c at_hand all lines left line room whole p t h le lt =
    let size = length-append p.bytes line in
    record {
      bytes = p.bytes ++ line;
      lacking = lacks_more p.bytes line p.lacking h;
      takes = takes_both a b c at_hand lines left p.bytes line p.takes t;
      size = omega (arith, size, p.size, le);
      started = omega (arith, size, lt);
    }

held_at : (whole : Bool) (bytes lines line : List ℕ) → IsStarted whole bytes lines → length line ≤ 2 ^ 20 → line_len lines ≤ length line → IsHeld whole (bytes ++ line) line
held_at true bytes lines line none le reached = rw none (refl, le)
held_at false bytes lines line lt le reached = omega (arith, length-append bytes line, lt, reached)

ending_is : (more : Bool) → line_ending more ≡ line_ending (not (not more))
ending_is true = refl
ending_is false = refl

-- the line, with its newline where it has one, takes its bytes off the room
pub passed_line : (a b c at_hand : List ℕ) (all : ℕ) (lines left line : List ℕ) (room : ℕ) (whole more : Bool) (after : ℕ) → Passed a b at_hand all lines room whole
    → Takes b c lines left (line ++ line_ending more) → lacks line ≡ true → line_len lines ≤ length line → length line ≤ 2 ^ 20
    → length line + length (line_ending more) + after ≡ room → (old : RestValue) → old.at_hand ≡ at_hand → old.room ≡ all
    → IsNextLine a c old (record { at_hand = left; room = after; ended = not more }) whole line
passed_line a b c at_hand all lines left line room whole more after p t h reached le size old is_at_hand is_room =
    let bytes = p.bytes ++ line in
    let grouped : bytes ++ line_ending more ≡ p.bytes ++ (line ++ line_ending more) = append_assoc p.bytes line (line_ending more) in
    record {
      bytes = bytes;
      lacking = lacks_more p.bytes line p.lacking h;
      takes = rw (← ending_is more, grouped, is_at_hand) (takes_both a b c at_hand lines left p.bytes (line ++ line_ending more) p.takes t);
      size = rw (← ending_is more, is_room) (omega (arith, length-append bytes (line_ending more), length-append p.bytes line, p.size, size));
      held = held_at whole p.bytes lines line p.started le reached;
    }

-- how much room the line and its newline leave
pub room_after : (line room : ℕ) (more : Bool) (n : ℕ) → line ≤ room → (more && eqb line room) ≡ false → n ≡ from_bool more → (line + n ≤ room) × (length (line_ending more) ≡ n)
room_after line room true n le h e = let other = eqb-false line room h in (omega (arith, le, other, e), omega (arith, e))
room_after line room false n le h e = (omega (arith, le, e), omega (arith, e))

-- the newline is past the room
pub passed_over : (a b c at_hand : List ℕ) (all : ℕ) (lines left line : List ℕ) (room : ℕ) (whole more : Bool) → Passed a b at_hand all lines room whole
    → Takes b c lines left (line ++ line_ending more) → (more && eqb (length line) room) ≡ true → ComesPast all a c at_hand
passed_over a b c at_hand all lines left line room whole false p t e before is = absurd cc
passed_over a b c at_hand all lines left line room whole true p t e before is =
    let taken = p.bytes ++ (line ++ 10 ∷ []) in
    let full : length line ≡ room = eqb-true _ _ e in (
      taken ++ left,
      takes_both a b c at_hand lines left p.bytes (line ++ 10 ∷ []) p.takes t before is,
      omega (arith, length-append taken left, length-append p.bytes (line ++ 10 ∷ []), length-append line (10 ∷ []), p.size, full),
    )

-- the line is past the room
pub passed_long : (a b c at_hand : List ℕ) (all : ℕ) (lines : List ℕ) (room max : ℕ) (whole : Bool) → Passed a b at_hand all lines room whole
    → BeginsTooLong max b c lines → room ≤ max → ComesPast all a c at_hand
passed_long a b c at_hand all lines room max whole p long le before is =
    let l = long (before ++ p.bytes) (p.takes before is ∙ sym (append_assoc before p.bytes lines)) in (
      p.bytes ++ (l.0 ++ l.1),
      l.2 ∙ append_assoc before p.bytes (l.0 ++ l.1),
      omega (arith, length-append p.bytes (l.0 ++ l.1), length-append l.0 l.1, p.size, l.4, le),
    )

-- what came is counted from the first of the bytes
pub most_behind : (a b c at_hand lines bytes : List ℕ) (all room max few : ℕ) → Takes a b at_hand lines bytes → length bytes + room ≡ all
    → max ≤ room → ComeAtMost (max + few) b c lines → ComeAtMost (all + few) a c at_hand
most_behind a b c at_hand lines bytes all room max few takes size le most before is =
    let l = most (before ++ bytes) (takes before is ∙ sym (append_assoc before bytes lines)) in
    (bytes ++ l.0, l.1 ∙ append_assoc before bytes l.0, omega (arith, length-append bytes l.0, size, l.2, le))

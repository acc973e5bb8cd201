-- A value that grows line by line: what is left, read from here, says what the whole input says.
use Rattle.std.proofs.Common.{◌≡◌, ℕ, ◌+◌, ◌-◌, ◌^◌, ◌<◌, ◌≤◌, min, Bool, true, false, ltb, eqb, cond, not, ◌&&◌, List, [], ◌∷◌, ◌++◌, length, Result, Ok, Err, arith, refl, sym, ap, subst, ◌∙◌, append_assoc, append-nil, length-append}
use Rattle.std.specs.Prelude.{All, ⊤}
use Rattle.std.specs.List.{AllByRecursion}
use Rattle.std.proofs.lemmas.List.Elements.{All-from_recursion}
use Rattle.std.proofs.lemmas.Bool.{lt-ltb, le-ltb, eqb-false, ne_eqb, not-true, or_left, or_right, or_from, and_parts}
use Rattle.std.proofs.lemmas.List.Splits.{slice_split_at, slice_split_none, length-slice_split}
use Rattle.refusals.specs.Refusals.{◌>>=◌}
use Rattle.devices.specs.Given.{OfBytes, OfInput}
use Rattle.json_lines.specs.Lines.{lacks, first_line, after_line, has_newline, line_ending}
use Rattle.json_lines.specs.Reading.{at_line, passes_limit, parts, read_from, read_all, Fails, HasLine, Refuses}
use Rattle.json_lines.specs.SoFar.{GoesFrom}
use Rattle.json_lines.specs.declared.lines.InputFault.{InputFault}
use Rattle.json_lines.specs.declared.lines.InputFault.TheVariants.{TooLong, Read, OutOfMemory}
use Rattle.json_lines.specs.declared.reading.Stop.{Stop}
use Rattle.json_lines.specs.declared.reading.Stop.TheVariants.{Input, Line}
use Rattle.json_lines.specs.declared.reading.LineFault.{LineFault}
use Rattle.json_lines.proofs.Steps.{lacks_line, split_line, nothing_after}

pub none_passes : (xs : List ℕ) → lacks xs ≡ true → All (λ b. eqb b 10 ≡ false) xs
none_passes xs h = All-from_recursion (λ b. eqb b 10 ≡ false) xs (along xs h)
  where
    along : (ys : List ℕ) → lacks ys ≡ true → AllByRecursion (λ b. eqb b 10 ≡ false) ys
    along [] e = tt
    along (y ∷ ys) e = let a = and_parts (not (eqb y 10)) (lacks ys) e in (not-true (eqb y 10) a.0, along ys a.1)

-- a line within its limits
abbrev pub Within : ℕ → List ℕ → Bool → Type 0
Within room line more = passes_limit room line more ≡ false

pub within_from : (room : ℕ) (line : List ℕ) (more : Bool) → length line ≤ min room (2 ^ 20) → (more && (eqb (length line) room)) ≡ false → Within room line more
within_from room line more le h = or_from (ltb (min room (2 ^ 20)) (length line)) (more && eqb (length line) room) (le-ltb _ _ le) h

-- a line that is not over leaves room for its newline
pub room_left : (room : ℕ) (line : List ℕ) → length line ≤ min room (2 ^ 20) → eqb (length line) room ≡ false → length line + 1 ≤ room
room_left room line le h = let short : length line ≤ room = omega (arith, le) in let other = eqb-false (length line) room h in omega (arith, short, other)

-- what was over the limit had a newline, and filled the room
over : (room : ℕ) (line : List ℕ) (more : Bool) → (more && eqb (length line) room) ≡ true → passes_limit room line more ≡ true
over room line more e = or_right (ltb (min room (2 ^ 20)) (length line)) (more && eqb (length line) room) e

-- the lines behind one that ends so
abbrev later : Bool → List ℕ → List (List ℕ)
later true ys = parts ys
later false ys = []

pub parts_of_line : (line : List ℕ) (more : Bool) (ys : List ℕ) → lacks line ≡ true → (more ≡ false → ys ≡ []) → parts ((line ++ line_ending more) ++ ys) ≡ line ∷ later more ys
parts_of_line line true ys h e = ap parts (append_assoc line (10 ∷ []) ys) ∙ slice_split_at (λ b. eqb b 10) line 10 ys (none_passes line h) refl
parts_of_line line false ys h e = rw (e refl) (ap parts (append-nil (line ++ []) ∙ append-nil line) ∙ slice_split_none (λ b. eqb b 10) line (none_passes line h))

none_later : (more : Bool) (ys : List ℕ) → eqb (length (later more ys)) 0 ≡ not more
none_later true ys = ne_eqb _ _ (λ e. let n = length-slice_split (λ b. eqb b 10) ys in omega (arith, n, e))
none_later false ys = refl

not_not : (b : Bool) → not (not b) ≡ b
not_not true = refl
not_not false = refl

-- bytes that were read, and others that may come
regrouped : (used line ending left rest : List ℕ) → (used ++ ((line ++ ending) ++ left)) ++ rest ≡ used ++ ((line ++ ending) ++ (left ++ rest))
regrouped used line ending left rest = append_assoc used ((line ++ ending) ++ left) rest ∙ ap (λ (l : List ℕ). used ++ l) (append_assoc (line ++ ending) left rest)

-- what came is counted from the start of the reading
pub came_in_all : {R : Type 0} (given : R → List ℕ) (old new : R) (used room max few : ℕ) (before : List ℕ) → length before + room ≤ used → max ≤ room
    → ((bytes : List ℕ) × (given new ≡ (given old ++ before) ++ bytes) × (length bytes ≤ max + few)) → OfBytes given old new (λ came. length came ≤ used + few)
came_in_all given old new used room max few before within le h =
    (before ++ h.0, h.1 ∙ append_assoc (given old) before h.0, omega (arith, length-append before h.0, h.2, within, le))

module _ {S C : Type 0} (taken : ℕ → S → List ℕ → Result S C) (start : S) where
  pub goes_first : GoesFrom taken start 1 (2 ^ 30) start []
  goes_first = record { same = λ whole ys. refl; counted = λ ys. omega arith }

  abbrev stopped : ℕ → Stop C → Result S (LineFault C)
  stopped n stop = Err (record { line = n; stop = stop })

  -- what a line says, and those behind it
  abbrev pub told : Bool → ℕ → ℕ → S → List ℕ → Bool → List ℕ → Result S (LineFault C)
  told whole n room s line more ys =
      cond (passes_limit room line more) (stopped n (Input TooLong)) (cond (not whole && not more) (stopped n (Input Read))
      (at_line n (taken n s line) >>= λ t. read_from taken whole (n + 1) (room - (length line + 1)) t (later more ys)))

  pub reads_line : (whole : Bool) (n room : ℕ) (s : S) (line : List ℕ) (more : Bool) (ys : List ℕ) → lacks line ≡ true → (more ≡ false → ys ≡ [])
      → read_from taken whole n room s (parts ((line ++ line_ending more) ++ ys)) ≡ told whole n room s line more ys
  reads_line whole n room s line more ys h e = rw (parts_of_line line more ys h e, none_later more ys, not_not more) refl

  says : (whole : Bool) (n room : ℕ) (s : S) (used line : List ℕ) (more : Bool) (ys : List ℕ) → GoesFrom taken start n room s used → lacks line ≡ true → (more ≡ false → ys ≡ [])
      → read_all taken whole start (used ++ ((line ++ line_ending more) ++ ys)) ≡ told whole n room s line more ys
  unfolding read_all
  says whole n room s used line more ys from h e = from.same whole ((line ++ line_ending more) ++ ys) ∙ reads_line whole n room s line more ys h e

  and_false : (b : Bool) → (b && false) ≡ false
  and_false true = refl
  and_false false = refl

  -- one line more was read
  pub goes_on : (n room : ℕ) (s : S) (used line : List ℕ) (now : S) → GoesFrom taken start n room s used → lacks line ≡ true → Within room line true → taken n s line ≡ Ok now
      → GoesFrom taken start (n + 1) (room - (length line + 1)) now (used ++ (line ++ line_ending true))
  goes_on n room s used line now from h w e = record {
    same = λ whole ys.
        ap (λ (l : List ℕ). read_from taken whole 1 (2 ^ 30) start (parts l)) (append_assoc used (line ++ line_ending true) ys)
        ∙ from.same whole ((line ++ line_ending true) ++ ys)
        ∙ reads_line whole n room s line true ys h (λ no. cc)
        ∙ rw (w, and_false (not whole), e) refl;
    counted = λ ys.
        let all = ap (λ (l : List ℕ). length (parts l)) (append_assoc used (line ++ line_ending true) ys) in
        let behind = ap length (parts_of_line line true ys h (λ no. cc)) in
        omega (arith, all, behind, from.counted ((line ++ line_ending true) ++ ys));
  }

  -- lines count from 1
  pub from_one : (n room : ℕ) (s : S) (used : List ℕ) → GoesFrom taken start n room s used → 1 ≤ n
  from_one n room s used from =
      let none : length (parts []) ≡ 1 = refl in
      let some = length-slice_split (λ b. eqb b 10) (used ++ []) in omega (arith, from.counted [], none, some)

  -- the next line is one of those that came
  pub line_came : {R : Type 0} (given : R → List ℕ) (old new : R) (n room : ℕ) (s : S) (used bytes : List ℕ) → GoesFrom taken start n room s used → given new ≡ (given old ++ used) ++ bytes
      → OfBytes given old new (λ came. HasLine came n)
  line_came given old new n room s used bytes from is = (
    used ++ bytes,
    is ∙ append_assoc (given old) used bytes,
    (
      from_one n room s used from,
      let some = length-slice_split (λ b. eqb b 10) bytes in omega (arith, from.counted bytes, some),
    ),
  )

  module _ {R : Type 0} (given : R → List ℕ) (ends : R → ℕ) (old new : R) where
    -- what every input says that the reader may have: it goes on with this line
    along : (P : Result S (LineFault C) → Type 0) (n room : ℕ) (s : S) (used line : List ℕ) (more : Bool) (left : List ℕ) → GoesFrom taken start n room s used
        → given new ≡ (given old ++ used) ++ ((line ++ line_ending more) ++ left) → lacks line ≡ true → (more ≡ false → (left ≡ []) × (ends old < ends new))
        → ((ys : List ℕ) → P (told true n room s line more ys)) → OfInput given ends old new (λ input. P (read_all taken true start input))
    along P n room s used line more left from is h last holds = (
      used ++ ((line ++ line_ending more) ++ left),
      is ∙ append_assoc (given old) used ((line ++ line_ending more) ++ left),
      λ rest ended. subst P
          (sym (says true n room s used line more (left ++ rest) from h (λ no. rw ((last no).0, ended (last no).1) refl)) ∙ ap (read_all taken true start) (sym (regrouped used line (line_ending more) left rest)))
          (holds (left ++ rest)),
    )

    -- the newline is past the end of what may come
    pub over_ends : (n room : ℕ) (s : S) (used line : List ℕ) (more : Bool) (left : List ℕ) → GoesFrom taken start n room s used
        → given new ≡ (given old ++ used) ++ ((line ++ line_ending more) ++ left) → lacks line ≡ true → (more ≡ false → (left ≡ []) × (ends old < ends new))
        → (more && eqb (length line) room) ≡ true → OfInput given ends old new (λ input. read_all taken true start input ≡ stopped n (Input TooLong))
    over_ends n room s used line more left from is h last e =
        along (λ r. r ≡ stopped n (Input TooLong)) n room s used line more left from is h last (λ ys. rw (over room line more e) refl)

    -- the step over the line failed
    pub step_cut : (n room : ℕ) (s : S) (used line : List ℕ) (more : Bool) (left : List ℕ) (stop : Stop C) → GoesFrom taken start n room s used
        → given new ≡ (given old ++ used) ++ ((line ++ line_ending more) ++ left) → lacks line ≡ true → (more ≡ false → (left ≡ []) × (ends old < ends new))
        → Within room line more → Refuses (taken n s line) stop → OfInput given ends old new (λ input. Fails stop (record { line = n; stop = stop }) (read_all taken true start input))
    step_cut n room s used line more left (Line cause) from is h last w e =
        along (λ r. r ≡ stopped n (Line cause)) n room s used line more left from is h last (λ ys. rw (w, e) refl)
    step_cut n room s used line more left (Input OutOfMemory) from is h last w e = along (λ r. ⊤) n room s used line more left from is h last (λ ys. tt)
    step_cut n room s used line more left (Input Read) from is h last w e = absurd e
    step_cut n room s used line more left (Input TooLong) from is h last w e = absurd e

    -- it was the last line
    pub last_ends : (n room : ℕ) (s : S) (used line left : List ℕ) (now : S) → GoesFrom taken start n room s used
        → given new ≡ (given old ++ used) ++ ((line ++ line_ending false) ++ left) → lacks line ≡ true → left ≡ [] → ends old < ends new
        → Within room line false → taken n s line ≡ Ok now → OfInput given ends old new (λ input. read_all taken true start input ≡ Ok now)
    last_ends n room s used line left now from is h none end w e =
        along (λ r. r ≡ Ok now) n room s used line false left from is h (λ no. (none, end)) (λ ys. rw (w, e) refl)

    -- any fault that says nothing of the bytes
    open_ends : (used bytes : List ℕ) → given new ≡ (given old ++ used) ++ bytes → OfInput given ends old new (λ input. ⊤)
    open_ends used bytes is = (used ++ bytes, is ∙ append_assoc (given old) used bytes, λ rest ended. tt)

    long_line : (n room : ℕ) (s : S) (used line rest : List ℕ) → GoesFrom taken start n room s used → lacks line ≡ true → min room (2 ^ 20) < length line
        → read_all taken true start (used ++ (line ++ rest)) ≡ stopped n (Input TooLong)
    long_line n room s used line rest from h lt =
        let whole = line ++ first_line rest in
        let size = length-append line (first_line rest) in
        let long : passes_limit room whole (has_newline rest) ≡ true = or_left (ltb (min room (2 ^ 20)) (length whole)) _ (lt-ltb _ _ (omega (arith, size, lt))) in
        ap (λ (l : List ℕ). read_all taken true start (used ++ l)) (ap (λ (l : List ℕ). line ++ l) (split_line rest (has_newline rest) refl) ∙ sym (append_assoc line (first_line rest ++ line_ending (has_newline rest)) (after_line rest)) ∙ ap (λ (l : List ℕ). l ++ after_line rest) (sym (append_assoc line (first_line rest) (line_ending (has_newline rest)))))
        ∙ says true n room s used whole (has_newline rest) (after_line rest) from (lacks_line line rest h) (λ no. nothing_after rest (sym no))
        ∙ rw long refl

    -- no line came
    pub cut_ends : (n room : ℕ) (s : S) (used bytes : List ℕ) (e : InputFault) → GoesFrom taken start n room s used → given new ≡ (given old ++ used) ++ bytes
        → (e ≡ TooLong → (line : List ℕ) × (rest : List ℕ) × (given new ≡ (given old ++ used) ++ (line ++ rest)) × (lacks line ≡ true) × (min room (2 ^ 20) < length line))
        → OfInput given ends old new (λ input. Fails (Input e) (record { line = n; stop = Input e }) (read_all taken true start input))
    cut_ends n room s used bytes Read from is long = open_ends used bytes is
    cut_ends n room s used bytes OutOfMemory from is long = open_ends used bytes is
    cut_ends n room s used bytes TooLong from is long =
        let l = long refl in (
          used ++ (l.0 ++ l.1),
          l.2 ∙ append_assoc (given old) used (l.0 ++ l.1),
          λ rest ended. ap (read_all taken true start) (append_assoc used (l.0 ++ l.1) rest ∙ ap (λ (ys : List ℕ). used ++ ys) (append_assoc l.0 l.1 rest)) ∙ long_line n room s used l.0 (l.1 ++ rest) from l.3 l.4,
        )

    -- the reader failed within a line
    pub read_fails : (n room : ℕ) (s : S) (used line : List ℕ) → GoesFrom taken start n room s used → given new ≡ (given old ++ used) ++ (line ++ []) → lacks line ≡ true → length line ≤ min room (2 ^ 20)
        → OfBytes given old new (λ came. read_all taken false start came ≡ stopped n (Input Read))
    read_fails n room s used line from is h le = (
      used ++ (line ++ []),
      is ∙ append_assoc (given old) used (line ++ []),
      ap (λ (l : List ℕ). read_all taken false start (used ++ l)) (ap (λ (l : List ℕ). l ++ []) (sym (append-nil line))) ∙ says false n room s used line false [] from h (λ no. refl) ∙ rw (within_from room line false le refl) refl,
    )

-- What lines say by themselves, put into a value.
use Rattle.std.proofs.Common.{◌≡◌, ◌≢◌, ℕ, ◌+◌, ◌-◌, ◌^◌, ◌<◌, ◌≤◌, ◌⊎◌, inl, inr, min, Bool, true, false, not, ◌&&◌, eqb, ltb, cond, List, [], ◌∷◌, ◌++◌, length, map, Option, None, Some, Result, Ok, Err, arith, refl, sym, ap, ◌∙◌, append_assoc, length-append}
use Rattle.std.proofs.lemmas.Bool.{ltb-false, ne_eqb, or_parts}
use Rattle.refusals.specs.Refusals.{◌>>=◌}
use Rattle.json_lines.specs.Reading.{at_line, passes_limit, parts, read_from}
use Rattle.json_lines.specs.declared.lines.InputFault.TheVariants.{Read, TooLong}
use Rattle.json_lines.specs.declared.reading.Stop.{Stop}
use Rattle.json_lines.specs.declared.reading.Stop.TheVariants.{Input, Line}
use Rattle.json_lines.specs.declared.reading.LineFault.{LineFault}
use Rattle.json_lines.proofs.Folds.{room_left}
use Rattle.line_blocks.specs.Blocks.{joined, lines_in, lines_of, size_of}
use Rattle.line_blocks.specs.Parts.{PartTold, stopped, before, lines_told, put_values, put_part, put_parts, taken_by}
use Rattle.line_blocks.specs.Values.{AreBlocks, block_told, bytes_in}
use Rattle.line_blocks.specs.declared.blocks.Block.{Block}
use Rattle.line_blocks.proofs.WholeLines.{few_lines, lines_behind, size_of_whole, some_part}

pub bind_bind : {A B D E : Type 0} (x : Result A E) (f : A → Result B E) (g : B → Result D E)
    → ((x >>= f) >>= g) ≡ (x >>= λ a. f a >>= g)
bind_bind (Ok a) f g = refl
bind_bind (Err e) f g = refl

pub bind_same : {A B E : Type 0} (x : Result A E) (f g : A → Result B E) → ((a : A) → f a ≡ g a) → (x >>= f) ≡ (x >>= g)
bind_same (Ok a) f g h = h a
bind_same (Err e) f g h = refl

pub bind_kept : {A B E : Type 0} (x : Result A E) (f g : A → Result B E) → ((a : A) → x ≡ Ok a → f a ≡ g a)
    → (x >>= f) ≡ (x >>= g)
bind_kept (Ok a) f g h = h a refl
bind_kept (Err e) f g h = refl

and_false : (b : Bool) → (b && false) ≡ false
and_false true = refl
and_false false = refl

-- ---- what is told of a part

-- a part that is whole says as many values as it has lines, and its lines have room; another says fewer, and stops
-- for a line
pub record Counts {V C : Type 0} (p : PartTold V C) (lines size room : ℕ) : Type 0 where
  pub all : p.fault ≡ None → length p.values ≡ lines
  pub fits : p.fault ≡ None → size ≤ room
  pub few : length p.values ≤ lines
  pub of_no_reader : p.fault ≢ Some (Input Read)

room_for : (room : ℕ) (line : List ℕ) → passes_limit room line true ≡ false → length line + 1 ≤ room
room_for room line h =
    let a = or_parts (ltb (min room (2 ^ 20)) (length line)) (eqb (length line) room) h in
    room_left room line (ltb-false _ _ a.0) a.1

stopped_counts : {V C : Type 0} (stop : Stop C) (lines size room : ℕ) → stop ≢ Input Read
    → Counts {V = V} (stopped stop) lines size room
stopped_counts stop lines size room other =
    record { all = λ e. absurd cc; fits = λ e. absurd cc; few = omega arith; of_no_reader = λ e. other cc }

before_counts : {V C : Type 0} (said : Result V C) (p : PartTold V C) (lines size room len : ℕ) → len + 1 ≤ room
    → Counts p lines size (room - (len + 1)) → Counts (before said p) (lines + 1) ((len + 1) + size) room
before_counts (Ok v) p lines size room len le h =
    record {
      all = λ e. let n = h.all e in omega (arith, n);
      fits = λ e. let n = h.fits e in omega (arith, n, le);
      few = omega (arith, h.few);
      of_no_reader = h.of_no_reader;
    }
before_counts (Err c) p lines size room len le h = stopped_counts (Line c) (lines + 1) ((len + 1) + size) room (λ e. cc)

pub told_counts : {V C : Type 0} (told : List ℕ → Result V C) (room : ℕ) (lines : List (List ℕ))
    → Counts (lines_told told room lines) (length lines) (size_of lines) room
told_counts told room [] =
    record { all = λ e. refl; fits = λ e. omega arith; few = omega arith; of_no_reader = λ e. cc }
told_counts {V} {C} told room (line ∷ lines) =
    at (told_counts told (room - (length line + 1)) lines) (passes_limit room line true) refl
  where
    rest : PartTold V C
    rest = lines_told told (room - (length line + 1)) lines

    at : Counts rest (length lines) (size_of lines) (room - (length line + 1)) → (over : Bool)
        → passes_limit room line true ≡ over
        → Counts (cond over (stopped (Input TooLong)) (before (told line) rest)) (length (line ∷ lines))
        (size_of (line ∷ lines)) room
    at inner true is = stopped_counts (Input TooLong) (length (line ∷ lines)) (size_of (line ∷ lines)) room (λ e. cc)
    at inner false is =
        let h =
        before_counts (told line) rest (length lines) (size_of lines) room (length line) (room_for room line is)
        inner in
        record {
          all = λ e. let n = h.all e in omega (arith, n);
          fits = h.fits;
          few = omega (arith, h.few);
          of_no_reader = h.of_no_reader;
        }

-- ---- what is told of a part, put into a value

-- a result that went on, and one that did not
pub bind_ok : {A B E : Type 0} (x : Result A E) (f : A → Result B E) (b : B) → (x >>= f) ≡ Ok b
    → (a : A) × (x ≡ Ok a) × (f a ≡ Ok b)
bind_ok (Ok a) f b e = (a, refl, e)
bind_ok (Err c) f b e = absurd cc

pub bind_err : {A B E : Type 0} (x : Result A E) (f : A → Result B E) (c : E) → (x >>= f) ≡ Err c
    → (x ≡ Err c) ⊎ ((a : A) × (x ≡ Ok a) × (f a ≡ Err c))
bind_err (Ok a) f c e = inr (a, refl, e)
bind_err (Err d) f c e = inl (cc)

module _ {S V C : Type 0} (put : ℕ → S → V → Result S C) where
  -- where all was put in, nothing was refused
  pub put_ok : (n : ℕ) (s t : S) (vs : List V) (fault : Option (Stop C)) → put_values put n s vs fault ≡ Ok t
      → fault ≡ None
  put_ok n s t [] None e = refl
  put_ok n s t [] (Some stop) e = absurd cc
  put_ok n s t (v ∷ vs) fault e =
      let h =
      bind_ok (at_line n (put n s v)) (λ u. put_values put (n + 1) u vs fault) t e in put_ok (n + 1) h.0 t vs fault h.2

  at_line_stop : (n : ℕ) (r : Result S C) (e : LineFault C) → at_line n r ≡ Err e → e.stop ≢ Input Read
  at_line_stop n (Ok s) e is = absurd cc
  at_line_stop n (Err c) e is = λ h. cc (is, h)

  -- no value is refused as the reader's failure
  pub put_stop : (n : ℕ) (s : S) (vs : List V) (fault : Option (Stop C)) (e : LineFault C)
      → fault ≢ Some (Input Read) → put_values put n s vs fault ≡ Err e → e.stop ≢ Input Read
  put_stop n s [] None e other is = absurd cc
  put_stop n s [] (Some stop) e other is =
      λ h. other (let same : stop ≡ e.stop = cc in ap (λ (x : Stop C). Some x) (same ∙ h))
  put_stop n s (v ∷ vs) fault e other is =
      elim (bind_err (at_line n (put n s v)) (λ u. put_values put (n + 1) u vs fault) e is) [
        | inl here ↦ at_line_stop n (put n s v) e here
        | inr later ↦ put_stop (n + 1) later.0 vs fault e other later.2
      ]

module _ {S V C : Type 0} (told : List ℕ → Result V C) (put : ℕ → S → V → Result S C) where
  moved : (whole : Bool) (n m room left : ℕ) (s : S) (ys : List (List ℕ)) → n ≡ m → room ≡ left
      → read_from (taken_by told put) whole n room s ys ≡ read_from (taken_by told put) whole m left s ys
  moved whole n m room left s ys e f =
      ap (λ (k : ℕ). read_from (taken_by told put) whole k room s ys) e
      ∙ ap (λ (k : ℕ). read_from (taken_by told put) whole m k s ys) f

  -- Lines that others follow make of a value what they say, put into it; the others are read from there.
  pub by_lines : (whole : Bool) (n room : ℕ) (s : S) (xs ys : List (List ℕ)) → 0 < length ys
      → read_from (taken_by told put) whole n room s (xs ++ ys)
      ≡ (put_part put n s (lines_told told room xs) >>= λ t. read_from (taken_by told put) whole (n + length xs)
      (room - size_of xs) t ys)
  by_lines whole n room s [] ys some = moved whole n (n + 0) room (room - 0) s ys (omega arith) (omega arith)
  by_lines whole n room s (x ∷ xs) ys some =
      let more : eqb (length (xs ++ ys)) 0 ≡ false =
      ne_eqb (length (xs ++ ys)) 0 (λ e. omega (arith, length-append xs ys, e, some)) in
      rw (more, and_false (not whole))
      (at (λ t. by_lines whole (n + 1) (room - (length x + 1)) t xs ys some) (passes_limit room x true) (told x))
    where
      p : PartTold V C
      p = lines_told told (room - (length x + 1)) xs

      f : S → Result S (LineFault C)
      f t = read_from (taken_by told put) whole (n + 1) (room - (length x + 1)) t (xs ++ ys)

      g : S → Result S (LineFault C)
      g t = read_from (taken_by told put) whole (n + length (x ∷ xs)) (room - size_of (x ∷ xs)) t ys

      at : ((t : S) → f t ≡ (put_part put (n + 1) t p >>= λ u. read_from (taken_by told put) whole
          ((n + 1) + length xs) ((room - (length x + 1)) - size_of xs) u ys)) → (over : Bool) (said : Result V C)
          → cond over (Err (record { line = n; stop = Input TooLong })) (at_line n (said >>= λ v. put n s v) >>= f)
          ≡ (put_part put n s (cond over (stopped (Input TooLong)) (before said p)) >>= g)
      at h true said = refl
      at h false (Err c) = refl
      at h false (Ok v) =
          bind_same (at_line n (put n s v)) f (λ t. put_part put (n + 1) t p >>= g)
          (λ t. h t ∙ bind_same (put_part put (n + 1) t p) _ g
          (λ u. moved whole ((n + 1) + length xs) (n + length (x ∷ xs)) ((room - (length x + 1)) - size_of xs)
          (room - size_of (x ∷ xs)) u ys (omega arith) (omega arith)))
          ∙ sym (bind_bind (at_line n (put n s v)) (λ t. put_part put (n + 1) t p) g)

  -- a block's part, where it has this room
  part_of : (room : ℕ) (b : Block) → b.room ≡ room
      → Counts (block_told told b) (length (lines_of b.bytes.now)) (size_of (lines_of b.bytes.now)) room
  part_of room b is = rw (sym is) (told_counts told b.room (lines_of b.bytes.now))

  -- the same of the lines of blocks
  pub by_blocks : (whole : Bool) (n room : ℕ) (s : S) (bs : List Block) (ys : List ℕ) → AreBlocks room bs
      → read_from (taken_by told put) whole n room s (parts (joined (bytes_in bs) ++ ys))
      ≡ (put_parts put n s (map (block_told told) bs) >>= λ t. read_from (taken_by told put) whole
      (n + lines_in (bytes_in bs)) (room - length (joined (bytes_in bs))) t (parts ys))
  by_blocks whole n room s [] ys h = moved whole n (n + 0) room (room - 0) s (parts ys) (omega arith) (omega arith)
  by_blocks whole n room s (b ∷ bs) ys h =
      let bytes : List ℕ = b.bytes.now in
      let rest : List ℕ = joined (bytes_in bs) in
      let p : PartTold V C = block_told told b in
      let size : size_of (lines_of bytes) ≡ length bytes = size_of_whole bytes h.1 in
      let g : S → Result S (LineFault C) =
      λ t. read_from (taken_by told put) whole (n + lines_in (bytes_in (b ∷ bs)))
      (room - length (joined (bytes_in (b ∷ bs)))) t (parts ys) in
      let step : S → Result S (LineFault C) =
      λ t. read_from (taken_by told put) whole (n + length (lines_of bytes)) (room - size_of (lines_of bytes)) t
      (parts (rest ++ ys)) in
      ap (λ (l : List ℕ). read_from (taken_by told put) whole n room s (parts l)) (append_assoc bytes rest ys)
      ∙ ap (read_from (taken_by told put) whole n room s) (lines_behind bytes (rest ++ ys) h.1)
      ∙ by_lines whole n room s (lines_of bytes) (parts (rest ++ ys)) (some_part (rest ++ ys))
      ∙ ap (λ (k : ℕ). put_part put n s (lines_told told k (lines_of bytes)) >>= step) (sym h.0)
      ∙ bind_kept (put_part put n s p) step
      (λ t. put_parts put (n + length p.values) t (map (block_told told) bs) >>= g) (λ t is.
      let count : length p.values ≡ length (lines_of bytes) =
      (part_of room b h.0).all (put_ok put n s t p.values p.fault is) in
      moved whole (n + length (lines_of bytes)) (n + length p.values) (room - size_of (lines_of bytes))
      (room - length bytes) t (parts (rest ++ ys)) (omega (arith, count)) (omega (arith, size))
      ∙ by_blocks whole (n + length p.values) (room - length bytes) t bs ys h.2
      ∙ bind_same (put_parts put (n + length p.values) t (map (block_told told) bs)) _ g (λ u.
      moved whole ((n + length p.values) + lines_in (bytes_in bs)) (n + lines_in (bytes_in (b ∷ bs)))
      ((room - length bytes) - length rest) (room - length (joined (bytes_in (b ∷ bs)))) u (parts ys)
      (omega (arith, count)) (omega (arith, length-append bytes rest))))
      ∙ sym (bind_bind (put_part put n s p) (λ t. put_parts put (n + length p.values) t (map (block_told told) bs)) g)

  -- blocks that were put in had room
  pub blocks_fit : (n room : ℕ) (s t : S) (bs : List Block) → AreBlocks room bs
      → put_parts put n s (map (block_told told) bs) ≡ Ok t → length (joined (bytes_in bs)) ≤ room
  blocks_fit n room s t [] h e = omega arith
  blocks_fit n room s t (b ∷ bs) h e =
      let p : PartTold V C = block_told told b in
      let k =
      bind_ok (put_part put n s p) (λ u. put_parts put (n + length p.values) u (map (block_told told) bs)) t e in
      let here = (part_of room b h.0).fits (put_ok put n s k.0 p.values p.fault k.1) in
      let later = blocks_fit (n + length p.values) (room - length b.bytes.now) k.0 t bs h.2 k.2 in
      omega (arith, here, later, size_of_whole b.bytes.now h.1, length-append b.bytes.now (joined (bytes_in bs)))

  -- no block is refused as the reader's failure
  pub blocks_stop : (n room : ℕ) (s : S) (bs : List Block) (e : LineFault C) → AreBlocks room bs
      → put_parts put n s (map (block_told told) bs) ≡ Err e → e.stop ≢ Input Read
  blocks_stop n room s [] e h is = absurd cc
  blocks_stop n room s (b ∷ bs) e h is =
      let p : PartTold V C = block_told told b in
      elim (bind_err (put_part put n s p) (λ u. put_parts put (n + length p.values) u (map (block_told told) bs)) e
      is) [
        | inl here ↦ put_stop put n s p.values p.fault e (part_of room b h.0).of_no_reader here
        | inr later ↦ blocks_stop (n + length p.values) (room - length b.bytes.now) later.0 bs e h.2 later.2
      ]

-- how many lines stand in blocks, and behind them
pub lines_counted : (room : ℕ) (bs : List Block) (ys : List ℕ) → AreBlocks room bs
    → length (parts (joined (bytes_in bs) ++ ys)) ≡ lines_in (bytes_in bs) + length (parts ys)
lines_counted room [] ys h = omega arith
lines_counted room (b ∷ bs) ys h =
    let bytes : List ℕ = b.bytes.now in
    let rest : List ℕ = joined (bytes_in bs) in
    let all : length (parts ((bytes ++ rest) ++ ys)) ≡ length (lines_of bytes ++ parts (rest ++ ys)) =
    ap (λ (l : List ℕ). length (parts l)) (append_assoc bytes rest ys)
    ∙ ap length (lines_behind bytes (rest ++ ys) h.1) in
    omega (
      arith,
      all,
      length-append (lines_of bytes) (parts (rest ++ ys)),
      lines_counted (room - length bytes) bs ys
          h.2,
    )

-- there are no more lines than bytes
pub lines_few : (room : ℕ) (bs : List Block) → AreBlocks room bs
    → lines_in (bytes_in bs) ≤ length (joined (bytes_in bs))
lines_few room [] h = omega arith
lines_few room (b ∷ bs) h =
    omega (
      arith,
      few_lines (lines_of b.bytes.now),
      size_of_whole b.bytes.now h.1,
      lines_few
          (room - length b.bytes.now) bs h.2,
      length-append b.bytes.now (joined (bytes_in bs)),
    )

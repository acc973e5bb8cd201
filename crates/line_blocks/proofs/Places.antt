-- Where whole lines lead to, and where they stop.
use Rattle.std.proofs.Common.{◌≡◌, ℕ, ◌+◌, ◌-◌, ◌^◌, ◌≤◌, inl, inr, Bool, true, List, [], ◌++◌, length, map, Result, Ok, Err, arith, sym, ap, refl, subst, ◌∙◌, append_assoc, append-nil}
use Rattle.refusals.specs.Refusals.{◌>>=◌}
use Rattle.json_lines.specs.Reading.{parts, read_from, Fails}
use Rattle.json_lines.specs.declared.lines.InputFault.TheVariants.{OutOfMemory, Read, TooLong}
use Rattle.json_lines.specs.declared.reading.LineFault.{LineFault}
use Rattle.json_lines.specs.declared.reading.Stop.{Stop}
use Rattle.json_lines.specs.declared.reading.Stop.TheVariants.{Input, Line}
use Rattle.json_lines.specs.SoFar.{GoesFrom}
use Rattle.line_blocks.specs.Blocks.{joined, lines_in}
use Rattle.line_blocks.specs.Parts.{put_parts, taken_by}
use Rattle.line_blocks.specs.Reads.{LeadsTo, StopsAt}
use Rattle.line_blocks.specs.Values.{IsCut, PutsAs, block_told, bytes_in, no_memory}
use Rattle.line_blocks.specs.declared.blocks.Block.{Block}
use Rattle.line_blocks.specs.declared.reading.Place.{Place}
use Rattle.line_blocks.proofs.Parts.{blocks_fit, blocks_stop, by_blocks, lines_counted}
use Rattle.line_blocks.proofs.WholeLines.{few_parts, some_part}

-- a fault of memory is told of any bytes
memory_fails : {S C : Type 0} (stop : Stop C) (e : LineFault C) (read : Result S (LineFault C))
    → stop ≡ Input OutOfMemory → Fails stop e read
memory_fails stop e read is = subst (λ (x : Stop _). Fails x e read) (sym is) tt

read_fails : {S C : Type 0} (stop : Stop C) (e : LineFault C) (read : Result S (LineFault C)) → read ≡ Err e
    → Fails stop e read
read_fails (Line c) e read is = is
read_fails (Input TooLong) e read is = is
read_fails (Input Read) e read is = tt
read_fails (Input OutOfMemory) e read is = tt

module _ {S V C : Type 0} (told : List ℕ → Result V C) (put : ℕ → S → V → Result S C) (from : Place) (s : S)
    (lines : List ℕ) (bs : List Block) (cut : IsCut from.room lines bs) where
  -- what the lines of the blocks say, put in, and then what stands behind them
  in_blocks : (whole : Bool) (ys : List ℕ)
      → read_from (taken_by told put) whole from.number from.room s (parts (lines ++ ys))
      ≡ (put_parts put from.number s (map (block_told told) bs) >>= λ t. read_from (taken_by told put) whole
      (from.number + lines_in (bytes_in bs)) (from.room - length (joined (bytes_in bs))) t (parts ys))
  in_blocks whole ys =
      ap (λ (l : List ℕ). read_from (taken_by told put) whole from.number from.room s (parts (l ++ ys))) (sym cut.0)
      ∙ by_blocks told put whole from.number from.room s bs ys cut.1

  lines_here : (ys : List ℕ) → length (parts (lines ++ ys)) ≡ lines_in (bytes_in bs) + length (parts ys)
  lines_here ys = ap (λ (l : List ℕ). length (parts (l ++ ys))) (sym cut.0) ∙ lines_counted from.room bs ys cut.1

  pub leads : (t : S) (to : Place) → put_parts put from.number s (map (block_told told) bs) ≡ Ok t
      → to.number ≡ from.number + lines_in (bytes_in bs) → to.room ≡ from.room - length lines
      → LeadsTo (taken_by told put) from s lines to t
  leads t to is number room =
      let size : length (joined (bytes_in bs)) ≡ length lines = ap length cut.0 in
      record {
        same = λ whole ys.
            in_blocks whole ys
            ∙ ap (λ (x : Result S (LineFault C)). x
            >>= (λ (u : S). read_from (taken_by told put) whole (from.number + lines_in (bytes_in bs))
            (from.room - length (joined (bytes_in bs))) u (parts ys))) is
            ∙ ap (λ (k : ℕ). read_from (taken_by told put) whole k (from.room - length (joined (bytes_in bs))) t
            (parts ys)) (sym number)
            ∙ ap (λ (k : ℕ). read_from (taken_by told put) whole to.number k t (parts ys))
            (let e : from.room - length (joined (bytes_in bs)) ≡ to.room = omega (arith, size, room) in e);
        counted = λ ys. omega (arith, lines_here ys, number);
        room = omega (arith, size, room, blocks_fit told put from.number from.room s t bs cut.1 is);
      }

  pub stops : (t : S) (e : LineFault C)
      → PutsAs {T = ℕ} (Err e) t (put_parts put from.number s (map (block_told told) bs))
      → (from.number ≤ e.line) × (e.line ≤ from.number + lines_in (bytes_in bs))
      → StopsAt (taken_by told put) from s lines e
  stops t e (inl memory) line =
      record {
        fails = λ ys. memory_fails e.stop e _ memory;
        begins = line.0;
        line = λ ys. omega (arith, line.1, lines_here ys, some_part ys);
        of_no_reader = λ h. cc (memory, h);
      }
  stops t e (inr is) line =
      record {
        fails = λ ys. read_fails e.stop e _
            (in_blocks true ys ∙ ap (λ (x : Result S (LineFault C)). x
            >>= (λ (u : S). read_from (taken_by told put) true (from.number + lines_in (bytes_in bs))
            (from.room - length (joined (bytes_in bs))) u (parts ys))) is);
        begins = line.0;
        line = λ ys. omega (arith, line.1, lines_here ys, some_part ys);
        of_no_reader = blocks_stop told put from.number from.room s bs e cut.1 is;
      }

module _ {S C : Type 0} (taken : ℕ → S → List ℕ → Result S C) (from : Place) (s : S) where
  -- memory ran out at the first line
  pub no_memory_first : (bytes : List ℕ) → StopsAt taken from s bytes (no_memory from.number)
  no_memory_first bytes =
      record {
        fails = λ ys. tt;
        begins = omega arith;
        line = λ ys. omega (arith, some_part (bytes ++ ys));
        of_no_reader = λ h. cc;
      }

  -- or behind whole lines
  pub no_memory_behind : (bytes lines left : List ℕ) (to : Place) (t : S) → bytes ≡ lines ++ left
      → LeadsTo taken from s lines to t → StopsAt taken from s bytes (no_memory to.number)
  no_memory_behind bytes lines left to t is leads =
      record {
        fails = λ ys. tt;
        begins =
            let none : length (parts []) ≡ 1 = refl in omega (arith, leads.counted [], some_part (lines ++ []), none);
        line = λ ys.
            let all : length (parts (bytes ++ ys)) ≡ length (parts (lines ++ (left ++ ys))) =
            ap (λ (l : List ℕ). length (parts (l ++ ys))) is
            ∙ ap (λ (l : List ℕ). length (parts l)) (append_assoc lines left ys) in
            omega (arith, all, leads.counted (left ++ ys), some_part (left ++ ys));
        of_no_reader = λ h. cc;
      }

  -- whole lines that stop do so whatever stands behind them
  pub stops_within : (bytes lines left : List ℕ) (e : LineFault C) → bytes ≡ lines ++ left
      → StopsAt taken from s lines e → StopsAt taken from s bytes e
  stops_within bytes lines left e is h =
      let all : (ys : List ℕ) → lines ++ (left ++ ys) ≡ bytes ++ ys =
      λ ys. sym (append_assoc lines left ys) ∙ ap (λ (l : List ℕ). l ++ ys) (sym is) in
      record {
        fails =
            λ ys. subst (λ (l : List ℕ). Fails e.stop e (read_from taken true from.number from.room s (parts l)))
            (all ys) (h.fails (left ++ ys));
        begins = h.begins;
        line = λ ys. omega (arith, h.line (left ++ ys), ap (λ (l : List ℕ). length (parts l)) (all ys));
        of_no_reader = h.of_no_reader;
      }

  -- there are no more lines than bytes
  pub few_on : (lines : List ℕ) (to : Place) (t : S) → LeadsTo taken from s lines to t
      → to.number + to.room ≤ from.number + from.room
  few_on lines to t h = omega (arith, h.counted [], h.room, few_parts (lines ++ []), ap length (append-nil lines))

-- what was read before, and whole lines behind it
pub goes_lines : {S C : Type 0} (taken : ℕ → S → List ℕ → Result S C) (start : S) (from : Place) (s : S)
    (used lines : List ℕ) (to : Place) (t : S)
    → GoesFrom taken start from.number from.room s used → LeadsTo taken from s lines to t
    → GoesFrom taken start to.number to.room t (used ++ lines)
goes_lines taken start from s used lines to t goes h =
    record {
      same =
          λ whole ys. ap (λ (l : List ℕ). read_from taken whole 1 (2 ^ 30) start (parts l))
          (append_assoc used lines ys) ∙ goes.same whole (lines ++ ys) ∙ h.same whole ys;
      counted =
          λ ys. omega (
            arith,
            ap (λ (l : List ℕ). length (parts l)) (append_assoc used lines ys),
            goes.counted
                (lines ++ ys),
            h.counted ys,
          );
    }

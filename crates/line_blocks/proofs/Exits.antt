-- What reading by blocks answers, from where it has come to.
use Rattle.std.proofs.Common.{◌≡◌, ◌≢◌, ℕ, ◌+◌, ◌^◌, ◌<◌, ◌≤◌, min, true, false, List, [], ◌++◌, length, Option, Result, Ok, Err, IfErr, OnOk, arith, refl, sym, ap, subst, ◌∙◌, append_assoc, append-nil, length-append}
use Rattle.devices.specs.Given.{OfBytes, AreNext}
use Rattle.json_lines.specs.InputRead.{LinesRead}
use Rattle.json_lines.specs.Lines.{ComeAtMost, Takes, lacks}
use Rattle.json_lines.specs.Reading.{parts, passes_limit, read_all, read_from, Fails, HasLine, Refuses}
use Rattle.json_lines.specs.declared.lines.InputFault.{InputFault}
use Rattle.json_lines.specs.declared.lines.InputFault.TheVariants.{OutOfMemory, Read, TooLong}
use Rattle.json_lines.specs.declared.reading.LineFault.{LineFault}
use Rattle.json_lines.specs.declared.reading.Stop.{Stop}
use Rattle.json_lines.specs.declared.reading.Stop.TheVariants.{Input, Line}
use Rattle.json_lines.specs.SoFar.{GoesFrom}
use Rattle.json_lines.proofs.Folds.{came_in_all, cut_ends, from_one, last_ends, line_came, read_fails, step_cut, within_from}
use Rattle.devices.proofs.Given.{next-trans}
use Rattle.line_blocks.specs.Reads.{LeadsTo, StopsAt}
use Rattle.line_blocks.specs.Values.{long_line}
use Rattle.line_blocks.specs.declared.reading.Place.{Place}
use Rattle.line_blocks.proofs.Places.{few_on, goes_lines}

module _ {R S C : Type 0} (given : R → List ℕ) (ends failures : R → ℕ) (remaining : R → Option (List ℕ))
    (taken : ℕ → S → List ℕ → Result S C) (old : R) (start : S) where
  -- all whole lines that came are read, and what came behind them is no more than a line may be
  pub record Ahead (reader : R) (value : S) (place : Place) (bytes : List ℕ) (turn : ℕ) : Type 0 where
    pub used : List ℕ
    pub came : given reader ≡ (given old ++ used) ++ bytes
    pub size : length used + place.room ≡ 2 ^ 30
    pub goes : GoesFrom taken start place.number place.room value used
    pub lacking : lacks bytes ≡ true
    pub short : length bytes ≤ min place.room (2 ^ 20)
    pub few : place.number + place.room ≤ 2 ^ 30 + 1
    pub turns : turn + place.room ≤ 2 ^ 30 + length bytes
    pub known : AreNext given ends remaining old reader
    pub going : ends reader ≡ ends old
    pub kept : failures reader ≡ failures old

  module _ (reader : R) (value : S) (place : Place) (bytes : List ℕ) (turn : ℕ)
      (a : Ahead reader value place bytes turn) (new : R)
      (most : ComeAtMost (place.room + 65536) (given reader) (given new) bytes)
      (next : AreNext given ends remaining reader new) where
    came_few : OfBytes given old new (λ came. length came ≤ 2 ^ 30 + 65536)
    came_few =
        came_in_all given old new (2 ^ 30) place.room place.room 65536 a.used (omega (arith, a.size)) (omega arith)
        (most (given old ++ a.used) a.came)

    came_next : AreNext given ends remaining old new
    came_next = next-trans given ends remaining old reader new a.known next

    line_there : OfBytes given old new (λ came. HasLine came place.number)
    line_there =
        let b =
        most (given old ++ a.used) a.came in line_came taken start given old new place.number place.room value a.used
        b.0 a.goes b.1

    -- no more came: the reader failed, or memory ran out
    pub none_came : {T : Type 0} (now : S) (fault : InputFault) → fault ≢ TooLong
        → (fault ≡ Read → given new ≡ given reader) → (fault ≡ Read → failures new ≡ failures reader + 1)
        → (fault ≢ Read → failures new ≡ failures reader)
        → LinesRead {T = T} given ends failures remaining taken old new start now
        (Err (record { line = place.number; stop = Input fault }))
    none_came now fault short cut failed kept =
        let b = most (given old ++ a.used) a.came in
        record {
          exact =
              cut_ends taken start given ends old new place.number place.room value a.used b.0 fault a.goes b.1
              (λ e. absurd (short e));
          failed = λ e.
              let read : fault ≡ Read = cc in
              subst (λ (f : InputFault). OfBytes given old new
              (λ came. read_all taken false start came ≡ Err (record { line = place.number; stop = Input f })))
              (sym read)
              (read_fails taken start given ends old new place.number place.room value a.used bytes a.goes
              (cut read ∙ a.came ∙ ap (λ (l : List ℕ). (given old ++ a.used) ++ l) (sym (append-nil bytes)))
              a.lacking a.short);
          ended = tt;
          most = came_few;
          known = came_next;
          line = line_there;
          counted = λ e. let read : fault ≡ Read = cc in failed read ∙ ap (λ (n : ℕ). n + 1) a.kept;
          kept = tt;
          unfailed = λ other. kept (λ (e : fault ≡ Read). other (ap (λ (f : InputFault). Input f) e)) ∙ a.kept;
        }

    module _ (all : List ℕ) (takes : Takes (given reader) (given new) bytes all [])
        (same_fails : failures new ≡ failures reader) where
      now_there : given new ≡ (given old ++ a.used) ++ all
      now_there = takes (given old ++ a.used) a.came

      -- a line was refused, or memory ran out
      pub stopped_at : {T : Type 0} (now : S) (e : LineFault C) → StopsAt taken place value all e
          → LinesRead {T = T} given ends failures remaining taken old new start now (Err e)
      unfolding read_all
      stopped_at now e h =
          record {
            exact = (
              a.used ++ all,
              now_there ∙ append_assoc (given old) a.used all,
              λ rest ended. subst (λ (r : Result S (LineFault C)). Fails e.stop e r) (sym (says rest)) (h.fails rest),
            );
            failed = λ read. absurd (h.of_no_reader read);
            ended = tt;
            most = came_few;
            known = came_next;
            line = (
              a.used ++ all,
              now_there ∙ append_assoc (given old) a.used all,
              (
                omega (arith, h.begins, from_one taken start place.number place.room value a.used a.goes),
                omega (arith, a.goes.counted all, h.line [], ap (λ (l : List ℕ). length (parts l)) (append-nil all)),
              ),
            );
            counted = λ read. absurd (h.of_no_reader read);
            kept = tt;
            unfailed = λ _. same_fails ∙ a.kept;
          }
        where
          says : (rest : List ℕ) → read_all taken true start ((a.used ++ all) ++ rest) ≡ read_from taken true
              place.number place.room value (parts (all ++ rest))
          says rest =
              ap (λ (l : List ℕ). read_from taken true 1 (2 ^ 30) start (parts l)) (append_assoc a.used all rest)
              ∙ a.goes.same true (all ++ rest)

      module _ (lines left : List ℕ) (to : Place) (t : S) (split : all ≡ lines ++ left)
          (h : LeadsTo taken place value lines to t) where
        there : given new ≡ (given old ++ (a.used ++ lines)) ++ left
        there =
            now_there ∙ ap (λ (l : List ℕ). (given old ++ a.used) ++ l) split
            ∙ sym (append_assoc (given old ++ a.used) lines left)
            ∙ ap (λ (l : List ℕ). l ++ left) (append_assoc (given old) a.used lines)

        goes_now : GoesFrom taken start to.number to.room t (a.used ++ lines)
        goes_now = goes_lines taken start place value a.used lines to t a.goes h

        -- all whole lines are read
        pub goes_on : lacks left ≡ true → length left ≤ min to.room (2 ^ 20) → length bytes < length all
            → ends new ≡ ends reader → Ahead new t to left (turn + 1)
        goes_on lacking short more going =
            record {
              used = a.used ++ lines;
              came = there;
              size = omega (arith, length-append a.used lines, h.room, a.size);
              goes = goes_now;
              lacking = lacking;
              short = short;
              few = omega (arith, few_on taken place value lines to t h, a.few);
              turns = omega (arith, a.turns, h.room, ap length split, length-append lines left, more);
              known = came_next;
              going = going ∙ a.going;
              kept = same_fails ∙ a.kept;
            }

        -- what stands behind them is longer than a line may be
        pub too_long : {T : Type 0} (now : S) → lacks left ≡ true → min to.room (2 ^ 20) < length left
            → LinesRead {T = T} given ends failures remaining taken old new start now (Err (long_line to.number))
        too_long now lacking over =
            let behind : given new ≡ (given old ++ (a.used ++ lines)) ++ (left ++ []) =
            there ∙ ap (λ (l : List ℕ). (given old ++ (a.used ++ lines)) ++ l) (sym (append-nil left)) in
            record {
              exact =
                  cut_ends taken start given ends old new to.number to.room t (a.used ++ lines) left TooLong goes_now
                  there (λ _. (left, [], behind, lacking, over));
              failed = λ e. cc;
              ended = tt;
              most = came_few;
              known = came_next;
              line = line_came taken start given old new to.number to.room t (a.used ++ lines) left goes_now there;
              counted = λ e. cc;
              kept = tt;
              unfailed = λ _. same_fails ∙ a.kept;
            }

      -- the reader is at its end
      module _ (same_bytes : all ≡ bytes) (end : ends new ≡ ends reader + 1) where
        last_there : given new ≡ (given old ++ a.used) ++ ((bytes ++ []) ++ [])
        last_there =
            now_there ∙ ap (λ (l : List ℕ). (given old ++ a.used) ++ l)
            (same_bytes ∙ sym (append-nil (bytes ++ []) ∙ append-nil bytes))

        at_end : ends old < ends new
        at_end = omega (arith, end, a.going)

        within : passes_limit place.room bytes false ≡ false
        within = within_from place.room bytes false a.short refl

        last_taken : (now : S) → taken place.number value bytes ≡ Ok now
            → LinesRead {T = Unit {0}} given ends failures remaining taken old new start now (Ok tt)
        last_taken now is =
            record {
              exact =
                  last_ends taken start given ends old new place.number place.room value a.used bytes [] now a.goes
                  last_there a.lacking refl at_end within is;
              failed = tt;
              ended = end ∙ ap (λ (n : ℕ). n + 1) a.going;
              most = came_few;
              known = came_next;
              line = tt;
              counted = tt;
              kept = same_fails ∙ a.kept;
              unfailed = tt;
            }

        last_refused : {T : Type 0} (now : S) (stop : Stop C) → Refuses (taken place.number value bytes) stop
            → LinesRead {T = T} given ends failures remaining taken old new start now
            (Err (record { line = place.number; stop = stop }))
        last_refused now stop refuses =
            let other : stop ≢ Input Read = no_reader stop refuses in
            record {
              exact =
                  step_cut taken start given ends old new place.number place.room value a.used bytes false [] stop
                  a.goes last_there a.lacking (λ _. (refl, at_end)) within refuses;
              failed = λ e. absurd (other e);
              ended = tt;
              most = came_few;
              known = came_next;
              line = line_there;
              counted = λ e. absurd (other e);
              kept = tt;
              unfailed = λ _. same_fails ∙ a.kept;
            }
          where
            no_reader : (x : Stop C) → Refuses (taken place.number value bytes) x → x ≢ Input Read
            no_reader (Line c) h = λ e. cc
            no_reader (Input OutOfMemory) h = λ e. cc
            no_reader (Input Read) h = λ e. absurd h
            no_reader (Input TooLong) h = λ e. absurd h

        pub last_read : (now : S) (r : Result (Unit {0}) (LineFault C))
            → OnOk r (taken place.number value bytes ≡ Ok now)
            → IfErr r (λ e. (e.line ≡ place.number) × Refuses (taken place.number value bytes) e.stop)
            → LinesRead given ends failures remaining taken old new start now r
        last_read now (Ok tt) is none = last_taken now is
        last_read now (Err e) none h =
            subst (λ (n : ℕ). LinesRead {T = Unit {0}} given ends failures remaining taken old new start now
            (Err (record { line = n; stop = e.stop }))) (sym h.0) (last_refused now e.stop h.1)

use Rattle.std.proofs.Common.{◌≡◌, ◌+◌, [], Ok, Err, ◌∙◌, sym, refl, ap, arith, ℕ, List, ◌++◌, length, ◌≤◌, ◌^◌, min, true, false, ◌&&◌, eqb, append_assoc, append-nil, length-append}
use Rattle.devices.proofs.Given.{next-trans}
use Rattle.json_lines.specs.Json.{taken_line}
use Rattle.json_lines.specs.Lines.{line_ending}
use Rattle.json_lines.specs.declared.lines.InputFault.TheVariants.{TooLong}
use Rattle.json_lines.specs.declared.reading.Stop.TheVariants.{Input}
use Rattle.json_lines.proofs.Counts.{counts_all}
use Rattle.json_lines.proofs.Exits.{no_error, same_error, same_fault, no_long_fault}
use Rattle.json_lines.proofs.Folds.{Within, from_one, within_from, room_left, came_in_all, goes_on, cut_ends, over_ends, step_cut, last_ends, read_fails}
use Rattle.json_lines.proofs.LinesReads.{stops}
use Rattle.json_lines.proofs.next.LineReader.take_next.Goals as goal
use Rattle.json_lines.proofs.next.LineReader.take_next.Goals.{then-more, else-more}

pub returns-in-Err-clause-read : goal.returns-in-Err-clause-read
returns-in-Err-clause-read g c _ first start so_far =
    let came = c.next.ensures.most (g.R.Source.given first ++ so_far.used) so_far.gave in
    stops g.R.Source.given g.R.Source.ends g.R.Source.failures g.R.Read.remaining
    (taken_line g.T.Cause.LineCause.not_json g.T.TakeJson.taken) first
    c.args.reader.now c.next.new.reader start c.args.value.now c.args.value.now c.args.self.now
    c.min.result so_far c.next.ensures.most (omega (arith, c.min.ensures)) c.next.ensures.known (Input c.in-Err.fault)
    (cut_ends (taken_line g.T.Cause.LineCause.not_json g.T.TakeJson.taken) start
    g.R.Source.given g.R.Source.ends first c.next.new.reader c.args.self.now.number c.args.self.now.room
    c.args.value.now so_far.used came.0 c.in-Err.fault so_far.follows came.1
    (λ e. rw (← c.min.ensures) (c.next.ensures.long (cc (e)) (g.R.Source.given first ++ so_far.used) so_far.gave)))
    (λ e.
    let cut = c.next.ensures.cut (c.in-Err.is ∙ ap Err (same_fault _ _ _ refl e)) in
    rw e (read_fails (taken_line g.T.Cause.LineCause.not_json g.T.TakeJson.taken) start
    g.R.Source.given g.R.Source.ends first c.next.new.reader c.args.self.now.number c.args.self.now.room
    c.args.value.now so_far.used c.next.new.line.items so_far.follows
    (cut.0 (g.R.Source.given first ++ so_far.used) so_far.gave) cut.1
    (omega (arith, cut.2, c.next.new.line.ok.0, c.min.ensures))))
    (λ e. c.next.ensures.failed (c.in-Err.is ∙ ap Err (same_fault _ _ _ refl e)) ∙ ap (λ (n : ℕ). n + 1) so_far.kept)
    (λ n. c.next.ensures.kept (λ e. n (ap Input (same_error _ _ _ c.in-Err.is e))) ∙ so_far.kept)

pub returns-then-is_over-clause-read : goal.returns-then-is_over-clause-read
returns-then-is_over-clause-read g c _ first start so_far =
    let len : length c.next.new.line.items ≡ c.len.result = omega (arith, c.len.ensures, c.next.new.line.ok.0) in
    let going = so_far.going in
    stops g.R.Source.given g.R.Source.ends g.R.Source.failures g.R.Read.remaining
    (taken_line g.T.Cause.LineCause.not_json g.T.TakeJson.taken) first
    c.args.reader.now c.next.new.reader start c.args.value.now c.args.value.now c.args.self.now
    c.min.result so_far c.next.ensures.most (omega (arith, c.min.ensures)) c.in-Ok.ensures.known (Input TooLong)
    (over_ends (taken_line g.T.Cause.LineCause.not_json g.T.TakeJson.taken) start
    g.R.Source.given g.R.Source.ends first c.next.new.reader c.args.self.now.number c.args.self.now.room
    c.args.value.now so_far.used c.next.new.line.items c.in-Ok.more c.next.new.self
    so_far.follows (c.in-Ok.ensures.line.1 (g.R.Source.given first ++ so_far.used) so_far.gave) c.in-Ok.ensures.line.0
    (λ no. (c.next.ensures.last (c.in-Ok.is ∙ ap Ok no), let stopped = rw no at c.in-Ok.ensures.ends in omega (arith, stopped, going)))
    (rw len (sym c.is_over.ensures ∙ c.if-is_over.true)))
    (λ e. absurd (no_long_fault _ refl e))
    (λ e. absurd (no_long_fault _ refl e))
    (λ _. c.next.ensures.kept (λ e. no_error _ _ _ c.in-Ok.is e) ∙ so_far.kept)

pub returns-in-Err-take_line-clause-read : goal.returns-in-Err-take_line-clause-read
returns-in-Err-take_line-clause-read g c _ first start so_far =
    let len : length c.next.new.line.items ≡ c.len.result = omega (arith, c.len.ensures, c.next.new.line.ok.0) in
    let going = so_far.going in
    let w : Within c.args.self.now.room c.next.new.line.items c.in-Ok.more =
    within_from c.args.self.now.room c.next.new.line.items c.in-Ok.more (omega (arith, c.in-Ok.ensures.bound, c.next.new.line.ok.0, c.min.ensures)) (rw len (sym c.is_over.ensures ∙ c.if-is_over.false)) in
    stops g.R.Source.given g.R.Source.ends g.R.Source.failures g.R.Read.remaining
    (taken_line g.T.Cause.LineCause.not_json g.T.TakeJson.taken) first
    c.args.reader.now c.next.new.reader start c.args.value.now _ c.args.self.now
    c.min.result so_far c.next.ensures.most (omega (arith, c.min.ensures)) c.in-Ok.ensures.known c.in-Err-take_line.stop
    (step_cut (taken_line g.T.Cause.LineCause.not_json g.T.TakeJson.taken) start
    g.R.Source.given g.R.Source.ends first c.next.new.reader c.args.self.now.number c.args.self.now.room
    c.args.value.now so_far.used c.next.new.line.items c.in-Ok.more c.next.new.self c.in-Err-take_line.stop
    so_far.follows (c.in-Ok.ensures.line.1 (g.R.Source.given first ++ so_far.used) so_far.gave) c.in-Ok.ensures.line.0
    (λ no. (c.next.ensures.last (c.in-Ok.is ∙ ap Ok no), let stopped = rw no at c.in-Ok.ensures.ends in omega (arith, stopped, going)))
    w (rw (← c.deref.ensures.value) c.in-Err-take_line.ensures.refused))
    (λ e. absurd (rw e at c.in-Err-take_line.ensures.refused))
    (λ e. absurd (rw e at c.in-Err-take_line.ensures.refused))
    (λ _. c.next.ensures.kept (λ e. no_error _ _ _ c.in-Ok.is e) ∙ so_far.kept)

pub returns-clause-read : goal.returns-clause-read
returns-clause-read g c ended first start so_far =
    let came = c.next.ensures.most (g.R.Source.given first ++ so_far.used) so_far.gave in
    let going = so_far.going in
    let no : c.in-Ok.more ≡ false = elim c.if-more.branch [
      | then-more w ↦ absurd (ended (ap Ok w.if-more.true))
      | else-more w ↦ w.if-more.false
    ] in
    record {
      exact =
          let w : Within c.args.self.now.room c.next.new.line.items false = within_from c.args.self.now.room c.next.new.line.items false (omega (arith, c.in-Ok.ensures.bound, c.next.new.line.ok.0, c.min.ensures)) refl in
          let line = rw no at c.in-Ok.ensures.line in
          let stopped = rw no at c.in-Ok.ensures.ends in
          last_ends (taken_line g.T.Cause.LineCause.not_json g.T.TakeJson.taken) start g.R.Source.given g.R.Source.ends first c.next.new.reader c.args.self.now.number c.args.self.now.room c.args.value.now so_far.used c.next.new.line.items c.next.new.self c.take_line.new.taker
          so_far.follows (line.1 (g.R.Source.given first ++ so_far.used) so_far.gave) line.0 (c.next.ensures.last (c.in-Ok.is ∙ ap Ok no)) (omega (arith, stopped, going))
          w (rw (← c.deref.ensures.value) c.in_default.ensures.ok);
      failed = tt;
      ended = let stopped = rw no at c.in-Ok.ensures.ends in omega (arith, stopped, going);
      most =
          came_in_all g.R.Source.given first c.next.new.reader (2 ^ 30) c.args.self.now.room c.min.result 65536 so_far.used so_far.fits (omega (arith, c.min.ensures)) came;
      known = next-trans g.R.Source.given g.R.Source.ends g.R.Read.remaining first c.args.reader.now c.next.new.reader so_far.known c.in-Ok.ensures.known;
      line = tt;
      counted = tt;
      kept = c.next.ensures.kept (λ e. no_error _ _ _ c.in-Ok.is e) ∙ so_far.kept;
      unfailed = tt;
    }

pub returns-clause-goes : goal.returns-clause-goes
returns-clause-goes g c more first start so_far = elim c.if-more.branch [
  | else-more w ↦ absurd (cc (more, w.if-more.false))
  | then-more w ↦
      let yes = w.if-more.true in
      let len : length c.next.new.line.items ≡ c.len.result = omega (arith, c.len.ensures, c.next.new.line.ok.0) in
      let bound : length c.next.new.line.items ≤ min c.args.self.now.room (2 ^ 20) = omega (arith, c.in-Ok.ensures.bound, c.next.new.line.ok.0, c.min.ensures) in
      let not_over : (c.in-Ok.more && (eqb (length c.next.new.line.items) c.args.self.now.room)) ≡ false = rw len (sym c.is_over.ensures ∙ c.if-is_over.false) in
      let within : Within c.args.self.now.room c.next.new.line.items true = within_from c.args.self.now.room c.next.new.line.items true bound (rw yes at not_over) in
      let now : length c.next.new.line.items ≡ w.len-then-more.result = omega (arith, w.len-then-more.ensures, c.next.new.line.ok.0) in
      let line = rw yes at c.in-Ok.ensures.line in
      let came = line.1 (g.R.Source.given first ++ so_far.used) so_far.gave in
      let on = goes_on (taken_line g.T.Cause.LineCause.not_json g.T.TakeJson.taken) start c.args.self.now.number c.args.self.now.room c.args.value.now so_far.used c.next.new.line.items c.take_line.new.taker so_far.follows line.0 within (rw (← c.deref.ensures.value) c.in_default.ensures.ok) in
      let room = room_left c.args.self.now.room c.next.new.line.items bound (rw yes at not_over) in
      let size = length-append so_far.used (c.next.new.line.items ++ line_ending true) in
      let ended = length-append c.next.new.line.items (line_ending true) in
      let fits = so_far.fits in
      let going = so_far.going in
      rw w.self-is record {
        used = so_far.used ++ (c.next.new.line.items ++ line_ending true);
        none = λ one. let above = from_one (taken_line g.T.Cause.LineCause.not_json g.T.TakeJson.taken) start c.args.self.now.number
            c.args.self.now.room c.args.value.now so_far.used so_far.follows in absurd (omega (arith, one, above));
        whole = λ _. (so_far.used ++ c.next.new.line.items, sym (append_assoc so_far.used c.next.new.line.items (line_ending true)));
        gave = came ∙ regroup (g.R.Source.given first) so_far.used (c.next.new.line.items ++ line_ending true) c.next.new.self;
        fits = omega (arith, size, ended, now, room, fits);
        follows = rw (← now) on;
        known = next-trans g.R.Source.given g.R.Source.ends g.R.Read.remaining first c.args.reader.now c.next.new.reader so_far.known c.in-Ok.ensures.known;
        going = let none = rw yes at c.in-Ok.ensures.ends in omega (arith, none, going);
        kept = c.next.ensures.kept (λ e. no_error _ _ _ c.in-Ok.is e) ∙ so_far.kept;
      }
]
  where
    regroup : (old used line left : List ℕ) → (old ++ used) ++ (line ++ left) ≡ (old ++ (used ++ line)) ++ left
    regroup old used line left = sym (append_assoc (old ++ used) line left) ∙ ap (λ (l : List ℕ). l ++ left) (append_assoc old used line)

pub returns-clause-last : goal.returns-clause-last
returns-clause-last g c ended first start so_far = elim c.if-more.branch [
  | then-more w ↦ absurd (cc (ended, w.if-more.true))
  | else-more w ↦
      let no = w.if-more.false in
      let line = rw no at c.in-Ok.ensures.line in
      let none = c.next.ensures.last (c.in-Ok.is ∙ ap Ok no) in (
        so_far.used ++ c.next.new.line.items,
        line.1 (g.R.Source.given first ++ so_far.used) so_far.gave
            ∙ ap (λ (l : List ℕ). (g.R.Source.given first ++ so_far.used) ++ ((c.next.new.line.items ++ []) ++ l)) none
            ∙ ap (λ (l : List ℕ). (g.R.Source.given first ++ so_far.used) ++ l) (append-nil (c.next.new.line.items ++ []) ∙ append-nil c.next.new.line.items)
            ∙ append_assoc (g.R.Source.given first) so_far.used c.next.new.line.items,
        rw w.self-is (counts_all (taken_line g.T.Cause.LineCause.not_json g.T.TakeJson.taken) start c.args.self.now.number
            c.args.self.now.room c.args.value.now so_far.used c.next.new.line.items so_far.follows so_far.none so_far.whole line.0),
      )
]

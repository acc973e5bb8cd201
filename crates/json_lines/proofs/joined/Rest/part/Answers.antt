use Rattle.std.proofs.Common.{Bool, ◌≡◌, ◌∙◌, ◌+◌, ◌^◌, true, false, ap, arith, refl, sym}
use Rattle.std.proofs.lemmas.Result.{err_from_is_err_and}
use Rattle.json_lines.specs.Joined.{ends_left, RestValue}
use Rattle.json_lines.specs.Json.{taken_line}
use Rattle.devices.proofs.Given.{next-refl}
use Rattle.json_lines.proofs.RestLines.{one_less, of_line_alone, sought_is, going_first, going_on, going_past, part_ended, part_found}
use Rattle.json_lines.proofs.RestReads.{asked_behind, handed_on, no_memory_behind, read_further, went_well}
use Rattle.json_lines.proofs.joined.Rest.part.Goals as goal

pub loop-self-init : goal.loop-self-init
loop-self-init g c = record {
  going = going_first (taken_line g.T.Cause.LineCause.not_json g.T.TakeJson.taken) c.args.value.now (λ n s. refl) (g.R.Source.given c.args.reader.now) c.args.self.now c.args.marked tt;
  within = c.requires.room;
  next = c.requires.first;
  number = rw c.requires.unended (omega (arith, c.requires.room));
  refused = tt;
  so_far = record {
    ended = ap (λ (e : Bool). g.R.Source.ends c.args.reader.now + ends_left e) c.requires.unended;
    known = next-refl g.R.Source.given g.R.Source.ends g.R.Read.remaining c.args.reader.now;
    kept = refl;
  };
}

pub returns-then-is_marker-clause-part : goal.returns-then-is_marker-clause-part
returns-then-is_marker-clause-part g c =
    let seen =
    sought_is c.args.marked c.in_ok-whole.whole c.deref.result.now c.next.new.line.items c.is_marker.result true
    c.deref.ensures.value c.is_marker.ensures c.if-is_marker.true in
    part_found (taken_line g.T.Cause.LineCause.not_json g.T.TakeJson.taken) c.args.value.now (λ n s. refl) (g.R.Source.given c.args.reader.now) (g.R.Source.given c.loop-self.reader) (g.R.Source.given c.next.new.reader) c.args.self.now c.loop-self.self c.next.new.self
    c.args.marked c.loop-self.number c.loop-self.value c.loop-self.read c.in_ok-whole.whole c.next.new.line.items c.loop-self.invariant.going c.in_ok-whole.ensures.line (sym (ap (λ (r : RestValue). r.ended) c.self.view_is) ∙ c.loop-self-test.true) seen

pub returns-in_err-whole-clause-asked : goal.returns-in_err-whole-clause-asked
returns-in_err-whole-clause-asked g c =
    let p = err_from_is_err_and c.from_residual.result c.from_residual.ensures.1 in
    let asked =
    asked_behind _ _ _ _ _ _ _ _ _ _ _ c.loop-self.invariant.going.used c.loop-self.invariant.so_far
    c.next.ensures.asked in
    handed_on _ _ _ _ _ _ _ _ _ asked p.0 c.in_err-whole.field-0.0 p.1 p.2 c.in_err-whole.was

pub returns-then-is_marker-clause-asked : goal.returns-then-is_marker-clause-asked
returns-then-is_marker-clause-asked g c =
    let asked =
    asked_behind _ _ _ _ _ _ _ _ _ _ _ c.loop-self.invariant.going.used c.loop-self.invariant.so_far
    c.next.ensures.asked in
    went_well _ _ _ _ _ _ _ _ _ asked _ _ c.in_ok-whole.was refl

pub returns-in_err-read-clause-asked : goal.returns-in_err-read-clause-asked
returns-in_err-read-clause-asked g c =
    let p = err_from_is_err_and c.from_residual-in_err-read.result c.from_residual-in_err-read.ensures.1 in
    let asked =
    asked_behind _ _ _ _ _ _ _ _ _ _ _ c.loop-self.invariant.going.used c.loop-self.invariant.so_far
    c.next.ensures.asked in
    no_memory_behind _ _ _ _ _ _ _ _ _ asked _ p.0 c.in_err-read.field-0.0 c.in_ok-whole.was p.1 p.2 c.in_err-read.ensures.memory

pub loop-self-preserved-then-is_ok : goal.loop-self-preserved-then-is_ok
loop-self-preserved-then-is_ok g c =
    let other = sought_is _ _ _ _ _ false c.deref.ensures.value c.is_marker.ensures c.if-is_marker.false in
    let unended : c.loop-self.self.ended ≡ false = sym (ap (λ (r : RestValue). r.ended) c.self.view_is) ∙ c.loop-self-test.true in
    record {
      going = going_on (taken_line g.T.Cause.LineCause.not_json g.T.TakeJson.taken) c.args.value.now (λ n s. refl) (g.R.Source.given c.args.reader.now) (g.R.Source.given c.loop-self.reader) (g.R.Source.given c.next.new.reader) c.args.self.now c.loop-self.self c.next.new.self
          c.args.marked c.loop-self.number c.loop-self.value c.take_whole.new.value c.loop-self.read c.in_ok-read.read c.in_ok-whole.whole c.next.new.line.items (sym c.is_ok.ensures.value ∙ c.if-is_ok.true) c.loop-self.invariant.going c.in_ok-whole.ensures.line
          unended c.loop-self.invariant.within other (rw (← c.deref-then-is_ok.ensures.value) c.in_ok-read.ensures.exact) (of_line_alone c.in_ok-read.read _ c.in_ok-read.ensures.refused);
      within = c.loop-self.invariant.within;
      next = c.in_ok-read.ensures.further;
      number = one_less _ _ c.loop-self.self c.next.new.self c.in_ok-whole.whole c.next.new.line.items c.loop-self.number (2 ^ 30 + 2) c.in_ok-whole.ensures.line unended c.loop-self.invariant.number;
      refused = c.in_ok-read.ensures.refused;
      so_far = read_further c.loop-self.invariant.so_far unended c.in_ok-whole.was
          c.in_ok-whole.ensures.ended c.next.ensures.asked;
    }

pub loop-self-preserved : goal.loop-self-preserved
loop-self-preserved g c =
    let other = sought_is _ _ _ _ _ false c.deref.ensures.value c.is_marker.ensures c.if-is_marker.false in
    let unended : c.loop-self.self.ended ≡ false = sym (ap (λ (r : RestValue). r.ended) c.self.view_is) ∙ c.loop-self-test.true in
    record {
      going = going_past (taken_line g.T.Cause.LineCause.not_json g.T.TakeJson.taken) c.args.value.now (λ n s. refl) (g.R.Source.given c.args.reader.now) (g.R.Source.given c.loop-self.reader) (g.R.Source.given c.next.new.reader) c.args.self.now c.loop-self.self c.next.new.self
          c.args.marked c.loop-self.number c.loop-self.value c.loop-self.read c.in_ok-whole.whole c.next.new.line.items (sym c.is_ok.ensures.value ∙ c.if-is_ok.false) c.loop-self.invariant.going c.in_ok-whole.ensures.line unended other;
      within = c.loop-self.invariant.within;
      next = c.loop-self.invariant.next;
      number = omega (arith, one_less _ _ c.loop-self.self c.next.new.self c.in_ok-whole.whole c.next.new.line.items c.loop-self.number (2 ^ 30 + 2) c.in_ok-whole.ensures.line unended c.loop-self.invariant.number);
      refused = c.loop-self.invariant.refused;
      so_far = read_further c.loop-self.invariant.so_far unended c.in_ok-whole.was
          c.in_ok-whole.ensures.ended c.next.ensures.asked;
    }

pub returns-clause-part : goal.returns-clause-part
returns-clause-part g c =
    part_ended (taken_line g.T.Cause.LineCause.not_json g.T.TakeJson.taken) c.args.value.now (λ n s. refl) (g.R.Source.given c.args.reader.now) (g.R.Source.given c.loop-self.reader) c.args.self.now c.loop-self.self
    c.args.marked c.loop-self.number c.loop-self.value c.loop-self.read c.loop-self.invariant.going
    (sym (ap (λ (r : RestValue). r.ended) c.self.view_is) ∙ c.loop-self-test.false) (sym (ap (λ (r : RestValue). r.at_hand) c.self.view_is) ∙ c.self.invariant.0 c.loop-self-test.false)

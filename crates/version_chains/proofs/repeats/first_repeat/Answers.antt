use Rattle.std.proofs.Common.{ℕ, Bool, ◌||◌, ◌∙◌, get_or, rules, take, sym, arith, nat_eq}
use Rattle.std.specs.BTreeSet.{contains}
use Rattle.std.specs.List.{list_any}
use Rattle.std.specs.Ordering.{nat_cmp}
use Rattle.std.proofs.lemmas.Bool.{or_left, or_right}
use Rattle.version_chains.proofs.RepeatLemmas.{repeat_here, rising_on, was_there}
use Rattle.version_chains.proofs.repeats.first_repeat.Goals as goal
use Rattle.version_chains.proofs.repeats.first_repeat.Goals.{then-is_among-via-then-is_among, then-is_among-via-else-is_among+in_ok-insert+then-not-branch}

pub loop-place-init : goal.loop-place-init
loop-place-init c = record {
  seen = search rules;
  left =
      let within = c.rising_len-len.ensures.within in
      rising_on c.args.numbers.now c.rising_len-len.result within c.rising_len-len.ensures.rising c.rising_len-len.result (omega arith);
}

pub returns-then-is_among : goal.returns-then-is_among
returns-then-is_among c =
    let rising = take c.rising_len-len.result c.args.numbers.now in
    let has : ℕ → Bool = λ k. contains nat_cmp c.loop-place.seen k || list_any (λ s. nat_eq s k) rising in
    let number = get_or c.args.numbers.now c.loop-place.place 0 in
    repeat_here c.args.numbers.now c.loop-place.place c.loop-place-test.true has c.loop-place.invariant.seen c.loop-place.invariant.left
    (elim c.then-is_among.branch [
      | then-is_among-via-then-is_among w ↦
          or_right (contains nat_cmp c.loop-place.seen number) (list_any (λ s. nat_eq s number) rising) (sym c.is_among.ensures ∙ w.if-is_among.true)
      | then-is_among-via-else-is_among+in_ok-insert+then-not-branch w ↦
          or_left (contains nat_cmp c.loop-place.seen number) (list_any (λ s. nat_eq s number) rising)
          (was_there w.in_ok-insert.field-0 (contains nat_cmp c.loop-place.seen number) w.in_ok-insert.ensures.added w.if-not-branch.true)
    ])

use Rattle.std.proofs.Common.{◌≡◌, ◌+◌, ◌∷◌, ◌++◌, ◌∙◌, [], true, false, sym, arith}
use Rattle.std.proofs.lemmas.List.Elements.{Contains-append_left, Contains-push}
use Rattle.wide_rules.proofs.DeclaringLemmas.{declared_ever, next_number}
use Rattle.wide_rules.proofs.declaring.declaring.Goals.{then-has+in_ok-push, else-has}
use Rattle.wide_rules.proofs.declaring.declaring.Goals as goal

pub loop-before-preserved : goal.loop-before-preserved
loop-before-preserved c =
    let before = c.loop-before.numbers.items in
    elim c.if-has.branch [
      | then-has+in_ok-push w ↦
          (let items : c.if-has.numbers.items ≡ before ++ (c.loop-before.before + 1) ∷ [] = rw w.numbers-is w.in_ok-push.ensures.items in
          next_number before c.if-has.numbers.items c.declaring_one-all.result c.loop-before.before c.loop-before.invariant
          (λ n there. rw items (Contains-append_left before ((c.loop-before.before + 1) ∷ []) n there))
          (λ _. rw items (Contains-push before (c.loop-before.before + 1))))
      | else-has w ↦
          next_number before c.if-has.numbers.items c.declaring_one-all.result c.loop-before.before c.loop-before.invariant
          (λ n there. rw w.numbers-is there)
          (λ has. absurd (let bad : true ≡ false = sym (c.has.ensures.1 has) ∙ w.if-has.false in cc))
    ]

pub returns : goal.returns
returns c = record {
  few = c.are_well_formed.ensures.namespaces;
  all = λ n at namespace relation small time numbered named declared.
      c.loop-before.invariant n (omega (arith, small, c.loop-before-test.false))
      (c.declaring_one-all.ensures relation n named small (declared_ever c.args.rules.now n at namespace relation c.are_well_formed.ensures numbered declared));
}

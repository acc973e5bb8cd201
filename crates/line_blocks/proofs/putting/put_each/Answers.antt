use Rattle.std.proofs.Common.{inl, inr, arith}
use Rattle.std.proofs.lemmas.List.{nil_from_length}
use Rattle.line_blocks.proofs.AllTold.{few_left, goes_on, none_left, refused}
use Rattle.line_blocks.proofs.putting.put_each.Goals as goal

pub put_told-requires-clause-few : goal.put_told-requires-clause-few
put_told-requires-clause-few g c κs within =
    let few = c.requires.few in
    let here =
    few_left (c.loop-part.invariant.0 few.0 few.1 few.2) c.in-Ok.told c.in-Some.ensures.steps.0 c.in-Ok.is in
    omega (arith, here, few.3, c.in-Ok.told.values.ok.0)

pub loop-part-preserved : goal.loop-part-preserved
loop-part-preserved g c = (
  λ told bs are. goes_on (c.loop-part.invariant.0 told bs are) c.in-Ok.told c.in-Some.ensures.steps.0 c.in-Ok.is
      c.in-Ok-put_told.next c.in-Ok-put_told.ensures.put
      (omega (arith, c.in-Ok-put_told.ensures.next, c.in-Ok.told.values.ok.0)),
  c.in-Ok-put_told.ensures.further,
  omega (arith, c.loop-part.invariant.2, c.in-Ok-put_told.ensures.next),
)

pub returns-in-Err-clause-put : goal.returns-in-Err-clause-put
returns-in-Err-clause-put g c = λ told bs are.
    let left = c.loop-part.invariant.0 told bs are in
    let here = few_left left c.in-Ok.told c.in-Some.ensures.steps.0 c.in-Ok.is in
    record {
      puts = elim c.in-Err.ensures.put [
        | inl memory ↦ inl memory
        | inr is ↦ inr (refused left c.in-Ok.told c.in-Some.ensures.steps.0 c.in-Ok.is c.in-Err.fault is)
      ];
      next = tt;
      line = (
        omega (arith, c.loop-part.invariant.2, c.in-Err.ensures.line.0),
        omega (arith, here, c.in-Err.ensures.line.1, c.in-Ok.told.values.ok.0),
      );
    }

pub returns-clause-put : goal.returns-clause-put
returns-clause-put g c = λ told bs are.
    let none = nil_from_length _ (omega (arith, c.in-None.ensures.steps.0)) in
    let done = none_left (c.loop-part.invariant.0 told bs are) none in
    record { puts = done.0; next = done.1; line = tt }

use Rattle.std.proofs.Common.{◌≡◌, inl, inr, refl, arith}
use Rattle.std.proofs.lemmas.Option.{slice_get_cases}
use Rattle.evidence_maker.specs.declared.fault.MakeFault.TheVariants.{GaveUp}
use Rattle.evidence_maker.proofs.maker.make.Goals as goal

pub returns-in-Ok-clause-accepted : goal.returns-in-Ok-clause-accepted
returns-in-Ok-clause-accepted c = λ e at. ((rw c.new-maker.ensures at c.in-Ok.ensures.made) e at).settles

pub returns-in-Ok-clause-fits : goal.returns-in-Ok-clause-fits
returns-in-Ok-clause-fits c =
    let made = rw c.new-maker.ensures at c.in-Ok.ensures.made in
    elim (slice_get_cases c.args.trace.now.entries c.args.i).1 [
      | inl w ↦ (made w.0 w.2).fits.0
      | inr w ↦ (let le = w.0 in let lt = c.requires in omega arith)
    ]

pub returns-clause-complete : goal.returns-clause-complete
returns-clause-complete c = λ gave e at.
    let fault : c.in-Err.fault ≡ GaveUp = cc in
    ((rw c.new-maker.ensures at c.in-Err.ensures.gave_up) (rw fault refl) e at).1

use Rattle.std.proofs.Common.{ℕ, List, inl, inr, sym, subst, arith}
use Rattle.userset_index.specs.Moments.{AtLeast}
use Rattle.userset_index.proofs.moments.Sweep.begin.Goals as goal

pub returns-clause-held : goal.returns-clause-held
returns-clause-held c s waits t small since until = elim (waits t small since until) [
  | inl covered ↦ inl covered
  | inr w ↦
      let least = c.raise.ensures.old s.number s.until w.2 in
      let there : AtLeast c.deref.result.now s.number s.until = subst (λ (xs : List ℕ). AtLeast xs s.number s.until) (sym c.deref.ensures.value) least in
      inr (w.0, w.1, c.lasting-self.ensures s.number s.until there (omega (arith, w.1, until)), least)
]

pub returns-clause-new : goal.returns-clause-new
returns-clause-new c t small since until =
    let s = c.args.stay in
    let there : AtLeast c.deref.result.now s.number s.until = subst (λ (xs : List ℕ). AtLeast xs s.number s.until) (sym c.deref.ensures.value) c.raise.ensures.new in
    inr (sym c.requires.mark, since, c.lasting-self.ensures s.number s.until there (omega (arith, since, until)), c.raise.ensures.new)

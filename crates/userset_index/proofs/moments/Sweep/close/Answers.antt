use Rattle.std.proofs.Common.{◌≡◌, ◌-◌, ◌∙◌, ℕ, List, inl, inr, sym, subst, arith, rules}
use Rattle.std.proofs.lemmas.Bool.{cases_lt}
use Rattle.userset_index.specs.Index.{IsCovered}
use Rattle.userset_index.specs.Moments.{AtLeast}
use Rattle.userset_index.proofs.MomentLemmas.{on_three}
use Rattle.userset_index.proofs.moments.Sweep.close.Goals as goal

pub returns-then-self-stay-clause-held : goal.returns-then-self-stay-clause-held
returns-then-self-stay-clause-held c =
    let from = c.args.stay.from in
    let ends : c.saturating_sub.result ≡ from - 1 = search rules in
    on_three c.put.result
    (λ rest old new s held t small since until. elim (held t small since until) [
      | inl covered ↦ inl (old s.mark s.number t covered)
      | inr w ↦ elim (cases_lt t from) [
        | inl early ↦
            inl (subst (λ (m : ℕ). IsCovered c.put.new.self.lives.items c.put.new.self.numbers.items m s.number t) (sym w.0)
            (new s.number t w.1 (omega (arith, early, ends)) w.2))
        | inr late ↦ inr (w.0 ∙ sym rest.1, late, subst (λ (xs : List ℕ). AtLeast xs s.number s.until) (sym rest.0) w.3)
      ]
    ])
    c.put.ensures.rest c.put.ensures.old c.put.ensures.new

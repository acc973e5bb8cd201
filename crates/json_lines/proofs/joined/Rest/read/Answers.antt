use Rattle.std.proofs.Common.{◌≡◌, ◌∙◌, ◌++◌, List, ℕ, [], ap, arith, refl, sym}
use Rattle.json_lines.specs.Joined.{RestValue}
use Rattle.json_lines.specs.Json.{taken_line}
use Rattle.json_lines.proofs.RestLines.{reads_nothing}
use Rattle.json_lines.proofs.joined.Rest.read.Goals as goal

pub returns-then-self-clause-exact : goal.returns-then-self-clause-exact
returns-then-self-clause-exact g c =
    let none : c.args.self.at_hand ≡ [] = sym (ap (λ (r : RestValue). r.at_hand) c.self.view_is) ∙ c.self.invariant.0 c.if-self.true in
    ([], λ before is. is ∙ ap (λ (l : List ℕ). before ++ l) none, (omega arith, reads_nothing (taken_line g.T.Cause.LineCause.not_json g.T.TakeJson.taken) c.args.value.now (λ n s. refl)))

use Rattle.std.proofs.Common.{◌≡◌, ℕ, ◌∙◌, not, nat_lt, leb, arith}
use Rattle.std.proofs.lemmas.Bool.Decides.{nat_tests}
use Rattle.namespaces.proofs.Fields.{count_found}
use Rattle.namespaces.proofs.rules.Rules.is_full.Goals as goal

at_least : (n m : ℕ) → n ≡ m → leb 256 n ≡ not (nat_lt m 256)
at_least n m e = grind (arith, nat_tests)

pub returns : goal.returns
returns c =
    let s = c.self.inside in
    at_least c.len.result _ (c.len.ensures.len ∙ count_found s.lines.items s.namespaces.entries s.changes c.args.self.now c.self.view_is c.self.invariant.0)

use Rattle.std.proofs.Common.{◌≡◌, ℕ, zero, suc, ◌-◌, ◌≤◌, List, length, Option, None, Some, option_map, is_some, nat_lt, false, Bor, refl, sym, arith}
use Rattle.std.specs.Prelude.{slice_get, MatchOption}
use Rattle.std.proofs.lemmas.Bool.Decides.{nat_tests}
use Rattle.version_chains.specs.Jumps.{StandsAt, node_at}
use Rattle.version_chains.specs.declared.node.Node.{Node}
use Rattle.marks.proofs.PlacedLemmas.{read_option}
use Rattle.version_chains.proofs.node.at_place.Goals as goal

behind : (nodes : List Node) (place : ℕ) (o : Option Node) → (place ≡ 0 → ⊥) → o ≡ slice_get nodes (place - 1)
    → o ≡ node_at nodes place
behind nodes zero o some is = absurd (some refl)
behind nodes (suc i) o some is = let less : suc i - 1 ≡ i = omega arith in rw less at is

stands : (nodes : List Node) (place : ℕ) (o : Option (Bor Node)) → is_some o ≡ nat_lt (place - 1) (length nodes)
    → option_map (λ n. n.now) o ≡ node_at nodes place
    → MatchOption o ((i : ℕ) → place ≡ suc i → length nodes ≤ i) (λ n. StandsAt nodes place n.now)
stands nodes place None within is = λ i e.
    let none : false ≡ nat_lt (place - 1) (length nodes) = within in
    let past : length nodes ≤ place - 1 = grind (arith, nat_tests) in
    omega (arith, past, e)
stands nodes zero (Some n) within is = cc
stands nodes (suc i) (Some n) within is = (i, refl, sym is)

pub returns-clause-exact : goal.returns-clause-exact
returns-clause-exact c =
    behind c.args.nodes.now c.args.place _ c.if-place-eq0.false
    (read_option c.args.nodes.now (c.args.place - 1) c.get.result c.get.ensures.lookup.0 c.get.ensures.lookup.1)

pub returns-clause-stands : goal.returns-clause-stands
returns-clause-stands c = stands c.args.nodes.now c.args.place c.get.result c.get.ensures.lookup.0 (returns-clause-exact c)

use Rattle.std.proofs.Common.{◌≡◌, ◌∙◌, ℕ, length, ap, sym, subst, nat_eq}
use Rattle.tuple_text.specs.Refs.{set_value, user_value}
use Rattle.tuple_text.specs.Tuples.{tuple_of}
use Rattle.marks.specs.Placed.{last_place}
use Rattle.version_chains.specs.Arena.{Held, latest_of, tuples_of}
use Rattle.version_chains.specs.Given.{AreTouchesKnown, IsUnnumbered}
use Rattle.version_chains.proofs.ArenaLemmas.{finds_none, touches_known, unmarked}
use Rattle.version_chains.proofs.arena.Arena.find_marked.Goals as goal

pub returns-then-newest-eq0 : goal.returns-then-newest-eq0
returns-then-newest-eq0 c =
    let tuple = tuple_of (set_value c.args.set.set) (user_value c.args.user.user) in
    let named = c.self.inside.named in
    let none : last_place (nat_eq c.args.mark) named (length named) ≡ 0 = sym c.newest.ensures ∙ c.if-newest-eq0.true in
    let place = ap (λ (m : ℕ). last_place (nat_eq m) named (length named)) (sym c.requires) ∙ none in
    finds_none c.args.self.now tuple
    (subst AreTouchesKnown c.self.view_is
    (touches_known (tuples_of c.self.inside.rows) (latest_of c.self.inside.rows) named
    c.self.inside.held c.self.inside.nodes.items c.self.invariant.0))
    (subst (λ (h : Held). IsUnnumbered h tuple) c.self.view_is
    (unmarked tuple (tuples_of c.self.inside.rows) named c.self.invariant.0.names place))

use Rattle.std.proofs.Common.{◌∙◌, ℕ, length, Some, ap, sym, subst}
use Rattle.tuple_text.specs.Order.{tuple_eq}
use Rattle.tuple_text.specs.Refs.{set_value, user_value}
use Rattle.tuple_text.specs.Tuples.{tuple_of}
use Rattle.tuple_text.proofs.ValueLemmas.{tuple_eq-same}
use Rattle.marks.specs.Marks.{tuple_mark}
use Rattle.marks.specs.Placed.{indices_of}
use Rattle.marks.proofs.LeftLemmas.{AreLeft, left_behind, left_none, tuples_left}
use Rattle.version_chains.specs.Arena.{Held, latest_of, tuples_of}
use Rattle.version_chains.specs.Given.{AreTouchesKnown}
use Rattle.version_chains.proofs.ArenaLemmas.{finds_none, item_within, touches_known}
use Rattle.version_chains.proofs.arena.Arena.find_named.Goals as goal

pub loop-number-init : goal.loop-number-init
loop-number-init c =
    let tuple = tuple_of (set_value c.args.set.set) (user_value c.args.user.user) in
    let named = c.self.inside.named in
    let all = subst (λ (h : Held). AreLeft (λ u. tuple_eq u tuple) h.tuples (indices_of (tuple_mark tuple) named (length named))) c.self.view_is
    (tuples_left tuple (tuples_of c.self.inside.rows) named c.self.invariant.0.names) in
    subst (AreLeft (λ u. tuple_eq u tuple) c.args.self.now.tuples)
    (sym (c.into_iter-number-iterator.ensures.into_iter_gives ∙ c.with-number-items.ensures ∙ ap (λ (m : ℕ). indices_of m named (length named)) c.requires)) all

pub loop-number-preserved : goal.loop-number-preserved
loop-number-preserved c =
    let tuple = tuple_of (set_value c.args.set.set) (user_value c.args.user.user) in
    let left = subst (AreLeft (λ u. tuple_eq u tuple) c.args.self.now.tuples) c.in-Some.ensures.steps c.loop-number.invariant in
    let there = item_within c.args.self.now.tuples c.in-Some.number left.within.0 in
    left_behind (λ u. tuple_eq u tuple) c.args.self.now.tuples c.in-Some.number _ there.0 there.1 (sym (c.is_named.ensures there.0 there.1) ∙ c.if-is_named.false) left

pub returns-then-is_named : goal.returns-then-is_named
returns-then-is_named c =
    let tuple = tuple_of (set_value c.args.set.set) (user_value c.args.user.user) in
    let left = subst (AreLeft (λ u. tuple_eq u tuple) c.args.self.now.tuples) c.in-Some.ensures.steps c.loop-number.invariant in
    let there = item_within c.args.self.now.tuples c.in-Some.number left.within.0 in
    record {
      found = there.1
          ∙ ap Some (tuple_eq-same there.0 tuple (sym (c.is_named.ensures there.0 there.1) ∙ c.if-is_named.true));
      untouched = λ none. absurd cc;
    }

pub returns : goal.returns
returns c =
    let tuple = tuple_of (set_value c.args.set.set) (user_value c.args.user.user) in
    finds_none c.args.self.now tuple
    (subst AreTouchesKnown c.self.view_is
    (touches_known (tuples_of c.self.inside.rows) (latest_of c.self.inside.rows) c.self.inside.named
    c.self.inside.held c.self.inside.nodes.items c.self.invariant.0))
    (left_none (λ u. tuple_eq u tuple) c.args.self.now.tuples
    (subst (AreLeft (λ u. tuple_eq u tuple) c.args.self.now.tuples) c.in-None.ensures.steps.0 c.loop-number.invariant))

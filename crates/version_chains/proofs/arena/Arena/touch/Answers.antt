use Rattle.std.proofs.Common.{◌≡◌, ℕ, ◌<◌, ◌≤◌, true, false, nat_lt, Some, Option, Bor, sym, subst, length, List, map, None, arith}
use Rattle.std.proofs.lemmas.Bool.Decides.{nat_tests}
use Rattle.std.specs.Prelude.{slice_get, slice_index_or, MatchOption, IfSome, is_some}
use Rattle.std.proofs.lemmas.List.{length-map}
use Rattle.tuple_text.specs.Order.{tuple_eq}
use Rattle.version_chains.specs.Arena.{Held, touch_of, latest_of, tuples_of}
use Rattle.version_chains.specs.Commits.{Touch}
use Rattle.marks.specs.Placed.{last_place}
use Rattle.version_chains.specs.declared.node.Node.{Node}
use Rattle.version_chains.proofs.ArenaLemmas.{touch_at}
use Rattle.marks.proofs.PlacedLemmas.{read_item}
use Rattle.version_chains.proofs.arena.Arena.touch.Goals as goal

abbrev IsTouch : ℕ → List Touch → Bor Node → Type 0
IsTouch i xs n = (x : Touch) × (slice_get xs i ≡ Some x) × (n.now.at ≡ x.at) × (n.now.live ≡ x.live) × (n.now.older ≡ last_place (λ y. tuple_eq y.tuple x.tuple) xs i)

pub returns : goal.returns
returns c =
    subst (λ (h : Held). MatchOption c.get.result (length h.touches ≤ c.args.index) (IsTouch c.args.index h.touches)) c.self.view_is
    (pick c.get.result c.get.ensures.lookup.0 c.get.ensures.lookup.1)
  where
    touches : List Touch
    touches = map (touch_of (tuples_of c.self.inside.rows)) c.self.inside.nodes.items

    pick : (o : Option (Bor Node)) → is_some o ≡ nat_lt c.args.index (length c.deref.result.now) → IfSome o (λ x. x.now ≡ slice_index_or c.deref.result.now c.args.index x.now) → MatchOption o (length touches ≤ c.args.index) (IsTouch c.args.index touches)
    pick None test is =
        let no : false ≡ nat_lt c.args.index (length c.deref.result.now) = test in
        let past : length c.deref.result.now ≤ c.args.index = grind (arith, nat_tests) in
        subst (λ (n : ℕ). n ≤ c.args.index) (sym (length-map c.self.inside.nodes.items (touch_of (tuples_of c.self.inside.rows))))
        (subst (λ (xs : List Node). length xs ≤ c.args.index) c.deref.ensures.value past)
    pick (Some n) test is =
        let yes : true ≡ nat_lt c.args.index (length c.deref.result.now) = test in
        let within : c.args.index < length c.deref.result.now = grind (arith, nat_tests) in
        touch_at (tuples_of c.self.inside.rows) (latest_of c.self.inside.rows) c.self.inside.named c.self.inside.held c.self.inside.nodes.items c.self.invariant.0 c.args.index n.now
        (read_item c.self.inside.nodes.items c.deref.result.now c.args.index n.now c.deref.ensures.value within is)

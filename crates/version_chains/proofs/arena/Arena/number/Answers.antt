use Rattle.std.proofs.Common.{arith, List, ◌≡◌, ◌≤◌, ℕ, ◌++◌, ◌∷◌, [], ◌∙◌, ap, length, refl, Some, false, sym, subst}
use Rattle.std.specs.Prelude.{slice_get}
use Rattle.std.proofs.lemmas.List.{length-map}
use Rattle.tuple_text.specs.Order.{tuple_eq}
use Rattle.tuple_text.specs.Refs.{set_value, user_value}
use Rattle.tuple_text.specs.TupleRefs.{tuple_value}
use Rattle.tuple_text.specs.Tuples.{TupleValue, tuple_of}
use Rattle.version_chains.specs.Arena.{Held, IsLinked, latest_of, tuples_of}
use Rattle.marks.specs.Placed.{most}
use Rattle.marks.specs.Marks.{held_mark, kind_mark, set_mark, tuple_mark}
use Rattle.version_chains.specs.Rows.{Kept}
use Rattle.version_chains.proofs.ArenaLemmas.{more_tuples, same_touches}
use Rattle.version_chains.specs.declared.node.Node.{Node}
use Rattle.version_chains.proofs.RowLemmas.{latest-more, tuples-more}
use Rattle.marks.proofs.PlacedLemmas.{length-more, slice_get-kept, slice_get-next}
use Rattle.version_chains.proofs.arena.Arena.number.Goals as goal

abbrev new_row : TupleValue → Kept
new_row t = record { tuple = t; latest = 0 }

marked : (old new : List ℕ) (m k : ℕ) → new ≡ old ++ m ∷ [] → m ≡ k → new ≡ old ++ k ∷ []
marked old new m k is same = is ∙ rw same refl

kept : (rows rs : List Kept) (named ns held hs : List ℕ) (nodes : List Node) → rs ≡ rows → ns ≡ named → hs ≡ held
    → IsLinked (tuples_of rows) (latest_of rows) named held nodes × (length rows ≤ most)
    → IsLinked (tuples_of rs) (latest_of rs) ns hs nodes × (length rs ≤ most)
kept rows rs named ns held hs nodes same same_named same_held are = rw (same, same_named, same_held) are

pub invariant_of-self : goal.invariant_of-self
invariant_of-self c =
    kept c.self.inside.rows c.push_tuple.new.rows c.self.inside.named c.push_tuple.new.named c.self.inside.held c.push_tuple.new.held
    c.self.inside.nodes.items
    c.in_err-push_tuple.ensures.rows_kept c.in_err-push_tuple.ensures.named_kept c.in_err-push_tuple.ensures.held_kept c.self.invariant

pub invariant_of-self-2 : goal.invariant_of-self-2
invariant_of-self-2 c =
    let rows = c.in_ok-push_tuple.ensures.rows in
    let tuples = tuples-more c.self.inside.rows (new_row (tuple_value c.args.tuple)) in
    let latest = latest-more c.self.inside.rows (new_row (tuple_value c.args.tuple)) in
    let len : c.len-number.result ≡ length c.self.inside.rows = c.len-number.ensures in
    let more = length-more c.self.inside.rows (new_row (tuple_value c.args.tuple)) in
    let less = c.if-number-ge-MOST_PLACES.false in
    let few : length (c.self.inside.rows ++ new_row (tuple_value c.args.tuple) ∷ []) ≤ most = omega (arith, len, more, less) in
    let same : tuple_of (set_value c.of-set.result.set) (user_value c.of-user.result.user) ≡ tuple_value c.args.tuple =
    λ j. record {
      set =
          (ap set_value c.of-set.ensures ∙ c.set.ensures.parts) j;
      user =
          (ap user_value c.of-user.ensures ∙ c.user.ensures.parts) j;
    } in
    let named = marked c.self.inside.named c.push_tuple.new.named _ _ c.in_ok-push_tuple.ensures.named
    (c.tuple_mark-mark.ensures ∙ ap tuple_mark same) in
    let held = marked c.self.inside.held c.push_tuple.new.held _ _ c.in_ok-push_tuple.ensures.held
    (c.kind_mark.ensures ∙ ap (kind_mark (set_mark (set_value c.of-set.result.set))) c.is_userset.ensures
    ∙ ap held_mark same) in
    let absent : (i : ℕ) (u : TupleValue) → slice_get (tuples_of c.self.inside.rows) i ≡ Some u → tuple_eq u (tuple_value c.args.tuple) ≡ false =
    λ i u h.
    subst (λ (t : TupleValue). tuple_eq u t ≡ false) same
    (c.in_default.ensures.found i u (subst (λ (x : Held). slice_get x.tuples i ≡ Some u) c.self.view_is h))
    in
    (rw (rows, tuples, latest, named, held) (more_tuples (tuples_of c.self.inside.rows) (latest_of c.self.inside.rows) c.self.inside.named c.self.inside.held c.self.inside.nodes.items c.self.invariant.0 (tuple_value c.args.tuple) absent), rw rows few)

pub returns-clause-ok : goal.returns-clause-ok
returns-clause-ok c =
    let rows = c.in_ok-push_tuple.ensures.rows in
    let tuples = tuples-more c.self.inside.rows (new_row (tuple_value c.args.tuple)) in
    let len : c.len-number.result ≡ length c.self.inside.rows = c.len-number.ensures in
    let count = length-map c.self.inside.rows (λ (r : Kept). r.tuple) in
    rw (rows, tuples, len, sym count) (slice_get-next (tuples_of c.self.inside.rows) (tuple_value c.args.tuple))

pub returns-clause-extends : goal.returns-clause-extends
returns-clause-extends c i t h =
    let rows = c.in_ok-push_tuple.ensures.rows in
    let tuples = tuples-more c.self.inside.rows (new_row (tuple_value c.args.tuple)) in
    rw (rows, tuples) (slice_get-kept (tuples_of c.self.inside.rows) ((tuple_value c.args.tuple) ∷ []) i t (subst (λ (h : Held). slice_get h.tuples i ≡ Some t) (sym c.self.view_is) h))

pub returns-clause-touches : goal.returns-clause-touches
returns-clause-touches c =
    let rows = c.in_ok-push_tuple.ensures.rows in
    let tuples = tuples-more c.self.inside.rows (new_row (tuple_value c.args.tuple)) in
    rw (rows, tuples) (same_touches (tuples_of c.self.inside.rows) (latest_of c.self.inside.rows) c.self.inside.named c.self.inside.held c.self.inside.nodes.items c.self.invariant.0 (tuple_value c.args.tuple) ∙ ap (λ (h : Held). h.touches) c.self.view_is)

pub returns-in_err-push_tuple-clause-touches : goal.returns-in_err-push_tuple-clause-touches
returns-in_err-push_tuple-clause-touches c = rw c.in_err-push_tuple.ensures.rows_kept (ap (λ (h : Held). h.touches) c.self.view_is)

pub returns-in_err-push_tuple-clause-extends : goal.returns-in_err-push_tuple-clause-extends
returns-in_err-push_tuple-clause-extends c i t h =
    rw c.in_err-push_tuple.ensures.rows_kept (subst (λ (x : Held). slice_get x.tuples i ≡ Some t) (sym c.self.view_is) h)

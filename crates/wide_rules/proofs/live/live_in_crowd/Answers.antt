use Rattle.std.proofs.Common.{◌≡◌, ℕ, List, ◌∷◌, ◌++◌, [], get_or, None, Some, arith}
use Rattle.std.proofs.lemmas.Option.{get_or_from_slice_get}
use Rattle.std.proofs.lemmas.List.Elements.{Contains-append_left, Contains-append_right}
use Rattle.std.specs.Prelude.{Contains}
use Rattle.tuple_text.specs.Refs.{set_value}
use Rattle.tuple_text.specs.Sets.{SetValue}
use Rattle.tuple_text.specs.declared.users.User.TheVariants.{Set}
use Rattle.namespaces.specs.Lookup.{namespace_names, place_of}
use Rattle.rewrites.specs.Parts.{computed_names}
use Rattle.strata.specs.Meaning.{IsStored}
use Rattle.snapshots.specs.Snapshots.{rules_in, tuples_in}
use Rattle.wide_rules.proofs.LiveLemmas.{live_by_numbers}
use Rattle.judgement.proofs.PassLemmas.{next_element}
use Rattle.wide_rules.proofs.live.live_in_crowd.Goals as goal
use Rattle.wide_rules.proofs.live.live_in_crowd.Goals.{then-is_live+in_ok-push, else-is_live}

pub loop-number-preserved : goal.loop-number-preserved
loop-number-preserved c =
    let s = c.args.snapshot.now in
    let Lives : List ℕ → ℕ → Type 0 = λ live n. (g : SetValue) (name : List ℕ)
    → IsStored (tuples_in s) (set_value c.args.set.set) (Set g) → place_of g.namespace (namespace_names s.timeline.declarations) ≡ Some n
    → Contains (computed_names c.args.through.now) name → ¬ (rules_in s g.namespace name ≡ None) → Contains live n in
    let i = c.loop-number.number-index in
    let numbers = c.args.declaring.now in
    let old = c.loop-number.live.items in
    let x = get_or numbers i 0 in
    elim c.if-is_live.branch [
      | then-is_live+in_ok-push w ↦
          rw (w.live-is, w.in_ok-push.ensures.items)
          (next_element (Lives (old ++ x ∷ [])) numbers i
          (λ k n less at g name stored place named declared.
          Contains-append_left old (x ∷ []) n (c.loop-number.invariant k n less at g name stored place named declared))
          (λ n at g name stored place named declared.
          Contains-append_right old (x ∷ []) n (0, omega arith, get_or_from_slice_get numbers i n 0 at)))
      | else-is_live w ↦
          rw w.live-is
          (next_element (Lives old) numbers i c.loop-number.invariant
          (λ n at g name stored place named declared.
          let of : place_of g.namespace (namespace_names s.timeline.declarations) ≡ Some x = rw (get_or_from_slice_get numbers i n 0 at) place in
          absurd (declared (c.is_live.ensures w.if-is_live.false g stored of name named))))
    ]

pub returns : goal.returns
returns c =
    live_by_numbers c.args.snapshot.now (set_value c.args.set.set) (computed_names c.args.through.now)
    c.args.declaring.now c.loop-number.live.items c.fits.ensures c.requires.declaring
    (λ k n within at. c.loop-number.invariant k n (omega (arith, within, c.loop-number-test.false)) at)

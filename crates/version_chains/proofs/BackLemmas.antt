-- From a touch that is after a timestamp back to one before it.
use Rattle.std.proofs.Common.{◌≡◌, ℕ, suc, ◌+◌, ◌-◌, ◌<◌, ◌≤◌, Bool, true, false, List, map, refl, sym, ◌∙◌, ap, subst, Some, None, Option, arith, ◌&&◌, leb, get_or}
use Rattle.std.specs.Prelude.{slice_get, option_map}
use Rattle.std.proofs.lemmas.List.{length-map}
use Rattle.std.proofs.lemmas.Bool.{le-leb, leb-true, leb-false}
use Rattle.std.specs.List.Sorted.{IsPartitionPoint, IsPartitionedBy}
use Rattle.std.proofs.lemmas.Option.{slice_get_within, slice_get-get_or, slice_get-map}
use Rattle.tuple_text.specs.Tuples.{TupleValue}
use Rattle.tuple_text.specs.Order.{tuple_eq}
use Rattle.tuple_text.proofs.ValueLemmas.{tuple_eq-itself}
use Rattle.version_chains.specs.Arena.{IsLinked, touch_of}
use Rattle.version_chains.specs.Commits.{Touch}
use Rattle.version_chains.specs.Given.{AreLaterFrom, LeadsBack}
use Rattle.marks.specs.Placed.{last_place, newest_first}
use Rattle.version_chains.specs.declared.node.Node.{Node}
use Rattle.version_chains.proofs.ArenaLemmas.{touch_at}
use Rattle.marks.proofs.PlacedLemmas.{after-not, and-left, last_place-within, last_place-here, newest_first-not_here, newest_first-past}
use Rattle.marks.proofs.WalkLemmas.{left_older}

module _ (tuples : List TupleValue) (latest named held : List ℕ) (nodes : List Node) (is : IsLinked tuples latest named held nodes) where
  abbrev touches : List Touch
  touches = map (touch_of tuples) nodes

  node_of : (i : ℕ) (x : Touch) → slice_get touches i ≡ Some x → (n : Node) × (slice_get nodes i ≡ Some n) × (touch_of tuples n ≡ x)
  node_of i x here = pick (slice_get nodes i) refl (sym (slice_get-map (touch_of tuples) nodes i) ∙ here)
    where
      pick : (o : Option Node) → slice_get nodes i ≡ o → option_map (touch_of tuples) o ≡ Some x → (n : Node) × (slice_get nodes i ≡ Some n) × (touch_of tuples n ≡ x)
      pick None e h = absurd cc
      pick (Some n) e h = (n, e, cc)

  -- those up to a timestamp come first
  pub parted_by_time : (s : ℕ) (ns : List Node) → ns ≡ nodes → IsPartitionedBy (λ n. leb n.at s) ns
  parted_by_time s ns same = subst (IsPartitionedBy (λ n. leb n.at s)) (sym same) parted
    where
      parted : IsPartitionedBy (λ n. leb n.at s) nodes
      parted i j d order within before =
          let rise = is.rising i j (get_or nodes i d) (get_or nodes j d) order (slice_get-get_or nodes i d (omega (arith, order, within))) (slice_get-get_or nodes j d within) in
          let up_to = leb-true (get_or nodes j d).at s before in
          le-leb (get_or nodes i d).at s (omega (arith, rise, up_to))

  -- and the others are after it
  pub later_from : (s n : ℕ) (ns : List Node) → ns ≡ nodes → IsPartitionPoint (λ x. leb x.at s ≡ true) (λ x. leb x.at s ≡ false) ns n → AreLaterFrom s touches n
  later_from s n ns same point i x here past =
      let node = node_of i x here in
      let within = slice_get_within nodes i node.0 node.1 in
      let parted : IsPartitionPoint (λ (y : Node). leb y.at s ≡ true) (λ (y : Node). leb y.at s ≡ false) nodes n = subst (λ (ys : List Node). IsPartitionPoint (λ (y : Node). leb y.at s ≡ true) (λ (y : Node). leb y.at s ≡ false) ys n) same point in
      let item : Some (get_or nodes i node.0) ≡ Some node.0 = sym (slice_get-get_or nodes i node.0 within) ∙ node.1 in
      let late = leb-false (get_or nodes i node.0).at s (parted.1 i node.0 past within) in
      subst (λ (y : Touch). s < y.at) node.2 (let there : get_or nodes i node.0 ≡ node.0 = cc in subst (λ (y : Node). s < y.at) there late)

  module _ (s i : ℕ) (n : Node) (at : slice_get nodes i ≡ Some n) (x : Touch) (here : slice_get touches i ≡ Some x) (after : s < x.at) where
    same : touch_of tuples n ≡ x
    same = let e : Some (touch_of tuples n) ≡ Some x = sym (slice_get-map (touch_of tuples) nodes i ∙ ap (option_map (touch_of tuples)) at) ∙ here in cc

    abbrev linked : Touch → Bool
    linked y = tuple_eq y.tuple x.tuple

    abbrev wanted : Touch → Bool
    wanted y = tuple_eq y.tuple x.tuple && leb y.at s

    link_is : n.older ≡ last_place linked touches i
    link_is =
        let w = touch_at tuples latest named held nodes is i n at in
        let e : w.0 ≡ x = (let z : Some w.0 ≡ Some x = sym w.1 ∙ here in cc) in
        w.4 ∙ ap (λ (t : TupleValue). last_place (λ y. tuple_eq y.tuple t) touches i) (ap (λ (y : Touch). y.tuple) e)

    pub link_back : LeadsBack x.tuple s touches i n.older
    link_back = record {
      nearer = let below = last_place-within linked touches i in let e = link_is in omega (arith, below, e);
      on = let within = slice_get_within touches i x here in (i, omega (arith, within), link_is);
      passes_none =
          newest_first-not_here wanted touches i x here (after-not (tuple_eq x.tuple x.tuple) x.at s after)
          ∙ left_older linked wanted (λ y h. and-left (tuple_eq y.tuple x.tuple) (leb y.at s) h) touches i n.older link_is;
    }

    pub jump_back : (j : ℕ) (far : Node) → n.jump ≡ suc j → slice_get nodes j ≡ Some far → s < far.at → n.jump ≤ i → LeadsBack x.tuple s touches i n.jump
    jump_back j far place there late near =
        let jump = is.jumps i n at in
        let same_place : jump.0 ≡ j = (let e = jump.2 in omega (arith, e, place)) in
        let target : far ≡ jump.1 = (let e : Some far ≡ Some jump.1 = sym there ∙ subst (λ (k : ℕ). slice_get nodes k ≡ Some jump.1) same_place jump.4 in cc) in
        let number : far.tuple ≡ n.tuple = ap (λ (m : Node). m.tuple) target ∙ jump.5 in
        let tuple : (touch_of tuples far).tuple ≡ x.tuple = ap (λ (k : ℕ). (touch_of tuples (record { at = 0; tuple = k; older = 0; jump = 0; depth = 0; rank = 0; live = false })).tuple) number ∙ ap (λ (y : Touch). y.tuple) same in
        let within = slice_get_within nodes j far there in
        let item = slice_get-map (touch_of tuples) nodes j ∙ ap (option_map (touch_of tuples)) there in
        let passes : linked (touch_of tuples far) ≡ true = ap (λ (t : TupleValue). tuple_eq t x.tuple) tuple ∙ tuple_eq-itself x.tuple in
        record {
          nearer = near;
          on = (
            suc j,
            rw (length-map nodes (touch_of tuples)) (omega (arith, within)),
            place ∙ sym (last_place-here linked touches j (touch_of tuples far) item passes),
          );
          passes_none =
              ap (newest_first wanted touches) (let e : suc i ≡ suc j + (i - j) = omega (arith, place, near) in e)
              ∙ newest_first-past wanted touches (suc j) (i - j)
              (λ k y above below item_at.
              let m = node_of k y item_at in
              let rise = is.rising j k far m.0 (omega (arith, above)) there m.1 in
              let at_of = ap (λ (z : Touch). z.at) m.2 in
              after-not (tuple_eq y.tuple x.tuple) y.at s (omega (arith, late, rise, at_of)))
              ∙ ap (newest_first wanted touches) (sym place);
        }

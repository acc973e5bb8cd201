-- A walk over the items with one mark, for one of them; and of tuples.
use Rattle.std.proofs.Common.{◌≡◌, ℕ, suc, ◌<◌, Bool, true, false, List, length, map, sym, ◌∙◌, ap, subst, Some, arith, nat_eq}
use Rattle.std.specs.Prelude.{slice_get, option_map}
use Rattle.std.proofs.lemmas.List.{length-map}
use Rattle.std.proofs.lemmas.Option.{slice_get-map}
use Rattle.std.proofs.lemmas.Bool.{eqb-true, eq-eqb}
use Rattle.tuple_text.specs.Tuples.{TupleValue}
use Rattle.tuple_text.specs.Order.{tuple_eq}
use Rattle.tuple_text.proofs.ValueLemmas.{tuple_eq-same}
use Rattle.marks.specs.Placed.{last_place, IsWalk}
use Rattle.marks.specs.Marks.{tuple_mark}
use Rattle.marks.proofs.PlacedLemmas.{last_place-within, last_place-map}
use Rattle.marks.proofs.WalkLemmas.{linked_within, linked_item, walk_start, walk_on, walk_none}

-- what is wanted has the mark that is asked for
module _ {X : Type 0} (mark : X → ℕ) (asked : ℕ) (wanted : X → Bool) (has_mark : (x : X) → wanted x ≡ true → asked ≡ mark x) (xs : List X) (marks : List ℕ) (are : marks ≡ map mark xs) where
  abbrev linked : X → Bool
  linked x = nat_eq asked (mark x)

  wanted_linked : (x : X) → wanted x ≡ true → linked x ≡ true
  wanted_linked x h = eq-eqb asked (mark x) (has_mark x h)

  by_marks : (n : ℕ) → last_place (nat_eq asked) marks n ≡ last_place linked xs n
  by_marks n = ap (λ (ms : List ℕ). last_place (nat_eq asked) ms n) are ∙ last_place-map mark (nat_eq asked) xs n

  pub marked_start : (place : ℕ) → place ≡ last_place (nat_eq asked) marks (length marks) → IsWalk linked wanted xs place
  marked_start place e =
      walk_start linked wanted wanted_linked xs place
      (e ∙ by_marks (length marks) ∙ ap (last_place linked xs) (ap length are ∙ length-map xs mark))

  pub marked_nowhere : (place : ℕ) → place ≡ 0 → IsWalk linked wanted xs place → (i : ℕ) (x : X) → slice_get xs i ≡ Some x → wanted x ≡ false
  marked_nowhere place none walk = walk_none linked wanted wanted_linked xs (subst (IsWalk linked wanted xs) none walk)

  module _ (place m : ℕ) (next : place ≡ suc m) (walk : IsWalk linked wanted xs place) where
    walk_here : IsWalk linked wanted xs (suc m)
    walk_here = subst (IsWalk linked wanted xs) next walk

    pub marked_within : m < length xs
    marked_within = let within = linked_within linked xs (suc m) walk_here.on in omega (arith, within)

    -- the link from here
    marked_older : (older : ℕ) → ((n : ℕ) → slice_get marks m ≡ Some n → older ≡ last_place (nat_eq n) marks m) → older ≡ last_place linked xs m
    marked_older older e =
        let w = linked_item linked xs m walk_here.on in
        let same : mark w.0 ≡ asked = sym (eqb-true asked (mark w.0) w.2) in
        let here : slice_get marks m ≡ Some asked = ap (λ (ms : List ℕ). slice_get ms m) are ∙ slice_get-map mark xs m ∙ ap (option_map mark) w.1 ∙ ap Some same in
        e asked here ∙ by_marks m

    pub marked_smaller : (older : ℕ) → ((n : ℕ) → slice_get marks m ≡ Some n → older ≡ last_place (nat_eq n) marks m) → older < place
    marked_smaller older e =
        let is = marked_older older e in
        let below = last_place-within linked xs m in
        omega (arith, is, below, next)

    pub marked_on : (x : X) → slice_get xs m ≡ Some x → wanted x ≡ false → (older : ℕ) → ((n : ℕ) → slice_get marks m ≡ Some n → older ≡ last_place (nat_eq n) marks m) → IsWalk linked wanted xs older
    marked_on x here other older e = walk_on linked wanted wanted_linked xs m older x walk_here here other (marked_older older e)

module _ (t : TupleValue) (tuples : List TupleValue) (named : List ℕ) (names : named ≡ map tuple_mark tuples) where
  abbrev named_so : TupleValue → Bool
  named_so u = nat_eq (tuple_mark t) (tuple_mark u)

  abbrev is_it : TupleValue → Bool
  is_it u = tuple_eq u t

  same_mark : (u : TupleValue) → is_it u ≡ true → tuple_mark t ≡ tuple_mark u
  same_mark u h = ap tuple_mark (sym (tuple_eq-same u t h))

  pub find_start : (place : ℕ) → place ≡ last_place (nat_eq (tuple_mark t)) named (length named) → IsWalk named_so is_it tuples place
  find_start = marked_start tuple_mark (tuple_mark t) is_it same_mark tuples named names

  pub found_nowhere : (place : ℕ) → place ≡ 0 → IsWalk named_so is_it tuples place → (i : ℕ) (u : TupleValue) → slice_get tuples i ≡ Some u → is_it u ≡ false
  found_nowhere = marked_nowhere tuple_mark (tuple_mark t) is_it same_mark tuples named names

  module _ (place m : ℕ) (next : place ≡ suc m) (walk : IsWalk named_so is_it tuples place) where
    pub find_within : m < length tuples
    find_within = marked_within tuple_mark (tuple_mark t) is_it same_mark tuples named names place m next walk

    pub find_smaller : (older : ℕ) → ((mark : ℕ) → slice_get named m ≡ Some mark → older ≡ last_place (nat_eq mark) named m) → older < place
    find_smaller = marked_smaller tuple_mark (tuple_mark t) is_it same_mark tuples named names place m next walk

    pub find_on : (u : TupleValue) → slice_get tuples m ≡ Some u → is_it u ≡ false → (older : ℕ) → ((mark : ℕ) → slice_get named m ≡ Some mark → older ≡ last_place (nat_eq mark) named m) → IsWalk named_so is_it tuples older
    find_on = marked_on tuple_mark (tuple_mark t) is_it same_mark tuples named names place m next walk

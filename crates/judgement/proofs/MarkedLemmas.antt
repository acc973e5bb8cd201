-- Facts that are found by the marks of their tuples.
use Rattle.std.proofs.Common.{◌≡◌, ℕ, ◌<◌, ◌≤◌, ◌-◌, ◌++◌, ◌∙◌, length, zero, suc, true, false, List, ◌∷◌, [], map, Some, ◌⊎◌, ◌↔◌, IsTrue, inl, inr, refl, sym, ap, subst, get_or, nat_eq, arith}
use Rattle.std.specs.Prelude.{Contains, slice_get}
use Rattle.std.specs.List.{list_any}
use Rattle.std.proofs.lemmas.Map.Views.{Contains-from_any, list_any-from_Contains}
use Rattle.std.proofs.lemmas.List.{length-map}
use Rattle.std.proofs.lemmas.Option.{slice_get-map, slice_get_within, get_or_from_slice_get}
use Rattle.tuple_text.specs.Order.{fact_eq, tuple_eq}
use Rattle.tuple_text.specs.OrderLaws.{fact_equiv}
use Rattle.tuple_text.specs.Tuples.{FactValue, TupleValue, fact_tuple}
use Rattle.tuple_text.specs.declared.users.User.{User}
use Rattle.tuple_text.specs.declared.users.User.TheVariants.{Id, Set}
use Rattle.tuple_text.proofs.ValueLemmas.{tuple_eq-same, tuple_eq-itself, fact_eq-itself, fact_eq-same}
use Rattle.marks.specs.Marks.{tuple_mark}
use Rattle.marks.specs.Placed.{indices_of, last_place, IsLinkedPlace}
use Rattle.marks.proofs.IndexLemmas.{indices_from, walked_over}
use Rattle.marks.proofs.LeftLemmas.{AreLeft, left_behind, left_none, tuples_left}
use Rattle.marks.proofs.PlacedLemmas.{last_place-within, length-more, read_item, slice_get-front, slice_get-next}
use Rattle.marks.proofs.WalkLemmas.{linked_item}
use Rattle.rewrites.proofs.Names.{by_bool, clash}
use Rattle.strata.proofs.Lists.{Contains-cons_cases, not_in_nil}

abbrev id_of : User → ℕ → ℕ
id_of (Id i) n = i
id_of (Set g) n = n

-- a tuple is that of one fact
one_fact : (f g : FactValue) → fact_tuple f ≡ fact_tuple g → f ≡ g
one_fact f g h = λ i. record { set = (h i).set; user = id_of (h i).user f.user }

-- another fact has another tuple
pub other_tuple : (f g : FactValue) → fact_eq f g ≡ false → tuple_eq (fact_tuple g) (fact_tuple f) ≡ false
other_tuple f g other = by_bool (tuple_eq (fact_tuple g) (fact_tuple f))
    (λ t. let same = one_fact g f (tuple_eq-same (fact_tuple g) (fact_tuple f) t) in clash (fact_eq f g) (subst (λ (x : FactValue). fact_eq f x ≡ true) (sym same) (fact_eq-itself f)) other)
    (λ h. h)

-- where its tuple stands at no place, a fact is not there
pub absent_fact : (fs : List FactValue) (f : FactValue) → ((i : ℕ) (t : TupleValue) → slice_get (map fact_tuple fs) i ≡ Some t → tuple_eq t (fact_tuple f) ≡ false) → ¬ Contains fs f
absent_fact [] f none c = not_in_nil f c
absent_fact (x ∷ xs) f none c = by (absent_fact xs f (λ i. none (suc i))) (Contains-cons_cases x xs f c)
  where
    by : ¬ Contains xs f → (x ≡ f) ⊎ Contains xs f → ⊥
    by later (inl same) = clash (tuple_eq (fact_tuple f) (fact_tuple f)) (tuple_eq-itself (fact_tuple f)) (none 0 (fact_tuple f) (ap (λ (g : FactValue). Some (fact_tuple g)) same))
    by later (inr there) = later there

module _ {X : Type 0} (view : X → FactValue) (kept : List X) (i : ℕ) where
  pub within_kept : i < length (map fact_tuple (map view kept)) → i < length kept
  within_kept within = rw (length-map (map view kept) fact_tuple, length-map kept view) at within

  tuple_at : (x : X) → slice_get kept i ≡ Some x → slice_get (map fact_tuple (map view kept)) i ≡ Some
      (fact_tuple (view x))
  tuple_at x here = rw (slice_get-map fact_tuple (map view kept) i, slice_get-map view kept i, here) (λ j. Some (fact_tuple (view x)))

  fact_there : (x : X) (f : FactValue) → slice_get kept i ≡ Some x → f ≡ view x → Contains (map view kept) f
  fact_there x f here same =
      let at_fact : slice_get (map view kept) i ≡ Some f = rw (slice_get-map view kept i, here) (λ j. Some (sym same j)) in
      (i, slice_get_within (map view kept) i f at_fact, get_or_from_slice_get (map view kept) i f f at_fact)

  -- the item at the first index that is left, where a fact is looked for
  module _ (f : FactValue) (left : List ℕ) (x : X)
      (are : AreLeft (λ t. tuple_eq t (fact_tuple f)) (map fact_tuple (map view kept)) (i ∷ left))
      (is : x ≡ get_or kept i x) where
    here : slice_get kept i ≡ Some x
    here = read_item kept kept i x refl (within_kept are.within.0) is

    pub other_left : fact_eq f (view x) ≡ false → AreLeft (λ t. tuple_eq t (fact_tuple f))
        (map fact_tuple (map view kept)) left
    other_left other =
        left_behind (λ t. tuple_eq t (fact_tuple f)) (map fact_tuple (map view kept)) i left (fact_tuple (view x))
        (tuple_at x here)
        (other_tuple f (view x) other) are

    pub same_left : fact_eq f (view x) ≡ true → Contains (map view kept) f
    same_left same = fact_there x f here (fact_eq-same f (view x) same)

-- where no index is left, the fact is not there
pub found_nowhere : (fs : List FactValue) (f : FactValue) → AreLeft (λ t. tuple_eq t (fact_tuple f)) (map fact_tuple fs) []
    → IsTrue false ↔ Contains fs f
found_nowhere fs f none = (
  λ t. absurd (let e : IsTrue false = t in cc),
  λ h. absurd (absent_fact fs f (left_none (λ t. tuple_eq t (fact_tuple f)) (map fact_tuple fs) none) h),
)

-- a fact is there where one of them is equal to it
pub there_if_any : (fs : List FactValue) (f : FactValue) → IsTrue (list_any (fact_eq f) fs) ↔ Contains fs f
there_if_any fs f = (Contains-from_any fact_eq-same f fs, list_any-from_Contains fact_equiv f fs)

-- ---- places before the last one, which is that of a fact's own mark

indices-front : (mark : ℕ) (front more : List ℕ) (n : ℕ) → n ≤ length front → indices_of mark (front ++ more) n ≡ indices_of mark front n
indices-front mark front more zero h = refl
indices-front mark front more (suc n) h =
    let further = indices-front mark front more n (omega (arith, h)) in
    let here = slice_get-front front more n (omega (arith, h)) in
    rw (here, further) refl

module _ (fs : List FactValue) (f : FactValue) (marks : List ℕ) (place : ℕ)
    (are : marks ≡ map tuple_mark (map fact_tuple fs) ++ tuple_mark (fact_tuple f) ∷ [])
    (is : (mark : ℕ) → slice_get marks (length fs) ≡ Some mark → place ≡ last_place (nat_eq mark) marks (length fs)) where
  abbrev own : ℕ
  own = tuple_mark (fact_tuple f)

  abbrev front : List ℕ
  front = map tuple_mark (map fact_tuple fs)

  long : length front ≡ length fs
  long = length-map (map fact_tuple fs) tuple_mark ∙ length-map fs fact_tuple

  last : slice_get marks (length fs) ≡ Some own
  last = ap (slice_get marks) (sym long) ∙ ap (λ (ms : List ℕ). slice_get ms (length front)) are ∙ slice_get-next front own

  pub behind_on : IsLinkedPlace (nat_eq own) marks place
  behind_on =
      let more = length-more front own in
      let size = ap length are in
      (length fs, omega (arith, more, size, long), is own last)

  pub behind_left : AreLeft (λ t. tuple_eq t (fact_tuple f)) (map fact_tuple fs) (indices_of own marks place)
  behind_left =
      let all = tuples_left (fact_tuple f) (map fact_tuple fs) front refl in
      let same : indices_of own front (length front) ≡ indices_of own marks place =
      sym (indices-front own front (own ∷ []) (length front) (omega arith))
      ∙ ap (λ (ms : List ℕ). indices_of own ms (length front)) (sym are)
      ∙ ap (indices_of own marks) long
      ∙ sym (indices_from own marks place (length fs) (is own last)) in
      subst (AreLeft (λ t. tuple_eq t (fact_tuple f)) (map fact_tuple fs)) same all

-- a walk over the places of a fact's own mark leaves the index before its place, and those that come behind it
pub left_next : (tuples : List TupleValue) (f : FactValue) (marks : List ℕ) (place older : ℕ)
    → IsLinkedPlace (nat_eq (tuple_mark (fact_tuple f))) marks place
    → AreLeft (λ t. tuple_eq t (fact_tuple f)) tuples (indices_of (tuple_mark (fact_tuple f)) marks place) → 0 < place
    → ((n : ℕ) → slice_get marks (place - 1) ≡ Some n → older ≡ last_place (nat_eq n) marks (place - 1))
    → AreLeft (λ t. tuple_eq t (fact_tuple f)) tuples ((place - 1) ∷ indices_of (tuple_mark (fact_tuple f)) marks older)
left_next tuples f marks place older on left some link =
    subst (AreLeft (λ t. tuple_eq t (fact_tuple f)) tuples) (walked_over (tuple_mark (fact_tuple f)) marks place older on some link) left

-- a walk over a mark's places comes to an earlier one
pub smaller : (mark : ℕ) (marks : List ℕ) (place older : ℕ) → IsLinkedPlace (nat_eq mark) marks place → 0 < place
    → ((n : ℕ) → slice_get marks (place - 1) ≡ Some n → older ≡ last_place (nat_eq n) marks (place - 1)) → older < place
smaller mark marks place older on some link =
    let next : place ≡ suc (place - 1) = omega (arith, some) in
    let w = linked_item (nat_eq mark) marks (place - 1) (subst (IsLinkedPlace (nat_eq mark) marks) next on) in
    let is = link w.0 w.1 in
    let within = last_place-within (nat_eq w.0) marks (place - 1) in
    omega (arith, is, within, some)

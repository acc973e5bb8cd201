-- One more mark with the place before it, and one less.
use Rattle.std.proofs.Common.{◌≡◌, ◌≢◌, ℕ, zero, suc, Result, Ok, Err, ◌+◌, ◌-◌, ◌≤◌, Bool, true, false, cond, List, [], ◌∷◌, ◌++◌, length, nat_lt, take, refl, sym, ◌∙◌, ap, subst, Option, Some, ◌⊎◌, inl, inr, arith, nat_eq}
use Rattle.std.specs.Prelude.{slice_get, unwrap_or, option_to_list}
use Rattle.std.proofs.lemmas.List.{append-nil}
use Rattle.std.specs.Result.{OnErr}
use Rattle.std.proofs.lemmas.Option.{slice_get_within, slice_get_past}
use Rattle.std.proofs.lemmas.Bool.{eqb-true, eq-eqb}
use Rattle.std.proofs.lemmas.Bool.Decides.{nat_tests}
use Rattle.marks.specs.Placed.{last_place, most}
use Rattle.marks.specs.Links.{AreLinked, IsPlaceOf, IsSet, IsTable, has_mark, longest, newest_of}
use Rattle.marks.specs.declared.table.Table.{Table}
use Rattle.marks.proofs.PlacedLemmas.{at_last_place, length-more, slice_get-cases, slice_get-front, slice_get-kept, slice_get-next, last_place-front, last_place-more, last_place-within, with_last}
use Rattle.marks.proofs.TableLemmas.{newest-less, probed-less}

-- the last place of a mark, one further
pub one_further : (marks : List ℕ) (i here mark new old : ℕ) → new ≡ cond (nat_eq mark here) (i + 1) old → old ≡ last_place (nat_eq mark) marks i
    → slice_get marks i ≡ Some here → new ≡ last_place (nat_eq mark) marks (i + 1)
one_further marks i here mark new old is before at =
    let next : i + 1 ≡ suc i = omega arith in
    is ∙ ap (λ (n : ℕ). cond (nat_eq mark here) (i + 1) n) before ∙ rw (next, at) refl

-- a place of the marks that are there
pub place_there : (marks : List ℕ) (i mark : ℕ) → slice_get marks i ≡ Some mark → IsPlaceOf marks mark (i + 1)
place_there marks i mark at j is = let same : i ≡ j = omega (arith, is) in subst (λ (k : ℕ). slice_get marks k ≡ Some mark) same at

pub set_there : (marks : List ℕ) (old new : Table) (mark place : ℕ) → IsPlaceOf marks mark place
    → ((more : List ℕ) → IsPlaceOf (marks ++ more) mark place → IsSet marks (marks ++ more) old new mark place) → IsSet marks marks old new mark place
set_there marks old new mark place is set =
    subst (λ (more : List ℕ). IsSet marks more old new mark place) (append-nil marks)
    (set [] (subst (λ (more : List ℕ). IsPlaceOf more mark place) (sym (append-nil marks)) is))

-- the places before one that is added or taken away
before_last : (marks : List ℕ) (last mark i : ℕ) → i ≤ length marks → last_place (nat_eq mark) (marks ++ last ∷ []) i ≡ last_place (nat_eq mark) marks i
before_last marks last mark i h = last_place-front (nat_eq mark) marks (last ∷ []) i h

-- what is added last to two lists of one length
last_beside : (marks older : List ℕ) (last place : ℕ) → length older ≡ length marks → slice_get (older ++ place ∷ []) (length marks) ≡ Some place
last_beside marks older last place even = subst (λ (n : ℕ). slice_get (older ++ place ∷ []) n ≡ Some place) even (slice_get-next older place)

-- one more mark
module _ (marks older : List ℕ) (newest new : Table) (last place : ℕ) (are : AreLinked marks older newest)
    (newest_is : place ≡ newest_of marks newest last) (set : IsSet marks (marks ++ last ∷ []) newest new last (length marks + 1)) where
  earlier : (i mark q : ℕ) → (slice_get marks i ≡ Some mark) ⊎ ((i ≡ length marks) × (last ≡ mark)) → slice_get (older ++ place ∷ []) i ≡ Some q
      → q ≡ last_place (nat_eq mark) (marks ++ last ∷ []) i
  earlier i mark q (inl h) at =
      let within = slice_get_within marks i mark h in
      let even = are.even in
      let there : slice_get older i ≡ Some q = sym (slice_get-front older (place ∷ []) i (omega (arith, within, even))) ∙ at in
      are.earlier i mark q h there ∙ sym (before_last marks last mark i (omega (arith, within)))
  earlier i mark q (inr h) at =
      let there : slice_get (older ++ place ∷ []) i ≡ Some place = subst (λ (k : ℕ). slice_get (older ++ place ∷ []) k ≡ Some place) (sym h.0) (last_beside marks older last place are.even) in
      let same : q ≡ place = (let both : Some q ≡ Some place = sym at ∙ there in cc) in
      same
      ∙ subst (λ (m : ℕ). place ≡ last_place (nat_eq m) (marks ++ last ∷ []) i) h.1
      (subst (λ (k : ℕ). place ≡ last_place (nat_eq last) (marks ++ last ∷ []) k) (sym h.0)
      (newest_is ∙ are.latest last ∙ sym (before_last marks last last (length marks) (omega arith))))

  pub more_links : AreLinked (marks ++ last ∷ []) (older ++ place ∷ []) new
  more_links = record {
    probed = set.table;
    even = let even = are.even in let long = length-more older place in let more = length-more marks last in omega (arith, even, long, more);
    earlier = λ i mark q h at. earlier i mark q (slice_get-cases marks last i mark h) at;
    latest = λ mark.
        set.newest mark
        ∙ ap (λ (n : ℕ). cond (nat_eq mark last) (length marks + 1) n) (are.latest mark)
        ∙ ap (λ (n : ℕ). cond (nat_eq mark last) n (last_place (nat_eq mark) marks (length marks))) (let e : length marks + 1 ≡ suc (length marks) = omega arith in e)
        ∙ sym (last_place-more (nat_eq mark) marks last);
  }

-- the place of the mark that comes
pub next_place : (marks : List ℕ) (mark : ℕ) → IsPlaceOf (marks ++ mark ∷ []) mark (length marks + 1)
next_place marks mark i is = let last : length marks ≡ i = omega (arith, is) in subst (λ (k : ℕ). slice_get (marks ++ mark ∷ []) k ≡ Some mark) last (slice_get-next marks mark)

-- the marks before the last
pub split_last : (marks : List ℕ) (mark : ℕ) → slice_get marks (length marks - 1) ≡ Some mark → marks ≡ take (length marks - 1) marks ++ mark ∷ []
split_last marks mark there = let within = slice_get_within marks (length marks - 1) mark there in with_last marks (length marks - 1) mark there (omega (arith, within))

last-apart : (xs ys : List ℕ) (x y : ℕ) → xs ++ x ∷ [] ≡ ys ++ y ∷ [] → xs ≡ ys
last-apart [] [] x y e = refl
last-apart [] (b ∷ ys) x y e = let long : 1 ≡ suc (length (ys ++ y ∷ [])) = ap length e in let more = length-more ys y in absurd (omega (arith, long, more))
last-apart (a ∷ xs) [] x y e = let long : suc (length (xs ++ x ∷ [])) ≡ 1 = ap length e in let more = length-more xs x in absurd (omega (arith, long, more))
last-apart (a ∷ xs) (b ∷ ys) x y e =
    let first : a ≡ b = cc in
    let others : xs ++ x ∷ [] ≡ ys ++ y ∷ [] = cc in
    let same = last-apart xs ys x y others in
    rw (first, same) refl

pub marks_before : (all front marks : List ℕ) (last mark : ℕ) → all ≡ front ++ last ∷ [] → all ≡ marks ++ mark ∷ [] → front ≡ marks
marks_before all front marks last mark split is = last-apart front marks last mark (sym split ∙ is)

-- what was taken from the end of a list that is not empty
pub popped : (older rest : List ℕ) (o : Option ℕ) (place : ℕ) → o ≡ Some place → older ≡ rest ++ option_to_list o → older ≡ rest ++ unwrap_or o 0 ∷ []
popped older rest o place is split = rw is (rw is at split)

-- one mark less
module _ (marks older : List ℕ) (last place : ℕ) (newest : Table) (are : AreLinked (marks ++ last ∷ []) (older ++ place ∷ []) newest) where
  newest_of_last : newest_of (marks ++ last ∷ []) newest last ≡ suc (length marks)
  newest_of_last =
      are.latest last ∙ last_place-more (nat_eq last) marks last
      ∙ ap (λ (b : Bool). cond b (suc (length marks)) (last_place (nat_eq last) marks (length marks))) (eq-eqb last last refl)

  pub last_is_there : newest_of (marks ++ last ∷ []) newest last ≢ 0
  last_is_there none = let e : 0 ≡ suc (length marks) = sym none ∙ newest_of_last in omega (arith, e)

  even_less : length older ≡ length marks
  even_less = let even = are.even in let long = length-more older place in let more = length-more marks last in omega (arith, even, long, more)

  older_is : place ≡ last_place (nat_eq last) marks (length marks)
  older_is =
      are.earlier (length marks) last place (slice_get-next marks last) (last_beside marks older last place even_less)
      ∙ before_last marks last last (length marks) (omega arith)

  -- the place before it with its mark
  pub older_place : IsPlaceOf (marks ++ last ∷ []) last place
  older_place i is =
      let w = at_last_place (nat_eq last) marks (length marks) i (sym older_is ∙ is) in
      slice_get-kept marks (last ∷ []) i last (w.1 ∙ ap Some (sym (eqb-true last w.0 w.2)))

  pub less_links : (new : Table) → IsSet (marks ++ last ∷ []) (marks ++ last ∷ []) newest new last place → AreLinked marks older new
  less_links new set = record {
    probed = probed-less longest marks last new.slots new.rest set.table past;
    even = even_less;
    earlier = λ i mark q h at.
        let within = slice_get_within marks i mark h in
        are.earlier i mark q (slice_get-kept marks (last ∷ []) i mark h) (slice_get-kept older (place ∷ []) i q at)
        ∙ before_last marks last mark i (omega (arith, within));
    latest = λ mark. newest-less longest marks last new.slots new.rest set.table past mark ∙ set.newest mark ∙ by_test mark (nat_eq mark last) refl;
  }
    where
      past : newest_of (marks ++ last ∷ []) new last ≢ suc (length marks)
      past e =
          let within = last_place-within (nat_eq last) marks (length marks) in
          let is : place ≡ suc (length marks) = ap (λ (b : Bool). cond b place (newest_of (marks ++ last ∷ []) newest last)) (sym (eq-eqb last last refl)) ∙ sym (set.newest last) ∙ e in
          let place_is = older_is in
          omega (arith, within, is, place_is)

      by_test : (mark : ℕ) (b : Bool) → nat_eq mark last ≡ b → cond b place (newest_of (marks ++ last ∷ []) newest mark) ≡ last_place (nat_eq mark) marks (length marks)
      by_test mark true t = older_is ∙ ap (λ (m : ℕ). last_place (nat_eq m) marks (length marks)) (sym (eqb-true mark last t))
      by_test mark false t =
          are.latest mark ∙ last_place-more (nat_eq mark) marks last
          ∙ ap (λ (b : Bool). cond b (suc (length marks)) (last_place (nat_eq mark) marks (length marks))) t

-- ---- the marks that callers see

pub newest_shown : (marks ms older : List ℕ) (table : Table) (now : List ℕ) (mark place : ℕ) → AreLinked marks older table
    → marks ≡ now → ms ≡ marks → place ≡ newest_of ms table mark
    → place ≡ last_place (nat_eq mark) now (length now)
newest_shown marks ms older table now mark place are shown same is =
    is ∙ ap (λ (l : List ℕ). newest_of l table mark) same ∙ rw (← shown) (are.latest mark)

pub older_shown : (marks older : List ℕ) (table : Table) (now : List ℕ) (index place : ℕ) → AreLinked marks older table
    → marks ≡ now → slice_get older index ≡ Some place
    → (mark : ℕ) → slice_get now index ≡ Some mark → place ≡ last_place (nat_eq mark) now index
older_shown marks older table now index place are shown there mark is =
    rw (← shown) (are.earlier index mark place (rw shown is) there)

pub none_shown : (marks older os : List ℕ) (table : Table) (now : List ℕ) (index : ℕ) → AreLinked marks older table
    → marks ≡ now → os ≡ older → false ≡ nat_lt index (length os)
    → (mark : ℕ) → slice_get now index ≡ Some mark → 0 ≡ last_place (nat_eq mark) now index
none_shown marks older os table now index are shown same none mark is =
    let past : length os ≤ index = grind (arith, nat_tests) in
    let within = slice_get_within now index mark is in
    let even = are.even in
    absurd (omega (arith, within, past, ap length same, ap length shown, even))

pub refused_shown : {T E : Type 0} (r : Result T E) (marks ms now : List ℕ) → marks ≡ now → ms ≡ marks → OnErr r (ms ≡ now)
refused_shown (Ok x) marks ms now shown same = tt
refused_shown (Err e) marks ms now shown same = same ∙ shown

-- ---- the marks as a caller holds them, and a table in which the same is found

abbrev pub Kept : List ℕ → List ℕ → Table → Type 0
Kept marks older table = AreLinked marks older table × (length marks ≤ most)

pub same_links : (marks ms older os : List ℕ) (table : Table) → ms ≡ marks → os ≡ older → Kept marks older table → Kept ms os table
same_links marks ms older os table same even are =
    subst (λ (xs : List ℕ). Kept xs os table) (sym same) (subst (λ (ys : List ℕ). Kept marks ys table) (sym even) are)

pub other_table : (marks ms older : List ℕ) (old new : Table) → Kept marks older old → ms ≡ marks
    → IsTable ms new → ((m : ℕ) → newest_of ms new m ≡ newest_of ms old m) → Kept marks older new
other_table marks ms older old new are same table found = (
  record {
    probed = subst (λ (xs : List ℕ). IsTable xs new) same table;
    even = are.0.even;
    earlier = are.0.earlier;
    latest = λ m. subst (λ (xs : List ℕ). newest_of xs new m ≡ newest_of xs old m) same (found m) ∙ are.0.latest m;
  },
  are.1,
)

-- ---- the mark at a place that is not 0

pub mark_there : (marks : List ℕ) (place mark here : ℕ) → (place ≡ 0 → ⊥)
    → slice_get marks (place - 1) ≡ Some here → nat_eq here mark ≡ has_mark marks place mark
mark_there marks zero mark here some there = absurd (some refl)
mark_there marks (suc i) mark here some there =
    let less : suc i - 1 ≡ i = omega arith in
    let at : slice_get marks i ≡ Some here = rw less at there in
    rw at refl

pub no_mark : (marks : List ℕ) (place mark : ℕ) → (place ≡ 0 → ⊥) → false ≡ nat_lt (place - 1) (length marks)
    → false ≡ has_mark marks place mark
no_mark marks zero mark some none = absurd (some refl)
no_mark marks (suc i) mark some none =
    let past : length marks ≤ i = grind (arith, nat_tests) in
    rw (slice_get_past marks i past) refl

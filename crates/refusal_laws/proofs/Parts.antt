-- The leftmost part that fails is the one that reading stops at.
use Rattle.std.proofs.Common.{◌≡◌, ℕ, suc, ◌+◌, ◌-◌, ◌<◌, ◌==◌, ◌&&◌, Bool, true, false, cond, List, [], ◌∷◌, ◌++◌, length, get_or, take, Option, None, Some, Result, Ok, Err, refl, sym, ap, subst, ◌∙◌, arith}
use Rattle.std.specs.Prelude.{nat_lt}
use Rattle.std.specs.List.{position_or_len, before_first, after_first, list_any}
use Rattle.std.proofs.Math.Seq.{take-append_seam}
use Rattle.std.proofs.lemmas.Bool.{true≢false, eqb-true, eq-eqb, ltb-true, lt-ltb, or_parts}
use Rattle.std.proofs.lemmas.List.{get_or-take, length-append, length-take}
use Rattle.std.proofs.lemmas.List.Folds.{list_any_none}
use Rattle.std.proofs.lemmas.List.Sums.{fails_before_first, passes_at_first, split_at_first}
use Rattle.tuple_text.specs.Forms.{is_name, is_object_id, plain_number}
use Rattle.tuple_text.specs.Reading.{part_at, userset_at, id_or, id_only, user_at, head_at, tuple_at, fact_at}
use Rattle.tuple_text.specs.Sets.{SetValue}
use Rattle.tuple_text.specs.Tuples.{FactValue, TupleValue, fact_of, tuple_of}
use Rattle.tuple_text.specs.declared.fault.TupleFault.{TupleFault}
use Rattle.tuple_text.specs.declared.fault.TupleFault.TheVariants as faults
use Rattle.refusals.specs.Refusals.{◌>>=◌}
use Rattle.refusal_laws.specs.Leftmost.{BeginsWith, Lacks, Namespaced, Named, Related, IsLeftmost, IsLeftmostOfFact, IsLeftmostWhere}

abbrev Part : Type 0
Part = Result (List ℕ × List ℕ) TupleFault

abbrev Front : Type 0
Front = Result (SetValue × List ℕ) TupleFault

module _ (delimiter : ℕ) where
  abbrev is_it : ℕ → Bool
  is_it b = b == delimiter

  -- where the delimiter stands, the text is what stands before it, the delimiter, and the rest
  split_here : (text : List ℕ) → position_or_len is_it text < length text
      → text ≡ before_first is_it text ++ delimiter ∷ after_first is_it text
  split_here text lt =
      split_at_first is_it text 0 lt
      ∙ ap (λ (b : ℕ). before_first is_it text ++ b ∷ after_first is_it text) (eqb-true (get_or text (position_or_len
      is_it text) 0) delimiter (passes_at_first is_it text 0 lt))

  none_before : (text : List ℕ) → list_any is_it (before_first is_it text) ≡ false
  none_before text =
      list_any_none is_it (before_first is_it text) (λ k d lt.
      let n = length-take (position_or_len is_it text) text in
      let before : k < position_or_len is_it text = omega (arith, lt, n) in
      ap is_it (get_or-take (position_or_len is_it text) text k d before) ∙ fails_before_first is_it text k d before)

  -- the first delimiter ends a part without one
  first_ends : (part rest : List ℕ) → list_any is_it part ≡ false
      → position_or_len is_it (part ++ delimiter ∷ rest) ≡ length part
  first_ends [] rest h = rw (eq-eqb delimiter delimiter refl) refl
  first_ends (x ∷ xs) rest h =
      let both = or_parts (is_it x) (list_any is_it xs) h in
      let next : 1 + position_or_len is_it (xs ++ delimiter ∷ rest) ≡ suc (length xs) = let same = first_ends xs rest
      both.1 in omega (arith, same) in
      rw both.0 next

  module _ (test : List ℕ → Bool) (fault : TupleFault) (text : List ℕ) where
    abbrev found : Bool
    found = nat_lt (position_or_len is_it text) (length text) && test (before_first is_it text)

    abbrev answer : Bool → Part
    answer b = cond {A = Part} b (Ok (before_first is_it text, after_first is_it text)) (Err fault)

    both : (a b : Bool) → (a && b) ≡ true → (a ≡ true) × (b ≡ true)
    both true true h = (refl, refl)
    both true false h = cc
    both false b h = cc

    part_begins : (p : List ℕ × List ℕ) → part_at test delimiter fault text ≡ Ok p
        → BeginsWith test delimiter text p.0 p.1
    part_begins p h = by_test found refl h
      where
        begins : found ≡ true → BeginsWith test delimiter text (before_first is_it text) (after_first is_it text)
        begins is =
            let parts = both (nat_lt (position_or_len is_it text) (length text)) (test (before_first is_it text)) is in
            record { split = split_here text (ltb-true _ _ parts.0); first = none_before text; passes = parts.1 }

        by_test : (b : Bool) → found ≡ b → answer b ≡ Ok p → BeginsWith test delimiter text p.0 p.1
        by_test true is h =
            let same : (before_first is_it text, after_first is_it text) ≡ p = cc in
            subst (λ (q : List ℕ × List ℕ). BeginsWith test delimiter text q.0 q.1) same (begins is)
        by_test false is h = cc

    part_lacks : (e : TupleFault) → part_at test delimiter fault text ≡ Err e → (e ≡ fault) × Lacks test delimiter text
    part_lacks e h = by_test found refl h
      where
        lacks : found ≡ false → Lacks test delimiter text
        lacks is part rest begins =
            let place = subst (λ (t : List ℕ). position_or_len is_it t ≡ length part) (sym begins.split) (first_ends
            part rest begins.first) in
            let long : length text ≡ length part + suc (length rest) = ap length begins.split
            ∙ length-append part (delimiter ∷ rest) in
            let before : before_first is_it text ≡ part =
            ap (λ (n : ℕ). take n text) place ∙ ap (take (length part)) begins.split
            ∙ take-append_seam part (delimiter ∷ rest) in
            let lt : nat_lt (position_or_len is_it text) (length text) ≡ true = lt-ltb _ _ (omega (arith, place, long))
            in
            let yes : found ≡ true = rw (lt, before) begins.passes in
            true≢false (sym yes ∙ is)

        by_test : (b : Bool) → found ≡ b → answer b ≡ Err e → (e ≡ fault) × Lacks test delimiter text
        by_test true is h = cc
        by_test false is h = let same : fault ≡ e = cc in (sym same, lacks is)

  -- the rest begins behind the part and the delimiter
  behind : (test : List ℕ → Bool) (text part rest : List ℕ) → BeginsWith test delimiter text part rest
      → length text ≡ length part + 1 + length rest
  behind test text part rest begins = let n = ap length begins.split ∙ length-append part (delimiter ∷ rest) in
      omega (arith, n)

-- what is read behind the head stops at the user alone
module _ {V : Type 0} (IsNoUser : List ℕ → Type 0) (text : List ℕ) (f : TupleFault)
    (then_user : SetValue × List ℕ → Result V TupleFault)
    (user_stops : (s : SetValue) (rest : List ℕ) → Related text (length text - length rest) rest
    → then_user (s, rest) ≡ Err f → IsLeftmostWhere IsNoUser text f) where
  abbrev then_relation : List ℕ → List ℕ → List ℕ × List ℕ → Front
  then_relation n i relation = Ok (record { namespace = n; id = i; relation = relation.0 }, relation.1)

  abbrev then_id : List ℕ → List ℕ × List ℕ → Front
  then_id n id = part_at is_name 64 (faults.Relation (length text - length id.1)) id.1 >>= then_relation n id.0

  abbrev then_namespace : List ℕ × List ℕ → Front
  then_namespace namespace = part_at is_object_id 35 (faults.ObjectId (length text - length namespace.1)) namespace.1
      >>= then_id namespace.0

  relation_stops : (rest : List ℕ) (at : ℕ) (r : Part) (n i : List ℕ) → Named text at rest
      → at ≡ length text - length rest
      → part_at is_name 64 (faults.Relation (length text - length rest)) rest ≡ r
      → ((r >>= then_relation n i) >>= then_user) ≡ Err f → IsLeftmostWhere IsNoUser text f
  relation_stops rest at (Err e) n i named here is h =
      let lacks = part_lacks 64 is_name (faults.Relation (length text - length rest)) rest e is in
      let same : e ≡ f = cc in
      subst (IsLeftmostWhere IsNoUser text) (ap faults.Relation here ∙ sym lacks.0 ∙ same) (rest, named, lacks.1)
  relation_stops rest at (Ok p) n i named here is h =
      let begins = part_begins 64 is_name (faults.Relation (length text - length rest)) rest p is in
      let long = behind 64 is_name rest p.0 p.1 begins in
      let front = at_front named in
      let there : at + (length p.0 + 1) ≡ length text - length p.1 = omega (arith, long, front) in
      user_stops _ p.1 (record {
        front = at;
        behind = rest;
        relation = p.0;
        named = named;
        further = begins;
        long = sym there;
      }) h
    where
      at_front : Named text at rest → length text ≡ at + length rest
      at_front named =
          let one = behind 58 is_name text named.namespace named.behind named.begins in
          let two = behind 35 is_object_id named.behind named.id rest named.further in
          let sum = named.long in
          omega (arith, one, two, sum)

  id_stops : (n rest : List ℕ) (r : Part) → Namespaced text n rest
      → part_at is_object_id 35 (faults.ObjectId (length text - length rest)) rest ≡ r
      → ((r >>= then_id n) >>= then_user) ≡ Err f → IsLeftmostWhere IsNoUser text f
  id_stops n rest (Err e) begins is h =
      let lacks = part_lacks 35 is_object_id (faults.ObjectId (length text - length rest)) rest e is in
      let same : e ≡ f = cc in
      let long = behind 58 is_name text n rest begins in
      let here : length text - length rest ≡ length n + 1 = omega (arith, long) in
      subst (IsLeftmostWhere IsNoUser text) (sym lacks.0 ∙ same) (n, rest, begins, here, lacks.1)
  id_stops n rest (Ok p) begins is h =
      let further = part_begins 35 is_object_id (faults.ObjectId (length text - length rest)) rest p is in
      let one = behind 58 is_name text n rest begins in
      let two = behind 35 is_object_id rest p.0 p.1 further in
      let long : length text - length p.1 ≡ (length n + 1) + (length p.0 + 1) = omega (arith, one, two) in
      relation_stops p.1 (length text - length p.1) (part_at is_name 64 (faults.Relation (length text - length p.1))
      p.1) n p.0
      (record { namespace = n; behind = rest; id = p.0; begins = begins; further = further; long = long }) refl refl h

  head_stops : (head_at text >>= then_user) ≡ Err f → IsLeftmostWhere IsNoUser text f
  unfolding head_at
  head_stops h = by_namespace (part_at is_name 58 (faults.Namespace 0) text) refl h
    where
      by_namespace : (r : Part) → part_at is_name 58 (faults.Namespace 0) text ≡ r
          → ((r >>= then_namespace) >>= then_user) ≡ Err f → IsLeftmostWhere IsNoUser text f
      by_namespace (Err e) is h =
          let lacks = part_lacks 58 is_name (faults.Namespace 0) text e is in
          let same : e ≡ f = cc in
          subst (IsLeftmostWhere IsNoUser text) (sym lacks.0 ∙ same) (refl, lacks.1)
      by_namespace (Ok p) is h =
          id_stops p.0 p.1 (part_at is_object_id 35 (faults.ObjectId (length text - length p.1)) p.1) (part_begins 58
          is_name (faults.Namespace 0) text p is) refl h

module _ (text : List ℕ) (f : TupleFault) where
  abbrev then_user : SetValue × List ℕ → Result TupleValue TupleFault
  then_user head = user_at (length text - length head.1) head.1 >>= λ user. Ok (tuple_of head.0 user)

  abbrev then_number : SetValue × List ℕ → Result FactValue TupleFault
  then_number head = id_only (length text - length head.1) (plain_number head.1) >>= λ user. Ok (fact_of head.0 user)

  user_fails : (s : SetValue) (rest : List ℕ) → Related text (length text - length rest) rest → then_user (s, rest) ≡ Err f
      → IsLeftmost text f
  unfolding user_at
  user_fails s rest related h = by_number (plain_number rest) refl (userset_at rest) refl h
    where
      by_number : (o : Option ℕ) → plain_number rest ≡ o → (r : Result SetValue TupleFault) → userset_at rest ≡ r
          → (id_or (length text - length rest) o r >>= λ user. Ok (tuple_of s user)) ≡ Err f → IsLeftmost text f
      by_number (Some n) is r set h = cc
      by_number None is (Ok u) set h = cc
      by_number None is (Err e) set h =
          let same : faults.User (length text - length rest) ≡ f = cc in
          subst (IsLeftmost text) same (rest, related, (is, λ u ok. (let no : Ok u ≡ Err e = sym ok ∙ set in cc)))

  number_fails : (s : SetValue) (rest : List ℕ) → Related text (length text - length rest) rest
      → then_number (s, rest) ≡ Err f → IsLeftmostOfFact text f
  number_fails s rest related h = by_number (plain_number rest) refl h
    where
      by_number : (o : Option ℕ) → plain_number rest ≡ o
          → (id_only (length text - length rest) o >>= λ user. Ok (fact_of s user)) ≡ Err f → IsLeftmostOfFact text f
      by_number (Some n) is h = cc
      by_number None is h =
          let same : faults.User (length text - length rest) ≡ f = cc in
          subst (IsLeftmostOfFact text) same (rest, related, is)

  pub leftmost : tuple_at text ≡ Err f → IsLeftmost text f
  unfolding tuple_at
  leftmost h = head_stops (λ rest. (plain_number rest ≡ None) × ((s : SetValue) → ¬ (userset_at rest ≡ Ok s))) text f
      then_user user_fails h

  pub leftmost_of_fact : fact_at text ≡ Err f → IsLeftmostOfFact text f
  unfolding fact_at
  leftmost_of_fact h = head_stops (λ rest. plain_number rest ≡ None) text f then_number number_fails h

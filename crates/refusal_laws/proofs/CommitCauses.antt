-- A commit is refused for the least cause that applies.
use Rattle.std.proofs.Common.{◌≡◌, ℕ, ◌&&◌, Bool, true, false, List, [], ◌∷◌, ◌++◌, Option, None, Some, Result, Ok, Err, inl, inr, refl, sym, ap, ◌∙◌, subst, arith}
use Rattle.std.specs.Prelude.{option_map, codes, if◌then◌else◌}
use Rattle.std.proofs.lemmas.List.Folds.{list_all-append}
use Rattle.serde_json.specs.Data.{Data, null, boolean, number, string, array, object, Items, no_items, item}
use Rattle.tuple_text.specs.Reading.{tuple_at}
use Rattle.tuple_text.specs.Tuples.{TupleValue}
use Rattle.tuple_text.specs.declared.fault.TupleFault.{TupleFault}
use Rattle.refusals.specs.Refusals.{◌>>=◌}
use Rattle.json_lines.specs.Fields.{number_at, strings_at, strings_of, are_strings}
use Rattle.strata.specs.Edges.{first_broken, edges_of_tuples}
use Rattle.strata.specs.declared.edge.Edge.{Edge}
use Rattle.version_chains.specs.Appends.{append_fault}
use Rattle.version_chains.specs.Commits.{Commit}
use Rattle.version_chains.specs.declared.fault.AppendFault.{AppendFault}
use Rattle.trace_lines.specs.Causes.{text_cause}
use Rattle.trace_lines.specs.Texts.{tuples_of}
use Rattle.trace_lines.specs.Traces.{is_declared, are_declared, changes_of, commit_line, commit_of, with_commit, with_touches, append_cause, strata_cause}
use Rattle.trace_lines.specs.Values.{TraceValue}
use Rattle.trace_lines.specs.declared.cause.Cause.{Cause}
use Rattle.trace_lines.specs.declared.cause.Cause.TheVariants as causes
use Rattle.refusal_laws.specs.LeastCause.{TellsTheLeast, first_fault, fault_or, readable, read_and}
use Rattle.refusal_laws.specs.TraceCauses as spec
use Rattle.refusal_laws.specs.TraceCauses.{CommitFields, commit_fields, AppliesToCommit, texts_of}
use Rattle.refusal_laws.proofs.Least.{chain, AreRising, IsFault, one_meets, tells_the_least, tells_the_only, first_of_two, first_fault-append, readable-append}

-- ---- texts

abbrev text_fault : Option TupleFault → Option Cause
text_fault o = option_map (λ (f : TupleFault). causes.Text f) o

pub is_of_strings : (field : Option Data) (ds : Items) → strings_of field ≡ Some ds → are_strings ds ≡ true
unfolding strings_of
is_of_strings None ds e = let same : no_items ≡ ds = cc in subst (λ (x : Items). are_strings x ≡ true) same refl
is_of_strings (Some null) ds e = let same : no_items ≡ ds = cc in subst (λ (x : Items). are_strings x ≡ true) same refl
is_of_strings (Some (boolean b)) ds e = absurd (cc)
is_of_strings (Some (number n)) ds e = absurd (cc)
is_of_strings (Some (string s)) ds e = absurd (cc)
is_of_strings (Some (array es)) ds e = by_test (are_strings es) refl e
  where
    by_test : (b : Bool) → are_strings es ≡ b → (if b then Some es else None) ≡ Some ds → are_strings ds ≡ true
    by_test true is e = let same : es ≡ ds = cc in subst (λ (x : Items). are_strings x ≡ true) same is
    by_test false is e = absurd (cc)
is_of_strings (Some (object ms)) ds e = absurd (cc)

tuples_of_texts : (ds : Items) → are_strings ds ≡ true
    → tuples_of ds ≡ chain (text_fault (first_fault tuple_at (texts_of ds)) ∷ []) (Ok (readable tuple_at (texts_of ds)))
tuples_of_texts no_items are = refl
tuples_of_texts (item (string s) ds) are = by_result (tuple_at s) (first_fault tuple_at (texts_of ds)) (readable tuple_at (texts_of ds)) (tuples_of_texts ds are)
  where
    by_result : (r : Result TupleValue TupleFault) (o : Option TupleFault) (ts : List TupleValue)
        → tuples_of ds ≡ chain (text_fault o ∷ []) (Ok ts)
        → (text_cause r >>= λ t. tuples_of ds >>= λ us. Ok (t ∷ us)) ≡ chain (text_fault (fault_or r o) ∷ []) (Ok (read_and r ts))
    by_result (Err f) o ts same = refl
    by_result (Ok t) None ts same = rw same refl
    by_result (Ok t) (Some f) ts same = rw same refl
tuples_of_texts (item null ds) are = absurd (cc)
tuples_of_texts (item (boolean b) ds) are = absurd (cc)
tuples_of_texts (item (number n) ds) are = absurd (cc)
tuples_of_texts (item (array es) ds) are = absurd (cc)
tuples_of_texts (item (object ms) ds) are = absurd (cc)

-- ---- what is put in

abbrev unless_declared : Bool → Option Cause
unless_declared true = None
unless_declared false = Some causes.Unknown

abbrev broken_in : Result (Unit {0}) Edge → Option Cause
broken_in (Ok u) = None
broken_in (Err e) = Some (causes.Strata e)

abbrev refused_append : Option AppendFault → Option Cause
refused_append o = option_map (λ (f : AppendFault). causes.Commit f) o

with_commit_chain : (n : ℕ) (t : TraceValue) (c : Commit)
    → with_commit n t c ≡ chain (unless_declared (are_declared t.declarations c.adds && are_declared t.declarations c.removes)
    ∷ broken_in (first_broken t.declarations (edges_of_tuples t.declarations c.adds))
    ∷ refused_append (append_fault (changes_of t) c.at c.adds c.removes) ∷ []) (Ok (with_touches n t c))
unfolding with_commit
with_commit_chain n t c =
    by_cases (are_declared t.declarations c.adds && are_declared t.declarations c.removes)
    (first_broken t.declarations (edges_of_tuples t.declarations c.adds)) (append_fault (changes_of t) c.at c.adds c.removes)
  where
    by_cases : (b : Bool) (r : Result (Unit {0}) Edge) (o : Option AppendFault)
        → (if b then ((strata_cause r >>= λ u. append_cause o) >>= λ u. Ok (with_touches n t c)) else Err causes.Unknown)
        ≡ chain (unless_declared b ∷ broken_in r ∷ refused_append o ∷ []) (Ok (with_touches n t c))
    by_cases false r o = refl
    by_cases true (Err e) o = refl
    by_cases true (Ok u) None = refl
    by_cases true (Ok u) (Some f) = refl

module _ (n : ℕ) (t : TraceValue) (d : Data) where
  -- the tests in turn, each by itself
  abbrev tests : CommitFields → List (Option Cause)
  tests c =
      text_fault (first_fault tuple_at (c.add ++ c.remove))
      ∷ unless_declared (are_declared t.declarations (readable tuple_at (c.add ++ c.remove)))
      ∷ broken_in (first_broken t.declarations (edges_of_tuples t.declarations (readable tuple_at c.add)))
      ∷ refused_append (append_fault (changes_of t) c.at (readable tuple_at c.add) (readable tuple_at c.remove)) ∷ []

  abbrev made : CommitFields → TraceValue
  made c = with_touches n t (record { at = c.at; adds = readable tuple_at c.add; removes = readable tuple_at c.remove })

  are_rising : (c : CommitFields) → AreRising spec.number 0 (tests c)
  are_rising c = (6, omega arith, of_text _, (10, omega arith, of_declared _, (11, omega arith, of_edge _, (12, omega arith, of_append _, tt))))
    where
      of_text : (o : Option TupleFault) (x : Cause) → text_fault o ≡ Some x → spec.number x ≡ 6
      of_text None x e = absurd (cc)
      of_text (Some f) x e = let same : causes.Text f ≡ x = cc in subst (λ (y : Cause). spec.number y ≡ 6) same refl

      of_declared : (b : Bool) (x : Cause) → unless_declared b ≡ Some x → spec.number x ≡ 10
      of_declared true x e = absurd (cc)
      of_declared false x e = let same : causes.Unknown ≡ x = cc in subst (λ (y : Cause). spec.number y ≡ 10) same refl

      of_edge : (r : Result (Unit {0}) Edge) (x : Cause) → broken_in r ≡ Some x → spec.number x ≡ 11
      of_edge (Ok u) x e = absurd (cc)
      of_edge (Err b) x e = let same : causes.Strata b ≡ x = cc in subst (λ (y : Cause). spec.number y ≡ 11) same refl

      of_append : (o : Option AppendFault) (x : Cause) → refused_append o ≡ Some x → spec.number x ≡ 12
      of_append None x e = absurd (cc)
      of_append (Some f) x e = let same : causes.Commit f ≡ x = cc in subst (λ (y : Cause). spec.number y ≡ 12) same refl

  -- the line is read by them
  is_read : (at : ℕ) (add remove : Items) → number_at (codes "at") d ≡ Some at → strings_at (codes "add") d ≡ Some add
      → strings_at (codes "remove") d ≡ Some remove
      → commit_line n t d ≡ chain (tests (record { at = at; add = texts_of add; remove = texts_of remove }))
      (Ok (made (record { at = at; add = texts_of add; remove = texts_of remove })))
  unfolding commit_of
  is_read at add remove ats adds removes =
      rw (
        ats,
        adds,
        removes,
        tuples_of_texts add (is_of_strings _ add adds),
        tuples_of_texts remove (is_of_strings _ remove removes),
        first_fault-append tuple_at (texts_of add) (texts_of remove),
        readable-append tuple_at (texts_of add) (texts_of remove),
        list_all-append (λ (x : TupleValue). is_declared t.declarations x.set) (readable tuple_at (texts_of add)) (readable tuple_at (texts_of remove)),
      )
      (by_texts (first_fault tuple_at (texts_of add)) (first_fault tuple_at (texts_of remove)))
    where
      value : Commit
      value = record { at = at; adds = readable tuple_at (texts_of add); removes = readable tuple_at (texts_of remove) }

      by_texts : (o p : Option TupleFault)
          → ((chain (text_fault o ∷ []) (Ok value.adds) >>= λ a. chain (text_fault p ∷ []) (Ok value.removes)
          >>= λ r. Ok (record { at = at; adds = a; removes = r })) >>= with_commit n t)
          ≡ chain (text_fault (first_of_two o p)
          ∷ unless_declared (are_declared t.declarations value.adds && are_declared t.declarations value.removes)
          ∷ broken_in (first_broken t.declarations (edges_of_tuples t.declarations value.adds))
          ∷ refused_append (append_fault (changes_of t) value.at value.adds value.removes) ∷ []) (Ok (with_touches n t value))
      by_texts (Some f) p = refl
      by_texts None (Some f) = refl
      by_texts None None = with_commit_chain n t value

  -- ---- the causes are the faults of the tests

  module _ (c : CommitFields) (is : commit_fields d ≡ Some c) where
    there : (x : Cause) → AppliesToCommit t d x → IsFault (tests c) x
    there causes.Shape h = let none : None ≡ Some c = sym h ∙ is in absurd (cc)
    there (causes.Text f) h = inl (ap text_fault (rw is at h))
    there causes.Unknown h = inr (inl (ap unless_declared (rw is at h)))
    there (causes.Strata e) h = inr (inr (inl (ap broken_in (rw is at h))))
    there (causes.Commit f) h = inr (inr (inr (inl (ap refused_append (rw is at h)))))
    there causes.Read h = absurd h
    there causes.TooLong h = absurd h
    there causes.NotJson h = absurd h
    there causes.Kind h = absurd h
    there (causes.Token f) h = absurd h
    there (causes.Namespace f) h = absurd h
    there causes.Late h = absurd h
    there causes.RepeatedVersion h = absurd h
    there causes.OutOfMemory h = absurd h

    of_text : (o : Option TupleFault) → first_fault tuple_at (c.add ++ c.remove) ≡ o → (x : Cause) → text_fault o ≡ Some x → AppliesToCommit t d x
    of_text None at x e = absurd (cc)
    of_text (Some f) at x e = let same : causes.Text f ≡ x = cc in subst (AppliesToCommit t d) same (rw is at)

    of_declared : (b : Bool) → are_declared t.declarations (readable tuple_at (c.add ++ c.remove)) ≡ b → (x : Cause) → unless_declared b ≡ Some x
        → AppliesToCommit t d x
    of_declared true at x e = absurd (cc)
    of_declared false at x e = let same : causes.Unknown ≡ x = cc in subst (AppliesToCommit t d) same (rw is at)

    of_edge : (r : Result (Unit {0}) Edge) → first_broken t.declarations (edges_of_tuples t.declarations (readable tuple_at c.add)) ≡ r → (x : Cause)
        → broken_in r ≡ Some x → AppliesToCommit t d x
    of_edge (Ok u) at x e = absurd (cc)
    of_edge (Err b) at x e = let same : causes.Strata b ≡ x = cc in subst (AppliesToCommit t d) same (rw is at)

    of_append : (o : Option AppendFault) → append_fault (changes_of t) c.at (readable tuple_at c.add) (readable tuple_at c.remove) ≡ o → (x : Cause)
        → refused_append o ≡ Some x → AppliesToCommit t d x
    of_append None at x e = absurd (cc)
    of_append (Some f) at x e = let same : causes.Commit f ≡ x = cc in subst (AppliesToCommit t d) same (rw is at)

    back : (x : Cause) → IsFault (tests c) x → AppliesToCommit t d x
    back = one_meets (AppliesToCommit t d) (tests c) (
      of_text (first_fault tuple_at (c.add ++ c.remove)) refl,
      (of_declared (are_declared t.declarations (readable tuple_at (c.add ++ c.remove))) refl, (of_edge (first_broken t.declarations (edges_of_tuples t.declarations (readable tuple_at c.add))) refl, (of_append (append_fault (changes_of t) c.at (readable tuple_at c.add) (readable tuple_at c.remove)) refl, tt))),
    )

  -- without its shape it has no other cause
  only_shape : commit_fields d ≡ None → (x : Cause) → AppliesToCommit t d x → causes.Shape ≡ x
  only_shape none causes.Shape h = refl
  only_shape none (causes.Text f) h = absurd (rw none at h)
  only_shape none causes.Unknown h = absurd (rw none at h)
  only_shape none (causes.Strata e) h = absurd (rw none at h)
  only_shape none (causes.Commit f) h = absurd (rw none at h)
  only_shape none causes.Read h = absurd h
  only_shape none causes.TooLong h = absurd h
  only_shape none causes.NotJson h = absurd h
  only_shape none causes.Kind h = absurd h
  only_shape none (causes.Token f) h = absurd h
  only_shape none (causes.Namespace f) h = absurd h
  only_shape none causes.Late h = absurd h
  only_shape none causes.RepeatedVersion h = absurd h
  only_shape none causes.OutOfMemory h = absurd h

  shapeless : commit_fields d ≡ None → commit_line n t d ≡ Err causes.Shape → TellsTheLeast spec.number (AppliesToCommit t d) (commit_line n t d)
  shapeless none e = subst (TellsTheLeast spec.number (AppliesToCommit t d)) (sym e) (tells_the_only spec.number (AppliesToCommit t d) causes.Shape none (only_shape none))

  pub least_cause_of_commit : TellsTheLeast spec.number (AppliesToCommit t d) (commit_line n t d)
  unfolding commit_of commit_fields
  least_cause_of_commit = by_fields (number_at (codes "at") d) (strings_at (codes "add") d) (strings_at (codes "remove") d) refl refl refl
    where
      by_fields : (a : Option ℕ) (b r : Option Items) → number_at (codes "at") d ≡ a → strings_at (codes "add") d ≡ b → strings_at (codes "remove") d ≡ r
          → TellsTheLeast spec.number (AppliesToCommit t d) (commit_line n t d)
      by_fields None b r ats adds removes = shapeless (rw ats refl) (rw ats refl)
      by_fields (Some at) None r ats adds removes = shapeless (rw (ats, adds) refl) (rw (ats, adds) refl)
      by_fields (Some at) (Some add) None ats adds removes = shapeless (rw (ats, adds, removes) refl) (rw (ats, adds, removes) refl)
      by_fields (Some at) (Some add) (Some remove) ats adds removes =
          let c : CommitFields = record { at = at; add = texts_of add; remove = texts_of remove } in
          let is : commit_fields d ≡ Some c = rw (ats, adds, removes) refl in
          subst (TellsTheLeast spec.number (AppliesToCommit t d)) (sym (is_read at add remove ats adds removes))
          (tells_the_least spec.number (AppliesToCommit t d) (tests c) (made c) (are_rising c) (there c is) (back c is))

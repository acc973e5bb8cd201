-- A check, or a content check, is refused for the least cause that applies.
use Rattle.std.proofs.Common.{◌≡◌, ℕ, Bool, true, false, List, [], ◌∷◌, ◌++◌, length, Option, None, Some, Result, Ok, Err, inl, inr, refl, sym, ap, ◌∙◌, subst, arith}
use Rattle.std.specs.Prelude.{IsSomeAnd, codes, if◌then◌else◌}
use Rattle.serde_json.specs.Data.{Data}
use Rattle.tuple_text.specs.Reading.{fact_at}
use Rattle.tuple_text.specs.Tuples.{FactValue}
use Rattle.tuple_text.specs.declared.fault.TupleFault.{TupleFault}
use Rattle.zookie.specs.Reading.{token_at}
use Rattle.zookie.specs.Tokens.{Token}
use Rattle.zookie.specs.declared.fault.ZookieFault.{ZookieFault}
use Rattle.refusals.specs.Refusals.{◌>>=◌}
use Rattle.json_lines.specs.Fields.{number_at, flag_at, text_at, optional_text_at}
use Rattle.trace_lines.specs.Causes.{text_cause, token_cause}
use Rattle.trace_lines.specs.Texts.{token_of, some_token, version_at}
use Rattle.trace_lines.specs.Traces.{is_declared, entry_line, entry_of, with_entry}
use Rattle.trace_lines.specs.Values.{EntryValue, TraceValue}
use Rattle.trace_lines.specs.declared.cause.Cause.{Cause}
use Rattle.trace_lines.specs.declared.cause.Cause.TheVariants as causes
use Rattle.trace_lines.specs.declared.entry.EntryKind.{EntryKind}
use Rattle.refusal_laws.specs.LeastCause.{TellsTheLeast}
use Rattle.refusal_laws.specs.TraceCauses as spec
use Rattle.refusal_laws.specs.TraceCauses.{EntryFields, entry_fields, AppliesToEntry, is_issued}
use Rattle.refusal_laws.proofs.Least.{chain, AreRising, IsFault, one_meets, tells_the_least, tells_the_only}

abbrev text_fault : Result FactValue TupleFault → Option Cause
text_fault (Ok g) = None
text_fault (Err f) = Some (causes.Text f)

abbrev token_fault : Result Token ZookieFault → Option Cause
token_fault (Ok z) = None
token_fault (Err f) = Some (causes.Token f)

abbrev zookie_fault : Option (List ℕ) → Option Cause
zookie_fault None = None
zookie_fault (Some z) = token_fault (token_at z)

module _ (kind : EntryKind) (n : ℕ) (t : TraceValue) (d : Data) where
  abbrev undeclared_in : Result FactValue TupleFault → Option Cause
  undeclared_in (Err f) = None
  undeclared_in (Ok goal) = if is_declared t.declarations goal.set then None else Some causes.Unknown

  abbrev repeated_in : Option (List ℕ) → Result FactValue TupleFault → Option Cause
  repeated_in label (Err f) = None
  repeated_in label (Ok goal) = if is_issued t kind goal.set label then Some causes.RepeatedVersion else None

  -- the tests in turn, each by itself
  abbrev tests : EntryFields → List (Option Cause)
  tests e = text_fault (fact_at e.goal) ∷ zookie_fault e.zookie ∷ undeclared_in (fact_at e.goal) ∷ repeated_in e.version (fact_at e.goal) ∷ []

  abbrev entry_with : EntryFields → FactValue → Option Token → EntryValue
  entry_with e goal token = record {
    kind = kind;
    line = n;
    goal = goal;
    snapshot = e.snapshot;
    reply = e.reply;
    zookie = token;
    version = e.version;
    before = length t.commits;
  }

  -- the trace that the line makes, where no test fails
  abbrev made_by : EntryFields → Result FactValue TupleFault → Result (Option Token) Cause → TraceValue
  made_by e (Ok goal) (Ok token) = record t { entries = t.entries ++ entry_with e goal token ∷ [] }
  made_by e g z = t

  are_rising : (e : EntryFields) → AreRising spec.number 0 (tests e)
  are_rising e = (6, omega arith, of_text _, (7, omega arith, of_zookie _, (10, omega arith, of_declared _, (13, omega arith, of_repeated _, tt))))
    where
      of_text : (r : Result FactValue TupleFault) (x : Cause) → text_fault r ≡ Some x → spec.number x ≡ 6
      of_text (Ok g) x e = absurd (cc)
      of_text (Err f) x e = let same : causes.Text f ≡ x = cc in subst (λ (y : Cause). spec.number y ≡ 6) same refl

      of_token : (r : Result Token ZookieFault) (x : Cause) → token_fault r ≡ Some x → spec.number x ≡ 7
      of_token (Ok z) x e = absurd (cc)
      of_token (Err f) x e = let same : causes.Token f ≡ x = cc in subst (λ (y : Cause). spec.number y ≡ 7) same refl

      of_zookie : (o : Option (List ℕ)) (x : Cause) → zookie_fault o ≡ Some x → spec.number x ≡ 7
      of_zookie None x e = absurd (cc)
      of_zookie (Some z) x e = of_token (token_at z) x e

      declared_by : (b : Bool) (x : Cause) → (if b then None else Some causes.Unknown) ≡ Some x → spec.number x ≡ 10
      declared_by true x e = absurd (cc)
      declared_by false x e = let same : causes.Unknown ≡ x = cc in subst (λ (y : Cause). spec.number y ≡ 10) same refl

      of_declared : (r : Result FactValue TupleFault) (x : Cause) → undeclared_in r ≡ Some x → spec.number x ≡ 10
      of_declared (Err f) x e = absurd (cc)
      of_declared (Ok goal) x e = declared_by (is_declared t.declarations goal.set) x e

      repeated_by : (b : Bool) (x : Cause) → (if b then Some causes.RepeatedVersion else None) ≡ Some x → spec.number x ≡ 13
      repeated_by false x e = absurd (cc)
      repeated_by true x e = let same : causes.RepeatedVersion ≡ x = cc in subst (λ (y : Cause). spec.number y ≡ 13) same refl

      of_repeated : (r : Result FactValue TupleFault) (x : Cause) → repeated_in e.version r ≡ Some x → spec.number x ≡ 13
      of_repeated (Err f) x e = absurd (cc)
      of_repeated (Ok goal) x h = repeated_by (is_issued t kind goal.set e.version) x h

  -- ---- reading is these tests

  recorded_chain : (e : EntryFields) (goal : FactValue) (token : Option Token)
      → with_entry t (entry_with e goal token) ≡ chain (undeclared_in (Ok goal) ∷ repeated_in e.version (Ok goal) ∷ []) (Ok (made_by e (Ok goal) (Ok token)))
  unfolding with_entry
  recorded_chain e goal token = by_tests (is_declared t.declarations goal.set) (is_issued t kind goal.set e.version)
    where
      by_tests : (declared repeated : Bool)
          → (if declared then (if repeated then Err causes.RepeatedVersion else Ok (made_by e (Ok goal) (Ok token))) else Err causes.Unknown)
          ≡ chain ((if declared then None else Some causes.Unknown) ∷ (if repeated then Some causes.RepeatedVersion else None) ∷ [])
          (Ok (made_by e (Ok goal) (Ok token)))
      by_tests false repeated = refl
      by_tests true true = refl
      by_tests true false = refl

  is_read : (e : EntryFields) → text_at (codes "goal") d ≡ Some e.goal → number_at (codes "snapshot") d ≡ Some e.snapshot
      → flag_at (codes "reply") d ≡ Some e.reply → optional_text_at (codes "zookie") d ≡ Some e.zookie → version_at kind e.reply d ≡ Some e.version
      → entry_line kind n t d ≡ chain (tests e) (Ok (made_by e (fact_at e.goal) (token_of e.zookie)))
  unfolding entry_of
  is_read e goals snapshots replies zookies versions =
      rw (goals, snapshots, replies, zookies, versions) (by_results (fact_at e.goal) e.zookie)
    where
      with_token : (goal : FactValue) (z : Option (List ℕ)) (r : Result Token ZookieFault)
          → ((some_token (token_cause r) >>= λ token. Ok (entry_with e goal token)) >>= with_entry t)
          ≡ chain (token_fault r ∷ undeclared_in (Ok goal) ∷ repeated_in e.version (Ok goal) ∷ []) (Ok (made_by e (Ok goal) (some_token (token_cause r))))
      with_token goal z (Err f) = refl
      with_token goal z (Ok token) = recorded_chain e goal (Some token)

      by_results : (g : Result FactValue TupleFault) (z : Option (List ℕ))
          → ((text_cause g >>= λ goal. token_of z >>= λ token. Ok (entry_with e goal token)) >>= with_entry t)
          ≡ chain (text_fault g ∷ zookie_fault z ∷ undeclared_in g ∷ repeated_in e.version g ∷ []) (Ok (made_by e g (token_of z)))
      by_results (Err f) z = refl
      by_results (Ok goal) None = recorded_chain e goal None
      by_results (Ok goal) (Some z) = with_token goal (Some z) (token_at z)

  -- ---- the causes are the faults of the tests

  module _ (e : EntryFields) (is : entry_fields kind d ≡ Some e) where
    zookie_there : (o : Option (List ℕ)) (f : ZookieFault) → IsSomeAnd o (λ z. token_at z ≡ Err f) → zookie_fault o ≡ Some (causes.Token f)
    zookie_there None f h = absurd h
    zookie_there (Some z) f h = rw h refl

    there : (x : Cause) → AppliesToEntry kind t d x → IsFault (tests e) x
    there causes.Shape h = let none : None ≡ Some e = sym h ∙ is in absurd (cc)
    there (causes.Text f) h = inl (ap text_fault (rw is at h))
    there (causes.Token f) h = inr (inl (zookie_there e.zookie f (rw is at h)))
    there causes.Unknown h = inr (inr (inl (by_goal (fact_at e.goal) (rw is at h))))
      where
        by_goal : (r : Result FactValue TupleFault) → (goal : FactValue) × (r ≡ Ok goal) × (is_declared t.declarations goal.set ≡ false)
            → undeclared_in r ≡ Some causes.Unknown
        by_goal r (goal, at, none) = rw (at, none) refl
    there causes.RepeatedVersion h = inr (inr (inr (inl (by_goal (fact_at e.goal) (rw is at h)))))
      where
        by_goal : (r : Result FactValue TupleFault) → (goal : FactValue) × (r ≡ Ok goal) × (is_issued t kind goal.set e.version ≡ true)
            → repeated_in e.version r ≡ Some causes.RepeatedVersion
        by_goal r (goal, at, issued) = rw (at, issued) refl
    there causes.Read h = absurd h
    there causes.TooLong h = absurd h
    there causes.NotJson h = absurd h
    there causes.Kind h = absurd h
    there (causes.Commit f) h = absurd h
    there (causes.Strata b) h = absurd h
    there (causes.Namespace f) h = absurd h
    there causes.Late h = absurd h
    there causes.OutOfMemory h = absurd h

    of_text : (r : Result FactValue TupleFault) → fact_at e.goal ≡ r → (x : Cause) → text_fault r ≡ Some x → AppliesToEntry kind t d x
    of_text (Ok goal) at x s = absurd (cc)
    of_text (Err f) at x s = let same : causes.Text f ≡ x = cc in subst (AppliesToEntry kind t d) same (rw is at)

    of_token : (z : List ℕ) → e.zookie ≡ Some z → (r : Result Token ZookieFault) → token_at z ≡ r → (x : Cause) → token_fault r ≡ Some x
        → AppliesToEntry kind t d x
    of_token z has (Ok token) at x s = absurd (cc)
    of_token z has (Err f) at x s = let same : causes.Token f ≡ x = cc in subst (AppliesToEntry kind t d) same (rw (is, has) at)

    of_zookie : (o : Option (List ℕ)) → e.zookie ≡ o → (x : Cause) → zookie_fault o ≡ Some x → AppliesToEntry kind t d x
    of_zookie None has x s = absurd (cc)
    of_zookie (Some z) has x s = of_token z has (token_at z) refl x s

    of_declared : (r : Result FactValue TupleFault) → fact_at e.goal ≡ r → (x : Cause) → undeclared_in r ≡ Some x → AppliesToEntry kind t d x
    of_declared (Err f) at x s = absurd (cc)
    of_declared (Ok goal) at x s = by_test (is_declared t.declarations goal.set) refl s
      where
        by_test : (b : Bool) → is_declared t.declarations goal.set ≡ b → (if b then None else Some causes.Unknown) ≡ Some x → AppliesToEntry kind t d x
        by_test true declared s = absurd (cc)
        by_test false declared s = let same : causes.Unknown ≡ x = cc in subst (AppliesToEntry kind t d) same (rw is (goal, at, declared))

    of_repeated : (r : Result FactValue TupleFault) → fact_at e.goal ≡ r → (x : Cause) → repeated_in e.version r ≡ Some x → AppliesToEntry kind t d x
    of_repeated (Err f) at x s = absurd (cc)
    of_repeated (Ok goal) at x s = by_test (is_issued t kind goal.set e.version) refl s
      where
        by_test : (b : Bool) → is_issued t kind goal.set e.version ≡ b → (if b then Some causes.RepeatedVersion else None) ≡ Some x
            → AppliesToEntry kind t d x
        by_test false issued s = absurd (cc)
        by_test true issued s = let same : causes.RepeatedVersion ≡ x = cc in subst (AppliesToEntry kind t d) same (rw is (goal, at, issued))

    back : (x : Cause) → IsFault (tests e) x → AppliesToEntry kind t d x
    back = one_meets (AppliesToEntry kind t d) (tests e)
        (of_text (fact_at e.goal) refl, (of_zookie e.zookie refl, (of_declared (fact_at e.goal) refl, (of_repeated (fact_at e.goal) refl, tt))))

  only_shape : entry_fields kind d ≡ None → (x : Cause) → AppliesToEntry kind t d x → causes.Shape ≡ x
  only_shape none causes.Shape h = refl
  only_shape none (causes.Text f) h = absurd (rw none at h)
  only_shape none (causes.Token f) h = absurd (rw none at h)
  only_shape none causes.Unknown h = absurd (rw none at h)
  only_shape none causes.RepeatedVersion h = absurd (rw none at h)
  only_shape none causes.Read h = absurd h
  only_shape none causes.TooLong h = absurd h
  only_shape none causes.NotJson h = absurd h
  only_shape none causes.Kind h = absurd h
  only_shape none (causes.Commit f) h = absurd h
  only_shape none (causes.Strata b) h = absurd h
  only_shape none (causes.Namespace f) h = absurd h
  only_shape none causes.Late h = absurd h
  only_shape none causes.OutOfMemory h = absurd h

  shapeless : entry_fields kind d ≡ None → entry_line kind n t d ≡ Err causes.Shape → TellsTheLeast spec.number (AppliesToEntry kind t d) (entry_line kind n t d)
  shapeless none e = subst (TellsTheLeast spec.number (AppliesToEntry kind t d)) (sym e)
      (tells_the_only spec.number (AppliesToEntry kind t d) causes.Shape none (only_shape none))

  pub least_cause_of_entry : TellsTheLeast spec.number (AppliesToEntry kind t d) (entry_line kind n t d)
  unfolding entry_of entry_fields
  least_cause_of_entry = by_goal (text_at (codes "goal") d) (number_at (codes "snapshot") d) (flag_at (codes "reply") d) (optional_text_at (codes "zookie") d) refl refl refl refl
    where
      by_version : (e : EntryFields) (v : Option (Option (List ℕ))) → text_at (codes "goal") d ≡ Some e.goal → number_at (codes "snapshot") d ≡ Some e.snapshot
          → flag_at (codes "reply") d ≡ Some e.reply → optional_text_at (codes "zookie") d ≡ Some e.zookie → version_at kind e.reply d ≡ v
          → TellsTheLeast spec.number (AppliesToEntry kind t d) (entry_line kind n t d)
      by_version e None goals snapshots replies zookies versions =
          shapeless (rw (goals, snapshots, replies, zookies, versions) refl) (rw (goals, snapshots, replies, zookies, versions) refl)
      by_version e (Some label) goals snapshots replies zookies versions =
          let f : EntryFields = record e { version = label } in
          let is : entry_fields kind d ≡ Some f = rw (goals, snapshots, replies, zookies, versions) refl in
          subst (TellsTheLeast spec.number (AppliesToEntry kind t d)) (sym (is_read f goals snapshots replies zookies versions))
          (tells_the_least spec.number (AppliesToEntry kind t d) (tests f) (made_by f (fact_at f.goal) (token_of f.zookie)) (are_rising f) (there f is) (back f is))

      by_goal : (g : Option (List ℕ)) (s : Option ℕ) (r : Option Bool) (z : Option (Option (List ℕ))) → text_at (codes "goal") d ≡ g
          → number_at (codes "snapshot") d ≡ s → flag_at (codes "reply") d ≡ r → optional_text_at (codes "zookie") d ≡ z
          → TellsTheLeast spec.number (AppliesToEntry kind t d) (entry_line kind n t d)
      by_goal None s r z goals snapshots replies zookies = shapeless (rw goals refl) (rw goals refl)
      by_goal (Some goal) None r z goals snapshots replies zookies = shapeless (rw (goals, snapshots) refl) (rw (goals, snapshots) refl)
      by_goal (Some goal) (Some snapshot) None z goals snapshots replies zookies = shapeless (rw (goals, snapshots, replies) refl) (rw (goals, snapshots, replies) refl)
      by_goal (Some goal) (Some snapshot) (Some reply) None goals snapshots replies zookies =
          shapeless (rw (goals, snapshots, replies, zookies) refl) (rw (goals, snapshots, replies, zookies) refl)
      by_goal (Some goal) (Some snapshot) (Some reply) (Some zookie) goals snapshots replies zookies =
          by_version (record { goal = goal; snapshot = snapshot; reply = reply; zookie = zookie; version = None }) (version_at kind reply d)
          goals snapshots replies zookies refl

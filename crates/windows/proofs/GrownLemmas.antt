-- What was found on an entry stands when the log has grown.
use Rattle.std.proofs.Common.{◌≡◌, ℕ, zero, suc, ◌<◌, ◌≤◌, ◌&&◌, ◌||◌, ◌==◌, not, inl, inr, Bool, true, false, cond, ltb, List, [], ◌∷◌, ◌++◌, length, map, take, get_or, Option, Some, None, refl, sym, ◌∙◌, ap, subst, arith, append-nil}
use Rattle.std.specs.Prelude.{slice_get, filter, nat_le, All, Contains, option_map, option_and_then, is_some, is_none}
use Rattle.std.specs.List.{AllByRecursion, list_any}
use Rattle.std.specs.List.Sorted.{IsStrictlyIncreasing}
use Rattle.std.specs.Option.{option_or}
use Rattle.std.proofs.lemmas.Bool.{le-ltb, lt-leb, cases_lt, ne_eqb}
use Rattle.std.proofs.lemmas.List.{take-append-le, get_or-map, length-map}
use Rattle.std.proofs.lemmas.Grind.{flat_map-append}
use Rattle.std.proofs.lemmas.List.Elements.{filter-append, recursion_from_All}
use Rattle.std.proofs.lemmas.List.Kept.{AllPairs-from_increasing}
use Rattle.std.proofs.lemmas.Option.{slice_get_within, get_or_from_slice_get}
use Rattle.tuple_text.specs.Tuples.{TupleValue}
use Rattle.namespaces.specs.Declaration.{Relation, Declaration}
use Rattle.namespaces.specs.Lookup.{in_force, relation_at, as_rule}
use Rattle.version_chains.specs.Commits.{Commit, Touch, touches, changelog, touches_to, until, last_live, store_at}
use Rattle.marks.proofs.PlacedLemmas.{slice_get-front}
use Rattle.trace_lines.specs.Placed.{HasPlacedCommits}
use Rattle.trace_lines.specs.Values.{EntryValue, TraceValue, entry_lines, after_last, next_line}
use Rattle.trace_lines.specs.Versions.{entry_version, version_named, content_among, content_of}
use Rattle.trace_lines.specs.Traces.{is_begun}
use Rattle.trace_lines.proofs.IssuedVersions.{content_of-earlier}
use Rattle.trace_lines.proofs.RisingLines.{last_of}
use Rattle.token_order.specs.Order.{CommitLine, on_lines, commit_lines_of}
use Rattle.token_order.specs.Found.{is_content, is_stale, is_wrong_token, line_if_short, earlier_commits, last_line, open_snapshot, order_of}
use Rattle.token_order.specs.declared.findings.OrderFindings.{OrderFindings}
use Rattle.windows.specs.Alike.{IsSameAt}
use Rattle.windows.specs.Growth.{GoesOn, StaysClosed, Stands}
use Rattle.windows.proofs.AlikeLemmas.{judged_alike_law}
use Rattle.windows.proofs.CompactionLemmas.{IsAbove, log_out}

-- of what stands behind others
pub behind : {X : Type 0} (P : X → Type 0) (xs ys : List X) → All P ys → (i : ℕ) (x : X) → length xs ≤ i
    → slice_get (xs ++ ys) i ≡ Some x → P x
behind P [] ys all i x le at = subst P (get_or_from_slice_get ys i x x at) (all i x (slice_get_within ys i x at))
behind P (y ∷ xs) ys all zero x le at = absurd (omega (arith, le))
behind P (y ∷ xs) ys all (suc i) x le at = behind P xs ys all i x (omega (arith, le)) at

-- ---- a longer trace has the same at an earlier place

module _ (es more : List EntryValue) (i : ℕ) (within : i < length es) where
  same_content : content_of (es ++ more) i ≡ content_of es i
  same_content =
      ap (λ (xs : List EntryValue). option_and_then (content_among xs) (slice_get (es ++ more) i)) (take-append-le i es
      more (omega (arith, within)))
      ∙ ap (λ (o : Option EntryValue). option_and_then (content_among (take i es)) o) (slice_get-front es more i within)

  same_entry : (o : Option ℕ) → o ≡ content_of es i
      → option_and_then (slice_get (es ++ more)) o ≡ option_and_then (slice_get es) o
  same_entry None is = refl
  same_entry (Some j) is = let lt = content_of-earlier es i (Some j) is in
      slice_get-front es more j (omega (arith, lt, within))

pub on_more_lines : (ls ms : List ℕ) (cs ds : List Commit) → length ls ≡ length cs
    → on_lines (ls ++ ms) (cs ++ ds) ≡ on_lines ls cs ++ on_lines ms ds
on_more_lines [] ms [] ds h = refl
on_more_lines [] ms (c ∷ cs) ds h = absurd (omega (arith, h))
on_more_lines (l ∷ ls) ms [] ds h = absurd (omega (arith, h))
on_more_lines (l ∷ ls) ms (c ∷ cs) ds h = ap (λ (xs : List CommitLine). record { line = l; at = c.at } ∷ xs)
    (on_more_lines ls ms cs ds (omega (arith, h)))

none_before : (line : ℕ) (ls : List ℕ) (cs : List Commit) → AllByRecursion (λ l. line ≤ l) ls
    → filter (λ (c : CommitLine). ltb c.line line) (on_lines ls cs) ≡ []
none_before line [] cs h = refl
none_before line (l ∷ ls) [] h = refl
none_before line (l ∷ ls) (c ∷ cs) h = rw (le-ltb l line h.0) (none_before line ls cs h.1)

-- an entry stands before the next line
line_within : (es : List EntryValue) → IsStrictlyIncreasing (entry_lines es) → (i : ℕ) (e : EntryValue)
    → slice_get es i ≡ Some e → e.line < after_last (entry_lines es)
line_within [] rising i e at = cc
line_within (x ∷ xs) rising i e at =
    let within = slice_get_within (x ∷ xs) i e at in
    let long = length-map xs (λ (y : EntryValue). y.line) in
    let last = last_of x.line (entry_lines xs) in
    let here = get_or-map (λ (y : EntryValue). y.line) (x ∷ xs) i e 0 within in
    let same = ap (λ (y : EntryValue). y.line) (get_or_from_slice_get (x ∷ xs) i e e at) in
    elim (cases_lt i (length (entry_lines xs))) [
      | inl lt ↦
          let up = AllPairs-from_increasing (entry_lines (x ∷ xs)) rising i (length (entry_lines xs)) 0 lt (omega
          arith) in
          omega (arith, last, here, same, up)
      | inr ge ↦
          let place : i ≡ length (entry_lines xs) = omega (arith, ge, within, long) in
          let there = ap (λ (n : ℕ). get_or (entry_lines (x ∷ xs)) n 0) place in
          omega (arith, last, here, same, there)
    ]

-- ---- later rules and tuples are not seen at an earlier timestamp

none_in_force : (s : ℕ) (namespace relation : List ℕ) (ds : List Declaration) → AllByRecursion (λ d. s < d.at) ds
    → relation_at ds s namespace relation ≡ None
none_in_force s namespace relation [] h = refl
none_in_force s namespace relation (d ∷ ds) h = rw (none_in_force s namespace relation ds h.1, lt-leb d.at s h.0) refl

same_rules : (s : ℕ) (namespace relation : List ℕ) (ds es : List Declaration) → AllByRecursion (λ d. s < d.at) es
    → relation_at (ds ++ es) s namespace relation ≡ relation_at ds s namespace relation
same_rules s namespace relation [] es h = none_in_force s namespace relation es h
same_rules s namespace relation (d ∷ ds) es h = ap (λ (o : Option Relation). option_or o (in_force s namespace relation
    d)) (same_rules s namespace relation ds es h)

pub same_store : (s : ℕ) (cs ds : List Commit) → AllByRecursion (IsAbove s) ds → store_at (cs ++ ds) s ≡ store_at cs s
same_store s cs ds h =
    let log : until s (changelog (cs ++ ds)) ≡ until s (changelog cs) =
    ap (until s) (flat_map-append touches cs ds)
    ∙ filter-append (λ (x : Touch). nat_le x.at s) (changelog cs) (changelog ds)
    ∙ ap (λ (xs : List Touch). until s (changelog cs) ++ xs) (log_out s ds h)
    ∙ append-nil (until s (changelog cs)) in
    ap (λ (xs : List Touch). filter (λ t. last_live false (touches_to t xs)) (map (λ (x : Touch). x.tuple) xs)) log

-- a timestamp below all commits is below each of their timestamps
below_each : (s at : ℕ) (cs : List Commit) → All (λ (c : Commit). s < c.at) cs
    → Contains (map (λ (c : Commit). c.at) cs) at → s < at
below_each s at cs closed h =
    let none : Commit = record { at = 0; adds = []; removes = [] } in
    let long = length-map cs (λ (c : Commit). c.at) in
    let lt : h.0 < length cs = let inside = h.1 in omega (arith, inside, long) in
    let up = closed h.0 none lt in
    let here = get_or-map (λ (c : Commit). c.at) cs h.0 none at lt in
    let is = h.2 in
    omega (arith, up, here, is)

module _ {k : ℕ} (u t : TraceValue) (goes : GoesOn k u t) (placed : HasPlacedCommits u) (rising : IsStrictlyIncreasing
    (entry_lines u.entries)) where
  module _ (i : ℕ) (e : EntryValue) (at : slice_get u.entries i ≡ Some e) where
    inside : i < length u.entries
    inside = slice_get_within u.entries i e at

    before : e.line < next_line u
    before = let lt = line_within u.entries rising i e at in omega (arith, lt)

    earlier_alike : earlier_commits t e ≡ earlier_commits u e
    earlier_alike =
        let p : CommitLine → Bool = λ c. ltb c.line e.line in
        ap (λ (ls : List ℕ). filter p (on_lines ls t.commits)) goes.on_lines
        ∙ ap (λ (cs : List Commit). filter p (on_lines (u.commit_lines ++ goes.commit_lines) cs)) goes.committed
        ∙ ap (filter p) (on_more_lines u.commit_lines goes.commit_lines u.commits goes.commits placed.counted)
        ∙ filter-append p (commit_lines_of u) (on_lines goes.commit_lines goes.commits)
        ∙ ap (λ (cs : List CommitLine). earlier_commits u e ++ cs) (none_before e.line goes.commit_lines goes.commits
        (recursion_from_All (λ (l : ℕ). e.line ≤ l) goes.commit_lines (λ j d lt. let later = goes.commits_behind j d lt in
        let within = goes.within in omega (arith, later, within, before))))
        ∙ append-nil (earlier_commits u e)

    content : content_of t.entries i ≡ content_of u.entries i
    content = ap (λ (es : List EntryValue). content_of es i) goes.recorded
        ∙ same_content u.entries goes.entries i inside

    named : option_and_then (slice_get t.entries) (content_of t.entries i) ≡ option_and_then (slice_get u.entries)
        (content_of u.entries i)
    named =
        ap (λ (o : Option ℕ). option_and_then (slice_get t.entries) o) content
        ∙ ap (λ (es : List EntryValue). option_and_then (slice_get es) (content_of u.entries i)) goes.recorded
        ∙ same_entry u.entries goes.entries i inside (content_of u.entries i) refl

    tokens : order_of t i e ≡ record (order_of u i e) { open_snapshot = open_snapshot t e }
    tokens =
        let findings : Option EntryValue → List CommitLine → Option ℕ → OrderFindings = λ c cs o. record {
          stale = is_stale e;
          old_token = option_and_then (line_if_short e.zookie) c;
          not_latest = cond (is_content e.kind && list_any (λ c. ltb e.snapshot c.at) cs) (last_line cs) None;
          open_snapshot = open_snapshot t e;
          wrong_token = is_wrong_token e;
          unknown_version = is_some (version_named e.kind (entry_version e)) && is_none o;
        } in
        ap (λ (c : Option EntryValue). findings c (earlier_commits t e) (content_of t.entries i)) named
        ∙ ap (λ (cs : List CommitLine). findings (option_and_then (slice_get u.entries) (content_of u.entries i)) cs
        (content_of t.entries i)) earlier_alike
        ∙ ap (λ (o : Option ℕ). findings (option_and_then (slice_get u.entries) (content_of u.entries i))
        (earlier_commits u e) o) content

    begun : is_begun u ≡ true
    begun = by_entries (not (length u.commit_lines == 0)) u.entries i at
      where
        by_entries : (b : Bool) (es : List EntryValue) (k : ℕ) → slice_get es k ≡ Some e
            → (b || not (length es == 0)) ≡ true
        by_entries b [] k there = cc
        by_entries true (x ∷ xs) k there = refl
        by_entries false (x ∷ xs) k there = ap not (ne_eqb (length (x ∷ xs)) 0 (λ h. omega (arith, h)))

    pub same_at : StaysClosed u t goes e.snapshot → IsSameAt e.snapshot t u
    same_at closed = record {
      rules = λ namespace relation. ap (option_map as_rule) (
          ap (λ (ds : List Declaration). relation_at ds e.snapshot namespace relation) goes.declared
          ∙ same_rules e.snapshot namespace relation u.declarations goes.declarations
          (recursion_from_All (λ (d : Declaration). e.snapshot < d.at) goes.declarations (λ k d lt. below_each
          e.snapshot (get_or goes.declarations k d).at goes.commits closed (goes.changes begun k d lt))));
      tuples = λ x.
          let same : store_at t.commits e.snapshot ≡ store_at u.commits e.snapshot =
          ap (λ (cs : List Commit). store_at cs e.snapshot) goes.committed
          ∙ same_store e.snapshot u.commits goes.commits (recursion_from_All (IsAbove e.snapshot) goes.commits closed)
          in (
            λ h. subst (λ (ts : List TupleValue). Contains ts x) same h,
            λ h. subst (λ (ts : List TupleValue). Contains
                ts x) (sym same) h,
          );
    }

  pub stands : Stands u t goes
  stands = record {
    tokens = tokens;
    judgement = λ i e at closed steps. judged_alike_law t u e e (same_at i e at closed) (record {
      goal = refl;
      snapshot
          = refl;
      reply = refl;
    }) steps;
  }

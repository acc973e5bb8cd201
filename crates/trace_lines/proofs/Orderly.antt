-- Strata stay valid, from one line to the next.
use Rattle.std.proofs.Common.{◌≡◌, if◌then◌else◌, ℕ, ◌+◌, ◌-◌, ◌<◌, ◌≤◌, ◌^◌, nat_le, nat_lt, not, ◌==◌, ◌||◌, Bool, true, false, List, [], ◌∷◌, ◌++◌, length, map, Option, None, Some, Result, Ok, Err, refl, subst, sym, ap, ◌∙◌, append-nil, length-append, arith}
use Rattle.std.proofs.lemmas.Bool.Decides.{nat_tests}
use Rattle.std.proofs.lemmas.Grind.{flat_map-append}
use Rattle.std.proofs.lemmas.List.{length-map, map-append}
use Rattle.std.proofs.lemmas.Option.{slice_get-get_or}
use Rattle.std.proofs.Math.Path.{fun_ext}
use Rattle.std.proofs.Math.Seq.{get_or-append_seam}
use Rattle.serde_json.specs.Data.{Data}
use Rattle.tuple_text.specs.Tuples.{TupleValue}
use Rattle.namespaces.specs.declared.fault.RulesFault.{RulesFault}
use Rattle.namespaces.specs.Declaration.{Declaration, change}
use Rattle.namespaces.specs.Adding.{rules_add}
use Rattle.namespaces.specs.Changing.{change_answer, rules_change, IsLater}
use Rattle.namespaces.specs.Lookup.{rule_at}
use Rattle.namespaces.specs.WellFormed.{IsWellFormed}
use Rattle.namespaces.proofs.Growth.{well_formed_add, well_formed_change, later_on}
use Rattle.version_chains.specs.Commits.{Commit, Changes, Touch, touches, changelog, added, store_at}
use Rattle.version_chains.specs.Appends.{last_at, late_fault, twice_fault, full_fault, first_repeat, or_else, append_fault}
use Rattle.version_chains.specs.declared.fault.AppendFault.{AppendFault}
use Rattle.version_chains.specs.declared.fault.AppendFault.TheVariants.{NotLater, Full}
use Rattle.version_chains.proofs.StoreLemmas.{store_at-iff, added-stored}
use Rattle.strata.specs.declared.edge.Edge.{Edge}
use Rattle.strata.specs.Edges.{first_broken, rule_edges, edges_of_tuples}
use Rattle.strata.specs.Strata.{HasValidStrata}
use Rattle.strata.proofs.ValidStrata.{valid_at_each_time_law}
use Rattle.refusals.specs.Refusals.{◌>>=◌}
use Rattle.std.specs.Result.{OnOk, OnErr, is_err}
use Rattle.trace_lines.specs.Causes.{Gives, namespace_cause}
use Rattle.trace_lines.specs.Values.{TraceValue}
use Rattle.trace_lines.specs.Traces.{strata_cause, rules_checked, tuples_checked, late_or, with_namespace, changes_of, append_cause, commit_checked, with_touches, with_commit, empty_commit, change_line}
use Rattle.trace_lines.specs.Declaring.{checked, changed_rules, rules_changed, refused_late}
use Rattle.edge_checks.specs.Sampled.{Represents}
use Rattle.trace_lines.specs.Tuples.{IsOrderly}
use Rattle.trace_lines.specs.declared.cause.Cause.{Cause}
use Rattle.trace_lines.specs.declared.cause.Cause.TheVariants as causes
use Rattle.trace_lines.proofs.Answers.{made}
use Rattle.edge_checks.proofs.Sampling.{tuples_joined, represents_then, unbroken_without_rules}

pub orderly_empty : IsOrderly [] [] []
orderly_empty = record {
  well_formed = record { namespaces = omega arith; distinct = refl; fit = tt; changes = omega arith; continued = tt };
  unbroken = record { of_rules = refl; of_tuples = refl };
  sampled = λ ds. refl;
  empty = λ h. refl;
  later = λ at h k d lt. absurd (omega (arith, lt));
  touches = omega arith;
}

-- without rules
pub orderly_without : (ds : List Declaration) (commits : List Commit) (sample : List TupleValue) → IsOrderly ds commits sample → IsOrderly [] commits sample
orderly_without ds commits sample is = record {
  well_formed = orderly_empty.well_formed;
  unbroken = record { of_rules = refl; of_tuples = unbroken_without_rules (added commits) };
  sampled = is.sampled;
  empty = is.empty;
  later = λ at h k d lt. absurd (omega (arith, lt));
  touches = is.touches;
}

pub valid_strata : (ds : List Declaration) (commits : List Commit) (sample : List TupleValue) → IsOrderly ds commits sample
    → (at : ℕ) → HasValidStrata (rule_at ds at) (store_at commits at)
valid_strata ds commits sample is at =
    valid_at_each_time_law ds (added commits) is.well_formed is.unbroken at (store_at commits at)
    (λ t c. added-stored commits at t ((store_at-iff commits at t).0 c))

-- ---- commits

none_broken : (r : Result (Unit {0}) Edge) → strata_cause r ≡ Ok (tt {0}) → r ≡ Ok (tt {0})
none_broken (Ok u) h = refl
none_broken (Err e) h = cc

pub last_pushed : (commits : List Commit) (c : Commit) → last_at (commits ++ c ∷ []) ≡ Some c.at
last_pushed commits c =
    let all : map (λ (x : Commit). x.at) (commits ++ c ∷ []) ≡ map (λ (x : Commit). x.at) commits ++ c.at ∷ [] = map-append (λ (x : Commit). x.at) commits (c ∷ []) in
    let long : length (commits ++ c ∷ []) - 1 ≡ length commits = let n = length-append commits (c ∷ []) in omega (arith, n) in
    let same = length-map commits (λ (x : Commit). x.at) in
    let more = length-append (map (λ (x : Commit). x.at) commits) (c.at ∷ []) in
    rw (all, long, ← same)
    (slice_get-get_or (map (λ (x : Commit). x.at) commits ++ c.at ∷ []) (length (map (λ (x : Commit). x.at) commits)) 0 (omega (arith, more))
    ∙ ap (λ (n : ℕ). Some n) (get_or-append_seam (map (λ (x : Commit). x.at) commits) c.at [] 0))

later_than : (last at : ℕ) → late_fault (Some last) at ≡ None → last < at
later_than last at h = by (nat_le at last) refl h
  where
    by : (b : Bool) → nat_le at last ≡ b → (if b then Some (NotLater last) else None) ≡ None → last < at
    by true is h = cc
    by false is h = grind (arith, nat_tests)

-- what a commit that is not refused is
pub record IsAccepted (commits : List Commit) (c : Commit) : Type 0 where
  pub later : late_fault (last_at commits) c.at ≡ None
  pub few : length (changelog commits) + (length c.adds + length c.removes) ≤ 2 ^ 32 - 1

abbrev changes : List Commit → Changes
changes commits = record { limit = 2 ^ 32 - 1; commits = commits }

pub accepted : (commits : List Commit) (c : Commit) → append_fault (changes commits) c.at c.adds c.removes ≡ None → IsAccepted commits c
accepted commits c h = by (late_fault (last_at commits) c.at) refl (twice_fault (first_repeat (c.adds ++ c.removes))) h
  where
    few : (limit n : ℕ) → full_fault limit n ≡ None → n ≤ limit
    few limit n g = by_test (nat_lt limit n) refl g
      where
        by_test : (b : Bool) → nat_lt limit n ≡ b → (if b then Some Full else None) ≡ None → n ≤ limit
        by_test true is g = cc
        by_test false is g = grind (arith, nat_tests)

    by : (o : Option AppendFault) → late_fault (last_at commits) c.at ≡ o → (p : Option AppendFault)
        → or_else o (or_else p (full_fault (2 ^ 32 - 1) (length (changelog commits) + (length c.adds + length c.removes)))) ≡ None → IsAccepted commits c
    by None is None g = record { later = is; few = few (2 ^ 32 - 1) (length (changelog commits) + (length c.adds + length c.removes)) g }
    by None is (Some e) g = cc
    by (Some e) is p g = cc

pub added_pushed : (commits : List Commit) (c : Commit) → added (commits ++ c ∷ []) ≡ added commits ++ c.adds
added_pushed commits c = flat_map-append (λ (x : Commit). x.adds) commits (c ∷ []) ∙ ap (λ ts. added commits ++ ts) (append-nil c.adds)

log_pushed : (commits : List Commit) (c : Commit) → length (changelog (commits ++ c ∷ [])) ≡ length (changelog commits) + (length c.adds + length c.removes)
log_pushed commits c =
    let add : TupleValue → Touch = λ t. record { at = c.at; live = true; tuple = t } in
    let remove : TupleValue → Touch = λ t. record { at = c.at; live = false; tuple = t } in
    let all : changelog (commits ++ c ∷ []) ≡ changelog commits ++ touches c = flat_map-append touches commits (c ∷ []) ∙ ap (λ xs. changelog commits ++ xs) (append-nil (touches c)) in
    let sum : length (changelog commits ++ touches c) ≡ length (changelog commits) + length (touches c) = length-append (changelog commits) (touches c) in
    let own : length (touches c) ≡ length (map add c.adds) + length (map remove c.removes) = length-append (map add c.adds) (map remove c.removes) in
    let adds : length (map add c.adds) ≡ length c.adds = length-map c.adds add in
    let removes : length (map remove c.removes) ≡ length c.removes = length-map c.removes remove in
    let long : length (changelog (commits ++ c ∷ [])) ≡ length (changelog commits ++ touches c) = ap length all in
    omega (arith, sum, own, adds, removes, long)

pub orderly_commit : (ds : List Declaration) (commits : List Commit) (sample now : List TupleValue) → IsOrderly ds commits sample
    → (c : Commit) → tuples_checked ds c.adds ≡ Ok (tt {0}) → append_fault (changes commits) c.at c.adds c.removes ≡ None → Represents now (sample ++ c.adds)
    → IsOrderly ds (commits ++ c ∷ []) now
orderly_commit ds commits sample now is c fine fault more =
    let a = accepted commits c fault in
    let tuples : first_broken ds (edges_of_tuples ds (added commits ++ c.adds)) ≡ Ok (tt {0}) =
    tuples_joined ds (added commits) c.adds ∙ rw (is.unbroken.of_tuples, none_broken (first_broken ds (edges_of_tuples ds c.adds)) fine) refl in
    record {
      well_formed = is.well_formed;
      unbroken = record {
        of_rules = is.unbroken.of_rules;
        of_tuples = subst (λ ts. first_broken ds (edges_of_tuples ds ts) ≡ Ok (tt {0})) (sym (added_pushed commits c)) tuples;
      };
      sampled = subst (Represents now) (sym (added_pushed commits c)) (represents_then now sample c.adds more (added commits) is.sampled);
      empty = λ h. let n = length-append commits (c ∷ []) in absurd (omega (arith, n, h));
      later = λ at h.
          let last : late_fault (Some c.at) at ≡ None = subst (λ (o : Option ℕ). late_fault o at ≡ None) (last_pushed commits c) h in
          later_on c.at at ds (is.later c.at a.later) (later_than c.at at last);
      touches = let n = log_pushed commits c in let few = a.few in omega (arith, n, few);
    }

pub sample_unbroken : (ds : List Declaration) (commits : List Commit) (sample : List TupleValue) → IsOrderly ds commits sample → first_broken ds (edges_of_tuples ds sample) ≡ Ok (tt {0})
sample_unbroken ds commits sample is = is.sampled ds ∙ is.unbroken.of_tuples

-- ---- declarations

step_ok : {A B : Type 0} (r : Result A Cause) (f : A → Result B Cause) (y : B) → (r >>= f) ≡ Ok y → (x : A) × (r ≡ Ok x) × (f x ≡ Ok y)
step_ok (Ok x) f y h = (x, refl, h)
step_ok (Err e) f y h = cc

rules_ok : (r : Result (List Declaration) RulesFault) (ds : List Declaration) → namespace_cause r ≡ Ok ds → r ≡ Ok ds
rules_ok (Ok x) ds h = let same : x ≡ ds = cc in ap (λ (ys : List Declaration). Ok ys) same
rules_ok (Err e) ds h = cc

-- a commit that was not refused
pub commit_ok : (ds : List Declaration) (old : Changes) (c : Commit) → commit_checked ds old c.at c.adds c.removes ≡ Ok (tt {0})
    → (tuples_checked ds c.adds ≡ Ok (tt {0})) × (append_fault old c.at c.adds c.removes ≡ None)
commit_ok ds old c h =
    let one = step_ok (tuples_checked ds c.adds) (λ u. append_cause (append_fault old c.at c.adds c.removes)) (tt {0}) h in
    (one.1, no_fault (append_fault old c.at c.adds c.removes) one.2)
  where
    no_fault : (o : Option AppendFault) → append_cause o ≡ Ok (tt {0}) → o ≡ None
    no_fault None g = refl
    no_fault (Some e) g = cc

-- a namespace that stands before all else
pub orderly_namespace : (ds es : List Declaration) (sample : List TupleValue) (d : Data) → IsOrderly ds [] sample
    → with_namespace false ds d ≡ Ok es → ((at : ℕ) → IsLater at ds → IsLater at es) → IsOrderly es [] sample
orderly_namespace ds es sample d is h later =
    let one = step_ok (namespace_cause (rules_add ds d)) (late_or false) es h in
    let two = step_ok (rules_checked one.0) (λ u. Ok one.0) es one.2 in
    let same : one.0 ≡ es = let e : Ok one.0 ≡ Ok es = two.2 in cc in
    let fine : rules_checked es ≡ Ok (tt {0}) = subst (λ xs. rules_checked xs ≡ Ok (tt {0})) same two.1 in
    record {
      well_formed = subst IsWellFormed same (well_formed_add ds d one.0 is.well_formed (rules_ok (rules_add ds d) one.0 one.1));
      unbroken = record { of_rules = none_broken (first_broken es (rule_edges es)) fine; of_tuples = refl };
      sampled = is.sampled;
      empty = is.empty;
      later = λ at g. later at (is.later at g);
      touches = is.touches;
    }

-- a change at the timestamp of the last commit
pub orderly_change : (ds es : List Declaration) (commits : List Commit) (sample : List TupleValue) (at : ℕ) (d : Data) → IsOrderly ds commits sample
    → IsLater at ds → last_at commits ≡ Some at → changed_rules at ds sample d ≡ Ok es → ((next : ℕ) → at < next → IsLater next es) → IsOrderly es commits sample
orderly_change ds es commits sample at d is before last h later =
    let one = step_ok (namespace_cause (rules_change ds at d)) (checked sample) es h in
    let two = step_ok (rules_checked one.0) (λ u. tuples_checked one.0 sample >>= λ v. Ok one.0) es one.2 in
    let three = step_ok (tuples_checked one.0 sample) (λ v. Ok one.0) es two.2 in
    let same : one.0 ≡ es = let e : Ok one.0 ≡ Ok es = three.2 in cc in
    let rules : rules_checked es ≡ Ok (tt {0}) = subst (λ xs. rules_checked xs ≡ Ok (tt {0})) same two.1 in
    let tuples : tuples_checked es sample ≡ Ok (tt {0}) = subst (λ xs. tuples_checked xs sample ≡ Ok (tt {0})) same three.1 in
    record {
      well_formed = subst IsWellFormed same (well_formed_change ds at d one.0 is.well_formed before (rules_ok (rules_change ds at d) one.0 one.1));
      unbroken = record {
        of_rules = none_broken (first_broken es (rule_edges es)) rules;
        of_tuples = sym (is.sampled es) ∙ none_broken (first_broken es (edges_of_tuples es sample)) tuples;
      };
      sampled = is.sampled;
      empty = is.empty;
      later = λ next g. later next (later_than at next (subst (λ (o : Option ℕ). late_fault o next ≡ None) last g));
      touches = is.touches;
    }

-- before the first line of a commit or an entry there is no commit
pub nothing_before : (lines : List ℕ) (b : Bool) (commits : List Commit) → length lines ≡ length commits → (not (length lines == 0) || b) ≡ false → length commits ≡ 0
nothing_before [] b commits same h = sym same
nothing_before (l ∷ ls) b commits same h = absurd (grind (arith, nat_tests))

not_late : (begun : Bool) (ds es : List Declaration) (d : Data) → with_namespace begun ds d ≡ Ok es → begun ≡ false
not_late false ds es d h = refl
not_late true ds es d h =
    let one = step_ok (namespace_cause (rules_add ds d)) (late_or true) es h in
    let late : Err causes.Late ≡ Ok es = one.2 in
    cc

-- what is declared by a line that is not refused
pub namespace_made : (begun : Bool) (ds es : List Declaration) (d : Data) → with_namespace begun ds d ≡ Ok es → rules_add ds d ≡ Ok es
namespace_made begun ds es d h =
    let one = step_ok (namespace_cause (rules_add ds d)) (late_or begun) es h in
    let late = not_late begun ds es d h in
    let two = step_ok (rules_checked one.0) (λ u. Ok one.0) es (subst (λ (b : Bool). late_or b one.0 ≡ Ok es) late one.2) in
    let same : one.0 ≡ es = let e : Ok one.0 ≡ Ok es = two.2 in cc in
    rules_ok (rules_add ds d) es (one.1 ∙ ap (λ (xs : List Declaration). Ok xs) same)

-- what a line of a namespace leaves
pub orderly_declared : (r : Result (Unit {0}) Cause) (begun : Bool) (ds es : List Declaration) (commits : List Commit) (sample : List TupleValue) (d : Data)
    → IsOrderly ds commits sample → (begun ≡ false → length commits ≡ 0) → Gives (λ u. es) r (with_namespace begun ds d) → OnErr r (es ≡ [])
    → OnOk r ((at : ℕ) → IsLater at ds → IsLater at es) → IsOrderly es commits sample
orderly_declared (Err e) begun ds es commits sample d is first gives none later = rw none (orderly_without ds commits sample is)
orderly_declared (Ok u) true ds es commits sample d is first gives none later = let late : true ≡ false = not_late true ds es d gives in cc
orderly_declared (Ok u) false ds es [] sample d is first gives none later = orderly_namespace ds es sample d is gives later
orderly_declared (Ok u) false ds es (c ∷ cs) sample d is first gives none later = let n : length (c ∷ cs) ≡ 0 = first refl in absurd (omega arith)

-- a change that comes too late, and breaks an edge
pub late_and_broken : (ds : List Declaration) (d : Data) (last : ℕ) (e : Edge) → change_answer ds d ≡ Ok (tt {0})
    → ((at : ℕ) (es : List Declaration) → rules_change ds at d ≡ Ok es → first_broken es (rule_edges es) ≡ Err e)
    → (at : ℕ) → refused_late last at ds d ≡ Err (causes.Strata e)
late_and_broken ds d last e would broken at =
    let n = made ds d would in
    let accepted : rules_change ds at d ≡ Ok (ds ++ change at n.0 ∷ []) = rw n.1 refl in
    rw (accepted, broken at (ds ++ change at n.0 ∷ []) accepted) refl

-- what a change leaves
pub orderly_changed : (r : Result (Unit {0}) Cause) (ds es : List Declaration) (commits : List Commit) (sample : List TupleValue) (at : ℕ) (d : Data)
    → IsOrderly ds commits sample → IsLater at ds → last_at commits ≡ Some at → Gives (λ u. es) r (changed_rules at ds sample d) → OnErr r (es ≡ [])
    → OnOk r ((next : ℕ) → at < next → IsLater next es) → IsOrderly es commits sample
orderly_changed (Err e) ds es commits sample at d is before last gives none later = rw none (orderly_without ds commits sample is)
orderly_changed (Ok u) ds es commits sample at d is before last gives none later = orderly_change ds es commits sample at d is before last gives later

-- the sample tells the same of a change as all tuples
pub changed_alike : (at : ℕ) (ds : List Declaration) (sample ts : List TupleValue) (d : Data) → Represents sample ts → changed_rules at ds sample d ≡ changed_rules at ds ts d
changed_alike at ds sample ts d same =
    ap (λ (f : List Declaration → Result (Unit {0}) Cause). namespace_cause (rules_change ds at d) >>= λ es. rules_checked es >>= λ u. f es >>= λ v. Ok es)
    (fun_ext (λ (es : List Declaration). ap strata_cause (same es)))

-- ---- change lines

-- a change that is not later than the last commit
pub late_line : (n at last : ℕ) (t : TraceValue) (d : Data) → late_fault (last_at t.commits) at ≡ Some (NotLater last) → change_line at n t d ≡ refused_late last at t.declarations d
unfolding change_line
late_line n at last t d h = rw h refl

-- a commit without a touch that is later than all others is not refused
pub empty_accepted : (commits : List Commit) (at : ℕ) → late_fault (last_at commits) at ≡ None → length (changelog commits) ≤ 2 ^ 32 - 1 → append_fault (changes commits) at [] [] ≡ None
empty_accepted commits at h few =
    let room : nat_lt (2 ^ 32 - 1) (length (changelog commits) + (0 + 0)) ≡ false = grind (arith, nat_tests) in
    rw (h, room) refl

-- what such a commit makes of the trace
pub committed : (n at : ℕ) (t u : TraceValue) → with_commit n t (empty_commit at) ≡ Ok u → u ≡ with_touches n t (empty_commit at)
unfolding with_commit
committed n at t u h =
    let last = step_ok (commit_checked t.declarations (changes_of t) at [] []) (λ v. Ok (with_touches n t (empty_commit at))) u h in
    let same : Ok (with_touches n t (empty_commit at)) ≡ Ok u = last.2 in
    cc

pub empty_last : (t : TraceValue) (n at : ℕ) → last_at (with_touches n t (empty_commit at)).commits ≡ Some at
empty_last t n at = last_pushed t.commits (empty_commit at)

-- the rest of a change line, behind its commit
pub change_rest : (n at : ℕ) (t : TraceValue) (d : Data) → late_fault (last_at t.commits) at ≡ None → length (changelog t.commits) ≤ 2 ^ 32 - 1
    → change_line at n t d ≡ rules_changed at (with_touches n t (empty_commit at)) d
unfolding change_line
change_rest n at t d h few =
    let same : added (t.commits ++ empty_commit at ∷ []) ≡ added t.commits = added_pushed t.commits (empty_commit at) ∙ append-nil (added t.commits) in
    rw (empty_accepted t.commits at h few, same) (by (rules_change t.declarations at d))
  where
    by_tuples : (es : List Declaration) (r : Result (Unit {0}) Cause)
        → (r >>= λ w. Ok (record (with_touches n t (empty_commit at)) { declarations = es }))
        ≡ ((r >>= λ v. Ok es) >>= λ xs. Ok (record (with_touches n t (empty_commit at)) { declarations = xs }))
    by_tuples es (Ok u) = refl
    by_tuples es (Err c) = refl

    by_rules : (es : List Declaration) (r : Result (Unit {0}) Cause)
        → (r >>= λ u. Ok (tt {0}) >>= λ v. tuples_checked es (added t.commits) >>= λ w. Ok (record (with_touches n t (empty_commit at)) { declarations = es }))
        ≡ ((r >>= λ u. tuples_checked es (added t.commits) >>= λ v. Ok es) >>= λ xs. Ok (record (with_touches n t (empty_commit at)) { declarations = xs }))
    by_rules es (Ok u) = by_tuples es (tuples_checked es (added t.commits))
    by_rules es (Err c) = refl

    by : (o : Result (List Declaration) RulesFault)
        → (namespace_cause o >>= λ es. rules_checked es >>= λ u. Ok (tt {0}) >>= λ v. tuples_checked es (added t.commits) >>= λ w. Ok (record (with_touches n t (empty_commit at)) { declarations = es }))
        ≡ ((namespace_cause o >>= checked (added t.commits)) >>= λ xs. Ok (record (with_touches n t (empty_commit at)) { declarations = xs }))
    by (Ok es) = by_rules es (rules_checked es)
    by (Err f) = refl

pub not_err : (new : TraceValue) (r : Result (Unit {0}) Cause) (given : Result TraceValue Cause) → is_err r ≡ false → Gives (λ u. new) r given → given ≡ Ok new
not_err new (Ok u) given h g = g
not_err new (Err e) given h g = cc

pub gives_rest : (new : TraceValue) (r : Result (Unit {0}) Cause) (n at : ℕ) (t mid : TraceValue) (d : Data) → mid ≡ with_touches n t (empty_commit at)
    → late_fault (last_at t.commits) at ≡ None → length (changelog t.commits) ≤ 2 ^ 32 - 1 → Gives (λ u. new) r (rules_changed at mid d) → Gives (λ u. new) r (change_line at n t d)
gives_rest new r n at t mid d is h few given =
    subst (λ (x : Result TraceValue Cause). Gives (λ u. new) r x) (ap (λ (x : TraceValue). rules_changed at x d) is ∙ sym (change_rest n at t d h few)) given

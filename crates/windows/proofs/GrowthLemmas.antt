-- What the first lines of a log say stands when it has grown.
use Rattle.std.proofs.Common.{◌≡◌, ℕ, ◌+◌, ◌-◌, ◌^◌, ◌<◌, ◌≤◌, ◌==◌, ◌&&◌, ◌||◌, not, min, Bool, true, false, cond, eqb, List, [], ◌∷◌, ◌++◌, length, map, Option, Some, None, Result, Ok, Err, refl, sym, ◌∙◌, ap, subst, arith, append_assoc, append-nil, length-append}
use Rattle.std.specs.Prelude.{codes, bytes_eq, option_and_then, Contains}
use Rattle.std.specs.Str.{is_utf8}
use Rattle.std.proofs.lemmas.Bool.{ne_eqb, le-ltb}
use Rattle.std.proofs.lemmas.List.{map-append}
use Rattle.std.proofs.lemmas.List.Elements.{All-nil, All-cons, All-append, Contains-append_left, Contains-append_right}
use Rattle.std.proofs.lemmas.List.Splits.{length-slice_split}
use Rattle.serde_json.specs.Data.{Data}
use Rattle.serde_json.specs.Find.{get, as_str}
use Rattle.serde_json.specs.Read.{read}
use Rattle.refusals.specs.Refusals.{◌>>=◌}
use Rattle.refusals.proofs.Steps.{OkHas, passes, passes_with, either_passes, value_has}
use Rattle.namespaces.specs.Adding as adding
use Rattle.namespaces.specs.Adding.{rules_add}
use Rattle.namespaces.specs.Changing.{changed, rules_change}
use Rattle.namespaces.specs.Declaration.{Namespace, Declaration, addition, change}
use Rattle.namespaces.specs.declared.fault.RulesFault.{RulesFault}
use Rattle.version_chains.specs.Commits.{Commit, added}
use Rattle.version_chains.specs.Appends.{append_fault}
use Rattle.line_blocks.proofs.WholeLines.{parts_at}
use Rattle.json_lines.specs.Fields.{optional_number_at}
use Rattle.json_lines.specs.Json.{is_blank, of_json, json_line, taken_line}
use Rattle.json_lines.specs.Reading.{at_line, passes_limit, read_from, read_all, parts}
use Rattle.json_lines.specs.declared.lines.InputFault.TheVariants.{TooLong}
use Rattle.json_lines.specs.declared.reading.LineFault.{LineFault}
use Rattle.json_lines.specs.declared.reading.Stop.TheVariants.{Input}
use Rattle.trace_lines.specs.Causes.{namespace_cause}
use Rattle.trace_lines.specs.Values.{EntryValue, TraceValue, empty_trace, next_line}
use Rattle.trace_lines.specs.Versions.{is_repeated}
use Rattle.trace_lines.specs.Traces.{is_begun, rules_checked, tuples_checked, late_or, namespace_line, changes_of, append_cause, commit_checked, with_touches, with_commit, commit_of, empty_commit, change_line, declared_from, declaration_line, are_declared, entry_of, is_declared, recorded, with_entry, of_kind, value_line, faulted, trace_of}
use Rattle.trace_lines.specs.declared.entry.EntryKind.TheVariants.{Check, Content}
use Rattle.trace_lines.specs.declared.cause.Cause.{Cause}
use Rattle.trace_lines.specs.declared.cause.Cause.TheVariants as causes
use Rattle.trace_lines.proofs.RisingLines.{fits_value, entry_stands}
use Rattle.windows.specs.Growth.{GoesOn}

-- ---- one line more

longer : {X : Type 0} (xs ys : List X) → not (length xs == 0) ≡ true → not (length (xs ++ ys) == 0) ≡ true
longer [] ys h = cc
longer (x ∷ xs) ys h = ap not (ne_eqb (length (x ∷ (xs ++ ys))) 0 (λ e. omega (arith, e)))

either : (a b c d : Bool) → (a ≡ true → c ≡ true) → (b ≡ true → d ≡ true) → (a || b) ≡ true → (c || d) ≡ true
either true b c d f g h = rw (f refl) refl
either false true c d f g h = by_first c (g refl)
  where
    by_first : (c : Bool) → d ≡ true → (c || d) ≡ true
    by_first true e = refl
    by_first false e = e
either false false c d f g h = cc

nothing_more : {X : Type 0} (xs ys zs : List X) (x : X) → xs ≡ ys ++ zs → xs ++ x ∷ [] ≡ ys ++ (zs ++ x ∷ [])
nothing_more xs ys zs x e = ap (λ ws. ws ++ x ∷ []) e ∙ append_assoc ys zs (x ∷ [])

passes_told : {A B E : Type 0} (P : B → Type 0) (r : Result A E) (f : A → Result B E)
    → ((x : A) → r ≡ Ok x → OkHas P (f x)) → OkHas P (r >>= f)
passes_told P (Ok x) f h = h x refl
passes_told P (Err e) f h = tt

module _ (k : ℕ) (u : TraceValue) (fits : next_line u ≤ k + 1) where
  goes_on-itself : GoesOn k u u
  goes_on-itself = record {
    declarations = [];
    commits = [];
    commit_lines = [];
    entries = [];
    declared = sym (append-nil u.declarations);
    committed = sym (append-nil u.commits);
    on_lines = sym (append-nil u.commit_lines);
    recorded = sym (append-nil u.entries);
    within = fits;
    commits_behind = All-nil (λ (l : ℕ). k < l);
    entries_behind = All-nil (λ (e : EntryValue). k < e.line);
    changes = λ begun. All-nil (λ (d : Declaration). Contains [] d.at);
  }

  begun_on : (s : TraceValue) → GoesOn k u s → is_begun u ≡ true → is_begun s ≡ true
  begun_on s goes begun =
      either (not (length u.commit_lines == 0)) (not (length u.entries == 0)) (not (length s.commit_lines == 0)) (not
      (length s.entries == 0))
      (λ h. ap (λ (ls : List ℕ). not (length ls == 0)) goes.on_lines ∙ longer u.commit_lines goes.commit_lines h)
      (λ h. ap (λ (es : List EntryValue). not (length es == 0)) goes.recorded ∙ longer u.entries goes.entries h) begun

  declared_more : (s : TraceValue) (n : Namespace) → GoesOn k u s → is_begun s ≡ false
      → GoesOn k u (record s { declarations = s.declarations ++ addition n ∷ [] })
  declared_more s n goes fresh = record {
    declarations = goes.declarations ++ addition n ∷ [];
    commits = goes.commits;
    commit_lines = goes.commit_lines;
    entries = goes.entries;
    declared = nothing_more s.declarations u.declarations goes.declarations (addition n) goes.declared;
    committed = goes.committed;
    on_lines = goes.on_lines;
    recorded = goes.recorded;
    within = fits;
    commits_behind = goes.commits_behind;
    entries_behind = goes.entries_behind;
    changes = λ begun. let no : true ≡ false = sym (begun_on s goes begun) ∙ fresh in cc;
  }

  committed_more : (line : ℕ) (s : TraceValue) (c : Commit) → k < line → GoesOn k u s
      → GoesOn k u (with_touches line s c)
  committed_more line s c le goes = record {
    declarations = goes.declarations;
    commits = goes.commits ++ c ∷ [];
    commit_lines = goes.commit_lines ++ line ∷ [];
    entries = goes.entries;
    declared = goes.declared;
    committed = nothing_more s.commits u.commits goes.commits c goes.committed;
    on_lines = nothing_more s.commit_lines u.commit_lines goes.commit_lines line goes.on_lines;
    recorded = goes.recorded;
    within = fits;
    commits_behind = All-append (λ (l : ℕ). k < l) goes.commit_lines (line ∷ []) goes.commits_behind
        (All-cons (λ (l : ℕ). k < l) line [] le (All-nil (λ (l : ℕ). k < l)));
    entries_behind = goes.entries_behind;
    changes = λ begun j d lt. at_more (goes.changes begun j d lt);
  }
    where
      at_more : {at : ℕ} → Contains (map (λ (x : Commit). x.at) goes.commits) at
          → Contains (map (λ (x : Commit). x.at) (goes.commits ++ c ∷ [])) at
      at_more {at} h = subst (λ (xs : List ℕ). Contains xs at) (sym (map-append (λ (x : Commit). x.at) goes.commits (c
          ∷ []))) (Contains-append_left (map (λ (x : Commit). x.at) goes.commits) (c.at ∷ []) at h)

  changed_more : (line at : ℕ) (s : TraceValue) (n : Namespace) → k < line → GoesOn k u s
      → GoesOn k u (record (with_touches line s (empty_commit at)) { declarations = s.declarations ++ change at n ∷ [] })
  unfolding committed_more
  changed_more line at s n le goes =
      let more = committed_more line s (empty_commit at) le goes in
      record {
        declarations = goes.declarations ++ change at n ∷ [];
        commits = more.commits;
        commit_lines = more.commit_lines;
        entries = more.entries;
        declared = nothing_more s.declarations u.declarations goes.declarations (change at n) goes.declared;
        committed = more.committed;
        on_lines = more.on_lines;
        recorded = more.recorded;
        within = fits;
        commits_behind = more.commits_behind;
        entries_behind = more.entries_behind;
        changes = λ begun. All-append (λ (d : Declaration). Contains (map (λ (c : Commit). c.at) more.commits) d.at)
            goes.declarations (change at n ∷ []) (more.changes begun)
            (All-cons (λ (d : Declaration). Contains (map (λ (c : Commit). c.at) more.commits) d.at) (change at n) []
            here (All-nil (λ (d : Declaration). Contains (map (λ (c : Commit). c.at) more.commits) d.at)));
      }
    where
      here : Contains (map (λ (c : Commit). c.at) (goes.commits ++ empty_commit at ∷ [])) at
      here =
          subst (λ (xs : List ℕ). Contains xs at) (sym (map-append (λ (c : Commit). c.at) goes.commits (empty_commit at
          ∷ [])))
          (Contains-append_right (map (λ (c : Commit). c.at) goes.commits) (at ∷ []) at (0, omega arith, refl))

  recorded_more : (s : TraceValue) (e : EntryValue) → k < e.line → GoesOn k u s
      → GoesOn k u (record s { entries = s.entries ++ e ∷ [] })
  recorded_more s e le goes = record {
    declarations = goes.declarations;
    commits = goes.commits;
    commit_lines = goes.commit_lines;
    entries = goes.entries ++ e ∷ [];
    declared = goes.declared;
    committed = goes.committed;
    on_lines = goes.on_lines;
    recorded = nothing_more s.entries u.entries goes.entries e goes.recorded;
    within = fits;
    commits_behind = goes.commits_behind;
    entries_behind = All-append (λ (x : EntryValue). k < x.line) goes.entries (e ∷ []) goes.entries_behind
        (All-cons (λ (x : EntryValue). k < x.line) e [] le (All-nil (λ (x : EntryValue). k < x.line)));
    changes = goes.changes;
  }

  -- ---- lines of each kind

  abbrev Adds : (Namespace → Declaration) → List Declaration → List Declaration → Type 0
  Adds f ds es = (n : Namespace) × (es ≡ ds ++ f n ∷ [])

  of_rules : (P : List Declaration → Type 0) (r : Result (List Declaration) RulesFault) → OkHas P r
      → OkHas P (namespace_cause r)
  of_rules P (Ok ds) h = h
  of_rules P (Err f) h = tt

  namespace_on : (s : TraceValue) (d : Data) → GoesOn k u s → OkHas (GoesOn k u) (namespace_line s d)
  unfolding namespace_line
  namespace_on s d goes =
      by_begun (namespace_cause (rules_add s.declarations d))
      (of_rules (Adds addition s.declarations) (rules_add s.declarations d) (passes (Adds addition s.declarations)
      (adding.added s.declarations d) _ (λ n. (n, refl))))
      (is_begun s) refl
    where
      checked : (es : List Declaration) → Adds addition s.declarations es → is_begun s ≡ false
          → (r : Result (Unit {0}) Cause)
          → OkHas (GoesOn k u) ((r >>= λ v. Ok es) >>= λ ds. Ok (record s { declarations = ds }))
      checked es adds fresh (Err e) = tt
      checked es adds fresh (Ok v) = subst (λ (ds : List Declaration). GoesOn k u (record s { declarations = ds })) (sym
          adds.1) (declared_more s adds.0 goes fresh)

      by_begun : (r : Result (List Declaration) Cause) → OkHas (Adds addition s.declarations) r → (b : Bool)
          → is_begun s ≡ b
          → OkHas (GoesOn k u) ((r >>= late_or b) >>= λ ds. Ok (record s { declarations = ds }))
      by_begun (Err e) adds b is = tt
      by_begun (Ok es) adds true is = tt
      by_begun (Ok es) adds false is = checked es adds is (rules_checked es)

  change_on : (at n : ℕ) (s : TraceValue) (d : Data) → k < n → GoesOn k u s
      → OkHas (GoesOn k u) (change_line at n s d)
  unfolding change_line
  change_on at n s d le goes =
      passes_with (Adds (change at) s.declarations) (GoesOn k u) (namespace_cause (rules_change s.declarations at d)) _
      (of_rules (Adds (change at) s.declarations) (rules_change s.declarations at d) (passes (Adds (change at)
      s.declarations) (changed s.declarations d) _ (λ m. (m, refl))))
      (λ es adds. passes (GoesOn k u) (rules_checked es) _
      (λ v. passes (GoesOn k u) (append_cause (append_fault (changes_of s) at [] [])) _
      (λ w. passes (GoesOn k u) (tuples_checked es (added s.commits)) _
      (λ x. subst (λ (ds : List Declaration). GoesOn k u (record (with_touches n s (empty_commit at)) {
        declarations = ds;
      })) (sym adds.1) (changed_more n at s adds.0 le goes)))))

  declaration_on : (o : Option (Option ℕ)) (n : ℕ) (s : TraceValue) (d : Data) → k < n → GoesOn k u s
      → OkHas (GoesOn k u) (declared_from o n s d)
  declaration_on None n s d le goes = tt
  declaration_on (Some None) n s d le goes = namespace_on s d goes
  declaration_on (Some (Some at)) n s d le goes = change_on at n s d le goes

  commit_on : (n : ℕ) (s : TraceValue) (c : Commit) → k < n → GoesOn k u s
      → OkHas (GoesOn k u) (with_commit n s c)
  unfolding with_commit
  commit_on n s c le goes =
      either_passes (GoesOn k u) (are_declared s.declarations c.adds && are_declared s.declarations c.removes) _ (Err
      causes.Unknown)
      (passes (GoesOn k u) (commit_checked s.declarations (changes_of s) c.at c.adds c.removes) _ (λ v. committed_more n
      s c le goes)) tt

  entry_on : (s : TraceValue) (e : EntryValue) → k < e.line → GoesOn k u s → OkHas (GoesOn k u) (with_entry s e)
  unfolding with_entry
  entry_on s e le goes =
      either_passes (GoesOn k u) (is_declared s.declarations e.goal.set) (recorded s e) (Err causes.Unknown)
      (either_passes (GoesOn k u) (is_repeated s.entries e) (Err causes.RepeatedVersion) _ tt (recorded_more s e le goes)) tt

  kind_on : (n : ℕ) (s : TraceValue) (d : Data) (kind : Option (List ℕ)) → k < n → GoesOn k u s
      → OkHas (GoesOn k u) (of_kind n s d kind)
  unfolding declaration_line
  kind_on n s d None le goes = tt
  kind_on n s d (Some kind) le goes =
      either_passes (GoesOn k u) (bytes_eq kind (codes "namespace")) _ _ (declaration_on (optional_number_at (codes "at")
      d) n s d le goes)
      (either_passes (GoesOn k u) (bytes_eq kind (codes "commit")) _ _ (passes (GoesOn k u) (commit_of d) (with_commit n s)
      (λ c. commit_on n s c le goes))
      (either_passes (GoesOn k u) (bytes_eq kind (codes "content")) _ _ (passes_told (GoesOn k u) (entry_of Content n
      (length s.commits) d) (with_entry s) (λ e is. entry_on s e (let line = (entry_stands Content n (length s.commits) d e
      is).0 in omega (arith, line, le)) goes))
      (either_passes (GoesOn k u) (bytes_eq kind (codes "check")) _ _ (passes_told (GoesOn k u) (entry_of Check n
      (length s.commits) d) (with_entry s) (λ e is. entry_on s e (let line = (entry_stands Check n (length s.commits) d e
      is).0 in omega (arith, line, le)) goes)) tt)))

  value_on : (n : ℕ) (s : TraceValue) (d : Data) → k < n → GoesOn k u s → OkHas (GoesOn k u) (value_line n s d)
  unfolding value_line
  value_on n s d le goes = kind_on n s d (option_and_then as_str (get (codes "kind") d)) le goes

  abbrev taken : ℕ → TraceValue → List ℕ → Result TraceValue Cause
  taken n s line = taken_line causes.NotJson value_line n s line

  json_on : (n : ℕ) (s : TraceValue) (o : Option Data) → k < n → GoesOn k u s
      → OkHas (GoesOn k u) (of_json causes.NotJson (value_line n s) o)
  json_on n s None le goes = tt
  json_on n s (Some d) le goes = value_on n s d le goes

  line_on : (n : ℕ) (s : TraceValue) (line : List ℕ) → k < n → GoesOn k u s → OkHas (GoesOn k u) (taken n s line)
  unfolding json_line
  line_on n s line le goes =
      either_passes (GoesOn k u) (is_blank line) (Ok s) _ goes
      (either_passes (GoesOn k u) (is_utf8 line) _ (Err causes.NotJson) (json_on n s (read line) le goes) tt)

  on_line : (n : ℕ) (r : Result TraceValue Cause) → OkHas (GoesOn k u) r → OkHas (GoesOn k u) (at_line n r)
  on_line n (Ok s) h = h
  on_line n (Err c) h = tt

  lines_on : (n room : ℕ) (s : TraceValue) (lines : List (List ℕ)) → k < n → GoesOn k u s
      → OkHas (GoesOn k u) (read_from taken true n room s lines)
  lines_on n room s [] le goes = goes
  lines_on n room s (line ∷ lines) le goes =
      either_passes (GoesOn k u) (passes_limit room line (not (length lines == 0))) _ _ tt
      (passes_with (GoesOn k u) (GoesOn k u) (at_line n (taken n s line)) _ (on_line n (taken n s line) (line_on n s line
      le goes))
      (λ t next. lines_on (n + 1) (room - (length line + 1)) t lines (omega (arith, le)) next))

-- ---- the first lines alone

abbrev takes : ℕ → TraceValue → List ℕ → Result TraceValue Cause
takes n s line = taken_line causes.NotJson value_line n s line

abbrev Fits : ℕ → TraceValue → Type 0
Fits n s = next_line s ≤ n

fits_json : (n : ℕ) (s : TraceValue) (o : Option Data) → Fits n s
    → OkHas (Fits (n + 1)) (of_json causes.NotJson (value_line n s) o)
fits_json n s None le = tt
fits_json n s (Some d) le = fits_value n s d le

fits_line : (n : ℕ) (s : TraceValue) (line : List ℕ) → Fits n s → OkHas (Fits (n + 1)) (takes n s line)
unfolding json_line
fits_line n s line le =
    either_passes (Fits (n + 1)) (is_blank line) (Ok s) _ (omega (arith, le))
    (either_passes (Fits (n + 1)) (is_utf8 line) _ (Err causes.NotJson) (fits_json n s (read line) le) tt)

at_fits : (m n : ℕ) (r : Result TraceValue Cause) → OkHas (Fits m) r → OkHas (Fits m) (at_line n r)
at_fits m n (Ok s) h = h
at_fits m n (Err c) h = tt

-- what lines make fits a further line behind them
pub lines_fit : (m n room : ℕ) (s : TraceValue) (lines : List (List ℕ)) → n + length lines ≤ m → Fits n s
    → OkHas (Fits m) (read_from takes true n room s lines)
lines_fit m n room s [] last le = omega (arith, last, le)
lines_fit m n room s (line ∷ lines) last le =
    either_passes (Fits m) (passes_limit room line (not (length lines == 0))) _ _ tt
    (passes_with (Fits (n + 1)) (Fits m) (at_line n (takes n s line)) _
    (at_fits (n + 1) n (takes n s line) (fits_line n s line le))
    (λ t next. lines_fit m (n + 1) (room - (length line + 1)) t lines (omega (arith, last)) next))

-- what the first of some lines make, where all make t
record HasFirst (n room : ℕ) (s : TraceValue) (xs ys : List (List ℕ)) (t : TraceValue) : Type 0 where
  pub u : TraceValue
  pub first : read_from takes true n room s (xs ++ [] ∷ []) ≡ Ok u
  pub number : ℕ
  pub counted : number ≡ n + length xs
  pub left : ℕ
  pub fits : Fits number u
  pub then : read_from takes true number left u ys ≡ Ok t

no_limit : (room : ℕ) → passes_limit room [] false ≡ false
no_limit room = rw (le-ltb (min room (2 ^ 20)) 0 (omega arith)) refl

some_behind : {X : Type 0} (xs ys : List X) → 0 < length ys → (length (xs ++ ys) == 0) ≡ false
some_behind xs ys h = let n = length-append xs ys in ne_eqb (length (xs ++ ys)) 0 (λ e. omega (arith, n, h, e))

has_first : (n room : ℕ) (s : TraceValue) (xs ys : List (List ℕ)) (t : TraceValue) → 0 < length ys → Fits n s
    → read_from takes true n room s (xs ++ ys) ≡ Ok t → HasFirst n room s xs ys t
has_first n room s [] ys t some le h = record {
  u = s;
  first = rw (no_limit room) refl;
  number = n;
  counted = omega arith;
  left = room;
  fits = le;
  then = h;
}
has_first n room s (x ∷ xs) ys t some le h =
    by_line (λ v fits rest. has_first (n + 1) (room - (length x + 1)) v xs ys t some fits rest) (takes n s x)
    (fits_line n s x le) refl (passes_limit room x true) refl
    (sym (ap (λ (b : Bool). cond (passes_limit room x (not b)) too_long (at_line n (takes n s x) >>= further (xs ++
    ys))) (some_behind xs ys some)) ∙ h)
  where
    too_long : Result TraceValue (LineFault Cause)
    too_long = Err (record { line = n; stop = Input TooLong })

    further : List (List ℕ) → TraceValue → Result TraceValue (LineFault Cause)
    further lines v = read_from takes true (n + 1) (room - (length x + 1)) v lines

    by_line : ((v : TraceValue) → Fits (n + 1) v → further (xs ++ ys) v ≡ Ok t
        → HasFirst (n + 1) (room - (length x + 1)) v xs ys t)
        → (r : Result TraceValue Cause) → OkHas (Fits (n + 1)) r → takes n s x ≡ r → (b : Bool)
        → passes_limit room x true ≡ b
        → cond b too_long (at_line n r >>= further (xs ++ ys)) ≡ Ok t → HasFirst n room s (x ∷ xs) ys t
    by_line on r fits is true limit h = cc
    by_line on (Err c) fits is false limit h = cc
    by_line on (Ok v) fits is false limit h =
        let rest = on v fits h in
        record {
          u = rest.u;
          first =
              ap (λ (b : Bool). cond (passes_limit room x (not b)) too_long (at_line n (takes n s x) >>= further (xs ++
              [] ∷ []))) (some_behind xs ([] ∷ []) (omega arith))
              ∙ ap (λ (b : Bool). cond b too_long (at_line n (takes n s x) >>= further (xs ++ [] ∷ []))) limit
              ∙ ap (λ (r : Result TraceValue Cause). at_line n r >>= further (xs ++ [] ∷ [])) is
              ∙ rest.first;
          number = rest.number;
          counted = let counted = rest.counted in omega (arith, counted);
          left = rest.left;
          fits = rest.fits;
          then = rest.then;
        }

-- ---- bytes

read_ok : (r : Result TraceValue (LineFault Cause)) (t : TraceValue) → faulted r ≡ Ok t → r ≡ Ok t
read_ok (Ok s) t h = let same : s ≡ t = cc in ap Ok same
read_ok (Err e) t h = cc

-- lines from number k + 1 on are put behind a trace: what the first of them make, and what all make
pub begins_from : (k room : ℕ) (s : TraceValue) → next_line s ≤ k + 1 → (a b : List ℕ) (t : TraceValue)
    → read_from takes true (k + 1) room s (parts ((a ++ 10 ∷ []) ++ b)) ≡ Ok t → (u : TraceValue)
    × (read_from takes true (k + 1) room s (parts (a ++ 10 ∷ [])) ≡ Ok u) × GoesOn (k + length (parts a)) u t
begins_from k room s fits a b t h =
    let lines : parts ((a ++ 10 ∷ []) ++ b) ≡ parts a ++ parts b = ap parts (append_assoc a (10 ∷ []) b)
    ∙ parts_at a b in
    let all = sym (ap (λ (ls : List (List ℕ)). read_from takes true (k + 1) room s ls) lines) ∙ h in
    let n = length-slice_split (λ b. eqb b 10) b in
    let f = has_first (k + 1) room s (parts a) (parts b) t (omega (arith, n)) fits all in (
      f.u,
      ap (λ (ls : List (List ℕ)). read_from takes true (k + 1) room s ls) (parts_at a []) ∙ f.first,
      let fits = f.fits in
          let counted = f.counted in
          let within : next_line f.u ≤ k + length (parts a) + 1 = omega (arith, fits, counted) in
          value_has (GoesOn (k + length (parts a)) f.u) (read_from takes true f.number f.left f.u (parts b)) t f.then (lines_on
          (k + length (parts a)) f.u within f.number f.left f.u (parts b) (omega (arith, counted)) (goes_on-itself
          (k + length (parts a)) f.u within)),
    )

-- all that lines make goes on from what they are put behind
pub goes_from : (k room : ℕ) (s : TraceValue) → next_line s ≤ k + 1 → (lines : List (List ℕ)) (t : TraceValue)
    → read_from takes true (k + 1) room s lines ≡ Ok t → GoesOn k s t
goes_from k room s fits lines t h = value_has (GoesOn k s) (read_from takes true (k + 1) room s lines) t h
    (lines_on k s fits (k + 1) room s lines (omega arith) (goes_on-itself k s fits))

pub begins : (a b : List ℕ) (t : TraceValue) → trace_of true ((a ++ 10 ∷ []) ++ b) ≡ Ok t → (u : TraceValue)
    × (trace_of true (a ++ 10 ∷ []) ≡ Ok u) × GoesOn (length (parts a)) u t
unfolding read_all
begins a b t h =
    let first = begins_from 0 (2 ^ 30) empty_trace (omega arith) a b t (read_ok _ t h) in (
      first.0,
      ap faulted first.1,
      subst (λ (k : ℕ). GoesOn k first.0 t) (let z : 0 + length (parts a) ≡ length (parts a) = omega arith in z) first.2,
    )

pub blank_line : (n room : ℕ) (s : TraceValue) → read_from takes true n room s ([] ∷ []) ≡ Ok s
blank_line n room s = rw (no_limit room) refl

-- no bytes say the empty trace, and all that bytes say goes on from it
pub nothing_said : trace_of true [] ≡ Ok empty_trace
unfolding read_all
nothing_said = ap faulted (blank_line 1 (2 ^ 30) empty_trace)

pub from_nothing : (a : List ℕ) (t : TraceValue) → trace_of true a ≡ Ok t → GoesOn 0 empty_trace t
unfolding read_all
from_nothing a t h = goes_from 0 (2 ^ 30) empty_trace (omega arith) (parts a) t (read_ok _ t h)

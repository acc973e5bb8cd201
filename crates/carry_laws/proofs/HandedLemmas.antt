-- What stands in for a trace that stands in for a log stands in for the log.
use Rattle.std.proofs.Common.{◌≡◌, ℕ, zero, suc, ◌+◌, ◌<◌, ◌≤◌, ◌||◌, ◌&&◌, max, inl, inr, Bool, true, false, cond, eqb, ltb, leb, List, [], ◌∷◌, ◌++◌, map, Option, Some, None, refl, sym, ◌∙◌, ap, subst, arith}
use Rattle.std.specs.Prelude.{All, filter, slice_get, option_map}
use Rattle.std.specs.List.{AllByRecursion, list_any}
use Rattle.std.proofs.lemmas.Bool.{cases_lt, eqb-true, le-leb, le-ltb, lt-ltb, leb-true}
use Rattle.std.proofs.lemmas.List.Elements.{All-from_recursion, All-weaker, filter-append, recursion_from_All}
use Rattle.std.proofs.lemmas.List.Folds.{list_any-append}
use Rattle.std.proofs.lemmas.Option.{slice_get-map}
use Rattle.version_chains.specs.Commits.{Commit}
use Rattle.trace_lines.specs.Values.{EntryValue, TraceValue}
use Rattle.token_order.specs.Order.{CommitLine, commit_lines_of}
use Rattle.windows.specs.Compaction.{StandsFor, above}
use Rattle.windows.specs.Growth.{HasRisingLines, is_settled}
use Rattle.windows.proofs.CompactionLemmas.{IsUpTo}
use Rattle.windows.proofs.CutLemmas as cut
use Rattle.windows.proofs.WindowLemmas.{every, filter_mapped}
use Rattle.carry_laws.specs.declared.known.Known.{Known}
use Rattle.carry_laws.specs.Carried.{StandsIn, has_commit_at, lines_above, placeless}
use Rattle.carry_laws.proofs.ReachLemmas.{any_weaker}
use Rattle.carry_laws.proofs.StandInLemmas.{bound, first_lines, first_up_to, lines_are, rest_lines, weaker, window, within_bound}

-- ---- filters

twice : {X : Type 0} (one two : X → Bool) → ((x : X) → two x ≡ true → one x ≡ true) → (xs : List X)
    → filter two (filter one xs) ≡ filter two xs
twice one two imp [] = refl
twice {X} one two imp (x ∷ xs) = by_test (twice one two imp xs) (one x) refl (two x) refl
  where
    by_test : filter two (filter one xs) ≡ filter two xs → (a : Bool) → one x ≡ a → (b : Bool) → two x ≡ b
        → filter two (cond a (x ∷ filter one xs) (filter one xs)) ≡ cond b (x ∷ filter two xs) (filter two xs)
    by_test rest true is true also = ap (λ (b : Bool). cond b (x ∷ filter two (filter one xs)) (filter two (filter one xs))) also
        ∙ ap (λ (ys : List X). x ∷ ys) rest
    by_test rest true is false also = ap (λ (b : Bool). cond b (x ∷ filter two (filter one xs)) (filter two (filter one xs))) also
        ∙ rest
    by_test rest false is true also = let no : false ≡ true = sym is ∙ imp x also in absurd cc
    by_test rest false is false also = rest

both_tests : {X : Type 0} (one two : X → Bool) (xs : List X) → filter two (filter one xs) ≡ filter (λ x. one x && two x) xs
both_tests one two [] = refl
both_tests {X} one two (x ∷ xs) = by_test (both_tests one two xs) (one x)
  where
    by_test : filter two (filter one xs) ≡ filter (λ y. one y && two y) xs → (a : Bool)
        → filter two (cond a (x ∷ filter one xs) (filter one xs)) ≡ cond (a && two x) (x ∷ filter (λ y. one y && two y)
        xs) (filter (λ y. one y && two y) xs)
    by_test rest true = ap (λ (ys : List X). cond (two x) (x ∷ ys) ys) rest
    by_test rest false = rest

none_left : {X : Type 0} (test : X → Bool) (xs : List X) → AllByRecursion (λ x. test x ≡ false) xs → filter test xs ≡ []
none_left test [] h = refl
none_left test (x ∷ xs) h = rw h.0 (none_left test xs h.1)

any_filtered : {X : Type 0} (test q : X → Bool) (xs : List X) → list_any q (filter test xs) ≡ true → list_any q xs ≡ true
any_filtered test q [] h = h
any_filtered {X} test q (x ∷ xs) h = by_test (any_filtered test q xs) (test x) (q x) refl h
  where
    by_test : (list_any q (filter test xs) ≡ true → list_any q xs ≡ true) → (a b : Bool) → q x ≡ b
        → list_any q (cond a (x ∷ filter test xs) (filter test xs)) ≡ true → (b || list_any q xs) ≡ true
    by_test rest a true is h = refl
    by_test rest true false is h = rest (sym (ap (λ (c : Bool). c || list_any q (filter test xs)) is) ∙ h)
    by_test rest false false is h = rest h

unfiltered : {X : Type 0} (test : X → Bool) (P : X → Type 0) (xs : List X) → AllByRecursion P (filter test xs)
    → AllByRecursion (λ x. test x ≡ true → P x) xs
unfiltered test P [] h = tt
unfiltered {X} test P (x ∷ xs) h = by_test (unfiltered test P xs) (test x) refl h
  where
    by_test : (AllByRecursion P (filter test xs) → AllByRecursion (λ y. test y ≡ true → P y) xs) → (a : Bool) → test x ≡ a
        → AllByRecursion P (cond a (x ∷ filter test xs) (filter test xs))
        → (test x ≡ true → P x) × AllByRecursion (λ y. test y ≡ true → P y) xs
    by_test rest true is h = (λ _. h.0, rest h.1)
    by_test rest false is h = (λ yes. let no : false ≡ true = sym is ∙ yes in absurd cc, rest h)

behind_some : {X : Type 0} (P : X → Type 0) (xs ys : List X) → AllByRecursion P (xs ++ ys) → AllByRecursion P ys
behind_some P [] ys h = h
behind_some P (x ∷ xs) ys h = behind_some P xs ys h.1

-- what passes stands among what is left
pub among_kept : (keep : EntryValue → Bool) (xs : List EntryValue) (i : ℕ) (e : EntryValue) → slice_get xs i ≡ Some e
    → keep e ≡ true → (j : ℕ) × (slice_get (filter keep xs) j ≡ Some e)
among_kept keep [] i e at kept = absurd (let no : None ≡ Some e = at in cc)
among_kept keep (x ∷ xs) zero e at kept =
    let same : x ≡ e = cc in
    (0, ap (λ (b : Bool). slice_get (cond b (x ∷ filter keep xs) (filter keep xs)) 0) (ap keep same ∙ kept) ∙ at)
among_kept keep (x ∷ xs) (suc i) e at kept = by_test (among_kept keep xs i e at kept) (keep x)
  where
    by_test : (j : ℕ) × (slice_get (filter keep xs) j ≡ Some e) → (b : Bool)
        → (j : ℕ) × (slice_get (cond b (x ∷ filter keep xs) (filter keep xs)) j ≡ Some e)
    by_test rest true = (suc rest.0, rest.1)
    by_test rest false = rest

up_to_base : (b c : ℕ) (cs : List Commit) → AllByRecursion (IsUpTo b) cs
    → list_any (λ (x : Commit). eqb x.at c) cs ≡ true → c ≤ b
up_to_base b c [] h any = absurd (let no : false ≡ true = any in cc)
up_to_base b c (x ∷ xs) h any = by_test (up_to_base b c xs h.1) (eqb x.at c) refl any
  where
    by_test : (list_any (λ (y : Commit). eqb y.at c) xs ≡ true → c ≤ b) → (a : Bool) → eqb x.at c ≡ a
        → (a || list_any (λ (y : Commit). eqb y.at c) xs) ≡ true → c ≤ b
    by_test rest true is any = let same = eqb-true x.at c is in let le = h.0 in omega (arith, same, le)
    by_test rest false is any = rest any

reaches_base : (q b : ℕ) (cs : List Commit) → AllByRecursion (IsUpTo b) cs
    → list_any (λ (x : Commit). leb q x.at) cs ≡ true → q ≤ b
reaches_base q b [] h any = absurd (let no : false ≡ true = any in cc)
reaches_base q b (x ∷ xs) h any = by_test (reaches_base q b xs h.1) (leb q x.at) refl any
  where
    by_test : (list_any (λ (y : Commit). leb q y.at) xs ≡ true → q ≤ b) → (a : Bool) → leb q x.at ≡ a
        → (a || list_any (λ (y : Commit). leb q y.at) xs) ≡ true → q ≤ b
    by_test rest true is any = let high = leb-true q x.at is in let le = h.0 in omega (arith, high, le)
    by_test rest false is any = rest any

-- what is reached by what stands in for a log is reached in the log
pub reached_back : (known : Known) (p : ℕ) (u y : TraceValue) → StandsIn known p u y → (m : ℕ)
    → list_any (λ (d : Commit). leb m d.at) y.commits ≡ true → list_any (λ (d : Commit). leb m d.at) u.commits ≡ true
reached_back known p u y s m any =
    by_front (list_any reaches s.front) refl (sym (ap (list_any reaches) s.commits ∙ list_any-append reaches
    s.front (above known.base u.commits)) ∙ any)
  where
    reaches : Commit → Bool
    reaches d = leb m d.at

    by_front : (z : Bool) → list_any reaches s.front ≡ z
        → (list_any reaches s.front || list_any reaches (above known.base u.commits)) ≡ true → list_any reaches u.commits ≡ true
    by_front true is any =
        let le = reaches_base m known.base s.front (recursion_from_All (IsUpTo known.base) s.front s.stands.none_above) is in
        any_weaker (λ (d : Commit). eqb d.at known.base) reaches (λ d same. le-leb m d.at (let e = eqb-true d.at known.base same in omega (
          arith,
          e,
          le,
        ))) u.commits s.base
    by_front false is any = any_filtered (λ (d : Commit). ltb known.base d.at) reaches u.commits (sym (ap (λ (z : Bool). z || list_any
        reaches (above known.base u.commits)) is) ∙ any)

-- so a copy of an entry that is not settled is not settled
pub waits_too : (known : Known) (p : ℕ) (u y : TraceValue) → StandsIn known p u y → (e d : EntryValue)
    → placeless d ≡ placeless e → is_settled u e ≡ false → is_settled y d ≡ false
waits_too known p u y s e d same unset = by_test (is_settled y d) refl
  where
    by_test : (z : Bool) → is_settled y d ≡ z → is_settled y d ≡ false
    by_test false is = is
    by_test true is =
        let yes : is_settled u e ≡ true = reached_back known p u y s e.snapshot (ap (λ (f : EntryValue). list_any (λ (k : Commit). leb
        f.snapshot k.at) y.commits) (sym same) ∙ is) in
        let wrong : false ≡ true = sym unset ∙ yes in absurd cc

-- ---- two in turn

module _ (known further : Known) (p q : ℕ) (u y x : TraceValue) (of_u : HasRisingLines u) (of_y : HasRisingLines y) (s : StandsIn
    known p u y) (r : StandsIn further q y x) (later : known.base ≤ further.base) (fewer : known.versions ≤ further.versions) where
  abbrev b : ℕ
  b = known.base

  abbrev c : ℕ
  c = further.base

  -- the line from which on both stand in
  abbrev last : ℕ
  last = max p q

  abbrev keep : EntryValue → Bool
  keep e = s.keep e && r.keep e

  abbrev in_first : AllByRecursion (IsUpTo b) s.front
  in_first = recursion_from_All (IsUpTo b) s.front s.stands.none_above

  above_twice : above c y.commits ≡ above c u.commits
  above_twice =
      ap (above c) s.commits
      ∙ filter-append (λ (d : Commit). ltb c d.at) s.front (above b u.commits)
      ∙ ap (λ (ds : List Commit). ds ++ above c (above b u.commits)) (none_left (λ (d : Commit). ltb c d.at) s.front (weaker
      (IsUpTo b) (λ (d : Commit). ltb c d.at ≡ false) (λ d le. le-ltb c d.at (omega (arith, le, later))) s.front in_first))
      ∙ twice (λ (d : Commit). ltb b d.at) (λ (d : Commit). ltb c d.at) (λ d up. let lt = leb-true (suc c) d.at up in lt-ltb b d.at
      (omega (arith, lt, later))) u.commits

  abbrev first : List CommitLine
  first = first_lines known p u y s

  abbrev rest : List CommitLine
  rest = rest_lines known p u y s

  lines_twice : lines_above c y ≡ lines_above c u
  lines_twice = ap cut.lines_of (
      ap (filter up) (lines_are known p u y s)
      ∙ filter-append up first rest
      ∙ ap (λ (ds : List CommitLine). ds ++ filter up rest) (none_left up first (weaker (λ (d : CommitLine). d.at ≤ b) (λ (d :
      CommitLine). up d ≡ false) (λ d le. le-ltb c d.at (omega (arith, le, later))) first (first_up_to known p u y s)))
      ∙ twice (λ (d : CommitLine). ltb b d.at) up (λ d is. let lt = leb-true (suc c) d.at is in lt-ltb b d.at (omega (arith, lt, later)))
      (commit_lines_of u))
    where
      up : CommitLine → Bool
      up d = ltb c d.at

  entries : map placeless x.entries ≡ map placeless (filter keep u.entries)
  entries =
      r.entries
      ∙ sym (filter_mapped placeless r.keep r.keep y.entries (every (λ (e : EntryValue). r.keep (placeless e) ≡ r.keep e)
      r.keeps.by_face y.entries))
      ∙ ap (filter r.keep) s.entries
      ∙ filter_mapped placeless r.keep r.keep (filter s.keep u.entries) (every (λ (e : EntryValue). r.keep (placeless e) ≡ r.keep
      e) r.keeps.by_face (filter s.keep u.entries))
      ∙ ap (map placeless) (both_tests s.keep r.keep u.entries)

  stands : StandsFor r.front c u.commits
  stands =
      let h : ℕ = c + bound u.commits in
      cut.handed_on_law (λ l. l) p b h u y (window known p u y s of_u.commits.timestamps of_y.commits.timestamps of_u.commits.counted
      of_y.commits.counted h (within_bound h u.commits (omega arith))) of_u.commits.timestamps c later (omega arith) r.front
      r.stands

  abbrev here : Commit → Bool
  here d = eqb d.at c

  base : has_commit_at c u.commits ≡ true
  base = by_front (list_any here s.front) refl (sym (ap (list_any here) s.commits ∙ list_any-append here s.front (above b
      u.commits)) ∙ r.base)
    where
      by_front : (z : Bool) → list_any here s.front ≡ z → (list_any here s.front || list_any here (above b u.commits)) ≡ true
          → list_any here u.commits ≡ true
      by_front true is any =
          let le = up_to_base b c s.front in_first is in
          any_weaker (λ (d : Commit). eqb d.at b) here (λ d same. ap (λ (m : ℕ). eqb d.at m) (let e : c ≡ b = omega (
            arith,
            le,
            later,
          ) in e) ∙ same) u.commits s.base
      by_front false is any = any_filtered (λ (d : Commit). ltb b d.at) here u.commits (sym (ap (λ (z : Bool). z || list_any
          here (above b u.commits)) is) ∙ any)

  -- a commit of the log that is above the first base stands in the first of the two, on its line
  lines_there : (P : CommitLine → Type 0) → All P (commit_lines_of y)
      → AllByRecursion (λ (d : CommitLine). ltb b d.at ≡ true → P d) (commit_lines_of u)
  lines_there P all = unfiltered (λ (d : CommitLine). ltb b d.at) P (commit_lines_of u) (behind_some P first rest
      (recursion_from_All P (first ++ rest) (subst (All P) (lines_are known p u y s) all)))

  folded : All (λ (d : CommitLine). d.at ≤ c → d.line < last) (commit_lines_of u)
  folded = All-from_recursion Folded (commit_lines_of u) (each (commit_lines_of u) (lines_there Folded r_folded) (recursion_from_All
      (λ (d : CommitLine). d.at ≤ b → d.line < p) (commit_lines_of u) s.folded))
    where
      Folded : CommitLine → Type 0
      Folded d = d.at ≤ c → d.line < last

      r_folded : All Folded (commit_lines_of y)
      r_folded = All-weaker (λ (d : CommitLine). d.at ≤ c → d.line < q) Folded (λ d f le. let lt = f le in omega (arith, lt))
          (commit_lines_of y) r.folded

      each : (ds : List CommitLine) → AllByRecursion (λ (d : CommitLine). ltb b d.at ≡ true → Folded d) ds
          → AllByRecursion (λ (d : CommitLine). d.at ≤ b → d.line < p) ds → AllByRecursion Folded ds
      each [] new old = tt
      each (d ∷ ds) new old = (
        λ le. elim (cases_lt b d.at) [
          | inl lt ↦ new.0 (lt-ltb b d.at lt) le
          | inr low ↦ let before = old.0 low in omega (arith, before)
        ],
        each ds new.1 old.1,
      )

  behind_base : All (λ (d : CommitLine). c < d.at → last ≤ d.line) (commit_lines_of u)
  behind_base = All-from_recursion (λ (d : CommitLine). c < d.at → last ≤ d.line) (commit_lines_of u) (each (commit_lines_of u)
      (lines_there Behind r.behind) (recursion_from_All (λ (d : CommitLine). b < d.at → p ≤ d.line) (commit_lines_of u) s.behind))
    where
      Behind : CommitLine → Type 0
      Behind d = c < d.at → q ≤ d.line

      each : (ds : List CommitLine) → AllByRecursion (λ (d : CommitLine). ltb b d.at ≡ true → Behind d) ds
          → AllByRecursion (λ (d : CommitLine). b < d.at → p ≤ d.line) ds
          → AllByRecursion (λ (d : CommitLine). c < d.at → last ≤ d.line) ds
      each [] new old = tt
      each (d ∷ ds) new old = (
        λ lt.
            let second = new.0 (lt-ltb b d.at (omega (arith, lt, later))) lt in
            let first = old.0 (omega (arith, lt, later)) in
            omega (arith, first, second),
        each ds new.1 old.1,
      )

  unsettled_kept : (i : ℕ) (e : EntryValue) → slice_get u.entries i ≡ Some e → is_settled u e ≡ false → (keep e ≡ true) × (last ≤ e.line)
  unsettled_kept i e at unset =
      let kept = s.keeps.unsettled i e at unset in
      let among = among_kept s.keep u.entries i e at kept.0 in
      by_entry kept among.0 (slice_get y.entries among.0) refl (
      sym (slice_get-map placeless y.entries among.0)
      ∙ ap (λ (es : List EntryValue). slice_get es among.0) s.entries
      ∙ slice_get-map placeless (filter s.keep u.entries) among.0
      ∙ ap (option_map placeless) among.1
      )
    where
      by_entry : (s.keep e ≡ true) × (p ≤ e.line) → (j : ℕ) → (o : Option EntryValue) → slice_get y.entries j ≡ o
          → option_map placeless o ≡ Some (placeless e) → (keep e ≡ true) × (last ≤ e.line)
      by_entry kept j None there same = absurd (let wrong : None ≡ Some (placeless e) = same in cc)
      by_entry kept j (Some d) there same =
          let copied : placeless d ≡ placeless e = cc in
          let there_kept = r.keeps.unsettled j d there (waits_too known p u y s e d copied unset) in
          let line = ap (λ (f : EntryValue). f.line) copied in
          let behind_p = kept.1 in
          let behind_q = there_kept.1 in (
            ap (λ (z : Bool). z && r.keep e) kept.0
                ∙ sym (r.keeps.by_face e) ∙ ap r.keep (sym copied) ∙ r.keeps.by_face d ∙ there_kept.0,
            omega (arith, line, behind_p, behind_q),
          )

  handed : StandsIn further last u x
  handed = record {
    front = r.front;
    front_lines = r.front_lines;
    keep = keep;
    declarations = r.declarations ∙ s.declarations;
    commits = r.commits ∙ ap (λ (ds : List Commit). r.front ++ ds) above_twice;
    on_lines = r.on_lines ∙ ap (λ (ls : List ℕ). r.front_lines ++ ls) lines_twice;
    entries = entries;
    stands = stands;
    base = base;
    base_there = r.base_there;
    counted = r.counted;
    in_front = All-weaker (λ (l : ℕ). l < q) (λ (l : ℕ). l < last) (λ l lt. omega (arith, lt)) r.front_lines r.in_front;
    folded = folded;
    behind = behind_base;
    keeps = record {
      unsettled = unsettled_kept;
      issuers = λ v e is from. ap (λ (z : Bool). z && r.keep e) (s.keeps.issuers v e is (omega (arith, from, fewer))) ∙ r.keeps.issuers v e is from;
      by_face = λ e. ap (λ (z : Bool). z && r.keep (placeless e)) (s.keeps.by_face e) ∙ ap (λ (z : Bool). s.keep e && z) (r.keeps.by_face
          e);
    };
  }

pub handed_on_law : (known further : Known) (p q : ℕ) (u y x : TraceValue) → HasRisingLines u → HasRisingLines y
    → StandsIn known p u y → StandsIn further q y x → known.base ≤ further.base → known.versions ≤ further.versions
    → StandsIn further (max p q) u x
handed_on_law known further p q u y x of_u of_y s r later fewer = handed known further p q u y x of_u of_y s r later fewer

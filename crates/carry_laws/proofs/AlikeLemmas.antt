-- What is told of a log is told of what stands in for it.
use Rattle.std.proofs.Common.{◌≡◌, ℕ, suc, ◌+◌, ◌<◌, ◌≤◌, ◌==◌, ◌||◌, ◌&&◌, inl, inr, Bool, true, false, cond, eqb, leb, ltb, List, [], ◌∷◌, ◌++◌, length, map, get_or, take, drop, Option, Some, None, refl, sym, ◌∙◌, ap, subst, arith, append_assoc, append-nil, length-append}
use Rattle.std.specs.Prelude.{All, IsTrue, filter, is_none, slice_get}
use Rattle.std.specs.List.{AllByRecursion, list_any}
use Rattle.std.specs.List.Sorted.{IsStrictlyIncreasing}
use Rattle.std.proofs.Math.Seq.{take-append_seam}
use Rattle.std.proofs.Math.Bool.{or-true}
use Rattle.std.proofs.lemmas.Bool.{and_parts, cases_lt, eqb-true, leb-true, ne_eqb}
use Rattle.std.proofs.lemmas.List.{map-append}
use Rattle.std.proofs.lemmas.List.Elements.{filter-append}
use Rattle.std.proofs.lemmas.Option.{slice_get_within}
use Rattle.version_chains.specs.Commits.{Commit}
use Rattle.marks.proofs.PlacedLemmas.{slice_get-front}
use Rattle.trace_lines.specs.Values.{EntryValue, TraceValue, entry_lines}
use Rattle.trace_lines.specs.Versions.{AreIssuedOnce, Version, entry_version, issues, version_named}
use Rattle.evidence_check.specs.Evidences.{steps_of}
use Rattle.evidence_check.specs.Steps.{StepValue}
use Rattle.findings.specs.Findings.{found_on, on_line}
use Rattle.findings.specs.declared.finding.Finding.{Finding}
use Rattle.findings.specs.declared.finding.What.{What}
use Rattle.windows.specs.Growth.{IsSettled, is_settled}
use Rattle.windows.specs.Windows.{NamesTheSame}
use Rattle.windows.proofs.CarriedLemmas.{names_carried}
use Rattle.windows.proofs.GrownLemmas.{behind}
use Rattle.follow_laws.specs.Begun.{Begins}
use Rattle.follow_laws.specs.Told.{moments, at_moments, told_from, is_at, told_on, left_over}
use Rattle.carry_laws.specs.Carried.{GoesOnAlike, HaveSameSteps, StandsIn, asked_left, asked_on, placeless}
use Rattle.carry_laws.specs.Asked.{asked, is_asked, is_audited, issues_between, knows_version}
use Rattle.carry_laws.specs.declared.known.Known.{Known}
use Rattle.carry_laws.proofs.AskLemmas.{all_above_asked, asked_by_entry, filter_alike}
use Rattle.carry_laws.proofs.OnwardLemmas.{dropped, onward}
use Rattle.follow_laws.proofs.OnceLemmas.{own_line}
use Rattle.carry_laws.proofs.SilentLemmas.{IsLate, silent}
use Rattle.carry_laws.proofs.StandInLemmas.{reached_there, told_there}

-- what is told of the entries from number i on, of those that are audited
abbrev pub asked_from : Known → (Option ℕ → Bool) → TraceValue → List (Option (List StepValue)) → ℕ → List EntryValue
    → List Finding
asked_from known test t evidence i [] = []
asked_from known test t evidence i (e ∷ es) =
    cond (is_audited known t.entries e) (on_line e.line (at_moments test (moments t e) (found_on t evidence i e))) []
    ++ asked_from known test t evidence (i + 1) es

-- ---- versions that are known in both

any_kept : (q keep : EntryValue → Bool) → ((x : EntryValue) → q x ≡ true → keep x ≡ true) → (xs : List EntryValue)
    → list_any q (filter keep xs) ≡ list_any q xs
any_kept q keep imp [] = refl
any_kept q keep imp (x ∷ xs) = by_test (any_kept q keep imp xs) (keep x) refl (q x) refl
  where
    by_test : list_any q (filter keep xs) ≡ list_any q xs → (a : Bool) → keep x ≡ a → (b : Bool) → q x ≡ b
        → list_any q (cond a (x ∷ filter keep xs) (filter keep xs)) ≡ (b || list_any q xs)
    by_test rest true kept b is = ap (λ (c : Bool). c || list_any q (filter keep xs)) is ∙ ap (λ (c : Bool). b || c) rest
    by_test rest false kept true is = let no : false ≡ true = sym kept ∙ imp x is in absurd cc
    by_test rest false kept false is = rest

any_faced : (q : EntryValue → Bool) → ((x : EntryValue) → q (placeless x) ≡ q x) → (xs : List EntryValue)
    → list_any q (map placeless xs) ≡ list_any q xs
any_faced q same [] = refl
any_faced q same (x ∷ xs) =
    ap (λ (b : Bool). b || list_any q (map placeless xs)) (same x) ∙ ap (λ (b : Bool). q x || b) (any_faced q same xs)

-- where one passes it has a place
pub record Passes (q : EntryValue → Bool) (xs : List EntryValue) : Type 0 where
  pub place : ℕ
  pub entry : EntryValue
  pub there : slice_get xs place ≡ Some entry
  pub passes : q entry ≡ true

pub one_passes : (q : EntryValue → Bool) (xs : List EntryValue) → list_any q xs ≡ true → Passes q xs
one_passes q [] any = absurd (let no : false ≡ true = any in cc)
one_passes q (x ∷ xs) any = by_test (one_passes q xs) (q x) refl any
  where
    by_test : (list_any q xs ≡ true → Passes q xs) → (b : Bool) → q x ≡ b → (b || list_any q xs) ≡ true → Passes q (x ∷ xs)
    by_test rest true is any = record { place = 0; entry = x; there = refl; passes = is }
    by_test rest false is any =
        let r = rest any in
        record { place = suc r.place; entry = r.entry; there = r.there; passes = r.passes }

-- what passes issued the version, from that line on
pub issued_from : (from line : ℕ) (v : Version) (x : EntryValue) → issues_between from line v x ≡ true
    → (from ≤ x.line) × (issues v x ≡ true)
issued_from from line v x is =
    let parts = and_parts (leb from x.line) (ltb x.line line && issues v x) is in
    (leb-true from x.line parts.0, (and_parts (ltb x.line line) (issues v x) parts.1).1)

module _ (known : Known) (p : ℕ) (u y : TraceValue) (z : StandsIn known p u y) where
  -- of versions that were issued from that line on, or from a further one, both know the same
  pub knows_alike : (from : ℕ) → known.versions ≤ from → (line : ℕ) (o : Option Version)
      → knows_version from u.entries line o ≡ knows_version from y.entries line o
  knows_alike from later line None = refl
  knows_alike from later line (Some v) = ap (λ (b : Bool). (from == 0) || b) (
      sym (any_kept q z.keep (λ x is.
      let i = issued_from from line v x is in
      let low = i.0 in
      z.keeps.issuers v x i.1 (omega (arith, low, later))) u.entries)
      ∙ sym (any_faced q (λ x. refl) (filter z.keep u.entries))
      ∙ ap (list_any q) (sym z.entries)
      ∙ any_faced q (λ x. refl) y.entries)
    where
      q : EntryValue → Bool
      q x = issues_between from line v x

  -- a copy of an entry is audited where that is
  pub audited_alike : (e d : EntryValue) → placeless d ≡ placeless e → is_audited known u.entries e ≡ is_audited known y.entries d
  audited_alike e d copied =
      ap (λ (b : Bool). leb known.base e.snapshot && b) (knows_alike known.versions (omega arith) e.line (version_named e.kind (entry_version e)))
      ∙ sym (ap (is_audited known y.entries) copied)

  -- who issued a known version is kept
  named_kept : AreIssuedOnce u.entries → (line : ℕ) (v : Version) → knows_version known.versions u.entries line (Some v) ≡ true
      → (m : ℕ) (x : EntryValue) → slice_get u.entries m ≡ Some x → issues v x ≡ true → z.keep x ≡ true
  named_kept once line v knows m x at is = by_all (known.versions == 0) refl
    where
      by_all : (b : Bool) → eqb known.versions 0 ≡ b → z.keep x ≡ true
      by_all true all = z.keeps.issuers v x is (let none = eqb-true known.versions 0 all in omega (arith, none))
      by_all false some =
          let any : list_any (issues_between known.versions line v) u.entries ≡ true =
          sym (ap (λ (b : Bool). b || list_any (issues_between known.versions line v) u.entries) some) ∙ knows in
          let r = one_passes (issues_between known.versions line v) u.entries any in
          let i = issued_from known.versions line v r.entry r.passes in
          let same : m ≡ r.place = once v m r.place x r.entry at r.there is i.1 in
          let both : Some x ≡ Some r.entry = sym at ∙ ap (slice_get u.entries) same ∙ r.there in
          let one : x ≡ r.entry = cc in
          let line = ap (λ (f : EntryValue). f.line) one in
          let from = i.0 in
          z.keeps.issuers v x is (omega (arith, line, from))

-- a test that keeps whoever issued a version too
abbrev or_issues : Option Version → (EntryValue → Bool) → EntryValue → Bool
or_issues None keep x = keep x
or_issues (Some v) keep x = keep x || issues v x

or_issued : (o : Option Version) (keep : EntryValue → Bool) (v : Version) → o ≡ Some v → (x : EntryValue) → issues v x ≡ true
    → or_issues o keep x ≡ true
or_issued None keep v is x issued = absurd (let no : None ≡ Some v = is in cc)
or_issued (Some w) keep v is x issued =
    let same : w ≡ v = cc in
    ap (λ (b : Bool). keep x || b) (ap (λ (v : Version). issues v x) same ∙ issued) ∙ or-true (keep x)

by_places : {X : Type 0} (P : X → Type 0) (xs : List X) → ((m : ℕ) (x : X) → slice_get xs m ≡ Some x → P x) → AllByRecursion P xs
by_places P [] h = tt
by_places P (x ∷ xs) h = (h 0 x refl, by_places P xs (λ m y at. h (suc m) y at))

pub in_middle : {X : Type 0} (xs ys : List X) (x : X) → slice_get (xs ++ x ∷ ys) (length xs) ≡ Some x
in_middle [] ys x = refl
in_middle (z ∷ xs) ys x = in_middle xs ys x

module _ {n : ℕ} (known : Known) (p : ℕ) (t u x y : TraceValue) (goes : Begins n t u) (shorter : Begins n x y) (s : StandsIn known
    p t x) (within : p ≤ n + 1) (a : GoesOnAlike goes.goes x y)
    (evidence own : List (Option (List StepValue))) (same : HaveSameSteps u evidence y own) (test : Option ℕ → Bool) (late :
    IsLate n test) where
  abbrev b : ℕ
  b = known.base

  abbrev z : StandsIn known p u y
  z = onward known p t u x y goes s within a

  abbrev told_u : ℕ → EntryValue → List Finding
  told_u i e = on_line e.line (at_moments test (moments u e) (found_on u evidence i e))

  abbrev told_y : ℕ → EntryValue → List Finding
  told_y j d = on_line d.line (at_moments test (moments y d) (found_on y own j d))

  abbrev no_findings : List Finding
  no_findings = []

  abbrev if_asked : TraceValue → EntryValue → List Finding → List Finding
  if_asked v e fs = cond (is_audited known v.entries e) fs []

  module _ (us es ys ds : List EntryValue) (e d : EntryValue) (of_u : u.entries ≡ us ++ e ∷ es) (of_y : y.entries ≡ ys ++ d ∷ ds) (before :
      map placeless ys ≡ map placeless (filter z.keep us)) (copied : placeless d ≡ placeless e) where
    abbrev i : ℕ
    i = length us

    abbrev j : ℕ
    j = length ys

    at : slice_get u.entries i ≡ Some e
    at = ap (λ (xs : List EntryValue). slice_get xs i) of_u ∙ in_middle us es e

    there : slice_get y.entries j ≡ Some d
    there = ap (λ (xs : List EntryValue). slice_get xs j) of_y ∙ in_middle ys ds d

    is_copy : e ≡ record d { line = d.line; before = e.before }
    is_copy = ap (λ (f : EntryValue). record f { before = e.before }) (sym copied)

    same_line : d.line ≡ e.line
    same_line = ap (λ (f : EntryValue). f.line) copied

    same_snapshot : d.snapshot ≡ e.snapshot
    same_snapshot = ap (λ (f : EntryValue). f.snapshot) copied

    steps : steps_of own j ≡ steps_of evidence i
    steps = same i j e d at there same_line

    abbrev named : Option Version
    named = version_named e.kind (entry_version e)

    module _ (audited : is_audited known u.entries e ≡ true) where
      from : b ≤ e.snapshot
      from = leb-true b e.snapshot (and_parts (leb b e.snapshot) (knows_version known.versions u.entries e.line named) audited).0

      kept_too : filter (or_issues named z.keep) us ≡ filter z.keep us
      kept_too = filter_alike (or_issues named z.keep) z.keep us (by_places (λ (f : EntryValue). or_issues named z.keep f ≡ z.keep f) us
          (λ m f here. by_name named refl m f (ap (λ (xs : List EntryValue). slice_get xs m) of_u
          ∙ slice_get-front us (e ∷ es) m (slice_get_within us m f here) ∙ here)))
        where
          or_false : (q : Bool) → (q || false) ≡ q
          or_false true = refl
          or_false false = refl

          by_name : (o : Option Version) → named ≡ o → (m : ℕ) (f : EntryValue) → slice_get u.entries m ≡ Some f
              → or_issues o z.keep f ≡ z.keep f
          by_name None is m f here = refl
          by_name (Some v) is m f here = by_issue (issues v f) refl
            where
              knows : knows_version known.versions u.entries e.line (Some v) ≡ true
              knows = ap (knows_version known.versions u.entries e.line) (sym is)
                  ∙ (and_parts (leb b e.snapshot) (knows_version known.versions u.entries e.line named) audited).1

              by_issue : (q : Bool) → issues v f ≡ q → (z.keep f || issues v f) ≡ z.keep f
              by_issue false other = ap (λ (q : Bool). z.keep f || q) other ∙ or_false (z.keep f)
              by_issue true issued =
                  let kept = named_kept known p u y z goes.whole.formed.versions e.line v knows m f here issued in
                  ap (λ (q : Bool). q || issues v f) kept ∙ sym kept

      names : NamesTheSame (λ l. l) u i y j
      names = names_carried (λ l. l) u y i j e d at there is_copy (record {
        keep = or_issues named z.keep;
        issuers = λ v is f issued. or_issued named z.keep v is f issued;
        faces = ap (λ (xs : List EntryValue). map placeless (take j xs)) of_y
            ∙ ap (map placeless) (take-append_seam ys (d ∷ ds))
            ∙ before
            ∙ ap (map placeless) (sym kept_too)
            ∙ ap (λ (xs : List EntryValue). map placeless (filter (or_issues named z.keep) xs)) (sym (ap (take i) of_u
            ∙ take-append_seam us (e ∷ es)));
      })

    -- where it is not settled up to line n, or stands behind it
    by_window : is_audited known u.entries e ≡ true → p ≤ e.line → told_u i e ≡ told_y j d
    by_window audited later =
        ap (told_u i) is_copy
        ∙ ap (on_line d.line) (sym (told_there known p u y z goes.whole.rising.commits.timestamps
        shorter.whole.rising.commits.timestamps goes.whole.rising.commits.counted shorter.whole.rising.commits.counted d
        e.before (subst (λ (q : ℕ). b ≤ q) (sym same_snapshot) (from audited)) (subst (λ (l : ℕ). p ≤ l) (sym same_line) later) i j (at
        ∙ ap Some is_copy) there (names audited) evidence own steps test))

    -- where it is settled by then, nothing is told of it
    by_silence : slice_get t.entries i ≡ Some e → IsSettled t e → told_u i e ≡ told_y j d
    by_silence old settled =
        silent t u goes test late i e old settled evidence
        ∙ sym (silent x y shorter test late j d in_front (subst (λ (q : ℕ). list_any (λ (c : Commit). leb q c.at) x.commits ≡
        true) (sym same_snapshot) (reached_there known p t x s e.snapshot settled)) own)
      where
        whole : slice_get (x.entries ++ shorter.goes.entries) j ≡ Some d
        whole = sym (ap (λ (xs : List EntryValue). slice_get xs j) shorter.goes.recorded) ∙ there

        in_front : slice_get x.entries j ≡ Some d
        in_front = elim (cases_lt j (length x.entries)) [
          | inl lt ↦ sym (slice_get-front x.entries shorter.goes.entries j lt) ∙ whole
          | inr ge ↦
              let new = behind (λ (f : EntryValue). n < f.line) x.entries shorter.goes.entries shorter.goes.entries_behind j d
              ge whole in
              let last = own_line t goes.first i e old in
              let to = goes.goes.within in
              let line = same_line in
              absurd (omega (arith, new, last, to, line))
        ]

    told_alike : is_audited known u.entries e ≡ true → told_u i e ≡ told_y j d
    told_alike audited = elim (cases_lt i (length t.entries)) [
      | inr ge ↦
          let new = behind (λ (f : EntryValue). n < f.line) t.entries goes.goes.entries goes.goes.entries_behind i e ge whole in
          by_window audited (omega (arith, new, within))
      | inl lt ↦ by_settled (sym (slice_get-front t.entries goes.goes.entries i lt) ∙ whole) (is_settled t e) refl
    ]
      where
        whole : slice_get (t.entries ++ goes.goes.entries) i ≡ Some e
        whole = sym (ap (λ (xs : List EntryValue). slice_get xs i) goes.goes.recorded) ∙ at

        by_settled : slice_get t.entries i ≡ Some e → (q : Bool) → is_settled t e ≡ q → told_u i e ≡ told_y j d
        by_settled old true is = by_silence old is
        by_settled old false is = by_window audited (s.keeps.unsettled i e old is).1

    pair : if_asked u e (told_u i e) ≡ if_asked y d (told_y j d)
    pair = by_test (is_audited known u.entries e) refl
        ∙ ap (λ (r : Bool). cond r (told_y j d) []) (audited_alike known p u y z e d copied)
      where
        by_test : (r : Bool) → is_audited known u.entries e ≡ r → if_asked u e (told_u i e) ≡ if_asked u e (told_y j d)
        by_test false is = ap (λ (r : Bool). cond r (told_u i e) []) is ∙ sym (ap (λ (r : Bool). cond r (told_y j d) []) is)
        by_test true is = ap (if_asked u e) (told_alike is)

  -- ---- one entry behind the other

  told_rest : (us es ys ds : List EntryValue) → u.entries ≡ us ++ es → y.entries ≡ ys ++ ds
      → map placeless ys ≡ map placeless (filter z.keep us) → map placeless ds ≡ map placeless (filter z.keep es)
      → asked_from known test u evidence (length us) es ≡ asked_from known test y own (length ys) ds
  told_rest us [] ys [] of_u of_y before left = refl
  told_rest us [] ys (d ∷ ds) of_u of_y before left = absurd (let no : placeless d ∷ map placeless ds ≡ [] = left in cc)
  told_rest us (e ∷ es) ys ds of_u of_y before left =
      by_keep (told_rest (us ++ e ∷ []) es) (z.keep e) refl ds of_y left
    where
      counted : (vs : List EntryValue) (f : EntryValue) → length (vs ++ f ∷ []) ≡ length vs + 1
      counted vs f = length-append vs (f ∷ [])

      further : u.entries ≡ (us ++ e ∷ []) ++ es
      further = of_u ∙ sym (append_assoc us (e ∷ []) es)

      none_asked : (q : Bool) → cond q no_findings [] ≡ []
      none_asked true = refl
      none_asked false = refl

      Rest : Type 0
      Rest = (ys ds : List EntryValue) → u.entries ≡ (us ++ e ∷ []) ++ es → y.entries ≡ ys ++ ds
          → map placeless ys ≡ map placeless (filter z.keep (us ++ e ∷ []))
          → map placeless ds ≡ map placeless (filter z.keep es)
          → asked_from known test u evidence (length (us ++ e ∷ [])) es ≡ asked_from known test y own (length ys) ds

      next_kept : (q : Bool) → z.keep e ≡ q
          → map placeless (filter z.keep (us ++ e ∷ [])) ≡ map placeless ys ++ map placeless (cond q (e ∷ []) [])
      next_kept q is =
          ap (map placeless) (filter-append z.keep us (e ∷ []))
          ∙ map-append placeless (filter z.keep us) (filter z.keep (e ∷ []))
          ∙ ap (λ (fs : List EntryValue). fs ++ map placeless (cond (z.keep e) (e ∷ []) [])) (sym before)
          ∙ ap (λ (k : Bool). map placeless ys ++ map placeless (cond k (e ∷ []) [])) is

      by_keep : Rest → (q : Bool) → z.keep e ≡ q → (ds : List EntryValue) → y.entries ≡ ys ++ ds
          → map placeless ds ≡ map placeless (cond q (e ∷ filter z.keep es) (filter z.keep es))
          → asked_from known test u evidence (length us) (e ∷ es) ≡ asked_from known test y own (length ys) ds
      by_keep rest false is ds of_y left =
          let old = dropped known p t u x y goes s within a (length us) e (ap (λ (xs : List EntryValue). slice_get xs (length us))
          of_u ∙ in_middle us es e) is in
          ap (λ (fs : List Finding). fs ++ asked_from known test u evidence (length us + 1) es) (ap (if_asked u e) (silent t u goes test
          late (length us) e old.0 old.1 evidence) ∙ none_asked (is_audited known u.entries e))
          ∙ ap (λ (m : ℕ). asked_from known test u evidence m es) (sym (counted us e))
          ∙ rest ys ds further of_y (sym (next_kept false is ∙ append-nil (map placeless ys))) left
      by_keep rest true is [] of_y left = absurd (let no : [] ≡ placeless e ∷ map placeless (filter z.keep es) = left in cc)
      by_keep rest true is (d ∷ ds) of_y left =
          let copied : placeless d ≡ placeless e = ap (λ (fs : List EntryValue). get_or fs 0 (placeless e)) left in
          let others : map placeless ds ≡ map placeless (filter z.keep es) = ap (drop 1) left in
          ap (λ (fs : List Finding). fs ++ asked_from known test u evidence (length us + 1) es) (pair us es ys ds e d of_u of_y before
          copied)
          ∙ ap (λ (m : ℕ). if_asked y d (told_y (length ys) d) ++ asked_from known test u evidence m es) (sym (counted us e))
          ∙ ap (λ (fs : List Finding). if_asked y d (told_y (length ys) d) ++ fs) (rest (ys ++ d ∷ []) ds further (of_y ∙ sym (append_assoc ys
          (d ∷ []) ds)) (map-append placeless ys (d ∷ []) ∙ ap (λ (f : EntryValue). map placeless ys ++ f ∷ []) copied ∙ sym
          (next_kept true is)) others
          ∙ ap (λ (m : ℕ). asked_from known test y own m ds) (counted ys d))

  pub told_same : asked_from known test u evidence 0 u.entries ≡ asked_from known test y own 0 y.entries
  told_same = told_rest [] u.entries [] y.entries refl refl refl z.entries

-- ---- those on lines that are asked

all_on_line : (test : ℕ → Bool) (line : ℕ) → (b : Bool) → test line ≡ b → (found : List (Option What))
    → filter (λ (f : Finding). test f.line) (on_line line found) ≡ cond b (on_line line found) []
all_on_line test line true is [] = refl
all_on_line test line false is [] = refl
all_on_line test line b is (None ∷ found) = all_on_line test line b is found
all_on_line test line true is (Some what ∷ found) =
    ap (λ (c : Bool). cond c (record { line = line; what = what } ∷ filter (λ (f : Finding). test f.line) (on_line line found))
    (filter (λ (f : Finding). test f.line) (on_line line found))) is
    ∙ ap (λ (fs : List Finding). record { line = line; what = what } ∷ fs) (all_on_line test line true is found)
all_on_line test line false is (Some what ∷ found) =
    ap (λ (c : Bool). cond c (record { line = line; what = what } ∷ filter (λ (f : Finding). test f.line) (on_line line found))
    (filter (λ (f : Finding). test f.line) (on_line line found))) is
    ∙ all_on_line test line false is found

module _ (known : Known) (test : Option ℕ → Bool) (t : TraceValue) (rising : IsStrictlyIncreasing (entry_lines t.entries)) (evidence :
    List (Option (List StepValue))) where
  asked_rest : (us es : List EntryValue) → t.entries ≡ us ++ es
      → asked_from known test t evidence (length us) es ≡ asked known t (told_from test t evidence (length us) es)
  asked_rest us [] is = refl
  asked_rest us (e ∷ es) is =
      let here = on_line e.line (at_moments test (moments t e) (found_on t evidence (length us) e)) in
      let there = told_from test t evidence (length us + 1) es in
      let place : slice_get t.entries (length us) ≡ Some e = ap (λ (xs : List EntryValue). slice_get xs (length us)) is
      ∙ in_middle us es e in
      let next : length (us ++ e ∷ []) ≡ length us + 1 = length-append us (e ∷ []) in
      ap (λ (fs : List Finding). fs ++ asked_from known test t evidence (length us + 1) es)
      (sym (all_on_line (is_asked known t) e.line (is_audited known t.entries e) (asked_by_entry known t rising (length us) e place)
      (at_moments test (moments t e) (found_on t evidence (length us) e))))
      ∙ ap (λ (fs : List Finding). asked known t here ++ fs)
      (ap (λ (m : ℕ). asked_from known test t evidence m es) (sym next)
      ∙ asked_rest (us ++ e ∷ []) es (is ∙ sym (append_assoc us (e ∷ []) es))
      ∙ ap (λ (m : ℕ). asked known t (told_from test t evidence m es)) next)
      ∙ sym (filter-append (λ (f : Finding). is_asked known t f.line) here there)

  pub asked_alone : asked_from known test t evidence 0 t.entries ≡ asked known t (told_from test t evidence 0 t.entries)
  asked_alone = asked_rest [] t.entries refl

pub told_alike_law : (known : Known) (n p : ℕ) (t u x y : TraceValue) → (goes : Begins n t u) → Begins n x y → StandsIn known p t x
    → p ≤ n + 1 → GoesOnAlike goes.goes x y → (evidence own : List (Option (List StepValue))) → HaveSameSteps u evidence y own
    → ((k : ℕ) → n < k → asked_on known u evidence k ≡ asked_on known y own k)
    × (asked_left known u evidence ≡ asked_left known y own)
told_alike_law known n p t u x y goes shorter s within a evidence own same = (
  λ k lt. by_test (is_at k) (λ m le. ne_eqb m k (λ is. omega (arith, le, lt, is))),
  by_test is_none (λ m le. refl),
)
  where
    by_test : (test : Option ℕ → Bool) → IsLate n test
        → asked known u (told_from test u evidence 0 u.entries) ≡ asked known y (told_from test y own 0 y.entries)
    by_test test late =
        sym (asked_alone known test u goes.whole.rising.entries evidence)
        ∙ told_same known p t u x y goes shorter s within a evidence own same test late
        ∙ asked_alone known test y shorter.whole.rising.entries own

-- ---- where all are audited

pub all_told_law : (known : Known) (t : TraceValue) → All (λ e. IsTrue (is_audited known t.entries e)) t.entries
    → (evidence : List (Option (List StepValue)))
    → ((k : ℕ) → asked_on known t evidence k ≡ told_on t evidence k) × (asked_left known t evidence ≡ left_over t evidence)
all_told_law known t all evidence =
    (λ k. all_above_asked known t all (told_on t evidence k), all_above_asked known t all (left_over t evidence))

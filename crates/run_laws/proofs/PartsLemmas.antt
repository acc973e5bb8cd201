-- The runs of a log as its parts.
use Rattle.std.proofs.Common.{◌≡◌, ℕ, zero, suc, ◌+◌, ◌-◌, ◌<◌, ◌≤◌, ◌⊎◌, max, inl, inr, not, Bool, true, false, cond, eqb, leb, List, [], ◌∷◌, ◌++◌, length, drop, Option, Some, None, Result, Ok, Err, refl, sym, ◌∙◌, ap, subst, arith}
use Rattle.std.specs.Prelude.{filter, slice_get, option_map, string_bytes, IfSome}
use Rattle.std.specs.List.{AllByRecursion}
use Rattle.std.specs.declared.alloc.Global.{Global}
use Rattle.std.specs.Prelude.{String}
use Rattle.std.proofs.lemmas.Bool.{and_parts, cases_lt, eqb-true, le-leb, lt-leb}
use Rattle.std.proofs.lemmas.List.Elements.{recursion_from_All}
use Rattle.refusals.specs.Refusals.{◌>>=◌}
use Rattle.json_lines.specs.Reading.{line_count}
use Rattle.trace_lines.specs.Values.{EntryValue, TraceValue, next_line}
use Rattle.trace_lines.specs.declared.cause.TraceFault.{TraceFault}
use Rattle.trace_lines.proofs.OfBytes.{IsSound, sound_empty}
use Rattle.findings.specs.declared.finding.Finding.{Finding}
use Rattle.windows.specs.Growth.{GoesOn}
use Rattle.marks.proofs.PlacedLemmas.{slice_get-front}
use Rattle.follow_laws.specs.Begun.{Begins}
use Rattle.follow_laws.specs.Told.{told_between}
use Rattle.follow_laws.proofs.FirstLemmas.{itself_law}
use Rattle.follow_laws.proofs.ThroughLemmas.{first_entry}
use Rattle.carry_laws.specs.Asked.{all_known, asked, is_audited}
use Rattle.carry_laws.specs.declared.known.Known.{Known}
use Rattle.carry_laws.specs.Carried.{GoesOnAlike, StandsIn, placeless}
use Rattle.carry_laws.specs.Together.{AreParts, IsPart, Part, StaysKnown}
use Rattle.carry_laws.specs.Together as together
use Rattle.carry_laws.proofs.AlikeLemmas.{audited_alike}
use Rattle.carry_laws.proofs.AskLemmas.{audited_from, audited_longer}
use Rattle.carry_laws.proofs.HandedLemmas.{handed_on_law}
use Rattle.carry_laws.proofs.OnwardLemmas.{onward}
use Rattle.carry_laws.proofs.TogetherLemmas.{HaveSteps, steps_more}
use Rattle.carry_laws.proofs.PartLemmas.{copied, line_within}
use Rattle.carry_laws.proofs.SteadyLemmas.{stays_in_log}
use Rattle.carry.specs.Values.{CarryValue}
use Rattle.runs.specs.Begins as begins
use Rattle.runs.specs.Handed.{known_by}
use Rattle.runs.specs.Kept.{KeptValue, log_behind, nothing_kept}
use Rattle.runs.proofs.AlikeLemmas.{come_alike}
use Rattle.runs.proofs.KeptReadLemmas.{goes_behind}
use Rattle.runs.proofs.SoundLemmas.{begun_sound, fits_behind, of_bytes, sound_behind}
use Rattle.follow.specs.Carried.{IsBegunBy}
use Rattle.follow.specs.Handing.{IsHandedOn, unaudited}
use Rattle.run_laws.specs.Runs.{AreBehind, BeginsWith, IsMadeIn, Ran, handed, known_at, log_from, more_lines, told_by, told_in}
use Rattle.run_laws.proofs.GoesLemmas.{goes_twice}

-- where all is known each entry is audited
whole_audits : (es : List EntryValue) (e : EntryValue) → is_audited all_known es e ≡ true
whole_audits es e = audited_from 0 es e ∙ le-leb 0 e.snapshot (omega arith)

-- ---- a log, and what a run began behind it

pub record IsLog (k : KeptValue) : Type 0 where
  pub sound : IsSound k.log
  pub fits : next_line k.log ≤ k.lines + 1

-- It began with the whole log so far, or with what stands in for it. The run before it knew the versions from a line on;
-- what this one knows of them is the same for entries that wait.
pub record IsBegun (k : KeptValue) (from : ℕ) (r : Ran) : Type 0 where
  pub lines : r.behind.lines ≡ k.lines
  pub log : IsLog r.behind
  pub known : ((r.known ≡ all_known) × (r.behind.log ≡ k.log)) ⊎ ((p : ℕ) × (p ≤ k.lines + 1) × StandsIn r.known p k.log r.behind.log)
  pub steady : StaysKnown k.log from r.known.versions

abbrev pub AreBegun : KeptValue → ℕ → List Ran → Type 0
AreBegun k from [] = Unit {0}
AreBegun k from (r ∷ rs) = IsBegun k from r × AreBehind (handed r) rs

pub nothing_first : IsLog nothing_kept
nothing_first = record { sound = sound_empty; fits = omega arith }

-- ---- one run

module _ (k : KeptValue) (log : IsLog k) (from : ℕ) (r : Ran) (begun : IsBegun k from r) (u : TraceValue) (said : log_behind k true r.bytes ≡ Ok u) where
  abbrev to : ℕ
  to = k.lines + line_count r.bytes

  abbrev now : KeptValue
  now = record { lines = to; log = u }

  pub log_now : IsLog now
  log_now = record { sound = sound_behind k log.fits r.bytes u said log.sound; fits = fits_behind k log.fits r.bytes u said }

  run_said : log_behind (record { lines = k.lines; log = r.behind.log }) true r.bytes ≡ Ok r.ends.trace
  run_said = subst (λ (n : ℕ). log_behind (record { lines = n; log = r.behind.log }) true r.bytes ≡ Ok r.ends.trace) begun.lines r.ends.said

  declared_alike : r.behind.log.declarations ≡ k.log.declarations
  declared_alike = elim begun.known [
    | inl first ↦ ap (λ (t : TraceValue). t.declarations) first.1
    | inr stands ↦ stands.2.declarations
  ]

  alike : (goes : GoesOn k.lines k.log u) × GoesOnAlike goes r.behind.log r.ends.trace
  alike = come_alike k.lines k.log u r.behind.log r.ends.trace r.bytes declared_alike log.fits said run_said

  abbrev goes : Begins k.lines k.log u
  goes = record { goes = alike.0; first = of_bytes k.log log.sound; whole = of_bytes u log_now.sound }

  run_sound : IsSound r.ends.trace
  run_sound = sound_behind r.behind begun.log.fits r.bytes r.ends.trace r.ends.said begun.log.sound

  shorter : Begins k.lines r.behind.log r.ends.trace
  shorter = subst (λ (n : ℕ). Begins n r.behind.log r.ends.trace) begun.lines (record {
    goes = goes_behind r.behind begun.log.fits r.bytes r.ends.trace r.ends.said;
    first = of_bytes r.behind.log begun.log.sound;
    whole = of_bytes r.ends.trace run_sound;
  })

  -- where it began with the whole log, it ended with it
  same_end : r.behind.log ≡ k.log → r.ends.trace ≡ u
  same_end same =
      let both : Ok r.ends.trace ≡ Ok u = sym run_said
      ∙ ap (λ (t : TraceValue). log_behind (record { lines = k.lines; log = t }) true r.bytes) same ∙ said in
      cc

  abbrev pub part : Part
  part = record { to = to; whole = u; knows = r.known; log = r.ends.trace; evidence = r.ends.given }

  pub is_part : (w : TraceValue) → Begins to u w → IsPart w k.lines k.log from part
  is_part w further = record {
    within = omega arith;
    goes = goes;
    onward = further;
    begun = r.behind.log;
    shorter = shorter;
    fits = let low = fits_behind r.behind begun.log.fits r.bytes r.ends.trace r.ends.said in
        let same = begun.lines in omega (arith, low, same);
    alike = alike.1;
    known = elim begun.known [
      | inl first ↦ inl (first.0, same_end first.1)
      | inr stands ↦ inr stands
    ];
    steady = begun.steady;
  }

  pub told_alike : together.told_in k.lines part ≡ told_in r
  told_alike = sym (r.ends.told ∙ ap (λ (n : ℕ). asked r.known r.ends.trace (told_between r.ends.trace r.ends.given (n + 1)
      (n + line_count r.bytes + 1))) begun.lines)

  -- ---- what it hands on

  -- what stands in for its log, of which no more is known, stands in for the whole
  stands_on : (c : Known) (q : ℕ) (x : TraceValue) → r.known.base ≤ c.base → r.known.versions ≤ c.versions
      → StandsIn c q r.ends.trace x → q ≤ to + 1 → (p : ℕ) × (p ≤ to + 1) × StandsIn c p u x
  stands_on c q x le fewer s low = elim begun.known [
    | inl first ↦ (q, low, subst (λ (t : TraceValue). StandsIn c q t x) (same_end first.1) s)
    | inr stands ↦
        let p = stands.0 in
        let within = stands.1 in (
          max p q,
          omega (arith, within, low),
          handed_on_law r.known c p q u r.ends.trace x (of_bytes u log_now.sound).rising (of_bytes r.ends.trace run_sound).rising
              (onward r.known p k.log u r.behind.log r.ends.trace goes stands.2 within alike.1) s le fewer,
        )
  ]

  -- what is known of the versions that its waiting entries name is known in the whole
  steady_on : (further : ℕ) → r.known.versions ≤ further → StaysKnown r.ends.trace r.known.versions further
      → StaysKnown u r.known.versions further
  steady_on further later steady = elim begun.known [
    | inl first ↦ subst (λ (t : TraceValue). StaysKnown t r.known.versions further) (same_end first.1) steady
    | inr stands ↦
        stays_in_log r.known stands.0 u r.ends.trace
        (onward r.known stands.0 k.log u r.behind.log r.ends.trace goes stands.2 stands.1 alike.1) further later steady
  ]

  next_begun : (text : List ℕ) (s : Ran) → IsHandedOn r.known (r.behind.lines + line_count r.bytes) r.ends.trace text
      → IsBegunBy text s.behind s.known → IsBegun now r.known.versions s
  next_begun text s h b =
      let same : h.carry ≡ b.carry = (let both : Ok h.carry ≡ Ok b.carry = sym h.read ∙ b.read in cc) in
      let counted : b.carry.lines ≡ to = ap (λ (c : CarryValue). c.lines) (sym same) ∙ h.counted
      ∙ ap (λ (n : ℕ). n + line_count r.bytes) begun.lines in
      let known : known_by h.carry ≡ s.known = ap known_by same ∙ sym b.knows in
      let carried = h.of.of in
      let log : carried.log ≡ s.behind.log = (let both : Ok carried.log ≡ Ok s.behind.log = sym carried.begun
      ∙ ap begins.log_of same ∙ b.log in cc) in
      let lines : s.behind.lines ≡ to = b.lines ∙ counted in
      let sound = begun_sound b.carry s.behind.log b.log in
      let fits = sound.1 in
      let same_lines = b.lines in
      let behind_to = carried.behind in
      let own : h.carry.lines ≡ to = ap (λ (c : CarryValue). c.lines) same ∙ counted in
      record {
        lines = lines;
        log = record { sound = sound.0; fits = omega (arith, fits, same_lines) };
        known = inr (subst (λ (c : Known). (p : ℕ) × (p ≤ to + 1) × StandsIn c p u s.behind.log) known
            (subst (λ (x : TraceValue). (p : ℕ) × (p ≤ to + 1) × StandsIn (known_by h.carry) p u x) log
            (stands_on (known_by h.carry) carried.first carried.log h.of.base h.of.versions carried.stands (omega (arith, behind_to, own)))));
        steady = subst (λ (c : Known). StaysKnown u r.known.versions c.versions) known
            (steady_on h.carry.versions h.of.versions h.of.steady);
      }

  pub next_are : (rs : List Ran) → AreBehind (handed r) rs → AreBegun now r.known.versions rs
  next_are [] h = tt
  next_are (s ∷ rs) h = (by_carry r.end.carry refl r.ends.carry h.0, h.1)
    where
      by_carry : (o : Option (String Global)) → r.end.carry ≡ o
          → IfSome r.end.carry (λ x. IsHandedOn r.known (r.behind.lines + line_count r.bytes) r.ends.trace (string_bytes x))
          → BeginsWith (option_map string_bytes r.end.carry) s → IsBegun now r.known.versions s
      by_carry None is of begins = absurd (subst (λ o. BeginsWith (option_map string_bytes o) s) is begins)
      by_carry (Some text) is of begins = next_begun (string_bytes text) s
          (subst (λ o. IfSome o (λ x. IsHandedOn r.known (r.behind.lines + line_count r.bytes) r.ends.trace (string_bytes x))) is of)
          (subst (λ o. BeginsWith (option_map string_bytes o) s) is begins)

  -- ---- where it is whole

  all_pass : (test : EntryValue → Bool) (es : List EntryValue) (m : ℕ) (d : EntryValue)
      → eqb (length (filter (λ (e : EntryValue). not (test e)) es)) 0 ≡ true → slice_get es m ≡ Some d → test d ≡ true
  all_pass test [] m d none at = cc
  all_pass test (e ∷ es) m d none at = by_test (λ m none at. all_pass test es m d none at) (test e) refl m none at
    where
      rest_of : List EntryValue
      rest_of = filter (λ (x : EntryValue). not (test x)) es

      by_test : ((m : ℕ) → eqb (length rest_of) 0 ≡ true → slice_get es m ≡ Some d → test d ≡ true)
          → (z : Bool) → test e ≡ z → (m : ℕ) → eqb (length (cond (not z) (e ∷ rest_of) rest_of)) 0 ≡ true
          → slice_get (e ∷ es) m ≡ Some d → test d ≡ true
      by_test rest false is m none at = absurd (let no = eqb-true (suc (length rest_of)) 0 none in omega (arith, no))
      by_test rest true is zero none at = let same : e ≡ d = cc in ap test (sym same) ∙ is
      by_test rest true is (suc m) none at = rest m none at

  -- what is audited in its log is so in the whole
  audited_there : (e d : EntryValue) → placeless d ≡ placeless e → is_audited r.known r.ends.trace.entries d ≡ true
      → is_audited r.known u.entries e ≡ true
  audited_there e d same is = elim begun.known [
    | inl first ↦ ap (λ (c : Known). is_audited c u.entries e) first.0 ∙ whole_audits u.entries e
    | inr stands ↦
        audited_alike r.known stands.0 u r.ends.trace
        (onward r.known stands.0 k.log u r.behind.log r.ends.trace goes stands.2 stands.1 alike.1) e d same
        ∙ is
  ]

  -- each entry that came is audited by what it knows
  pub audits_own : r.end.whole ≡ true → (i : ℕ) (e : EntryValue) → slice_get u.entries i ≡ Some e → k.lines < e.line
      → is_audited r.known u.entries e ≡ true
  audits_own whole i e at later =
      let count = length k.log.entries in
      let new : slice_get alike.0.entries (i - count) ≡ Some e = in_new (cases_lt i count) in
      let both : slice_get (r.behind.log.entries ++ alike.0.entries) (length r.behind.log.entries + (i - count)) ≡ Some e =
      slice_get-behind r.behind.log.entries alike.0.entries (i - count) ∙ new in
      let c = copied r.ends.trace.entries (r.behind.log.entries ++ alike.0.entries) (sym alike.1.recorded)
      (length r.behind.log.entries + (i - count)) e both in
      let none = (and_parts (eqb (unaudited r.known (length r.behind.log.entries) r.ends.trace) 0) _ (sym r.ends.whole ∙ whole)).0 in
      audited_there e c.0 c.2 (all_pass (is_audited r.known r.ends.trace.entries)
      (drop (length r.behind.log.entries) r.ends.trace.entries) (i - count) c.0 none
      (slice_get-drop (length r.behind.log.entries) (i - count) r.ends.trace.entries ∙ c.1))
    where
      slice_get-behind : (xs ys : List EntryValue) (m : ℕ) → slice_get (xs ++ ys) (length xs + m) ≡ slice_get ys m
      slice_get-behind [] ys m = ap (slice_get ys) (let z : 0 + m ≡ m = omega arith in z)
      slice_get-behind (x ∷ xs) ys m =
          ap (slice_get (x ∷ (xs ++ ys))) (let z : length (x ∷ xs) + m ≡ suc (length xs + m) = omega arith in z)
          ∙ slice_get-behind xs ys m

      slice_get-drop : (n m : ℕ) (xs : List EntryValue) → slice_get (drop n xs) m ≡ slice_get xs (n + m)
      slice_get-drop zero m xs = ap (slice_get xs) (let z : m ≡ 0 + m = omega arith in z)
      slice_get-drop (suc n) m [] = refl
      slice_get-drop (suc n) m (x ∷ xs) = slice_get-drop n m xs
          ∙ ap (slice_get (x ∷ xs)) (let z : suc (n + m) ≡ suc n + m = omega arith in z)

      in_new : (i < length k.log.entries) ⊎ (length k.log.entries ≤ i) → slice_get alike.0.entries (i - length k.log.entries) ≡ Some e
      in_new (inl lt) =
          let there : slice_get k.log.entries i ≡ Some e = first_entry_by_place lt in
          let within = line_within k.log u goes i e there in
          absurd (omega (arith, within, later))
        where
          first_entry_by_place : i < length k.log.entries → slice_get k.log.entries i ≡ Some e
          first_entry_by_place lt = sym (slice_get-front k.log.entries alike.0.entries i lt)
              ∙ sym (ap (λ (es : List EntryValue). slice_get es i) alike.0.recorded) ∙ at
      in_new (inr le) =
          sym (slice_get-behind k.log.entries alike.0.entries (i - length k.log.entries))
          ∙ ap (slice_get (k.log.entries ++ alike.0.entries)) (let z : length k.log.entries + (i - length k.log.entries) ≡ i = omega (arith, le) in z)
          ∙ sym (ap (λ (es : List EntryValue). slice_get es i) alike.0.recorded) ∙ at

-- ---- all runs

-- the log that all lines say goes on from the one so far
pub begins_all : (k w : KeptValue) (rs : List Ran) → IsLog k → log_from k rs ≡ Ok w → IsSound w.log × GoesOn k.lines k.log w.log
begins_all k w [] log h =
    let same : k ≡ w = cc in
    subst (λ (l : KeptValue). IsSound l.log × GoesOn k.lines k.log l.log) same
    (log.sound, (itself_law k.lines k.log (of_bytes k.log log.sound) log.fits).goes)
begins_all k w (r ∷ rs) log h = by_read (λ now on h. begins_all now w rs on h) (log_behind k true r.bytes) refl h
  where
    by_read : ((now : KeptValue) → IsLog now → log_from now rs ≡ Ok w → IsSound w.log × GoesOn now.lines now.log w.log)
        → (o : Result TraceValue TraceFault) → log_behind k true r.bytes ≡ o
        → (more_lines k r.bytes o >>= λ l. log_from l rs) ≡ Ok w → IsSound w.log × GoesOn k.lines k.log w.log
    by_read rest (Err e) said h = cc
    by_read rest (Ok u) said h =
        let now : KeptValue = record { lines = k.lines + line_count r.bytes; log = u } in
        let more = rest now (record {
          sound = sound_behind k log.fits r.bytes u said log.sound;
          fits = fits_behind k log.fits r.bytes u said;
        }) h in
        (more.0, goes_twice k.log u w.log (omega arith) (goes_behind k log.fits r.bytes u said) more.1)

pub record AreMade (k w : KeptValue) (from : ℕ) (rs : List Ran) : Type 0 where
  pub parts : List Part
  pub are : AreParts w.log k.lines k.log from parts
  pub told : together.told_in_all k.lines parts ≡ told_by rs
  pub knows : (l : ℕ) → together.known_at parts l ≡ known_at rs l
  pub steps : HaveSteps (IsMadeIn rs) k.lines parts
  pub asks : AllByRecursion (λ (r : Ran). r.end.whole ≡ true) rs → (i : ℕ) (e : EntryValue) → slice_get w.log.entries i ≡ Some e
      → k.lines < e.line → is_audited (known_at rs e.line) w.log.entries e ≡ true

pub parts_of : (k w : KeptValue) (from : ℕ) (rs : List Ran) → IsLog k → AreBegun k from rs → log_from k rs ≡ Ok w
    → AreMade k w from rs
parts_of k w from [] log begun h =
    let same : k ≡ w = cc in
    record {
      parts = [];
      are = ap (λ (l : KeptValue). l.log) same;
      told = refl;
      knows = λ l. refl;
      steps = tt;
      asks = λ whole i e at later. whole_audits w.log.entries e;
    }
parts_of k w from (r ∷ rs) log begun h = by_read (λ next on begun h. parts_of next w r.known.versions rs on begun h) (log_behind k true r.bytes) refl h
  where
    by_read : ((next : KeptValue) → IsLog next → AreBegun next r.known.versions rs → log_from next rs ≡ Ok w
        → AreMade next w r.known.versions rs) → (o : Result TraceValue TraceFault) → log_behind k true r.bytes ≡ o
        → (more_lines k r.bytes o >>= λ l. log_from l rs) ≡ Ok w → AreMade k w from (r ∷ rs)
    by_read made (Err e) said h = cc
    by_read made (Ok u) said h =
        let next = now k log from r begun.0 u said in
        let on = log_now k log from r begun.0 u said in
        let rest = made next on (next_are k log from r begun.0 u said rs begun.1) h in
        let whole = begins_all next w rs on h in
        let further : Begins next.lines u w.log = record { goes = whole.1; first = of_bytes u on.sound; whole = of_bytes w.log whole.0 } in
        let here = part k log from r begun.0 u said in
        let same = begun.0.lines in
        let to_same : r.behind.lines + line_count r.bytes ≡ k.lines + line_count r.bytes = ap (λ (n : ℕ). n + line_count r.bytes) same in
        record {
          parts = here ∷ rest.parts;
          are = (is_part k log from r begun.0 u said w.log further, rest.are);
          told = ap (λ (fs : List Finding). fs ++ together.told_in_all next.lines rest.parts) (told_alike k log from r begun.0 u said)
              ∙ ap (λ (fs : List Finding). told_in r ++ fs) rest.told;
          knows = λ l. ap (λ (n : ℕ). cond (leb l n) r.known (together.known_at rest.parts l)) (sym to_same)
              ∙ ap (λ (k : Known). cond (leb l (r.behind.lines + line_count r.bytes)) r.known k) (rest.knows l);
          steps = (
            λ j d at l is lt le. inl (d, refl, r.ends.made j d at l is (omega (arith, same, lt)) (omega (arith, same, le))),
            steps_more (IsMadeIn rs) (IsMadeIn (r ∷ rs)) (λ e s had. inr had) next.lines rest.parts rest.steps,
          );
          asks = λ all i e at later. elim (cases_lt next.lines e.line) [
            | inl lt ↦
                ap (λ (z : Bool). is_audited (cond z r.known (known_at rs e.line)) w.log.entries e)
                (lt-leb e.line (r.behind.lines + line_count r.bytes) (omega (arith, lt, to_same)))
                ∙ rest.asks all.1 i e at lt
            | inr le ↦
                ap (λ (z : Bool). is_audited (cond z r.known (known_at rs e.line)) w.log.entries e)
                (le-leb e.line (r.behind.lines + line_count r.bytes) (omega (arith, le, to_same)))
                ∙ audited_longer r.known u w.log whole.1 e (omega (arith, le))
                ∙ audits_own k log from r begun.0 u said all.0 i e (first_entry next.lines u.entries whole.1.entries
                (recursion_from_All (λ (x : EntryValue). next.lines < x.line) whole.1.entries whole.1.entries_behind) i e
                (sym (ap (λ (es : List EntryValue). slice_get es i) whole.1.recorded) ∙ at) le) later
          ];
        }

-- What was followed of a log so far was followed of each longer log.
use Rattle.std.proofs.Common.{◌≡◌, ℕ, ◌+◌, ◌<◌, ◌≤◌, ◌^◌, ◌||◌, Bool, true, false, List, [], ◌∷◌, ◌++◌, length, get_or, Option, Ok, arith, refl, sym, ◌∙◌, ap, subst, append-nil, length-append}
use Rattle.std.specs.Prelude.{nat_le, All}
use Rattle.std.specs.List.{list_any}
use Rattle.std.proofs.lemmas.List.Folds.{list_any-append}
use Rattle.std.proofs.lemmas.Option.{slice_get-get_or}
use Rattle.devices.proofs.Given.{next-refl}
use Rattle.version_chains.specs.Commits.{Commit}
use Rattle.json_lines.specs.Reading.{parts, read_all, read_from}
use Rattle.json_lines.specs.declared.next.LineReader.{LineReader}
use Rattle.json_lines.proofs.Folds.{Within, goes_first, reads_line, within_from}
use Rattle.trace_lines.specs.Placed.{AreInPlace}
use Rattle.trace_lines.specs.Values.{EntryValue, TraceValue, next_line}
use Rattle.windows.specs.Growth.{GoesOn, IsSettled}
use Rattle.follow_laws.specs.Begun.{Begins, IsOfBytes}
use Rattle.follow_laws.proofs.OnceLemmas.{own_line}
use Rattle.monitor.specs.Standing.{IsAtEnd}
use Rattle.monitor.proofs.GrowthLemmas.{same_entry, stands_on}
use Rattle.monitor.proofs.LongerLemmas.{told_of_longer}
use Rattle.runs.specs.Kept.{KeptValue, log_behind, log_told}
use Rattle.runs.proofs.KeptReadLemmas.{begins_behind, kept_taken}
use Rattle.findings.specs.declared.finding.Finding.{Finding}
use Rattle.audit.specs.Made.{IsMade}
use Rattle.follow.specs.Reading.{IsKeptSoFar, IsSaidBehind}
use Rattle.follow.specs.SoFar.{IsFollowed}
use Rattle.carry_laws.specs.Asked.{asked}
use Rattle.follow.specs.Told.{IsToldFrom}
use Rattle.audit.specs.Audit.{Says}
use Rattle.follow.specs.declared.follower.Follower.{Follower}
use Rattle.carry_laws.proofs.AskLemmas.{asked_longer}
use Rattle.follow.proofs.AskLemmas.{told_within}
use Rattle.follow.proofs.MadeLemmas.{made_still}

-- ---- lines that were read

pub first_lines : {R : Type 0} (given : R → List ℕ) (ends failures : R → ℕ) (remaining : R → Option (List ℕ)) (first : R)
    (k : KeptValue) (r : LineReader) → r.lines ≡ [] → r.number ≡ 1 → r.room ≡ 2 ^ 30
    → (so_far : IsKeptSoFar given ends failures remaining first first k k r) × (so_far.used ≡ [])
first_lines given ends failures remaining first k r none number room = (
  record {
    used = [];
    none = λ _. refl;
    whole = λ later. absurd (omega (arith, later, number));
    gave = sym (ap (λ (l : List ℕ). (given first ++ []) ++ l) none ∙ append-nil (given first ++ []) ∙ append-nil (given first));
    fits = omega (arith, room);
    follows = rw (number, room) (goes_first kept_taken k);
    known = next-refl given ends remaining first;
    going = refl;
    kept = refl;
  },
  refl,
)

pub said_lines : {R : Type 0} (given : R → List ℕ) (ends failures : R → ℕ) (remaining : R → Option (List ℕ))
    (first now : R) (start k : KeptValue) (r : LineReader)
    (so_far : IsKeptSoFar given ends failures remaining first now start k r) → log_behind start true so_far.used ≡ Ok k.log
unfolding read_all
said_lines given ends failures remaining first now start k r so_far =
    let w : Within r.room [] false = within_from r.room [] false (omega arith) refl in
    let whole : read_from kept_taken true 1 (2 ^ 30) start (parts (so_far.used ++ [])) ≡ Ok k =
    so_far.follows.same true []
    ∙ reads_line kept_taken start true r.number r.room k [] false [] refl (λ _. refl) ∙ rw w refl in
    ap log_told (ap (λ (xs : List ℕ). read_from kept_taken true 1 (2 ^ 30) start (parts xs))
    (sym (append-nil so_far.used)) ∙ whole)

-- ---- what was told of them

pub told_of_lines : (says : Says) (lines : List ℕ) (t : TraceValue) (f : Follower) → says true lines ≡ Ok t → IsFollowed t f
    → IsToldFrom says f.first f.known lines f.told.items
told_of_lines says lines t f said followed = record {
  trace = t;
  said = said;
  given = followed.told.given;
  line = followed.told.line;
  made = followed.told.allowed;
  is = followed.asked_alone ∙ ap (λ (fs : List Finding). asked f.known t fs) followed.told.told;
}

-- ---- a longer log

pub settled_still : {k : ℕ} (t u : TraceValue) → GoesOn k t u → (e : EntryValue) → IsSettled t e → IsSettled u e
settled_still t u goes e settled =
    ap (list_any (λ (c : Commit). nat_le e.snapshot c.at)) goes.committed
    ∙ list_any-append (λ (c : Commit). nat_le e.snapshot c.at) t.commits goes.commits
    ∙ ap (λ (x : Bool). x || list_any (λ (c : Commit). nat_le e.snapshot c.at) goes.commits) settled

-- whole lines behind a log, and more behind them
pub goes_whole : (s : KeptValue) → next_line s.log ≤ s.lines + 1 → (says : Says)
    → IsSaidBehind s says → (a more : List ℕ) (t u : TraceValue)
    → says true (a ++ 10 ∷ []) ≡ Ok t → says true ((a ++ 10 ∷ []) ++ more) ≡ Ok u → GoesOn (s.lines + length (parts a)) t u
goes_whole s fits says means a more t u one two =
    begins_behind s fits a more t u (sym (means true (a ++ 10 ∷ [])) ∙ one) (sym (means true ((a ++ 10 ∷ []) ++ more)) ∙ two)

pub followed_longer : {k : ℕ} (t u : TraceValue) → GoesOn k t u → AreInPlace t → AreInPlace u → IsOfBytes t → IsOfBytes u
    → (f : Follower) → f.first ≤ k + 1 → IsFollowed t f → IsAtEnd t f.monitor → IsFollowed u f
followed_longer {k} t u goes here there good better f low followed ended = record {
  stands = stands_on t u goes here there f.monitor followed.stands;
  all = followed.all;
  told = told_of_longer t u b here there f.monitor ended IsMade (λ i e at settled steps made. made_still t u b i e at settled
      steps made) f.first [] followed.all followed.told low;
  asked_alone = followed.asked_alone ∙ sym (asked_longer f.known t u goes followed.all
      (subst (All (λ (x : Finding). x.line < k + 1)) (sym followed.told.told)
      (told_within (k + 1) t below followed.told.given f.first followed.told.line)));
  within = let n = length-append t.entries goes.entries in
      let same = ap (λ (es : List EntryValue). length es) goes.recorded in
      let le = followed.within in omega (arith, n, same, le);
  settled = λ i e at lt.
      let le = followed.within in
      settled_still t u goes e (followed.settled i e
      (sym (same_entry t u goes here there i (omega (arith, lt, le))) ∙ at) lt);
}
  where
    b : Begins k t u
    b = record { goes = goes; first = good; whole = better }

    below : All (λ (e : EntryValue). e.line < k + 1) t.entries
    below i d lt =
        let own = own_line t good i (get_or t.entries i d) (slice_get-get_or t.entries i d lt) in
        let within = goes.within in
        omega (arith, own, within)

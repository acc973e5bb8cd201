-- Heartbeats of a log that grows.
use Rattle.std.proofs.Common.{◌≡◌, ◌⊎◌, inl, inr, ℕ, suc, ◌+◌, ◌<◌, ◌≤◌, ◌||◌, Bool, true, false, leb, List, [], ◌∷◌, ◌++◌, length, map, get_or, Option, Some, None, refl, sym, ◌∙◌, ap, subst, arith, length-append}
use Rattle.std.specs.Prelude.{All, IfSome, slice_get}
use Rattle.std.specs.List.{list_any}
use Rattle.std.proofs.lemmas.Bool.{leb-true}
use Rattle.std.proofs.lemmas.List.Elements.{All-append, All-nil, recursion_from_All}
use Rattle.std.proofs.lemmas.Option.{slice_get_within}
use Rattle.version_chains.specs.Commits.{Commit}
use Rattle.json_lines.specs.Reading.{parts}
use Rattle.line_blocks.proofs.WholeLines.{parts_at}
use Rattle.trace_lines.specs.Placed.{AreInPlace}
use Rattle.trace_lines.specs.Values.{EntryValue, TraceValue}
use Rattle.findings.specs.declared.finding.Finding.{Finding}
use Rattle.windows.specs.Growth.{GoesOn}
use Rattle.follow_laws.proofs.ThroughLemmas.{first_entry}
use Rattle.monitor.specs.Standing.{IsAtEnd, IsPast, IsReached}
use Rattle.monitor.specs.declared.monitor.Monitor.{Monitor}
use Rattle.monitor.proofs.GrowthLemmas.{reached_still}
use Rattle.follow.specs.Heartbeats.{AreSilent, AreThrough, AreTrue, EachBeat, IsThrough}
use Rattle.follow.specs.Pieces.{Piece, told_in}
use Rattle.follow.specs.declared.heartbeat.Heartbeat.{Heartbeat}
use Rattle.follow.proofs.GrownLemmas.{settled_still}

-- ---- each heartbeat among some pieces

pub each_of_none : (P : List Piece → List Piece → Piece → Heartbeat → Type 0) → EachBeat P []
each_of_none P [] later p h is here = absurd cc
each_of_none P (x ∷ earlier) later p h is here = absurd cc

-- it is the last piece, or one before
split_last : (ps : List Piece) (q : Piece) (earlier : List Piece) (p : Piece) (later : List Piece)
    → ps ++ q ∷ [] ≡ earlier ++ p ∷ later → ((between : List Piece) × (ps ≡ earlier ++ p ∷ between) × (later ≡ between ++ q ∷ []))
    ⊎ ((earlier ≡ ps) × (p ≡ q) × (later ≡ []))
split_last [] q [] p later is = inr (refl, (let h : p ≡ q = cc in h), (let h : later ≡ [] = cc in h))
split_last [] q (x ∷ []) p later is = let h : [] ≡ p ∷ later = cc in absurd cc
split_last [] q (x ∷ y ∷ earlier) p later is = let h : [] ≡ y ∷ (earlier ++ p ∷ later) = cc in absurd cc
split_last (x ∷ ps) q [] p later is =
    let head : x ≡ p = cc in
    let tail : ps ++ q ∷ [] ≡ later = cc in
    inl (ps, ap (λ (y : Piece). y ∷ ps) head, sym tail)
split_last (x ∷ ps) q (y ∷ earlier) p later is =
    let head : x ≡ y = cc in
    let tail : ps ++ q ∷ [] ≡ earlier ++ p ∷ later = cc in
    elim (split_last ps q earlier p later tail) [
      | inl (between, one, two) ↦ inl (
        between,
        ap (λ (z : Piece). z ∷ ps) head ∙ ap (λ (zs : List Piece). y ∷ zs) one,
        two,
      )
      | inr (one, two, three) ↦ inr (ap (λ (z : Piece). z ∷ earlier) (sym head) ∙ ap (λ (zs : List Piece). x ∷ zs) one, two, three)
    ]

-- one piece more
pub each_more : (P : List Piece → List Piece → Piece → Heartbeat → Type 0) (pieces : List Piece) (q : Piece)
    → EachBeat (λ earlier later p h. P earlier (later ++ q ∷ []) p h) pieces
    → ((h : Heartbeat) → q.heartbeat ≡ Some h → P pieces [] q h) → EachBeat P (pieces ++ q ∷ [])
each_more P pieces q before last earlier later p h is here = elim (split_last pieces q earlier p later is) [
  | inl (between, one, two) ↦ subst (λ (ps : List Piece). P earlier ps p h) (sym two) (before earlier between p h one here)
  | inr (one, two, three) ↦
      let there : q.heartbeat ≡ Some h = sym (ap (λ (x : Piece). x.heartbeat) two) ∙ here in
      subst (λ (ps : List Piece). P ps later p h) (sym one) (subst (λ (ps : List Piece). P pieces ps p h) (sym three)
      (subst (λ (x : Piece). P pieces [] x h) (sym two) (last h there)))
]

pub are_true : (t : TraceValue) (pieces : List Piece) (rest : List Finding) → AreThrough t pieces → AreSilent pieces
    → EachBeat (λ earlier later p h. All (λ f. h.line < f.line) rest) pieces → AreTrue t pieces rest
are_true t pieces rest through silent behind earlier later p h is here = record {
  through = through earlier later p h is here;
  findings = (silent earlier later p h is here).0;
  silent = All-append (λ (f : Finding). h.line < f.line) (told_in later) rest (silent earlier later p h is here).1
      (behind earlier later p h is here);
}

pub are_true_so_far : (t : TraceValue) (pieces : List Piece) → AreThrough t pieces → AreSilent pieces → AreTrue t pieces []
are_true_so_far t pieces through silent =
    are_true t pieces [] through silent (λ earlier later p h is here. All-nil (λ (f : Finding). h.line < f.line))

pub beats_of : (o : Option Heartbeat) (P : Heartbeat → Type 0) → IfSome o P → (h : Heartbeat) → o ≡ Some h → P h
beats_of None P holds h is = absurd cc
beats_of (Some x) P holds h is = let same : x ≡ h = cc in subst P same holds

-- ---- what a log so far and a longer one say of a line

any_reached : (s : ℕ) (cs : List Commit) → list_any (λ (c : Commit). leb s c.at) cs ≡ true
    → (c : ℕ) × (c < length cs) × (s ≤ get_or (map (λ (x : Commit). x.at) cs) c 0)
any_reached s [] is = absurd cc
any_reached s (x ∷ cs) is = by_test (any_reached s cs) (leb s x.at) refl is
  where
    by_test : (list_any (λ (c : Commit). leb s c.at) cs ≡ true
        → (c : ℕ) × (c < length cs) × (s ≤ get_or (map (λ (y : Commit). y.at) cs) c 0))
        → (b : Bool) → leb s x.at ≡ b → (b || list_any (λ (c : Commit). leb s c.at) cs) ≡ true
        → (c : ℕ) × (c < length (x ∷ cs)) × (s ≤ get_or (map (λ (y : Commit). y.at) (x ∷ cs)) c 0)
    by_test further true le is = (0, omega arith, leb-true s x.at le)
    by_test further false le is = let h = further is in (suc h.0, (let lt = h.1 in omega (arith, lt)), h.2)

-- a monitor that took all lines is past a line up to which all is settled
pub past_now : (t : TraceValue) (m : Monitor) (n k : ℕ) → IsAtEnd t m → IsThrough t n k → IsPast t m n
past_now t m n k ended through = record {
  taken = λ i e at le. let lt = slice_get_within t.entries i e at in let all = ended.entries in omega (arith, lt, all);
  reached = λ i e at le.
      subst (λ (c : ℕ). IsReached t c e.snapshot) (sym ended.commits) (any_reached e.snapshot t.commits (through.settled i e at le));
}

module _ {k : ℕ} (t u : TraceValue) (goes : GoesOn k t u) (n : ℕ) (within : n ≤ k) where
  entry_before : (i : ℕ) (e : EntryValue) → slice_get u.entries i ≡ Some e → e.line ≤ n → slice_get t.entries i ≡ Some e
  entry_before i e at le =
      first_entry k t.entries goes.entries (recursion_from_All (λ (x : EntryValue). k < x.line) goes.entries goes.entries_behind)
      i e (sym (ap (λ (es : List EntryValue). slice_get es i) goes.recorded) ∙ at) (omega (arith, le, within))

  pub through_longer : (entries : ℕ) → IsThrough t n entries → IsThrough u n entries
  through_longer entries through = record {
    settled = λ i e at le. settled_still t u goes e (through.settled i e (entry_before i e at le) le);
    counted = λ i e at le. through.counted i e (entry_before i e at le) le;
    there = let le = through.there in let more = length-append t.entries goes.entries in
        let same = ap (λ (es : List EntryValue). length es) goes.recorded in omega (arith, le, more, same);
  }

  pub past_longer : (m : Monitor) → AreInPlace t → AreInPlace u → m.commits ≤ length t.commits → IsPast t m n → IsPast u m n
  past_longer m here there few past = record {
    taken = λ i e at le. past.taken i e (entry_before i e at le) le;
    reached = λ i e at le.
        reached_still t u goes here there m.commits e.snapshot few (past.reached i e (entry_before i e at le) le);
  }

-- a line more
pub parts_more : (a : List ℕ) → length (parts (a ++ 10 ∷ [])) ≡ length (parts a) + 1
parts_more a = ap length (parts_at a []) ∙ length-append (parts a) (parts [])

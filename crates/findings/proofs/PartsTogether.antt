-- Parts that are clean, each by its own bytes and evidence, make a whole that is right and fresh.
use Rattle.std.proofs.Common.{◌≡◌, ℕ, zero, suc, ◌<◌, ◌≤◌, List, [], ◌∷◌, length, get_or, Bool, true, false, cond, Option, Some, None, refl, sym, ap, subst, ◌∙◌, arith}
use Rattle.std.specs.Prelude.{All, Contains, IfSome, filter, nat_eq, slice_get}
use Rattle.std.proofs.lemmas.Bool.{eq-eqb}
use Rattle.std.proofs.lemmas.List.Elements.{All-contains, All-nil, Contains-get_or}
use Rattle.std.proofs.lemmas.Option.{same_Some, slice_get-get_or, slice_get_within, get_or_from_slice_get}
use Rattle.trace_lines.specs.Values.{EntryValue, TraceValue}
use Rattle.trace_lines.specs.Versions.{Version, entry_version, version_named}
use Rattle.token_order.specs.Order.{CoversVersion, IsFresh}
use Rattle.findings.specs.EachEntry.{IsRightAndFreshEntry, SpeaksOfEachEntry}
use Rattle.findings.specs.Findings.{findings_of}
use Rattle.findings.specs.Headline.{IsRightAndFresh}
use Rattle.findings.specs.NewEnemy.{IsCheckOf, HasNoNewEnemy, HasSeen}
use Rattle.findings.specs.Parts.{is_of, part_of, ArePartsReadClean}
use Rattle.findings.specs.declared.finding.Finding.{Finding}
use Rattle.findings.proofs.EachEntryLemmas.{entries_by_bytes, formed_by_bytes}
use Rattle.findings.proofs.NewEnemyLemmas.{is_check, seen}
use Rattle.findings.proofs.PartLemmas.{same_object}

-- ---- what a test keeps

kept_at : {X : Type 0} (p : X → Bool) (xs : List X) (k : ℕ) (x : X) → slice_get xs k ≡ Some x → p x ≡ true
    → (j : ℕ) × (slice_get (filter p xs) j ≡ Some x)
kept_at p [] k x at h = cc
kept_at {X} p (y ∷ ys) zero x at h = by_test (p y) (ap p same ∙ h)
  where
    same : y ≡ x
    same = same_Some y x at

    by_test : (b : Bool) → b ≡ true → (j : ℕ) × (slice_get (cond b (y ∷ filter p ys) (filter p ys)) j ≡ Some x)
    by_test true is = (0, at)
    by_test false is = cc
kept_at {X} p (y ∷ ys) (suc k) x at h = by_test (p y) (kept_at p ys k x at h)
  where
    by_test : (b : Bool) → (j : ℕ) × (slice_get (filter p ys) j ≡ Some x)
        → (j : ℕ) × (slice_get (cond b (y ∷ filter p ys) (filter p ys)) j ≡ Some x)
    by_test true rest = (suc rest.0, rest.1)
    by_test false rest = rest

from_kept : {X : Type 0} (p : X → Bool) (xs : List X) (j : ℕ) (x : X) → slice_get (filter p xs) j ≡ Some x
    → (k : ℕ) × (slice_get xs k ≡ Some x)
from_kept p [] j x at = cc
from_kept {X} p (y ∷ ys) j x at = by_test (from_kept p ys) (p y) j at
  where
    by_test : ((j : ℕ) (x : X) → slice_get (filter p ys) j ≡ Some x → (k : ℕ) × (slice_get ys k ≡ Some x)) → (b : Bool) (j : ℕ)
        → slice_get (cond b (y ∷ filter p ys) (filter p ys)) j ≡ Some x → (k : ℕ) × (slice_get (y ∷ ys) k ≡ Some x)
    by_test rest true zero at = (0, at)
    by_test rest true (suc j) at = let further = rest j x at in (suc further.0, further.1)
    by_test rest false j at = let further = rest j x at in (suc further.0, further.1)

there_of : {X : Type 0} (xs : List X) (x : X) (h : Contains xs x) → slice_get xs h.0 ≡ Some x
there_of xs x h = slice_get-get_or xs h.0 x h.1 ∙ ap Some h.2

contains_at : {X : Type 0} (xs : List X) (k : ℕ) (x : X) → slice_get xs k ≡ Some x → Contains xs x
contains_at xs k x at = (k, slice_get_within xs k x at, get_or_from_slice_get xs k x x at)

kept_in : {X : Type 0} (p : X → Bool) (xs : List X) (x : X) → Contains xs x → p x ≡ true → Contains (filter p xs) x
kept_in p xs x h is = let kept = kept_at p xs h.0 x (there_of xs x h) is in contains_at (filter p xs) kept.0 x kept.1

within_whole : {X : Type 0} (p : X → Bool) (xs : List X) (x : X) → Contains (filter p xs) x → Contains xs x
within_whole p xs x h = let from = from_kept p xs h.0 x (there_of (filter p xs) x h) in contains_at xs from.0 x from.1

-- ---- one part

module _ (part : List ℕ → List ℕ → ℕ) (t : TraceValue) (clean : ArePartsReadClean part t) where
  abbrev number : EntryValue → ℕ
  number e = part e.goal.set.namespace e.goal.set.id

  abbrev objects : ℕ → List ℕ → List ℕ → Bool
  objects k n i = nat_eq (part n i) k

  of_its_part : (e : EntryValue) → is_of (objects (number e)) e ≡ true
  of_its_part e = eq-eqb (number e) (number e) refl

  -- a check is as fresh in the whole
  fresh_in_whole : (k : ℕ) (e : EntryValue) → IsFresh (part_of (objects k) t) e → IsFresh t e
  fresh_in_whole k e fresh = record {
    reaches_zookie = fresh.reaches_zookie;
    covers_version = covers (version_named e.kind (entry_version e)) fresh.covers_version;
  }
    where
      covers : (o : Option Version) → IfSome o (CoversVersion (part_of (objects k) t) e) → IfSome o (CoversVersion t e)
      covers None h = tt
      covers (Some v) h = record {
        content = h.content;
        recorded = within_whole (is_of (objects k)) t.entries h.content h.recorded;
        earlier = h.earlier;
        issued = h.issued;
        reaches_content = h.reaches_content;
        covered = h.covered;
      }

  in_its_part : (e : EntryValue) → Contains t.entries e → IsRightAndFreshEntry (part_of (objects (number e)) t) e
  in_its_part e recorded =
      let read = clean (number e) in
      let u : TraceValue = part_of (objects (number e)) t in
      let speaks : SpeaksOfEachEntry u (findings_of u read.evidence) = entries_by_bytes read.bytes u read.evidence read.said in
      let none : All (λ (f : Finding). e.line < f.line) (findings_of u read.evidence) =
      subst (λ (fs : List Finding). All (λ (f : Finding). e.line < f.line) fs) (sym read.clean) (All-nil (λ (f : Finding). e.line < f.line)) in
      All-contains (λ (x : EntryValue). x.line ≤ e.line → IsRightAndFreshEntry u x) u.entries e (speaks.before e.line none)
      (kept_in (is_of (objects (number e))) t.entries e recorded (of_its_part e)) (omega arith)

  in_whole : (e : EntryValue) → Contains t.entries e → IsRightAndFreshEntry t e
  in_whole e recorded =
      let is = in_its_part e recorded in
      record {
        right = is.right;
        closed = is.closed;
        latest = is.latest;
        issued = is.issued;
        fresh = λ check. fresh_in_whole (number e) e (is.fresh check);
      }

  at_place : (k : ℕ) (d : EntryValue) → k < length t.entries → IsRightAndFreshEntry t (get_or t.entries k d)
  at_place k d lt = in_whole (get_or t.entries k d) (Contains-get_or t.entries k d lt)

  pub right_of_parts : IsRightAndFresh t
  right_of_parts = record {
    right = λ k d lt. (at_place k d lt).right;
    fresh = record {
      latest = λ k d lt. (at_place k d lt).latest;
      closed = λ k d lt. (at_place k d lt).closed;
      fresh = λ k d lt. (at_place k d lt).fresh;
      issued = λ k d lt. (at_place k d lt).issued;
    };
  }

  -- the content check that issued a version is of the same part
  pub seen_in_parts : HasNoNewEnemy t
  seen_in_parts e c is =
      let k = number e in
      let u : TraceValue = part_of (objects k) t in
      let read = clean k in
      let same = same_object (objects k) e is.version (of_its_part e) is.named c is.issued in
      let within : IsCheckOf u e c = record {
        version = is.version;
        checked = kept_in (is_of (objects k)) t.entries e is.checked (of_its_part e);
        named = is.named;
        recorded = kept_in (is_of (objects k)) t.entries c is.recorded same;
        issued = is.issued;
      } in
      let saw : HasSeen u e c = seen u (formed_by_bytes read.bytes u read.said).versions e c within
      ((in_its_part e is.checked).fresh (is_check u e c within)) in
      record {
        removed = λ j commit before. saw.removed j commit (record { there = before.there; line = before.line; placed = before.placed; before = before.before });
        added = λ j commit before. saw.added j commit (record { there = before.there; line = before.line; placed = before.placed; before = before.before });
      }

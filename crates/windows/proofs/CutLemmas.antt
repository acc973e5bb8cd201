-- A cut that keeps lines is a window, and one window gives the next its front.
use Rattle.std.proofs.Common.{◌↔◌, ◌≡◌, ℕ, ◌<◌, ◌≤◌, Bool, true, false, cond, ltb, leb, List, [], ◌∷◌, length, map, refl, sym, ◌∙◌, ap, subst}
use Rattle.std.specs.Prelude.{All, filter}
use Rattle.version_chains.specs.Commits.{Commit, store_at}
use Rattle.trace_lines.specs.Values.{EntryValue, TraceValue}
use Rattle.token_order.specs.Order.{CommitLine, on_lines, commit_lines_of}
use Rattle.evidence_check.specs.Members.{IsMemberAt}
use Rattle.windows.specs.Alike.{AreSameTuples, IsSameAt}
use Rattle.windows.specs.Compaction.{AreRising, above, up_to, StandsFor}
use Rattle.windows.specs.Cuts.{lines_between, window_of}
use Rattle.windows.specs.Windows.{IsWindow, IsCopy}
use Rattle.windows.proofs.CompactionLemmas.{compacted_law}
use Rattle.windows.proofs.AlikeLemmas.{swapped, same_members_law}

abbrev pub lines_of : List CommitLine → List ℕ
lines_of cs = map (λ (c : CommitLine). c.line) cs

pub filter_on : (p : ℕ → Bool) (ls : List ℕ) (cs : List Commit)
    → filter (λ (c : CommitLine). p c.at) (on_lines ls cs) ≡ on_lines (lines_of (filter (λ (c : CommitLine). p c.at)
    (on_lines ls cs))) (filter (λ (c : Commit). p c.at) cs)
filter_on p [] cs = refl
filter_on p (l ∷ ls) [] = refl
filter_on p (l ∷ ls) (c ∷ cs) = by_test (filter_on p ls cs) (p c.at)
  where
    kept : List CommitLine
    kept = filter (λ (c : CommitLine). p c.at) (on_lines ls cs)

    by_test : kept ≡ on_lines (lines_of kept) (filter (λ (c : Commit). p c.at) cs) → (b : Bool)
        → cond b (record { line = l; at = c.at } ∷ kept) kept ≡ on_lines (lines_of (cond b (record {
          line = l;
          at =
              c.at;
        } ∷ kept) kept)) (cond b (c ∷ filter (λ (c : Commit). p c.at) cs) (filter (λ (c : Commit). p c.at) cs))
    by_test rest true = ap (λ (xs : List CommitLine). record { line = l; at = c.at } ∷ xs) rest
    by_test rest false = rest

map_same : (ls : List ℕ) → map (λ l. l) ls ≡ ls
map_same [] = refl
map_same (l ∷ ls) = ap (λ (ms : List ℕ). l ∷ ms) (map_same ls)

own_lines : (b h : ℕ) (t : TraceValue)
    → on_lines (map (λ l. l) (lines_between b h t)) (above b (up_to h t.commits)) ≡ filter (λ c. ltb b c.at) (filter (λ
    c. leb c.at h) (commit_lines_of t))
own_lines b h t =
    let once = filter_on (λ at. leb at h) t.commit_lines t.commits in
    let ended : List CommitLine = filter (λ (c : CommitLine). leb c.at h) (commit_lines_of t) in
    ap (λ (ls : List ℕ). on_lines ls (above b (up_to h t.commits))) (map_same (lines_between b h t))
    ∙ ap (λ (xs : List CommitLine). on_lines (lines_of (filter (λ (c : CommitLine). ltb b c.at) xs)) (above b (up_to h
    t.commits))) once
    ∙ sym (filter_on (λ at. ltb b at) (lines_of (filter (λ (c : CommitLine). leb c.at h) (commit_lines_of t))) (up_to h
    t.commits))
    ∙ ap (filter (λ (c : CommitLine). ltb b c.at)) (sym once)

pub cut_law : (b h n : ℕ) (t : TraceValue) (front : List Commit) (front_lines : List ℕ) (entries : List EntryValue)
    → StandsFor front b t.commits → length front_lines ≡ length front
    → All (λ l. l < n) front_lines → All (λ l. n ≤ l) (lines_between b h t)
    → IsWindow (λ l. l) n b h t (window_of b h front front_lines entries t)
cut_law b h n t front front_lines entries stands counted in_front behind = record {
  front = front;
  front_lines = front_lines;
  own_lines = lines_between b h t;
  rules = λ s from to namespace relation. refl;
  stands = stands;
  commits = refl;
  lines = refl;
  counted = counted;
  in_front = in_front;
  behind = behind;
  rise = λ l m a c. refl;
  own = own_lines b h t;
}

pub same_in_window_law : (g : ℕ → ℕ) (n b h : ℕ) (t w : TraceValue) → IsWindow g n b h t w → AreRising t.commits
    → (s : ℕ) → b ≤ s → s ≤ h → IsSameAt s t w
same_in_window_law g n b h t w is rising s from to = record {
  rules = is.rules s from to;
  tuples = swapped (store_at w.commits s) (store_at t.commits s) (subst (λ (cs : List Commit). AreSameTuples (store_at
      cs s) (store_at t.commits s)) (sym is.commits) (compacted_law t.commits b h rising is.front is.stands s from to));
}

pub same_replies_law : (g : ℕ → ℕ) (n b h : ℕ) (t w : TraceValue) → IsWindow g n b h t w → AreRising t.commits
    → (e d : EntryValue) → IsCopy g e d
    → b ≤ e.snapshot → e.snapshot ≤ h → (IsMemberAt t e.snapshot e.goal ↔ IsMemberAt w d.snapshot d.goal)
same_replies_law g n b h t w is rising e d same from to =
    subst (λ (x : EntryValue). IsMemberAt t e.snapshot e.goal ↔ IsMemberAt w x.snapshot x.goal) same
    (same_members_law e.snapshot t w (same_in_window_law g n b h t w is rising e.snapshot from to) e.goal)

pub handed_on_law : (g : ℕ → ℕ) (n b h : ℕ) (t w : TraceValue) → IsWindow g n b h t w → AreRising t.commits → (c : ℕ)
    → b ≤ c → c ≤ h
    → (front : List Commit) → StandsFor front c w.commits → StandsFor front c t.commits
handed_on_law g n b h t w is rising c from to front stands =
    let same : AreSameTuples (store_at w.commits c) (store_at t.commits c) =
    subst (λ (cs : List Commit). AreSameTuples (store_at cs c) (store_at t.commits c)) (sym is.commits) (compacted_law
    t.commits b h rising is.front is.stands c from to) in
    record {
      none_above = stands.none_above;
      stored = λ x. (
        λ m. (same x).0 ((stands.stored x).0 m),
        λ m.
            (stands.stored x).1 ((same x).1 m),
      );
    }

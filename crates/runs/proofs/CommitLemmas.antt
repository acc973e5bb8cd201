-- Commits by their touches: those above a timestamp have the touches above it, and touches tell commits.
use Rattle.std.proofs.Common.{◌≡◌, ℕ, ◌<◌, ◌≤◌, Bool, true, false, cond, ltb, List, [], ◌∷◌, ◌++◌, map, refl, sym, ◌∙◌, ap, subst, arith, append_assoc, append-nil}
use Rattle.std.specs.List.{AllByRecursion}
use Rattle.std.proofs.lemmas.Bool.{lt-ltb, le-ltb, ltb-true, ltb-false}
use Rattle.std.proofs.lemmas.List.Elements.{filter-append}
use Rattle.tuple_text.specs.Tuples.{TupleValue}
use Rattle.version_chains.specs.Commits.{Commit, Touch, touches, changelog}
use Rattle.version_chains.proofs.CommitLemmas.{side}
use Rattle.windows.specs.Compaction.{above}
use Rattle.windows.proofs.CompactionLemmas.{AreOrdered, IsAbove}
use Rattle.runs.specs.Alike.{touches_above}

-- ---- touches above a timestamp

side_kept : (b at : ℕ) (live : Bool) (ts : List TupleValue) → b < at
    → touches_above b (side at live ts) ≡ side at live ts
side_kept b at live [] lt = refl
side_kept b at live (t ∷ ts) lt =
    rw (lt-ltb b at lt) (ap (λ (xs : List Touch). record { at = at; live = live; tuple = t } ∷ xs)
    (side_kept b at live ts lt))

side_left : (b at : ℕ) (live : Bool) (ts : List TupleValue) → at ≤ b → touches_above b (side at live ts) ≡ []
side_left b at live [] le = refl
side_left b at live (t ∷ ts) le = rw (le-ltb b at le) (side_left b at live ts le)

touches_kept : (b : ℕ) (c : Commit) → b < c.at → touches_above b (touches c) ≡ touches c
touches_kept b c lt =
    filter-append (λ (x : Touch). ltb b x.at) (side c.at true c.adds) (side c.at false c.removes)
    ∙ ap (λ (xs : List Touch). xs ++ touches_above b (side c.at false c.removes)) (side_kept b c.at true c.adds lt)
    ∙ ap (λ (xs : List Touch). side c.at true c.adds ++ xs) (side_kept b c.at false c.removes lt)

touches_left : (b : ℕ) (c : Commit) → c.at ≤ b → touches_above b (touches c) ≡ []
touches_left b c le =
    filter-append (λ (x : Touch). ltb b x.at) (side c.at true c.adds) (side c.at false c.removes)
    ∙ ap (λ (xs : List Touch). xs ++ touches_above b (side c.at false c.removes)) (side_left b c.at true c.adds le)
    ∙ side_left b c.at false c.removes le

-- the touches above a timestamp are those of the commits above it
pub above_log : (b : ℕ) (cs : List Commit) → touches_above b (changelog cs) ≡ changelog (above b cs)
above_log b [] = refl
above_log b (c ∷ cs) =
    filter-append (λ (x : Touch). ltb b x.at) (touches c) (changelog cs)
    ∙ by_test (above_log b cs) (ltb b c.at) refl
  where
    by_test : touches_above b (changelog cs) ≡ changelog (above b cs) → (x : Bool) → ltb b c.at ≡ x
        → touches_above b (touches c) ++ touches_above b (changelog cs) ≡ changelog (cond x (c ∷ above b cs) (above b cs))
    by_test rest true is =
        ap (λ (xs : List Touch). xs ++ touches_above b (changelog cs)) (touches_kept b c (ltb-true b c.at is))
        ∙ ap (λ (xs : List Touch). touches c ++ xs) rest
    by_test rest false is =
        ap (λ (xs : List Touch). xs ++ touches_above b (changelog cs)) (touches_left b c (ltb-false b c.at is)) ∙ rest

-- ---- touches tell a commit

abbrev touched : ℕ → Bool → TupleValue → Touch
touched at live t = record { at = at; live = live; tuple = t }

sides : (at : ℕ) (a r b s : List TupleValue) → side at true a ++ side at false r ≡ side at true b ++ side at false s
    → (a ≡ b) × (r ≡ s)
sides at [] [] [] [] same = (refl, refl)
sides at [] [] [] (v ∷ s) same = absurd cc
sides at [] [] (v ∷ b) s same = absurd cc
sides at [] (u ∷ r) [] [] same = absurd cc
sides at [] (u ∷ r) [] (v ∷ s) same =
    let rest = sides at [] r [] s cc in
    let head : touched at false u ≡ touched at false v = cc in
    let own : u ≡ v = ap (λ (x : Touch). x.tuple) head in
    (refl, ap (λ (t : TupleValue). t ∷ r) own ∙ ap (λ (ts : List TupleValue). v ∷ ts) rest.1)
sides at [] (u ∷ r) (v ∷ b) s same =
    let head : touched at false u ≡ touched at true v = cc in
    let other : false ≡ true = ap (λ (x : Touch). x.live) head in
    absurd cc
sides at (u ∷ a) [] [] [] same = absurd cc
sides at (u ∷ a) r [] (v ∷ s) same =
    let head : touched at true u ≡ touched at false v = cc in
    let other : true ≡ false = ap (λ (x : Touch). x.live) head in
    absurd cc
sides at (u ∷ a) (w ∷ r) [] [] same = absurd cc
sides at (u ∷ a) r (v ∷ b) s same =
    let rest = sides at a r b s cc in
    let head : touched at true u ≡ touched at true v = cc in
    let own : u ≡ v = ap (λ (x : Touch). x.tuple) head in
    (ap (λ (t : TupleValue). t ∷ a) own ∙ ap (λ (ts : List TupleValue). v ∷ ts) rest.0, rest.1)

abbrev committed : ℕ → List TupleValue → List TupleValue → Commit
committed at adds removes = record { at = at; adds = adds; removes = removes }

touches_tell : (c d : Commit) → c.at ≡ d.at → touches c ≡ touches d → c ≡ d
touches_tell c d at same =
    let parts = sides c.at c.adds c.removes d.adds d.removes
    (same ∙ ap (λ (t : ℕ). side t true d.adds ++ side t false d.removes) (sym at)) in
    ap (λ (t : ℕ). committed t c.adds c.removes) at ∙ ap (λ (ts : List TupleValue). committed d.at ts c.removes) parts.0
    ∙ ap (λ (ts : List TupleValue). committed d.at d.adds ts) parts.1

-- ---- and a changelog all commits

side_up_to : (b at : ℕ) (live : Bool) (ts : List TupleValue) (xs : List Touch) → at ≤ b
    → AllByRecursion (λ (x : Touch). x.at ≤ b) xs → AllByRecursion (λ (x : Touch). x.at ≤ b) (side at live ts ++ xs)
side_up_to b at live [] xs le h = h
side_up_to b at live (t ∷ ts) xs le h = (le, side_up_to b at live ts xs le h)

side_above : (b at : ℕ) (live : Bool) (ts : List TupleValue) (xs : List Touch) → b < at
    → AllByRecursion (λ (x : Touch). b < x.at) xs → AllByRecursion (λ (x : Touch). b < x.at) (side at live ts ++ xs)
side_above b at live [] xs lt h = h
side_above b at live (t ∷ ts) xs lt h = (lt, side_above b at live ts xs lt h)

up_to_own : (c : Commit) → AllByRecursion (λ (x : Touch). x.at ≤ c.at) (touches c)
up_to_own c =
    side_up_to c.at c.at true c.adds (side c.at false c.removes) (omega (arith))
    (subst (AllByRecursion (λ (x : Touch). x.at ≤ c.at)) (append-nil (side c.at false c.removes))
    (side_up_to c.at c.at false c.removes [] (omega (arith)) tt))

later_touches : (b : ℕ) (cs : List Commit) → AllByRecursion (IsAbove b) cs
    → AllByRecursion (λ (x : Touch). b < x.at) (changelog cs)
later_touches b [] h = tt
later_touches b (c ∷ cs) h =
    subst (AllByRecursion (λ (x : Touch). b < x.at)) (sym (append_assoc (side c.at true c.adds) (side c.at false c.removes)
    (changelog cs)))
    (side_above b c.at true c.adds (side c.at false c.removes ++ changelog cs) h.0
    (side_above b c.at false c.removes (changelog cs) h.0 (later_touches b cs h.1)))

-- lists that are cut at a timestamp in one way
parted : (b : ℕ) (xs ys us vs : List Touch) → AllByRecursion (λ (x : Touch). x.at ≤ b) xs
    → AllByRecursion (λ (x : Touch). x.at ≤ b) us → AllByRecursion (λ (x : Touch). b < x.at) ys
    → AllByRecursion (λ (x : Touch). b < x.at) vs → xs ++ ys ≡ us ++ vs → (xs ≡ us) × (ys ≡ vs)
parted b [] ys [] vs h k m n same = (refl, same)
parted b [] ys (u ∷ us) vs h k m n same =
    let later : AllByRecursion (λ (x : Touch). b < x.at) (u ∷ (us ++ vs)) =
    subst (AllByRecursion (λ (x : Touch). b < x.at)) same m in
    let lt = later.0 in
    let le = k.0 in
    absurd (omega (arith, lt, le))
parted b (x ∷ xs) ys [] vs h k m n same =
    let later : AllByRecursion (λ (x : Touch). b < x.at) (x ∷ (xs ++ ys)) =
    subst (AllByRecursion (λ (x : Touch). b < x.at)) (sym same) n in
    let lt = later.0 in
    let le = h.0 in
    absurd (omega (arith, lt, le))
parted b (x ∷ xs) ys (u ∷ us) vs h k m n same =
    let tail : xs ++ ys ≡ us ++ vs = cc in
    let rest = parted b xs ys us vs h.1 k.1 m n tail in
    let head : x ≡ u = cc in
    (ap (λ (z : Touch). z ∷ xs) head ∙ ap (λ (zs : List Touch). u ∷ zs) rest.0, rest.1)

-- Commits with the same timestamps, which rise, and the same touches are the same.
pub touches_tell_all : (cs ds : List Commit) → AreOrdered cs → AreOrdered ds
    → map (λ (c : Commit). c.at) cs ≡ map (λ (d : Commit). d.at) ds → changelog cs ≡ changelog ds → cs ≡ ds
touches_tell_all [] [] h k times same = refl
touches_tell_all [] (d ∷ ds) h k times same = absurd cc
touches_tell_all (c ∷ cs) [] h k times same = absurd cc
touches_tell_all (c ∷ cs) (d ∷ ds) h k times same =
    let at : c.at ≡ d.at = cc in
    let ats : map (λ (x : Commit). x.at) cs ≡ map (λ (x : Commit). x.at) ds = cc in
    let up : AllByRecursion (λ (x : Touch). x.at ≤ c.at) (touches d) =
    subst (λ (b : ℕ). AllByRecursion (λ (x : Touch). x.at ≤ b) (touches d)) (sym at) (up_to_own d) in
    let later : AllByRecursion (λ (x : Touch). c.at < x.at) (changelog ds) =
    subst (λ (b : ℕ). AllByRecursion (λ (x : Touch). b < x.at) (changelog ds)) (sym at) (later_touches d.at ds k.0) in
    let parts = parted c.at (touches c) (changelog cs) (touches d) (changelog ds) (up_to_own c) up
    (later_touches c.at cs h.0) later same in
    ap (λ (x : Commit). x ∷ cs) (touches_tell c d at parts.0)
    ∙ ap (λ (xs : List Commit). d ∷ xs) (touches_tell_all cs ds h.1 k.1 ats parts.1)

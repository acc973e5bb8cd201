-- Relations that are kept, place by place and from one list to the next.
use Rattle.std.proofs.Common.{◌≡◌, ℕ, zero, suc, ◌+◌, ◌<◌, ◌≤◌, Bool, true, false, ◌&&◌, ◌==◌, List, [], ◌∷◌, length, drop, slice_get, Option, None, Some, refl, sym, ◌∙◌, add-one, arith}
use Rattle.std.specs.Str.{bytes_eq}
use Rattle.std.specs.List.{list_any}
use Rattle.std.specs.Cmp.{unsigned_Decides}
use Rattle.namespaces.specs.Declaration.{Relation}
use Rattle.namespaces.specs.Lookup.{relation_named, relation_names}
use Rattle.namespaces.specs.Adding.{has_repeats}
use Rattle.namespaces.specs.Changing.{keeps_names, keeps_strata}
use Rattle.namespaces.specs.Kept.{has_one_name, keeps_name_at, has_one_stratum, keeps_stratum_at}
use Rattle.namespaces.specs.Shown.{show_relation, show_relations}
use Rattle.namespaces.proofs.Indexes.{length-mapped}
use Rattle.namespaces.proofs.Tables.{Entry}
use Rattle.rewrites.proofs.Names.{by_bool, clash, same_name, one_name, or_false, and_true}

drop-nil : (i : ℕ) → drop {A = Relation} i [] ≡ []
drop-nil zero = refl
drop-nil (suc i) = refl

strata-none : (rs : List Relation) → keeps_strata rs [] ≡ true
strata-none [] = refl
strata-none (r ∷ rs) = refl

-- A test that goes from place to place, as far as the old list, is that of one place and that of the places behind it.
kept_step : (kept : List Relation → List Relation → Bool) (one : Option Relation → Option Relation → Bool)
    → ((r : Relation) (rs : List Relation) → kept (r ∷ rs) [] ≡ (one (Some r) None && kept rs []))
    → ((r s : Relation) (rs ss : List Relation) → kept (r ∷ rs) (s ∷ ss) ≡ (one (Some r) (Some s) && kept rs ss))
    → (old new : List Relation) (i : ℕ) → i < length old
    → kept (drop i old) (drop i new) ≡ (one (slice_get old i) (slice_get new i) && kept (drop (i + 1) old) (drop (i + 1) new))
kept_step kept one past step old new i h = rw add-one (by old new i h)
  where
    by : (old new : List Relation) (i : ℕ) → i < length old
        → kept (drop i old) (drop i new) ≡ (one (slice_get old i) (slice_get new i) && kept (drop (suc i) old) (drop (suc i) new))
    by [] new i h = absurd (omega arith)
    by (r ∷ rs) [] zero h = past r rs
    by (r ∷ rs) (s ∷ ss) zero h = step r s rs ss
    by (r ∷ rs) [] (suc i) h = rw (drop-nil i) at (by rs [] i (omega arith))
    by (r ∷ rs) (s ∷ ss) (suc i) h = by rs ss i (omega arith)

pub names_step : (old new : List Entry) (i : ℕ) → i < length old
    → keeps_names (drop i (show_relations old)) (drop i (show_relations new))
    ≡ (keeps_name_at (show_relations old) (show_relations new) i
    && keeps_names (drop (i + 1) (show_relations old)) (drop (i + 1) (show_relations new)))
names_step old new i h =
    kept_step keeps_names has_one_name (λ r rs. refl) (λ r s rs ss. refl) (show_relations old) (show_relations new) i
    (rw (length-mapped show_relation old) h)

pub strata_step : (old new : List Entry) (i : ℕ) → i < length old
    → keeps_strata (drop i (show_relations old)) (drop i (show_relations new))
    ≡ (keeps_stratum_at (show_relations old) (show_relations new) i
    && keeps_strata (drop (i + 1) (show_relations old)) (drop (i + 1) (show_relations new)))
strata_step old new i h =
    kept_step keeps_strata has_one_stratum (λ r rs. sym (strata-none rs)) (λ r s rs ss. refl) (show_relations old) (show_relations new) i
    (rw (length-mapped show_relation old) h)

pub keeps_names-same : (rs : List Relation) → keeps_names rs rs ≡ true
keeps_names-same [] = refl
keeps_names-same (r ∷ rs) = rw (same_name r.name) (keeps_names-same rs)

pub keeps_strata-same : (rs : List Relation) → keeps_strata rs rs ≡ true
keeps_strata-same [] = refl
keeps_strata-same (r ∷ rs) = rw ((unsigned_Decides r.stratum r.stratum).1 refl) (keeps_strata-same rs)

pub keeps_names-length : (old new : List Relation) → keeps_names old new ≡ true → length old ≤ length new
keeps_names-length [] new h = omega arith
keeps_names-length (r ∷ rs) [] h = cc
keeps_names-length (r ∷ rs) (s ∷ ss) h =
    let rest = keeps_names-length rs ss (and_true (bytes_eq r.name s.name) (keeps_names rs ss) h).1 in
    omega arith

pub keeps_names-through : (a b c : List Relation) → keeps_names a b ≡ true → keeps_names b c ≡ true → keeps_names a c ≡ true
keeps_names-through [] b c h k = refl
keeps_names-through (r ∷ rs) [] c h k = cc
keeps_names-through (r ∷ rs) (s ∷ ss) [] h k = cc
keeps_names-through (r ∷ rs) (s ∷ ss) (t ∷ ts) h k =
    let first = and_true (bytes_eq r.name s.name) (keeps_names rs ss) h in
    let second = and_true (bytes_eq s.name t.name) (keeps_names ss ts) k in
    rw (one_name r.name s.name first.0, second.0) (keeps_names-through rs ss ts first.1 second.1)

pub keeps_strata-through : (a b c : List Relation) → keeps_names a b ≡ true → keeps_strata a b ≡ true → keeps_strata b c ≡ true → keeps_strata a c ≡ true
keeps_strata-through [] b c n h k = refl
keeps_strata-through (r ∷ rs) [] c n h k = cc
keeps_strata-through (r ∷ rs) (s ∷ ss) [] n h k = refl
keeps_strata-through (r ∷ rs) (s ∷ ss) (t ∷ ts) n h k =
    let first = and_true (r.stratum == s.stratum) (keeps_strata rs ss) h in
    let second = and_true (s.stratum == t.stratum) (keeps_strata ss ts) k in
    let same : r.stratum ≡ s.stratum = (unsigned_Decides r.stratum s.stratum).0 first.0 in
    rw (same, second.0) (keeps_strata-through rs ss ts (and_true (bytes_eq r.name s.name) (keeps_names rs ss) n).1 first.1 second.1)

-- a relation that the new list lacks was not in the old one
pub absent_before : (q : List ℕ) (old new : List Relation) → keeps_names old new ≡ true → relation_named q new ≡ None → relation_named q old ≡ None
absent_before q [] new h none = refl
absent_before q (r ∷ rs) [] h none = cc
absent_before q (r ∷ rs) (s ∷ ss) h none =
    let parts = and_true (bytes_eq r.name s.name) (keeps_names rs ss) h in
    by_bool (bytes_eq q s.name)
    (λ t. let some = rw t at none in cc)
    (λ f. rw (one_name r.name s.name parts.0, f) (absent_before q rs ss parts.1 (rw f at none)))

named_among : (r : Relation) (rs : List Relation) (i : ℕ) → slice_get rs i ≡ Some r → list_any (bytes_eq r.name) (relation_names rs) ≡ true
named_among r [] i at = cc
named_among r (s ∷ ss) zero at = let same : s ≡ r = cc in rw (same, same_name r.name) refl
named_among r (s ∷ ss) (suc i) at = by_bool (bytes_eq r.name s.name) (λ t. rw t refl) (λ f. rw f (named_among r ss i at))

-- the name of a relation of the new list finds, in the old one, what stands in its place
pub named_before : (r : Relation) (old new : List Relation) (i : ℕ) → keeps_names old new ≡ true → has_repeats (relation_names new) ≡ false → slice_get new i ≡ Some r
    → relation_named r.name old ≡ slice_get old i
named_before r [] new i h once at = refl
named_before r (o ∷ os) [] i h once at = cc
named_before r (o ∷ os) (s ∷ ss) zero h once at =
    let same : s ≡ r = cc in
    let parts = and_true (bytes_eq o.name s.name) (keeps_names os ss) h in
    rw (one_name o.name s.name parts.0, same, same_name r.name) refl
named_before r (o ∷ os) (s ∷ ss) (suc i) h once at =
    let parts = and_true (bytes_eq o.name s.name) (keeps_names os ss) h in
    let apart = or_false (list_any (bytes_eq s.name) (relation_names ss)) (has_repeats (relation_names ss)) once in
    by_bool (bytes_eq r.name o.name)
    (λ t. clash (list_any (bytes_eq s.name) (relation_names ss)) (rw (← one_name o.name s.name parts.0, ← one_name r.name o.name t) (named_among r ss i at)) apart.0)
    (λ f. rw f (named_before r os ss i parts.1 apart.1 at))

-- the relation of a name, from its place in a list in which no name stands twice
pub named_by_place : (r : Relation) (rs : List Relation) (i : ℕ) → has_repeats (relation_names rs) ≡ false → slice_get rs i ≡ Some r → relation_named r.name rs ≡ Some r
named_by_place r rs i once at = named_before r rs rs i (keeps_names-same rs) once at ∙ at

-- What a caller learns from going through the usersets among the users of a userset.
use Rattle.std.proofs.Common.{◌≡◌, ℕ, Bool, true, List, sym, ◌∙◌, IsTrue, ◌↔◌}
use Rattle.std.specs.List.{list_any, list_all}
use Rattle.std.specs.Prelude.{Contains}
use Rattle.std.proofs.lemmas.List.Elements.{All-contains}
use Rattle.std.proofs.lemmas.List.Folds.{Any-from_list_any, list_any-from_Any}
use Rattle.std.proofs.lemmas.List.Sums.{AllPass-from_list_all, list_all-from_AllPass}
use Rattle.std.proofs.lemmas.Map.Views.{All-from_any, Contains-from_any, list_any-from_Contains}
use Rattle.tuple_text.specs.OrderLaws.{set_equiv}
use Rattle.tuple_text.specs.Sets.{SetValue, set_eq}
use Rattle.tuple_text.specs.Tuples.{tuple_of}
use Rattle.tuple_text.specs.declared.users.User.TheVariants.{Set}
use Rattle.tuple_text.proofs.ValueLemmas.{set_eq-same}
use Rattle.version_chains.specs.Among.{EveryStoredSetIsAmong, SomeStoredSetIsAmong, is_among}
use Rattle.version_chains.specs.Commits.{Commit, is_stored, store_at}
use Rattle.version_chains.proofs.StoreLemmas.{store_at-iff}

module _ (these gone_through : List SetValue) (commits : List Commit) (at : ℕ) (o : SetValue)
    (has : (g : SetValue) → list_any (set_eq g) gone_through ≡ is_stored commits at (tuple_of o (Set g)))
    (r : Bool) where
  among : (g : SetValue) → (is_among these g ≡ true) ↔ Contains these g
  among g = (Contains-from_any set_eq-same g these, list_any-from_Contains set_equiv g these)

  stored : (g : SetValue)
      → (list_any (set_eq g) gone_through ≡ true) ↔ Contains (store_at commits at) (tuple_of o (Set g))
  stored g =
      let kept = store_at-iff commits at (tuple_of o (Set g)) in (
        λ h. kept.1 (sym (has g) ∙ h),
        λ h. has g ∙ kept.0 h,
      )

  -- a pass that asks of each whether it is among these
  pub every_among : r ≡ list_all (is_among these) gone_through → IsTrue r ↔ EveryStoredSetIsAmong these commits at o
  every_among e = (
    λ h g k. (among g).0 (All-contains (λ x. is_among these x ≡ true) gone_through g
        (AllPass-from_list_all (is_among these) gone_through (sym e ∙ h))
        (Contains-from_any set_eq-same g gone_through ((stored g).1 k))),
    λ h. e ∙ list_all-from_AllPass (is_among these) gone_through
        (All-from_any set_equiv (λ g. is_among these g ≡ true) gone_through
        (λ g k. (among g).1 (h g ((stored g).0 k)))),
  )

  -- and one that asks whether some is
  pub some_among : r ≡ list_any (is_among these) gone_through → IsTrue r ↔ SomeStoredSetIsAmong these commits at o
  some_among e = (
    λ h. let w = Any-from_list_any (is_among these) gone_through (sym e ∙ h) in (
      w.1,
      (stored w.1).0 (list_any-from_Contains set_equiv w.1 gone_through (w.0, w.2, w.3)),
      (among w.1).0 w.4,
    ),
    λ h. let k = Contains-from_any set_eq-same h.0 gone_through ((stored h.0).1 h.1) in
        e ∙ list_any-from_Any (is_among these) gone_through (k.0, h.0, k.1, k.2, (among h.0).1 h.2),
  )

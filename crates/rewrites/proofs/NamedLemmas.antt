-- Names that a table has.
use Rattle.std.proofs.Common.{◌≡◌, ℕ, zero, suc, true, List, [], ◌∷◌, refl, sym, ap, map, arith, String, Global}
use Rattle.std.specs.List.{list_any}
use Rattle.std.specs.Prelude.{Contains, string_bytes}
use Rattle.std.specs.Str.{bytes_eq}
use Rattle.std.specs.Map.{keys_of}
use Rattle.rewrites.proofs.Names.{by_bool, one_name, same_name, or_true}

module _ {X : Type 0} where
  abbrev names : List (String Global × X) → List (List ℕ)
  names es = map (λ e. string_bytes e.0) es

  -- what a name stands for that the table has
  pub there_shown : {Y : Type 0} (f : List ℕ → Y) (q : List ℕ) (es : List (String Global × X)) → list_any (λ k. bytes_eq q (string_bytes k)) (keys_of es) ≡ true
      → Contains (map (λ e. f (string_bytes e.0)) es) (f q)
  there_shown f q [] h = absurd cc
  there_shown f q (e ∷ es) h = by_bool (bytes_eq q (string_bytes e.0))
      (λ t. (0, omega arith, ap f (sym (one_name q (string_bytes e.0) t))))
      (λ n. let rest = there_shown f q es (rw n at h) in (suc rest.0, omega (arith, rest.1), rest.2))

  pub there_named : (q : List ℕ) (es : List (String Global × X)) → list_any (λ k. bytes_eq q (string_bytes k)) (keys_of es) ≡ true → Contains (names es) q
  there_named q es h = there_shown (λ n. n) q es h

  pub named_there : (q : List ℕ) (es : List (String Global × X)) → Contains (names es) q → list_any (λ k. bytes_eq q (string_bytes k)) (keys_of es) ≡ true
  named_there q [] (k, within, is) = absurd (omega arith)
  named_there q (e ∷ es) (zero, within, is) = rw (is, same_name q) refl
  named_there q (e ∷ es) (suc k, within, is) =
      let further = named_there q es (k, omega (arith, within), is) in
      rw further (or_true (bytes_eq q (string_bytes e.0)))

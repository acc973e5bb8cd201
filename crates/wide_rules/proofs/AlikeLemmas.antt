-- Rules that are alike establish and refute the same.
use Rattle.std.proofs.Common.{◌≡◌, Bool, true, false, ◌||◌, ◌&&◌, List, refl, sym, ◌∙◌, inl, inr, true≢false}
use Rattle.std.specs.Prelude.{◌⊎◌, ◌↔◌}
use Rattle.tuple_text.specs.Tuples.{TupleValue, FactValue}
use Rattle.rewrites.specs.Alike.{Leaves, gives, some_gives, each_gives, bars, some_bars, each_bars, IsAlike}
use Rattle.rewrites.specs.Expression.{Expression, this, computed, tuple_to, union, inter, minus, Expressions, no_child, child}
use Rattle.namespaces.specs.Lookup.{Lookup}
use Rattle.judgement.specs.Decided.{dec_established, dec_refuted}
use Rattle.judgement.specs.Judgement.{KnownValue, Established, SomeEstablished, EachEstablished, Refuted, SomeRefuted, EachRefuted}

pub is_so : {A : Type 0} → Dec A → Bool
is_so (yes a) = true
is_so (no n) = false

so_is : {A : Type 0} → (d : Dec A) → ((is_so d ≡ true) ↔ A)
unfolding is_so
so_is (yes a) = (λ h. a, λ b. refl)
so_is (no n) = (λ h. absurd (true≢false (sym h)), λ a. absurd (n a))

or_is : {A B : Type 0} → (a b : Bool) → ((a ≡ true) ↔ A) → ((b ≡ true) ↔ B) → (((a || b) ≡ true) ↔ (A ⊎ B))
or_is true b f g = (λ h. inl (f.0 refl), λ h. refl)
or_is false b f g = (λ h. inr (g.0 h), λ h. elim h [ inl x ↦ absurd (true≢false (sym (f.1 x))) | inr y ↦ g.1 y ])

and_is : {A B : Type 0} → (a b : Bool) → ((a ≡ true) ↔ A) → ((b ≡ true) ↔ B) → (((a && b) ≡ true) ↔ (A × B))
and_is true b f g = (λ h. (f.0 refl, g.0 h), λ h. g.1 h.1)
and_is false b f g = (λ h. absurd (true≢false (sym h)), λ h. absurd (true≢false (sym (f.1 h.0))))

module _ (rules : Lookup) (store : List TupleValue) (known : KnownValue) (f : FactValue) where
  -- what the leaves of a rule give and rule out by what is known
  abbrev pub by_known : Leaves
  by_known = record {
    given = λ e. is_so (dec_established rules store known f e);
    barred = λ e. is_so (dec_refuted rules store known f e);
  }

  mutual
    pub given_is : (e : Expression) → ((gives by_known e ≡ true) ↔ Established rules store known f e)
    given_is this = so_is (dec_established rules store known f this)
    given_is (computed q) = so_is (dec_established rules store known f (computed q))
    given_is (tuple_to q c) = so_is (dec_established rules store known f (tuple_to q c))
    given_is (union es) = some_given_is es
    given_is (inter es) = each_given_is es
    given_is (minus a b) = and_is (gives by_known a) (bars by_known b) (given_is a) (barred_is b)

    some_given_is : (es : Expressions) → ((some_gives by_known es ≡ true) ↔ SomeEstablished rules store known f es)
    some_given_is no_child = (λ h. absurd (true≢false (sym h)), λ h. absurd h)
    some_given_is (child e es) = or_is (gives by_known e) (some_gives by_known es) (given_is e) (some_given_is es)

    each_given_is : (es : Expressions) → ((each_gives by_known es ≡ true) ↔ EachEstablished rules store known f es)
    each_given_is no_child = (λ h. tt, λ h. refl)
    each_given_is (child e es) = and_is (gives by_known e) (each_gives by_known es) (given_is e) (each_given_is es)

    pub barred_is : (e : Expression) → ((bars by_known e ≡ true) ↔ Refuted rules store known f e)
    barred_is this = so_is (dec_refuted rules store known f this)
    barred_is (computed q) = so_is (dec_refuted rules store known f (computed q))
    barred_is (tuple_to q c) = so_is (dec_refuted rules store known f (tuple_to q c))
    barred_is (union es) = each_barred_is es
    barred_is (inter es) = some_barred_is es
    barred_is (minus a b) = or_is (bars by_known a) (gives by_known b) (barred_is a) (given_is b)

    each_barred_is : (es : Expressions) → ((each_bars by_known es ≡ true) ↔ EachRefuted rules store known f es)
    each_barred_is no_child = (λ h. tt, λ h. refl)
    each_barred_is (child e es) = and_is (bars by_known e) (each_bars by_known es) (barred_is e) (each_barred_is es)

    some_barred_is : (es : Expressions) → ((some_bars by_known es ≡ true) ↔ SomeRefuted rules store known f es)
    some_barred_is no_child = (λ h. absurd (true≢false (sym h)), λ h. absurd h)
    some_barred_is (child e es) = or_is (bars by_known e) (some_bars by_known es) (barred_is e) (some_barred_is es)

  pub alike_established : (a b : Expression) → IsAlike a b → Established rules store known f a → Established rules store known f b
  alike_established a b alike h = (given_is b).0 (sym (alike.gives_alike by_known) ∙ (given_is a).1 h)

  pub alike_refuted : (a b : Expression) → IsAlike a b → Refuted rules store known f a → Refuted rules store known f b
  alike_refuted a b alike h = (barred_is b).0 (sym (alike.bars_alike by_known) ∙ (barred_is a).1 h)

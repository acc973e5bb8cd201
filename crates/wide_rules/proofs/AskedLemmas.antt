-- What follows for a rule from what was asked of its parts.
use Rattle.std.proofs.Common.{◌≡◌, Bool, true, false, not, ◌||◌, ◌&&◌, IsTrue, ◌↔◌, List, [], ◌∷◌, ◌++◌, refl, sym, ◌∙◌, ap, subst, inl, inr, arith, true≢false}
use mathlib.Core.Bool.{beq}
use Rattle.std.proofs.lemmas.List.Elements.{Contains-append_left, Contains-append_right, Contains-append_cases}
use Rattle.std.specs.Prelude.{Contains}
use Rattle.rewrites.specs.Alike.{Leaves}
use Rattle.rewrites.specs.Expression.{Expression, union, minus, children}
use Rattle.strata.proofs.Lists.{Contains-cons_cases}
use Rattle.wide_rules.specs.Asked.{Questions, asked_at, does, Agrees, Follows, AreRightPaths, AsksMore, IsCoveredBy, joined_of}
use Rattle.judgement.specs.AskedFact.{asked_fact, rules_over, tuples_over}
use Rattle.wide_rules.specs.AskedFact.{AreRight, DoesFor, Tells}
use Rattle.wide_rules.specs.declared.answers.Asked.{Asked}
use Rattle.judgement.specs.declared.asked.AskedFact.{AskedFact}
use Rattle.wide_rules.specs.declared.paths.Path.{Path}
use Rattle.wide_rules.proofs.AlikeLemmas.{by_known, given_is, barred_is}

pub same_beq : (a b : Bool) → beq a b ≡ true → a ≡ b
same_beq true true h = refl
same_beq true false h = absurd (true≢false (sym h))
same_beq false true h = absurd (true≢false (sym h))
same_beq false false h = refl

pub other_beq : (a b : Bool) → beq a b ≡ false → ¬ (a ≡ b)
other_beq true true h e = true≢false h
other_beq true false h e = true≢false e
other_beq false true h e = true≢false (sym e)
other_beq false false h e = true≢false h

pub is_other : (d g : Bool) → not (beq d g) ≡ true → d ≡ not g
is_other true true h = absurd (true≢false (sym h))
is_other true false h = refl
is_other false true h = refl
is_other false false h = absurd (true≢false (sym h))

only_one : {X : Type 0} (a b : X) → Contains (a ∷ []) b → a ≡ b
only_one a b there = elim (Contains-cons_cases a [] b there) [ inl is ↦ is | inr none ↦ absurd (omega (arith, none.1)) ]

pub follows_later : (q : Questions) (old new : List Asked) (g : Bool) (e : Expression) (r : Bool) → AsksMore old new
    → Follows q old g e r → Follows q new g e r
follows_later q old new g e r more h l agrees = h l (λ a there. agrees a (more a there))

pub one_path_more : (q : Questions) (e : Expression) (paths : List Path) (p : Path) → AreRightPaths q e paths
    → Follows q p.asked.items p.is_given e p.answer → AreRightPaths q e (paths ++ p ∷ [])
one_path_more q e paths p right follows o there =
    elim (Contains-append_cases paths (p ∷ []) o there) [
      | inl before ↦ right o before
      | inr last ↦ subst (λ (x : Path). Follows q x.asked.items x.is_given e x.answer) (only_one p o last) follows
    ]

-- ---- the children of a node

abbrev joined_does : Bool → Bool → Bool → Bool
joined_does true d rest = d || rest
joined_does false d rest = d && rest

pub joined_step : (l : Leaves) (stop g : Bool) (e : Expression) (es : List Expression)
    → does l g (joined_of stop g (e ∷ es)) ≡ joined_does stop (does l g e) (does l g (joined_of stop g es))
joined_step l true true e es = refl
joined_step l true false e es = refl
joined_step l false true e es = refl
joined_step l false false e es = refl

pub joined_none : (l : Leaves) (stop g : Bool) → does l g (joined_of stop g []) ≡ not stop
joined_none l true true = refl
joined_none l true false = refl
joined_none l false true = refl
joined_none l false false = refl

stops : (stop rest : Bool) → joined_does stop stop rest ≡ stop
stops true rest = refl
stops false rest = refl

pub goes_on : (stop d rest : Bool) → ¬ (d ≡ stop) → joined_does stop d rest ≡ rest
goes_on true true rest h = absurd (h refl)
goes_on true false rest h = refl
goes_on false true rest h = refl
goes_on false false rest h = absurd (h refl)

stops_behind : (stop d : Bool) → joined_does stop d stop ≡ stop
stops_behind true true = refl
stops_behind true false = refl
stops_behind false true = refl
stops_behind false false = refl

-- one that stops decides, wherever it stands
pub joined_stops : (l : Leaves) (stop g : Bool) (es : List Expression) (e : Expression) → Contains es e → does l g e ≡ stop
    → does l g (joined_of stop g es) ≡ stop
joined_stops l stop g [] e there is = absurd (omega (arith, there.1))
joined_stops l stop g (x ∷ xs) e there is =
    joined_step l stop g x xs ∙ elim (Contains-cons_cases x xs e there) [
      | inl same ↦
          ap (λ d. joined_does stop d (does l g (joined_of stop g xs))) (subst (λ y. does l g y ≡ stop) (sym same) is) ∙ stops stop (does l g (joined_of stop g xs))
      | inr rest ↦ ap (joined_does stop (does l g x)) (joined_stops l stop g xs e rest is) ∙ stops_behind stop (does l g x)
    ]

pub union_joins : (g : Bool) (es : List Expression) → joined_of g g es ≡ union (children es)
union_joins true es = refl
union_joins false es = refl

module _ {F : Type 0} (a : AskedFact F) where
  abbrev leaves : Leaves
  leaves = by_known (rules_over a) (tuples_over a) a.known.now (asked_fact a)

  -- ---- what the leaves do by what is known

  does_is : (g : Bool) (e : Expression) → ((does leaves g e ≡ true) ↔ DoesFor a g e)
  does_is true e = given_is (rules_over a) (tuples_over a) a.known.now (asked_fact a) e
  does_is false e = barred_is (rules_over a) (tuples_over a) a.known.now (asked_fact a) e

  answer_is : (g : Bool) (e : Expression) (b answer : Bool) → does leaves g e ≡ b → (IsTrue answer ↔ DoesFor a g e) → b ≡ answer
  answer_is g e true true is h = refl
  answer_is g e true false is h = sym (h.1 ((does_is g e).0 is))
  answer_is g e false true is h = sym is ∙ (does_is g e).1 (h.0 refl)
  answer_is g e false false is h = refl

  -- where each answer is right, so is one that follows
  pub right_then : (q : Questions) (asked : List Asked) (g : Bool) (e : Expression) (r : Bool) → AreRight a q asked
      → Follows q asked g e r → (IsTrue r ↔ DoesFor a g e)
  right_then q asked g e r right follows =
      let is : does leaves g e ≡ r =
      follows leaves
      (λ o there. answer_is o.is_given (asked_at q o.is_cover o.part) (does leaves o.is_given (asked_at q o.is_cover o.part)) o.answer refl (right o there)) in
      (λ t. (does_is g e).0 (is ∙ t), λ d. sym is ∙ (does_is g e).1 d)

  -- ---- one question

  one_more : (q : Questions) (old : List Asked) (o : Asked) → (IsTrue o.answer ↔ DoesFor a o.is_given (asked_at q o.is_cover o.part))
      → AreRight a q old → AreRight a q (old ++ o ∷ [])
  one_more q old o is right b there =
      elim (Contains-append_cases old (o ∷ []) b there) [
        | inl before ↦ right b before
        | inr last ↦ subst (λ (x : Asked). IsTrue x.answer ↔ DoesFor a x.is_given (asked_at q x.is_cover x.part)) (only_one o b last) is
      ]

  pub tells_noted : (q : Questions) (old : List Asked) (o : Asked) → (IsTrue o.answer ↔ DoesFor a o.is_given (asked_at q o.is_cover o.part))
      → Tells a q o.is_given (asked_at q o.is_cover o.part) old (old ++ o ∷ []) o.answer
  tells_noted q old o is = record {
    more = λ b c. Contains-append_left old (o ∷ []) b c;
    right = one_more q old o is;
    follows = λ l agrees. agrees o (Contains-append_right old (o ∷ []) o (0, omega arith, refl));
  }

  pub none_right : (q : Questions) (asked : List Asked) → asked ≡ [] → AreRight a q asked
  none_right q asked none = rw none (λ o there. absurd (omega (arith, there.1)))

  -- what was asked before that stays right
  pub tells_after : (q : Questions) (g : Bool) (e : Expression) (old now new : List Asked) (r : Bool) → AsksMore old now
      → (AreRight a q old → AreRight a q now) → Tells a q g e now new r → Tells a q g e old new r
  tells_after q g e old now new r more right tells = record {
    more = λ o there. tells.more o (more o there);
    right = λ before. tells.right (right before);
    follows = tells.follows;
  }

  -- a part whose cover has no answer that helps
  pub tells_covered : (q : Questions) (g : Bool) (e cover : Expression) (old new : List Asked) (d : Bool) → IsCoveredBy e cover
      → Tells a q g cover old new d → d ≡ not g → Tells a q g e old new (not g)
  tells_covered q g e cover old new d covered tells other = record {
    more = tells.more;
    right = tells.right;
    follows = λ l agrees. covered l g (tells.follows l agrees ∙ other);
  }

  pub tells_as : (q : Questions) (g : Bool) (e e' : Expression) (old new : List Asked) (r : Bool) → e ≡ e'
      → Tells a q g e' old new r → Tells a q g e old new r
  tells_as q g e e' old new r is tells = rw is tells

  -- ---- nodes, one after the other: what is left decides

  pub record IsLeft (q : Questions) (g : Bool) (whole left : Expression) (old new : List Asked) : Type 0 where
    pub more : AsksMore old new
    pub right : AreRight a q old → AreRight a q new
    pub same : (l : Leaves) → Agrees l q new → does l g whole ≡ does l g left

  left_told : (q : Questions) (stop g : Bool) (whole e : Expression) (es : List Expression) (old now new : List Asked) (d : Bool)
      → IsLeft q g whole (joined_of stop g (e ∷ es)) old now → Tells a q g e now new d → (l : Leaves) → Agrees l q new
      → does l g whole ≡ joined_does stop d (does l g (joined_of stop g es))
  left_told q stop g whole e es old now new d left tells l agrees =
      left.same l (λ o there. agrees o (tells.more o there))
      ∙ joined_step l stop g e es
      ∙ ap (λ x. joined_does stop x (does l g (joined_of stop g es))) (tells.follows l agrees)

  pub left_step : (q : Questions) (stop g : Bool) (whole e : Expression) (es : List Expression) (old now new : List Asked) (d : Bool)
      → IsLeft q g whole (joined_of stop g (e ∷ es)) old now → Tells a q g e now new d → ¬ (d ≡ stop)
      → IsLeft q g whole (joined_of stop g es) old new
  left_step q stop g whole e es old now new d left tells other = record {
    more = λ o there. tells.more o (left.more o there);
    right = λ before. tells.right (left.right before);
    same = λ l agrees.
        left_told q stop g whole e es old now new d left tells l agrees ∙ goes_on stop d (does l g (joined_of stop g es)) other;
  }

  pub left_stops : (q : Questions) (stop g : Bool) (whole e : Expression) (es : List Expression) (old now new : List Asked) (d : Bool)
      → IsLeft q g whole (joined_of stop g (e ∷ es)) old now → Tells a q g e now new d → d ≡ stop → Tells a q g whole old new stop
  left_stops q stop g whole e es old now new d left tells is =
      let told = tells_after q g e old now new d left.more left.right tells in
      record {
        more = told.more;
        right = told.right;
        follows = λ l agrees.
            left_told q stop g whole e es old now new d left tells l agrees
            ∙ ap (λ x. joined_does stop x (does l g (joined_of stop g es))) is
            ∙ stops stop (does l g (joined_of stop g es));
      }

  -- ---- a difference

  minus_goes_on : (l : Leaves) (g : Bool) (x y : Expression) (d : Bool) → does l g x ≡ d → d ≡ g → does l g (minus x y) ≡ does l (not g) y
  minus_goes_on l true x y true is same = rw is refl
  minus_goes_on l true x y false is same = cc
  minus_goes_on l false x y true is same = cc
  minus_goes_on l false x y false is same = rw is refl

  pub tells_minus : (q : Questions) (g : Bool) (x y : Expression) (old now new : List Asked) (d r : Bool)
      → Tells a q g x old now d → d ≡ g → Tells a q (not g) y now new r → Tells a q g (minus x y) old new r
  tells_minus q g x y old now new d r first same second = record {
    more = λ o there. second.more o (first.more o there);
    right = λ before. second.right (first.right before);
    follows = λ l agrees.
        minus_goes_on l g x y d (first.follows l (λ o there. agrees o (second.more o there))) same ∙ second.follows l agrees;
  }

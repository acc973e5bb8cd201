-- Whether a body holds can be decided where that is so of its premises.
use Rattle.std.proofs.Common.{List}
use Rattle.tuple_text.specs.Tuples.{TupleValue, FactValue}
use Rattle.tuple_text.specs.declared.users.User.TheVariants.{Id}
use Rattle.rewrites.specs.Expression.{Expression, this, computed, tuple_to, union, inter, minus, Expressions, no_child, child}
use Rattle.strata.specs.Meaning.{with_relation, same_user, Body, SomeBody, EachBody}
use Rattle.strata.specs.Strata.{EachPremise, EachPremises}
use Rattle.strata.specs.Decisions.{dec_not, dec_both, dec_either, dec_contains}
pub use Rattle.strata.specs.Decisions.{same_bytes, same_set, same_tuple, dec_some_stored}

mutual
  pub dec_body : (store : List TupleValue) (P N : FactValue → Type 0) (f : FactValue) (e : Expression)
      → EachPremise store (λ g. Dec (P g)) (λ g. Dec (N g)) f e → Dec (Body store P N f e)
  dec_body store P N f this d =
      dec_either (dec_contains same_tuple store (record { set = f.set; user = Id f.user }))
      (dec_some_stored store f.set (λ g. P (same_user f g)) d)
  dec_body store P N f (computed q) d = d
  dec_body store P N f (tuple_to q c) d =
      dec_some_stored store (with_relation f.set q) (λ g. P (same_user f (with_relation g c))) d
  dec_body store P N f (union es) d = dec_some_body store P N f es d
  dec_body store P N f (inter es) d = dec_each_body store P N f es d
  dec_body store P N f (minus a b) d = dec_both (dec_body store P N f a d.0) (dec_not (dec_body store N N f b d.1))

  pub dec_some_body : (store : List TupleValue) (P N : FactValue → Type 0) (f : FactValue) (es : Expressions)
      → EachPremises store (λ g. Dec (P g)) (λ g. Dec (N g)) f es → Dec (SomeBody store P N f es)
  dec_some_body store P N f no_child d = no (λ b. b)
  dec_some_body store P N f (child e es) d = dec_either (dec_body store P N f e d.0) (dec_some_body store P N f es d.1)

  pub dec_each_body : (store : List TupleValue) (P N : FactValue → Type 0) (f : FactValue) (es : Expressions)
      → EachPremises store (λ g. Dec (P g)) (λ g. Dec (N g)) f es → Dec (EachBody store P N f es)
  dec_each_body store P N f no_child d = yes tt
  dec_each_body store P N f (child e es) d = dec_both (dec_body store P N f e d.0) (dec_each_body store P N f es d.1)

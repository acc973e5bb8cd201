use Rattle.std.proofs.Common.{◌≡◌, Option, None, Some, option_map, refl}
use Rattle.std.proofs.lemmas.Option.{slice_get-map}
use Rattle.namespaces.specs.Shown.{show_relation}
use Rattle.namespaces.proofs.rules.Rules.relation_in.Goals as goal

mapped_twice : {A B C : Type 0} (f : A → B) (g : B → C) (o : Option A)
    → option_map (λ a. g (f a)) o ≡ option_map g (option_map f o)
mapped_twice f g None = refl
mapped_twice f g (Some a) = refl

pub returns-in_err-relations_in : goal.returns-in_err-relations_in
returns-in_err-relations_in c = rw (c.from_residual.ensures, ← c.in_err-relations_in.ensures) refl

pub returns : goal.returns
returns c =
    rw (
      ← c.in_ok-relations_in.ensures,
      slice_get-map show_relation c.in_ok-relations_in.field-0.now.entries c.args.place.relation,
      ← c.at.ensures.entry,
    ) (mapped_twice _ show_relation c.at.result)

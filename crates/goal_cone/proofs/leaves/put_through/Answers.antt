use Rattle.std.proofs.Common.{rules, ◌≡◌, ◌∷◌, ◌++◌, [], ap, length, refl, string_bytes, subst}
use Rattle.std.specs.Prelude.{slice_get, slice_set, Some, List}
use Rattle.std.proofs.lemmas.Option.{slice_get_read}
use Rattle.rewrites.specs.Expression.{tuple_to}
use Rattle.rewrites.specs.Leaves.{Collects, leaves_in}
use Rattle.rewrites.specs.Parts.{parts_shown}
use Rattle.rewrites.specs.declared.parts.Part.{Part}
use Rattle.goal_cone.proofs.GroupLemmas.{grown_at, put_last}
use Rattle.goal_cone.proofs.leaves.put_through.Goals as goal

pub returns-then-branch : goal.returns-then-branch
returns-then-branch c =
    let items = c.loop-i.parts.items in
    let i = c.loop-i.i in
    let old = c.index_mut.result.now in
    let e = tuple_to (string_bytes c.args.tupleset.now) (string_bytes c.args.computed.now) in
    let here : slice_get items i ≡ Some old = slice_get_read items (length items) i old refl (search rules) c.index_mut.ensures.value in
    let same : items ≡ c.args.parts.now.items = search rules in
    subst (λ (ps : List Part). Collects (parts_shown ps) (parts_shown (slice_set items i c.read_in.new.part)) (e ∷ [])) same
    (grown_at items i old c.read_in.new.part e here (c.in_ok-read_in.ensures.read c.if-branch.true))

pub returns : goal.returns
returns c =
    let old = c.args.parts.now.items in
    let e = tuple_to (string_bytes c.args.tupleset.now) (string_bytes c.args.computed.now) in
    let t = c.in_ok-through.through in
    let is : c.push.new.self.items ≡ old ++ Part.Through t ∷ [] = search rules in
    rw is (put_last old (Part.Through t) (e ∷ []) (ap leaves_in c.in_ok-through.ensures))

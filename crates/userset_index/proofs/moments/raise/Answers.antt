use Rattle.std.proofs.Common.{◌≡◌, ◌<◌, ◌≤◌, ◌%◌, Some, length, refl, sym, ◌∙◌, arith, rules}
use Rattle.std.specs.Prelude.{slice_get}
use Rattle.std.proofs.lemmas.Option.{slice_get_read}
use Rattle.userset_index.proofs.MomentLemmas.{raised, set_here}
use Rattle.userset_index.proofs.moments.raise.Goals as goal

pub returns-then-index-until-clause-old : goal.returns-then-index-until-clause-old
returns-then-index-until-clause-old c n u least =
    let xs = c.args.untils.now.items in
    let slot = c.args.number % 256 in
    let within : slot < length xs = omega (arith, c.requires) in
    let here : slice_get xs slot ≡ Some c.index.result.now = slice_get_read xs (length xs) slot c.index.result.now refl within (search rules) in
    let less : c.index.result.now < c.args.until = search rules in
    raised xs slot c.args.until (n % 256) u
    (λ w there. let same : Some c.index.result.now ≡ Some w = sym here ∙ there in let is : c.index.result.now ≡ w = cc in omega (arith, is, less)) least

pub returns-then-index-until-clause-new : goal.returns-then-index-until-clause-new
returns-then-index-until-clause-new c =
    let xs = c.args.untils.now.items in
    (c.args.until, set_here xs (c.args.number % 256) c.args.until (omega (arith, c.requires)), omega arith)

pub returns-else-index-until-clause-new : goal.returns-else-index-until-clause-new
returns-else-index-until-clause-new c =
    let xs = c.args.untils.now.items in
    let slot = c.args.number % 256 in
    let within : slot < length xs = omega (arith, c.requires) in
    let here : slice_get xs slot ≡ Some c.index.result.now = slice_get_read xs (length xs) slot c.index.result.now refl within (search rules) in
    let least : c.args.until ≤ c.index.result.now = search rules in
    (c.index.result.now, here, least)

use Rattle.std.proofs.Common.{◌≡◌, ◌∷◌, ◌++◌, [], ◌∙◌, length, refl, sym, string_bytes, subst, arith}
use Rattle.std.specs.Prelude.{slice_get, slice_set, Some, if◌then◌else◌}
use Rattle.std.proofs.lemmas.Option.{slice_get_read}
use Rattle.rewrites.specs.Expression.{tuple_to}
use Rattle.rewrites.specs.Joints.{JoinAlike}
use Rattle.rewrites.specs.Parts.{each_shown, throughs_shown}
use Rattle.rewrites.specs.declared.plain.Joint.TheVariants.{Union}
use Rattle.rewrites.proofs.PartLemmas.{through_more, through_set, through_same}
use Rattle.rewrites.proofs.parts.Throughs.put.Goals.{After-read_more}
use Rattle.rewrites.proofs.parts.Throughs.put.Goals as goal

-- what stands at the place before it is read
here : (c : After-read_more) → slice_get c.args.self.now.each.items c.unwrap_or-place.result ≡ Some
    c.index_mut.result.now
here c =
    let each = c.args.self.now.each in
    slice_get_read each.items (length each.items) c.unwrap_or-place.result c.index_mut.result.now refl
    (omega (arith, c.if-place-len.true, c.len-2.ensures, each.ok.0)) c.index_mut.ensures.value

pub returns-then-is_of-clause-put : goal.returns-then-is_of-clause-put
returns-then-is_of-clause-put c = λ is_read.
    let each = c.args.self.now.each in
    let place = c.unwrap_or-place.result in
    let old = c.index_mut.result.now in
    let there = here (goal.at.returns-then-is_of-clause-put c).After-read_more in
    let looked : slice_get each.items place ≡ Some c.index.result.now = slice_get_read each.items (length each.items) place c.index.result.now refl (omega (arith, c.if-place-len.true, c.len-2.ensures, each.ok.0)) c.index.ensures in
    let one : c.index.result.now ≡ old = (let both = sym looked ∙ there in cc) in
    let name : string_bytes old.tupleset ≡ string_bytes c.args.tupleset.now = rw (← one) (c.is_of.ensures c.if-is_of.true) in
    let told : each_shown c.read_more.new.self ≡ (if c.in_ok-is_read.is_read
    then each_shown old ++ tuple_to (string_bytes old.tupleset) (string_bytes c.args.computed.now) ∷ [] else each_shown old) = c.in_ok-is_read.ensures.more in
    let new = slice_set each.items place c.read_more.new.self in
    subst (λ tupleset. JoinAlike Union (throughs_shown new) (throughs_shown each.items ++ tuple_to tupleset (string_bytes c.args.computed.now) ∷ [])) name
    (through_set each.items place c.read_more.new.self old
    (tuple_to (string_bytes old.tupleset) (string_bytes c.args.computed.now)) there (rw is_read at told))

pub returns-then-is_of-clause-same : goal.returns-then-is_of-clause-same
returns-then-is_of-clause-same c = λ is_read.
    through_same c.args.self.now.each.items c.unwrap_or-place.result c.read_more.new.self c.index_mut.result.now
    (here (goal.at.returns-then-is_of-clause-same c).After-read_more) (rw is_read at c.in_ok-is_read.ensures.more)

pub returns-clause-put : goal.returns-clause-put
returns-clause-put c = λ put.
    let items : c.push.new.self.items ≡ c.args.self.now.each.items ++ c.in_ok-through.through ∷ [] = c.in_ok-push.ensures.items in
    rw items
    (through_more c.args.self.now.each.items c.in_ok-through.through
    (tuple_to (string_bytes c.args.tupleset.now) (string_bytes c.args.computed.now)) c.in_ok-through.ensures)

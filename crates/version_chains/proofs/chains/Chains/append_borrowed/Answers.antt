use Rattle.std.proofs.Common.{rules, ◌≡◌, ◌∙◌, ◌++◌, ◌∷◌, [], ◌<◌, ◌≤◌, ◌-◌, ap, sym, subst, inr, List, None, Some, length, nat_eq}
use Rattle.std.proofs.lemmas.List.{length-map}
use Rattle.tuple_text.specs.TupleRefs.{tuple_value, tuple_values}
use Rattle.version_chains.specs.Appends.{last_at, late_fault, repeat_from}
use Rattle.version_chains.specs.Arena.{AreNumbersOf, AreUpTo}
use Rattle.version_chains.specs.Commits.{Touch, touches}
use Rattle.version_chains.specs.Given.{commits_of}
use Rattle.version_chains.proofs.AppendLemmas.{up_to, twice_refused, full_refused, accepted, view_more, sound_more}
use Rattle.version_chains.proofs.chains.Chains.append_borrowed.Goals.{After-push_commit}
use Rattle.version_chains.proofs.chains.Chains.append_borrowed.Goals as goal

pub returns-in-Some-2-clause-refused : goal.returns-in-Some-2-clause-refused
returns-in-Some-2-clause-refused c =
    let late : late_fault (last_at c.args.self.now.commits) c.args.at ≡ None = search rules in
    let twice : repeat_from nat_eq [] 0 c.in_ok-numbers.numbers.items ≡ Some c.in-Some-2.place = search rules in
    let apart = c.len.ensures.apart in
    inr (twice_refused c.args.self.now c.self.inside.times.items c.self.inside.arena.touches c.self.inside.limit c.args.at (tuple_values c.args.adds.now) (tuple_values c.args.removes.now) c.self.view_is c.self.invariant late
    c.numbers_of.new.arena.tuples apart c.in_ok-numbers.numbers.items c.in_ok-numbers.ensures.numbers c.in-Some-2.place twice)

pub returns-then-len-room-clause-refused : goal.returns-then-len-room-clause-refused
returns-then-len-room-clause-refused c =
    let late : late_fault (last_at c.args.self.now.commits) c.args.at ≡ None = search rules in
    let once : repeat_from nat_eq [] 0 c.in_ok-numbers.numbers.items ≡ None = search rules in
    let full : c.self.inside.limit - length c.self.inside.arena.touches < length c.in_ok-numbers.numbers.items = search rules in
    inr (full_refused c.args.self.now c.self.inside.times.items c.self.inside.arena.touches c.self.inside.limit c.args.at (tuple_values c.args.adds.now) (tuple_values c.args.removes.now) c.self.view_is c.self.invariant late
    c.numbers_of.new.arena.tuples c.len.ensures.apart c.in_ok-numbers.numbers.items c.in_ok-numbers.ensures.numbers once full)

pub returns-clause-ok : goal.returns-clause-ok
returns-clause-ok c =
    let late : late_fault (last_at c.args.self.now.commits) c.args.at ≡ None = search rules in
    let once : repeat_from nat_eq [] 0 c.in_ok-numbers.numbers.items ≡ None = search rules in
    let room : length c.in_ok-numbers.numbers.items ≤ c.self.inside.limit - length c.self.inside.arena.touches = search rules in
    accepted c.args.self.now c.self.inside.times.items c.self.inside.arena.touches c.self.inside.limit c.args.at (tuple_values c.args.adds.now) (tuple_values c.args.removes.now) c.self.view_is c.self.invariant late
    c.numbers_of.new.arena.tuples c.len.ensures.apart c.in_ok-numbers.numbers.items c.in_ok-numbers.ensures.numbers once room

-- the touches of the commit stand behind the others
pushed_of : (c : After-push_commit) → c.push_commit.new.arena.touches
    ≡ c.self.inside.arena.touches ++ touches
    (record { at = c.args.at; adds = tuple_values c.args.adds.now; removes = tuple_values c.args.removes.now })
pushed_of c =
    let adds = tuple_values c.args.adds.now in
    let removes = tuple_values c.args.removes.now in
    let numbers : c.as_slice-2.result.now ≡ c.in_ok-numbers.numbers.items = search rules in
    let are : AreNumbersOf c.reserve-2.new.self.tuples c.as_slice-2.result.now (adds ++ removes) = rw
    (c.reserve-2.ensures.tuples, numbers) c.in_ok-numbers.ensures.numbers in
    c.push_commit.ensures adds removes (length-map c.args.adds.now tuple_value) are
    ∙ ap (λ (xs : List Touch). xs ++ touches (record { at = c.args.at; adds = adds; removes = removes }))
    (c.reserve-2.ensures.touches ∙ c.numbers_of.ensures.touches)

pub returns-clause-appends : goal.returns-clause-appends
returns-clause-appends c =
    let late : late_fault (last_at c.args.self.now.commits) c.args.at ≡ None = search rules in
    let once : repeat_from nat_eq [] 0 c.in_ok-numbers.numbers.items ≡ None = search rules in
    let room : length c.in_ok-numbers.numbers.items ≤ c.self.inside.limit - length c.self.inside.arena.touches = search rules in
    let times : c.push_reserved.new.self.items ≡ c.self.inside.times.items ++ c.args.at ∷ [] = search rules in
    let pushed = pushed_of (goal.at.returns-clause-appends c).After-push_commit in
    (λ i. record { limit = c.self.inside.limit; commits = commits_of (times i) (pushed i) })
    ∙ view_more c.args.self.now c.self.inside.times.items c.self.inside.arena.touches c.self.inside.limit c.args.at (tuple_values c.args.adds.now) (tuple_values c.args.removes.now) c.self.view_is c.self.invariant late
    c.numbers_of.new.arena.tuples c.len.ensures.apart c.in_ok-numbers.numbers.items c.in_ok-numbers.ensures.numbers once room

pub invariant_of-self-2 : goal.invariant_of-self-2
invariant_of-self-2 c =
    let late : late_fault (last_at c.args.self.now.commits) c.args.at ≡ None = search rules in
    let once : repeat_from nat_eq [] 0 c.in_ok-numbers.numbers.items ≡ None = search rules in
    let room : length c.in_ok-numbers.numbers.items ≤ c.self.inside.limit - length c.self.inside.arena.touches = search rules in
    let times : c.push_reserved.new.self.items ≡ c.self.inside.times.items ++ c.args.at ∷ [] = search rules in
    let pushed = pushed_of (goal.at.invariant_of-self-2 c).After-push_commit in
    rw (times, pushed)
    (sound_more c.args.self.now c.self.inside.times.items c.self.inside.arena.touches c.self.inside.limit c.args.at (tuple_values c.args.adds.now) (tuple_values c.args.removes.now) c.self.view_is c.self.invariant late
    c.numbers_of.new.arena.tuples c.len.ensures.apart c.in_ok-numbers.numbers.items c.in_ok-numbers.ensures.numbers once room)

pub push_commit-requires-clause-late : goal.push_commit-requires-clause-late
push_commit-requires-clause-late c =
    let late : late_fault (last_at c.args.self.now.commits) c.args.at ≡ None = search rules in
    subst (AreUpTo c.args.at) (sym (c.reserve-2.ensures.touches ∙ c.numbers_of.ensures.touches))
    (up_to c.args.self.now c.self.inside.times.items c.self.inside.arena.touches c.self.inside.limit c.args.at (tuple_values c.args.adds.now) (tuple_values c.args.removes.now) c.self.view_is c.self.invariant late
    c.numbers_of.new.arena.tuples c.len.ensures.apart c.in_ok-numbers.numbers.items c.in_ok-numbers.ensures.numbers)

use Rattle.std.proofs.Common.{◌≡◌, ℕ, List, map, get_or, refl, ◌∙◌, ap, subst, arith}
use Rattle.std.proofs.lemmas.Option.{get_or_from_slice_get}
use Rattle.version_chains.specs.Commits.{Commit}
use Rattle.follow_laws.specs.Told.{is_at}
use Rattle.monitor.specs.Standing.{line_of}
use Rattle.monitor.specs.Telling.{Tells}
use Rattle.monitor.specs.Waiting.{AreDue}
use Rattle.monitor.proofs.StandingLemmas.{due_before, silent_undue, stands_behind_commit}
use Rattle.monitor.proofs.TellingLemmas.{from_rising, told_each}
use Rattle.monitor.proofs.monitor.Monitor.take_commit.Goals as goal

pub tell_each-requires-clause-due : goal.tell_each-requires-clause-due
tell_each-requires-clause-due g c =
    let t = c.args.trace.now in
    let m = c.args.self.now in
    let times = c.commits.ensures.times ∙ ap (λ (xs : List Commit). map (λ (x : Commit). x.at) xs) c.chains.ensures in
    let here = ap (λ (xs : List ℕ). get_or xs m.commits 0) times in
    let are = subst (λ (at : ℕ). AreDue at m.fresh m.entries m.waiting.keys c.due.new.waiting.keys c.in_ok-due.due.keys) here c.in_ok-due.ensures in
    (c.requires.next.there, due_before t c.stand_in_order.ensures c.entries_rise.ensures m c.requires.stands c.requires.next c.due.new.waiting.keys c.in_ok-due.due.keys are)

pub returns-clause-stands : goal.returns-clause-stands
returns-clause-stands g c =
    let t = c.args.trace.now in
    let m = c.args.self.now in
    let times = c.commits.ensures.times ∙ ap (λ (xs : List Commit). map (λ (x : Commit). x.at) xs) c.chains.ensures in
    let here = ap (λ (xs : List ℕ). get_or xs m.commits 0) times in
    let are = subst (λ (at : ℕ). AreDue at m.fresh m.entries m.waiting.keys c.due.new.waiting.keys c.in_ok-due.due.keys) here c.in_ok-due.ensures in
    stands_behind_commit t c.stand_in_order.ensures c.entries_rise.ensures m c.requires.stands c.requires.next c.due.new.waiting.keys c.in_ok-due.due.keys
    are _ refl refl refl refl

pub returns-clause-told : goal.returns-clause-told
returns-clause-told g c =
    let t = c.args.trace.now in
    let m = c.args.self.now in
    let times = c.commits.ensures.times ∙ ap (λ (xs : List Commit). map (λ (x : Commit). x.at) xs) c.chains.ensures in
    let here = ap (λ (xs : List ℕ). get_or xs m.commits 0) times in
    let are = subst (λ (at : ℕ). AreDue at m.fresh m.entries m.waiting.keys c.due.new.waiting.keys c.in_ok-due.due.keys) here c.in_ok-due.ensures in
    let line : line_of t m.commits ≡ c.commit_line.result = get_or_from_slice_get t.commit_lines m.commits c.commit_line.result 0 c.commit_line.ensures.line in
    subst (λ (k : ℕ). Tells g.J.Judge.allows t k c.args.told.now.items c.tell_each.new.told.items) line
    (told_each g.J.Judge.allows t (is_at (line_of t m.commits)) c.in_ok-due.due.keys c.args.told.now.items c.tell_each.new.told.items
    (from_rising 0 c.in_ok-due.due.keys (omega arith) are.rising) c.in_ok-tell_each.ensures.told
    (silent_undue t c.stand_in_order.ensures c.entries_rise.ensures m c.requires.stands c.requires.next c.due.new.waiting.keys c.in_ok-due.due.keys are))

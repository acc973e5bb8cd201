use Rattle.std.proofs.Common.{◌≡◌, ◌+◌, ◌≤◌, ℕ, List, true, ◌∙◌, sym, ap, subst}
use Rattle.tuple_text.specs.Tuples.{TupleValue}
use Rattle.version_chains.specs.Commits.{Commit, changelog, is_stored}
use Rattle.carry_laws.specs.Carried.{StandsIn}
use Rattle.runs.specs.Alike.{touches_above}
use Rattle.runs.proofs.StandingLemmas.{AreAlikeFrom, stands_in_there}
use Rattle.runs.proofs.standing.stands_in_from.Goals as goal

-- what is stored of commits is stored of those that are the same
same_stored : (at : ℕ) (us vs cs ds : List Commit) → us ≡ cs → vs ≡ ds
    → ((s : TupleValue) → is_stored us at s ≡ true → is_stored vs at s ≡ true)
    → (s : TupleValue) → is_stored cs at s ≡ true → is_stored ds at s ≡ true
same_stored at us vs cs ds one other h s stored =
    subst (λ (xs : List Commit). is_stored xs at s ≡ true) other
    (h s (subst (λ (xs : List Commit). is_stored xs at s ≡ true) (sym one) stored))

pub returns : goal.returns
returns c =
    let log = c.args.log.now in
    let other = c.args.other.now in
    let known = c.args.known in
    let base = known.base in
    let line = c.in_ok-line.line in
    let next : c.in_ok-first.first ≡ line + 1 = c.in_ok-first.ensures.1 in
    let alike : AreAlikeFrom known line log other = record {
      at_base = c.in_ok-line.ensures;
      front = c.in_ok-front.front;
      front_at_base = c.in_ok-front.ensures;
      in_front = c.if-line-front.false;
      stored = same_stored base c.chains.result.now.commits c.chains-else-line-front.result.now.commits log.commits
          other.commits c.chains.ensures c.chains-else-line-front.ensures (c.are_all_stored.ensures c.if-not-are_all_stored.false);
      no_more = same_stored base c.chains-else-not-are_all_stored.result.now.commits
          c.chains-else-not-are_all_stored-2.result.now.commits other.commits log.commits
          c.chains-else-not-are_all_stored.ensures c.chains-else-not-are_all_stored-2.ensures
          (c.are_all_stored-else-not-are_all_stored.ensures c.if-not-are_all_stored-2.false);
      touched =
          sym (ap (λ (cs : List Commit). touches_above base (changelog cs)) c.chains-else-not-are_all_stored-2-2.ensures)
          ∙ c.are_touches_alike.ensures c.if-not-are_touches_alike.false
          ∙ ap (λ (cs : List Commit). touches_above base (changelog cs)) c.chains-else-not-are_all_stored-2-3.ensures;
      on_lines = c.are_lines_alike.ensures c.if-not-are_lines_alike.false;
      entries = c.are_entries_alike.ensures c.if-not-are_entries_alike.false;
      open_behind = λ i e at opens.
          subst (λ (n : ℕ). n ≤ e.line) next (c.are_open_from.ensures c.if-not-are_open_from.false i e at opens);
    } in
    subst (λ (n : ℕ). StandsIn known n log other) (sym next)
    (stands_in_there known line log other c.stand_in_order.ensures.commits c.stand_in_order-2.ensures.commits alike c.requires)

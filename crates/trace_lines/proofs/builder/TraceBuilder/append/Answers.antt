use Rattle.std.proofs.Common.{◌≡◌, ℕ, ◌-◌, ◌^◌, None, ◌≤◌, ◌∷◌, ◌++◌, [], arith, sym, subst}
use Rattle.tuple_text.specs.TupleRefs.{tuple_values}
use Rattle.version_chains.specs.Appends.{append_fault}
use Rattle.version_chains.specs.Commits.{Commit}
use Rattle.trace_lines.specs.Values.{TraceValue, next_line}
use Rattle.trace_lines.proofs.Keeping.{kept_commit}
use Rattle.trace_lines.proofs.Orderly.{commit_ok, orderly_commit, sample_unbroken}
use Rattle.trace_lines.proofs.builder.TraceBuilder.append.Goals as goal

pub commit-requires : goal.commit-requires
commit-requires c = record { unbroken = sample_unbroken c.self.inside.rules c.self.inside.chains.commits c.self.inside.sample c.self.invariant.2; index = c.self.invariant.3 }

pub invariant_of-self-2 : goal.invariant_of-self-2
invariant_of-self-2 c =
    let room = subst (λ (t : TraceValue). next_line t ≤ c.args.line) (sym c.self.view_is) c.requires in
    let commit : Commit = record { at = c.args.at; adds = tuple_values c.args.adds.now; removes = tuple_values c.args.removes.now } in
    let lines : c.push_reserved.new.self.items ≡ c.self.inside.commit_lines.items ++ c.args.line ∷ [] = rw c.in_ok-reserve.ensures.items at c.push_reserved.ensures.items in
    let fine = commit_ok c.self.inside.rules c.self.inside.chains commit c.in-Ok.ensures.answer in
    let accepted : append_fault (record { limit = 2 ^ 32 - 1; commits = c.self.inside.chains.commits }) commit.at commit.adds commit.removes ≡ None =
    subst (λ (n : ℕ). append_fault (record { limit = n; commits = c.self.inside.chains.commits }) commit.at commit.adds commit.removes ≡ None) c.self.invariant.0 fine.1 in
    rw (c.in-Ok.ensures.appended, lines) (
      c.self.invariant.0,
      kept_commit _ _ _ _ c.self.invariant.1 commit c.args.line (omega (arith, room)) (omega (arith, room)),
      orderly_commit c.self.inside.rules c.self.inside.chains.commits c.self.inside.sample c.commit.new.sample c.self.invariant.2 commit fine.0 accepted c.in-Ok.ensures.taken,
      c.in-Ok.ensures.index,
      c.self.invariant.4,
    )

pub invariant_of-self : goal.invariant_of-self
invariant_of-self c = rw c.in_err-reserve.ensures.items c.self.invariant

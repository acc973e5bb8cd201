use Rattle.std.proofs.Common.{◌≡◌, ◌∙◌, ◌-◌, ◌<◌, ◌++◌, ℕ, List, [], Vec, Global, length, take, drop, ap, arith, subst, sym}
use Rattle.std.specs.Prelude.{All}
use Rattle.std.specs.List.{flat_map}
use Rattle.findings.specs.Report.{last_lines, line_text}
use Rattle.findings.specs.declared.finding.Finding.{Finding}
use Rattle.monitor.specs.Telling.{TellsLeft}
use Rattle.monitor.proofs.PastLemmas.{behind_left}
use Rattle.audit.specs.Made.{IsMade}
use Rattle.carry_laws.specs.Asked.{asked}
use Rattle.carry_laws.specs.declared.known.Known.{Known}
use Rattle.follow.proofs.FollowerLemmas.{cut_behind}
use Rattle.follow.proofs.follower.Follower.tell_end.Goals as goal

pub returns : goal.returns
returns c =
    let t = c.args.trace.now in
    let f = c.args.self.now in
    let placed = c.stand_in_order.ensures in
    let rising = c.entries_rise.ensures in
    let rest = c.end.new.told.items in
    let left : TellsLeft IsMade t [] rest =
    subst (λ (fs : List Finding). TellsLeft IsMade t fs rest) c.new-found.ensures.items c.in_ok-end.ensures.told in
    let told : c.push_asked.new.told.items ≡ f.told.items ++ asked f.known t rest =
    c.in_ok-push_asked.ensures
    ∙ ap (λ (v : Vec Finding Global). v.items ++ asked c.judge-judge.new.self.known t c.deref.result.now) c.judge-judge.ensures.same.1
    ∙ ap (λ (b : Known). f.told.items ++ asked b t c.deref.result.now) c.judge-judge.ensures.from.1
    ∙ ap (λ (fs : List Finding). f.told.items ++ asked f.known t fs) c.deref.ensures.value in
    record {
      text = record {
        rest = rest;
        behind = told;
        left = left;
        placed = placed;
        good = record {
          rising = record { commits = placed.commits; entries = rising };
          formed = record { lines = rising; versions = c.versions_issued_once.ensures; strata = c.valid_strata.ensures };
        };
        silent = λ n past. subst (All (λ (x : Finding). n < x.line)) (sym left.2)
            (behind_left t placed rising f.monitor c.requires.followed.stands n past left.0);
        is = c.in_ok-push_last_lines.ensures
            ∙ ap (λ (l : List ℕ). l ++ last_lines c.deref-3.result.now c.len.result) (c.in_ok-push_lines.ensures
            ∙ ap (λ (l : List ℕ). l ++ flat_map line_text (take (length c.deref-2.result.now - c.len-before.result)
            (drop c.len-before.result c.deref-2.result.now))) c.new-text.ensures.bytes
            ∙ ap (λ (fs : List Finding). flat_map line_text fs) (cut_behind f.told.items (asked f.known t rest) c.deref-2.result.now
            c.len-before.result (c.deref-2.ensures.value ∙ told) (omega (arith, c.len-before.ensures, f.told.ok.0))))
            ∙ ap (λ (fs : List Finding). flat_map line_text (asked f.known t rest) ++ last_lines fs c.len.result) c.deref-3.ensures.value
            ∙ ap (λ (n : ℕ). flat_map line_text (asked f.known t rest) ++ last_lines c.push_asked.new.told.items n) c.len.ensures.count;
      };
    }

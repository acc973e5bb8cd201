use Rattle.std.proofs.Common.{◌≡◌, ◌∙◌, ◌-◌, ◌<◌, ◌++◌, ℕ, List, [], Vec, Global, length, take, drop, ap, arith, subst, sym}
use Rattle.std.specs.Prelude.{All, IfSome}
use Rattle.std.specs.List.{flat_map}
use Rattle.findings.specs.Report.{line_text}
use Rattle.findings.specs.declared.finding.Finding.{Finding}
use Rattle.monitor.specs.SoFar.{TellsMore}
use Rattle.monitor.specs.Standing.{IsAtEnd}
use Rattle.monitor.specs.declared.monitor.Monitor.{Monitor}
use Rattle.audit.specs.Made.{IsMade}
use Rattle.carry_laws.specs.declared.known.Known.{Known}
use Rattle.follow.specs.Heartbeats.{Beats}
use Rattle.follow.specs.Pieces.{beat_text}
use Rattle.carry_laws.specs.Asked.{asked}
use Rattle.carry_laws.proofs.AskLemmas.{asked_still}
use Rattle.follow.proofs.FollowerLemmas.{cut_behind, further_followed}
use Rattle.follow.proofs.follower.Follower.tell.Goals as goal

pub heartbeat-requires-clause-followed : goal.heartbeat-requires-clause-followed
heartbeat-requires-clause-followed c =
    let t = c.args.trace.now in
    let f = c.args.self.now in
    let found = c.tell_further.new.told.items in
    let more : TellsMore IsMade t f.monitor c.tell_further.new.monitor [] found =
    subst (λ (fs : List Finding). TellsMore IsMade t f.monitor c.tell_further.new.monitor fs found) c.new-found.ensures.items
    (subst (λ (m : Monitor). TellsMore IsMade t m c.tell_further.new.monitor c.new-found.result.items found)
    c.judge-judge.ensures.same.0 c.in_ok-tell_further.ensures.told) in
    further_followed t f _ c.requires found more c.in_ok-tell_further.ensures.stands c.judge-judge.ensures.from
    c.judge-judge.ensures.same.2
    (c.in_ok-push_asked.ensures
    ∙ ap (λ (v : Vec Finding Global). v.items ++ asked c.judge-judge.new.self.known t c.deref.result.now) c.judge-judge.ensures.same.1
    ∙ ap (λ (b : Known). f.told.items ++ asked b t c.deref.result.now) c.judge-judge.ensures.from.1
    ∙ ap (λ (fs : List Finding). f.told.items ++ asked f.known t fs) c.deref.ensures.value)

pub returns : goal.returns
returns c =
    let t = c.args.trace.now in
    let f = c.args.self.now in
    let found = c.tell_further.new.told.items in
    let more : TellsMore IsMade t f.monitor c.tell_further.new.monitor [] found =
    subst (λ (fs : List Finding). TellsMore IsMade t f.monitor c.tell_further.new.monitor fs found) c.new-found.ensures.items
    (subst (λ (m : Monitor). TellsMore IsMade t m c.tell_further.new.monitor c.new-found.result.items found)
    c.judge-judge.ensures.same.0 c.in_ok-tell_further.ensures.told) in
    let told : c.push_asked.new.told.items ≡ f.told.items ++ asked f.known t found =
    c.in_ok-push_asked.ensures
    ∙ ap (λ (v : Vec Finding Global). v.items ++ asked c.judge-judge.new.self.known t c.deref.result.now) c.judge-judge.ensures.same.1
    ∙ ap (λ (b : Known). f.told.items ++ asked b t c.deref.result.now) c.judge-judge.ensures.from.1
    ∙ ap (λ (fs : List Finding). f.told.items ++ asked f.known t fs) c.deref.ensures.value in
    let same = c.heartbeat.ensures.same in
    let now : c.heartbeat.new.self.told.items ≡ c.push_asked.new.told.items = ap (λ (v : Vec Finding Global). v.items) same.1 in
    let placed = c.stand_in_order.ensures in
    let rising = c.entries_rise.ensures in
    record {
      piece = record { told = asked f.known t found; heartbeat = c.heartbeat.result };
      behind = now ∙ told;
      silent = λ n past. asked_still (λ (x : Finding). n < x.line) f.known t found
          (subst (All (λ (x : Finding). n < x.line)) (sym more.behind) (more.silent n past));
      beats = subst (λ (fs : List Finding). IfSome c.heartbeat.result (Beats t fs c.args.line)) (sym now) c.heartbeat.ensures.beats;
      is = c.in_ok-push_heartbeat.ensures ∙ ap (λ (l : List ℕ). l ++ beat_text c.heartbeat.result) (c.in_ok-push_lines.ensures
          ∙ ap (λ (l : List ℕ). l ++ flat_map line_text (take (length c.deref-2.result.now - c.len-before.result)
          (drop c.len-before.result c.deref-2.result.now))) c.new-text.ensures.bytes
          ∙ ap (λ (fs : List Finding). flat_map line_text fs) (cut_behind f.told.items (asked f.known t found) c.deref-2.result.now
          c.len-before.result (c.deref-2.ensures.value ∙ told) (omega (arith, c.len-before.ensures, f.told.ok.0))));
      followed = c.heartbeat.ensures.followed;
      all = subst (IsAtEnd t) (sym same.0) c.in_ok-tell_further.ensures.all;
      placed = placed;
      good = record {
        rising = record { commits = placed.commits; entries = rising };
        formed = record { lines = rising; versions = c.versions_issued_once.ensures; strata = c.valid_strata.ensures };
      };
      same = (c.heartbeat.ensures.from.0 ∙ c.judge-judge.ensures.from.0, c.heartbeat.ensures.from.1 ∙ c.judge-judge.ensures.from.1);
    }

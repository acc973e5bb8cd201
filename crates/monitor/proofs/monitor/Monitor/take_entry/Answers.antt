use Rattle.std.proofs.Common.{ℕ, inl, inr, List, refl, sym, ◌∙◌, ap, subst}
use Rattle.std.specs.Prelude.{Contains}
use Rattle.std.proofs.lemmas.Option.{same_Some}
use Rattle.trace_lines.specs.EntryViews.{entry_value}
use Rattle.follow_laws.specs.Told.{is_at}
use Rattle.monitor.specs.Standing.{IsEntryNext}
use Rattle.monitor.specs.declared.monitor.Monitor.{Monitor}
use Rattle.monitor.proofs.StandingLemmas.{silent_beside, stands_behind_entry}
use Rattle.monitor.proofs.TellingLemmas.{told_one}
use Rattle.monitor.proofs.WaitingLemmas.{exact_keys, inserted_kept, inserted_only, inserted_there, key_cmp}
use Rattle.monitor.proofs.monitor.Monitor.take_entry.Goals.{then-not-reached+in_ok-insert, else-not-reached}
use Rattle.monitor.proofs.monitor.Monitor.take_entry.Goals as goal

pub returns-clause-stands : goal.returns-clause-stands
returns-clause-stands g c =
    let t = c.args.trace.now in
    let m = c.args.self.now in
    let e = entry_value c.entry-entry.result in
    let at = c.entry-entry.ensures.value in
    let required = c.requires.next in
    let next : IsEntryNext t m e = subst (IsEntryNext t m) (same_Some required.0 e (sym required.1.there ∙ at)) required.1 in
    let behind = stands_behind_entry t c.stand_in_order.ensures c.entries_rise.ensures m c.requires.stands e next in
    elim c.if-not-reached.branch [
      | then-not-reached+in_ok-insert w ↦
          let key : ℕ × ℕ = (e.snapshot, m.entries) in
          let keys = ap (λ (s : Monitor). s.waiting.keys) w.self-is ∙ w.in_ok-insert.ensures.keys in
          let unreached = c.is_reached-reached.ensures.no w.if-not-reached.true in
          behind _ refl (ap (λ (s : Monitor). s.commits) w.self-is) (ap (λ (s : Monitor). s.fresh) w.self-is)
          (λ q h. subst (λ (ks : List (ℕ × ℕ)). Contains ks q) (sym keys) (inserted_kept key_cmp exact_keys key m.waiting.keys q h))
          (λ q h. elim (inserted_only key_cmp exact_keys key m.waiting.keys q (subst (λ (ks : List (ℕ × ℕ)). Contains ks q) keys h)) [
            | inl same ↦ inr (same, unreached)
            | inr before ↦ inl before
          ])
          (λ h. subst (λ (ks : List (ℕ × ℕ)). Contains ks key) (sym keys) (inserted_there key_cmp exact_keys key m.waiting.keys))
      | else-not-reached w ↦
          let keys = ap (λ (s : Monitor). s.waiting.keys) w.self-is in
          let reached = c.is_reached-reached.ensures.yes w.if-not-reached.false in
          behind _ refl (ap (λ (s : Monitor). s.commits) w.self-is) (ap (λ (s : Monitor). s.fresh) w.self-is)
          (λ q h. subst (λ (ks : List (ℕ × ℕ)). Contains ks q) (sym keys) h)
          (λ q h. inl (subst (λ (ks : List (ℕ × ℕ)). Contains ks q) keys h))
          (λ h. absurd (h reached))
    ]

pub returns-clause-told : goal.returns-clause-told
returns-clause-told g c =
    let t = c.args.trace.now in
    let i = c.args.self.now.entries in
    let e = entry_value c.entry-entry.result in
    let at = c.entry-entry.ensures.value in
    told_one g.J.Judge.allows t (is_at e.line) i e c.args.told.now.items c.tell_at_once.new.told.items at (c.in_ok-tell_at_once.ensures.told e at)
    (silent_beside t c.stand_in_order.ensures c.entries_rise.ensures i e at)

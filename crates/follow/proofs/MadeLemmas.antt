-- What is made for a settled entry of a log so far is made for it in each longer log.
use Rattle.std.proofs.Common.{◌≡◌, ℕ, inl, inr, List, [], ◌∷◌, Option, None, Some, sym, ◌∙◌, subst}
use Rattle.std.specs.Prelude.{slice_get}
use Rattle.tuple_text.specs.Tuples.{TupleValue}
use Rattle.namespaces.specs.Lookup.{Lookup, rule_at}
use Rattle.version_chains.specs.Commits.{store_at}
use Rattle.trace_lines.specs.Values.{EntryValue, TraceValue}
use Rattle.evidence_check.specs.Accepted.{nothing_known, AreAccepted, IsAccepted}
use Rattle.evidence_check.specs.Steps.{StepValue, yes_step, no_step}
use Rattle.evidence_check.specs.declared.records.TheConstants.{MAX_FACTS}
use Rattle.judgement.specs.Judgement.{IsUndeclared}
use Rattle.goal_cone.specs.Bounds.{IsOutgrown}
use Rattle.goal_cone.specs.Cone.{IsNeeded}
use Rattle.goal_cone.specs.declared.premises.TheConstants.{MAX_LINKS}
use Rattle.evidence_maker.specs.Made.{IsOneStep, IsTooLong, Settles}
use Rattle.windows.specs.Growth.{IsSettled}
use Rattle.windows.proofs.SettledLemmas.{same_judgement, same_rules_then, same_store_then}
use Rattle.audit.specs.Made.{IsDecided, IsMade}
use Rattle.follow_laws.specs.Begun.{Begins}

module _ {k : ℕ} (t u : TraceValue) (b : Begins k t u) (i : ℕ) (e : EntryValue) (at : slice_get t.entries i ≡ Some e)
    (settled : IsSettled t e) where
  rules : rule_at u.declarations e.snapshot ≡ rule_at t.declarations e.snapshot
  rules = same_rules_then t u b.goes b.first.rising b.whole.rising i e at settled

  store : store_at u.commits e.snapshot ≡ store_at t.commits e.snapshot
  store = same_store_then t u b.goes b.first.rising b.whole.rising i e at settled

  forth : (P : Lookup → List TupleValue → Type 0) → P (rule_at t.declarations e.snapshot) (store_at t.commits e.snapshot)
      → P (rule_at u.declarations e.snapshot) (store_at u.commits e.snapshot)
  forth P h = subst (λ (r : Lookup). P r (store_at u.commits e.snapshot)) (sym rules)
      (subst (λ (s : List TupleValue). P (rule_at t.declarations e.snapshot) s) (sym store) h)

  back : (P : Lookup → List TupleValue → Type 0) → P (rule_at u.declarations e.snapshot) (store_at u.commits e.snapshot)
      → P (rule_at t.declarations e.snapshot) (store_at t.commits e.snapshot)
  back P h = subst (λ (r : Lookup). P r (store_at t.commits e.snapshot)) rules
      (subst (λ (s : List TupleValue). P (rule_at u.declarations e.snapshot) s) store h)

  settles_still : (steps : List StepValue) → Settles t e steps → Settles u e steps
  settles_still steps h = record {
    accepted = forth (λ r s. AreAccepted r s nothing_known steps) h.accepted;
    known = h.known;
  }

  long_still : IsTooLong t e → IsTooLong u e
  long_still h = record {
    steps = h.steps;
    settles = settles_still h.steps h.settles;
    whole = λ f declared needed. h.whole f
        (λ none. declared (forth (λ r s. IsUndeclared r f.set) none))
        (back (λ r s. IsNeeded r s e.goal f) needed);
    needed = λ f there. forth (λ r s. IsNeeded r s e.goal f) (h.needed f there);
    distinct = h.distinct;
    filled = h.filled;
    long = h.long;
  }

  more_still : (IsOneStep t e → ⊥) → IsOneStep u e → ⊥
  more_still more (inl holds) = more (inl (back (λ r s. IsAccepted r s nothing_known (yes_step e.goal)) holds))
  more_still more (inr fails) = more (inr (back (λ r s. IsAccepted r s nothing_known (no_step (e.goal ∷ []))) fails))

  decided_still : (steps : List StepValue) → IsDecided t e steps → IsDecided u e steps
  decided_still steps (inl supported) =
      inl (same_judgement t u b.goes b.first.rising b.whole.rising i e at settled (Some steps) ∙ supported)
  decided_still steps (inr contradicted) =
      inr (same_judgement t u b.goes b.first.rising b.whole.rising i e at settled (Some steps) ∙ contradicted)

  pub made_still : (steps : Option (List StepValue)) → IsMade t e steps → IsMade u e steps
  made_still (Some steps) h =
      record { decided = decided_still steps h.decided; facts = h.facts; bytes = h.bytes }
  made_still None (more, inl outgrown) =
      (more_still more, inl (forth (λ r s. IsOutgrown MAX_FACTS MAX_LINKS r s e.goal) outgrown))
  made_still None (more, inr long) = (more_still more, inr (long_still long))
